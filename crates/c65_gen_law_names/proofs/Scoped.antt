-- A well typed function in scope names only items that have known symbols, or homes in its frame.
use Rattle.std.proofs.Common.{◌≡◌, ℕ, ◌==◌, ◌||◌, Bool, true, false, Some, List, [], ◌∷◌, ◌++◌, slice_get, refl, sym, ap, ◌∙◌}
use Rattle.std.specs.Prelude.{if◌then◌else◌}
use Rattle.c65_ctype.specs.Trees.{QTy}
use Rattle.c65_csem.specs.Trees.{Typed, node, Node, constant, null, literal, object, func, deref, member, load, address, decay, convert, unary, binary, both, either, choice, comma, assign, assign_op, assign_step, step, copy, call, pack, spill, rest, Nodes, none, some, MaybeTyped, absent, present, Stmt, empty, eval, set_part, clear, block, if_stmt, while, do_while, for_loop, switch, case, default, label, goto, break, continue, return, Stmts, no_stmts, and_stmts, ObjectTy, FuncTy, UnitTy}
use Rattle.c65_csem.specs.Typed.{IsTyped, IsNode, IsGiven, IsCalled, AreTyped}
use Rattle.c65_csem.specs.Statements.{Context, IsMaybe, IsMaybeCondition, IsReturn, looping, switching, IsStmt, AreStmts}
use Rattle.c65_meaning.specs.Shapes.{object_in, lives_in_frame}
use Rattle.c65_meaning.specs.After as meaning
use Rattle.c65_csem_names.specs.Scopes.{entering, IsInScope, IsScopedIn, IsScopedNode, AreScopedIn, IsScopedMaybe, IsScoped, AreScoped}
use Rattle.c65_genframe.specs.Frames.{Framed}
use Rattle.c65_genframe.specs.Symbols.{numbers_of, literal_symbol, function_symbol}
use Rattle.c65_genframe.specs.Objects.{objects_in, objects_in_all}
use Rattle.c65_gen_law_size.specs.Own.{is_among}
use Rattle.c65_gen_law_names.specs.Trees.{KnownObject, KnownTree, KnownNode, KnownTrees, KnownMaybeTree, KnownStmt, KnownStmts}

-- each of these is own
abbrev pub Inside : (ℕ → Bool) → List ℕ → Type 0
Inside own is = (i : ℕ) → is_among is i ≡ true → own i ≡ true

or_left : (a b : Bool) → a ≡ true → (a || b) ≡ true
or_left true b e = refl
or_left false b e = absurd cc

or_right : (a b : Bool) → b ≡ true → (a || b) ≡ true
or_right true b e = refl
or_right false b e = e

among_left : (is js : List ℕ) (i : ℕ) → is_among is i ≡ true → is_among (is ++ js) i ≡ true
among_left [] js i e = absurd cc
among_left (k ∷ is) js i e = by (k == i) e (λ f. among_left is js i f)
  where
    by : (b : Bool) → (b || is_among is i) ≡ true → (is_among is i ≡ true → is_among (is ++ js) i ≡ true) → (b || is_among (is ++ js) i) ≡ true
    by true e later = refl
    by false e later = later e

among_right : (is js : List ℕ) (i : ℕ) → is_among js i ≡ true → is_among (is ++ js) i ≡ true
among_right [] js i e = e
among_right (k ∷ is) js i e = or_right (k == i) (is_among (is ++ js) i) (among_right is js i e)

pub inside_left : (own : ℕ → Bool) (is js : List ℕ) → Inside own (is ++ js) → Inside own is
inside_left own is js h i e = h i (among_left is js i e)

pub inside_right : (own : ℕ → Bool) (is js : List ℕ) → Inside own (is ++ js) → Inside own js
inside_right own is js h i e = h i (among_right is js i e)

pub inside_entered : (own : ℕ → Bool) (is scope : List ℕ) → Inside own is → Inside own scope → Inside own (entering is scope)
inside_entered own [] scope h k = k
inside_entered own (j ∷ is) scope h k = inside_entered own is (j ∷ scope) (λ i e. h i (or_right (j == i) (is_among is i) e)) (λ i e. by (j == i) e (λ f. h i (or_left (j == i) (is_among is i) f)) (k i))
  where
    by : {A : Type 0} {c : Bool} (b : Bool) → (b || c) ≡ true → (b ≡ true → A) → (c ≡ true → A) → A
    by true e p q = p refl
    by false e p q = q e

among_same : (is : List ℕ) (i : ℕ) → meaning.is_among is i ≡ is_among is i
among_same [] i = refl
among_same (j ∷ is) i = by (j == i) ∙ ap (λ (b : Bool). (j == i) || b) (among_same is i)
  where
    by : (b : Bool) → (if b then true else meaning.is_among is i) ≡ (b || meaning.is_among is i)
    by true = refl
    by false = refl

-- the symbols of literals and functions are known, and those of objects in scope that have no home
pub record Knows (P : ℕ → Type 0) (u : UnitTy) (f : Framed) (own : ℕ → Bool) : Type 0 where
  pub literals : (i : ℕ) (bytes : List ℕ) → slice_get u.literals i ≡ Some bytes → P (literal_symbol (numbers_of f.parts) i).0
  pub funcs : (i : ℕ) (g : FuncTy) → slice_get u.funcs i ≡ Some g → P (function_symbol (numbers_of f.parts) i).0
  pub objects : (i : ℕ) (o : ObjectTy) → slice_get u.objects i ≡ Some o → (lives_in_frame (object_in u i) ≡ true → own i ≡ true) → KnownObject P f i

module _ (P : ℕ → Type 0) (u : UnitTy) (f : Framed) (own : ℕ → Bool) (variadic : Bool) (knows : Knows P u f own) where
  scoped_object : (s : List ℕ) (i : ℕ) (o : ObjectTy) → Inside own s → slice_get u.objects i ≡ Some o → IsInScope u s i → KnownObject P f i
  scoped_object s i o inside there scoped = knows.objects i o there (λ lives. inside i (sym (among_same s i) ∙ scoped lives))

  mutual
    pub scoped_tree : (s : List ℕ) (e : Typed) → Inside own s → IsTyped u e → IsScopedIn u variadic s e → KnownTree P f e
    scoped_tree s (node t n) inside typed scoped = scoped_node s t n inside typed scoped

    scoped_node : (s : List ℕ) (t : QTy) (n : Node) → Inside own s → IsNode u t n → IsScopedNode u variadic s n → KnownNode P f n
    scoped_node s t (constant z) inside typed scoped = tt
    scoped_node s t null inside typed scoped = tt
    scoped_node s t (literal i) inside typed scoped = knows.literals i typed.0 typed.1
    scoped_node s t (object i) inside typed scoped = scoped_object s i typed.0 inside typed.1 scoped
    scoped_node s t (func i) inside typed scoped = knows.funcs i typed.0 typed.1
    scoped_node s t (deref e) inside typed scoped = scoped_tree s e inside typed.0 scoped
    scoped_node s t (member e m) inside typed scoped = scoped_tree s e inside typed.0 scoped
    scoped_node s t (load e) inside typed scoped = scoped_tree s e inside typed.0 scoped
    scoped_node s t (address e) inside typed scoped = scoped_tree s e inside typed.0 scoped
    scoped_node s t (decay e) inside typed scoped = scoped_tree s e inside typed.0 scoped
    scoped_node s t (convert e) inside typed scoped = scoped_tree s e inside typed.0 scoped
    scoped_node s t (unary op e) inside typed scoped = scoped_tree s e inside typed.0 scoped
    scoped_node s t (binary op a b) inside typed scoped = (scoped_tree s a inside typed.0 scoped.0, scoped_tree s b inside typed.1 scoped.1)
    scoped_node s t (both a b) inside typed scoped = (scoped_tree s a inside typed.0 scoped.0, scoped_tree s b inside typed.1 scoped.1)
    scoped_node s t (either a b) inside typed scoped = (scoped_tree s a inside typed.0 scoped.0, scoped_tree s b inside typed.1 scoped.1)
    scoped_node s t (choice c a b) inside typed scoped = (scoped_tree s c inside typed.0 scoped.0, scoped_tree s a inside typed.1 scoped.1, scoped_tree s b inside typed.2 scoped.2)
    scoped_node s t (comma a b) inside typed scoped = (scoped_tree s a inside typed.0 scoped.0, scoped_tree s b inside typed.1 scoped.1)
    scoped_node s t (assign a b) inside typed scoped = (scoped_tree s a inside typed.0 scoped.0, scoped_tree s b inside typed.1 scoped.1)
    scoped_node s t (assign_op op k a b) inside typed scoped = (scoped_tree s a inside typed.0 scoped.0, scoped_tree s b inside typed.1 scoped.1)
    scoped_node s t (assign_step op a b) inside typed scoped = (scoped_tree s a inside typed.0 scoped.0, scoped_tree s b inside typed.1 scoped.1)
    scoped_node s t (step how e) inside typed scoped = scoped_tree s e inside typed.0 scoped
    scoped_node s t (copy a b) inside typed scoped = (scoped_tree s a inside typed.0 scoped.0, scoped_tree s b inside typed.1 scoped.1)
    scoped_node s t (call g es) inside typed scoped = (scoped_tree s g inside typed.0 scoped.0, scoped_trees s es inside typed.4 scoped.1)
    scoped_node s t (pack e) inside typed scoped = absurd typed
    scoped_node s t (spill i e) inside typed scoped = (scoped_object s i typed.1.object inside typed.1.there scoped.0, scoped_call s t e inside typed.0 scoped.1)
    scoped_node s t rest inside typed scoped = tt

    scoped_given : (s : List ℕ) (e : Typed) → Inside own s → IsGiven u e → IsScopedIn u variadic s e → KnownTree P f e
    scoped_given s (node t (pack e)) inside typed scoped = scoped_tree s e inside typed.0 scoped
    scoped_given s (node t n) inside typed scoped = scoped_node s t n inside typed.0 scoped

    scoped_call : (s : List ℕ) (t : QTy) (e : Typed) → Inside own s → IsCalled u t e → IsScopedIn u variadic s e → KnownTree P f e
    scoped_call s t (node r (call g es)) inside typed scoped = (scoped_tree s g inside typed.2 scoped.0, scoped_trees s es inside typed.5 scoped.1)
    scoped_call s t (node r _) inside typed scoped = absurd typed

    scoped_trees : (s : List ℕ) (es : Nodes) → Inside own s → AreTyped u es → AreScopedIn u variadic s es → KnownTrees P f es
    scoped_trees s none inside typed scoped = tt
    scoped_trees s (some e es) inside typed scoped = (scoped_given s e inside typed.0 scoped.0, scoped_trees s es inside typed.1 scoped.1)

  scoped_maybe : (s : List ℕ) (e : MaybeTyped) → Inside own s → IsMaybe u e → IsScopedMaybe u variadic s e → KnownMaybeTree P f e
  scoped_maybe s absent inside typed scoped = tt
  scoped_maybe s (present e) inside typed scoped = scoped_tree s e inside typed scoped

  scoped_condition : (s : List ℕ) (e : MaybeTyped) → Inside own s → IsMaybeCondition u e → IsScopedMaybe u variadic s e → KnownMaybeTree P f e
  scoped_condition s absent inside typed scoped = tt
  scoped_condition s (present e) inside typed scoped = scoped_tree s e inside typed.0 scoped

  scoped_return : (s : List ℕ) (c : Context) (e : MaybeTyped) → Inside own s → IsReturn u c e → IsScopedMaybe u variadic s e → KnownMaybeTree P f e
  scoped_return s c absent inside typed scoped = tt
  scoped_return s c (present e) inside typed scoped = scoped_given s e inside typed.0 scoped

  mutual
    pub scoped_stmt : (s : List ℕ) (c : Context) (a : Stmt) → Inside own (objects_in a) → Inside own s → IsStmt u c a → IsScoped u variadic s a → KnownStmt P f a
    scoped_stmt s c empty locals inside typed scoped = tt
    scoped_stmt s c (eval e) locals inside typed scoped = scoped_tree s e inside typed scoped
    scoped_stmt s c (set_part i o e) locals inside typed scoped = (scoped_object s i typed.object inside typed.automatic.0 scoped.0, scoped_tree s e inside typed.typed scoped.1)
    scoped_stmt s c (clear i) locals inside typed scoped = scoped_object s i typed.0 inside typed.1.0 scoped
    scoped_stmt s c (block os ss) locals inside typed scoped =
        scoped_stmts (entering os s) c ss (inside_right own os (objects_in_all ss) locals) (inside_entered own os s (inside_left own os (objects_in_all ss) locals) inside) typed.1 scoped
    scoped_stmt s c (if_stmt e a b) locals inside typed scoped =
        (scoped_tree s e inside typed.0.0 scoped.0, scoped_stmt s c a (inside_left own (objects_in a) (objects_in b) locals) inside typed.1 scoped.1, scoped_stmt s c b (inside_right own (objects_in a) (objects_in b) locals) inside typed.2 scoped.2)
    scoped_stmt s c (while e a) locals inside typed scoped = (scoped_tree s e inside typed.0.0 scoped.0, scoped_stmt s (looping c) a locals inside typed.1 scoped.1)
    scoped_stmt s c (do_while a e) locals inside typed scoped = (scoped_stmt s (looping c) a locals inside typed.0 scoped.0, scoped_tree s e inside typed.1.0 scoped.1)
    scoped_stmt s c (for_loop i t n a) locals inside typed scoped =
        (scoped_maybe s i inside typed.0 scoped.0, scoped_condition s t inside typed.1 scoped.1, scoped_maybe s n inside typed.2 scoped.2, scoped_stmt s (looping c) a locals inside typed.3 scoped.3)
    scoped_stmt s c (switch e a) locals inside typed scoped = (scoped_tree s e inside typed.1.typed scoped.0, scoped_stmt s (switching typed.0 c) a locals inside typed.2 scoped.1)
    scoped_stmt s c (case z a) locals inside typed scoped = scoped_stmt s c a locals inside typed.1 scoped
    scoped_stmt s c (default a) locals inside typed scoped = scoped_stmt s c a locals inside typed.1 scoped
    scoped_stmt s c (label l a) locals inside typed scoped = scoped_stmt s c a locals inside typed scoped
    scoped_stmt s c (goto l) locals inside typed scoped = tt
    scoped_stmt s c break locals inside typed scoped = tt
    scoped_stmt s c continue locals inside typed scoped = tt
    scoped_stmt s c (return e) locals inside typed scoped = scoped_return s c e inside typed scoped

    scoped_stmts : (s : List ℕ) (c : Context) (ss : Stmts) → Inside own (objects_in_all ss) → Inside own s → AreStmts u c ss → AreScoped u variadic s ss → KnownStmts P f ss
    scoped_stmts s c no_stmts locals inside typed scoped = tt
    scoped_stmts s c (and_stmts a ss) locals inside typed scoped =
        (scoped_stmt s c a (inside_left own (objects_in a) (objects_in_all ss) locals) inside typed.0 scoped.0, scoped_stmts s c ss (inside_right own (objects_in a) (objects_in_all ss) locals) inside typed.1 scoped.1)
