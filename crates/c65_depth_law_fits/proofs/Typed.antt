-- In a well typed program `main` has a body, and each call names a function that there is.
use Rattle.std.proofs.Common.{◌≡◌, ℕ, ◌<◌, ◌⊎◌, inl, inr, List, [], ◌∷◌, ◌++◌, length, Option, Some, None, slice_get, refl, sym, ap, subst, arith}
use Rattle.std.specs.Prelude.{All, Contains, IsSome}
use Rattle.std.specs.List.{AllByRecursion}
use Rattle.std.proofs.lemmas.Option.{get_or_from_slice_get, slice_get_within}
use Rattle.std.proofs.lemmas.List.Elements.{All-get_or}
use Rattle.c65_ctype.specs.Trees.{QTy}
use Rattle.c65_csem.specs.Trees.{Typed, node, Node, constant, null, literal, object, func, deref, member, load, address, decay, convert, unary, binary, both, either, choice, comma, assign, assign_op, assign_step, step, copy, call, pack, spill, rest, Nodes, none, some, Stmt, empty, eval, set_part, clear, block, if_stmt, while, do_while, for_loop, switch, case, default, label, goto, break, continue, return, Stmts, no_stmts, and_stmts, MaybeTyped, absent, present, FuncTy, UnitTy}
use Rattle.c65_csem.specs.Typed.{IsTyped, IsNode, IsGiven, IsCalled, AreTyped}
use Rattle.c65_csem.specs.Statements.{Context, looping, switching, IsMaybe, IsMaybeCondition, IsReturn, IsStmt, AreStmts}
use Rattle.c65_csem.specs.Units.{context_of, HasBody, IsFunc, IsProgram}
use Rattle.c65_meaning.specs.Program.{ProgramTy}
use Rattle.c65_meaning.specs.Step.{body_of}
use Rattle.c65_depth.specs.declared.calls.Call.{Call}
use Rattle.c65_depth.specs.Calls.{named, calls_in, calls_in_node, calls_in_all, calls_if, calls_of, calls_of_all}
use Rattle.c65_depth.specs.Certificates.{body_at}
use Rattle.c65_depth_law_ways.proofs.Calls.{first_among}
use Rattle.c65_depth_law_fits.specs.Fits.{NamesFunctions, CheckIsExact}
use Rattle.c65_depth_law_fits.proofs.Fitting.{checked_is_fitting}
use Rattle.c65_depth_law_fits.proofs.Exactly.{fitting_is_checked}

joined : {A : Type 0} (P : A → Type 0) (xs ys : List A) → AllByRecursion P xs → AllByRecursion P ys → AllByRecursion P (xs ++ ys)
joined P [] ys h i = i
joined P (x ∷ xs) ys h i = (h.0, joined P xs ys h.1 i)

holds_among : {A : Type 0} (P : A → Type 0) (xs : List A) (x : A) → AllByRecursion P xs → Contains xs x → P x
holds_among P [] x h k = absurd (let few = k.1 in omega (arith, few))
holds_among P (y ∷ xs) x h k = by_first (first_among y xs x k) (holds_among P xs x h.1)
  where
    by_first : (y ≡ x) ⊎ Contains xs x → (Contains xs x → P x) → P x
    by_first (inl same) more = subst P same h.0
    by_first (inr later) more = more later

all_at : {A : Type 0} (P : A → Type 0) (xs : List A) (i : ℕ) (x : A) → All P xs → slice_get xs i ≡ Some x → P x
all_at P xs i x h e = subst P (get_or_from_slice_get xs i x x e) (All-get_or P xs i x (slice_get_within xs i x e) h)

module _ (u : UnitTy) where
  -- a call by name is of a function that there is
  abbrev IsThere : Call → Type 0
  IsThere c = (h : ℕ) → c.callee ≡ Some h → h < length u.funcs

  abbrev AreThere : List Call → Type 0
  AreThere calls = AllByRecursion IsThere calls

  abbrev both_there : (xs ys : List Call) → AreThere xs → AreThere ys → AreThere (xs ++ ys)
  both_there xs ys h i = joined IsThere xs ys h i

  callee_there : (e : Typed) → IsTyped u e → (h : ℕ) → named e ≡ Some h → h < length u.funcs
  callee_there (node t (decay (node s (func i)))) w h is = subst (λ j. j < length u.funcs) (ap index is) (slice_get_within u.funcs i w.0.0 w.0.1)
    where
      index : Option ℕ → ℕ
      index None = i
      index (Some j) = j
  callee_there _ w h is = cc

  mutual
    typed_there : (e : Typed) → IsTyped u e → AreThere (calls_in u e)
    typed_there (node t n) w = node_there t n w

    node_there : (t : QTy) (n : Node) → IsNode u t n → AreThere (calls_in_node u n)
    node_there t (constant z) w = tt
    node_there t null w = tt
    node_there t (literal l) w = tt
    node_there t (object i) w = tt
    node_there t (func i) w = tt
    node_there t (deref a) w = typed_there a w.0
    node_there t (member a m) w = typed_there a w.0
    node_there t (load a) w = typed_there a w.0
    node_there t (address a) w = typed_there a w.0
    node_there t (decay a) w = typed_there a w.0
    node_there t (convert a) w = typed_there a w.0
    node_there t (unary op a) w = typed_there a w.0
    node_there t (binary op a b) w = both_there (calls_in u a) (calls_in u b) (typed_there a w.0) (typed_there b w.1)
    node_there t (both a b) w = both_there (calls_in u a) (calls_in u b) (typed_there a w.0) (typed_there b w.1)
    node_there t (either a b) w = both_there (calls_in u a) (calls_in u b) (typed_there a w.0) (typed_there b w.1)
    node_there t (choice d a b) w = both_there (calls_in u d ++ calls_in u a) (calls_in u b) (both_there (calls_in u d) (calls_in u a) (typed_there d w.0) (typed_there a w.1)) (typed_there b w.2)
    node_there t (comma a b) w = both_there (calls_in u a) (calls_in u b) (typed_there a w.0) (typed_there b w.1)
    node_there t (assign a b) w = both_there (calls_in u a) (calls_in u b) (typed_there a w.0) (typed_there b w.1)
    node_there t (assign_op op k a b) w = both_there (calls_in u a) (calls_in u b) (typed_there a w.0) (typed_there b w.1)
    node_there t (assign_step op a b) w = both_there (calls_in u a) (calls_in u b) (typed_there a w.0) (typed_there b w.1)
    node_there t (step kind a) w = typed_there a w.0
    node_there t (copy a b) w = both_there (calls_in u a) (calls_in u b) (typed_there a w.0) (typed_there b w.1)
    node_there t (call f es) w = (callee_there f w.0, both_there (calls_in u f) (calls_in_all u es) (typed_there f w.0) (all_there es w.4))
    node_there t (pack a) w = absurd w
    node_there t (spill i a) w = called_there t a w.0
    node_there t rest w = tt

    called_there : (t : QTy) (e : Typed) → IsCalled u t e → AreThere (calls_in u e)
    called_there t (node s (call f es)) w = (callee_there f w.2, both_there (calls_in u f) (calls_in_all u es) (typed_there f w.2) (all_there es w.5))
    called_there t (node s _) w = absurd w

    given_there : (e : Typed) → IsGiven u e → AreThere (calls_in u e)
    given_there (node t (pack a)) w = typed_there a w.0
    given_there (node t n) w = node_there t n w.0

    all_there : (es : Nodes) → AreTyped u es → AreThere (calls_in_all u es)
    all_there none w = tt
    all_there (some e es) w = both_there (calls_in u e) (calls_in_all u es) (given_there e w.0) (all_there es w.1)

  maybe_there : (e : MaybeTyped) → IsMaybe u e → AreThere (calls_if u e)
  maybe_there absent w = tt
  maybe_there (present e) w = typed_there e w

  condition_there : (e : MaybeTyped) → IsMaybeCondition u e → AreThere (calls_if u e)
  condition_there absent w = tt
  condition_there (present e) w = typed_there e w.0

  returned_there : (c : Context) (e : MaybeTyped) → IsReturn u c e → AreThere (calls_if u e)
  returned_there c absent w = tt
  returned_there c (present e) w = given_there e w.0

  mutual
    stmt_there : (c : Context) (s : Stmt) → IsStmt u c s → AreThere (calls_of u s)
    stmt_there c empty w = tt
    stmt_there c (eval e) w = typed_there e w
    stmt_there c (set_part i o e) w = typed_there e w.typed
    stmt_there c (clear i) w = tt
    stmt_there c (block objects ss) w = stmts_there c ss w.1
    stmt_there c (if_stmt e a b) w = both_there (calls_in u e ++ calls_of u a) (calls_of u b) (both_there (calls_in u e) (calls_of u a) (typed_there e w.0.0) (stmt_there c a w.1)) (stmt_there c b w.2)
    stmt_there c (while e s) w = both_there (calls_in u e) (calls_of u s) (typed_there e w.0.0) (stmt_there (looping c) s w.1)
    stmt_there c (do_while s e) w = both_there (calls_of u s) (calls_in u e) (stmt_there (looping c) s w.0) (typed_there e w.1.0)
    stmt_there c (for_loop i d x s) w =
        both_there (calls_if u i ++ calls_if u d ++ calls_if u x) (calls_of u s)
        (both_there (calls_if u i ++ calls_if u d) (calls_if u x) (both_there (calls_if u i) (calls_if u d) (maybe_there i w.0) (condition_there d w.1)) (maybe_there x w.2))
        (stmt_there (looping c) s w.3)
    stmt_there c (switch e s) w = both_there (calls_in u e) (calls_of u s) (typed_there e w.1.typed) (stmt_there (switching w.0 c) s w.2)
    stmt_there c (case z s) w = stmt_there c s w.1
    stmt_there c (default s) w = stmt_there c s w.1
    stmt_there c (label l s) w = stmt_there c s w
    stmt_there c (goto l) w = tt
    stmt_there c break w = tt
    stmt_there c continue w = tt
    stmt_there c (return e) w = returned_there c e w

    stmts_there : (c : Context) (ss : Stmts) → AreStmts u c ss → AreThere (calls_of_all u ss)
    stmts_there c no_stmts w = tt
    stmts_there c (and_stmts s ss) w = both_there (calls_of u s) (calls_of_all u ss) (stmt_there c s w.0) (stmts_there c ss w.1)

module _ (p : ProgramTy) (typed : IsProgram p.unit p.main) where
  main_has_body : IsSome (body_at p p.main)
  main_has_body = subst (λ (o : Option FuncTy). IsSome (body_of o)) (sym typed.main_is) typed.has_body

  body_there : (f : ℕ) (body : Stmt) (o : Option FuncTy) → slice_get p.unit.funcs f ≡ o → body_of o ≡ Some body → AreThere p.unit (calls_of p.unit body)
  body_there f body None is e = absurd cc
  body_there f body (Some g) is e = stmt_there p.unit (context_of g body) body (subst (HasBody p.unit g) e (all_at (IsFunc p.unit) p.unit.funcs f g typed.unit.funcs is).body).typed

  names_functions : NamesFunctions p
  names_functions f h names =
      holds_among (IsThere p.unit) (calls_of p.unit names.has.body) names.call (body_there f names.has.body (slice_get p.unit.funcs f) refl names.has.is_body) names.has.among h names.named

pub check_is_exact : CheckIsExact
check_is_exact p rows room typed =
    (checked_is_fitting p rows room (main_has_body p typed), fitting_is_checked p rows room (main_has_body p typed) (names_functions p typed))
