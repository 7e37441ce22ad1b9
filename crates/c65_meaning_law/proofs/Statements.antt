-- The work of a well typed statement whose names are in scope finds the values that it takes, also when more blocks have begun.
use Rattle.std.proofs.Common.{◌≡◌, ℕ, Bool, true, false, zero, suc, ◌+◌, List, [], ◌∷◌, refl, sym, ap, ◌∙◌, subst}
use Rattle.std.specs.Prelude.{IsTrue, Contains, ⊤}
use Rattle.std.proofs.lemmas.Bool.{eqb-true}
use Rattle.c65_ints.specs.declared.types.IntType.{IntType}
use Rattle.c65_ints.specs.declared.types.IntType.TheVariants.{SChar, UChar, Short, UShort, Int, UInt, Long, ULong}
use Rattle.c65_ints.specs.Ranges.{is_signed_of, number_of}
use Rattle.c65_ctype.specs.Trees.{Ty, void, int, pointer, array, tag, function, QTy, qual, type_in}
use Rattle.c65_ctype.specs.Compatible.{same_int}
use Rattle.c65_base.specs.declared.library.Library.{Library}
use Rattle.c65_base.specs.declared.library.Library.TheVariants as the
use Rattle.c65_csem.specs.Trees.{Typed, node, Node, constant, null, literal, object, func, deref, member, load, address, decay, convert, unary, binary, both, either, choice, comma, assign, assign_op, assign_step, step, copy, call, pack, spill, rest, Nodes, none, some, MaybeTyped, absent, present, Stmt, empty, eval, set_part, clear, block, if_stmt, while, do_while, for_loop, switch, case, default, label, goto, break, continue, return, Stmts, no_stmts, and_stmts, type_of, UnitTy}
use Rattle.c65_csem.specs.Places.{plain, is_scalar, is_place, are_alike, alike}
use Rattle.c65_csem.specs.Typed.{IsTyped}
use Rattle.c65_csem.specs.Statements as st
use Rattle.c65_csem.specs.Statements.{Context, looping, switching, switching, IsInitial, IsMaybe, IsMaybeCondition, IsStmt, AreStmts}
use Rattle.c65_meaning.specs.Store.{Cell, Piece, Bits, Clouded, Value, Whole, Null, Place, Opaque, Cells, NoValue, nth_cell, Shape, Number, Field, Pointer, Area}
use Rattle.c65_meaning.specs.Shapes.{bare_type, object_in, shape_of, place_shape}
use Rattle.c65_meaning.specs.Sites.{count, cases_of}
use Rattle.c65_meaning.specs.Items.{Item, Push, Name, Follow, Move, Fetch, Keep, Change, Apply1, Apply2, Both, Either, Truth, Choose, Drop, Put, Peek, Bump, PutUnder, Carry, Gather, Lay, Reach, Invoke, Busy, Loop, Skip, Init, CarryInto, Wipe, Begin, End, Branch, Test, Pass, Enter, Next, Back, Check, Redo, Select, EndSwitch, Jump, LeaveLoop, GoOn, Give, GiveNothing, Leave, put_step, initial_store, test_first, test_last, plan, plan_node, plan_all, first, tested, head_of, plan_stmt, plan_stmts}
use Rattle.c65_meaning.specs.State.{Scene}
use Rattle.c65_meaning.specs.Operators.{is_post}
use Rattle.c65_meaning_law.specs.Laws.{HasBlock}
use Rattle.c65_meaning_law.specs.Library.{IsPointing, AreArguments}
use Rattle.c65_csem_names.specs.Scopes.{IsScopedIn, IsScopedMaybe, IsScoped, AreScoped}
use Rattle.c65_meaning_law.specs.Statements.{IsReady}
use Rattle.c65_meaning_law.proofs.Stacks.{Kind, Exit, breaking, continuing, returning, arithmetic, pointing, naming, carrying, free, kind_in, kind_at, kind_of, kind_passed, kind_given, kind_from, Below, joined, turned_kind, with_kind, Gives, Stands, Suits, AreSuited, CellFits, CellsFit, Setting, expression, statement, inside, HasStatements, IsContext, HasLabel, IsReturned, D, IsPart, IsMaybePart, HaveBlocks, Leads, IsWork, IsBlock, IsLoop, Does, Takes, Out}
use Rattle.c65_meaning_law.proofs.Plans.{below_refl, below_value, simple, tag_kind, takes, given_takes}
use Rattle.c65_meaning_law.proofs.Scopes.{is_some_in, there, given_there, Grows, stays, ready_stays}

-- ---- more blocks

module _ (m : Setting) (u : UnitTy) (c e : Scene) (g : Grows u c e) where
  pub cell_on : (x : Cell) → CellFits (D u c) x → CellFits (D u e) x
  cell_on (Piece k b o) h = g.blocks b h
  cell_on (Bits known value) h = tt
  cell_on Clouded h = tt

  pub cells_on : (xs : List Cell) → CellsFit (D u c) (nth_cell xs) → CellsFit (D u e) (nth_cell xs)
  cells_on xs h = λ q. cell_on (nth_cell xs q) (h q)

  pub stands_on : (v : Value) → Stands (D u c) v → Stands (D u e) v
  stands_on (Place b o) h = g.blocks b h
  stands_on (Whole z) h = tt
  stands_on Null h = tt
  stands_on Opaque h = tt
  stands_on (Cells xs) h = cells_on xs h
  stands_on NoValue h = tt

  pub suits_on : (x : Kind) (v : Value) → Suits (D u c) x v → Suits (D u e) x v
  suits_on free (Place b o) h = g.blocks b h
  suits_on free (Whole z) h = tt
  suits_on free Null h = tt
  suits_on free Opaque h = tt
  suits_on free NoValue h = tt
  suits_on carrying (Cells xs) h = cells_on xs h
  suits_on carrying NoValue h = tt
  suits_on (arithmetic s) (Whole z) h = h
  suits_on (arithmetic s) Opaque h = tt
  suits_on (arithmetic s) NoValue h = tt
  suits_on pointing Null h = tt
  suits_on pointing (Place b o) h = g.blocks b h
  suits_on pointing Opaque h = tt
  suits_on pointing NoValue h = tt
  suits_on naming (Place b o) h = g.blocks b h
  suits_on _ v h = absurd h

  pub suited_on : (ks : List Kind) (vs : List Value) → AreSuited (D u c) ks vs → AreSuited (D u e) ks vs
  suited_on [] vs h = tt
  suited_on (x ∷ ks) [] h = absurd h
  suited_on (x ∷ ks) (v ∷ vs) h = (suits_on x v h.0, suited_on ks vs h.1)

  pointing_on : (v : Value) → IsPointing c.store v → IsPointing e.store v
  pointing_on (Place b o) h = g.blocks b h
  pointing_on (Whole z) h = absurd h
  pointing_on (Cells xs) h = absurd h
  pointing_on Null h = tt
  pointing_on Opaque h = tt
  pointing_on NoValue h = tt

  pub arguments_on : (l : Library) (vs : List Value) → AreArguments c.store l vs → AreArguments e.store l vs
  arguments_on the.Putchar (v ∷ []) h = h
  arguments_on the.Getchar [] h = tt
  arguments_on the.Puts (v ∷ []) h = pointing_on v h
  arguments_on the.Exit (v ∷ []) h = h
  arguments_on the.Memcpy (v ∷ w ∷ n ∷ []) h = (pointing_on v h.0, pointing_on w h.1, h.2)
  arguments_on the.Memset (v ∷ w ∷ n ∷ []) h = (pointing_on v h.0, h.1, h.2)
  arguments_on the.Strcmp (v ∷ w ∷ []) h = (pointing_on v h.0, pointing_on w h.1)
  arguments_on the.Strcpy (v ∷ w ∷ []) h = (pointing_on v h.0, pointing_on w h.1)
  arguments_on the.Strlen (v ∷ []) h = pointing_on v h
  arguments_on the.Printf (v ∷ []) h = pointing_on v h
  arguments_on _ _ h = absurd h

  part_on : (a : Typed) → IsPart u c a → IsPart u e a
  part_on a h = record { typed = h.typed; there = stays u c e g a h.there }

  maybe_on : (o : MaybeTyped) → IsMaybePart u c o → IsMaybePart u e o
  maybe_on absent h = tt
  maybe_on (present a) h = part_on a h

  pub have_on : (objects : List ℕ) → HaveBlocks u c objects → HaveBlocks u e objects
  have_on [] h = tt
  have_on (i ∷ more) h = (g.objects i h.0, have_on more h.1)

  abbrev work_on : (s : Stmt) → IsWork m u c s → IsWork m u e s
  work_on s h = record { variadic = h.variadic; scope = h.scope; context = h.context; placed = h.placed; typed = h.typed; scoped = h.scoped; ready = ready_stays u c e g h.variadic h.scope h.ready }

  abbrev block_on : (objects : List ℕ) (ss : Stmts) → IsBlock m u c objects ss → IsBlock m u e objects ss
  block_on objects ss h = record { variadic = h.variadic; scope = h.scope; context = h.context; placed = h.placed; automatic = h.automatic; typed = h.typed; scoped = h.scoped; ready = ready_stays u c e g h.variadic h.scope h.ready }

  loop_on : (l : Loop) → IsLoop m u c l → IsLoop m u e l
  loop_on l h = record { body = work_on l.body h.body; test = maybe_on l.test h.test; next = maybe_on l.next h.next }

  module _ (f q : List Kind → Type 0) (n : (js : List Kind) → f js → q js) (o w : Exit → List Kind → Type 0) (v : (y : Exit) (js : List Kind) → o y js → w y js) where
    gives_on : (y : Kind) (ks : List Kind) → Gives y f ks → Gives y q ks
    gives_on y ks h = (h.0, h.1, n (h.0 ∷ ks) h.2)

    does_on : (i : Item) (k : List Item) (ks : List Kind) → Does m u c i k f o ks → Does m u e i k q w ks
    does_on (Push z) k ks h = (h.0, suits_on h.0 z h.1, n (h.0 ∷ ks) h.2)
    does_on (Name i) k ks h = (g.objects i h.0, gives_on naming ks h.1)
    does_on Follow k (pointing ∷ ks) h = gives_on naming ks h
    does_on (Move d) k (naming ∷ ks) h = gives_on naming ks h
    does_on (Fetch s) k (naming ∷ ks) h = (h.0, gives_on (kind_in s) ks h.1)
    does_on Keep k (naming ∷ ks) h = gives_on pointing ks h
    does_on (Change to) k (x ∷ ks) h = (h.0, gives_on (kind_in to) ks h.1, h.2)
    does_on (Apply1 op s) k (x ∷ ks) h = (h.0, gives_on (turned_kind op s) ks h.1)
    does_on (Apply2 op l r) k (y ∷ x ∷ ks) h = (h.0, h.1, h.2, gives_on (joined op l r) ks h.3)
    does_on (Both b) k (x ∷ ks) h = (part_on b h.0, gives_on (arithmetic true) ks h.1, h.2)
    does_on (Either b) k (x ∷ ks) h = (part_on b h.0, gives_on (arithmetic true) ks h.1, h.2)
    does_on Truth k (x ∷ ks) h = (gives_on (arithmetic true) ks h.0, h.1)
    does_on (Choose a b) k (x ∷ ks) h = (h.0, (part_on a h.1.0, h.1.1), (part_on b h.2.0, h.2.1), n (h.0 ∷ ks) h.3, h.4)
    does_on Drop k (x ∷ ks) h = n ks h
    does_on (Put s) k (y ∷ naming ∷ ks) h = (h.0, gives_on (kind_in s) ks h.1)
    does_on (Peek s to) k (naming ∷ ks) h = (h.0, h.1, n (kind_in to ∷ naming ∷ ks) h.2)
    does_on (Bump kind s) k (y ∷ naming ∷ ks) h = (h.0, h.1, h.2, h.3, n (kind_in s ∷ naming ∷ with_kind (is_post kind) h.2 ks) h.4)
    does_on (PutUnder s) k (y ∷ naming ∷ ks) h = n ks h
    does_on (Carry done size) k (naming ∷ naming ∷ ks) h = gives_on naming ks h
    does_on (Gather size) k (naming ∷ ks) h = gives_on carrying ks h
    does_on (Lay i done size) k (carrying ∷ ks) h = (g.objects i h.0, gives_on naming ks h.1)
    does_on Reach k ks h = (g.rest h.0, gives_on pointing ks h.1)
    does_on (Invoke callee types) k ks h = (h.0, h.1, h.2, gives_on (kind_given h.0.type) h.1 h.3)
    does_on (Busy left l args xs) k ks h = (h.0, (arguments_on l args h.1.0, cells_on xs h.1.1), gives_on (kind_from l) ks h.2)
    does_on Skip k ks h = (h.0, n ks h.1)
    does_on (Init i d s) k (x ∷ ks) h = (h.0, (g.objects i h.1.0, n ks h.1.1))
    does_on (CarryInto i d done size) k (naming ∷ ks) h = (h.0, (g.objects i h.1.0, n ks h.1.1))
    does_on (Wipe i done size) k ks h = (h.0, (g.objects i h.1.0, n ks h.1.1))
    does_on (Begin at objects body) k ks h = (h.0, (block_on objects body h.1.0, n ks h.1.1, λ y a. v y ks (h.1.2 y a)))
    does_on (End objects) k ks h = (h.0, n ks h.1)
    does_on (Branch at a d b) k (x ∷ ks) h = (h.0, (work_on a h.1.0, work_on b h.1.1, n ks h.1.2, λ y z. v y ks (h.1.3 y z), λ y z. v y ks (h.1.4 y z), h.1.5))
    does_on (Test l) k (x ∷ ks) h = (h.0, (loop_on l h.1.0, n ks h.1.1, v returning ks h.1.2, h.1.3))
    does_on (Pass l) k ks h = (h.0, (loop_on l h.1.0, n ks h.1.1, v returning ks h.1.2))
    does_on (Enter l) k ks h = (h.0, (loop_on l h.1.0, n ks h.1.1, v returning ks h.1.2, h.1.3))
    does_on (Next l) k ks h = (h.0, (loop_on l h.1.0, n ks h.1.1, v returning ks h.1.2))
    does_on (Back l) k (x ∷ ks) h = (h.0, (loop_on l h.1.0, n ks h.1.1, v returning ks h.1.2))
    does_on (Check l) k ks h = (h.0, (loop_on l h.1.0, n ks h.1.1, v returning ks h.1.2, h.1.3))
    does_on (Redo l) k (x ∷ ks) h = (h.0, (loop_on l h.1.0, n ks h.1.1, v returning ks h.1.2, h.1.3, h.1.4))
    does_on (Select left at body) k (arithmetic s ∷ ks) h = (h.0, (work_on body h.1.0, n ks h.1.1, v returning ks h.1.2, λ a. v continuing ks (h.1.3 a)))
    does_on EndSwitch k ks h = (h.0, n ks h.1)
    does_on (Jump l at) k ks h = (h.0, (h.1.0, v returning ks h.1.1))
    does_on LeaveLoop k ks h = (h.0, v breaking ks h.1)
    does_on GoOn k ks h = (h.0, v continuing ks h.1)
    does_on Give k (x ∷ ks) h = (h.0, (h.1.0, v returning ks h.1.1))
    does_on GiveNothing k ks h = (h.0, v returning ks h.1)
    does_on Leave k ks h = h
    does_on _ k ks h = absurd h.1

  mutual
    pub takes_on : (k : List Item) (ks : List Kind) → Takes m u c k ks → Takes m u e k ks
    takes_on [] ks h = h
    takes_on (i ∷ k) ks h = does_on (Takes m u c k) (Takes m u e k) (takes_on k) (Out m u c k) (Out m u e k) (out_on k) i k ks h

    pub out_on : (k : List Item) (y : Exit) (ks : List Kind) → Out m u c k y ks → Out m u e k y ks
    out_on [] y ks h = h
    out_on (Next l ∷ k) breaking ks h = takes_on k ks h
    out_on (Next l ∷ k) continuing ks h = (h.0, (loop_on l h.1.0, takes_on k ks h.1.1, out_on k returning ks h.1.2))
    out_on (Next l ∷ k) returning ks h = out_on k returning ks h
    out_on (Check l ∷ k) breaking ks h = takes_on k ks h
    out_on (Check l ∷ k) continuing ks h = (h.0, (loop_on l h.1.0, takes_on k ks h.1.1, out_on k returning ks h.1.2, h.1.3))
    out_on (Check l ∷ k) returning ks h = out_on k returning ks h
    out_on (EndSwitch ∷ k) breaking ks h = takes_on k ks h
    out_on (EndSwitch ∷ k) continuing ks h = out_on k continuing ks h
    out_on (EndSwitch ∷ k) returning ks h = out_on k returning ks h
    out_on (End objects ∷ k) returning ks h = (have_on objects h.0, out_on k returning ks h.1)
    out_on (End objects ∷ k) breaking ks h = out_on k breaking ks h
    out_on (End objects ∷ k) continuing ks h = out_on k continuing ks h
    out_on (Leave ∷ k) y ks h = h
    out_on (_ ∷ k) y ks h = out_on k y ks h

-- ---- no expression or statement opens a loop or switch before it begins

module _ (m : Setting) (u : UnitTy) (c : Scene) (y : Exit) (ks : List Kind) where
  abbrev Leaves : List Item → Type 0
  Leaves k = Out m u c k y ks

  put_leads : (t : Bool) (s : Shape) (k : List Item) → Leaves k → Leaves (put_step t s ∷ k)
  put_leads true s k h = h
  put_leads false s k h = h

  initial_leads : (i o : ℕ) (s : Shape) (k : List Item) → Leaves k → Leaves (initial_store i o s ∷ k)
  initial_leads i o (Area size) k h = h
  initial_leads i o (Number t) k h = h
  initial_leads i o (Field t low width) k h = h
  initial_leads i o (Pointer size) k h = h

  mutual
    leads : (e : Typed) (k : List Item) → Leaves k → Leaves (plan u e k)
    leads (node t n) k h = node_leads t n k h

    node_leads : (t : QTy) (n : Node) (k : List Item) → Leaves k → Leaves (plan_node u t n k)
    node_leads t (constant z) k h = h
    node_leads t null k h = h
    node_leads t (literal l) k h = h
    node_leads t (object i) k h = h
    node_leads t (func f) k h = h
    node_leads t (deref a) k h = leads a _ h
    node_leads t (member a i) k h = leads a _ h
    node_leads t (load a) k h = leads a _ h
    node_leads t (address a) k h = leads a _ h
    node_leads t (decay a) k h = leads a _ h
    node_leads t (convert a) k h = leads a _ h
    node_leads t (unary op a) k h = leads a _ h
    node_leads t (binary op a b) k h = leads a _ (leads b _ h)
    node_leads t (both a b) k h = leads a _ h
    node_leads t (either a b) k h = leads a _ h
    node_leads t (choice d a b) k h = leads d _ h
    node_leads t (comma a b) k h = leads a _ (leads b k h)
    node_leads t (assign a b) k h = leads a _ (leads b _ h)
    node_leads t (assign_op op i a b) k h = leads a _ (leads b _ h)
    node_leads t (assign_step op a b) k h = leads a _ (leads b _ h)
    node_leads t (step kind a) k h = leads a _ (put_leads (is_post kind) (place_shape u.types a) k h)
    node_leads t (copy a b) k h = leads a _ (leads b _ h)
    node_leads t (call f es) k h = leads f _ (all_lead es _ h)
    node_leads t (pack a) k h = leads a _ h
    node_leads t (spill i a) k h = leads a _ h
    node_leads t rest k h = h

    all_lead : (es : Nodes) (k : List Item) → Leaves k → Leaves (plan_all u es k)
    all_lead none k h = h
    all_lead (some e es) k h = leads e _ (all_lead es k h)

  head_leads : (o : MaybeTyped) (l : Loop) (k : List Item) → Leaves k → Leaves (tested u o (Test l ∷ k) (Pass l ∷ k))
  head_leads absent l k h = h
  head_leads (present e) l k h = leads e (Test l ∷ k) h

  first_leads : (o : MaybeTyped) (k : List Item) → Leaves k → Leaves (first u o k)
  first_leads absent k h = h
  first_leads (present e) k h = leads e (Drop ∷ k) h

  mutual
    stmt_leads : (n : ℕ) (s : Stmt) (k : List Item) → Leaves k → Leaves (plan_stmt u n s k)
    stmt_leads n empty k h = h
    stmt_leads n (eval e) k h = leads e (Drop ∷ k) h
    stmt_leads n (set_part i o e) k h = leads e _ (initial_leads i o (shape_of u.types (bare_type e)) k h)
    stmt_leads n (clear i) k h = h
    stmt_leads n (block os ss) k h = h
    stmt_leads n (if_stmt e a b) k h = leads e _ h
    stmt_leads n (while e a) k h = leads e _ h
    stmt_leads n (do_while a e) k h = h
    stmt_leads n (for_loop i d o a) k h = first_leads i _ (head_leads d (test_first d o (suc n) a) k h)
    stmt_leads n (switch e a) k h = leads e _ h
    stmt_leads n (case v a) k h = stmt_leads (suc n) a k h
    stmt_leads n (default a) k h = stmt_leads (suc n) a k h
    stmt_leads n (label l a) k h = stmt_leads (suc n) a k h
    stmt_leads n (goto l) k h = h
    stmt_leads n break k h = h
    stmt_leads n continue k h = h
    stmt_leads n (return absent) k h = h
    stmt_leads n (return (present e)) k h = leads e (Give ∷ k) h

    pub stmts_lead : (n : ℕ) (ss : Stmts) (k : List Item) → Leaves k → Leaves (plan_stmts u n ss k)
    stmts_lead n no_stmts k h = h
    stmts_lead n (and_stmts a more) k h = stmt_leads n a _ (stmts_lead (n + count a) more k h)

-- ---- the work of a statement

-- a structure or union is handed on as its place
abbrev AreaNames : Shape → Kind → Type 0
AreaNames (Area size) x = x ≡ naming
AreaNames _ x = ⊤

named_area : (f : Shape) (x : Kind) → x ≡ naming → AreaNames f x
named_area (Area size) x e = e
named_area (Number t) x e = tt
named_area (Field t low width) x e = tt
named_area (Pointer size) x e = tt

module _ (u : UnitTy) where
  scalar_area : (t : Ty) (x : Kind) → IsTrue (is_scalar t) → AreaNames (shape_of u.types t) x
  scalar_area (int k) x h = tt
  scalar_area (pointer q) x h = tt
  scalar_area _ x h = absurd (cc)

  initial_area : (e : Typed) → IsInitial e → AreaNames (shape_of u.types (bare_type e)) (kind_of e)
  initial_area e (st.IsInitial.value v) = scalar_area (bare_type e) (kind_of e) v.0.0
  initial_area e (st.IsInitial.place h) = named_area (shape_of u.types (bare_type e)) (kind_of e) (tag_kind (is_place e) (bare_type e) h)

-- what is alike is of one kind
abbrev signed_at : ℕ → Bool
signed_at zero = true
signed_at (suc zero) = false
signed_at (suc (suc n)) = signed_at n

signed_by_number : (k : IntType) → is_signed_of k ≡ signed_at (number_of k)
signed_by_number SChar = refl
signed_by_number UChar = refl
signed_by_number Short = refl
signed_by_number UShort = refl
signed_by_number Int = refl
signed_by_number UInt = refl
signed_by_number Long = refl
signed_by_number ULong = refl

pub sign_same : (k j : IntType) → IsTrue (same_int k j) → is_signed_of k ≡ is_signed_of j
sign_same k j h = signed_by_number k ∙ ap signed_at (eqb-true (number_of k) (number_of j) h) ∙ sym (signed_by_number j)

alike_kind : (t q : QTy) → IsTrue (are_alike t q) → kind_passed (type_in t) ≡ kind_passed (type_in q)
alike_kind (qual t c v) (qual q d w) h = of_types t q h
  where
    of_types : (t q : Ty) → IsTrue (alike t q) → kind_passed t ≡ kind_passed q
    of_types void void h = refl
    of_types (int k) (int j) h = ap arithmetic (sign_same k j h)
    of_types (pointer q) (pointer r) h = refl
    of_types (array q n) (array r o) h = refl
    of_types (tag n) (tag o) h = refl
    of_types (function f) (function g) h = refl
    of_types _ _ h = absurd (cc)

module _ (m : Setting) (u : UnitTy) where
  returned_kind : (x : Context) (e : Typed) → IsContext m x → IsTrue (are_alike (type_of e) x.gives) → IsReturned m (kind_passed (bare_type e))
  returned_kind x e p a = in_setting m p
    where
      in_setting : (o : Setting) → IsContext o x → IsReturned o (kind_passed (bare_type e))
      in_setting expression q = tt
      in_setting statement q = tt
      in_setting (inside f) q = subst (λ (y : Kind). Below (kind_passed (bare_type e)) y) (alike_kind (type_of e) x.gives a ∙ ap (λ (t : QTy). kind_passed (type_in t)) q.1) (below_refl (kind_passed (bare_type e)))

  has_label : (x : Context) (l : ℕ) → IsContext m x → Contains x.labels l → HasLabel m l
  has_label x l p h = in_setting m p
    where
      in_setting : (o : Setting) → IsContext o x → HasLabel o l
      in_setting expression q = tt
      in_setting statement q = tt
      in_setting (inside f) q = subst (λ (ls : List ℕ). Contains ls l) q.0 h

  pub loop_context : (x : Context) → IsContext m x → IsContext m (looping x)
  loop_context x p = in_setting m p
    where
      in_setting : (o : Setting) → IsContext o x → IsContext o (looping x)
      in_setting expression q = tt
      in_setting statement q = tt
      in_setting (inside f) q = q

  pub switch_context : (k : IntType) (x : Context) → IsContext m x → IsContext m (switching k x)
  switch_context k x p = in_setting m p
    where
      in_setting : (o : Setting) → IsContext o x → IsContext o (switching k x)
      in_setting expression q = tt
      in_setting statement q = tt
      in_setting (inside f) q = q

module _ (m : Setting) (hs : HasStatements m) (u : UnitTy) (c : Scene) where
  abbrev Works : List Item → List Kind → Type 0
  Works k ks = Takes m u c k ks

  abbrev Outs : Context → List Item → List Kind → Type 0
  Outs x k ks = Leads x (Out m u c k) ks

  abbrev Ends : List Item → List Kind → Type 0
  Ends k ks = Out m u c k returning ks

  initial_takes : (i o : ℕ) (f : Shape) (x : Kind) (k : List Item) (ks : List Kind) → AreaNames f x → HasBlock u c i → Works k ks → Works (initial_store i o f ∷ k) (x ∷ ks)
  initial_takes i o (Area size) x k ks e h t = subst (λ (y : Kind). Works (CarryInto i o 0 size ∷ k) (y ∷ ks)) (sym e) (hs, (h, t))
  initial_takes i o (Number t) x k ks e h w = (hs, (h, w))
  initial_takes i o (Field t low width) x k ks e h w = (hs, (h, w))
  initial_takes i o (Pointer size) x k ks e h w = (hs, (h, w))

  pub part_takes : (e : Typed) (k : List Item) (ks : List Kind) → IsPart u c e → Works k (kind_of e ∷ ks) → Works (plan u e k) ks
  part_takes e k ks h t = takes m u c e (kind_of e) k ks h.typed h.there (below_refl (kind_of e)) t

  head_on : (o : MaybeTyped) (l : Loop) (k : List Item) (ks : List Kind) → IsMaybePart u c o → IsLoop m u c l → Works k ks → Ends k ks → Works (tested u o (Test l ∷ k) (Pass l ∷ k)) ks
  head_on absent l k ks h w t r = (hs, (w, t, r))
  head_on (present e) l k ks h w t r = part_takes e (Test l ∷ k) ks h (hs, (w, t, r, simple e))

  pub head_takes : (l : Loop) (k : List Item) (ks : List Kind) → IsLoop m u c l → Works k ks → Ends k ks → Works (head_of u l k) ks
  head_takes l k ks h t r = head_on l.test l k ks h.test h t r

  first_takes : (o : MaybeTyped) (k : List Item) (ks : List Kind) → IsMaybePart u c o → Works k ks → Works (first u o k) ks
  first_takes absent k ks h t = t
  first_takes (present e) k ks h t = part_takes e (Drop ∷ k) ks h t

  module _ (variadic : Bool) (scope : List ℕ) (r : IsReady u variadic scope c) where
    pub part : (e : Typed) → IsTyped u e → IsScopedIn u variadic scope e → IsPart u c e
    part e w h = record { typed = w; there = there u c variadic scope r e w h }

    pub maybe : (o : MaybeTyped) → IsMaybe u o → IsScopedMaybe u variadic scope o → IsMaybePart u c o
    maybe absent w h = tt
    maybe (present e) w h = part e w h

    pub condition : (o : MaybeTyped) → IsMaybeCondition u o → IsScopedMaybe u variadic scope o → IsMaybePart u c o
    condition absent w h = tt
    condition (present e) w h = part e w.0 h

    abbrev pub work : (x : Context) (s : Stmt) → IsContext m x → IsStmt u x s → IsScoped u variadic scope s → IsWork m u c s
    work x s p w h = record { variadic = variadic; scope = scope; context = x; placed = p; typed = w; scoped = h; ready = r }

    pub while_loop : (x : Context) (n : ℕ) (e : Typed) (a : Stmt) → IsContext m x → IsStmt u x (while e a) → IsScoped u variadic scope (while e a) → IsLoop m u c (test_first (present e) absent n a)
    while_loop x n e a p w h = record { body = work (looping x) a (loop_context m u x p) w.1 h.1; test = part e w.0.0 h.0; next = tt }

    pub do_loop : (x : Context) (n : ℕ) (a : Stmt) (e : Typed) → IsContext m x → IsStmt u x (do_while a e) → IsScoped u variadic scope (do_while a e) → IsLoop m u c (test_last e n a)
    do_loop x n a e p w h = record { body = work (looping x) a (loop_context m u x p) w.0 h.0; test = part e w.1.0 h.1; next = tt }

    pub for_loop_of : (x : Context) (n : ℕ) (i d o : MaybeTyped) (a : Stmt) → IsContext m x → IsStmt u x (for_loop i d o a) → IsScoped u variadic scope (for_loop i d o a) → IsLoop m u c (test_first d o n a)
    for_loop_of x n i d o a p w h = record { body = work (looping x) a (loop_context m u x p) w.3 h.3; test = condition d w.1 h.1; next = maybe o w.2 h.2 }

    mutual
      pub stmt_takes : (x : Context) (n : ℕ) (s : Stmt) (k : List Item) (ks : List Kind) → IsContext m x → IsStmt u x s → IsScoped u variadic scope s → Works k ks → Outs x k ks → Works (plan_stmt u n s k) ks
      stmt_takes x n empty k ks p w h t q = (hs, t)
      stmt_takes x n (eval e) k ks p w h t q = part_takes e (Drop ∷ k) ks (part e w h) t
      stmt_takes x n (set_part i o e) k ks p w h t q = part_takes e (initial_store i o (shape_of u.types (bare_type e)) ∷ k) ks (part e w.typed h.1) (initial_takes i o (shape_of u.types (bare_type e)) (kind_of e) k ks (initial_area u e w.initial) (r.objects i (is_some_in (object_in u i) w.object w.automatic.0) h.0) t)
      stmt_takes x n (clear i) k ks p w h t q = (hs, (r.objects i (is_some_in (object_in u i) w.0 w.1.0) h, t))
      stmt_takes x n (block os ss) k ks p w h t q = (hs, (record { variadic = variadic; scope = scope; context = x; placed = p; automatic = w.0; typed = w.1; scoped = h; ready = r }, t, q))
      stmt_takes x n (if_stmt e a b) k ks p w h t q = part_takes e (Branch (suc n) a (suc n + count a) b ∷ k) ks (part e w.0.0 h.0) (hs, (work x a p w.1 h.1, work x b p w.2 h.2, t, q, q, simple e))
      stmt_takes x n (while e a) k ks p w h t q = head_takes (test_first (present e) absent (suc n) a) k ks (while_loop x (suc n) e a p w h) t (q returning tt)
      stmt_takes x n (do_while a e) k ks p w h t q = (hs, (do_loop x (suc n) a e p w h, t, q returning tt, tt))
      stmt_takes x n (for_loop i d o a) k ks p w h t q = first_takes i (head_of u (test_first d o (suc n) a) k) ks (maybe i w.0 h.0) (head_takes (test_first d o (suc n) a) k ks (for_loop_of x (suc n) i d o a p w h) t (q returning tt))
      stmt_takes x n (switch e a) k ks p w h t q = takes m u c e (kind_at (int w.0)) (Select (cases_of a) (suc n) a ∷ k) ks w.1.typed (there u c variadic scope r e w.1.typed h.0) (below_value e (plain (int w.0)) w.1.value w.1.number) (hs, (work (switching w.0 x) a (switch_context m u w.0 x p) w.2 h.1, t, q returning tt, λ l. q continuing l))
      stmt_takes x n (case v a) k ks p w h t q = stmt_takes x (suc n) a k ks p w.1 h t q
      stmt_takes x n (default a) k ks p w h t q = stmt_takes x (suc n) a k ks p w.1 h t q
      stmt_takes x n (label l a) k ks p w h t q = stmt_takes x (suc n) a k ks p w h t q
      stmt_takes x n (goto l) k ks p w h t q = (hs, (has_label m u x l p w, q returning tt))
      stmt_takes x n break k ks p w h t q = (hs, q breaking w)
      stmt_takes x n continue k ks p w h t q = (hs, q continuing w)
      stmt_takes x n (return absent) k ks p w h t q = (hs, q returning tt)
      stmt_takes x n (return (present e)) k ks p w h t q = given_takes m u c e (Give ∷ k) ks w.0 (given_there u c variadic scope r e w.0 h) (hs, (returned_kind m u x e p w.1, q returning tt))

      pub stmts_take : (x : Context) (n : ℕ) (ss : Stmts) (k : List Item) (ks : List Kind) → IsContext m x → AreStmts u x ss → AreScoped u variadic scope ss → Works k ks → Outs x k ks → Works (plan_stmts u n ss k) ks
      stmts_take x n no_stmts k ks p w h t q = t
      stmts_take x n (and_stmts a more) k ks p w h t q = stmt_takes x n a (plan_stmts u (n + count a) more k) ks p w.0 h.0 (stmts_take x (n + count a) more k ks p w.1 h.1 t q) (λ y l. stmts_lead m u c y ks (n + count a) more k (q y l))

  pub work_takes : (n : ℕ) (s : Stmt) (k : List Item) (ks : List Kind) (h : IsWork m u c s) → Works k ks → Outs h.context k ks → Works (plan_stmt u n s k) ks
  work_takes n s k ks h t q = stmt_takes h.variadic h.scope h.ready h.context n s k ks h.placed h.typed h.scoped t q
