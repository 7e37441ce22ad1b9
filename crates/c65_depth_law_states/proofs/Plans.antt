-- The work of expressions and statements whose calls are some of those of a function.
use Rattle.std.proofs.Common.{◌≡◌, ℕ, suc, ◌+◌, Bool, true, false, List, [], ◌∷◌, ◌++◌, Option, Some, None, refl, sym, subst}
use Rattle.std.specs.List.{AllByRecursion}
use Rattle.c65_ctype.specs.Trees.{QTy}
use Rattle.c65_csem.specs.Trees.{Typed, node, Node, constant, null, literal, object, func, deref, member, load, address, decay, convert, unary, binary, both, either, choice, comma, assign, assign_op, assign_step, step, copy, call, pack, spill, rest, Nodes, none, some, Stmt, empty, eval, set_part, clear, block, if_stmt, while, do_while, for_loop, switch, case, default, label, goto, break, continue, return, Stmts, no_stmts, and_stmts, MaybeTyped, absent, present}
use Rattle.c65_meaning.specs.Program.{ProgramTy}
use Rattle.c65_meaning.specs.Store.{Shape, Number, Field, Pointer, Area}
use Rattle.c65_meaning.specs.Operators.{is_post}
use Rattle.c65_meaning.specs.Shapes.{bare_type, types_of, shape_of, place_shape}
use Rattle.c65_meaning.specs.Sites.{count}
use Rattle.c65_meaning.specs.Items.{Item, Loop, Test, Pass, Invoke, Drop, put_step, initial_store, test_first, plan, plan_node, plan_all, first, tested, given, head_of, plan_stmt, plan_stmts}
use Rattle.c65_depth.specs.declared.calls.Call.{Call}
use Rattle.c65_depth.specs.Calls.{named, call_to, calls_in, calls_in_node, calls_in_all, calls_if, calls_of, calls_of_all}
use Rattle.c65_depth.specs.Certificates.{HasCall, CallsPointer}
use Rattle.c65_depth_law_states.proofs.Marks.{Mark, Holds, HoldsIf, HoldsStmt, HoldsStmts, HoldsLoop, Takes, pushed, with_mark}

pub halves : {A : Type 0} (P : A → Type 0) (xs ys : List A) → AllByRecursion P (xs ++ ys) → AllByRecursion P xs × AllByRecursion P ys
halves P [] ys h = (tt, h)
halves P (x ∷ xs) ys h = let r = halves P xs ys h.1 in ((h.0, r.0), r.1)

module _ (p : ProgramTy) (f : ℕ) (no_pointer : CallsPointer p f → ⊥) (fs : List ℕ) (base : List Mark) where
  abbrev Works : List Item → List Mark → Type 0
  Works k ks = Takes p k f fs base ks

  abbrev parts : (xs ys : List Call) → AllByRecursion (HasCall p f) (xs ++ ys) → AllByRecursion (HasCall p f) xs × AllByRecursion (HasCall p f) ys
  parts xs ys h = halves (HasCall p f) xs ys h

  -- ---- expressions

  put_works : (post : Bool) (s : Shape) (k : List Item) (ks : List Mark) → Works k (None ∷ ks) → Works (put_step post s ∷ k) (None ∷ None ∷ with_mark post ks)
  put_works true s k ks t = t
  put_works false s k ks t = t

  -- a function's name pushes its place
  callee_works : (e : Typed) (h : ℕ) (k : List Item) (ks : List Mark) → named e ≡ Some h → Works k (Some h ∷ ks) → Works (plan p.unit e k) ks
  callee_works (node t (decay (node s (func i)))) h k ks is w = (Some i, refl, subst (λ (o : Option ℕ). Works k (o ∷ ks)) (sym is) w)
  callee_works _ h k ks is w = cc

  -- a call is by name
  call_works : (g : Typed) (es : Nodes) (o : Option ℕ) → named g ≡ o → HasCall p f (call_to p.unit g es) → ((j : List Item) (js : List Mark) → Works j (pushed (types_of es) js) → Works (plan_all p.unit es j) js) → (k : List Item) (ks : List Mark) → Works k (None ∷ ks) → Works (plan p.unit g (plan_all p.unit es (Invoke (bare_type g) (types_of es) ∷ k))) ks
  call_works g es None is has args k ks w = absurd (no_pointer (record { call = call_to p.unit g es; has = has; unnamed = is }))
  call_works g es (Some h) is has args k ks w =
      callee_works g h _ ks is (args _ (Some h ∷ ks)
      (ks, record { call = call_to p.unit g es; has = has; callee = h; named = is; bytes = refl; waiting = refl }, w))

  mutual
    pub works : (e : Typed) (k : List Item) (ks : List Mark) → Holds p f e → Works k (None ∷ ks) → Works (plan p.unit e k) ks
    works (node t n) k ks h w = node_works t n k ks h w

    node_works : (t : QTy) (n : Node) (k : List Item) (ks : List Mark) → AllByRecursion (HasCall p f) (calls_in_node p.unit n) → Works k (None ∷ ks) → Works (plan_node p.unit t n k) ks
    node_works t (constant z) k ks h w = (None, tt, w)
    node_works t null k ks h w = (None, tt, w)
    node_works t (literal l) k ks h w = (None, tt, w)
    node_works t (object i) k ks h w = w
    node_works t (func i) k ks h w = (None, tt, w)
    node_works t (deref a) k ks h w = works a _ ks h w
    node_works t (member a m) k ks h w = works a _ ks h w
    node_works t (load a) k ks h w = works a _ ks h w
    node_works t (address a) k ks h w = works a _ ks h w
    node_works t (decay a) k ks h w = works a _ ks h w
    node_works t (convert a) k ks h w = works a _ ks h w
    node_works t (unary op a) k ks h w = works a _ ks h w
    node_works t (binary op a b) k ks h w = let both_of = parts (calls_in p.unit a) (calls_in p.unit b) h in works a _ ks both_of.0 (works b _ (None ∷ ks) both_of.1 w)
    node_works t (both a b) k ks h w = let both_of = parts (calls_in p.unit a) (calls_in p.unit b) h in works a _ ks both_of.0 (both_of.1, w)
    node_works t (either a b) k ks h w = let both_of = parts (calls_in p.unit a) (calls_in p.unit b) h in works a _ ks both_of.0 (both_of.1, w)
    node_works t (choice d a b) k ks h w =
        let of_last = parts (calls_in p.unit d ++ calls_in p.unit a) (calls_in p.unit b) h in
        let of_first = parts (calls_in p.unit d) (calls_in p.unit a) of_last.0 in
        works d _ ks of_first.0 (of_first.1, of_last.1, w)
    node_works t (comma a b) k ks h w = let both_of = parts (calls_in p.unit a) (calls_in p.unit b) h in works a _ ks both_of.0 (works b k ks both_of.1 w)
    node_works t (assign a b) k ks h w = let both_of = parts (calls_in p.unit a) (calls_in p.unit b) h in works a _ ks both_of.0 (works b _ (None ∷ ks) both_of.1 w)
    node_works t (assign_op op i a b) k ks h w = let both_of = parts (calls_in p.unit a) (calls_in p.unit b) h in works a _ ks both_of.0 (works b _ (None ∷ None ∷ ks) both_of.1 w)
    node_works t (assign_step op a b) k ks h w = let both_of = parts (calls_in p.unit a) (calls_in p.unit b) h in works a _ ks both_of.0 (works b _ (None ∷ None ∷ ks) both_of.1 w)
    node_works t (step kind a) k ks h w = works a _ ks h (put_works (is_post kind) (place_shape p.unit.types a) k ks w)
    node_works t (copy a b) k ks h w = let both_of = parts (calls_in p.unit a) (calls_in p.unit b) h in works a _ ks both_of.0 (works b _ (None ∷ ks) both_of.1 w)
    node_works t (call g es) k ks h w = call_works g es (named g) refl h.0 (λ j js v. all_work es j js (parts (calls_in p.unit g) (calls_in_all p.unit es) h.1).1 v) k ks w
    node_works t (pack a) k ks h w = works a _ ks h w
    node_works t (spill i a) k ks h w = works a _ ks h w
    node_works t rest k ks h w = w

    all_work : (es : Nodes) (k : List Item) (ks : List Mark) → AllByRecursion (HasCall p f) (calls_in_all p.unit es) → Works k (pushed (types_of es) ks) → Works (plan_all p.unit es k) ks
    all_work none k ks h w = w
    all_work (some e es) k ks h w = let both_of = parts (calls_in p.unit e) (calls_in_all p.unit es) h in works e _ ks both_of.0 (all_work es k (None ∷ ks) both_of.1 w)

  -- ---- statements

  first_works : (e : MaybeTyped) (k : List Item) → HoldsIf p f e → Works k base → Works (first p.unit e k) base
  first_works absent k h w = w
  first_works (present e) k h w = works e (Drop ∷ k) base h w

  given_works : (e : MaybeTyped) (k : List Item) → HoldsIf p f e → Works k base → Works (given p.unit e k) base
  given_works absent k h w = (refl, w)
  given_works (present e) k h w = works e _ base h (refl, w)

  initial_works : (i o : ℕ) (s : Shape) (k : List Item) → Works k base → Works (initial_store i o s ∷ k) (None ∷ base)
  initial_works i o (Area size) k w = (refl, w)
  initial_works i o (Number t) k w = (refl, w)
  initial_works i o (Field t low width) k w = (refl, w)
  initial_works i o (Pointer size) k w = (refl, w)

  tested_works : (e : MaybeTyped) (l : Loop) (k : List Item) → HoldsIf p f e → HoldsLoop p f l → Works k base → Works (tested p.unit e (Test l ∷ k) (Pass l ∷ k)) base
  tested_works absent l k h of_loop w = (of_loop, (refl, w))
  tested_works (present e) l k h of_loop w = works e (Test l ∷ k) base h (of_loop, (refl, w))

  pub head_works : (l : Loop) (k : List Item) → HoldsLoop p f l → Works k base → Works (head_of p.unit l k) base
  head_works l k h w = tested_works l.test l k h.0 h w

  mutual
    pub stmt_works : (n : ℕ) (s : Stmt) (k : List Item) → HoldsStmt p f s → Works k base → Works (plan_stmt p.unit n s k) base
    stmt_works n empty k h w = (refl, w)
    stmt_works n (eval e) k h w = works e (Drop ∷ k) base h w
    stmt_works n (set_part i o e) k h w = works e _ base h (initial_works i o (shape_of p.unit.types (bare_type e)) k w)
    stmt_works n (clear i) k h w = (refl, w)
    stmt_works n (block objs ss) k h w = (h, (refl, w))
    stmt_works n (if_stmt e a b) k h w =
        let of_last = parts (calls_in p.unit e ++ calls_of p.unit a) (calls_of p.unit b) h in
        let of_first = parts (calls_in p.unit e) (calls_of p.unit a) of_last.0 in
        works e _ base of_first.0 (of_first.1, of_last.1, (refl, w))
    stmt_works n (while e s) k h w = let both_of = parts (calls_in p.unit e) (calls_of p.unit s) h in head_works (test_first (present e) absent (suc n) s) k (both_of.0, tt, both_of.1) w
    stmt_works n (do_while s e) k h w = let both_of = parts (calls_of p.unit s) (calls_in p.unit e) h in ((both_of.1, tt, both_of.0), (refl, w))
    stmt_works n (for_loop i c x s) k h w =
        let of_body = parts (calls_if p.unit i ++ calls_if p.unit c ++ calls_if p.unit x) (calls_of p.unit s) h in
        let of_next = parts (calls_if p.unit i ++ calls_if p.unit c) (calls_if p.unit x) of_body.0 in
        let of_test = parts (calls_if p.unit i) (calls_if p.unit c) of_next.0 in
        first_works i _ of_test.0 (head_works (test_first c x (suc n) s) k (of_test.1, of_next.1, of_body.1) w)
    stmt_works n (switch e s) k h w = let both_of = parts (calls_in p.unit e) (calls_of p.unit s) h in works e _ base both_of.0 (both_of.1, (refl, w))
    stmt_works n (case v s) k h w = stmt_works (suc n) s k h w
    stmt_works n (default s) k h w = stmt_works (suc n) s k h w
    stmt_works n (label l s) k h w = stmt_works (suc n) s k h w
    stmt_works n (goto l) k h w = (refl, w)
    stmt_works n break k h w = (refl, w)
    stmt_works n continue k h w = (refl, w)
    stmt_works n (return e) k h w = given_works e k h w

    pub stmts_work : (n : ℕ) (ss : Stmts) (k : List Item) → HoldsStmts p f ss → Works k base → Works (plan_stmts p.unit n ss k) base
    stmts_work n no_stmts k h w = w
    stmts_work n (and_stmts s ss) k h w = let both_of = parts (calls_of p.unit s) (calls_of_all p.unit ss) h in stmt_works n s _ both_of.0 (stmts_work (n + count s) ss k both_of.1 w)
