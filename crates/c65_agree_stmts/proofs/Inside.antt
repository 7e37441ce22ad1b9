-- Jumps from within the work of an expression or a statement lead where those from the work behind it do.
use Rattle.std.proofs.Common.{◌≡◌, ℕ, suc, ◌+◌, Bool, true, false, List, ◌∷◌, refl, ◌∙◌}
use Rattle.c65_ctype.specs.Trees.{QTy}
use Rattle.c65_csem.specs.Trees.{Typed, node, Node, constant, null, literal, object, func, deref, member, load, address, decay, convert, unary, binary, both, either, choice, comma, assign, assign_op, assign_step, step, copy, call, pack, spill, rest, Nodes, none, some, Stmt, empty, eval, set_part, clear, block, if_stmt, while, do_while, for_loop, switch, case, default, label, goto, break, continue, return, Stmts, no_stmts, and_stmts, MaybeTyped, absent, present, UnitTy}
use Rattle.c65_meaning.specs.Store.{Shape, Number, Field, Pointer, Area}
use Rattle.c65_meaning.specs.Items.{Item, put_step, initial_store, first, given, head_of, test_first, plan, plan_node, plan_all, plan_stmt, plan_stmts}
use Rattle.c65_meaning.specs.After.{up_to_call, up_to_break, up_to_continue}
use Rattle.c65_meaning.specs.Sites.{count}

-- jumps from the first work lead where those from the second do
abbrev pub LeadAlike : List Item → List Item → Type 0
LeadAlike k2 k = (up_to_call k2 ≡ up_to_call k) × (up_to_break k2 ≡ up_to_break k) × (up_to_continue k2 ≡ up_to_continue k)

then : (k3 k2 k : List Item) → LeadAlike k3 k2 → LeadAlike k2 k → LeadAlike k3 k
then k3 k2 k h i = (h.0 ∙ i.0, h.1 ∙ i.1, h.2 ∙ i.2)

put_alike : (post : Bool) (shape : Shape) (k2 k : List Item) → LeadAlike k2 k → LeadAlike (put_step post shape ∷ k2) k
put_alike true shape k2 k h = h
put_alike false shape k2 k h = h

store_alike : (i o : ℕ) (shape : Shape) (k2 k : List Item) → LeadAlike k2 k → LeadAlike (initial_store i o shape ∷ k2) k
store_alike i o (Area size) k2 k h = h
store_alike i o (Number t) k2 k h = h
store_alike i o (Pointer size) k2 k h = h
store_alike i o (Field t low width) k2 k h = h

module _ (u : UnitTy) where
  mutual
    pub typed_alike : (e : Typed) (k2 k : List Item) → LeadAlike k2 k → LeadAlike (plan u e k2) k
    typed_alike (node t n) k2 k h = node_alike t n k2 k h

    node_alike : (t : QTy) (n : Node) (k2 k : List Item) → LeadAlike k2 k → LeadAlike (plan_node u t n k2) k
    node_alike t (constant z) k2 k h = h
    node_alike t null k2 k h = h
    node_alike t (literal l) k2 k h = h
    node_alike t (object i) k2 k h = h
    node_alike t (func f) k2 k h = h
    node_alike t (deref a) k2 k h = typed_alike a _ k h
    node_alike t (member a m) k2 k h = typed_alike a _ k h
    node_alike t (load a) k2 k h = typed_alike a _ k h
    node_alike t (address a) k2 k h = typed_alike a _ k h
    node_alike t (decay a) k2 k h = typed_alike a _ k h
    node_alike t (convert a) k2 k h = typed_alike a _ k h
    node_alike t (unary op a) k2 k h = typed_alike a _ k h
    node_alike t (binary op a b) k2 k h = typed_alike a _ k (typed_alike b _ k h)
    node_alike t (both a b) k2 k h = typed_alike a _ k h
    node_alike t (either a b) k2 k h = typed_alike a _ k h
    node_alike t (choice a b c) k2 k h = typed_alike a _ k h
    node_alike t (comma a b) k2 k h = typed_alike a _ k (typed_alike b k2 k h)
    node_alike t (assign a b) k2 k h = typed_alike a _ k (typed_alike b _ k h)
    node_alike t (assign_op op ct a b) k2 k h = typed_alike a _ k (typed_alike b _ k h)
    node_alike t (assign_step op a b) k2 k h = typed_alike a _ k (typed_alike b _ k h)
    node_alike t (step kind a) k2 k h = typed_alike a _ k (put_alike _ _ k2 k h)
    node_alike t (copy a b) k2 k h = typed_alike a _ k (typed_alike b _ k h)
    node_alike t (call f args) k2 k h = typed_alike f _ k (all_alike args _ k h)
    node_alike t (pack a) k2 k h = typed_alike a _ k h
    node_alike t (spill i a) k2 k h = typed_alike a _ k h
    node_alike t rest k2 k h = h

    all_alike : (es : Nodes) (k2 k : List Item) → LeadAlike k2 k → LeadAlike (plan_all u es k2) k
    all_alike none k2 k h = h
    all_alike (some e es) k2 k h = typed_alike e _ k (all_alike es k2 k h)

  head_alike : (c x : MaybeTyped) (at : ℕ) (s : Stmt) (k : List Item) → LeadAlike (head_of u (test_first c x at s) k) k
  head_alike absent x at s k = (refl, refl, refl)
  head_alike (present e) x at s k = typed_alike e _ k (refl, refl, refl)

  for_alike : (i c x : MaybeTyped) (at : ℕ) (s : Stmt) (k : List Item) → LeadAlike (first u i (head_of u (test_first c x at s) k)) k
  for_alike absent c x at s k = head_alike c x at s k
  for_alike (present e) c x at s k = typed_alike e _ k (head_alike c x at s k)

  given_alike : (o : MaybeTyped) (k : List Item) → LeadAlike (given u o k) k
  given_alike absent k = (refl, refl, refl)
  given_alike (present e) k = typed_alike e _ k (refl, refl, refl)

  pub stmt_alike : (n : ℕ) (s : Stmt) (k2 k : List Item) → LeadAlike k2 k → LeadAlike (plan_stmt u n s k2) k
  stmt_alike n empty k2 k h = h
  stmt_alike n (eval e) k2 k h = typed_alike e _ k h
  stmt_alike n (set_part i o e) k2 k h = typed_alike e _ k (store_alike i o _ k2 k h)
  stmt_alike n (clear i) k2 k h = h
  stmt_alike n (block objs ss) k2 k h = h
  stmt_alike n (if_stmt e a b) k2 k h = typed_alike e _ k h
  stmt_alike n (while e s) k2 k h = then (head_of u (test_first (present e) absent (suc n) s) k2) k2 k (head_alike (present e) absent (suc n) s k2) h
  stmt_alike n (do_while s e) k2 k h = h
  stmt_alike n (for_loop i c x s) k2 k h = then (first u i (head_of u (test_first c x (suc n) s) k2)) k2 k (for_alike i c x (suc n) s k2) h
  stmt_alike n (switch e s) k2 k h = typed_alike e _ k h
  stmt_alike n (case v s) k2 k h = stmt_alike (suc n) s k2 k h
  stmt_alike n (default s) k2 k h = stmt_alike (suc n) s k2 k h
  stmt_alike n (label l s) k2 k h = stmt_alike (suc n) s k2 k h
  stmt_alike n (goto l) k2 k h = h
  stmt_alike n break k2 k h = h
  stmt_alike n continue k2 k h = h
  stmt_alike n (return o) k2 k h = then (given u o k2) k2 k (given_alike o k2) h

  -- statements go before work
  pub stmts_alike : (n : ℕ) (ss : Stmts) (k : List Item) → LeadAlike (plan_stmts u n ss k) k
  stmts_alike n no_stmts k = (refl, refl, refl)
  stmts_alike n (and_stmts s ss) k = stmt_alike n s _ k (stmts_alike (n + count s) ss k)
