-- What is laid out weighs as much as its statement or expression.
use Rattle.std.proofs.Common.{◌≡◌, ℕ, suc, ◌+◌, Bool, true, false, List, ◌∷◌, refl, arith}
use Rattle.c65_ctype.specs.Trees.{QTy, type_in}
use Rattle.c65_ctype.specs.Sizes.{size_of}
use Rattle.c65_csem.specs.Places.{member_at}
use Rattle.c65_csem.specs.Trees.{Typed, node, Node, constant, null, literal, object, func, deref, member, load, address, decay, convert, unary, binary, both, either, choice, comma, assign, assign_op, assign_step, step, copy, call, pack, spill, rest, Nodes, none, some, Stmt, empty, eval, set_part, clear, block, if_stmt, while, do_while, for_loop, switch, case, default, label, goto, break, continue, return, Stmts, no_stmts, and_stmts, MaybeTyped, absent, present, UnitTy}
use Rattle.c65_meaning.specs.Store.{Shape, Number, Field, Pointer, Area}
use Rattle.c65_meaning.specs.Operators.{is_post}
use Rattle.c65_meaning.specs.Shapes.{bare_type, types_of, shape_of, place_shape, offset_of}
use Rattle.c65_meaning.specs.Sites.{count, cases_of}
use Rattle.c65_meaning.specs.Items.{Item, Loop, Follow, Move, Fetch, Keep, Change, Apply1, Apply2, Both, Either, Choose, Drop, Put, Peek, Bump, Carry, Gather, Lay, Invoke, Branch, Test, Pass, Select, Give, put_step, initial_store, test_first, plan, plan_node, plan_all, first, tested, given, head_of, plan_stmt, plan_stmts}
use Rattle.c65_meaning_law_turns.specs.Weights.{store_weight, of_expr, of_node, of_exprs, of_maybe, of_first, of_test, of_given, of_stmt, of_stmts, weight}

module _ (u : UnitTy) where
  put_weight : (b : Bool) (s : Shape) (k : List Item) → weight u (put_step b s ∷ k) ≡ 1 + weight u k
  put_weight true s k = refl
  put_weight false s k = refl

  initial_weight : (i o : ℕ) (s : Shape) (k : List Item) → weight u (initial_store i o s ∷ k) ≡ store_weight s + weight u k
  initial_weight i o (Number t) k = refl
  initial_weight i o (Field t low width) k = refl
  initial_weight i o (Pointer size) k = refl
  initial_weight i o (Area size) k = omega arith

  -- an expression before work whose weight is known
  before : (e : Typed) (k : List Item) (more other : ℕ) → weight u k ≡ more + other → weight u (plan u e k) ≡ of_expr u e + weight u k → weight u (plan u e k) ≡ (of_expr u e + more) + other
  before e k more other h g = omega arith

  mutual
    pub plan_weight : (e : Typed) (k : List Item) → weight u (plan u e k) ≡ of_expr u e + weight u k
    plan_weight (node t n) k = node_weight t n k

    node_weight : (t : QTy) (n : Node) (k : List Item) → weight u (plan_node u t n k) ≡ of_node u t n + weight u k
    node_weight t (constant z) k = refl
    node_weight t null k = refl
    node_weight t (literal n) k = refl
    node_weight t (object i) k = refl
    node_weight t (func i) k = refl
    node_weight t (deref a) k = before a (Follow ∷ k) 1 (weight u k) refl (plan_weight a (Follow ∷ k))
    node_weight t (member a m) k = before a (Move (offset_of (member_at u.types (bare_type a) m)) ∷ k) 1 (weight u k) refl (plan_weight a (Move (offset_of (member_at u.types (bare_type a) m)) ∷ k))
    node_weight t (load a) k = before a (Fetch (place_shape u.types a) ∷ k) 1 (weight u k) refl (plan_weight a (Fetch (place_shape u.types a) ∷ k))
    node_weight t (address a) k = before a (Keep ∷ k) 1 (weight u k) refl (plan_weight a (Keep ∷ k))
    node_weight t (decay a) k = before a (Keep ∷ k) 1 (weight u k) refl (plan_weight a (Keep ∷ k))
    node_weight t (convert a) k = before a (Change (shape_of u.types (type_in t)) ∷ k) 1 (weight u k) refl (plan_weight a (Change (shape_of u.types (type_in t)) ∷ k))
    node_weight t (unary op a) k = before a (Apply1 op (shape_of u.types (bare_type a)) ∷ k) 1 (weight u k) refl (plan_weight a (Apply1 op (shape_of u.types (bare_type a)) ∷ k))
    node_weight t (binary op a b) k = before a (plan u b (Apply2 op (shape_of u.types (bare_type a)) (shape_of u.types (bare_type b)) ∷ k)) (of_expr u b + 1) (weight u k) (before b (Apply2 op (shape_of u.types (bare_type a)) (shape_of u.types (bare_type b)) ∷ k) 1 (weight u k) refl (plan_weight b (Apply2 op (shape_of u.types (bare_type a)) (shape_of u.types (bare_type b)) ∷ k))) (plan_weight a (plan u b (Apply2 op (shape_of u.types (bare_type a)) (shape_of u.types (bare_type b)) ∷ k)))
    node_weight t (both a b) k = before a (Both b ∷ k) (of_expr u b + 2) (weight u k) refl (plan_weight a (Both b ∷ k))
    node_weight t (either a b) k = before a (Either b ∷ k) (of_expr u b + 2) (weight u k) refl (plan_weight a (Either b ∷ k))
    node_weight t (choice d a b) k = before d (Choose a b ∷ k) (of_expr u a + of_expr u b + 1) (weight u k) refl (plan_weight d (Choose a b ∷ k))
    node_weight t (comma a b) k = before a (Drop ∷ plan u b k) (1 + of_expr u b) (weight u k) (let h : weight u (plan u b k) ≡ of_expr u b + weight u k = plan_weight b k in omega arith) (plan_weight a (Drop ∷ plan u b k))
    node_weight t (assign a b) k = before a (plan u b (Put (place_shape u.types a) ∷ k)) (of_expr u b + 1) (weight u k) (before b (Put (place_shape u.types a) ∷ k) 1 (weight u k) refl (plan_weight b (Put (place_shape u.types a) ∷ k))) (plan_weight a (plan u b (Put (place_shape u.types a) ∷ k)))
    node_weight t (assign_op op ct a b) k =
        before a (Peek (place_shape u.types a) (Number ct) ∷ plan u b (Apply2 op (Number ct) (shape_of u.types (bare_type b)) ∷ Put (place_shape u.types a) ∷ k)) (1 + (of_expr u b + 2)) (weight u k) (let h : weight u (plan u b (Apply2 op (Number ct) (shape_of u.types (bare_type b)) ∷ Put (place_shape u.types a) ∷ k)) ≡ of_expr u b + 2 + weight u k = before b (Apply2 op (Number ct) (shape_of u.types (bare_type b)) ∷ Put (place_shape u.types a) ∷ k) 2 (weight u k) (omega arith) (plan_weight b (Apply2 op (Number ct) (shape_of u.types (bare_type b)) ∷ Put (place_shape u.types a) ∷ k)) in omega arith) (plan_weight a (Peek (place_shape u.types a) (Number ct) ∷ plan u b (Apply2 op (Number ct) (shape_of u.types (bare_type b)) ∷ Put (place_shape u.types a) ∷ k)))
    node_weight t (assign_step op a b) k =
        before a (Peek (shape_of u.types (bare_type a)) (shape_of u.types (bare_type a)) ∷ plan u b (Apply2 op (shape_of u.types (bare_type a)) (shape_of u.types (bare_type b)) ∷ Put (shape_of u.types (bare_type a)) ∷ k)) (1 + (of_expr u b + 2)) (weight u k) (let h : weight u (plan u b (Apply2 op (shape_of u.types (bare_type a)) (shape_of u.types (bare_type b)) ∷ Put (shape_of u.types (bare_type a)) ∷ k)) ≡ of_expr u b + 2 + weight u k = before b (Apply2 op (shape_of u.types (bare_type a)) (shape_of u.types (bare_type b)) ∷ Put (shape_of u.types (bare_type a)) ∷ k) 2 (weight u k) (omega arith) (plan_weight b (Apply2 op (shape_of u.types (bare_type a)) (shape_of u.types (bare_type b)) ∷ Put (shape_of u.types (bare_type a)) ∷ k)) in omega arith) (plan_weight a (Peek (shape_of u.types (bare_type a)) (shape_of u.types (bare_type a)) ∷ plan u b (Apply2 op (shape_of u.types (bare_type a)) (shape_of u.types (bare_type b)) ∷ Put (shape_of u.types (bare_type a)) ∷ k)))
    node_weight t (step kind a) k =
        before a (Peek (place_shape u.types a) (place_shape u.types a) ∷ Bump kind (place_shape u.types a) ∷ put_step (is_post kind) (place_shape u.types a) ∷ k) 3 (weight u k) (let h : weight u (put_step (is_post kind) (place_shape u.types a) ∷ k) ≡ 1 + weight u k = put_weight (is_post kind) (place_shape u.types a) k in omega arith) (plan_weight a (Peek (place_shape u.types a) (place_shape u.types a) ∷ Bump kind (place_shape u.types a) ∷ put_step (is_post kind) (place_shape u.types a) ∷ k))
    node_weight t (copy a b) k = before a (plan u b (Carry 0 (size_of u.types (bare_type a)) ∷ k)) (of_expr u b + suc (size_of u.types (bare_type a))) (weight u k) (before b (Carry 0 (size_of u.types (bare_type a)) ∷ k) (suc (size_of u.types (bare_type a))) (weight u k) (omega arith) (plan_weight b (Carry 0 (size_of u.types (bare_type a)) ∷ k))) (plan_weight a (plan u b (Carry 0 (size_of u.types (bare_type a)) ∷ k)))
    node_weight t (call f es) k = before f (plan_all u es (Invoke (bare_type f) (types_of es) ∷ k)) (of_exprs u es + 1) (weight u k) (let h : weight u (plan_all u es (Invoke (bare_type f) (types_of es) ∷ k)) ≡ of_exprs u es + (1 + weight u k) = all_weight es (Invoke (bare_type f) (types_of es) ∷ k) in omega arith) (plan_weight f (plan_all u es (Invoke (bare_type f) (types_of es) ∷ k)))
    node_weight t (pack a) k = before a (Gather (size_of u.types (type_in t)) ∷ k) 1 (weight u k) refl (plan_weight a (Gather (size_of u.types (type_in t)) ∷ k))
    node_weight t (spill i a) k = before a (Lay i 0 (size_of u.types (type_in t)) ∷ k) (suc (size_of u.types (type_in t))) (weight u k) (omega arith) (plan_weight a (Lay i 0 (size_of u.types (type_in t)) ∷ k))
    node_weight t rest k = refl

    all_weight : (es : Nodes) (k : List Item) → weight u (plan_all u es k) ≡ of_exprs u es + weight u k
    all_weight none k = omega arith
    all_weight (some e es) k = before e (plan_all u es k) (of_exprs u es) (weight u k) (all_weight es k) (plan_weight e (plan_all u es k))

  first_weight : (o : MaybeTyped) (k : List Item) → weight u (first u o k) ≡ of_first u o + weight u k
  first_weight absent k = omega arith
  first_weight (present e) k = before e (Drop ∷ k) 1 (weight u k) refl (plan_weight e (Drop ∷ k))

  pub head_weight : (l : Loop) (k : List Item) → weight u (head_of u l k) ≡ of_test u l.test + (of_stmt u l.body + of_maybe u l.next + 1) + weight u k
  head_weight l k = at l.test
    where
      at : (o : MaybeTyped) → weight u (tested u o (Test l ∷ k) (Pass l ∷ k)) ≡ of_test u o + (of_stmt u l.body + of_maybe u l.next + 1) + weight u k
      at absent = omega arith
      at (present e) = before e (Test l ∷ k) (of_stmt u l.body + of_maybe u l.next + 1) (weight u k) refl (plan_weight e (Test l ∷ k))

  given_weight : (o : MaybeTyped) (k : List Item) → weight u (given u o k) ≡ of_given u o + weight u k
  given_weight absent k = refl
  given_weight (present e) k = before e (Give ∷ k) 1 (weight u k) refl (plan_weight e (Give ∷ k))

  mutual
    pub stmt_weight : (n : ℕ) (s : Stmt) (k : List Item) → weight u (plan_stmt u n s k) ≡ of_stmt u s + weight u k
    stmt_weight n empty k = refl
    stmt_weight n (eval e) k = before e (Drop ∷ k) 1 (weight u k) refl (plan_weight e (Drop ∷ k))
    stmt_weight n (set_part i o e) k = before e (initial_store i o (shape_of u.types (bare_type e)) ∷ k) (store_weight (shape_of u.types (bare_type e))) (weight u k) (initial_weight i o (shape_of u.types (bare_type e)) k) (plan_weight e (initial_store i o (shape_of u.types (bare_type e)) ∷ k))
    stmt_weight n (clear i) k = omega arith
    stmt_weight n (block objects ss) k = refl
    stmt_weight n (if_stmt e a b) k = before e (Branch (suc n) a (suc n + count a) b ∷ k) (of_stmt u a + of_stmt u b + 1) (weight u k) refl (plan_weight e (Branch (suc n) a (suc n + count a) b ∷ k))
    stmt_weight n (while e s) k = let h : weight u (plan_stmt u n (while e s) k) ≡ of_expr u e + (of_stmt u s + 1 + 1) + weight u k = head_weight (test_first (present e) absent (suc n) s) k in omega arith
    stmt_weight n (do_while s e) k = refl
    stmt_weight n (for_loop i c x s) k =
        let h : weight u (head_of u (test_first c x (suc n) s) k) ≡ of_test u c + (of_stmt u s + of_maybe u x + 1) + weight u k = head_weight (test_first c x (suc n) s) k in
        let g : weight u (first u i (head_of u (test_first c x (suc n) s) k)) ≡ of_first u i + weight u (head_of u (test_first c x (suc n) s) k) = first_weight i (head_of u (test_first c x (suc n) s) k) in
        omega arith
    stmt_weight n (switch e s) k = before e (Select (cases_of s) (suc n) s ∷ k) (cases_of s + of_stmt u s + 2) (weight u k) refl (plan_weight e (Select (cases_of s) (suc n) s ∷ k))
    stmt_weight n (case v s) k = stmt_weight (suc n) s k
    stmt_weight n (default s) k = stmt_weight (suc n) s k
    stmt_weight n (label l s) k = stmt_weight (suc n) s k
    stmt_weight n (goto l) k = refl
    stmt_weight n break k = refl
    stmt_weight n continue k = refl
    stmt_weight n (return o) k = given_weight o k

    pub stmts_weight : (n : ℕ) (ss : Stmts) (k : List Item) → weight u (plan_stmts u n ss k) ≡ of_stmts u ss + weight u k
    stmts_weight n no_stmts k = omega arith
    stmts_weight n (and_stmts s ss) k =
        let h : weight u (plan_stmt u n s (plan_stmts u (n + count s) ss k)) ≡ of_stmt u s + weight u (plan_stmts u (n + count s) ss k) = stmt_weight n s (plan_stmts u (n + count s) ss k) in
        let g : weight u (plan_stmts u (n + count s) ss k) ≡ of_stmts u ss + weight u k = stmts_weight (n + count s) ss k in
        omega arith
