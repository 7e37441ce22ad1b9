-- What is laid out of a statement has no goto before it.
use Rattle.std.proofs.Common.{ℕ, suc, ◌+◌, ◌≤◌, Bool, true, false, List, [], ◌∷◌, arith}
use Rattle.c65_ctype.specs.Trees.{QTy}
use Rattle.c65_csem.specs.Trees.{Typed, node, Node, constant, null, literal, object, func, deref, member, load, address, decay, convert, unary, binary, both, either, choice, comma, assign, assign_op, assign_step, step, copy, call, pack, spill, rest, Nodes, none, some, Stmt, empty, eval, set_part, clear, block, if_stmt, while, do_while, for_loop, switch, case, default, label, goto, break, continue, return, Stmts, no_stmts, and_stmts, MaybeTyped, absent, present, UnitTy}
use Rattle.c65_meaning.specs.Store.{Shape, Number, Field, Pointer, Area}
use Rattle.c65_meaning.specs.Operators.{is_post}
use Rattle.c65_meaning.specs.Shapes.{bare_type, shape_of, place_shape}
use Rattle.c65_meaning.specs.Sites.{count}
use Rattle.c65_meaning.specs.Items.{Item, Loop, Begin, Branch, Test, Pass, Enter, Select, Jump, Leave, put_step, initial_store, test_first, plan, plan_node, plan_all, first, tested, given, head_of, plan_stmt, plan_stmts}
use Rattle.c65_meaning_law_turns.specs.Places.{IsFrom}

-- all work is from place 0
pub from_start : (k : List Item) → IsFrom 0 k
from_start [] = tt
from_start (Begin n objects ss ∷ k) = (omega arith, from_start k)
from_start (Branch m a n b ∷ k) = (omega arith, omega arith, from_start k)
from_start (Test l ∷ k) = (omega arith, from_start k)
from_start (Pass l ∷ k) = (omega arith, from_start k)
from_start (Enter l ∷ k) = (omega arith, from_start k)
from_start (Select left n body ∷ k) = (omega arith, from_start k)
from_start (Jump l n ∷ k) = (omega arith, from_start k)
from_start (Leave ∷ k) = tt
from_start (_ ∷ k) = from_start k

module _ (u : UnitTy) (low : ℕ) where
  put_from : (b : Bool) (s : Shape) (k : List Item) → IsFrom low k → IsFrom low (put_step b s ∷ k)
  put_from true s k h = h
  put_from false s k h = h

  initial_from : (i o : ℕ) (s : Shape) (k : List Item) → IsFrom low k → IsFrom low (initial_store i o s ∷ k)
  initial_from i o (Number t) k h = h
  initial_from i o (Field t l width) k h = h
  initial_from i o (Pointer size) k h = h
  initial_from i o (Area size) k h = h

  mutual
    pub plan_from : (e : Typed) (k : List Item) → IsFrom low k → IsFrom low (plan u e k)
    plan_from (node t n) k h = node_from t n k h

    node_from : (t : QTy) (n : Node) (k : List Item) → IsFrom low k → IsFrom low (plan_node u t n k)
    node_from t (constant z) k h = h
    node_from t null k h = h
    node_from t (literal n) k h = h
    node_from t (object i) k h = h
    node_from t (func i) k h = h
    node_from t (deref a) k h = plan_from a _ h
    node_from t (member a m) k h = plan_from a _ h
    node_from t (load a) k h = plan_from a _ h
    node_from t (address a) k h = plan_from a _ h
    node_from t (decay a) k h = plan_from a _ h
    node_from t (convert a) k h = plan_from a _ h
    node_from t (unary op a) k h = plan_from a _ h
    node_from t (binary op a b) k h = plan_from a _ (plan_from b _ h)
    node_from t (both a b) k h = plan_from a _ h
    node_from t (either a b) k h = plan_from a _ h
    node_from t (choice d a b) k h = plan_from d _ h
    node_from t (comma a b) k h = plan_from a _ (plan_from b k h)
    node_from t (assign a b) k h = plan_from a _ (plan_from b _ h)
    node_from t (assign_op op ct a b) k h = plan_from a _ (plan_from b _ h)
    node_from t (assign_step op a b) k h = plan_from a _ (plan_from b _ h)
    node_from t (step kind a) k h = plan_from a _ (put_from (is_post kind) (place_shape u.types a) k h)
    node_from t (copy a b) k h = plan_from a _ (plan_from b _ h)
    node_from t (call f es) k h = plan_from f _ (all_from es _ h)
    node_from t (pack a) k h = plan_from a _ h
    node_from t (spill i a) k h = plan_from a _ h
    node_from t rest k h = h

    all_from : (es : Nodes) (k : List Item) → IsFrom low k → IsFrom low (plan_all u es k)
    all_from none k h = h
    all_from (some e es) k h = plan_from e _ (all_from es k h)

  first_from : (o : MaybeTyped) (k : List Item) → IsFrom low k → IsFrom low (first u o k)
  first_from absent k h = h
  first_from (present e) k h = plan_from e _ h

  pub head_from : (l : Loop) (k : List Item) → low ≤ l.at → IsFrom low k → IsFrom low (head_of u l k)
  head_from l k le h = at l.test
    where
      at : (o : MaybeTyped) → IsFrom low (tested u o (Test l ∷ k) (Pass l ∷ k))
      at absent = (le, h)
      at (present e) = plan_from e (Test l ∷ k) (le, h)

  given_from : (o : MaybeTyped) (k : List Item) → IsFrom low k → IsFrom low (given u o k)
  given_from absent k h = h
  given_from (present e) k h = plan_from e _ h

  mutual
    pub stmt_from : (n : ℕ) (s : Stmt) (k : List Item) → low ≤ n → IsFrom low k → IsFrom low (plan_stmt u n s k)
    stmt_from n empty k le h = h
    stmt_from n (eval e) k le h = plan_from e _ h
    stmt_from n (set_part i o e) k le h = plan_from e _ (initial_from i o (shape_of u.types (bare_type e)) k h)
    stmt_from n (clear i) k le h = h
    stmt_from n (block objects ss) k le h = (omega arith, h)
    stmt_from n (if_stmt e a b) k le h = plan_from e _ (omega arith, omega arith, h)
    stmt_from n (while e s) k le h = head_from (test_first (present e) absent (suc n) s) k (omega arith) h
    stmt_from n (do_while s e) k le h = (omega arith, h)
    stmt_from n (for_loop i c x s) k le h = first_from i _ (head_from (test_first c x (suc n) s) k (omega arith) h)
    stmt_from n (switch e s) k le h = plan_from e _ (omega arith, h)
    stmt_from n (case v s) k le h = stmt_from (suc n) s k (omega arith) h
    stmt_from n (default s) k le h = stmt_from (suc n) s k (omega arith) h
    stmt_from n (label l s) k le h = stmt_from (suc n) s k (omega arith) h
    stmt_from n (goto l) k le h = (le, h)
    stmt_from n break k le h = h
    stmt_from n continue k le h = h
    stmt_from n (return o) k le h = given_from o k h

    pub stmts_from : (n : ℕ) (ss : Stmts) (k : List Item) → low ≤ n → IsFrom low k → IsFrom low (plan_stmts u n ss k)
    stmts_from n no_stmts k le h = h
    stmts_from n (and_stmts s ss) k le h = stmt_from n s _ le (stmts_from (n + count s) ss k (omega arith) h)
