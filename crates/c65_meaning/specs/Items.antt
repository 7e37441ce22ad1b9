-- Pending work, and the work of each expression and statement (C90 6.3, 6.6; operands from left to right).
-- Going into parts takes no step; each item takes one.
-- A block, a loop's body, the arms of an `if` and the body of a switch are laid out only when they begin. So `End`, `Next`, `Check` and
-- `EndSwitch` stand in pending work exactly for the blocks, loops and switches that are open.
use Rattle.std.specs.Prelude.{ℕ, suc, ◌+◌, Bool, true, false, List, ◌∷◌}
use Rattle.c65_base.specs.declared.operators.UnaryOp.{UnaryOp}
use Rattle.c65_base.specs.declared.operators.BinaryOp.{BinaryOp}
use Rattle.c65_base.specs.declared.operators.StepKind.{StepKind}
use Rattle.c65_ctype.specs.Trees.{Ty, QTy, type_in}
use Rattle.c65_ctype.specs.Sizes.{size_of}
use Rattle.c65_base.specs.declared.library.Library.{Library}
use Rattle.c65_csem.specs.Trees.{Typed, node, Node, constant, null, literal, object, func, deref, member, load, address, decay, convert, unary, binary, both, either, choice, comma, assign, assign_op, assign_step, step, copy, call, pack, spill, rest, Nodes, none, some, Stmt, empty, eval, set_part, clear, block, if_stmt, while, do_while, for_loop, switch, case, default, label, goto, break, continue, return, Stmts, no_stmts, and_stmts, MaybeTyped, absent, present, UnitTy}
use Rattle.c65_meaning.specs.Store.{Cell, Value, Whole, Null, Place, Shape, Number, Area}
use Rattle.c65_meaning.specs.Operators.{is_post}
use Rattle.c65_meaning.specs.Shapes.{bare_type, types_of, shape_of, place_shape, offset_of, object_size, object_in, literal_block}
use Rattle.c65_csem.specs.Places.{member_at}
use Rattle.c65_meaning.specs.Sites.{count, cases_of}

-- a loop whose test comes first, or comes last; `at` is the place of its body among the statements of the function
pub record Loop : Type 0 where
  pub test : MaybeTyped
  pub next : MaybeTyped
  pub at : ℕ
  pub body : Stmt

pub data Item : Type 0 where
  -- expressions
  Push : (v : Value) → Item
  Name : (i : ℕ) → Item
  Follow : Item
  Move : (offset : ℕ) → Item
  Fetch : (shape : Shape) → Item
  Keep : Item
  Change : (to : Shape) → Item
  Apply1 : (op : UnaryOp) (shape : Shape) → Item
  Apply2 : (op : BinaryOp) (left right : Shape) → Item
  Both : (b : Typed) → Item
  Either : (b : Typed) → Item
  Truth : Item
  Choose : (a b : Typed) → Item
  Drop : Item
  Put : (shape : Shape) → Item
  Peek : (shape to : Shape) → Item
  Bump : (kind : StepKind) (shape : Shape) → Item
  PutUnder : (shape : Shape) → Item
  Carry : (done size : ℕ) → Item
  Gather : (size : ℕ) → Item
  Lay : (i done size : ℕ) → Item
  Reach : Item
  Invoke : (callee : Ty) (args : List Ty) → Item
  Busy : (left : ℕ) (f : Library) (args : List Value) (rest : List Cell) → Item
  -- statements
  Skip : Item
  Init : (i offset : ℕ) (shape : Shape) → Item
  CarryInto : (i offset done size : ℕ) → Item
  Wipe : (i done size : ℕ) → Item
  Begin : (n : ℕ) (objects : List ℕ) (body : Stmts) → Item
  End : (objects : List ℕ) → Item
  Branch : (m : ℕ) (a : Stmt) (n : ℕ) (b : Stmt) → Item
  Test : (l : Loop) → Item
  Pass : (l : Loop) → Item
  Enter : (l : Loop) → Item
  Next : (l : Loop) → Item
  Back : (l : Loop) → Item
  Check : (l : Loop) → Item
  Redo : (l : Loop) → Item
  Select : (left n : ℕ) (body : Stmt) → Item
  EndSwitch : Item
  Jump : (l n : ℕ) → Item
  LeaveLoop : Item
  GoOn : Item
  Give : Item
  GiveNothing : Item
  Leave : Item

-- what a store into a place gives back: the value that it then holds, or the one before
abbrev pub put_step : Bool → Shape → Item
put_step true shape = PutUnder shape
put_step false shape = Put shape

-- the store of an initial value; a structure or union is carried along
abbrev pub initial_store : ℕ → ℕ → Shape → Item
initial_store i o (Area size) = CarryInto i o 0 size
initial_store i o shape = Init i o shape

abbrev pub test_first : MaybeTyped → MaybeTyped → ℕ → Stmt → Loop
test_first test next at body = record { test = test; next = next; at = at; body = body }

abbrev pub test_last : Typed → ℕ → Stmt → Loop
test_last test at body = record { test = present test; next = absent; at = at; body = body }

module _ (u : UnitTy) where
  abbrev mutual
    -- the work of an expression, and then k
    pub plan : Typed → List Item → List Item
    plan (node t e) k = plan_node t e k

    pub plan_node : QTy → Node → List Item → List Item
    plan_node t (constant z) k = Push (Whole z) ∷ k
    plan_node t null k = Push Null ∷ k
    plan_node t (literal l) k = Push (Place (literal_block u l) 0) ∷ k
    plan_node t (object i) k = Name i ∷ k
    plan_node t (func f) k = Push (Place f 0) ∷ k
    plan_node t (deref a) k = plan a (Follow ∷ k)
    plan_node t (member a m) k = plan a (Move (offset_of (member_at u.types (bare_type a) m)) ∷ k)
    plan_node t (load a) k = plan a (Fetch (place_shape u.types a) ∷ k)
    plan_node t (address a) k = plan a (Keep ∷ k)
    plan_node t (decay a) k = plan a (Keep ∷ k)
    plan_node t (convert a) k = plan a (Change (shape_of u.types (type_in t)) ∷ k)
    plan_node t (unary op a) k = plan a (Apply1 op (shape_of u.types (bare_type a)) ∷ k)
    plan_node t (binary op a b) k = plan a (plan b (Apply2 op (shape_of u.types (bare_type a)) (shape_of u.types (bare_type b)) ∷ k))
    plan_node t (both a b) k = plan a (Both b ∷ k)
    plan_node t (either a b) k = plan a (Either b ∷ k)
    plan_node t (choice a b c) k = plan a (Choose b c ∷ k)
    plan_node t (comma a b) k = plan a (Drop ∷ plan b k)
    plan_node t (assign a b) k = plan a (plan b (Put (place_shape u.types a) ∷ k))
    plan_node t (assign_op op ct a b) k = plan a (Peek (place_shape u.types a) (Number ct) ∷ plan b (Apply2 op (Number ct) (shape_of u.types (bare_type b)) ∷ Put (place_shape u.types a) ∷ k))
    plan_node t (assign_step op a b) k = plan a (Peek (shape_of u.types (bare_type a)) (shape_of u.types (bare_type a)) ∷ plan b (Apply2 op (shape_of u.types (bare_type a)) (shape_of u.types (bare_type b)) ∷ Put (shape_of u.types (bare_type a)) ∷ k))
    plan_node t (step kind a) k = plan a (Peek (place_shape u.types a) (place_shape u.types a) ∷ Bump kind (place_shape u.types a) ∷ put_step (is_post kind) (place_shape u.types a) ∷ k)
    plan_node t (copy a b) k = plan a (plan b (Carry 0 (size_of u.types (bare_type a)) ∷ k))
    plan_node t (call f args) k = plan f (plan_all args (Invoke (bare_type f) (types_of args) ∷ k))
    plan_node t (pack a) k = plan a (Gather (size_of u.types (type_in t)) ∷ k)
    plan_node t (spill i a) k = plan a (Lay i 0 (size_of u.types (type_in t)) ∷ k)
    plan_node t rest k = Reach ∷ k

    -- the work of arguments, from left to right
    pub plan_all : Nodes → List Item → List Item
    plan_all none k = k
    plan_all (some e es) k = plan e (plan_all es k)

  -- an expression whose value is not used, where there is one
  abbrev pub first : MaybeTyped → List Item → List Item
  first absent k = k
  first (present e) k = plan e (Drop ∷ k)

  -- a test before the work k, where there is one; else the work b
  abbrev pub tested : MaybeTyped → List Item → List Item → List Item
  tested absent k b = b
  tested (present e) k b = plan e k

  abbrev pub given : MaybeTyped → List Item → List Item
  given absent k = GiveNothing ∷ k
  given (present e) k = plan e (Give ∷ k)

  -- a loop from its head
  abbrev pub head_of : Loop → List Item → List Item
  head_of l k = tested l.test (Test l ∷ k) (Pass l ∷ k)

  abbrev mutual
    -- the work of a statement, and then k; `n` is the place of the statement among those of its function
    pub plan_stmt : ℕ → Stmt → List Item → List Item
    plan_stmt n empty k = Skip ∷ k
    plan_stmt n (eval e) k = plan e (Drop ∷ k)
    plan_stmt n (set_part i o e) k = plan e (initial_store i o (shape_of u.types (bare_type e)) ∷ k)
    plan_stmt n (clear i) k = Wipe i 0 (object_size u.types (object_in u i)) ∷ k
    plan_stmt n (block objs ss) k = Begin (suc n) objs ss ∷ k
    plan_stmt n (if_stmt e a b) k = plan e (Branch (suc n) a (suc n + count a) b ∷ k)
    plan_stmt n (while e s) k = head_of (test_first (present e) absent (suc n) s) k
    plan_stmt n (do_while s e) k = Enter (test_last e (suc n) s) ∷ k
    plan_stmt n (for_loop i c x s) k = first i (head_of (test_first c x (suc n) s) k)
    plan_stmt n (switch e s) k = plan e (Select (cases_of s) (suc n) s ∷ k)
    plan_stmt n (case v s) k = plan_stmt (suc n) s k
    plan_stmt n (default s) k = plan_stmt (suc n) s k
    plan_stmt n (label l s) k = plan_stmt (suc n) s k
    plan_stmt n (goto l) k = Jump l n ∷ k
    plan_stmt n break k = LeaveLoop ∷ k
    plan_stmt n continue k = GoOn ∷ k
    plan_stmt n (return o) k = given o k

    pub plan_stmts : ℕ → Stmts → List Item → List Item
    plan_stmts n no_stmts k = k
    plan_stmts n (and_stmts s ss) k = plan_stmt n s (plan_stmts (n + count s) ss k)
