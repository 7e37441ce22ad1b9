-- How many steps pending work may take up to the next turn, where no label is gone to: each item has a step more than all that it lays
-- out. A loop's body counts once, since its next round is a turn; a byte that is carried or cleared is a step.
use Rattle.std.proofs.Common.{ℕ, suc, ◌+◌, ◌-◌, List, [], ◌∷◌}
use Rattle.c65_ctype.specs.Trees.{QTy, type_in}
use Rattle.c65_ctype.specs.Sizes.{size_of}
use Rattle.c65_csem.specs.Trees.{Typed, node, Node, deref, member, load, address, decay, convert, unary, binary, both, either, choice, comma, assign, assign_op, assign_step, step, copy, call, pack, spill, Nodes, none, some, Stmt, eval, set_part, clear, block, if_stmt, while, do_while, for_loop, switch, case, default, label, return, Stmts, no_stmts, and_stmts, MaybeTyped, absent, present, UnitTy}
use Rattle.c65_meaning.specs.Store.{Shape, Area}
use Rattle.c65_meaning.specs.Shapes.{bare_type, shape_of, object_size, object_in}
use Rattle.c65_meaning.specs.Sites.{cases_of}
use Rattle.c65_meaning.specs.Items.{Item, Both, Either, Choose, Carry, Lay, CarryInto, Wipe, Begin, Branch, Test, Pass, Enter, Next, Check, Select, Leave}

-- a value of this shape is put into an object
abbrev pub store_weight : Shape → ℕ
store_weight (Area size) = suc size
store_weight _ = 1

module _ (u : UnitTy) where
  abbrev mutual
    pub of_expr : Typed → ℕ
    of_expr (node t e) = of_node t e

    pub of_node : QTy → Node → ℕ
    of_node t (deref a) = of_expr a + 1
    of_node t (member a m) = of_expr a + 1
    of_node t (load a) = of_expr a + 1
    of_node t (address a) = of_expr a + 1
    of_node t (decay a) = of_expr a + 1
    of_node t (convert a) = of_expr a + 1
    of_node t (unary op a) = of_expr a + 1
    of_node t (binary op a b) = of_expr a + (of_expr b + 1)
    of_node t (both a b) = of_expr a + (of_expr b + 2)
    of_node t (either a b) = of_expr a + (of_expr b + 2)
    of_node t (choice a b c) = of_expr a + (of_expr b + of_expr c + 1)
    of_node t (comma a b) = of_expr a + (1 + of_expr b)
    of_node t (assign a b) = of_expr a + (of_expr b + 1)
    of_node t (assign_op op ct a b) = of_expr a + (1 + (of_expr b + 2))
    of_node t (assign_step op a b) = of_expr a + (1 + (of_expr b + 2))
    of_node t (step kind a) = of_expr a + 3
    of_node t (copy a b) = of_expr a + (of_expr b + suc (size_of u.types (bare_type a)))
    of_node t (call f args) = of_expr f + (of_exprs args + 1)
    of_node t (pack a) = of_expr a + 1
    of_node t (spill i a) = of_expr a + suc (size_of u.types (type_in t))
    of_node t _ = 1

    pub of_exprs : Nodes → ℕ
    of_exprs none = 0
    of_exprs (some e es) = of_expr e + of_exprs es

  abbrev pub of_maybe : MaybeTyped → ℕ
  of_maybe absent = 1
  of_maybe (present e) = of_expr e + 2

  abbrev pub of_first : MaybeTyped → ℕ
  of_first absent = 0
  of_first (present e) = of_expr e + 1

  -- a test before the work of a body and of what follows it
  abbrev pub of_test : MaybeTyped → ℕ
  of_test absent = 0
  of_test (present e) = of_expr e

  abbrev pub of_given : MaybeTyped → ℕ
  of_given absent = 1
  of_given (present e) = of_expr e + 1

  abbrev mutual
    pub of_stmt : Stmt → ℕ
    of_stmt (eval e) = of_expr e + 1
    of_stmt (set_part i o e) = of_expr e + store_weight (shape_of u.types (bare_type e))
    of_stmt (clear i) = suc (object_size u.types (object_in u i))
    of_stmt (block objects ss) = of_stmts ss + 2
    of_stmt (if_stmt e a b) = of_expr e + (of_stmt a + of_stmt b + 1)
    of_stmt (while e s) = of_expr e + (of_stmt s + 2)
    of_stmt (do_while s e) = of_stmt s + (of_expr e + 2) + 1
    of_stmt (for_loop i c x s) = of_first i + (of_test c + (of_stmt s + of_maybe x + 1))
    of_stmt (switch e s) = of_expr e + (cases_of s + of_stmt s + 2)
    of_stmt (case v s) = of_stmt s
    of_stmt (default s) = of_stmt s
    of_stmt (label l s) = of_stmt s
    of_stmt (return o) = of_given o
    of_stmt _ = 1

    pub of_stmts : Stmts → ℕ
    of_stmts no_stmts = 0
    of_stmts (and_stmts s ss) = of_stmt s + of_stmts ss

  -- up to the end of the active call
  abbrev pub weight : List Item → ℕ
  weight [] = 0
  weight (Both b ∷ k) = of_expr b + 2 + weight k
  weight (Either b ∷ k) = of_expr b + 2 + weight k
  weight (Choose a b ∷ k) = of_expr a + of_expr b + 1 + weight k
  weight (Carry done size ∷ k) = suc (size - done) + weight k
  weight (Lay i done size ∷ k) = suc (size - done) + weight k
  weight (CarryInto i o done size ∷ k) = suc (size - done) + weight k
  weight (Wipe i done size ∷ k) = suc (size - done) + weight k
  weight (Begin n objects ss ∷ k) = of_stmts ss + 2 + weight k
  weight (Branch m a n b ∷ k) = of_stmt a + of_stmt b + 1 + weight k
  weight (Test l ∷ k) = of_stmt l.body + of_maybe l.next + 1 + weight k
  weight (Pass l ∷ k) = of_stmt l.body + of_maybe l.next + 1 + weight k
  weight (Enter l ∷ k) = of_stmt l.body + of_maybe l.test + 1 + weight k
  weight (Next l ∷ k) = of_maybe l.next + weight k
  weight (Check l ∷ k) = of_maybe l.test + weight k
  weight (Select left n body ∷ k) = left + of_stmt body + 2 + weight k
  weight (Leave ∷ k) = 1
  weight (_ ∷ k) = 1 + weight k
