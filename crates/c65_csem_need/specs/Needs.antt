-- How many values wait while expressions are evaluated, read off the source alone.
use Rattle.std.specs.Prelude.{ℕ, ◌+◌, max}
use Rattle.c65_csem.specs.Trees.{Typed, node, Node, deref, member, load, address, decay, convert, unary, binary, both, either, choice, comma, assign, assign_op, assign_step, step, copy, call, pack, spill, Nodes, none, some, Stmt, eval, set_part, block, if_stmt, while, do_while, for_loop, switch, case, default, label, return, Stmts, no_stmts, and_stmts, MaybeTyped, absent, present}

abbrev mutual
  -- the greatest number of values that wait while an expression is evaluated
  pub need : Typed → ℕ
  need (node t e) = need_in e

  pub need_in : Node → ℕ
  need_in (deref a) = need a
  need_in (member a m) = need a
  need_in (load a) = need a
  need_in (address a) = need a
  need_in (decay a) = need a
  need_in (convert a) = need a
  need_in (unary op a) = need a
  need_in (binary op a b) = max (need a) (1 + need b)
  need_in (both a b) = max (need a) (1 + need b)
  need_in (either a b) = max (need a) (1 + need b)
  need_in (choice a b c) = max (need a) (max (need b) (need c))
  need_in (comma a b) = max (need a) (1 + need b)
  need_in (assign a b) = max (need a) (1 + need b)
  need_in (assign_op op ct a b) = max (need a) (1 + need b)
  need_in (assign_step op a b) = max (need a) (1 + need b)
  need_in (step kind a) = need a
  need_in (copy a b) = max (need a) (1 + need b)
  need_in (call f args) = max (need f) (need_of_all args)
  need_in (pack a) = need a
  need_in (spill i a) = need a
  need_in _ = 0

  -- the greatest of i and the need of argument i together, i from 1
  pub need_of_all : Nodes → ℕ
  need_of_all none = 0
  need_of_all (some e rest) = 1 + max (need e) (need_of_all rest)

abbrev pub need_if : MaybeTyped → ℕ
need_if absent = 0
need_if (present e) = need e

abbrev mutual
  -- the greatest need of the expressions in a statement
  pub greatest_need : Stmt → ℕ
  greatest_need (eval e) = need e
  greatest_need (set_part i o e) = need e
  greatest_need (block objs ss) = greatest_need_of_all ss
  greatest_need (if_stmt e a b) = max (need e) (max (greatest_need a) (greatest_need b))
  greatest_need (while e s) = max (need e) (greatest_need s)
  greatest_need (do_while s e) = max (greatest_need s) (need e)
  greatest_need (for_loop i c x s) = max (max (need_if i) (need_if c)) (max (need_if x) (greatest_need s))
  greatest_need (switch e s) = max (need e) (greatest_need s)
  greatest_need (case v s) = greatest_need s
  greatest_need (default s) = greatest_need s
  greatest_need (label l s) = greatest_need s
  greatest_need (return o) = need_if o
  greatest_need _ = 0

  pub greatest_need_of_all : Stmts → ℕ
  greatest_need_of_all no_stmts = 0
  greatest_need_of_all (and_stmts s rest) = max (greatest_need s) (greatest_need_of_all rest)
