-- Counts of statements, of case labels, and of the places from which a turn may come: loops, gotos and calls.
use Rattle.std.specs.Prelude.{ℕ, suc, ◌+◌, List, [], ◌∷◌, Option, Some, None}
use Rattle.c65_csem.specs.Trees.{Typed, node, Node, deref, member, load, address, decay, convert, unary, binary, both, either, choice, comma, assign, assign_op, assign_step, step, copy, call, pack, spill, Nodes, none, some, Stmt, empty, eval, set_part, clear, block, if_stmt, while, do_while, for_loop, switch, case, default, label, goto, break, continue, return, Stmts, no_stmts, and_stmts, MaybeTyped, absent, present, FuncTy}
use Rattle.c65_meaning.specs.Program.{ProgramTy}

abbrev mutual
  -- how many statements stand in a statement, itself included
  pub count : Stmt → ℕ
  count (block objs ss) = suc (count_all ss)
  count (if_stmt e a b) = suc (count a + count b)
  count (while e s) = suc (count s)
  count (do_while s e) = suc (count s)
  count (for_loop i c x s) = suc (count s)
  count (switch e s) = suc (count s)
  count (case v s) = suc (count s)
  count (default s) = suc (count s)
  count (label l s) = suc (count s)
  count _ = 1

  pub count_all : Stmts → ℕ
  count_all no_stmts = 0
  count_all (and_stmts s rest) = count s + count_all rest

abbrev mutual
  -- how many case labels belong to a switch with this body
  pub cases_of : Stmt → ℕ
  cases_of (block objs ss) = all_cases_of ss
  cases_of (if_stmt e a b) = cases_of a + cases_of b
  cases_of (while e s) = cases_of s
  cases_of (do_while s e) = cases_of s
  cases_of (for_loop i c x s) = cases_of s
  cases_of (case v s) = suc (cases_of s)
  cases_of (default s) = cases_of s
  cases_of (label l s) = cases_of s
  cases_of _ = 0

  pub all_cases_of : Stmts → ℕ
  all_cases_of no_stmts = 0
  all_cases_of (and_stmts s rest) = cases_of s + all_cases_of rest

abbrev mutual
  -- the calls in an expression
  pub calls : Typed → ℕ
  calls (node t e) = calls_in e

  pub calls_in : Node → ℕ
  calls_in (deref a) = calls a
  calls_in (member a m) = calls a
  calls_in (load a) = calls a
  calls_in (address a) = calls a
  calls_in (decay a) = calls a
  calls_in (convert a) = calls a
  calls_in (unary op a) = calls a
  calls_in (binary op a b) = calls a + calls b
  calls_in (both a b) = calls a + calls b
  calls_in (either a b) = calls a + calls b
  calls_in (choice a b c) = calls a + calls b + calls c
  calls_in (comma a b) = calls a + calls b
  calls_in (assign a b) = calls a + calls b
  calls_in (assign_op op ct a b) = calls a + calls b
  calls_in (assign_step op a b) = calls a + calls b
  calls_in (step kind a) = calls a
  calls_in (copy a b) = calls a + calls b
  calls_in (call f args) = suc (calls f + calls_of_all args)
  calls_in (pack a) = calls a
  calls_in (spill i a) = calls a
  calls_in _ = 0

  pub calls_of_all : Nodes → ℕ
  calls_of_all none = 0
  calls_of_all (some e rest) = calls e + calls_of_all rest

abbrev pub calls_if : MaybeTyped → ℕ
calls_if absent = 0
calls_if (present e) = calls e

abbrev mutual
  -- the loops, gotos and calls in a statement
  pub sites : Stmt → ℕ
  sites empty = 0
  sites (eval e) = calls e
  sites (set_part i o e) = calls e
  sites (clear i) = 0
  sites (block objs ss) = all_sites ss
  sites (if_stmt e a b) = calls e + sites a + sites b
  sites (while e s) = suc (calls e + sites s)
  sites (do_while s e) = suc (sites s + calls e)
  sites (for_loop i c x s) = suc (calls_if i + calls_if c + calls_if x + sites s)
  sites (switch e s) = calls e + sites s
  sites (case v s) = sites s
  sites (default s) = sites s
  sites (label l s) = sites s
  sites (goto l) = 1
  sites break = 0
  sites continue = 0
  sites (return o) = calls_if o

  pub all_sites : Stmts → ℕ
  all_sites no_stmts = 0
  all_sites (and_stmts s rest) = sites s + all_sites rest

abbrev pub sites_if : Option Stmt → ℕ
sites_if None = 0
sites_if (Some body) = sites body

abbrev pub sites_of : List FuncTy → ℕ
sites_of [] = 0
sites_of (f ∷ rest) = sites_if f.body + sites_of rest

-- one more than the loops, gotos and calls of the program
abbrev pub jumps : ProgramTy → ℕ
jumps p = suc (sites_of p.unit.funcs)
