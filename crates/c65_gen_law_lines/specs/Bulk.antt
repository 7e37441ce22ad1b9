-- How large a program is, by its nodes: the expressions, statements, objects, parameters and functions.
use Rattle.std.specs.Prelude.{ℕ, ◌+◌, Option, None, Some, List, [], ◌∷◌, length}
use Rattle.c65_csem.specs.declared.items.TFunc.{TFunc}
use Rattle.c65_csem.specs.Views.{func_of}
use Rattle.c65_csem.specs.Trees.{Typed, node, Node, constant, null, literal, object, func, deref, member, load, address, decay, convert, unary, binary, both, either, choice, comma, assign, assign_op, assign_step, step, copy, call, pack, spill, rest, Nodes, none, some, MaybeTyped, absent, present, Stmt, eval, set_part, block, if_stmt, while, do_while, for_loop, switch, case, default, label, return, Stmts, no_stmts, and_stmts, FuncTy}

abbrev mutual
  -- the expressions in an expression, itself among them
  pub nodes : Typed → ℕ
  nodes (node t n) = node_nodes n

  pub node_nodes : Node → ℕ
  node_nodes (constant z) = 1
  node_nodes null = 1
  node_nodes (literal n) = 1
  node_nodes (object i) = 1
  node_nodes (func i) = 1
  node_nodes (deref e) = 1 + nodes e
  node_nodes (member e m) = 1 + nodes e
  node_nodes (load e) = 1 + nodes e
  node_nodes (address e) = 1 + nodes e
  node_nodes (decay e) = 1 + nodes e
  node_nodes (convert e) = 1 + nodes e
  node_nodes (unary op e) = 1 + nodes e
  node_nodes (binary op a b) = 1 + (nodes a + nodes b)
  node_nodes (both a b) = 1 + (nodes a + nodes b)
  node_nodes (either a b) = 1 + (nodes a + nodes b)
  node_nodes (choice c a b) = 1 + (nodes c + (nodes a + nodes b))
  node_nodes (comma a b) = 1 + (nodes a + nodes b)
  node_nodes (assign a b) = 1 + (nodes a + nodes b)
  node_nodes (assign_op op k a b) = 1 + (nodes a + nodes b)
  node_nodes (assign_step op a b) = 1 + (nodes a + nodes b)
  node_nodes (step how e) = 1 + nodes e
  node_nodes (copy a b) = 1 + (nodes a + nodes b)
  node_nodes (call f es) = 1 + (nodes f + nodes_in es)
  node_nodes (pack e) = 1 + nodes e
  node_nodes (spill i e) = 1 + nodes e
  node_nodes rest = 1

  pub nodes_in : Nodes → ℕ
  nodes_in none = 0
  nodes_in (some e es) = nodes e + nodes_in es

abbrev pub maybe_nodes : MaybeTyped → ℕ
maybe_nodes absent = 0
maybe_nodes (present e) = nodes e

abbrev mutual
  -- the statements, objects and expressions in a statement, itself among them
  pub statement_nodes : Stmt → ℕ
  statement_nodes (eval e) = 1 + nodes e
  statement_nodes (set_part i offset e) = 1 + nodes e
  statement_nodes (block os ss) = 1 + (length os + statements_nodes ss)
  statement_nodes (if_stmt e a b) = 1 + (nodes e + (statement_nodes a + statement_nodes b))
  statement_nodes (while e a) = 1 + (nodes e + statement_nodes a)
  statement_nodes (do_while a e) = 1 + (statement_nodes a + nodes e)
  statement_nodes (for_loop i c n a) = 1 + (maybe_nodes i + (maybe_nodes c + (maybe_nodes n + statement_nodes a)))
  statement_nodes (switch e a) = 1 + (nodes e + statement_nodes a)
  statement_nodes (case z a) = 1 + statement_nodes a
  statement_nodes (default a) = 1 + statement_nodes a
  statement_nodes (label n a) = 1 + statement_nodes a
  statement_nodes (return e) = 1 + maybe_nodes e
  statement_nodes _ = 1

  pub statements_nodes : Stmts → ℕ
  statements_nodes no_stmts = 0
  statements_nodes (and_stmts a ss) = statement_nodes a + statements_nodes ss

-- the nodes of a function that has a body: the function, its parameters and its body's
abbrev pub body_nodes : FuncTy → Option Stmt → ℕ
body_nodes g None = 0
body_nodes g (Some body) = 1 + (length g.params + statement_nodes body)

abbrev pub function_nodes : FuncTy → ℕ
function_nodes g = body_nodes g g.body

abbrev pub functions_nodes : List TFunc → ℕ
functions_nodes [] = 0
functions_nodes (g ∷ gs) = function_nodes (func_of g) + functions_nodes gs
