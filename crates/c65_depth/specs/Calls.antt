-- The calls in bodies (C90 6.3.2.2): which function each one names, and how many bytes it passes.
use Rattle.std.specs.Prelude.{ℕ, min, List, [], ◌∷◌, ◌++◌, Option, Some, None}
use Rattle.c65_csem.specs.Trees.{Typed, node, Node, func, deref, member, load, address, decay, convert, unary, binary, both, either, choice, comma, assign, assign_op, assign_step, step, copy, call, pack, spill, Nodes, none, some, Stmt, eval, set_part, block, if_stmt, while, do_while, for_loop, switch, case, default, label, return, Stmts, no_stmts, and_stmts, MaybeTyped, absent, present, UnitTy}
use Rattle.c65_meaning.specs.Shapes.{types_of}
use Rattle.c65_meaning.specs.Costs.{argument_bytes}
use Rattle.c65_depth.specs.declared.calls.Call.{Call}

-- the greatest number of a certificate: what is counted stands still there
abbrev pub most : ℕ
most = 0xffffffffffffffff

-- the function that is called by its name; none where the call goes through a pointer
abbrev pub named : Typed → Option ℕ
named (node t (decay (node s (func f)))) = Some f
named _ = None

module _ (u : UnitTy) where
  abbrev pub call_to : Typed → Nodes → Call
  call_to f args = record { callee = named f; bytes = min (argument_bytes u (types_of args)) most }

  abbrev mutual
    -- the calls in an expression, in their order
    pub calls_in : Typed → List Call
    calls_in (node t e) = calls_in_node e

    pub calls_in_node : Node → List Call
    calls_in_node (deref a) = calls_in a
    calls_in_node (member a m) = calls_in a
    calls_in_node (load a) = calls_in a
    calls_in_node (address a) = calls_in a
    calls_in_node (decay a) = calls_in a
    calls_in_node (convert a) = calls_in a
    calls_in_node (unary op a) = calls_in a
    calls_in_node (binary op a b) = calls_in a ++ calls_in b
    calls_in_node (both a b) = calls_in a ++ calls_in b
    calls_in_node (either a b) = calls_in a ++ calls_in b
    calls_in_node (choice a b c) = calls_in a ++ calls_in b ++ calls_in c
    calls_in_node (comma a b) = calls_in a ++ calls_in b
    calls_in_node (assign a b) = calls_in a ++ calls_in b
    calls_in_node (assign_op op ct a b) = calls_in a ++ calls_in b
    calls_in_node (assign_step op a b) = calls_in a ++ calls_in b
    calls_in_node (step kind a) = calls_in a
    calls_in_node (copy a b) = calls_in a ++ calls_in b
    calls_in_node (call f args) = call_to f args ∷ calls_in f ++ calls_in_all args
    calls_in_node (pack a) = calls_in a
    calls_in_node (spill i a) = calls_in a
    calls_in_node _ = []

    pub calls_in_all : Nodes → List Call
    calls_in_all none = []
    calls_in_all (some e rest) = calls_in e ++ calls_in_all rest

  abbrev pub calls_if : MaybeTyped → List Call
  calls_if absent = []
  calls_if (present e) = calls_in e

  abbrev mutual
    -- the calls in a statement
    pub calls_of : Stmt → List Call
    calls_of (eval e) = calls_in e
    calls_of (set_part i o e) = calls_in e
    calls_of (block objs ss) = calls_of_all ss
    calls_of (if_stmt e a b) = calls_in e ++ calls_of a ++ calls_of b
    calls_of (while e s) = calls_in e ++ calls_of s
    calls_of (do_while s e) = calls_of s ++ calls_in e
    calls_of (for_loop i c x s) = calls_if i ++ calls_if c ++ calls_if x ++ calls_of s
    calls_of (switch e s) = calls_in e ++ calls_of s
    calls_of (case v s) = calls_of s
    calls_of (default s) = calls_of s
    calls_of (label l s) = calls_of s
    calls_of (return o) = calls_if o
    calls_of _ = []

    pub calls_of_all : Stmts → List Call
    calls_of_all no_stmts = []
    calls_of_all (and_stmts s rest) = calls_of s ++ calls_of_all rest
