use Rattle.std.proofs.Common.{◌≡◌, ◌≤◌, ◌+◌, ◌++◌, min, drop, length, map, nat_le}
use Rattle.c65_csem.specs.Views.{typed_of, nodes_of, stmts_of, unit_of}
use Rattle.c65_csem_check.specs.Expressions as b
use Rattle.c65_csem_check.proofs.exprs.+typed.Given as goal

abbrev pub invariant-are_typed-loop-argument : goal.invariant-are_typed-loop-argument
invariant-are_typed-loop-argument l = b.are_typed (unit_of l.parts) (nodes_of (drop l.argument-index l.arguments)) ≡ b.are_typed (unit_of l.parts) (nodes_of l.arguments)
