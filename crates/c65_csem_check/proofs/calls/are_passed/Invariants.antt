use Rattle.std.proofs.Common.{◌≡◌, ◌≤◌, drop, length, map, nat_le}
use Rattle.c65_ctype.specs.Views.{types_of}
use Rattle.c65_csem.specs.Views.{typed_of, nodes_of, object_of, func_of, unit_of}
use Rattle.c65_csem_check.specs.Expressions as b
use Rattle.c65_csem_check.proofs.calls.are_passed.Given as goal

abbrev pub invariant-loop-argument : goal.invariant-loop-argument
invariant-loop-argument l = b.are_passed (types_of l.types) (nodes_of (drop l.argument-index l.arguments)) ≡ b.are_passed (types_of l.types) (nodes_of l.arguments)
