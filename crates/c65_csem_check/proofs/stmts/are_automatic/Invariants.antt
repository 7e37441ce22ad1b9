use Rattle.std.proofs.Common.{◌≡◌, ◌≤◌, drop, length, map, nat_le}
use Rattle.c65_csem.specs.Views.{typed_of, nodes_of, object_of, func_of, unit_of}
use Rattle.c65_csem_check.specs.Statements as b
use Rattle.c65_csem_check.proofs.stmts.are_automatic.Given as goal

abbrev pub invariant-loop-number : goal.invariant-loop-number
invariant-loop-number l = b.are_automatic (unit_of l.parts) (drop l.number-index l.numbers) ≡ b.are_automatic (unit_of l.parts) l.numbers
