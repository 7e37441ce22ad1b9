use Rattle.std.proofs.Common.{◌≡◌, ◌≤◌, drop, length, map, nat_le}
use Rattle.c65_csem.specs.Views.{typed_of, nodes_of, object_of, func_of, unit_of}
use Rattle.c65_csem_check.specs.Units as b
use Rattle.c65_csem_check.proofs.units.are_funcs.Given as goal

abbrev pub invariant-loop-func : goal.invariant-loop-func
invariant-loop-func l = b.are_funcs (unit_of l.parts) (map func_of (drop l.func-index l.func-items)) ≡ b.are_funcs (unit_of l.parts) (unit_of l.parts).funcs
