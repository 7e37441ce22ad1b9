use Rattle.std.proofs.Common.{◌≡◌, ◌≤◌, drop, length, map, nat_le}
use Rattle.c65_csem.specs.Views.{typed_of, nodes_of, object_of, func_of, unit_of}
use Rattle.c65_csem_check.specs.Units as b
use Rattle.c65_csem_check.proofs.units.are_linked.Given as goal

abbrev pub invariant-loop-func : goal.invariant-loop-func
invariant-loop-func l = b.are_linked (map func_of (drop l.func-index l.funcs)) ≡ b.are_linked (map func_of l.funcs)
