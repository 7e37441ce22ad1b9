use Rattle.std.proofs.Common.{◌≡◌, ◌≤◌, drop, length, map, nat_le}
use Rattle.c65_csem.specs.Views.{typed_of, nodes_of, object_of, func_of, unit_of}
use Rattle.c65_ctype.specs.Views.{qtys_of, fn_of}
use Rattle.c65_csem_check.specs.Units as b
use Rattle.c65_csem_check.proofs.units.params_match.Given as goal

abbrev pub invariant-loop-i : goal.invariant-loop-i
invariant-loop-i l = record {
  within : l.i ≤ length l.params;
  so_far : b.params_match (unit_of l.parts) (qtys_of (drop l.i l.types)) (drop l.i l.params) ≡ b.params_match (unit_of l.parts) (qtys_of l.types) l.params;
}
