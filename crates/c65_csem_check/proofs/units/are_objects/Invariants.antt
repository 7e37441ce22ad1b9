use Rattle.std.proofs.Common.{◌≡◌, ◌≤◌, drop, length, map, nat_le}
use Rattle.c65_csem.specs.Views.{typed_of, nodes_of, object_of, func_of, unit_of}
use Rattle.c65_csem_check.specs.Units as b
use Rattle.c65_csem_check.proofs.units.are_objects.Given as goal

abbrev pub invariant-loop-object : goal.invariant-loop-object
invariant-loop-object l = b.are_objects (unit_of l.parts) (map object_of (drop l.object-index l.object-items)) ≡ b.are_objects (unit_of l.parts) (unit_of l.parts).objects
