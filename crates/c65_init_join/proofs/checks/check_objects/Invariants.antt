use Rattle.std.proofs.Common.{◌≡◌, map, drop}
use Rattle.c65_csem.specs.Views.{object_of}
use Rattle.c65_init_join.specs.Checks.{objects_defined}
use Rattle.c65_init_join.specs.Tables.{table_of}
use Rattle.c65_init_join.proofs.checks.check_objects.Given as goal

abbrev pub invariant-loop-i : goal.invariant-loop-i
invariant-loop-i l = objects_defined l.names (table_of l.table) l.marks l.i (map object_of (drop l.i l.objects)) ≡ objects_defined l.names (table_of l.table) l.marks 0 (map object_of l.objects)
