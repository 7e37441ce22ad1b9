use Rattle.std.proofs.Common.{◌≡◌, map, drop}
use Rattle.c65_csem.specs.Views.{object_of}
use Rattle.c65_init_join.specs.Numbers.{objects_noted}
use Rattle.c65_init_join.specs.Tables.{table_of}
use Rattle.c65_init_join.proofs.assign.note_objects.Given as goal

abbrev pub invariant-loop-i : goal.invariant-loop-i
invariant-loop-i l = objects_noted l.given l.i (map object_of (drop l.i l.objects)) (table_of l.table) ≡ objects_noted l.given 0 (map object_of l.objects) (table_of l.fn.table)
