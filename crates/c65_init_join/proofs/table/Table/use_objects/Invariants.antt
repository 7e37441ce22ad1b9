use Rattle.std.proofs.Common.{◌≡◌, map, drop}
use Rattle.c65_csem.specs.Views.{object_of}
use Rattle.c65_init_join.specs.Tables.{objects_used, table_of}
use Rattle.c65_init_join.proofs.table.Table.use_objects.Given as goal

abbrev pub invariant-loop-i : goal.invariant-loop-i
invariant-loop-i l = objects_used l.marks l.i (map object_of (drop l.i l.objects)) (table_of l.self) ≡ objects_used l.marks 0 (map object_of l.objects) (table_of l.fn.self)
