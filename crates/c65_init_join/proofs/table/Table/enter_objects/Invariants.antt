use Rattle.std.proofs.Common.{◌≡◌, map, drop}
use Rattle.c65_csem.specs.Views.{object_of}
use Rattle.c65_init_join.specs.Tables.{all_entered, objects_declared, table_of}
use Rattle.c65_init_join.proofs.table.Table.enter_objects.Given as goal

abbrev pub invariant-loop-i : goal.invariant-loop-i
invariant-loop-i l = all_entered (table_of l.self) (objects_declared l.unit l.i (map object_of (drop l.i l.objects))) ≡ all_entered (table_of l.fn.self) (objects_declared l.unit 0 (map object_of l.objects))
