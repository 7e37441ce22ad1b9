use Rattle.std.proofs.Common.{◌≡◌, ◌++◌, map, drop}
use Rattle.c65_csem.specs.Views.{object_of}
use Rattle.c65_init_join.specs.Numbers.{kept_objects}
use Rattle.c65_init_join.specs.Tables.{table_of}
use Rattle.c65_init_join.proofs.assign.kept_objects.Given as goal

abbrev pub invariant-loop-i : goal.invariant-loop-i
invariant-loop-i l = l.kept.items ++ kept_objects (table_of l.table) l.unit l.i (map object_of (drop l.i l.objects)) ≡ kept_objects (table_of l.table) l.unit 0 (map object_of l.objects)
