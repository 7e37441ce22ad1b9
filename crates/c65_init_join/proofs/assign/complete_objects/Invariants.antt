use Rattle.std.proofs.Common.{◌≡◌, ◌++◌, map, drop}
use Rattle.c65_csem.specs.Views.{object_of}
use Rattle.c65_init_join.specs.Numbers.{completed_objects}
use Rattle.c65_init_join.specs.Tables.{table_of}
use Rattle.c65_init_join.proofs.assign.complete_objects.Given as goal

abbrev pub invariant-loop-i : goal.invariant-loop-i
invariant-loop-i l = l.numbers.items ++ completed_objects (table_of l.table) l.given l.i (map object_of (drop l.i l.objects)) ≡ completed_objects (table_of l.table) l.given 0 (map object_of l.objects)
