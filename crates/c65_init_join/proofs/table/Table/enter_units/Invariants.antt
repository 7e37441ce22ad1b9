use Rattle.std.proofs.Common.{◌≡◌, map, drop}
use Rattle.c65_init_join.specs.Items.{items_of}
use Rattle.c65_init_join.specs.Tables.{all_declared, all_entered, table_of}
use Rattle.c65_init_join.proofs.table.Table.enter_units.Given as goal

abbrev pub invariant-loop-i : goal.invariant-loop-i
invariant-loop-i l = all_entered (table_of l.self) (all_declared l.i (map items_of (drop l.i l.units))) ≡ all_entered (table_of l.fn.self) (all_declared 0 (map items_of l.units))
