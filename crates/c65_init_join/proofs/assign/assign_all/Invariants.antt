use Rattle.std.proofs.Common.{◌≡◌, ◌++◌, map, drop}
use Rattle.c65_init_join.specs.Items.{items_of}
use Rattle.c65_init_join.specs.Numbers.{all_assigned, all_noted, assigned_of, counts_of, no_counts}
use Rattle.c65_init_join.specs.Tables.{table_of}
use Rattle.c65_init_join.proofs.assign.assign_all.Given as goal

abbrev pub invariant-loop-i : goal.invariant-loop-i
invariant-loop-i l = record {
  assigned : map assigned_of l.all.items ++ all_assigned l.names l.i (counts_of l.counts) (map items_of (drop l.i l.units)) (table_of l.table) ≡ all_assigned l.names 0 no_counts (map items_of l.units) (table_of l.fn.table);
  table : all_noted l.names l.i (counts_of l.counts) (map items_of (drop l.i l.units)) (table_of l.table) ≡ all_noted l.names 0 no_counts (map items_of l.units) (table_of l.fn.table);
}
