use Rattle.std.proofs.Common.{◌≡◌, map, drop}
use Rattle.c65_init_join.specs.Items.{items_of}
use Rattle.c65_init_join.specs.Joined.{all_used}
use Rattle.c65_init_join.specs.Tables.{table_of}
use Rattle.c65_init_join.proofs.program.enter_uses.Given as goal

abbrev pub invariant-loop-unit : goal.invariant-loop-unit
invariant-loop-unit l = all_used l.names (map items_of (drop l.unit-index l.units)) (table_of l.table) ≡ all_used l.names (map items_of l.units) (table_of l.fn.table)
