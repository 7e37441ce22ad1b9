use Rattle.std.proofs.Common.{◌∙◌}
use Rattle.c65_init_join.specs.Tables.{table_of}
use Rattle.c65_init_join.proofs.TurnLaws.{units_next}
use Rattle.c65_init_join.proofs.table.Table.enter_units.Goals as goal

pub loop-i-preserved : goal.loop-i-preserved
loop-i-preserved c =
    units_next (table_of c.loop-i.self) (table_of c.enter_unit.new.self) c.args.units.now c.loop-i.i c.in_ok-number.number c.index-units-i.result c.loop-i-test.true c.index-units-i.is c.in_ok-number.ensures c.in_ok-enter_unit.ensures ∙ c.loop-i.invariant
