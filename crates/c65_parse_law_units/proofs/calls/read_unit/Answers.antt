use Rattle.c65_parse_law_units.proofs.Whole.{accepted}
use Rattle.c65_parse_law_units.proofs.calls.read_unit.Goals as goal

pub returns : goal.returns
returns c = accepted 256 _ c.parse_unit.result _ c.parse_unit.ensures
