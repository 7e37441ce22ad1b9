use Rattle.c65_parse_law_faults.proofs.Whole.{answered}
use Rattle.c65_parse_law_faults.proofs.calls.refuse_unit.Goals as goal

pub returns : goal.returns
returns c = answered 256 _ c.parse_unit.result _ c.requires c.parse_unit.ensures
