use Rattle.c65_parse_law_faults.proofs.Whole.{units_are_refused}
use Rattle.c65_parse_law_faults.proofs.laws.units_are_refused.Goals as goal

pub returns : goal.returns
returns c = units_are_refused
