use Rattle.c65_parse_law_faults.proofs.Whole.{types_are_refused}
use Rattle.c65_parse_law_faults.proofs.laws.types_are_refused.Goals as goal

pub returns : goal.returns
returns c = types_are_refused
