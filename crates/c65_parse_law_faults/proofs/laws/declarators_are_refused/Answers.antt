use Rattle.c65_parse_law_faults.proofs.Whole.{declarators_are_refused}
use Rattle.c65_parse_law_faults.proofs.laws.declarators_are_refused.Goals as goal

pub returns : goal.returns
returns c = declarators_are_refused
