use Rattle.c65_parse_law_least.proofs.Whole.{declarators_stop}
use Rattle.c65_parse_law_least.proofs.laws.declarators_stop.Goals as goal

pub returns : goal.returns
returns c = declarators_stop
