use Rattle.c65_parse_law_least.proofs.Whole.{specifiers_stop}
use Rattle.c65_parse_law_least.proofs.laws.specifiers_stop.Goals as goal

pub returns : goal.returns
returns c = specifiers_stop
