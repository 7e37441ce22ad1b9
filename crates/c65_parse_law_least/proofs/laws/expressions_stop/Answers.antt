use Rattle.c65_parse_law_least.proofs.Whole.{exprs_stop}
use Rattle.c65_parse_law_least.proofs.laws.expressions_stop.Goals as goal

pub returns : goal.returns
returns c = exprs_stop
