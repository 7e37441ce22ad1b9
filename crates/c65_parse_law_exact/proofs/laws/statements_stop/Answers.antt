use Rattle.c65_parse_law_exact.proofs.Whole.{statements_stop_at}
use Rattle.c65_parse_law_exact.proofs.laws.statements_stop.Goals as goal

pub returns : goal.returns
returns c = statements_stop_at
