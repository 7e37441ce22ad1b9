use Rattle.c65_parse_law_exact.proofs.Whole.{declarations_stop_at}
use Rattle.c65_parse_law_exact.proofs.laws.declarations_stop.Goals as goal

pub returns : goal.returns
returns c = declarations_stop_at
