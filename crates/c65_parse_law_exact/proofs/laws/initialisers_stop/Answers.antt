use Rattle.c65_parse_law_exact.proofs.Whole.{inits_stop_at}
use Rattle.c65_parse_law_exact.proofs.laws.initialisers_stop.Goals as goal

pub returns : goal.returns
returns c = inits_stop_at
