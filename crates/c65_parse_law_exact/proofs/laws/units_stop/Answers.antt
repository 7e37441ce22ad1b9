use Rattle.c65_parse_law_exact.proofs.Whole.{units_stop_at}
use Rattle.c65_parse_law_exact.proofs.laws.units_stop.Goals as goal

pub returns : goal.returns
returns c = units_stop_at
