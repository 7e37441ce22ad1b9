use Rattle.c65_parse_law_least.proofs.Types.{types_stop}
use Rattle.c65_parse_law_least.proofs.laws.types_stop.Goals as goal

pub returns : goal.returns
returns c = types_stop
