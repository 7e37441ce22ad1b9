use Rattle.c65_parse_law_depth.proofs.Units.{units_grow}
use Rattle.c65_parse_law_depth.proofs.laws.units_grow.Goals as goal

pub returns : goal.returns
returns c = units_grow
