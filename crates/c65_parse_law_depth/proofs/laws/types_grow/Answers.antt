use Rattle.c65_parse_law_depth.proofs.Readings.{types_grow}
use Rattle.c65_parse_law_depth.proofs.laws.types_grow.Goals as goal

pub returns : goal.returns
returns c = types_grow
