use Rattle.c65_parse_law_depth.proofs.Readings.{declarators_grow}
use Rattle.c65_parse_law_depth.proofs.laws.declarators_grow.Goals as goal

pub returns : goal.returns
returns c = declarators_grow
