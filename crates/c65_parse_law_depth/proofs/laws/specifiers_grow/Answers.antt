use Rattle.c65_parse_law_depth.proofs.Readings.{specifiers_grow}
use Rattle.c65_parse_law_depth.proofs.laws.specifiers_grow.Goals as goal

pub returns : goal.returns
returns c = specifiers_grow
