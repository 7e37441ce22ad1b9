use Rattle.c65_parse_law_depth.proofs.Readings.{exprs_grow}
use Rattle.c65_parse_law_depth.proofs.laws.expressions_grow.Goals as goal

pub returns : goal.returns
returns c = exprs_grow
