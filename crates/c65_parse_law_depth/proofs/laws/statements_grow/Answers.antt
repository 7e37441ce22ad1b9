use Rattle.c65_parse_law_depth.proofs.Statements.{statements_grow}
use Rattle.c65_parse_law_depth.proofs.laws.statements_grow.Goals as goal

pub returns : goal.returns
returns c = statements_grow
