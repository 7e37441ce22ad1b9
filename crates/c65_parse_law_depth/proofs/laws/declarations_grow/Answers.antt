use Rattle.c65_parse_law_depth.proofs.Decls.{declarations_grow}
use Rattle.c65_parse_law_depth.proofs.laws.declarations_grow.Goals as goal

pub returns : goal.returns
returns c = declarations_grow
