use Rattle.c65_parse_law_depth.proofs.Inits.{initialisers_grow}
use Rattle.c65_parse_law_depth.proofs.laws.initialisers_grow.Goals as goal

pub returns : goal.returns
returns c = initialisers_grow
