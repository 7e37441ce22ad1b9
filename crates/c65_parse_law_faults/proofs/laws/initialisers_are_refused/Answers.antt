use Rattle.c65_parse_law_faults.proofs.Whole.{inits_are_refused}
use Rattle.c65_parse_law_faults.proofs.laws.initialisers_are_refused.Goals as goal

pub returns : goal.returns
returns c = inits_are_refused
