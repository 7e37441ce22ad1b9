use Rattle.c65_parse_law_units.proofs.Whole.{inits_are_read, inits_are_one}
use Rattle.c65_parse_law_units.proofs.laws.initialisers_are_read.Goals as goal

pub returns-clause-read : goal.returns-clause-read
returns-clause-read c = inits_are_read

pub returns-clause-one : goal.returns-clause-one
returns-clause-one c = inits_are_one
