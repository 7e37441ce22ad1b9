use Rattle.c65_parse_law_units.proofs.Whole.{declarations_are_read, declarations_are_one}
use Rattle.c65_parse_law_units.proofs.laws.declarations_are_read.Goals as goal

pub returns-clause-read : goal.returns-clause-read
returns-clause-read c = declarations_are_read

pub returns-clause-one : goal.returns-clause-one
returns-clause-one c = declarations_are_one
