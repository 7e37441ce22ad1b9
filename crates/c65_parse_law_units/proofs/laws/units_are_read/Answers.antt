use Rattle.c65_parse_law_units.proofs.Whole.{units_are_read, units_are_one}
use Rattle.c65_parse_law_units.proofs.laws.units_are_read.Goals as goal

pub returns-clause-read : goal.returns-clause-read
returns-clause-read c = units_are_read

pub returns-clause-one : goal.returns-clause-one
returns-clause-one c = units_are_one
