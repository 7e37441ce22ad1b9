use Rattle.c65_parse_law_units.proofs.Whole.{statements_are_read, statements_are_one}
use Rattle.c65_parse_law_units.proofs.laws.statements_are_read.Goals as goal

pub returns-clause-read : goal.returns-clause-read
returns-clause-read c = statements_are_read

pub returns-clause-one : goal.returns-clause-one
returns-clause-one c = statements_are_one
