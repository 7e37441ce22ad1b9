use Rattle.c65_parse_law_faults.proofs.Whole.{statements_are_refused}
use Rattle.c65_parse_law_faults.proofs.laws.statements_are_refused.Goals as goal

pub returns : goal.returns
returns c = statements_are_refused
