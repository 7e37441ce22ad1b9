use Rattle.c65_parse_law_faults.proofs.Whole.{exprs_are_refused}
use Rattle.c65_parse_law_faults.proofs.laws.expressions_are_refused.Goals as goal

pub returns : goal.returns
returns c = exprs_are_refused
