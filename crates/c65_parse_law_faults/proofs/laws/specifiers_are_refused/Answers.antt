use Rattle.c65_parse_law_faults.proofs.Whole.{specifiers_are_refused}
use Rattle.c65_parse_law_faults.proofs.laws.specifiers_are_refused.Goals as goal

pub returns : goal.returns
returns c = specifiers_are_refused
