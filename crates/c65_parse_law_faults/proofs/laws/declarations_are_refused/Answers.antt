use Rattle.c65_parse_law_faults.proofs.Whole.{declarations_are_refused}
use Rattle.c65_parse_law_faults.proofs.laws.declarations_are_refused.Goals as goal

pub returns : goal.returns
returns c = declarations_are_refused
