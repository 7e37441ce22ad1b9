use Rattle.c65_agree_choice.proofs.Ranges.{cases_are_of_type}
use Rattle.c65_agree_choice.proofs.laws.cases_are_of_type.Goals as goal

pub returns : goal.returns
returns c = cases_are_of_type
