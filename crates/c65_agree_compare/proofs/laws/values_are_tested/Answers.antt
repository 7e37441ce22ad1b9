use Rattle.c65_agree_compare.proofs.Values.{values_are_tested}
use Rattle.c65_agree_compare.proofs.laws.values_are_tested.Goals as goal

pub returns : goal.returns
returns c = values_are_tested
