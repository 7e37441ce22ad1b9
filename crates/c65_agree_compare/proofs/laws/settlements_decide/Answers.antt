use Rattle.c65_agree_compare.proofs.Branches.{settlements_decide}
use Rattle.c65_agree_compare.proofs.laws.settlements_decide.Goals as goal

pub returns : goal.returns
returns c = settlements_decide
