use Rattle.c65_agree_compare.proofs.Branches.{settlements_branch}
use Rattle.c65_agree_compare.proofs.laws.settlements_branch.Goals as goal

pub returns : goal.returns
returns c = settlements_branch
