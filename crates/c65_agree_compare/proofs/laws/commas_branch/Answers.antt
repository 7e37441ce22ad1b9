use Rattle.c65_agree_compare.proofs.Choices.{commas_branch}
use Rattle.c65_agree_compare.proofs.laws.commas_branch.Goals as goal

pub returns : goal.returns
returns c = commas_branch
