use Rattle.c65_agree_compare.proofs.Branches.{branches_test}
use Rattle.c65_agree_compare.proofs.laws.branches_test.Goals as goal

pub returns : goal.returns
returns c = branches_test
