use Rattle.c65_agree_compare.proofs.Branches.{branches_are_tests}
use Rattle.c65_agree_compare.proofs.laws.branches_are_tests.Goals as goal

pub returns : goal.returns
returns c = branches_are_tests
