use Rattle.c65_agree_operate.proofs.Truths.{decisions_test}
use Rattle.c65_agree_operate.proofs.laws.decisions_test.Goals as goal

pub returns : goal.returns
returns c = decisions_test
