use Rattle.c65_agree_state.proofs.Tests.{constant_tests_do}
use Rattle.c65_agree_state.proofs.laws.constant_tests_do.Goals as goal

pub returns : goal.returns
returns c = constant_tests_do
