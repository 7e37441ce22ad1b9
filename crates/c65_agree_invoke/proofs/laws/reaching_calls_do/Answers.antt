use Rattle.c65_agree_invoke.proofs.Reaching.{reaching_calls_do}
use Rattle.c65_agree_invoke.proofs.laws.reaching_calls_do.Goals as goal

pub returns : goal.returns
returns c = reaching_calls_do
