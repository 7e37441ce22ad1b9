use Rattle.c65_agree_invoke.proofs.Reaching.{pointer_calls_do}
use Rattle.c65_agree_invoke.proofs.laws.pointer_calls_do.Goals as goal

pub returns : goal.returns
returns c = pointer_calls_do
