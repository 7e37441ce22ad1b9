use Rattle.c65_agree_invoke.proofs.Named.{named_calls_do}
use Rattle.c65_agree_invoke.proofs.laws.named_calls_do.Goals as goal

pub returns : goal.returns
returns c = named_calls_do
