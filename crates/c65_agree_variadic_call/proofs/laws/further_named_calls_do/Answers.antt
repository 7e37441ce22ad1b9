use Rattle.c65_agree_variadic_call.proofs.Named.{further_named_calls_do}
use Rattle.c65_agree_variadic_call.proofs.laws.further_named_calls_do.Goals as goal

pub returns : goal.returns
returns c = further_named_calls_do
