use Rattle.c65_agree_variadic_call.proofs.Named.{further_named_calls_are_expressions}
use Rattle.c65_agree_variadic_call.proofs.laws.further_named_calls_are_expressions.Goals as goal

pub returns : goal.returns
returns c = further_named_calls_are_expressions
