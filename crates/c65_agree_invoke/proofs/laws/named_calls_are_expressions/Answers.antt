use Rattle.c65_agree_invoke.proofs.Expressions.{named_calls_are_expressions}
use Rattle.c65_agree_invoke.proofs.laws.named_calls_are_expressions.Goals as goal

pub returns : goal.returns
returns c = named_calls_are_expressions
