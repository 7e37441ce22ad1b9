use Rattle.c65_agree_invoke.proofs.Reaching.{reaching_calls_are_expressions}
use Rattle.c65_agree_invoke.proofs.laws.reaching_calls_are_expressions.Goals as goal

pub returns : goal.returns
returns c = reaching_calls_are_expressions
