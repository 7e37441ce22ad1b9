use Rattle.c65_agree_invoke.proofs.Expressions.{pointer_calls_are_expressions}
use Rattle.c65_agree_invoke.proofs.laws.pointer_calls_are_expressions.Goals as goal

pub returns : goal.returns
returns c = pointer_calls_are_expressions
