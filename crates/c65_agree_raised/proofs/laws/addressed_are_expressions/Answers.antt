use Rattle.c65_agree_raised.proofs.Objects.{addressed_are_expressions}
use Rattle.c65_agree_raised.proofs.laws.addressed_are_expressions.Goals as goal

pub returns : goal.returns
returns c = addressed_are_expressions
