use Rattle.c65_agree_raised.proofs.Rests.{rests_are_expressions}
use Rattle.c65_agree_raised.proofs.laws.rests_are_expressions.Goals as goal

pub returns : goal.returns
returns c = rests_are_expressions
