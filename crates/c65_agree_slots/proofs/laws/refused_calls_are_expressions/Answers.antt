use Rattle.c65_agree_slots.proofs.Refused.{refused_calls_are_expressions}
use Rattle.c65_agree_slots.proofs.laws.refused_calls_are_expressions.Goals as goal

pub returns : goal.returns
returns c = refused_calls_are_expressions
