use Rattle.c65_agree_assigned.proofs.Effects.{assignment_effects_do}
use Rattle.c65_agree_assigned.proofs.laws.assignment_effects_do.Goals as goal

pub returns : goal.returns
returns c = assignment_effects_do
