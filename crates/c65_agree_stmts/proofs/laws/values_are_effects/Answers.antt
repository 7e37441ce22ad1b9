use Rattle.c65_agree_stmts.proofs.Effects.{values_are_effects}
use Rattle.c65_agree_stmts.proofs.laws.values_are_effects.Goals as goal

pub returns : goal.returns
returns c = values_are_effects
