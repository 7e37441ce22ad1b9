use Rattle.c65_agree_stmts.proofs.Effects.{effects_join}
use Rattle.c65_agree_stmts.proofs.laws.effects_join.Goals as goal

pub returns : goal.returns
returns c = effects_join
