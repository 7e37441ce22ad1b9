use Rattle.c65_agree_between.proofs.Between.{between_is_ready}
use Rattle.c65_agree_between.proofs.laws.between_is_ready.Goals as goal

pub returns : goal.returns
returns c = between_is_ready
