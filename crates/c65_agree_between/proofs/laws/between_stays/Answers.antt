use Rattle.c65_agree_between.proofs.Between.{between_stays}
use Rattle.c65_agree_between.proofs.laws.between_stays.Goals as goal

pub returns : goal.returns
returns c = between_stays
