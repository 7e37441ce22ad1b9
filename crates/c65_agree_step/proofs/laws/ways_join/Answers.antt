use Rattle.c65_agree_step.specs.Ways.{Passes}
use Rattle.c65_agree_step.proofs.Ways.{ways_join}
use Rattle.c65_agree_step.proofs.laws.ways_join.Goals as goal

pub returns : goal.returns
returns c = λ first second. ways_join (Passes first) (Passes second)
