use Rattle.c65_agree_step.specs.Ways.{Passes}
use Rattle.c65_agree_step.proofs.Ways.{ways_weaken}
use Rattle.c65_agree_step.proofs.laws.ways_weaken.Goals as goal

pub returns : goal.returns
returns c = λ test. ways_weaken (Passes test)
