use Rattle.c65_agree_step.specs.Ways.{Passes}
use Rattle.c65_agree_step.proofs.Ways.{main_ends}
use Rattle.c65_agree_step.proofs.laws.main_ends.Goals as goal

pub returns : goal.returns
returns c = λ test. main_ends (Passes test)
