use Rattle.c65_agree_step.specs.Ways.{Passes}
use Rattle.c65_agree_step.proofs.Ways.{pushes_go}
use Rattle.c65_agree_step.proofs.laws.pushes_go.Goals as goal

pub returns : goal.returns
returns c = λ test. pushes_go (Passes test)
