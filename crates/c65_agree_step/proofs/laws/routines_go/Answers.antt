use Rattle.c65_agree_step.specs.Ways.{Passes}
use Rattle.c65_agree_step.proofs.Ways.{routines_go}
use Rattle.c65_agree_step.proofs.laws.routines_go.Goals as goal

pub returns : goal.returns
returns c = λ test. routines_go (Passes test)
