use Rattle.c65_agree_step.specs.Ways.{Passes}
use Rattle.c65_agree_step.proofs.Ways.{jumps_go}
use Rattle.c65_agree_step.proofs.laws.jumps_go.Goals as goal

pub returns : goal.returns
returns c = λ test. jumps_go (Passes test)
