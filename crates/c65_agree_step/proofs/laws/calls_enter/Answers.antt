use Rattle.c65_agree_step.specs.Ways.{Passes}
use Rattle.c65_agree_step.proofs.Ways.{calls_enter}
use Rattle.c65_agree_step.proofs.laws.calls_enter.Goals as goal

pub returns : goal.returns
returns c = λ test. calls_enter (Passes test)
