use Rattle.c65_agree_step.specs.Ways.{Passes}
use Rattle.c65_agree_step.proofs.Ways.{pointer_calls_enter}
use Rattle.c65_agree_step.proofs.laws.pointer_calls_enter.Goals as goal

pub returns : goal.returns
returns c = λ test. pointer_calls_enter (Passes test)
