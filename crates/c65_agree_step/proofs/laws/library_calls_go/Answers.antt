use Rattle.c65_agree_step.specs.Ways.{Passes}
use Rattle.c65_agree_step.proofs.Ways.{library_calls_go}
use Rattle.c65_agree_step.proofs.laws.library_calls_go.Goals as goal

pub returns : goal.returns
returns c = λ test. library_calls_go (Passes test)
