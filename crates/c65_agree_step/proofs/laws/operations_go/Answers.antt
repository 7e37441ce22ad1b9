use Rattle.c65_agree_step.specs.Ways.{Passes}
use Rattle.c65_agree_step.proofs.Ways.{operations_go}
use Rattle.c65_agree_step.proofs.laws.operations_go.Goals as goal

pub returns : goal.returns
returns c = λ test. operations_go (Passes test)
