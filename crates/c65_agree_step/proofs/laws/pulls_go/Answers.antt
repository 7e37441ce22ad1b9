use Rattle.c65_agree_step.specs.Ways.{Passes}
use Rattle.c65_agree_step.proofs.Ways.{pulls_go}
use Rattle.c65_agree_step.proofs.laws.pulls_go.Goals as goal

pub returns : goal.returns
returns c = λ test. pulls_go (Passes test)
