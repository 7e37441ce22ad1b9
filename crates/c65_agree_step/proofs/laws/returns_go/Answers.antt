use Rattle.c65_agree_step.specs.Ways.{Passes}
use Rattle.c65_agree_step.proofs.Ways.{returns_go}
use Rattle.c65_agree_step.proofs.laws.returns_go.Goals as goal

pub returns : goal.returns
returns c = λ test. returns_go (Passes test)
