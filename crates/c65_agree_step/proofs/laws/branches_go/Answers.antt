use Rattle.c65_agree_step.specs.Ways.{Passes}
use Rattle.c65_agree_step.proofs.Ways.{branches_go}
use Rattle.c65_agree_step.proofs.laws.branches_go.Goals as goal

pub returns : goal.returns
returns c = λ test. branches_go (Passes test)
