use Rattle.c65_code.proofs.WeightLaws.{runs_weigh}
use Rattle.c65_code.proofs.laws.runs_weigh.Goals as goal

pub returns : goal.returns
returns c = runs_weigh
