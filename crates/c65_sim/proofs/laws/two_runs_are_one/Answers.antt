use Rattle.c65_sim.proofs.SumLaws.{joined}
use Rattle.c65_sim.proofs.laws.two_runs_are_one.Goals as goal

pub returns : goal.returns
returns c = joined
