use Rattle.c65_link_law_runs.proofs.Runs.{runs_are_followed}
use Rattle.c65_link_law_runs.proofs.laws.runs_are_followed.Goals as goal

pub returns : goal.returns
returns c = runs_are_followed
