use Rattle.c65_agree_copy.proofs.Runs.{copies_run}
use Rattle.c65_agree_copy.proofs.laws.copies_run.Goals as goal

pub returns : goal.returns
returns c = copies_run
