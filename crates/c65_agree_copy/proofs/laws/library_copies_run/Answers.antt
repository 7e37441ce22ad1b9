use Rattle.c65_agree_copy.proofs.Apart.{library_copies_run}
use Rattle.c65_agree_copy.proofs.laws.library_copies_run.Goals as goal

pub returns : goal.returns
returns c = library_copies_run
