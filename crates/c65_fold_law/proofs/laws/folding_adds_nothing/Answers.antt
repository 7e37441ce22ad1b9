use Rattle.c65_fold_law.proofs.Runs.{folding_adds_nothing as the_law, folding_adds_nothing_free as the_free_law}
use Rattle.c65_fold_law.proofs.laws.folding_adds_nothing.Goals as goal

pub returns-clause-checked : goal.returns-clause-checked
returns-clause-checked c = the_law

pub returns-clause-free : goal.returns-clause-free
returns-clause-free c = the_free_law
