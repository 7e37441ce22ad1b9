use Rattle.c65_meaning_law.proofs.Start.{programs_fit as the_law, free_programs_fit as the_free_law}
use Rattle.c65_meaning_law.proofs.laws.programs_fit.Goals as goal

pub returns-clause-checked : goal.returns-clause-checked
returns-clause-checked c = the_law

pub returns-clause-free : goal.returns-clause-free
returns-clause-free c = the_free_law
