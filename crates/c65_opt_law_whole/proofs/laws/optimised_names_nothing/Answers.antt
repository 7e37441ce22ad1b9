use Rattle.c65_opt_law_whole.proofs.Names.{names_nothing}
use Rattle.c65_opt_law_whole.proofs.laws.optimised_names_nothing.Goals as goal

pub returns : goal.returns
returns c = names_nothing
