use Rattle.c65_opt_law_whole.proofs.Closed.{keeps_functions, keeps_closed}
use Rattle.c65_opt_law_whole.proofs.laws.optimised_is_closed.Goals as goal

pub returns-clause-functions : goal.returns-clause-functions
returns-clause-functions c = keeps_functions

pub returns-clause-closed : goal.returns-clause-closed
returns-clause-closed c = keeps_closed
