use Rattle.c65_depth_law_states.proofs.Runs.{the_law}
use Rattle.c65_depth_law_states.proofs.laws.fitting_is_never_deep.Goals as goal

pub returns : goal.returns
returns c = the_law
