use Rattle.c65_gen_law_names.proofs.Closed.{programs_are_closed}
use Rattle.c65_gen_law_names.proofs.laws.programs_are_closed.Goals as goal

pub returns : goal.returns
returns c = programs_are_closed
