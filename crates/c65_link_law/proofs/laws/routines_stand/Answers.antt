use Rattle.c65_link_law.proofs.Routines.{routines_are_coded}
use Rattle.c65_link_law.proofs.laws.routines_stand.Goals as goal

pub returns : goal.returns
returns c = routines_are_coded
