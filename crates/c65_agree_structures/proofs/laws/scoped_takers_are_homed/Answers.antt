use Rattle.c65_agree_structures.proofs.Takers.{scoped_takers_are_homed}
use Rattle.c65_agree_structures.proofs.laws.scoped_takers_are_homed.Goals as goal

pub returns : goal.returns
returns c = scoped_takers_are_homed
