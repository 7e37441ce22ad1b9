use Rattle.c65_agree_structures.proofs.Takers.{takers_are_homed}
use Rattle.c65_agree_structures.proofs.laws.takers_are_homed.Goals as goal

pub returns : goal.returns
returns c = takers_are_homed
