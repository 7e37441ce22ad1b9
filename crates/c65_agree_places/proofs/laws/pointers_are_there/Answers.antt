use Rattle.c65_agree_places.proofs.Held.{pointers_are_there}
use Rattle.c65_agree_places.proofs.laws.pointers_are_there.Goals as goal

pub returns : goal.returns
returns c = pointers_are_there
