use Rattle.c65_agree_access.proofs.Wholes.{places_are_whole}
use Rattle.c65_agree_access.proofs.load_laws.places_are_whole.Goals as goal

pub returns : goal.returns
returns c = places_are_whole
