use Rattle.c65_agree_places.proofs.Spots.{parts_are_behind}
use Rattle.c65_agree_places.proofs.laws.parts_are_behind.Goals as goal

pub returns : goal.returns
returns c = parts_are_behind
