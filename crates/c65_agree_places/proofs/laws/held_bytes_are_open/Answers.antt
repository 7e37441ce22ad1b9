use Rattle.c65_agree_places.proofs.Held.{held_bytes_are_open}
use Rattle.c65_agree_places.proofs.laws.held_bytes_are_open.Goals as goal

pub returns : goal.returns
returns c = held_bytes_are_open
