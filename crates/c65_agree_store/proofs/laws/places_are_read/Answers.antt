use Rattle.c65_agree_store.proofs.Read.{places_are_read}
use Rattle.c65_agree_store.proofs.laws.places_are_read.Goals as goal

pub returns : goal.returns
returns c = places_are_read
