use Rattle.c65_agree_structures.proofs.Copies.{places_have_addresses}
use Rattle.c65_agree_structures.proofs.laws.places_have_addresses.Goals as goal

pub returns : goal.returns
returns c = places_have_addresses
