use Rattle.c65_agree_structures.proofs.Bases.{addresses_are_bases}
use Rattle.c65_agree_structures.proofs.laws.addresses_are_bases.Goals as goal

pub returns : goal.returns
returns c = addresses_are_bases
