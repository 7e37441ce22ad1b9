use Rattle.c65_agree_structures.proofs.Pointers.{targets_have_addresses}
use Rattle.c65_agree_structures.proofs.laws.targets_have_addresses.Goals as goal

pub returns : goal.returns
returns c = targets_have_addresses
