use Rattle.c65_agree_part.proofs.Set.{values_have_addresses}
use Rattle.c65_agree_part.proofs.laws.values_have_addresses.Goals as goal

pub returns : goal.returns
returns c = values_have_addresses
