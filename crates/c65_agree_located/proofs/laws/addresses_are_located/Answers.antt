use Rattle.c65_agree_located.proofs.Addresses.{addresses_are_located}
use Rattle.c65_agree_located.proofs.laws.addresses_are_located.Goals as goal

pub returns : goal.returns
returns c = addresses_are_located
