use Rattle.c65_agree_addresses.proofs.Objects.{objects_are_placed}
use Rattle.c65_agree_addresses.proofs.laws.objects_are_placed.Goals as goal

pub returns : goal.returns
returns c = objects_are_placed
