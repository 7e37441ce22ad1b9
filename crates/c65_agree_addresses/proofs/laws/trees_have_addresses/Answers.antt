use Rattle.c65_agree_addresses.proofs.Trees.{trees_have_addresses}
use Rattle.c65_agree_addresses.proofs.laws.trees_have_addresses.Goals as goal

pub returns : goal.returns
returns c = trees_have_addresses
