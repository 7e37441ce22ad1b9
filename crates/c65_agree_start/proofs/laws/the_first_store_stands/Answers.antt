use Rattle.c65_agree_start.proofs.First.{the_first_store_stands}
use Rattle.c65_agree_start.proofs.laws.the_first_store_stands.Goals as goal

pub returns : goal.returns
returns c = the_first_store_stands
