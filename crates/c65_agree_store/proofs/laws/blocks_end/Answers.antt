use Rattle.c65_agree_store.proofs.Keep.{blocks_end}
use Rattle.c65_agree_store.proofs.laws.blocks_end.Goals as goal

pub returns : goal.returns
returns c = blocks_end
