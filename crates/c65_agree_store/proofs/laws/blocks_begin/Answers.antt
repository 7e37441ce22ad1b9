use Rattle.c65_agree_store.proofs.Keep.{blocks_begin}
use Rattle.c65_agree_store.proofs.laws.blocks_begin.Goals as goal

pub returns : goal.returns
returns c = blocks_begin
