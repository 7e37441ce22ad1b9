use Rattle.c65_agree_store.proofs.Keep.{unset_blocks_begin}
use Rattle.c65_agree_store.proofs.laws.unset_blocks_begin.Goals as goal

pub returns : goal.returns
returns c = unset_blocks_begin
