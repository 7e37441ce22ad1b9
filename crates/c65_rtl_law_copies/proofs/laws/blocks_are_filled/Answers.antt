use Rattle.c65_rtl_law_copies.proofs.Memset.{memset}
use Rattle.c65_rtl_law_copies.proofs.laws.blocks_are_filled.Goals as goal

pub returns : goal.returns
returns c = memset
