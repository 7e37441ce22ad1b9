use Rattle.c65_rtl_law_copies.proofs.Copytos.{copytos}
use Rattle.c65_rtl_law_copies.proofs.Memcpy.{memcpy}
use Rattle.c65_rtl_law_copies.proofs.laws.blocks_are_copied.Goals as goal

pub returns : goal.returns
returns c = (copytos, memcpy)
