use Rattle.c65_agree_quick.proofs.LongBits.{constant_bits_do}
use Rattle.c65_agree_quick.proofs.laws.constant_bits_do.Goals as goal

pub returns : goal.returns
returns c = constant_bits_do
