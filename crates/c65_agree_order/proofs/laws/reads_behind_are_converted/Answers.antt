use Rattle.c65_agree_order.proofs.ReadBytes.{reads_behind_are_converted}
use Rattle.c65_agree_order.proofs.laws.reads_behind_are_converted.Goals as goal

pub returns : goal.returns
returns c = reads_behind_are_converted
