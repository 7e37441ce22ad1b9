use Rattle.c65_agree_frame.proofs.Further.{entries_count}
use Rattle.c65_agree_frame.proofs.laws.entries_count.Goals as goal

pub returns : goal.returns
returns c = entries_count
