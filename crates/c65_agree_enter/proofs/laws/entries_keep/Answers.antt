use Rattle.c65_agree_enter.proofs.Lines.{entries_keep}
use Rattle.c65_agree_enter.proofs.laws.entries_keep.Goals as goal

pub returns : goal.returns
returns c = entries_keep
