use Rattle.c65_agree_enter.proofs.Lines.{entries_enter}
use Rattle.c65_agree_enter.proofs.laws.entries_enter.Goals as goal

pub returns : goal.returns
returns c = entries_enter
