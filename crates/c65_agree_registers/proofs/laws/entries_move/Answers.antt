use Rattle.c65_agree_registers.proofs.Entries.{entries_move}
use Rattle.c65_agree_registers.proofs.laws.entries_move.Goals as goal

pub returns : goal.returns
returns c = entries_move
