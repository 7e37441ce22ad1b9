use Rattle.c65_agree_variadic.proofs.Lines.{entries_count_moves}
use Rattle.c65_agree_variadic.proofs.laws.entries_count_moves.Goals as goal

pub returns : goal.returns
returns c = entries_count_moves
