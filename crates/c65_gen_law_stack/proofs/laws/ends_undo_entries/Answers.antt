use Rattle.c65_gen_law_stack.proofs.CallWay.{ends_undo_entries}
use Rattle.c65_gen_law_stack.proofs.laws.ends_undo_entries.Goals as goal

pub returns : goal.returns
returns c = ends_undo_entries
