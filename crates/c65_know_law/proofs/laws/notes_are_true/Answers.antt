use Rattle.c65_know_law.proofs.Runs.{notes_are_true}
use Rattle.c65_know_law.proofs.laws.notes_are_true.Goals as goal

pub returns : goal.returns
returns c = notes_are_true
