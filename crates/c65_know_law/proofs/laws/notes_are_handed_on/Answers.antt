use Rattle.c65_know_law.proofs.HandedOn.{handed_on}
use Rattle.c65_know_law.proofs.laws.notes_are_handed_on.Goals as goal

pub returns : goal.returns
returns c = handed_on
