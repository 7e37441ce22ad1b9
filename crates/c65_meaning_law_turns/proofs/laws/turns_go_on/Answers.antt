use Rattle.c65_meaning_law_turns.proofs.Runs.{turns_go_on}
use Rattle.c65_meaning_law_turns.proofs.laws.turns_go_on.Goals as goal

pub returns : goal.returns
returns c = turns_go_on
