use Rattle.c65_agree_homes.proofs.Counted.{calls_count_their_turns}
use Rattle.c65_agree_homes.proofs.laws.calls_count_their_turns.Goals as goal

pub returns : goal.returns
returns c = calls_count_their_turns
