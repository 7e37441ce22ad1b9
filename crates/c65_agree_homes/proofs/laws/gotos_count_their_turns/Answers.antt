use Rattle.c65_agree_homes.proofs.Given.{gotos_count_their_turns}
use Rattle.c65_agree_homes.proofs.laws.gotos_count_their_turns.Goals as goal

pub returns : goal.returns
returns c = gotos_count_their_turns
