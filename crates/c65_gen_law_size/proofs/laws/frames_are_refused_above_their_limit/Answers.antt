use Rattle.c65_gen_law_size.proofs.First.{frames_are_refused_above_their_limit}
use Rattle.c65_gen_law_size.proofs.laws.frames_are_refused_above_their_limit.Goals as goal

pub returns : goal.returns
returns c = frames_are_refused_above_their_limit
