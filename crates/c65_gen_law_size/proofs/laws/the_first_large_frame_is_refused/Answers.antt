use Rattle.c65_gen_law_size.proofs.First.{the_first_large_frame_is_refused}
use Rattle.c65_gen_law_size.proofs.laws.the_first_large_frame_is_refused.Goals as goal

pub returns : goal.returns
returns c = the_first_large_frame_is_refused
