use Rattle.c65_gen_law_calls.proofs.TravelLaws.{travels_keep_heights}
use Rattle.c65_gen_law_calls.proofs.laws.travels_keep_heights.Goals as goal

pub returns : goal.returns
returns c = travels_keep_heights
