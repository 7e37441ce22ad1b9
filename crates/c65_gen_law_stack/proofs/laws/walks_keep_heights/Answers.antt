use Rattle.c65_gen_law_stack.proofs.WalkLaws.{walks_keep_heights}
use Rattle.c65_gen_law_stack.proofs.laws.walks_keep_heights.Goals as goal

pub returns : goal.returns
returns c = walks_keep_heights
