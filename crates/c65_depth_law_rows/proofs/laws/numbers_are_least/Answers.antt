use Rattle.c65_depth_law_rows.proofs.Least.{numbers_are_least as the_law}
use Rattle.c65_depth_law_rows.proofs.laws.numbers_are_least.Goals as goal

pub returns : goal.returns
returns c = the_law
