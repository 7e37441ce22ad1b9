use Rattle.c65_agree_function.proofs.Given.{main_gives_a}
use Rattle.c65_agree_function.proofs.laws.main_gives_a.Goals as goal

pub returns : goal.returns
returns c = main_gives_a
