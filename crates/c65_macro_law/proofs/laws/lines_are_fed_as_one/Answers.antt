use Rattle.c65_macro_law.proofs.Fed.{fed_as_one as the_law}
use Rattle.c65_macro_law.proofs.laws.lines_are_fed_as_one.Goals as goal

pub returns : goal.returns
returns c = the_law
