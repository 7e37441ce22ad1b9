use Rattle.c65_macro_law.proofs.Fed.{are_refused as the_law}
use Rattle.c65_macro_law.proofs.laws.fed_lines_are_refused.Goals as goal

pub returns : goal.returns
returns c = the_law
