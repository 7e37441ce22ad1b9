use Rattle.c65_macro_law.proofs.Fed.{expand as the_law}
use Rattle.c65_macro_law.proofs.laws.fed_lines_expand.Goals as goal

pub returns : goal.returns
returns c = the_law
