use Rattle.c65_macro_law.proofs.Fed.{end_refused as the_law}
use Rattle.c65_macro_law.proofs.laws.fed_lines_end_refused.Goals as goal

pub returns : goal.returns
returns c = the_law
