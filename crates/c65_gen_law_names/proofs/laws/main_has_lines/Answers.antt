use Rattle.c65_gen_law_names.proofs.Main.{main_has_lines}
use Rattle.c65_gen_law_names.proofs.laws.main_has_lines.Goals as goal

pub returns : goal.returns
returns c = main_has_lines
