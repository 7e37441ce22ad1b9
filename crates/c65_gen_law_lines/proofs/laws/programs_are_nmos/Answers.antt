use Rattle.c65_gen_law_lines.proofs.RowLaws.{programs_are_nmos}
use Rattle.c65_gen_law_lines.proofs.laws.programs_are_nmos.Goals as goal

pub returns : goal.returns
returns c = programs_are_nmos
