use Rattle.c65_gen_law_lines.proofs.ProgramLaws.{programs_are_small}
use Rattle.c65_gen_law_lines.proofs.laws.programs_are_small.Goals as goal

pub returns : goal.returns
returns c = programs_are_small
