use Rattle.c65_gen_law_calls.proofs.ProgramLaws.{programs_are_compiled}
use Rattle.c65_gen_law_calls.proofs.laws.programs_are_compiled.Goals as goal

pub returns : goal.returns
returns c = programs_are_compiled
