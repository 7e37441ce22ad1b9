use Rattle.c65_asm_law.proofs.Programs.{programs_read_back}
use Rattle.c65_asm_law.proofs.laws.programs_read_back.Goals as goal

pub returns : goal.returns
returns c = programs_read_back
