use Rattle.c65_asm_law.proofs.Programs.{programs_are_writable}
use Rattle.c65_asm_law.proofs.laws.programs_are_writable.Goals as goal

pub returns : goal.returns
returns c = programs_are_writable
