use Rattle.c65_asm_law_plain.proofs.Plain.{plain_programs_are_writable}
use Rattle.c65_asm_law_plain.proofs.laws.plain_programs_are_writable.Goals as goal

pub returns : goal.returns
returns c = plain_programs_are_writable c.programs_are_writable.ensures
