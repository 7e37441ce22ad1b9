use Rattle.c65_asm_law_names.proofs.Missing.{nothing_is_undefined}
use Rattle.c65_asm_law_names.proofs.laws.nothing_is_undefined.Goals as goal

pub returns : goal.returns
returns c = nothing_is_undefined
