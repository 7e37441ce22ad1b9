use Rattle.c65_asm_fit.proofs.Letters.{letters_else}
use Rattle.c65_asm_fit.proofs.functions.are_letters.Goals as goal

pub returns-else-is_empty : goal.returns-else-is_empty
returns-else-is_empty c = letters_else c.args.set c.beside_registers-rest.result c.is_empty.result c.is_sreg.result c.beside_registers-rest.ensures c.is_empty.ensures c.is_sreg.ensures c.if-is_empty.false
