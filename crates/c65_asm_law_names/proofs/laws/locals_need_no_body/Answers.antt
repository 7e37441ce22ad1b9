use Rattle.c65_asm_law_names.proofs.Example.{locals_need_no_body}
use Rattle.c65_asm_law_names.proofs.laws.locals_need_no_body.Goals as goal

pub returns : goal.returns
returns c = locals_need_no_body
