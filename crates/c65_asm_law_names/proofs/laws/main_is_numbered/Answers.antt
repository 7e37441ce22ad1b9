use Rattle.c65_asm_law_names.proofs.Sound.{main_is_numbered}
use Rattle.c65_asm_law_names.proofs.laws.main_is_numbered.Goals as goal

pub returns : goal.returns
returns c = main_is_numbered
