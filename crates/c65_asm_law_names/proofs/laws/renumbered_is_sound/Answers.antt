use Rattle.c65_asm_law_names.proofs.Sound.{renumbered_is_sound}
use Rattle.c65_asm_law_names.proofs.laws.renumbered_is_sound.Goals as goal

pub returns : goal.returns
returns c = renumbered_is_sound
