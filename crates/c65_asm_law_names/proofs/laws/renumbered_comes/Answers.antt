use Rattle.c65_asm_law_names.proofs.Renumbered.{renumbered_comes}
use Rattle.c65_asm_law_names.proofs.laws.renumbered_comes.Goals as goal

pub returns : goal.returns
returns c = renumbered_comes
