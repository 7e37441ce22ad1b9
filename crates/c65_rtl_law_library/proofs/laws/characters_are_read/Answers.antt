use Rattle.c65_rtl_law_library.proofs.Getchar.{getchar}
use Rattle.c65_rtl_law_library.proofs.laws.characters_are_read.Goals as goal

pub returns : goal.returns
returns c = getchar
