use Rattle.c65_rtl_law_library.proofs.Putchar.{putchar}
use Rattle.c65_rtl_law_library.proofs.laws.characters_are_written.Goals as goal

pub returns : goal.returns
returns c = putchar
