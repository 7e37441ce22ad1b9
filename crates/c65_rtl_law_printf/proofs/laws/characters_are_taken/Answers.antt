use Rattle.c65_rtl_law_printf.proofs.Arguments.{characters_are_taken}
use Rattle.c65_rtl_law_printf.proofs.laws.characters_are_taken.Goals as goal

pub returns : goal.returns
returns c = characters_are_taken
