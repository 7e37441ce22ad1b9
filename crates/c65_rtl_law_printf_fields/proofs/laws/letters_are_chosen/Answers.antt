use Rattle.c65_rtl_law_printf_fields.proofs.Choosing.{letters_are_chosen}
use Rattle.c65_rtl_law_printf_fields.proofs.laws.letters_are_chosen.Goals as goal

pub returns : goal.returns
returns c = letters_are_chosen
