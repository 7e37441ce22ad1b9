use Rattle.c65_rtl_law_strings.proofs.Strcmp.{strcmp}
use Rattle.c65_rtl_law_strings.proofs.laws.strings_are_compared.Goals as goal

pub returns : goal.returns
returns c = strcmp
