use Rattle.c65_rtl_law_strings.proofs.StringLength.{strlen}
use Rattle.c65_rtl_law_strings.proofs.laws.strings_are_measured.Goals as goal

pub returns : goal.returns
returns c = strlen
