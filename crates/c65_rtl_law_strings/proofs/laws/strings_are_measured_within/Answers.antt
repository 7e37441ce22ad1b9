use Rattle.c65_rtl_law_strings.proofs.StringLength.{strlen_in}
use Rattle.c65_rtl_law_strings.proofs.laws.strings_are_measured_within.Goals as goal

pub returns : goal.returns
returns c = strlen_in
