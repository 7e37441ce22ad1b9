use Rattle.c65_rtl_law_copies.proofs.Strcpy.{strcpy}
use Rattle.c65_rtl_law_copies.proofs.laws.texts_are_copied.Goals as goal

pub returns : goal.returns
returns c = strcpy
