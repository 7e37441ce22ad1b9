use Rattle.c65_rtl_law_wide.proofs.Signed.{tosdiveax, tosmodeax}
use Rattle.c65_rtl_law_wide.proofs.laws.signed_longs_are_divided.Goals as goal

pub returns : goal.returns
returns c = (tosdiveax, tosmodeax)
