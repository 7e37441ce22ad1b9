use Rattle.c65_rtl_law_quotients.proofs.Signed.{tosdivax, tosmodax}
use Rattle.c65_rtl_law_quotients.proofs.laws.signed_words_are_divided.Goals as goal

pub returns : goal.returns
returns c = (tosdivax, tosmodax)
