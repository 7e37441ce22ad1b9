use Rattle.c65_rtl_law_quotients.proofs.Unsigned.{tosudivax, tosumodax}
use Rattle.c65_rtl_law_quotients.proofs.laws.words_are_divided.Goals as goal

pub returns : goal.returns
returns c = (tosudivax, tosumodax)
