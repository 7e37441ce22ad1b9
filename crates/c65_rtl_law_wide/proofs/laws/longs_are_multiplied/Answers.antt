use Rattle.c65_rtl_law_wide.proofs.Product.{tosmuleax}
use Rattle.c65_rtl_law_wide.proofs.laws.longs_are_multiplied.Goals as goal

pub returns : goal.returns
returns c = tosmuleax
