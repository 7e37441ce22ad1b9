use Rattle.c65_rtl_law_products.proofs.Product.{tosmulax}
use Rattle.c65_rtl_law_products.proofs.laws.words_are_multiplied.Goals as goal

pub returns : goal.returns
returns c = tosmulax
