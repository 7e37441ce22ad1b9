use Rattle.c65_agree_quick.proofs.Products.{constant_products_do}
use Rattle.c65_agree_quick.proofs.laws.constant_products_do.Goals as goal

pub returns : goal.returns
returns c = constant_products_do
