use Rattle.std.proofs.Common.{refl}
use Rattle.c65_fold_law.proofs.samples.a_product_wraps.Goals as goal

pub returns : goal.returns
returns c = record { running = tt; ending = refl }
