use Rattle.std.proofs.Common.{refl}
use Rattle.c65_fold_law.proofs.samples.a_quotient_is_cut_toward_zero.Goals as goal

pub returns : goal.returns
returns c = record { running = tt; ending = refl }
