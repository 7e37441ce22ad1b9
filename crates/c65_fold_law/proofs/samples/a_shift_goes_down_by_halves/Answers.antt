use Rattle.std.proofs.Common.{refl}
use Rattle.c65_fold_law.proofs.samples.a_shift_goes_down_by_halves.Goals as goal

pub returns : goal.returns
returns c = record { running = tt; ending = refl }
