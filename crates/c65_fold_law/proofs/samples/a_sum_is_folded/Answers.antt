use Rattle.std.proofs.Common.{refl}
use Rattle.c65_fold_law.proofs.samples.a_sum_is_folded.Goals as goal

pub returns-clause-plain : goal.returns-clause-plain
returns-clause-plain c = record { running = tt; ending = refl }

pub returns-clause-folded : goal.returns-clause-folded
returns-clause-folded c = record { running = tt; ending = refl }
