use Rattle.c65_opt_law_follow.proofs.Samples.{branch_is_taken, nothing_passes, dead_load_goes, known_load_goes, live_load_stays}
use Rattle.c65_opt_law_follow.proofs.laws.window_samples.Goals as goal

pub returns-clause-taken : goal.returns-clause-taken
returns-clause-taken c = branch_is_taken

pub returns-clause-passes : goal.returns-clause-passes
returns-clause-passes c = nothing_passes

pub returns-clause-dead : goal.returns-clause-dead
returns-clause-dead c = dead_load_goes

pub returns-clause-known : goal.returns-clause-known
returns-clause-known c = known_load_goes

pub returns-clause-live : goal.returns-clause-live
returns-clause-live c = live_load_stays
