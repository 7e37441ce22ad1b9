use Rattle.std.proofs.Common.{rules}
use Rattle.c65_pass.proofs.Turns.{passed_early, passed_range, good_turns}
use Rattle.c65_optload.proofs.Good.{load_good}
use Rattle.c65_optload.proofs.load.optimise_load.Goals as goal

pub returns-in_err-live : goal.returns-in_err-live
returns-in_err-live c = passed_early _ _ _ c.seg.ensures.kept (search rules) (search rules)

pub run_group-requires-clause-good : goal.run_group-requires-clause-good
run_group-requires-clause-good c = good_turns 10 23 load_good

pub returns : goal.returns
returns c = passed_range 10 23 _ _ _ c.run_group.ensures.passed
