use Rattle.std.proofs.Common.{rules}
use Rattle.c65_pass.proofs.Turns.{passed_early, passed_range, good_turns}
use Rattle.c65_optarith.proofs.Good.{arith_good}
use Rattle.c65_optarith.proofs.arith.optimise_arith.Goals as goal

pub returns-in_err-live : goal.returns-in_err-live
returns-in_err-live c = passed_early _ _ _ c.seg.ensures.kept (search rules) (search rules)

pub run_group-requires-clause-good : goal.run_group-requires-clause-good
run_group-requires-clause-good c = good_turns 24 32 arith_good

pub returns : goal.returns
returns c = passed_range 24 32 _ _ _ c.run_group.ensures.passed
