use Rattle.c65_pass.proofs.Turns.{passed_range, good_turns}
use Rattle.c65_optflow.proofs.Good.{flow_good}
use Rattle.c65_optflow.proofs.flow.optimise_flow.Goals as goal

pub run_rules-requires-clause-good : goal.run_rules-requires-clause-good
run_rules-requires-clause-good c = good_turns 1 9 flow_good

pub returns : goal.returns
returns c = passed_range 1 9 _ _ _ c.run_rules.ensures
