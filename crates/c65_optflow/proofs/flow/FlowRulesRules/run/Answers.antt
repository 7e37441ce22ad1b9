use Rattle.std.proofs.Common.{arith}
use Rattle.c65_optflow.proofs.Good.{flow_good}
use Rattle.c65_optflow.proofs.flow.FlowRulesRules.run.Goals as goal

pub run_flow_rule-requires-clause-good : goal.run_flow_rule-requires-clause-good
run_flow_rule-requires-clause-good c = flow_good c.args.turn (record { first = c.requires.first; last = omega (arith, c.requires.before) })

pub run_jump_rule-requires-clause-good : goal.run_jump_rule-requires-clause-good
run_jump_rule-requires-clause-good c = flow_good c.args.turn (record { first = c.requires.first; last = omega (arith, c.requires.before) })
