use Rattle.std.proofs.Common.{sym, subst}
use Rattle.c65_pass.specs.Rounds.{Only, IsRuleOf, IsPassed}
use Rattle.c65_optstack.proofs.Good.{stack_good}
use Rattle.c65_optstack.proofs.Turns.{turn_range}
use Rattle.c65_optstack.proofs.stack.StackRulesRules.run.Goals as goal

pub run_rule-requires-clause-good : goal.run_rule-requires-clause-good
run_rule-requires-clause-good c = stack_good c.rule_of_turn-rule.result (subst (IsRuleOf 33 38) (sym c.rule_of_turn-rule.ensures) (turn_range c.args.turn c.requires.first c.requires.before))

pub returns-clause-passed : goal.returns-clause-passed
returns-clause-passed c = subst (λ r. IsPassed (Only r) c.args.code.now c.run_rule.new.code c.run_rule.result) c.rule_of_turn-rule.ensures c.run_rule.ensures.passed
