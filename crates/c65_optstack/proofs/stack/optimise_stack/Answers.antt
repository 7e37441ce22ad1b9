use Rattle.std.proofs.Common.{rules}
use Rattle.c65_pass.proofs.Turns.{passed_early, passed_alike}
use Rattle.c65_optstack.proofs.Turns.{of_turn, turn_of, turns_good}
use Rattle.c65_optstack.proofs.stack.optimise_stack.Goals as goal

pub returns-in_err-live : goal.returns-in_err-live
returns-in_err-live c = passed_early _ _ _ c.seg.ensures.kept (search rules) (search rules)

pub run_rules-requires-clause-good : goal.run_rules-requires-clause-good
run_rules-requires-clause-good c = turns_good

pub returns : goal.returns
returns c = passed_alike _ _ _ _ _ of_turn turn_of c.run_rules.ensures
