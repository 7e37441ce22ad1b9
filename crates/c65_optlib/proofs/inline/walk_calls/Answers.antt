use Rattle.std.proofs.Common.{rules, sym, subst}
use Rattle.c65_know.specs.Known.{annotated}
use Rattle.c65_pass.specs.Once.{IsGoodOnce}
use Rattle.c65_pass.specs.Passes.{Answers}
use Rattle.c65_pass.specs.Rules.{match_at}
use Rattle.c65_optlib.proofs.Good.{call_good}
use Rattle.c65_optlib.proofs.inline.walk_calls.Goals as goal

pub once-pass-requires-clause-good : goal.once-pass-requires-clause-good
once-pass-requires-clause-good c = call_good c.args.literals.now.items

pub run_once-requires-clause-good : goal.run_once-requires-clause-good
run_once-requires-clause-good c = subst (λ r. IsGoodOnce r c.once-pass.result.literals.now.items) (sym c.once-pass.ensures.rule) (call_good c.once-pass.result.literals.now.items)

pub run_once-requires-clause-exact : goal.run_once-requires-clause-exact
run_once-requires-clause-exact c = λ n l at r e. subst (λ rule. Answers (match_at rule c.once-pass.result.literals.now.items (annotated n.now.lines n.now.out) l.now at) r) (sym c.once-pass.ensures.rule) (search rules)
