use Rattle.std.proofs.Common.{rules, ◌≡◌, [], sym, subst, arith}
use Rattle.c65_pass.specs.Passes.{IsGood, IsRun}
use Rattle.c65_pass.proofs.Turns.{only_passed}
use Rattle.c65_pass.proofs.rounds.run_flow_rule.Goals as goal

pub new-pass-requires-clause-good : goal.new-pass-requires-clause-good
new-pass-requires-clause-good g c =
    let none : c.from_vec.result ≡ [] = search rules in
    subst (λ ls. IsGood c.args.rule ls) (sym none) c.requires.good

pub run_pass_on-requires-clause-good : goal.run_pass_on-requires-clause-good
run_pass_on-requires-clause-good g c =
    let none : c.new-pass.result.literals.now.items ≡ [] = search rules in
    subst (λ ls. IsGood c.new-pass.result.rule ls) (sym none) (subst (λ r. IsGood r []) (sym c.new-pass.ensures.rule) c.requires.good)

pub run_pass_on-requires-clause-table : goal.run_pass_on-requires-clause-table
run_pass_on-requires-clause-table g c = λ asks. absurd (omega (arith, asks, c.new-pass.ensures.rule, c.requires.flow))

pub returns : goal.returns
returns g c =
    let none : c.new-pass.result.literals.now.items ≡ [] = search rules in
    let run = subst (λ ls. IsRun c.new-pass.result.rule ls c.args.code.now c.run_pass_on.new.code c.run_pass_on.result) none c.run_pass_on.ensures.run in
    only_passed _ _ _ _ (subst (λ r. IsRun r [] c.args.code.now c.run_pass_on.new.code c.run_pass_on.result) c.new-pass.ensures.rule run)
