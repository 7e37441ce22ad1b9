use Rattle.std.proofs.Common.{rules, ◌≡◌, [], sym, subst}
use Rattle.c65_pass.specs.Passes.{IsGood, IsRun}
use Rattle.c65_pass.proofs.Turns.{only_passed}
use Rattle.c65_pass.proofs.rounds.run_jump_rule.Goals as goal

pub run_lines-requires-clause-good : goal.run_lines-requires-clause-good
run_lines-requires-clause-good g c =
    let none : c.from_vec.result ≡ [] = search rules in
    subst (λ ls. IsGood c.args.rule ls) (sym none) c.requires.good

pub returns : goal.returns
returns g c =
    let none : c.from_vec.result ≡ [] = search rules in
    only_passed _ _ _ _ (subst (λ ls. IsRun c.args.rule ls c.args.code.now c.run_lines.new.code c.run_lines.result) none c.run_lines.ensures.run)
