use Rattle.std.proofs.Common.{rules, ◌≡◌, false, arith, subst, sym, ◌∙◌}
use Rattle.c65_pass.specs.Labels.{has_hop}
use Rattle.c65_optflow.proofs.Good.{flow_good}
use Rattle.c65_optflow.proofs.Hopless.{passed_hopless}
use Rattle.c65_optflow.proofs.hops.follow_chains.Goals as goal

pub returns-then-not-has_hop : goal.returns-then-not-has_hop
returns-then-not-has_hop c =
    let lines : c.lines.result.now ≡ c.args.code.now.lines = c.lines.ensures.lines ∙ c.seg.ensures.lines in
    let idle : c.has_hop.result ≡ false = search rules in
    passed_hopless c.args.rule c.args.code.now c.requires.first c.requires.last (subst (λ ls. has_hop ls ≡ false) lines (sym c.has_hop.ensures ∙ idle)) c.seg.ensures.kept

pub run_jump_rule-requires-clause-good : goal.run_jump_rule-requires-clause-good
run_jump_rule-requires-clause-good c = flow_good c.args.rule (record { first = omega (arith, c.requires.first); last = omega (arith, c.requires.last) })
