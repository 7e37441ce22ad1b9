use Rattle.std.proofs.Common.{◌-◌, ◌^◌, ◌≤◌, suc, length, refl, arith, sym, subst, ◌∙◌}
use Rattle.c65_know.specs.Known.{annotated}
use Rattle.c65_pass.specs.Passes.{none}
use Rattle.c65_pass.proofs.Chains.{unasked, clean_more, keeps_next, next_chain, next_noted, next_smaller, count_one, not_none, nowhere}
use Rattle.c65_pass.proofs.lines.sweep.Goals as goal

pub loop-at-init : goal.loop-at-init
loop-at-init g c = (
  0,
  record {
    chain = none;
    made = omega arith;
    noted = refl;
    segment = c.lines-kept.ensures.kept;
    same = λ e. refl;
    clean = λ e k h. absurd (omega (arith, h));
  },
)

pub rewrite-requires : goal.rewrite-requires
rewrite-requires g c =
    let i = c.loop-at.invariant in
    let code = annotated c.loop-at.seg.lines c.loop-at.seg.out in
    let idle = unasked c.args.pass.now.rule code c.args.live.now c.requires.flow in
    keeps_next c.args.pass.now.rule c.args.pass.now.literals.now.items _ _ i.0 code c.args.live.now c.loop-at.at _ c.requires.good i.1.segment i.1.chain i.1.noted idle (sym c.in_ok-found.ensures.0 ∙ c.in-Some.is)

pub loop-at-smaller : goal.loop-at-smaller
loop-at-smaller g c =
    let i = c.loop-at.invariant in
    let code = annotated c.loop-at.seg.lines c.loop-at.seg.out in
    let idle = unasked c.args.pass.now.rule code c.args.live.now c.requires.flow in
    next_smaller c.args.pass.now.rule c.args.pass.now.literals.now.items _ _ i.0 code _ c.args.live.now c.loop-at.at _ c.requires.good i.1.segment i.1.chain i.1.noted idle (sym c.in_ok-found.ensures.0 ∙ c.in-Some.is)
    c.in_ok-rewrite.ensures.ok

pub loop-at-preserved : goal.loop-at-preserved
loop-at-preserved g c =
    let i = c.loop-at.invariant in
    let code = annotated c.loop-at.seg.lines c.loop-at.seg.out in
    let idle = unasked c.args.pass.now.rule code c.args.live.now c.requires.flow in
    let matches = sym c.in_ok-found.ensures.0 ∙ c.in-Some.is in (
      suc i.0,
      record {
        chain = next_chain c.args.pass.now.rule c.args.pass.now.literals.now.items _ _ i.0 code _ c.args.live.now c.loop-at.at _ i.1.chain i.1.noted idle matches c.in_ok-rewrite.ensures.ok;
        made = c.saturating_add-made.ensures ∙ count_one (2 ^ 64 - 1) _ i.0 i.1.made;
        noted = next_noted _ code _ c.in-Some.found i.1.noted c.in_ok-rewrite.ensures.ok;
        segment = i.1.segment;
        same = λ e. not_none (2 ^ 64 - 1) c.loop-at.made (omega arith) (sym c.saturating_add-made.ensures ∙ e);
        clean = λ e k h. not_none (2 ^ 64 - 1) c.loop-at.made (omega arith) (sym c.saturating_add-made.ensures ∙ e);
      },
    )

pub loop-at-preserved-in_default : goal.loop-at-preserved-in_default
loop-at-preserved-in_default g c =
    let i = c.loop-at.invariant in
    let code = annotated c.loop-at.seg.lines c.loop-at.seg.out in (
      i.0,
      record {
        chain = i.1.chain;
        made = i.1.made;
        noted = i.1.noted;
        segment = i.1.segment;
        same = i.1.same;
        clean = λ e. clean_more c.args.pass.now.rule c.args.pass.now.literals.now.items code c.args.live.now c.loop-at.at (i.1.clean e) (sym c.in_ok-found.ensures.0 ∙ c.in_default.is);
      },
    )

pub returns-clause-none : goal.returns-clause-none
returns-clause-none g c = λ e.
    let i = c.loop-at.invariant in
    let code = annotated c.loop-at.seg.lines c.loop-at.seg.out in
    let end = subst (λ ls. length ls ≤ c.loop-at.at) c.lines.ensures.lines c.loop-at-test.false in
    record {
      table = c.args.live.now;
      live = unasked c.args.pass.now.rule code c.args.live.now c.requires.flow;
      nowhere = nowhere c.args.pass.now.rule c.args.pass.now.literals.now.items code c.args.live.now c.loop-at.at end (i.1.clean e);
    }
