use Rattle.std.proofs.Common.{[], ◌-◌, ◌^◌, ◌≤◌, suc, length, refl, arith, ap, sym, subst, ◌∙◌}
use Rattle.c65_pass.specs.Rounds.{IsFoundAmong, none}
use Rattle.c65_pass.proofs.Chains.{next_noted, next_table, count_one, not_none, nowhere}
use Rattle.c65_pass.proofs.Groups.{among_keeps, among_chain, among_smaller, among_clean}
use Rattle.c65_pass.proofs.group.sweep.Goals as goal

pub loop-at-init : goal.loop-at-init
loop-at-init g c =
    let code = c.args.code.now in (
      0,
      record {
        chain = none;
        made = omega arith;
        noted = ap (λ notes. record { lines = code.lines; out = code.out; notes = notes }) c.seg-kept.ensures.noted;
        segment = c.seg-kept.ensures.kept;
        live = c.requires.table;
        same = λ e. refl;
        clean = λ e rule r k h. absurd (omega (arith, h));
      },
    )

pub follow-requires-clause-keeps : goal.follow-requires-clause-keeps
follow-requires-clause-keeps g c =
    let i = c.loop-at.invariant in
    let found = subst (IsFoundAmong _ c.loop-at.code c.loop-at.live c.loop-at.at) c.in-Some.is c.in_ok-found.ensures.0 in
    among_keeps _ _ _ i.0 _ _ c.loop-at.at _ c.requires.good i.1.segment i.1.chain i.1.noted i.1.live found

pub rewrite-requires : goal.rewrite-requires
rewrite-requires g c =
    let i = c.loop-at.invariant in
    let found = subst (IsFoundAmong _ c.loop-at.code c.loop-at.live c.loop-at.at) c.in-Some.is c.in_ok-found.ensures.0 in
    among_keeps _ _ _ i.0 _ _ c.loop-at.at _ c.requires.good i.1.segment i.1.chain i.1.noted i.1.live found

pub loop-at-smaller : goal.loop-at-smaller
loop-at-smaller g c =
    let i = c.loop-at.invariant in
    let found = subst (IsFoundAmong _ c.loop-at.code c.loop-at.live c.loop-at.at) c.in-Some.is c.in_ok-found.ensures.0 in
    among_smaller _ _ _ i.0 _ _ _ c.loop-at.at _ _ c.requires.good i.1.segment i.1.chain i.1.noted i.1.live found c.in_ok-rewrite.ensures.ok

pub loop-at-preserved : goal.loop-at-preserved
loop-at-preserved g c =
    let i = c.loop-at.invariant in
    let found = subst (IsFoundAmong _ c.loop-at.code c.loop-at.live c.loop-at.at) c.in-Some.is c.in_ok-found.ensures.0 in (
      suc i.0,
      record {
        chain = among_chain _ _ _ i.0 _ _ _ c.loop-at.at _ i.1.chain i.1.noted i.1.live found c.in_ok-rewrite.ensures.ok;
        made = c.saturating_add-made.ensures ∙ count_one (2 ^ 64 - 1) _ i.0 i.1.made;
        noted = next_noted _ c.loop-at.code _ c.in-Some.found i.1.noted c.in_ok-rewrite.ensures.ok;
        segment = i.1.segment;
        live = next_table c.loop-at.code _ c.in-Some.found _ c.in_ok-rewrite.ensures.ok c.in_ok-follow.ensures.ok;
        same = λ e. not_none (2 ^ 64 - 1) c.loop-at.made (omega arith) (sym c.saturating_add-made.ensures ∙ e);
        clean = λ e rule r k h. not_none (2 ^ 64 - 1) c.loop-at.made (omega arith) (sym c.saturating_add-made.ensures ∙ e);
      },
    )

pub loop-at-preserved-in_default : goal.loop-at-preserved-in_default
loop-at-preserved-in_default g c =
    let i = c.loop-at.invariant in (
      i.0,
      record {
        chain = i.1.chain;
        made = i.1.made;
        noted = i.1.noted;
        segment = i.1.segment;
        live = i.1.live;
        same = i.1.same;
        clean = λ e. among_clean _ c.loop-at.code c.loop-at.live c.loop-at.at (i.1.clean e) (subst (IsFoundAmong _ c.loop-at.code c.loop-at.live c.loop-at.at) c.in_default.is c.in_ok-found.ensures.0);
      },
    )

pub returns-clause-none : goal.returns-clause-none
returns-clause-none g c = λ e rule r.
    let i = c.loop-at.invariant in
    let end = subst (λ ls. length ls ≤ c.loop-at.at) (c.lines.ensures.lines ∙ c.seg.ensures.lines) c.loop-at-test.false in
    record { table = c.loop-at.live; live = λ asks. i.1.live; nowhere = nowhere rule [] c.loop-at.code c.loop-at.live c.loop-at.at end (i.1.clean e rule r) }
