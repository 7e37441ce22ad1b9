use Rattle.std.proofs.Common.{rules, ◌^◌, ◌-◌, ◌<◌, ◌≤◌, suc, length, refl, arith, ap, sym, subst, ◌∙◌}
use Rattle.c65_know.specs.Known.{annotated}
use Rattle.c65_pass.proofs.Chains.{next_table, count_one}
use Rattle.c65_pass.proofs.Walks.{walk_none, walk_on, walk_keeps, walk_more, walk_nearer, walk_fits, walk_placed, walk_end}
use Rattle.c65_pass.proofs.once.walk.Goals as goal

pub loop-at-init : goal.loop-at-init
loop-at-init g c =
    let seg = c.args.seg.now in
    (0, walk_none _ _ _ (annotated seg.lines seg.out) _ refl c.lines-kept.ensures.kept c.in_ok-live.ensures.ok, omega arith)

pub loop-at-preserved-in_default : goal.loop-at-preserved-in_default
loop-at-preserved-in_default g c =
    let i = c.loop-at.invariant in
    let less = subst (λ ls. c.loop-at.at < length ls) c.lines.ensures.lines c.loop-at-test.true in
    (i.0, walk_on _ _ _ _ i.0 c.loop-at.at _ _ i.1 less (sym c.in_ok-found.ensures.0 ∙ c.in_default.is), i.2)

pub follow-requires-clause-stays : goal.follow-requires-clause-stays
follow-requires-clause-stays g c =
    let i = c.loop-at.invariant in
    (c.loop-at.at, walk_keeps _ _ _ _ i.0 c.loop-at.at _ _ _ c.requires.good i.1 (sym c.in_ok-found.ensures.0 ∙ c.in-Some.is))

pub follow-requires-clause-table : goal.follow-requires-clause-table
follow-requires-clause-table g c = c.loop-at.invariant.1.live

pub put-requires : goal.put-requires
put-requires g c =
    let i = c.loop-at.invariant in
    (c.loop-at.at, walk_keeps _ _ _ _ i.0 c.loop-at.at _ _ _ c.requires.good i.1 (sym c.in_ok-found.ensures.0 ∙ c.in-Some.is))

pub overflow_add-at-in-loop-at : goal.overflow_add-at-in-loop-at
overflow_add-at-in-loop-at g c =
    let i = c.loop-at.invariant in
    let keeps = walk_keeps _ _ _ _ i.0 c.loop-at.at _ _ _ c.requires.good i.1 (sym c.in_ok-found.ensures.0 ∙ c.in-Some.is) in
    let few : length c.lines-now.result.now < 2 ^ 64 = search rules in
    let fits = walk_fits _ _ _ _ c.loop-at.at _ _ keeps (ap (λ a. a.lines) c.in_ok-put.ensures.ok) c.at.ensures c.lines-in-loop-at.ensures c.lines-now.ensures.lines few in
    omega (arith, fits)

pub loop-at-smaller : goal.loop-at-smaller
loop-at-smaller g c =
    let i = c.loop-at.invariant in
    let keeps = walk_keeps _ _ _ _ i.0 c.loop-at.at _ _ _ c.requires.good i.1 (sym c.in_ok-found.ensures.0 ∙ c.in-Some.is) in
    walk_nearer _ _ _ c.loop-at.at _ _ keeps (ap (λ a. a.lines) c.in_ok-put.ensures.ok) c.at.ensures c.lines-in-loop-at.ensures

pub loop-at-smaller-in_ok-put : goal.loop-at-smaller-in_ok-put
loop-at-smaller-in_ok-put g c =
    let i = c.loop-at.invariant in
    let keeps = walk_keeps _ _ _ _ i.0 c.loop-at.at _ _ _ c.requires.good i.1 (sym c.in_ok-found.ensures.0 ∙ c.in-Some.is) in
    walk_nearer _ _ _ c.loop-at.at _ _ keeps (ap (λ a. a.lines) c.in_ok-put.ensures.ok) c.at.ensures c.lines-in-loop-at.ensures

pub loop-at-preserved : goal.loop-at-preserved
loop-at-preserved g c =
    let i = c.loop-at.invariant in
    let live = next_table (annotated c.loop-at.seg.lines c.loop-at.seg.out) _ c.in-Some.found _ c.in_ok-put.ensures.ok c.in_ok-follow.ensures.ok in (
      suc i.0,
      walk_placed _ _ _ _ _ _ _ _ _ c.in-Some.found c.at.ensures c.lines-in-loop-at.ensures
          (walk_more _ _ _ _ i.0 c.loop-at.at _ _ _ _ _ c.requires.good i.1 (sym c.in_ok-found.ensures.0 ∙ c.in-Some.is) c.in_ok-put.ensures.ok live),
      c.saturating_add-made.ensures ∙ count_one (2 ^ 64 - 1) _ i.0 i.2,
    )

pub loop-at-preserved-in_ok-put : goal.loop-at-preserved-in_ok-put
loop-at-preserved-in_ok-put g c =
    let i = c.loop-at.invariant in
    let live = next_table (annotated c.loop-at.seg.lines c.loop-at.seg.out) _ c.in-Some.found _ c.in_ok-put.ensures.ok c.in_ok-follow.ensures.ok in (
      suc i.0,
      walk_placed _ _ _ _ _ _ _ _ _ c.in-Some.found c.at.ensures c.lines-in-loop-at.ensures
          (walk_more _ _ _ _ i.0 c.loop-at.at _ _ _ _ _ c.requires.good i.1 (sym c.in_ok-found.ensures.0 ∙ c.in-Some.is) c.in_ok-put.ensures.ok live),
      c.saturating_add-made.ensures ∙ count_one (2 ^ 64 - 1) _ i.0 i.2,
    )

pub returns-clause-walked : goal.returns-clause-walked
returns-clause-walked g c =
    let i = c.loop-at.invariant in
    let w = i.1 in
    let end = subst (λ ls. length ls ≤ c.loop-at.at) c.lines.ensures.lines c.loop-at-test.false in
    record {
      times = i.0;
      once = walk_end _ _ _ _ i.0 c.loop-at.at _ _ w end;
      chain = w.chain;
      made = i.2;
      segments = (w.first, w.segment);
      extent = w.size;
      writable = w.writable;
    }

pub returns-clause-out : goal.returns-clause-out
returns-clause-out g c = λ ok. ap (λ a. a.out) c.loop-at.invariant.1.noted
