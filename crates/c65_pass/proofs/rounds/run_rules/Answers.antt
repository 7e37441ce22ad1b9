use Rattle.std.proofs.Common.{rules, ◌≡◌, ◌+◌, ◌-◌, ◌^◌, refl, arith, sym, subst, ◌∙◌}
use Rattle.c65_pass.specs.Rewriting.{bulk}
use Rattle.c65_pass.specs.Rounds.{InTurn, AreFree}
use Rattle.c65_pass.proofs.Chains.{count_more, first_segment}
use Rattle.c65_pass.proofs.Cycles.{IsNext, none_recent, free_still, all_free, turn_rewrites, next_within, idle_within, cycle_smaller}
use Rattle.c65_pass.proofs.Turns.{rules_done_none, rules_done_more, rules_kept, both_none}
use Rattle.c65_pass.proofs.rounds.run_rules.Goals as goal

pub turns-init : goal.turns-init
turns-init g c = (
  0,
  record {
    done = rules_done_none _ _ _;
    made = omega arith;
    out = refl;
    same = λ e. refl;
    since = λ no. absurd (no refl);
    segment = λ h. absurd (omega (arith, h));
    ready = c.requires.ready;
    from = omega arith;
    before = c.requires.some;
    few = omega arith;
    free = λ t low high recent. none_recent c.args.first c.args.end c.args.first t (omega arith) high recent;
  },
)

pub returns-in_err-now : goal.returns-in_err-now
returns-in_err-now g c =
    let i = c.turns.invariant in
    let p = c.run.ensures.passed in
    let s = p.chain in
    let more = turn_rewrites _ _ c.turns.turn _ _ c.turns.code.lines c.run.new.code.lines s.0 (omega (arith, i.1.from, c.requires.first)) (omega (arith, i.1.before, c.requires.end)) s.1 in
    let d = rules_done_more _ _ _ _ _ _ i.0 s.0 c.requires.good p.segments.0 i.1.out i.1.done more in
    record {
      none = search rules;
      chain = (s.0 + i.0, d.chain, search rules);
      same = search rules;
      segments = (first_segment c.turns.made c.args.code.now c.turns.code i.1.same i.1.since p.segments.0, p.segments.1);
      extent = d.size;
      writable = d.writable;
      out = p.out ∙ i.1.out;
      refused = search rules;
    }

pub turns-preserved : goal.turns-preserved
turns-preserved g c =
    let i = c.turns.invariant in
    let p = c.in_ok-now.ensures.passed in
    let s = p.chain in
    let more = turn_rewrites _ _ c.turns.turn _ _ c.turns.code.lines c.run.new.code.lines s.0 (omega (arith, i.1.from, c.requires.first)) (omega (arith, i.1.before, c.requires.end)) s.1 in
    let d = rules_done_more _ _ _ _ _ _ i.0 s.0 c.requires.good p.segments.0 i.1.out i.1.done more in
    let next : IsNext c.args.first c.args.end c.turns.turn c.next_turn-turn.result = record { on = c.next_turn-turn.ensures.next; again = c.next_turn-turn.ensures.again } in
    let within = next_within c.args.first c.args.end c.turns.turn c.next_turn-turn.result i.1.from i.1.before next in
    let both = λ (e : c.saturating_add-made.result ≡ 0). both_none (2 ^ 64 - 1) c.turns.made c.in_ok-now.now (omega arith) (sym c.saturating_add-made.ensures ∙ e) in
    let segment = first_segment c.turns.made c.args.code.now c.turns.code i.1.same i.1.since p.segments.0 in (
      s.0 + i.0,
      record {
        done = d;
        made = c.saturating_add-made.ensures ∙ count_more (2 ^ 64 - 1) _ _ i.0 s.0 i.1.made s.2;
        out = p.out ∙ i.1.out;
        same = λ e. p.same (both e).1 ∙ i.1.same (both e).0;
        since = λ no. segment;
        segment = λ h. p.segments.1;
        ready = c.in_ok-now.ensures.ready;
        from = within.0;
        before = within.1;
        few = idle_within c.args.first c.args.end c.turns.idle c.in_ok-now.now c.idle_after-idle.result c.turns-test.true c.idle_after-idle.ensures.more c.idle_after-idle.ensures.one;
        free = free_still c.args.first c.args.end c.turns.turn c.next_turn-turn.result c.turns.idle c.in_ok-now.now c.idle_after-idle.result _ c.turns.code c.run.new.code i.1.from i.1.before next i.1.free p.none p.same
            c.idle_after-idle.ensures.more c.idle_after-idle.ensures.one;
      },
    )

pub turns-smaller : goal.turns-smaller
turns-smaller g c =
    let i = c.turns.invariant in
    let p = c.in_ok-now.ensures.passed in
    let s = p.chain in
    let more = turn_rewrites _ _ c.turns.turn _ _ c.turns.code.lines c.run.new.code.lines s.0 (omega (arith, i.1.from, c.requires.first)) (omega (arith, i.1.before, c.requires.end)) s.1 in
    let k = rules_kept _ _ c.turns.code.lines c.run.new.code.lines s.0 c.requires.good p.segments.0 more in
    cycle_smaller c.args.code.now.lines c.turns.code c.run.new.code c.args.first c.args.end c.turns.idle c.in_ok-now.now c.idle_after-idle.result s.0 (k.lower (bulk c.args.code.now.lines) i.1.done.no_bulkier) s.2 p.same c.turns-test.true
    c.idle_after-idle.ensures.more

pub returns : goal.returns
returns g c =
    let i = c.turns.invariant in
    let now = i.1.segment (omega (arith, c.turns-test.false, c.requires.some)) in
    let free = all_free c.args.first c.args.end c.turns.turn c.turns.idle g.R.Rules.among c.turns.code i.1.before (omega (arith, c.turns-test.false)) i.1.free in
    let from_first = subst (λ first. AreFree (InTurn first c.args.end g.R.Rules.among) c.turns.code) c.requires.first free in
    record {
      none = subst (λ end. AreFree (InTurn g.R.Rules.first end g.R.Rules.among) c.turns.code) c.requires.end from_first;
      chain = (i.0, i.1.done.chain, i.1.made);
      same = i.1.same;
      segments = (first_segment c.turns.made c.args.code.now c.turns.code i.1.same i.1.since now, now);
      extent = i.1.done.size;
      writable = i.1.done.writable;
      out = i.1.out;
      refused = tt;
    }
