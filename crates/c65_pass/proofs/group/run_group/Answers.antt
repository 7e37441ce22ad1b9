use Rattle.std.proofs.Common.{rules, ◌+◌, ◌-◌, ◌^◌, refl, arith, sym, ◌∙◌}
use Rattle.c65_pass.specs.Rewriting.{bulk}
use Rattle.c65_pass.proofs.Chains.{count_more, none_more, some_made, some_more, first_segment}
use Rattle.c65_pass.proofs.Turns.{rules_done_none, rules_done_more, rules_kept}
use Rattle.c65_pass.proofs.group.run_group.Goals as goal

pub loop-more-init : goal.loop-more-init
loop-more-init g c = (0, rules_done_none _ _ _, omega arith, refl, λ e. refl, λ no. absurd (no refl), c.requires.table)

pub returns-in_err-more-clause-passed : goal.returns-in_err-more-clause-passed
returns-in_err-more-clause-passed g c =
    let i = c.loop-more.invariant in
    let s = c.sweep.ensures.chain in
    let d = rules_done_more _ _ _ _ _ _ i.0 s.0 c.requires.good c.sweep.ensures.segment i.3 i.1 s.1 in
    record {
      none = search rules;
      chain = (s.0 + i.0, d.chain, search rules);
      same = search rules;
      segments = (
        first_segment c.loop-more.made c.args.code.now c.loop-more.code i.4 i.5 c.sweep.ensures.segment,
        (rules_kept _ _ c.loop-more.code.lines c.sweep.new.code.lines s.0 c.requires.good c.sweep.ensures.segment s.1).segment,
      );
      extent = d.size;
      writable = d.writable;
      out = c.sweep.ensures.out ∙ i.3;
      refused = search rules;
    }

pub returns-then-more-eq0-clause-passed : goal.returns-then-more-eq0-clause-passed
returns-then-more-eq0-clause-passed g c =
    let i = c.loop-more.invariant in
    let s = c.in_ok-more.ensures.chain in
    let d = rules_done_more _ _ _ _ _ _ i.0 s.0 c.requires.good c.sweep.ensures.segment i.3 i.1 s.1 in
    record {
      none = c.in_ok-more.ensures.none c.if-more-eq0.true;
      chain = (s.0 + i.0, d.chain, none_more (2 ^ 64 - 1) _ _ i.0 s.0 i.2 s.2 c.if-more-eq0.true);
      same = λ e. c.in_ok-more.ensures.same c.if-more-eq0.true ∙ i.4 e;
      segments = (
        first_segment c.loop-more.made c.args.code.now c.loop-more.code i.4 i.5 c.sweep.ensures.segment,
        (rules_kept _ _ c.loop-more.code.lines c.sweep.new.code.lines s.0 c.requires.good c.sweep.ensures.segment s.1).segment,
      );
      extent = d.size;
      writable = d.writable;
      out = c.sweep.ensures.out ∙ i.3;
      refused = tt;
    }

pub loop-more-smaller : goal.loop-more-smaller
loop-more-smaller g c =
    let i = c.loop-more.invariant in
    let s = c.in_ok-more.ensures.chain in
    let k = rules_kept _ _ c.loop-more.code.lines c.sweep.new.code.lines s.0 c.requires.good c.sweep.ensures.segment s.1 in
    omega (arith, k.lower (bulk c.args.code.now.lines) i.1.no_bulkier, some_made (2 ^ 64 - 1) _ s.0 s.2 c.if-more-eq0.false)

pub loop-more-preserved : goal.loop-more-preserved
loop-more-preserved g c =
    let i = c.loop-more.invariant in
    let s = c.in_ok-more.ensures.chain in
    let d = rules_done_more _ _ _ _ _ _ i.0 s.0 c.requires.good c.sweep.ensures.segment i.3 i.1 s.1 in (
      s.0 + i.0,
      d,
      c.saturating_add-made.ensures ∙ count_more (2 ^ 64 - 1) _ _ i.0 s.0 i.2 s.2,
      c.sweep.ensures.out ∙ i.3,
      λ e. some_more (2 ^ 64 - 1) c.loop-more.made c.in_ok-more.more (omega arith) c.if-more-eq0.false (sym c.saturating_add-made.ensures ∙ e),
      λ no. first_segment c.loop-more.made c.args.code.now c.loop-more.code i.4 i.5 c.sweep.ensures.segment,
      c.in_ok-more.ensures.table,
    )
