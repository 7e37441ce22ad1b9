use Rattle.std.proofs.Common.{rules, arith, ◌≤◌, length, ◌∙◌}
use Rattle.c65_sim.proofs.TakeLaws.{filled_more}
use Rattle.c65_sim.proofs.hooks.fill.Goals as goal

pub loop-at-preserved : goal.loop-at-preserved
loop-at-preserved g c =
    let within : c.in_ok-count.count ≤ length c.read.new.into = omega (arith, c.in_ok-count.ensures.bound) in (
      search rules,
      filled_more _ _ _ c.loop-at.into c.read.new.into c.loop-at.at c.in_ok-count.count c.loop-at.invariant.0 within c.loop-at.invariant.1 c.in_ok-count.ensures.bytes.0,
      c.in_ok-count.ensures.cause.quiet ∙ c.loop-at.invariant.2,
    )
