use Rattle.std.proofs.Common.{rules, ◌∙◌}
use Rattle.c65_io.proofs.ToldLaws.{one_more_piece}
use Rattle.c65_io.proofs.sinks.write_all.Goals as goal

pub loop-at-preserved : goal.loop-at-preserved
loop-at-preserved g c = (
  search rules,
  one_more_piece _ _ _ c.args.bytes.now c.loop-at.at c.in_ok-count.count c.loop-at.invariant.1 c.in_ok-count.ensures.bytes,
  c.in_ok-count.ensures.cause.quiet ∙ c.loop-at.invariant.2,
)
