use Rattle.std.proofs.Common.{◌∙◌}
use Rattle.c65_know.proofs.Passes.{met_more}
use Rattle.c65_know.proofs.ways.met.Goals as goal

pub loop-at-preserved : goal.loop-at-preserved
loop-at-preserved c = met_more _ _ _ _ _ _ _ _ c.loop-at-test.true c.requires c.met_with-known.ensures ∙ c.loop-at.invariant
