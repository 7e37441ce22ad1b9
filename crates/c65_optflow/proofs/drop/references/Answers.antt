use Rattle.std.proofs.Common.{arith}
use Rattle.c65_know.proofs.IndexLaws.{next_references}
use Rattle.c65_optflow.proofs.drop.references.Goals as goal

pub loop-at-preserved : goal.loop-at-preserved
loop-at-preserved c = next_references c.args.lines.now c.loop-at.labels.entries c.refer.new.labels.entries c.loop-at.at _ (omega (arith, c.loop-at-test.true)) (omega (arith, c.loop-at.auto.at, c.loop-at-test.true)) c.in_ok-refer.ensures c.loop-at.invariant
