use Rattle.std.proofs.Common.{◌∙◌, drop, arith}
use Rattle.std.proofs.lemmas.List.{length-set}
use Rattle.c65_know.proofs.IndexLaws.{next_references, next_backs}
use Rattle.c65_know.proofs.index.backs.Goals as goal

pub loop-at-preserved : goal.loop-at-preserved
loop-at-preserved c =
    let kept = c.loop-at.invariant in
    record {
      references = next_references c.args.lines.now c.loop-at.labels.entries c.refer.new.labels.entries c.loop-at.at _ (omega (arith, c.loop-at-test.true)) (omega (arith, c.loop-at.auto.at, c.loop-at-test.true)) c.in_ok-refer.ensures kept.references;
      backs = next_backs c.args.lines.now c.loop-at.backs.items c.loop-at.at _ c.is_back.result (omega (arith, c.loop-at-test.true)) (omega (arith, c.loop-at.auto.at, c.loop-at-test.true)) kept.long (c.is_back.ensures (drop c.loop-at.at c.args.lines.now) kept.references) kept.backs;
      long = length-set c.loop-at.backs.items _ _ ∙ kept.long;
    }
