use Rattle.std.proofs.Common.{◌++◌, ◌∙◌}
use Rattle.c65_biggen.specs.Generated.{calls}
use Rattle.c65_biggen.proofs.SourceLaws.{one_call}
use Rattle.c65_biggen.proofs.source.push_calls.Goals as goal

pub loop-index-preserved : goal.loop-index-preserved
loop-index-preserved c =
    one_call c.args.count c.loop-index.index (c.args.source.now.items ++ calls c.args.count 0) c.loop-index.source.items c.extend_from_slice.new.self.items c.as_bytes.result.now
    c.loop-index-test.true (c.as_bytes.ensures.value ∙ c.in_ok-line.ensures) c.in_ok-extend_from_slice.ensures.items c.loop-index.invariant
