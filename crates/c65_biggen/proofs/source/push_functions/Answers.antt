use Rattle.std.proofs.Common.{◌+◌, ◌-◌, ◌++◌, ◌∙◌, ap, sym}
use Rattle.c65_biggen.specs.Generated.{functions}
use Rattle.c65_biggen.proofs.SourceLaws.{one_function}
use Rattle.c65_biggen.proofs.source.push_functions.Goals as goal

pub loop-index-preserved : goal.loop-index-preserved
loop-index-preserved c =
    one_function c.args.count c.loop-index.index c.loop-index.number (c.args.source.now.items ++ functions c.args.count 0 c.args.count) c.loop-index.source.items c.extend_from_slice.new.self.items c.as_bytes.result.now
    c.loop-index-test.true (c.as_bytes.ensures.value ∙ c.in_ok-line.ensures) c.in_ok-extend_from_slice.ensures.items c.loop-index.invariant
    ∙ ap (λ number. c.extend_from_slice.new.self.items ++ functions (c.args.count - (c.loop-index.index + 1)) (c.loop-index.index + 1) number) (sym c.next-number.ensures)
