use Rattle.std.proofs.Common.{◌≡◌, ℕ}
use Rattle.c65_code.specs.Segments.{IsSegment}
use Rattle.c65_know.specs.Known.{annotated}
use Rattle.c65_pass.specs.Passes.{counted}
use Rattle.c65_pass.specs.Rewriting.{bulk}
use Rattle.c65_pass.proofs.Chains.{Done}
use Rattle.c65_pass.proofs.Ranks.{rank}
use Rattle.c65_pass.proofs.lines.sweeps.Given as goal

abbrev pub invariant-loop-more : goal.invariant-loop-more
invariant-loop-more g l =
    (n : ℕ) × Done l.pass.rule l.pass.literals.now.items l.fn.seg.out l.fn.seg.lines n l.seg.lines × (l.made ≡ counted n) × (l.seg.out ≡ l.fn.seg.out)
    × (l.made ≡ 0 → annotated l.seg.lines l.seg.out ≡ annotated l.fn.seg.lines l.fn.seg.out) × ((l.made ≡ 0 → ⊥) → IsSegment l.fn.seg.lines)

abbrev pub decreases-loop-more : goal.decreases-loop-more
decreases-loop-more g l = rank (bulk l.fn.seg.lines) l.seg.lines
