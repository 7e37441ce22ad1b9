use Rattle.std.proofs.Common.{◌≡◌, ℕ}
use Rattle.c65_code.specs.Segments.{IsSegment}
use Rattle.c65_pass.specs.Passes.{IsTableFor, counted}
use Rattle.c65_pass.specs.Rewriting.{bulk}
use Rattle.c65_pass.proofs.Chains.{Done}
use Rattle.c65_pass.proofs.Ranks.{rank}
use Rattle.c65_pass.proofs.run.run_pass_on.Given as goal

abbrev pub invariant-loop-more : goal.invariant-loop-more
invariant-loop-more g l =
    (n : ℕ) × Done l.pass.rule l.pass.literals.now.items l.fn.code.out l.fn.code.lines n l.code.lines × (l.made ≡ counted n) × (l.code.out ≡ l.fn.code.out)
    × (l.made ≡ 0 → l.code ≡ l.fn.code) × ((l.made ≡ 0 → ⊥) → IsSegment l.fn.code.lines) × IsTableFor l.pass.rule l.code l.live

abbrev pub decreases-loop-more : goal.decreases-loop-more
decreases-loop-more g l = rank (bulk l.fn.code.lines) l.code.lines
