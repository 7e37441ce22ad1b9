use Rattle.std.proofs.Common.{◌≡◌, ℕ}
use Rattle.c65_code.specs.Segments.{IsSegment}
use Rattle.c65_pass.specs.Passes.{IsTableOf, counted}
use Rattle.c65_pass.specs.Rewriting.{bulk}
use Rattle.c65_pass.specs.Rounds.{Only, InTurn}
use Rattle.c65_pass.proofs.Ranks.{rank}
use Rattle.c65_pass.proofs.Turns.{RulesDone}
use Rattle.c65_pass.proofs.group.run_group.Given as goal

abbrev pub invariant-loop-more : goal.invariant-loop-more
invariant-loop-more g l =
    (n : ℕ) × RulesDone (InTurn l.group.first l.group.end Only) l.fn.code.out l.fn.code.lines n l.code.lines × (l.made ≡ counted n)
    × (l.code.out ≡ l.fn.code.out) × (l.made ≡ 0 → l.code ≡ l.fn.code) × ((l.made ≡ 0 → ⊥) → IsSegment l.fn.code.lines) × IsTableOf l.code l.live

abbrev pub decreases-loop-more : goal.decreases-loop-more
decreases-loop-more g l = rank (bulk l.fn.code.lines) l.code.lines
