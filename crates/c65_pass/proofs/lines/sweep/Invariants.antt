use Rattle.std.proofs.Common.{◌≡◌, ℕ, ◌+◌, ◌-◌, ◌*◌, ◌<◌, length, None}
use Rattle.c65_code.specs.Segments.{IsSegment}
use Rattle.c65_know.specs.Known.{annotated}
use Rattle.c65_pass.specs.Passes.{Rewrites, counted}
use Rattle.c65_pass.specs.Rewriting.{bulk}
use Rattle.c65_pass.specs.Rules.{match_at}
use Rattle.c65_pass.proofs.Ranks.{rank}
use Rattle.c65_pass.proofs.lines.sweep.Given as goal

-- so many rewritings so far; until the first one the rule matches at no line that was passed
abbrev pub invariant-loop-at : goal.invariant-loop-at
invariant-loop-at g l =
    let literals = l.pass.literals.now.items in
    let now = annotated l.seg.lines l.seg.out in
    (n : ℕ) × record {
      chain : Rewrites l.pass.rule literals l.fn.seg.out l.fn.seg.lines n l.seg.lines;
      made : l.made ≡ counted n;
      noted : now ≡ annotated l.seg.lines l.fn.seg.out;
      segment : IsSegment l.fn.seg.lines;
      same : l.made ≡ 0 → now ≡ annotated l.fn.seg.lines l.fn.seg.out;
      clean : l.made ≡ 0 → (k : ℕ) → k < l.at → match_at l.pass.rule literals now l.live k ≡ None;
    }

abbrev pub decreases-loop-at : goal.decreases-loop-at
decreases-loop-at g l = rank (bulk l.fn.seg.lines) l.seg.lines * (bulk l.fn.seg.lines + 1) + (length l.seg.lines - l.at)
