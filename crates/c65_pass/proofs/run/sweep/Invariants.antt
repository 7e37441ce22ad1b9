use Rattle.std.proofs.Common.{◌≡◌, ℕ, ◌+◌, ◌-◌, ◌*◌, ◌<◌, length, None}
use Rattle.c65_code.specs.Segments.{IsSegment}
use Rattle.c65_know.specs.Known.{annotated}
use Rattle.c65_pass.specs.Passes.{Rewrites, IsTableFor, counted}
use Rattle.c65_pass.specs.Rewriting.{bulk}
use Rattle.c65_pass.specs.Rules.{match_at}
use Rattle.c65_pass.proofs.Ranks.{rank}
use Rattle.c65_pass.proofs.run.sweep.Given as goal

-- so many rewritings so far; until the first one the rule matches at no line that was passed
abbrev pub invariant-loop-at : goal.invariant-loop-at
invariant-loop-at g l =
    let literals = l.pass.literals.now.items in
    (n : ℕ) × record {
      chain : Rewrites l.pass.rule literals l.fn.code.out l.fn.code.lines n l.code.lines;
      made : l.made ≡ counted n;
      noted : l.code ≡ annotated l.code.lines l.fn.code.out;
      segment : IsSegment l.fn.code.lines;
      live : IsTableFor l.pass.rule l.code l.live;
      same : l.made ≡ 0 → l.code ≡ l.fn.code;
      clean : l.made ≡ 0 → (k : ℕ) → k < l.at → match_at l.pass.rule literals l.code l.live k ≡ None;
    }

abbrev pub decreases-loop-at : goal.decreases-loop-at
decreases-loop-at g l = rank (bulk l.fn.code.lines) l.code.lines * (bulk l.fn.code.lines + 1) + (length l.code.lines - l.at)
