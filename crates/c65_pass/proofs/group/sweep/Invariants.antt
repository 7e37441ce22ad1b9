use Rattle.std.proofs.Common.{◌≡◌, ℕ, ◌+◌, ◌-◌, ◌*◌, ◌<◌, [], length, None}
use Rattle.c65_code.specs.Segments.{IsSegment}
use Rattle.c65_know.specs.Known.{annotated}
use Rattle.c65_pass.specs.Passes.{IsTableOf, counted}
use Rattle.c65_pass.specs.Rewriting.{bulk}
use Rattle.c65_pass.specs.Rounds.{Only, InTurn, RulesRewrite}
use Rattle.c65_pass.specs.Rules.{match_at}
use Rattle.c65_pass.proofs.Ranks.{rank}
use Rattle.c65_pass.proofs.group.sweep.Given as goal

-- so many rewritings so far; until the first one no rule matches at a line that was passed
abbrev pub invariant-loop-at : goal.invariant-loop-at
invariant-loop-at g l =
    (n : ℕ) × record {
      chain : RulesRewrite (InTurn l.group.first l.group.end Only) l.fn.code.out l.fn.code.lines n l.code.lines;
      made : l.made ≡ counted n;
      noted : l.code ≡ annotated l.code.lines l.fn.code.out;
      segment : IsSegment l.fn.code.lines;
      live : IsTableOf l.code l.live;
      same : l.made ≡ 0 → l.code ≡ l.fn.code;
      clean : l.made ≡ 0 → (rule : ℕ) → InTurn l.group.first l.group.end Only rule → (k : ℕ) → k < l.at → match_at rule [] l.code l.live k ≡ None;
    }

abbrev pub decreases-loop-at : goal.decreases-loop-at
decreases-loop-at g l = rank (bulk l.fn.code.lines) l.code.lines * (bulk l.fn.code.lines + 1) + (length l.code.lines - l.at)
