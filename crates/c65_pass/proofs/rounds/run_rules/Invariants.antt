use Rattle.std.proofs.Common.{◌≡◌, ℕ, ◌+◌, ◌-◌, ◌*◌, ◌<◌, ◌≤◌}
use Rattle.c65_code.specs.Segments.{IsSegment}
use Rattle.c65_pass.specs.Passes.{counted}
use Rattle.c65_pass.specs.Rewriting.{bulk}
use Rattle.c65_pass.specs.Rounds.{InTurn, AreFree}
use Rattle.c65_pass.proofs.Cycles.{IsRecent}
use Rattle.c65_pass.proofs.Ranks.{rank}
use Rattle.c65_pass.proofs.Turns.{RulesDone}
use Rattle.c65_pass.proofs.rounds.run_rules.Given as goal

-- so many rewritings so far, and the rules of the last turns match nowhere
abbrev pub invariant-turns : goal.invariant-turns
invariant-turns g l =
    (n : ℕ) × record {
      done : RulesDone (InTurn g.R.Rules.first g.R.Rules.end g.R.Rules.among) l.fn.code.out l.fn.code.lines n l.code.lines;
      made : l.made ≡ counted n;
      out : l.code.out ≡ l.fn.code.out;
      same : l.made ≡ 0 → l.code ≡ l.fn.code;
      since : (l.made ≡ 0 → ⊥) → IsSegment l.fn.code.lines;
      segment : 0 < l.idle → IsSegment l.code.lines;
      ready : g.R.Rules.ready l.rules l.code;
      from : l.first ≤ l.turn;
      before : l.turn < l.end;
      few : l.idle ≤ l.end - l.first;
      free : (t : ℕ) → l.first ≤ t → t < l.end → IsRecent l.first l.end l.turn l.idle t → AreFree (g.R.Rules.among t) l.code;
    }

abbrev pub decreases-turns : goal.decreases-turns
decreases-turns g l = rank (bulk l.fn.code.lines) l.code.lines * (l.end - l.first + 1) + (l.end - l.first - l.idle)
