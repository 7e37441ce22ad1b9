use Rattle.std.proofs.Common.{◌≡◌, ℕ, ◌-◌, ◌≤◌, get_or}
use Rattle.c65_code.specs.Parts.{no_parts}
use Rattle.c65_live.specs.Regions.{IsBarred, IsSwept}
use Rattle.c65_live.proofs.region.settle_up.Given as goal

abbrev pub invariant-loop-out : goal.invariant-loop-out
invariant-loop-out l = record {
  low : l.first ≤ l.change.at - 1;
  barred : IsBarred l.places l.first;
  swept : IsSwept l.lines l.out l.live l.first l.end;
  behind : (q : ℕ) → l.end ≤ q → get_or l.live q no_parts ≡ get_or l.fn.live q no_parts;
}

abbrev pub decreases-loop-out : goal.decreases-loop-out
decreases-loop-out l = l.first
