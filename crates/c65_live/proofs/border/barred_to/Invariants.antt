use Rattle.std.proofs.Common.{◌≡◌, ℕ, ◌≤◌, Some, length, slice_get}
use Rattle.c65_live.proofs.border.barred_to.Given as goal

-- none of the lines that were gone over leads back over the first
abbrev pub invariant-loop-first : goal.invariant-loop-first
invariant-loop-first l = record {
  low : l.first ≤ l.from;
  within : l.at ≤ length l.places;
  barred : (q r : ℕ) → l.at ≤ q → slice_get l.places q ≡ Some (Some r) → l.first ≤ r;
}

abbrev pub decreases-loop-first : goal.decreases-loop-first
decreases-loop-first l = l.at
