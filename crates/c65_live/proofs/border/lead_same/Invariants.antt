use Rattle.std.proofs.Common.{◌≡◌, ℕ, ◌<◌, ◌≤◌, Some, slice_get}
use Rattle.c65_live.specs.Regions.{IsSame}
use Rattle.c65_live.proofs.border.lead_same.Given as goal

abbrev pub invariant-loop-at : goal.invariant-loop-at
invariant-loop-at l = record {
  most : l.at ≤ l.first;
  same : (q r : ℕ) → q < l.at → slice_get l.places q ≡ Some (Some r) → l.first ≤ r → IsSame l.change.at l.change.count l.change.new l.old l.live r;
}
