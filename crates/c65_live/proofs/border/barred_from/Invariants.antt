use Rattle.std.proofs.Common.{◌≡◌, ℕ, ◌<◌, ◌≤◌, Some, length, slice_get}
use Rattle.c65_live.proofs.border.barred_from.Given as goal

-- of the lines that were gone over none from the end on leads back over it
abbrev pub invariant-loop-at : goal.invariant-loop-at
invariant-loop-at l = record {
  past : l.from ≤ l.end;
  within : l.end ≤ l.at;
  last : l.at-end ≡ length l.places;
  most : l.at ≤ l.at-end;
  barred : (q r : ℕ) → q < l.at → l.end ≤ q → slice_get l.places q ≡ Some (Some r) → l.end ≤ r;
}
