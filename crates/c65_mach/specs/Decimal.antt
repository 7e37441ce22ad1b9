-- The difference in decimal mode by the formulas as they are written, on integers:
-- low = (A & 15) - (M & 15) + C - 1, and where it is below 0, ((low - 6) & 15) - 16;
-- t = (A & $F0) - (M & $F0) + low, and where it is below 0, t - $60; the result is t & 255.
use Rattle.std.specs.Prelude.{◌≡◌, ℕ, ◌*◌, ◌/◌, ◌%◌, ◌<◌, Bool, ℤ, pos, ◌+ℤ◌, ◌-ℤ◌, ◌*ℤ◌, ◌<ℤ◌, ◌≤ℤ◌}
use Rattle.c65_mach.specs.Step.{bit}

-- rest is n modulo size, also where n is below 0
abbrev pub IsRest : ℕ → ℤ → ℕ → Type 0
IsRest size n rest = (rest < size) × ((times : ℤ) × (n ≡ (pos size *ℤ times) +ℤ pos rest))

abbrev pub BorrowsLow : ℤ → ℤ → Type 0
BorrowsLow low to = (low <ℤ pos 0 → (digit : ℕ) × IsRest 16 (low -ℤ pos 6) digit × (to ≡ pos digit -ℤ pos 16)) × (pos 0 ≤ℤ low → to ≡ low)

abbrev pub Borrows : ℤ → ℤ → Type 0
Borrows sum to = (sum <ℤ pos 0 → to ≡ sum -ℤ pos 96) × (pos 0 ≤ℤ sum → to ≡ sum)

pub record IsDifference (a v : ℕ) (c : Bool) (result : ℕ) : Type 0 where
  pub low : ℤ
  pub digits : BorrowsLow (((pos (a % 16) -ℤ pos (v % 16)) +ℤ pos (bit c)) -ℤ pos 1) low
  pub whole : ℤ
  pub sum : Borrows ((pos (16 * (a / 16)) -ℤ pos (16 * (v / 16))) +ℤ low) whole
  pub rest : IsRest 256 whole result
