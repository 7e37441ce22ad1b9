-- Decimal differences on whole numbers are those on integers.
use Rattle.std.proofs.Common.{◌≡◌, ℕ, ◌+◌, ◌-◌, ◌*◌, ◌/◌, ◌%◌, ◌<◌, ◌≤◌, Bool, true, false, refl, sym, subst, arith, inl, inr}
use Rattle.std.specs.Prelude.{ℤ, pos, ◌+ℤ◌, ◌-ℤ◌}
use Rattle.std.proofs.lemmas.Int.{ints}
use Rattle.std.proofs.lemmas.Bool.{cases_lt, le-ltb, lt-ltb}
use Rattle.c65_mach.specs.Step.{bit, decimal_borrow, decimal_lend, decimal_difference}
use Rattle.c65_mach.specs.Decimal.{IsRest, BorrowsLow, Borrows, IsDifference}

bit-small : (b : Bool) → bit b ≤ 1
bit-small true = omega arith
bit-small false = omega arith

-- the low digits, with 16 more
low_digits : (low : ℕ) → low < 32 → BorrowsLow (pos low -ℤ pos 16) (pos (decimal_borrow low) -ℤ pos 16) × (decimal_borrow low < 32)
low_digits low h =
    let P : ℕ → Type 0 = λ to. BorrowsLow (pos low -ℤ pos 16) (pos to -ℤ pos 16) × (to < 32) in
    elim (cases_lt low 16) [
      | inl less ↦ (let is : decimal_borrow low ≡ (low + 10) % 16 = rw (lt-ltb low 16 less) refl in
          subst P (sym is) ((λ _. ((low + 10) % 16, (omega arith, (pos ((low + 10) / 16) -ℤ pos 2, omega (arith, ints))), refl), λ above. absurd (omega (arith, ints, above))), omega arith))
      | inr enough ↦ (let is : decimal_borrow low ≡ low = rw (le-ltb low 16 enough) refl in
          subst P (sym is) ((λ below. absurd (omega (arith, ints, below)), λ _. refl), h))
    ]

-- the whole, with 512 more
whole_sum : (sum : ℕ) → 256 ≤ sum → sum < 1024 → (whole : ℤ) × Borrows (pos sum -ℤ pos 512) whole × IsRest 256 whole (decimal_lend sum)
whole_sum sum least most =
    let P : ℕ → Type 0 = λ to. (whole : ℤ) × Borrows (pos sum -ℤ pos 512) whole × IsRest 256 whole to in
    elim (cases_lt sum 512) [
      | inl less ↦ (let is : decimal_lend sum ≡ (sum - 96) % 256 = rw (lt-ltb sum 512 less) refl in
          subst P (sym is) (pos sum -ℤ pos 608, (λ _. omega (arith, ints), λ above. absurd (omega (arith, ints, above))), (omega arith, (pos ((sum - 96) / 256) -ℤ pos 2, omega (arith, ints)))))
      | inr enough ↦ (let is : decimal_lend sum ≡ sum % 256 = rw (le-ltb sum 512 enough) refl in
          subst P (sym is) (pos sum -ℤ pos 512, (λ below. absurd (omega (arith, ints, below)), λ _. refl), (omega arith, (pos (sum / 256) -ℤ pos 2, omega (arith, ints)))))
    ]

pub written_difference : (a v : ℕ) (c : Bool) → a < 256 → v < 256 → IsDifference a v c (decimal_difference a v c)
written_difference a v c in_a in_v =
    let small = bit-small c in
    let low : ℕ = 15 + a % 16 + bit c - v % 16 in
    let digits = low_digits low (omega arith) in
    let sum : ℕ = 496 + 16 * (a / 16) + decimal_borrow low - 16 * (v / 16) in
    let whole = whole_sum sum (omega (arith, digits.1)) (omega (arith, digits.1)) in
    let same_low : (((pos (a % 16) -ℤ pos (v % 16)) +ℤ pos (bit c)) -ℤ pos 1) ≡ pos low -ℤ pos 16 = omega (arith, ints) in
    let same_sum : ((pos (16 * (a / 16)) -ℤ pos (16 * (v / 16))) +ℤ (pos (decimal_borrow low) -ℤ pos 16)) ≡ pos sum -ℤ pos 512 = omega (arith, ints) in
    record {
      low = pos (decimal_borrow low) -ℤ pos 16;
      digits = subst (λ (n : ℤ). BorrowsLow n (pos (decimal_borrow low) -ℤ pos 16)) (sym same_low) digits.0;
      whole = whole.0;
      sum = subst (λ (n : ℤ). Borrows n whole.0) (sym same_sum) whole.1;
      rest = whole.2;
    }
