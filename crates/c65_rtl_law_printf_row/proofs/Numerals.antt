-- The text of a number is its numeral.
use Rattle.std.proofs.Common.{◌≡◌, ℕ, ◌+◌, ◌-◌, ◌/◌, ◌^◌, ◌<◌, ◌≤◌, Bool, true, false, List, [], ◌∷◌, length, refl, sym, ap, ◌∙◌, arith, zero, suc, nat_eq, ◌%◌}
use Rattle.std.specs.Prelude.{if◌then◌else◌, nat_lt}
use Rattle.std.specs.Fmt.{decimal, digits, digits_onto, digit_glyph}
use Rattle.c65_base.specs.Formats.{signed_text}
use Rattle.c65_rtl.proofs.Meeting.{lt_true, lt_false}
use Rattle.c65_rtl.proofs.Widenings.{below_is, not_below}
use Rattle.c65_rtl_law_printf_fields.specs.Choosing.{spread_by}
use Rattle.c65_rtl_law_printf_fields.specs.Signs.{is_negative, magnitude}
use Rattle.c65_rtl_law_printf_fields.specs.Numbers.{numeral}

-- of a number of 32 bits, by its letter
abbrev pub numeral_of : ℕ → ℕ → ℕ → List ℕ
numeral_of letter base n = numeral base (if is_negative letter n then 1 else 0) (magnitude letter n)

positive : (n : ℕ) → n ≤ 2147483647 → numeral_of 52 10 n ≡ decimal n
positive n low = ap (λ (b : Bool). numeral 10 (if b then 1 else 0) (if b then 4294967296 - n else n)) (not_below 2147483647 n low)

negative : (n : ℕ) → 2147483647 < n → numeral_of 52 10 n ≡ 45 ∷ decimal (4294967296 - n)
negative n high = ap (λ (b : Bool). numeral 10 (if b then 1 else 0) (if b then 4294967296 - n else n)) (below_is 2147483647 n high)

pub signed_words : (n : ℕ) → n < 65536 → signed_text (2 ^ 16) n ≡ numeral_of 52 10 (spread_by 52 n)
signed_words n small = by (nat_lt n 32768) refl
  where
    by : (b : Bool) → nat_lt n 32768 ≡ b → (if b then decimal n else 45 ∷ decimal (65536 - n)) ≡ numeral_of 52 10 (spread_by 52 n)
    by true e =
        let low = lt_true n 32768 e in
        sym (ap (λ (b : Bool). numeral_of 52 10 (if b then n + 4294901760 else n)) (not_below 32767 n (omega arith)) ∙ positive n (omega arith))
    by false e =
        let high = lt_false n 32768 e in
        let same : 4294967296 - (n + 4294901760) ≡ 65536 - n = omega arith in
        sym (ap (λ (b : Bool). numeral_of 52 10 (if b then n + 4294901760 else n)) (below_is 32767 n (omega arith)) ∙ (negative (n + 4294901760) (omega arith) ∙ ap (λ (m : ℕ). 45 ∷ decimal m) same))

pub signed_longs : (n : ℕ) → signed_text (2 ^ 32) n ≡ numeral_of 52 10 n
signed_longs n = by (nat_lt n 2147483648) refl
  where
    by : (b : Bool) → nat_lt n 2147483648 ≡ b → (if b then decimal n else 45 ∷ decimal (4294967296 - n)) ≡ numeral_of 52 10 n
    by true e = let low = lt_true n 2147483648 e in sym (positive n (omega arith))
    by false e = let high = lt_false n 2147483648 e in sym (negative n (omega arith))

-- it has a digit at least
more_digits : (fuel base n : ℕ) (ds : List ℕ) → 1 ≤ length ds → 1 ≤ length (digits_onto fuel base false n ds)
more_digits zero base n ds some = some
more_digits (suc fuel) base n ds some = by (nat_eq (n / base) 0) (more_digits fuel base (n / base) (digit_glyph false (n % base) ∷ ds) (omega arith))
  where
    by : (b : Bool) → 1 ≤ length (digits_onto fuel base false (n / base) (digit_glyph false (n % base) ∷ ds)) → 1 ≤ length (if b then digit_glyph false (n % base) ∷ ds else digits_onto fuel base false (n / base) (digit_glyph false (n % base) ∷ ds))
    by true more = omega arith
    by false more = more

first_digit : (fuel base n : ℕ) → 1 ≤ length (digits_onto (suc fuel) base false n [])
first_digit fuel base n = by (nat_eq (n / base) 0)
  where
    by : (b : Bool) → 1 ≤ length (if b then digit_glyph false (n % base) ∷ [] else digits_onto fuel base false (n / base) (digit_glyph false (n % base) ∷ []))
    by true = omega arith
    by false = more_digits fuel base (n / base) (digit_glyph false (n % base) ∷ []) (omega arith)

some_digits : (base n : ℕ) → 1 ≤ length (digits base false n)
unfolding digits
some_digits base n = first_digit 63 base n

pub some_numeral : (base sign n : ℕ) → 1 ≤ length (numeral base sign n)
some_numeral base sign n = by (nat_eq sign 0)
  where
    by : (b : Bool) → 1 ≤ length (if b then digits base false n else 45 ∷ digits base false n)
    by true = some_digits base n
    by false = let some = some_digits base n in omega arith
