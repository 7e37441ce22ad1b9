-- What a byte of a format does within a field.
use Rattle.std.proofs.Common.{◌≡◌, ◌≢◌, ℕ, zero, suc, ◌+◌, ◌-◌, ◌*◌, ◌%◌, ◌<◌, ◌≤◌, ◌⊎◌, inl, inr, Bool, true, false, refl, ap, ◌∙◌, arith, None}
use Rattle.std.specs.Prelude.{if◌then◌else◌, nat_lt, nat_le, ◌&&◌}
use Rattle.std.proofs.lemmas.Bool.Decides.{nat_tests}
use Rattle.c65_base.specs.Formats.{Stage, begun, sized, leads, gives, stray, plain, met, met_letter, whole_field, short_form, long_form, longer}
use Rattle.c65_rtl.proofs.Meeting.{lt_true}
use Rattle.c65_rtl_law_printf_fields.proofs.Choosing.{not_equal}

-- behind `%` with this width so far
abbrev pub sized_by : ℕ → Stage
sized_by zero = begun
sized_by (suc w) = sized (suc w)

le_is : (a b : ℕ) → a ≤ b → nat_le a b ≡ true
le_is a b h = grind (arith, nat_tests)

not_le : (a b : ℕ) → b < a → nat_le a b ≡ false
not_le a b h = grind (arith, nat_tests)

and_false : (a b : Bool) → b ≡ false → (a && b) ≡ false
and_false true b e = e
and_false false b e = refl

both_true : (a b : Bool) → a ≡ true → b ≡ true → (a && b) ≡ true
both_true true b refl e = e
both_true false b e f = cc

first_false : (a b : Bool) → a ≡ false → (a && b) ≡ false
first_false true b e = cc
first_false false b e = refl

-- it is no digit
outside_digits : (a b : ℕ) → 48 ≤ a → b < 256 → 10 ≤ (b + 208) % 256 → (nat_le a b && nat_le b 57) ≡ false
outside_digits a b low small other = by (nat_le 48 b) refl
  where
    by : (t : Bool) → nat_le 48 b ≡ t → (nat_le a b && nat_le b 57) ≡ false
    by true e = let above : 48 ≤ b = grind (arith, nat_tests) in and_false (nat_le a b) (nat_le b 57) (not_le b 57 (omega arith))
    by false e = let below : b < 48 = grind (arith, nat_tests) in first_false (nat_le a b) (nat_le b 57) (not_le a b (omega arith))

pub letter_met : (w b : ℕ) → b < 256 → 10 ≤ (b + 208) % 256 → b ≢ 37 → met (sized_by w) b ≡ met_letter w b
letter_met zero b small other percent =
    ap (λ (c : Bool). if c then gives (plain 37) else if nat_le 49 b && nat_le b 57 then leads (sized (b - 48)) else met_letter 0 b) (not_equal b 37 percent)
    ∙ ap (λ (c : Bool). if c then leads (sized (b - 48)) else met_letter 0 b) (outside_digits 49 b (omega arith) small other)
letter_met (suc w) b small other percent =
    ap (λ (c : Bool). if c then leads (sized (10 * suc w + (b - 48))) else met_letter (suc w) b) (and_false (nat_lt (suc w) 10) (nat_le 48 b && nat_le b 57) (outside_digits 48 b (omega arith) small other))

-- `%` behind a width stands for nothing
pub percent_stray : (w : ℕ) → met (sized_by (suc w)) 37 ≡ stray
percent_stray w = ap (λ (c : Bool). if c then leads (sized (10 * suc w + (37 - 48))) else stray) (and_false (nat_lt (suc w) 10) false refl)

-- another letter than these stands for nothing
pub letter_stray : (w b : ℕ) → b ≢ 108 → b ≢ 100 → b ≢ 117 → b ≢ 120 → b ≢ 99 → b ≢ 115 → met_letter w b ≡ stray
letter_stray w b l d u x c s =
    ap (λ (t : Bool). if t then leads (longer w) else whole_field w (short_form b)) (not_equal b 108 l) ∙ ap (whole_field w) (none_short b d u x c s)
  where
    none_short : (b : ℕ) → b ≢ 100 → b ≢ 117 → b ≢ 120 → b ≢ 99 → b ≢ 115 → short_form b ≡ None
    none_short b d u x c s = grind (arith, nat_tests)

pub long_stray : (w b : ℕ) → b ≢ 100 → b ≢ 117 → met (longer w) b ≡ stray
long_stray w b d u = ap (whole_field w) (none_long b d u)
  where
    none_long : (b : ℕ) → b ≢ 100 → b ≢ 117 → long_form b ≡ None
    none_long b d u = grind (arith, nat_tests)

sized_some : (n : ℕ) → 1 ≤ n → sized n ≡ sized_by n
sized_some zero some = absurd (omega arith)
sized_some (suc n) some = refl

-- a digit makes the width longer, or cannot stand there
pub digit_met : (w b : ℕ) → 48 ≤ b → b ≤ 57 → (met (sized_by w) b ≡ stray) ⊎ ((w < 10) × (met (sized_by w) b ≡ leads (sized_by (10 * w + (b - 48)))))
digit_met zero b low high = by (nat_le 49 b) refl
  where
    others : met begun b ≡ (if nat_le 49 b && nat_le b 57 then leads (sized (b - 48)) else met_letter 0 b)
    others = ap (λ (c : Bool). if c then gives (plain 37) else if nat_le 49 b && nat_le b 57 then leads (sized (b - 48)) else met_letter 0 b) (not_equal b 37 (omega arith))

    by : (t : Bool) → nat_le 49 b ≡ t → (met (sized_by 0) b ≡ stray) ⊎ ((0 < 10) × (met (sized_by 0) b ≡ leads (sized_by (10 * 0 + (b - 48)))))
    by true e =
        let above : 49 ≤ b = grind (arith, nat_tests) in
        let first : b - 48 ≡ 10 * 0 + (b - 48) = omega arith in
        inr (omega arith, others ∙ (ap (λ (c : Bool). if c then leads (sized (b - 48)) else met_letter 0 b) (both_true (nat_le 49 b) (nat_le b 57) e (le_is b 57 high)) ∙ (ap leads (sized_some (b - 48) (omega arith)) ∙ ap (λ (n : ℕ). leads (sized_by n)) first)))
    by false e =
        let below : b < 49 = grind (arith, nat_tests) in
        inl (others ∙ (ap (λ (c : Bool). if c then leads (sized (b - 48)) else met_letter 0 b) (first_false (nat_le 49 b) (nat_le b 57) e) ∙ letter_stray 0 b (omega arith) (omega arith) (omega arith) (omega arith) (omega arith) (omega arith)))
digit_met (suc w) b low high = by (nat_lt (suc w) 10) refl
  where
    digit : (nat_le 48 b && nat_le b 57) ≡ true
    digit = both_true (nat_le 48 b) (nat_le b 57) (le_is 48 b low) (le_is b 57 high)

    by : (t : Bool) → nat_lt (suc w) 10 ≡ t → (met (sized (suc w)) b ≡ stray) ⊎ ((suc w < 10) × (met (sized (suc w)) b ≡ leads (sized_by (10 * suc w + (b - 48)))))
    by true e = inr (lt_true (suc w) 10 e, ap (λ (c : Bool). if c then leads (sized (10 * suc w + (b - 48))) else met_letter (suc w) b) (both_true (nat_lt (suc w) 10) (nat_le 48 b && nat_le b 57) e digit) ∙ ap leads (sized_some (10 * suc w + (b - 48)) (omega arith)))
    by false e = inl (ap (λ (c : Bool). if c then leads (sized (10 * suc w + (b - 48))) else met_letter (suc w) b) (first_false (nat_lt (suc w) 10) (nat_le 48 b && nat_le b 57) e)
        ∙ letter_stray (suc w) b (omega arith) (omega arith) (omega arith) (omega arith) (omega arith) (omega arith))
