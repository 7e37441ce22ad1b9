-- Numbers of a width after so many shifts by one.
use Rattle.std.proofs.Common.{◌≡◌, ℕ, suc, ◌+◌, ◌-◌, ◌*◌, ◌/◌, ◌%◌, ◌^◌, ◌<◌, ◌≤◌, ◌⊎◌, inl, inr, true, false, refl, sym, ap, ◌∙◌, arith}
use Rattle.std.specs.Prelude.{nat_le}
use Rattle.std.proofs.Math.Nat.{pow-suc, div-div-eq-div-mul, div-le_self, div-eq_of_eq-mul_left, le-div_iff_mul-le, div-lt_iff_lt-mul, le-mul_of_pos_right}
use Rattle.std.proofs.lemmas.Nat.{pow-add, pow_pos}
use Rattle.std.proofs.lemmas.Bool.Decides.{leb_tells}
use Rattle.c65_code.specs.declared.routine.Width.{Width}
use Rattle.c65_code.specs.declared.routine.Width.TheVariants.{Ax, Eax}
use Rattle.c65_code.specs.Numbers.{bits_of, words_of, sign_of, shifted_right}

abbrev pub down : ℕ → ℕ → ℕ
down v d = v / 2 ^ d

pub down_step : (v d : ℕ) → down v d / 2 ≡ down v (suc d)
down_step v d = div-div-eq-div-mul v (2 ^ d) 2 ∙ ap (λ (k : ℕ). v / k) (sym (pow-suc 2 d))

abbrev pub up : Width → ℕ → ℕ → ℕ
up width v d = (v * 2 ^ d) % words_of width

doubled : (width : Width) (v : ℕ) → (2 * (v % words_of width)) % words_of width ≡ (2 * v) % words_of width
doubled Ax v = omega arith
doubled Eax v = omega arith

pub up_step : (width : Width) (v d : ℕ) → (2 * up width v d) % words_of width ≡ up width v (suc d)
up_step width v d =
    let p : 2 ^ suc d ≡ 2 ^ d * 2 = pow-suc 2 d in
    let e : v * (2 ^ d * 2) ≡ 2 * (v * 2 ^ d) = omega arith in
    doubled width (v * 2 ^ d) ∙ ap (λ (k : ℕ). k % words_of width) (sym e ∙ ap (λ (k : ℕ). v * k) (sym p))

-- a half with the sign of its whole
abbrev pub half : Width → ℕ → ℕ
half width k = k / 2 + sign_of width * (k / sign_of width)

half_high : (width : Width) (k : ℕ) → sign_of width ≤ k → k < words_of width → half width k ≡ k / 2 + sign_of width
half_high Ax k high small = omega arith
half_high Eax k high small = omega arith

half_low : (width : Width) (k : ℕ) → k < sign_of width → half width k ≡ k / 2
half_low Ax k low = omega arith
half_low Eax k low = omega arith

words_are : (width : Width) → words_of width ≡ 2 ^ bits_of width
words_are Ax = refl
words_are Eax = refl

signs_are : (width : Width) → words_of width ≡ sign_of width + sign_of width
signs_are Ax = refl
signs_are Eax = refl

negative_step : (width : Width) (v d : ℕ) → sign_of width ≤ v → v < words_of width → suc d < bits_of width → half width (v / 2 ^ d + (words_of width - words_of width / 2 ^ d)) ≡ v / 2 ^ suc d + (words_of width - words_of width / 2 ^ suc d)
negative_step width v d high small few =
    let q : ℕ = 2 ^ (bits_of width - suc d) in
    let p : ℕ = 2 ^ d in
    let p_some : 0 < 2 ^ d = pow_pos d in
    let both_some : 0 < 2 ^ suc d = pow_pos (suc d) in
    let bits : bits_of width ≡ bits_of width - suc d + suc d = omega arith in
    let whole : words_of width ≡ q * 2 ^ suc d = words_are width ∙ (ap (λ (k : ℕ). 2 ^ k) bits ∙ pow-add 2 (bits_of width - suc d) (suc d)) in
    let twice : q * 2 ^ suc d ≡ q * (p * 2) = ap (λ (k : ℕ). q * k) (pow-suc 2 d) in
    let parts : q * (p * 2) ≡ (q + q) * p = omega arith in
    let halves : (q + q) * p ≡ q * p + q * p = omega arith in
    let signs = signs_are width in
    let sign : sign_of width ≡ q * p = omega arith in
    let upper : words_of width / 2 ^ d ≡ q + q = div-eq_of_eq-mul_left p_some (whole ∙ (twice ∙ parts)) in
    let lower : words_of width / 2 ^ suc d ≡ q = div-eq_of_eq-mul_left both_some whole in
    let least : q ≤ v / p = (le-div_iff_mul-le p_some).1 (omega arith) in
    let most : v / p < q + q = (div-lt_iff_lt-mul p_some).1 (omega arith) in
    let room : q ≤ q * p = le-mul_of_pos_right q p_some in
    let step = down_step v d in
    let k : ℕ = v / p + (words_of width - words_of width / p) in
    let e : k / 2 + sign_of width ≡ v / 2 ^ suc d + (words_of width - words_of width / 2 ^ suc d) = omega arith in
    half_high width k (omega arith) (omega arith) ∙ e

pub signed_step : (width : Width) (v d : ℕ) → v < words_of width → suc d < bits_of width → half width (shifted_right width v d) ≡ shifted_right width v (suc d)
signed_step width v d small few = by (leb_tells (sign_of width) v)
  where
    by : ((nat_le (sign_of width) v ≡ true) × (sign_of width ≤ v)) ⊎ ((nat_le (sign_of width) v ≡ false) × (v < sign_of width)) → half width (shifted_right width v d) ≡ shifted_right width v (suc d)
    by (inl p) = rw p.0 (negative_step width v d p.1 small few)
    by (inr p) = let under = p.1 in let less = div-le_self v (2 ^ d) in rw p.0 (half_low width (v / 2 ^ d) (omega arith) ∙ down_step v d)

pub signed_start : (width : Width) (v : ℕ) → v ≡ shifted_right width v 0
signed_start width v = by (leb_tells (sign_of width) v)
  where
    by : ((nat_le (sign_of width) v ≡ true) × (sign_of width ≤ v)) ⊎ ((nat_le (sign_of width) v ≡ false) × (v < sign_of width)) → v ≡ shifted_right width v 0
    by (inl p) = let e : v ≡ v / 1 + (words_of width - words_of width / 1) = omega arith in rw p.0 e
    by (inr p) = let e : v ≡ v / 1 = omega arith in rw p.0 e
