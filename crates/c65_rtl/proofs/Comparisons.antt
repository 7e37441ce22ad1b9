-- What the comparisons of the lines tell of numbers.
use Rattle.std.proofs.Common.{◌≡◌, ℕ, suc, ◌+◌, ◌-◌, ◌*◌, ◌/◌, ◌%◌, ◌<◌, ◌≤◌, Bool, true, false, not, nat_eq, ap, ◌∙◌, arith}
use Rattle.std.specs.Prelude.{nat_lt, nat_le, bit_and, bit_or, bit_xor}
use Rattle.c65_mach.specs.Step.{bit, negative}
use Rattle.c65_code.specs.declared.routine.Width.TheVariants.{Ax, Eax}
use Rattle.c65_code.specs.Numbers.{turned}
use Rattle.c65_rtl.proofs.UnaryWords.{bit_carry}
use Rattle.c65_rtl.proofs.Flags.{not_le, le_same, eq_same, xor_none, xor_same, or_none_left, or_none_right, or_both, flipped, sign_of_sum}

-- AX, or EAX, less the number on the stack, byte by byte, where c is 1 if nothing more is taken off
abbrev pub less_0 : ℕ → ℕ → ℕ → ℕ
less_0 c a m0 = a + (255 - m0) + c

abbrev pub less_1 : ℕ → ℕ → ℕ → ℕ → ℕ → ℕ
less_1 c a x m0 m1 = x + (255 - m1) + bit (nat_lt 255 (less_0 c a m0))

abbrev pub less_2 : ℕ → ℕ → ℕ → ℕ → ℕ → ℕ → ℕ → ℕ
less_2 c a x l m0 m1 m2 = l + (255 - m2) + bit (nat_lt 255 (less_1 c a x m0 m1))

abbrev pub less_3 : ℕ → ℕ → ℕ → ℕ → ℕ → ℕ → ℕ → ℕ → ℕ → ℕ
less_3 c a x l h m0 m1 m2 m3 = h + (255 - m3) + bit (nat_lt 255 (less_2 c a x l m0 m1 m2))

-- V of a sum
abbrev pub overflow : ℕ → ℕ → ℕ → Bool
overflow x w sum = negative (bit_and (bit_xor x (sum % 256)) (bit_xor w (sum % 256)))

pub word_equal : (a x m0 m1 : ℕ) → a < 256 → m0 < 256 → nat_eq (bit_or (bit_xor x m1) (bit_xor a m0)) 0 ≡ nat_eq (m0 + 256 * m1) (a + 256 * x)
word_equal a x m0 m1 la l0 = eq_same (bit_or (bit_xor x m1) (bit_xor a m0)) 0 (m0 + 256 * m1) (a + 256 * x) to from
  where
    to : bit_or (bit_xor x m1) (bit_xor a m0) ≡ 0 → m0 + 256 * m1 ≡ a + 256 * x
    to none =
        let high : x ≡ m1 = xor_none x m1 (or_none_left (bit_xor x m1) (bit_xor a m0) none) in
        let low : a ≡ m0 = xor_none a m0 (or_none_right (bit_xor x m1) (bit_xor a m0) none) in
        omega arith

    from : m0 + 256 * m1 ≡ a + 256 * x → bit_or (bit_xor x m1) (bit_xor a m0) ≡ 0
    from same =
        let high : x ≡ m1 = omega arith in
        let low : a ≡ m0 = omega arith in
        or_both (bit_xor x m1) (bit_xor a m0) (xor_same x m1 high) (xor_same a m0 low)

pub long_equal : (a x l h m0 m1 m2 m3 : ℕ) → a < 256 → x < 256 → l < 256 → m0 < 256 → m1 < 256 → m2 < 256
    → nat_eq (bit_or (bit_xor h m3) (bit_or (bit_xor l m2) (bit_or (bit_xor x m1) (bit_xor a m0)))) 0 ≡ nat_eq (m0 + 256 * m1 + 65536 * (m2 + 256 * m3)) (a + 256 * x + 65536 * (l + 256 * h))
long_equal a x l h m0 m1 m2 m3 la lx ll l0 l1 l2 = eq_same (bit_or (bit_xor h m3) second) 0 (m0 + 256 * m1 + 65536 * (m2 + 256 * m3)) (a + 256 * x + 65536 * (l + 256 * h)) to from
  where
    first : ℕ
    first = bit_or (bit_xor x m1) (bit_xor a m0)

    second : ℕ
    second = bit_or (bit_xor l m2) first

    to : bit_or (bit_xor h m3) second ≡ 0 → m0 + 256 * m1 + 65536 * (m2 + 256 * m3) ≡ a + 256 * x + 65536 * (l + 256 * h)
    to whole =
        let rest : second ≡ 0 = or_none_right (bit_xor h m3) second whole in
        let last : first ≡ 0 = or_none_right (bit_xor l m2) first rest in
        let d3 : h ≡ m3 = xor_none h m3 (or_none_left (bit_xor h m3) second whole) in
        let d2 : l ≡ m2 = xor_none l m2 (or_none_left (bit_xor l m2) first rest) in
        let d1 : x ≡ m1 = xor_none x m1 (or_none_left (bit_xor x m1) (bit_xor a m0) last) in
        let d0 : a ≡ m0 = xor_none a m0 (or_none_right (bit_xor x m1) (bit_xor a m0) last) in
        omega arith

    from : m0 + 256 * m1 + 65536 * (m2 + 256 * m3) ≡ a + 256 * x + 65536 * (l + 256 * h) → bit_or (bit_xor h m3) second ≡ 0
    from same =
        let d3 : h ≡ m3 = omega arith in
        let d2 : l ≡ m2 = omega arith in
        let d1 : x ≡ m1 = omega arith in
        let d0 : a ≡ m0 = omega arith in
        or_both (bit_xor h m3) second (xor_same h m3 d3) (or_both (bit_xor l m2) first (xor_same l m2 d2) (or_both (bit_xor x m1) (bit_xor a m0) (xor_same x m1 d1) (xor_same a m0 d0)))

-- below, or not above where nothing more was taken off
abbrev pub less : Bool → ℕ → ℕ → Bool
less false t p = nat_lt t p
less true t p = nat_le t p

less_is : (k : Bool) (t p : ℕ) → nat_le (suc t) (bit k + p) ≡ less k t p
less_is false t p = le_same (suc t) (0 + p) (suc t) p (λ g. omega arith) (λ g. omega arith)
less_is true t p = le_same (suc t) (1 + p) t p (λ g. omega arith) (λ g. omega arith)

carry_small : (k : Bool) → bit k ≤ 1
carry_small true = omega arith
carry_small false = omega arith

pub word_less : (k : Bool) (a x m0 m1 : ℕ) → a < 256 → x < 256 → m0 < 256 → m1 < 256 → nat_lt 255 (less_1 (bit k) a x m0 m1) ≡ less k (m0 + 256 * m1) (a + 256 * x)
word_less k a x m0 m1 la lx l0 l1 =
    let c = carry_small k in
    let t0 : less_0 (bit k) a m0 < 512 = omega arith in
    let c0 : bit (nat_lt 255 (less_0 (bit k) a m0)) ≡ less_0 (bit k) a m0 / 256 = bit_carry (less_0 (bit k) a m0) t0 in
    le_same 256 (less_1 (bit k) a x m0 m1) (suc (m0 + 256 * m1)) (bit k + (a + 256 * x)) (λ g. omega arith) (λ g. omega arith) ∙ less_is k (m0 + 256 * m1) (a + 256 * x)

-- the carry out of the lower three bytes
lower : (k : Bool) (a x l m0 m1 m2 : ℕ) → a < 256 → x < 256 → l < 256 → m0 < 256 → m1 < 256 → m2 < 256
    → bit (nat_lt 255 (less_2 (bit k) a x l m0 m1 m2)) ≡ (a + 256 * x + 65536 * l + (16777215 - (m0 + 256 * m1 + 65536 * m2)) + bit k) / 16777216
lower k a x l m0 m1 m2 la lx ll l0 l1 l2 =
    let c = carry_small k in
    let t0 : less_0 (bit k) a m0 < 512 = omega arith in
    let c0 : bit (nat_lt 255 (less_0 (bit k) a m0)) ≡ less_0 (bit k) a m0 / 256 = bit_carry (less_0 (bit k) a m0) t0 in
    let t1 : less_1 (bit k) a x m0 m1 < 512 = omega arith in
    let c1 : bit (nat_lt 255 (less_1 (bit k) a x m0 m1)) ≡ less_1 (bit k) a x m0 m1 / 256 = bit_carry (less_1 (bit k) a x m0 m1) t1 in
    let t2 : less_2 (bit k) a x l m0 m1 m2 < 512 = omega arith in
    let c2 : bit (nat_lt 255 (less_2 (bit k) a x l m0 m1 m2)) ≡ less_2 (bit k) a x l m0 m1 m2 / 256 = bit_carry (less_2 (bit k) a x l m0 m1 m2) t2 in
    let e : less_2 (bit k) a x l m0 m1 m2 / 256 ≡ (a + 256 * x + 65536 * l + (16777215 - (m0 + 256 * m1 + 65536 * m2)) + bit k) / 16777216 = omega arith in
    c2 ∙ e

pub long_less : (k : Bool) (a x l h m0 m1 m2 m3 : ℕ) → a < 256 → x < 256 → l < 256 → h < 256 → m0 < 256 → m1 < 256 → m2 < 256 → m3 < 256
    → nat_lt 255 (less_3 (bit k) a x l h m0 m1 m2 m3) ≡ less k (m0 + 256 * m1 + 65536 * (m2 + 256 * m3)) (a + 256 * x + 65536 * (l + 256 * h))
long_less k a x l h m0 m1 m2 m3 la lx ll lh l0 l1 l2 l3 =
    let c = carry_small k in
    let carry = lower k a x l m0 m1 m2 la lx ll l0 l1 l2 in
    le_same 256 (less_3 (bit k) a x l h m0 m1 m2 m3) (suc (m0 + 256 * m1 + 65536 * (m2 + 256 * m3))) (bit k + (a + 256 * x + 65536 * (l + 256 * h))) (λ g. omega arith) (λ g. omega arith)
    ∙ less_is k (m0 + 256 * m1 + 65536 * (m2 + 256 * m3)) (a + 256 * x + 65536 * (l + 256 * h))

-- N, turned where V is set, is set where the signed number is not below
pub word_signed : (k : Bool) (a x m0 m1 : ℕ) → a < 256 → x < 256 → m0 < 256 → m1 < 256
    → flipped (overflow x (255 - m1) (less_1 (bit k) a x m0 m1)) (negative (less_1 (bit k) a x m0 m1 % 256)) ≡ not (less k (turned Ax (m0 + 256 * m1)) (turned Ax (a + 256 * x)))
word_signed k a x m0 m1 la lx l0 l1 =
    let c = carry_small k in
    let t0 : less_0 (bit k) a m0 < 512 = omega arith in
    let c0 : bit (nat_lt 255 (less_0 (bit k) a m0)) ≡ less_0 (bit k) a m0 / 256 = bit_carry (less_0 (bit k) a m0) t0 in
    let part : 255 - m1 < 256 = omega arith in
    let carry : bit (nat_lt 255 (less_0 (bit k) a m0)) ≤ 1 = omega arith in
    let is_a : turned Ax (a + 256 * x) ≡ a + 256 * ((x + 128) % 256) = omega arith in
    let is_t : turned Ax (m0 + 256 * m1) ≡ m0 + 256 * ((m1 + 128) % 256) = omega arith in
    let is_part : (255 - m1 + 128) % 256 ≡ 255 - (m1 + 128) % 256 = omega arith in
    let high_a : (x + 128) % 256 < 256 = omega arith in
    let high_t : (m1 + 128) % 256 < 256 = omega arith in
    sign_of_sum x (255 - m1) (bit (nat_lt 255 (less_0 (bit k) a m0))) lx part carry
    ∙ (le_same (suc ((x + 128) % 256 + (255 - m1 + 128) % 256 + bit (nat_lt 255 (less_0 (bit k) a m0)))) 256 (bit k + turned Ax (a + 256 * x)) (turned Ax (m0 + 256 * m1)) (λ g. omega arith) (λ g. omega arith)
    ∙ (not_le (bit k + turned Ax (a + 256 * x)) (turned Ax (m0 + 256 * m1)) ∙ ap not (less_is k (turned Ax (m0 + 256 * m1)) (turned Ax (a + 256 * x)))))

pub long_signed : (k : Bool) (a x l h m0 m1 m2 m3 : ℕ) → a < 256 → x < 256 → l < 256 → h < 256 → m0 < 256 → m1 < 256 → m2 < 256 → m3 < 256
    → flipped (overflow h (255 - m3) (less_3 (bit k) a x l h m0 m1 m2 m3)) (negative (less_3 (bit k) a x l h m0 m1 m2 m3 % 256)) ≡ not (less k (turned Eax (m0 + 256 * m1 + 65536 * (m2 + 256 * m3))) (turned Eax (a + 256 * x + 65536 * (l + 256 * h))))
long_signed k a x l h m0 m1 m2 m3 la lx ll lh l0 l1 l2 l3 =
    let c = carry_small k in
    let p : ℕ = a + 256 * x + 65536 * (l + 256 * h) in
    let t : ℕ = m0 + 256 * m1 + 65536 * (m2 + 256 * m3) in
    let carry_is = lower k a x l m0 m1 m2 la lx ll l0 l1 l2 in
    let part : 255 - m3 < 256 = omega arith in
    let carry : bit (nat_lt 255 (less_2 (bit k) a x l m0 m1 m2)) ≤ 1 = omega arith in
    let is_a : turned Eax p ≡ a + 256 * x + 65536 * l + 16777216 * ((h + 128) % 256) = omega arith in
    let is_t : turned Eax t ≡ m0 + 256 * m1 + 65536 * m2 + 16777216 * ((m3 + 128) % 256) = omega arith in
    let is_part : (255 - m3 + 128) % 256 ≡ 255 - (m3 + 128) % 256 = omega arith in
    sign_of_sum h (255 - m3) (bit (nat_lt 255 (less_2 (bit k) a x l m0 m1 m2))) lh part carry
    ∙ (le_same (suc ((h + 128) % 256 + (255 - m3 + 128) % 256 + bit (nat_lt 255 (less_2 (bit k) a x l m0 m1 m2)))) 256 (bit k + turned Eax p) (turned Eax t) (λ g. omega arith) (λ g. omega arith)
    ∙ (not_le (bit k + turned Eax p) (turned Eax t) ∙ ap not (less_is k (turned Eax t) (turned Eax p))))
