-- Words that are shifted bit by bit, and by whole bytes.
use Rattle.std.proofs.Common.{◌≡◌, ℕ, zero, suc, ◌+◌, ◌-◌, ◌*◌, ◌/◌, ◌%◌, ◌^◌, ◌<◌, Bool, true, false, refl, sym, ap, ◌∙◌, arith}
use Rattle.std.specs.Prelude.{if◌then◌else◌}
use Rattle.std.proofs.lemmas.Bool.Decides.{nat_tests}
use Rattle.std.proofs.lemmas.Nat.{mul-mod_second, pow-add}
use native.Mathlib.Nat.{pow-suc, mul_comm, div-div-eq-div-mul}
use Rattle.c65_code.specs.declared.routine.TosOp.{TosOp}
use Rattle.c65_code.specs.declared.routine.TosOp.TheVariants as tos
use Rattle.c65_code.specs.declared.routine.Width.{Width}
use Rattle.c65_code.specs.declared.routine.Width.TheVariants.{Ax, Eax}
use Rattle.c65_code.specs.Numbers.{words_of, is_negative, shifted_right, unary_result, unary_width}
use Rattle.c65_genshift.specs.Shifts.{one_of}

-- the word m moved by n bits
abbrev pub moved : TosOp → Width → ℕ → ℕ → ℕ
moved tos.Shl width m n = (m * 2 ^ n) % words_of width
moved tos.Shr width m n = m / 2 ^ n
moved _ width m n = shifted_right width m n

-- a step that is made n times
abbrev pub iterated : (ℕ → ℕ) → ℕ → ℕ → ℕ
iterated f zero m = m
iterated f (suc n) m = iterated f n (f m)

pub twice : (n : ℕ) → 2 ^ suc n ≡ 2 * 2 ^ n
twice n = pow-suc 2 n ∙ omega arith

-- how far operators are moved by single steps: those with a sign by 3 bits
abbrev pub IsNear : TosOp → ℕ → Type 0
IsNear tos.Shl n = Unit {0}
IsNear tos.Shr n = Unit {0}
IsNear _ n = n < 4

-- ---- one bit more

pub left_more : (w m n : ℕ) → ((2 * m) % w * 2 ^ n) % w ≡ (m * 2 ^ suc n) % w
left_more w m n =
    let p = 2 ^ n in
    ap (λ x. x % w) (mul_comm ((2 * m) % w) p) ∙ mul-mod_second p (2 * m) w
    ∙ ap (λ x. x % w) (product m p) ∙ ap (λ x. (m * x) % w) (sym (twice n))
  where
    product : (m p : ℕ) → p * (2 * m) ≡ m * (2 * p)
    product m p = omega arith

pub right_more : (m n : ℕ) → m / 2 / 2 ^ n ≡ m / 2 ^ suc n
right_more m n = div-div-eq-div-mul m 2 (2 ^ n) ∙ ap (λ x. m / x) (sym (twice n))

-- with the sign
half_of : Width → ℕ → ℕ
half_of width n = words_of width - words_of width / 2 ^ n

signed_more : (width : Width) (m n : ℕ) → m < words_of width → suc n < 4 → shifted_right width (shifted_right width m 1) n ≡ shifted_right width m (suc n)
signed_more width m n small few = by (is_negative width m) refl
  where
    below : (width : Width) (m : ℕ) → m < words_of width → is_negative width m ≡ false → is_negative width (m / 2) ≡ false
    below Ax m small e = grind (arith, nat_tests)
    below Eax m small e = grind (arith, nat_tests)

    above : (width : Width) (m : ℕ) → is_negative width (m / 2 + (words_of width - words_of width / 2)) ≡ true
    above Ax m = grind (arith, nat_tests)
    above Eax m = grind (arith, nat_tests)

    down : (width : Width) (m n : ℕ) → suc n < 4 → (m / 2 + (words_of width - words_of width / 2)) / 2 ^ n + (words_of width - words_of width / 2 ^ n) ≡ m / 2 ^ suc n + (words_of width - words_of width / 2 ^ suc n)
    down Ax m zero few = omega arith
    down Ax m (suc zero) few = omega arith
    down Ax m (suc (suc zero)) few = omega arith
    down Ax m (suc (suc (suc n))) few = absurd (omega arith)
    down Eax m zero few = omega arith
    down Eax m (suc zero) few = omega arith
    down Eax m (suc (suc zero)) few = omega arith
    down Eax m (suc (suc (suc n))) few = absurd (omega arith)

    by : (b : Bool) → is_negative width m ≡ b → shifted_right width (shifted_right width m 1) n ≡ shifted_right width m (suc n)
    by false e =
        ap (λ b. shifted_right width (if b then m / 2 + (words_of width - words_of width / 2) else m / 2) n) e
        ∙ ap (λ b. if b then m / 2 / 2 ^ n + (words_of width - words_of width / 2 ^ n) else m / 2 / 2 ^ n) (below width m small e)
        ∙ right_more m n ∙ sym (ap (λ b. if b then m / 2 ^ suc n + (words_of width - words_of width / 2 ^ suc n) else m / 2 ^ suc n) e)
    by true e =
        let k : ℕ = m / 2 + (words_of width - words_of width / 2) in
        ap (λ b. shifted_right width (if b then k else m / 2) n) e
        ∙ ap (λ b. if b then k / 2 ^ n + (words_of width - words_of width / 2 ^ n) else k / 2 ^ n) (above width m)
        ∙ down width m n few ∙ sym (ap (λ b. if b then m / 2 ^ suc n + (words_of width - words_of width / 2 ^ suc n) else m / 2 ^ suc n) e)

-- ---- bit by bit

pub one_below : (op : TosOp) (width : Width) (m : ℕ) → m < words_of width → unary_result (one_of op) width m < words_of width
one_below tos.Shl Ax m h = omega arith
one_below tos.Shl Eax m h = omega arith
one_below tos.Shr Ax m h = omega (arith, h)
one_below tos.Shr Eax m h = omega (arith, h)
one_below _ Ax m h = signed_below Ax m h (is_negative Ax m)
  where
    signed_below : (width : Width) (m : ℕ) → m < 65536 → (b : Bool) → (if b then m / 2 + (65536 - 65536 / 2) else m / 2) < 65536
    signed_below width m h true = omega (arith, h)
    signed_below width m h false = omega (arith, h)
one_below _ Eax m h = signed_below Eax m h (is_negative Eax m)
  where
    signed_below : (width : Width) (m : ℕ) → m < 4294967296 → (b : Bool) → (if b then m / 2 + (4294967296 - 4294967296 / 2) else m / 2) < 4294967296
    signed_below width m h true = omega (arith, h)
    signed_below width m h false = omega (arith, h)

pub own_width : (op : TosOp) (width : Width) → unary_width (one_of op) width ≡ width
own_width tos.Shl width = refl
own_width tos.Shr width = refl
own_width _ width = refl

none_moved : (op : TosOp) (width : Width) (m : ℕ) → m < words_of width → m ≡ moved op width m 0
none_moved tos.Shl Ax m h = omega (arith, h)
none_moved tos.Shl Eax m h = omega (arith, h)
none_moved tos.Shr width m h = omega arith
none_moved _ width m h = still width m (is_negative width m)
  where
    still : (width : Width) (m : ℕ) (b : Bool) → m ≡ (if b then m / 1 + (words_of width - words_of width / 1) else m / 1)
    still Ax m true = omega arith
    still Ax m false = omega arith
    still Eax m true = omega arith
    still Eax m false = omega arith

one_more : (op : TosOp) (width : Width) (m n : ℕ) → m < words_of width → IsNear op (suc n) → moved op width (unary_result (one_of op) width m) n ≡ moved op width m (suc n)
one_more tos.Shl width m n h near = left_more (words_of width) m n
one_more tos.Shr width m n h near = right_more m n
one_more _ width m n h near = signed_more width m n h near

nearer : (op : TosOp) (n : ℕ) → IsNear op (suc n) → IsNear op n
nearer tos.Shl n near = tt
nearer tos.Shr n near = tt
nearer _ n near = omega (arith, near)

pub steps_move : (op : TosOp) (width : Width) (n m : ℕ) → m < words_of width → IsNear op n → iterated (unary_result (one_of op) width) n m ≡ moved op width m n
steps_move op width zero m h near = none_moved op width m h
steps_move op width (suc n) m h near = steps_move op width n (unary_result (one_of op) width m) (one_below op width m h) (nearer op n near) ∙ one_more op width m n h near

-- ---- by a whole number of bits more

pub power_more : (n k : ℕ) → 2 ^ (n + k) ≡ 2 ^ n * 2 ^ k
power_more n k = pow-add 2 n k

pub left_again : (width : Width) (m n k : ℕ) → ((m * 2 ^ n) % words_of width * 2 ^ k) % words_of width ≡ (m * 2 ^ (n + k)) % words_of width
left_again width m n k =
    let w = words_of width in
    let p = 2 ^ n in
    let q = 2 ^ k in
    ap (λ x. x % w) (mul_comm ((m * p) % w) q) ∙ mul-mod_second q (m * p) w ∙ ap (λ x. x % w) (product m p q) ∙ ap (λ x. (m * x) % w) (sym (power_more n k))
  where
    product : (m p q : ℕ) → q * (m * p) ≡ m * (p * q)
    product m p q = omega arith

pub right_again : (m n k : ℕ) → m / 2 ^ n / 2 ^ k ≡ m / 2 ^ (n + k)
right_again m n k = div-div-eq-div-mul m (2 ^ n) (2 ^ k) ∙ ap (λ x. m / x) (sym (power_more n k))
