-- Results of 32 bits are words of 32 bits.
use Rattle.std.proofs.Common.{◌≡◌, ℕ, ◌+◌, ◌-◌, ◌*◌, ◌/◌, ◌%◌, ◌^◌, ◌<◌, ◌≤◌, Bool, true, false, not, Option, Some, None, if◌then◌else◌, refl, sym, ap, ◌∙◌, subst, arith}
use Rattle.std.specs.Prelude.{⊤, nat_lt, ◌==◌, bit_and}
use Rattle.std.specs.Bool.{beq}
use Rattle.std.proofs.lemmas.Bool.Decides.{nat_tests}
use Rattle.std.proofs.lemmas.Nat.{and_le_l, or_of_32, xor_of_32, pow_pos, pow-add}
use Rattle.std.proofs.Math.Nat.{div-le_self, mod-le, mul-div_cancel, div-lt_iff_lt-mul}
use Rattle.c65_code.specs.declared.routine.Width.TheVariants.{Eax}
use Rattle.c65_code.specs.declared.routine.TosOp.{TosOp}
use Rattle.c65_code.specs.declared.routine.TosOp.TheVariants as tos
use Rattle.c65_code.specs.declared.routine.UnaryRoutine.{UnaryRoutine}
use Rattle.c65_code.specs.declared.routine.UnaryRoutine.TheVariants.{Neg, Compl, Shl1, Shr1, Asr1, BNeg}
use Rattle.c65_code.specs.Numbers.{is_negative, magnitude, with_sign, truth, divided, counted, shifted_right, tos_result, unary_result}

abbrev pub IsLong : ℕ → Type 0
IsLong v = v < 4294967296

abbrev pub LongIf : Option ℕ → Type 0
LongIf None = ⊤
LongIf (Some v) = IsLong v

remainder_long : (n : ℕ) → IsLong (n % 4294967296)
remainder_long n = omega arith

at_most_long : (m n : ℕ) → m ≤ n → IsLong n → IsLong m
at_most_long m n h g = omega arith

truth_long : (b : Bool) → IsLong (truth b)
truth_long true = omega arith
truth_long false = omega arith

magnitude_long : (v : ℕ) → IsLong v → IsLong (magnitude Eax v)
magnitude_long v h = pick (is_negative Eax v) refl
  where
    pick : (b : Bool) → is_negative Eax v ≡ b → IsLong (if b then 4294967296 - v else v)
    pick true e = let g : 2147483648 ≤ v = grind (arith, nat_tests) in omega arith
    pick false e = h

signed_long : (b : Bool) (v : ℕ) → IsLong v → IsLong (with_sign Eax b v)
signed_long true v h = remainder_long (4294967296 - v)
signed_long false v h = h

divided_long : (d v : ℕ) → IsLong v → LongIf (divided d v)
divided_long d v h = pick (d == 0)
  where
    pick : (b : Bool) → LongIf (if b then None else Some v)
    pick true = tt
    pick false = h

counted_long : (c v : ℕ) → (c < 32 → IsLong v) → LongIf (counted Eax c v)
counted_long c v h = pick (nat_lt c 32) refl
  where
    pick : (b : Bool) → nat_lt c 32 ≡ b → LongIf (if b then Some v else None)
    pick true e = h (grind (arith, nat_tests))
    pick false e = tt

-- a word that is shifted down is below the shifted number of words
less_shifted : (a p q : ℕ) → 0 < p → q * p ≡ 4294967296 → IsLong a → a / p + (4294967296 - 4294967296 / p) < 4294967296
less_shifted a p q h e g =
    let whole : 4294967296 / p ≡ q = ap (λ (n : ℕ). n / p) (sym e) ∙ mul-div_cancel q h in
    let most : a / p < q = (div-lt_iff_lt-mul {k = p} {x = a} {y = q} h).1 (subst (λ (n : ℕ). a < n) (sym e) g) in
    let less : q ≤ 4294967296 = subst (λ (n : ℕ). n ≤ 4294967296) whole (div-le_self 4294967296 p) in
    subst (λ (n : ℕ). a / p + (4294967296 - n) < 4294967296) (sym whole) (omega arith)

shifted_long : (a c : ℕ) → IsLong a → c < 32 → IsLong (shifted_right Eax a c)
shifted_long a c h g = pick (is_negative Eax a)
  where
    power : 2 ^ (32 - c) * 2 ^ c ≡ 4294967296
    power = let e : 32 - c + c ≡ 32 = omega arith in sym (pow-add 2 (32 - c) c) ∙ ap (λ (n : ℕ). 2 ^ n) e

    pick : (b : Bool) → IsLong (if b then a / 2 ^ c + (4294967296 - 4294967296 / 2 ^ c) else a / 2 ^ c)
    pick true = less_shifted a (2 ^ c) (2 ^ (32 - c)) (pow_pos c) power h
    pick false = at_most_long (a / 2 ^ c) a (div-le_self a (2 ^ c)) h

pub tos_long : (op : TosOp) (a b : ℕ) → IsLong a → IsLong b → LongIf (tos_result op Eax a b)
tos_long tos.Add a b h g = remainder_long (a + b)
tos_long tos.Sub a b h g = remainder_long (a + 4294967296 - b)
tos_long tos.Mul a b h g = remainder_long (a * b)
tos_long tos.And a b h g = at_most_long (bit_and a b) a (and_le_l a b) h
tos_long tos.Or a b h g = or_of_32 a b h g
tos_long tos.Xor a b h g = xor_of_32 a b h g
tos_long tos.Div a b h g = divided_long b _ (signed_long (not (beq (is_negative Eax a) (is_negative Eax b))) (magnitude Eax a / magnitude Eax b) (at_most_long (magnitude Eax a / magnitude Eax b) (magnitude Eax a) (div-le_self (magnitude Eax a) (magnitude Eax b)) (magnitude_long a h)))
tos_long tos.Mod a b h g = divided_long b _ (signed_long (is_negative Eax a) (magnitude Eax a % magnitude Eax b) (at_most_long (magnitude Eax a % magnitude Eax b) (magnitude Eax a) (mod-le (magnitude Eax a) (magnitude Eax b)) (magnitude_long a h)))
tos_long tos.UDiv a b h g = divided_long b (a / b) (at_most_long (a / b) a (div-le_self a b) h)
tos_long tos.UMod a b h g = divided_long b (a % b) (at_most_long (a % b) a (mod-le a b) h)
tos_long tos.Shl a b h g = counted_long b _ (λ c. remainder_long (a * 2 ^ b))
tos_long tos.Shr a b h g = counted_long b _ (λ c. at_most_long (a / 2 ^ b) a (div-le_self a (2 ^ b)) h)
tos_long tos.Asr a b h g = counted_long b _ (λ c. shifted_long a b h c)
tos_long tos.Eq a b h g = truth_long _
tos_long tos.Ne a b h g = truth_long _
tos_long tos.Lt a b h g = truth_long _
tos_long tos.Le a b h g = truth_long _
tos_long tos.Gt a b h g = truth_long _
tos_long tos.Ge a b h g = truth_long _
tos_long tos.ULt a b h g = truth_long _
tos_long tos.ULe a b h g = truth_long _
tos_long tos.UGt a b h g = truth_long _
tos_long tos.UGe a b h g = truth_long _

pub unary_long : (op : UnaryRoutine) (v : ℕ) → IsLong v → IsLong (unary_result op Eax v)
unary_long Neg v h = remainder_long (4294967296 - v)
unary_long Compl v h = omega arith
unary_long Shl1 v h = remainder_long (2 * v)
unary_long Shr1 v h = omega arith
unary_long Asr1 v h = shifted_long v 1 h (omega arith)
unary_long BNeg v h = truth_long _
