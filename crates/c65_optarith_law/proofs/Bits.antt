-- Bytes with masks.
use Rattle.std.proofs.Common.{◌≡◌, ℕ, ◌+◌, ◌/◌, ◌%◌, ◌<◌, sym, ap, ◌∙◌, arith}
use Rattle.std.specs.Prelude.{bit_and, bit_or, bit_xor}
use Rattle.std.specs.Int.Bits.{or_step, or_zero_r, xor_assoc}
use Rattle.std.proofs.Math.Arith.{bin_ind}
use Rattle.std.proofs.lemmas.Nat.{and_assoc, and_mask, or_shr}

pub or_group : (c a b : ℕ) → bit_or (bit_or a b) c ≡ bit_or a (bit_or b c)
or_group =
    bin_ind (λ (c : ℕ). (a b : ℕ) → bit_or (bit_or a b) c ≡ bit_or a (bit_or b c)) (λ a b. or_zero_r (bit_or a b) ∙ sym (ap (bit_or a) (or_zero_r b)))
    (λ c ih a b.
    let p : bit_or (bit_or a b / 2) (c / 2) ≡ bit_or (a / 2) (bit_or b c / 2) = ap (λ x. bit_or x (c / 2)) (or_shr a b 1) ∙ ih (a / 2) (b / 2) ∙ sym (ap (bit_or (a / 2)) (or_shr b c 1)) in
    omega (arith, or_step (bit_or a b) c, or_step a (bit_or b c), or_step a b, or_step b c))

pub and_group : (a b c : ℕ) → bit_and (bit_and a b) c ≡ bit_and a (bit_and b c)
and_group a b c = and_assoc c a b

pub xor_group : (a b c : ℕ) → bit_xor (bit_xor a b) c ≡ bit_xor a (bit_xor b c)
xor_group a b c = xor_assoc a b c

pub masked : (a : ℕ) → a < 256 → bit_and a 255 ≡ a
masked a h = and_mask a 8 ∙ omega (arith, h)

pub up_down : (x : ℕ) → x < 256 → ((x + 1) % 256 + 255) % 256 ≡ x
up_down x h = omega (arith, h)

pub down_up : (x : ℕ) → x < 256 → ((x + 255) % 256 + 1) % 256 ≡ x
down_up x h = omega (arith, h)
