-- Bytes at an address, cut in two.
use Rattle.std.proofs.Common.{◌≡◌, ℕ, zero, suc, ◌+◌, ◌-◌, ◌≤◌, List, ◌∷◌, length, refl, ap, ◌∙◌, arith}
use Rattle.std.specs.Prelude.{take, drop}
use Rattle.c65_base.specs.Formats.{number_from}
use Rattle.c65_code.specs.LineState.{Bytes, word_at}
use Rattle.c65_code.specs.Rows.{long_at}
use Rattle.c65_code.specs.Texts.{bytes_at}

pub bytes_length : (count at : ℕ) (m : Bytes) → length (bytes_at count at m) ≡ count
bytes_length zero at m = refl
bytes_length (suc count) at m = ap suc (bytes_length count (at + 1) m)

pub take_bytes : (k count at : ℕ) (m : Bytes) → k ≤ count → take k (bytes_at count at m) ≡ bytes_at k at m
take_bytes zero zero at m few = refl
take_bytes zero (suc count) at m few = refl
take_bytes (suc k) zero at m few = absurd (omega arith)
take_bytes (suc k) (suc count) at m few = ap (λ (bs : List ℕ). m at ∷ bs) (take_bytes k count (at + 1) m (omega arith))

pub drop_bytes : (k count at : ℕ) (m : Bytes) → k ≤ count → drop k (bytes_at count at m) ≡ bytes_at (count - k) (at + k) m
drop_bytes zero count at m few =
    let all : count ≡ count - 0 = omega arith in
    let same : at ≡ at + 0 = omega arith in
    ap (λ (c : ℕ). bytes_at c at m) all ∙ ap (λ (a : ℕ). bytes_at (count - 0) a m) same
drop_bytes (suc k) zero at m few = absurd (omega arith)
drop_bytes (suc k) (suc count) at m few =
    let left : count - k ≡ suc count - suc k = omega arith in
    let same : at + 1 + k ≡ at + suc k = omega arith in
    drop_bytes k count (at + 1) m (omega arith) ∙ (ap (λ (c : ℕ). bytes_at c (at + 1 + k) m) left ∙ ap (λ (a : ℕ). bytes_at (suc count - suc k) a m) same)

pub word_number : (at : ℕ) (m : Bytes) → number_from (bytes_at 2 at m) ≡ word_at m at
word_number at m = omega arith

pub long_number : (at : ℕ) (m : Bytes) → number_from (bytes_at 4 at m) ≡ long_at m at
long_number at m =
    let e2 : at + 1 + 1 ≡ at + 2 = omega arith in
    let e3 : at + 1 + 1 + 1 ≡ at + 2 + 1 = omega arith in
    let m2 : m (at + 1 + 1) ≡ m (at + 2) = ap m e2 in
    let m3 : m (at + 1 + 1 + 1) ≡ m (at + 2 + 1) = ap m e3 in
    omega arith
