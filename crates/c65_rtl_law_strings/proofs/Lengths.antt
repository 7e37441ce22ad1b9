-- The length of a text in memory.
use Rattle.std.proofs.Common.{◌≡◌, ◌≢◌, ℕ, zero, suc, ◌+◌, ◌<◌, Bool, true, false, refl, sym, ap, ◌∙◌, arith}
use Rattle.std.specs.Prelude.{◌==◌, if◌then◌else◌}
use Rattle.c65_code.specs.LineState.{Bytes}
use Rattle.c65_code.specs.Texts.{length_within, text_length}
use Rattle.c65_rtl.proofs.Meeting.{eq_true, eq_false}

pub record IsText (m : Bytes) (at n : ℕ) : Type 0 where
  pub ends : m (at + n) ≡ 0
  pub before : (j : ℕ) → j < n → m (at + j) ≢ 0

first_and_rest : (m : Bytes) (at k : ℕ) → m at ≢ 0 → ((j : ℕ) → j < k → m (at + 1 + j) ≢ 0) → (j : ℕ) → j < suc k → m (at + j) ≢ 0
first_and_rest m at k first rest zero less = let e : at + 0 ≡ at = omega arith in λ h. first (sym (ap m e) ∙ h)
first_and_rest m at k first rest (suc j) less = let e : at + suc j ≡ at + 1 + j = omega arith in λ h. rest j (omega arith) (sym (ap m e) ∙ h)

text_within : (fuel at : ℕ) (m : Bytes) (n : ℕ) → length_within fuel at m ≡ n → n < fuel → IsText m at n
text_within zero at m n e less = absurd (omega arith)
text_within (suc fuel) at m n e less = pick (m at == 0) refl e (λ k f few. text_within fuel (at + 1) m k f few)
  where
    pick : (b : Bool) → (m at == 0) ≡ b → (if b then 0 else suc (length_within fuel (at + 1) m)) ≡ n
        → ((k : ℕ) → length_within fuel (at + 1) m ≡ k → k < fuel → IsText m (at + 1) k) → IsText m at n
    pick true t e again =
        let none : at + n ≡ at = omega arith in
        record { ends = ap m none ∙ eq_true (m at) 0 t; before = λ j few. absurd (omega arith) }
    pick false t e again =
        let k : ℕ = length_within fuel (at + 1) m in
        let same : suc k ≡ n = e in
        let text : IsText m (at + 1) k = again k refl (omega arith) in
        let end : at + n ≡ at + 1 + k = omega arith in
        record {
          ends = ap m end ∙ text.ends;
          before = λ j few. first_and_rest m at k (eq_false (m at) 0 t) text.before j (omega arith);
        }

is_within : (at : ℕ) (m : Bytes) → text_length at m ≡ length_within 65536 at m
unfolding text_length
is_within at m = refl

pub text_is : (at : ℕ) (m : Bytes) → text_length at m < 65536 → IsText m at (text_length at m)
text_is at m less = text_within 65536 at m (text_length at m) (sym (is_within at m)) less
