-- What two texts in memory have in common.
use Rattle.std.proofs.Common.{◌≡◌, ◌≢◌, ℕ, zero, suc, ◌+◌, ◌<◌, Bool, true, false, refl, sym, ap, ◌∙◌, arith}
use Rattle.std.specs.Prelude.{◌==◌, if◌then◌else◌}
use Rattle.c65_code.specs.LineState.{Bytes}
use Rattle.c65_code.specs.Texts.{common_within, common_length}
use Rattle.c65_rtl.proofs.Meeting.{eq_true, eq_false}

-- so many bytes, and behind them they differ or both end
pub record AreCommon (m : Bytes) (a b n : ℕ) : Type 0 where
  pub alike : (j : ℕ) → j < n → m (a + j) ≡ m (b + j)
  pub some : (j : ℕ) → j < n → m (a + j) ≢ 0
  pub ends : m (a + n) ≡ m (b + n) → m (a + n) ≡ 0

first_and_others : (P : ℕ → Type 0) (k : ℕ) → P 0 → ((j : ℕ) → j < k → P (suc j)) → (j : ℕ) → j < suc k → P j
first_and_others P k first others zero less = first
first_and_others P k first others (suc j) less = others j (omega arith)

at_zero : (m : Bytes) (a : ℕ) → m (a + 0) ≡ m a
at_zero m a = let e : a + 0 ≡ a = omega arith in ap m e

at_next : (m : Bytes) (a j : ℕ) → m (a + suc j) ≡ m (a + 1 + j)
at_next m a j = let e : a + suc j ≡ a + 1 + j = omega arith in ap m e

common_in : (fuel a b : ℕ) (m : Bytes) (n : ℕ) → common_within fuel a b m ≡ n → n < fuel → AreCommon m a b n
common_in zero a b m n e less = absurd (omega arith)
common_in (suc fuel) a b m n e less = pick (m a == m b) refl (m a == 0) refl e (λ k f few. common_in fuel (a + 1) (b + 1) m k f few)
  where
    pick : (p : Bool) → (m a == m b) ≡ p → (q : Bool) → (m a == 0) ≡ q → (if p then (if q then 0 else suc (common_within fuel (a + 1) (b + 1) m)) else 0) ≡ n
        → ((k : ℕ) → common_within fuel (a + 1) (b + 1) m ≡ k → k < fuel → AreCommon m (a + 1) (b + 1) k) → AreCommon m a b n
    pick true same true none e again =
        let at : a + n ≡ a = omega arith in
        record { alike = λ j few. absurd (omega arith); some = λ j few. absurd (omega arith); ends = λ f. ap m at ∙ eq_true (m a) 0 none }
    pick true same false one e again =
        let k : ℕ = common_within fuel (a + 1) (b + 1) m in
        let is : suc k ≡ n = e in
        let rest : AreCommon m (a + 1) (b + 1) k = again k refl (omega arith) in
        let a_end : a + n ≡ a + 1 + k = omega arith in
        let b_end : b + n ≡ b + 1 + k = omega arith in
        record {
          alike = λ j few. first_and_others (λ (j : ℕ). m (a + j) ≡ m (b + j)) k (at_zero m a ∙ (eq_true (m a) (m b) same ∙ sym (at_zero m b)))
              (λ j few. at_next m a j ∙ (rest.alike j few ∙ sym (at_next m b j))) j (omega arith);
          some = λ j few. first_and_others (λ (j : ℕ). m (a + j) ≢ 0) k (λ f. eq_false (m a) 0 one (sym (at_zero m a) ∙ f)) (λ j few f. rest.some j few (sym (at_next m a j) ∙ f)) j (omega arith);
          ends = λ f. ap m a_end ∙ rest.ends (sym (ap m a_end) ∙ (f ∙ ap m b_end));
        }
    pick false other q none e again =
        let a_end : a + n ≡ a = omega arith in
        let b_end : b + n ≡ b = omega arith in
        record { alike = λ j few. absurd (omega arith); some = λ j few. absurd (omega arith); ends = λ f. absurd (eq_false (m a) (m b) other (sym (ap m a_end) ∙ (f ∙ ap m b_end))) }

is_within : (a b : ℕ) (m : Bytes) → common_length a b m ≡ common_within 65536 a b m
unfolding common_length
is_within a b m = refl

pub common_is : (a b : ℕ) (m : Bytes) → common_length a b m < 65536 → AreCommon m a b (common_length a b m)
common_is a b m less = common_in 65536 a b m (common_length a b m) (sym (is_within a b m)) less
