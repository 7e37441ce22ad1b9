-- What a copy leaves as it was.
use Rattle.std.proofs.Common.{◌≡◌, ◌≢◌, ℕ, zero, suc, ◌+◌, ◌<◌, refl, ◌∙◌, arith}
use Rattle.c65_code.specs.LineState.{Bytes, write}
use Rattle.c65_code.specs.Texts.{copied, filled}
use Rattle.c65_code.specs.Rows.{written}
use Rattle.c65_rtl.proofs.Meeting.{write_other}

-- a byte that is not copied to
pub kept_outside : (count to from : ℕ) (m : Bytes) (b : ℕ) → ((k : ℕ) → k < count → b ≢ to + k) → written m (copied count to from m) b ≡ m b
kept_outside zero to from m b outside = refl
kept_outside (suc count) to from m b outside =
    let first : b ≢ to = λ e. outside 0 (omega arith) (let f : to ≡ to + 0 = omega arith in e ∙ f) in
    kept_outside count (to + 1) (from + 1) (write m to (m from)) b (λ k few e. outside (suc k) (omega arith) (let f : to + 1 + k ≡ to + suc k = omega arith in e ∙ f))
    ∙ write_other m to (m from) b first

pub kept_unfilled : (count to v : ℕ) (m : Bytes) (b : ℕ) → ((k : ℕ) → k < count → b ≢ to + k) → written m (filled count to v) b ≡ m b
kept_unfilled zero to v m b outside = refl
kept_unfilled (suc count) to v m b outside =
    let first : b ≢ to = λ e. outside 0 (omega arith) (let f : to ≡ to + 0 = omega arith in e ∙ f) in
    kept_unfilled count (to + 1) v (write m to v) b (λ k few e. outside (suc k) (omega arith) (let f : to + 1 + k ≡ to + suc k = omega arith in e ∙ f))
    ∙ write_other m to v b first
