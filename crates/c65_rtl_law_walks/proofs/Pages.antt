-- The zero page of a loop that counts the pages of two pointers.
use Rattle.std.proofs.Common.{◌≡◌, ◌≢◌, ℕ, ◌⊎◌, inl, inr, true, false, nat_eq, sym, ap, ◌∙◌}
use Rattle.std.proofs.lemmas.Bool.Decides.{eqb_tells}
use Rattle.c65_code.specs.LineState.{Bytes, write}
use Rattle.c65_rtl.proofs.Meeting.{write_other}
use Rattle.c65_rtl.proofs.Pushes.{write_same}

-- the high bytes of both may change
pub with_pages : (old zp : Bytes) → ((k : ℕ) → k ≢ 9 → k ≢ 11 → zp k ≡ old k) → (i : ℕ) → zp i ≡ write (write old 9 (zp 9)) 11 (zp 11) i
with_pages old zp rest i = by (eqb_tells i 11) (eqb_tells i 9)
  where
    by : ((nat_eq i 11 ≡ true) × (i ≡ 11)) ⊎ ((nat_eq i 11 ≡ false) × (i ≢ 11)) → ((nat_eq i 9 ≡ true) × (i ≡ 9)) ⊎ ((nat_eq i 9 ≡ false) × (i ≢ 9)) → zp i ≡ write (write old 9 (zp 9)) 11 (zp 11) i
    by (inl eleven) nine = ap zp eleven.1 ∙ sym (write_same (write old 9 (zp 9)) 11 (zp 11) i eleven.1)
    by (inr eleven) (inl nine) = ap zp nine.1 ∙ sym (write_other (write old 9 (zp 9)) 11 (zp 11) i eleven.1 ∙ write_same old 9 (zp 9) i nine.1)
    by (inr eleven) (inr nine) = rest i nine.1 eleven.1 ∙ sym (write_other (write old 9 (zp 9)) 11 (zp 11) i eleven.1 ∙ write_other old 9 (zp 9) i nine.1)
