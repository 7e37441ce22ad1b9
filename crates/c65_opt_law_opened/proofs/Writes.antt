-- Bytes that are written one after another.
use Rattle.std.proofs.Common.{◌≡◌, ℕ, zero, suc, ◌+◌, ◌<◌, ◌==◌, Bool, true, false, if◌then◌else◌, refl, sym, subst, ap, ◌∙◌, arith}
use Rattle.std.proofs.lemmas.Bool.{eqb-true, eqb-false, eq-eqb}
use Rattle.c65_code.specs.LineState.{Bytes, write}
use Rattle.c65_code.specs.Rows.{written}
use Rattle.c65_code.specs.Texts.{filled, copied}
use Rattle.c65_opt_law_opened.proofs.Popped.{write_other}

pub write_same : (m : Bytes) (i v : ℕ) → write m i v i ≡ v
write_same m i v = ap (λ (b : Bool). if b then v else m i) (eq-eqb i i refl)

-- what is written at each place, by the memory so far
module _ (to : ℕ) (read : Bytes → ℕ → ℕ) where
  -- memory behind so many writes
  abbrev pub after_writes : Bytes → ℕ → Bytes
  after_writes m zero = m
  after_writes m (suc n) = write (after_writes m n) (to + n) (read (after_writes m n) n)

  -- what is written stays
  pub stays : (m : Bytes) (n k : ℕ) → k < n → after_writes m n (to + k) ≡ read (after_writes m k) k
  stays m zero k less = absurd (omega (arith, less))
  stays m (suc n) k less = pick (k == n) refl (λ other. write_other (after_writes m n) (to + n) (read (after_writes m n) n) (to + k) (λ e. other (omega (arith, e))) ∙ stays m n k (below other))
    where
      below : (k ≡ n → ⊥) → k < n
      below other = omega (arith, less, other)

      pick : (b : Bool) → (k == n) ≡ b → ((k ≡ n → ⊥) → after_writes m (suc n) (to + k) ≡ read (after_writes m k) k) → after_writes m (suc n) (to + k) ≡ read (after_writes m k) k
      pick true e later =
          let same : k ≡ n = eqb-true k n e in
          subst (λ (j : ℕ). after_writes m (suc n) (to + j) ≡ read (after_writes m j) j) (sym same) (write_same (after_writes m n) (to + n) (read (after_writes m n) n))
      pick false e later = later (eqb-false k n e)

-- bytes that are copied, and that are filled
abbrev pub from_there : ℕ → Bytes → ℕ → ℕ
from_there from m k = m (from + k)

abbrev pub always : ℕ → Bytes → ℕ → ℕ
always v m k = v

-- the first write, and then the others
pub copy_first : (to from : ℕ) (m : Bytes) (n : ℕ) → after_writes (to + 1) (from_there (from + 1)) (write m to (m from)) n ≡ after_writes to (from_there from) m (suc n)
copy_first to from m zero =
    let at : to + 0 ≡ to = omega arith in
    let there : from + 0 ≡ from = omega arith in
    ap (λ (b : ℕ). write m b (m from)) (sym at) ∙ ap (λ (b : ℕ). write m (to + 0) (m b)) (sym there)
copy_first to from m (suc n) =
    let e = copy_first to from m n in
    let at : to + 1 + n ≡ to + suc n = omega arith in
    let there : from + 1 + n ≡ from + suc n = omega arith in
    ap (λ (x : Bytes). write x (to + 1 + n) (x (from + 1 + n))) e ∙ (ap (λ (b : ℕ). write (after_writes to (from_there from) m (suc n)) b (after_writes to (from_there from) m (suc n) (from + 1 + n))) at
    ∙ ap (λ (b : ℕ). write (after_writes to (from_there from) m (suc n)) (to + suc n) (after_writes to (from_there from) m (suc n) b)) there)

pub copied_is : (n to from : ℕ) (m : Bytes) → written m (copied n to from m) ≡ after_writes to (from_there from) m n
copied_is zero to from m = refl
copied_is (suc n) to from m = copied_is n (to + 1) (from + 1) (write m to (m from)) ∙ copy_first to from m n

fill_first : (to v : ℕ) (m : Bytes) (n : ℕ) → after_writes (to + 1) (always v) (write m to v) n ≡ after_writes to (always v) m (suc n)
fill_first to v m zero = let at : to + 0 ≡ to = omega arith in ap (λ (b : ℕ). write m b v) (sym at)
fill_first to v m (suc n) = let e = fill_first to v m n in let at : to + 1 + n ≡ to + suc n = omega arith in ap (λ (x : Bytes). write x (to + 1 + n) v) e ∙ ap (λ (b : ℕ). write (after_writes to (always v) m (suc n)) b v) at

pub filled_is : (n to v : ℕ) (m : Bytes) → written m (filled n to v) ≡ after_writes to (always v) m n
filled_is zero to v m = refl
filled_is (suc n) to v m = filled_is n (to + 1) v (write m to v) ∙ fill_first to v m n

-- where memories agree at places, they do so behind writes of what agrees
pub agree_on : (Used : ℕ → Type 0) (to : ℕ) (read : Bytes → ℕ → ℕ) (n : ℕ) (m t : Bytes) → ((b : ℕ) → Used b → m b ≡ t b) → ((x y : Bytes) (k : ℕ) → k < n → ((b : ℕ) → Used b → x b ≡ y b) → read x k ≡ read y k)
    → (b : ℕ) → Used b → after_writes to read m n b ≡ after_writes to read t n b
agree_on Used to read zero m t agree alike b h = agree b h
agree_on Used to read (suc n) m t agree alike b h =
    let before : (c : ℕ) → Used c → after_writes to read m n c ≡ after_writes to read t n c = agree_on Used to read n m t agree (λ x y k less. alike x y k (omega (arith, less))) in
    let value : read (after_writes to read m n) n ≡ read (after_writes to read t n) n = alike (after_writes to read m n) (after_writes to read t n) n (omega arith) before in
    ap (λ (v : ℕ). write (after_writes to read m n) (to + n) v b) value ∙ ap (λ (x : ℕ). if b == to + n then read (after_writes to read t n) n else x) (before b h)
