-- How far a spelling goes, and how far the lengths look.
use Rattle.std.proofs.Common.{◌≡◌, ℕ, zero, suc, ◌+◌, ◌<◌, ◌≤◌, List, [], ◌∷◌, length, take, refl, sym, ap, ◌∙◌, arith, Bool, true, false, Some, None}
use Rattle.std.specs.Prelude.{◌==◌, ◌&&◌, not, if◌then◌else◌}
use Rattle.c65_lex.specs.Spellings.{are_all, is_tail, continues, is_closed, takes_next, is_empty, is_punct, is_punct1, is_punct2, is_punct3}
use Rattle.c65_lex.specs.Lengths.{run_from, tail_from, close_from, punct_length}
use Rattle.c65_lex.proofs.Bytes.{both, no_both}

pub some_is : (a b : ℕ) → Some a ≡ Some b → a ≡ b
some_is a b e = cc

pub run_bound : (n : ℕ) (p : ℕ → Bool) (j : ℕ) (bs : List ℕ) → are_all p (take j bs) ≡ true → j ≤ length bs → n + j ≤ run_from n p bs
run_bound n p zero [] h l = omega arith
run_bound n p zero (b ∷ bs) h l = by (p b) (run_bound (n + 1) p zero bs refl (omega arith))
  where
    by : (t : Bool) → (n + 1) + 0 ≤ run_from (n + 1) p bs → n + 0 ≤ (if t then run_from (n + 1) p bs else n)
    by true i = omega (arith, i)
    by false i = omega arith
run_bound n p (suc j) [] h l = absurd (omega arith)
run_bound n p (suc j) (b ∷ bs) h l =
    let q = both (p b) (are_all p (take j bs)) h in
    let i = run_bound (n + 1) p j bs q.1 (omega arith) in
    rw q.0 (omega (arith, i))

pub tail_bound : (n before j : ℕ) (bs : List ℕ) → is_tail before (take j bs) ≡ true → j ≤ length bs → n + j ≤ tail_from n before bs
tail_bound n before zero [] h l = omega arith
tail_bound n before zero (b ∷ bs) h l = by (continues before b) (tail_bound (n + 1) b zero bs refl (omega arith))
  where
    by : (t : Bool) → (n + 1) + 0 ≤ tail_from (n + 1) b bs → n + 0 ≤ (if t then tail_from (n + 1) b bs else n)
    by true i = omega (arith, i)
    by false i = omega arith
tail_bound n before (suc j) [] h l = absurd (omega arith)
tail_bound n before (suc j) (b ∷ bs) h l =
    let q = both (continues before b) (is_tail b (take j bs)) h in
    let i = tail_bound (n + 1) b j bs q.1 (omega arith) in
    rw q.0 (omega (arith, i))

empty_take : (j : ℕ) (bs : List ℕ) → is_empty (take j bs) ≡ true → j ≤ length bs → j ≡ 0
empty_take zero bs h l = refl
empty_take (suc j) [] h l = absurd (omega arith)
empty_take (suc j) (b ∷ bs) h l = absurd cc

-- a closed spelling ends where the closing quote is found
pub closed_close : (n quote : ℕ) (plain taken : Bool) (j : ℕ) (bs : List ℕ) → is_closed quote plain taken (take j bs) ≡ true → j ≤ length bs → close_from n quote plain taken bs ≡ Some (n + j)
closed_close n quote plain taken zero bs h l = absurd cc
closed_close n quote plain taken (suc j) [] h l = absurd (omega arith)
closed_close n quote plain taken (suc j) (b ∷ bs) h l = by (b == 10) refl (not taken && (b == quote)) refl (closed_close (n + 1) quote plain (takes_next plain taken b) j bs)
  where
    by : (t : Bool) → (b == 10) ≡ t → (u : Bool) → not taken && (b == quote) ≡ u → (is_closed quote plain (takes_next plain taken b) (take j bs) ≡ true → j ≤ length bs → close_from (n + 1) quote plain (takes_next plain taken b) bs ≡ Some ((n + 1) + j)) → close_from n quote plain taken (b ∷ bs) ≡ Some (n + suc j)
    by true p u q f = let k : false ≡ true = rw p at h in absurd cc
    by false p true q f =
        let k : is_empty (take j bs) ≡ true = rw (p, q) at h in
        let z : j ≡ 0 = empty_take j bs k (omega arith) in
        rw (p, q) (ap Some (omega arith))
    by false p false q f =
        let k : is_closed quote plain (takes_next plain taken b) (take j bs) ≡ true = rw (p, q) at h in
        rw (p, q) (f k (omega arith) ∙ ap Some (omega arith))

pub record Closes (n quote : ℕ) (plain taken : Bool) (bs : List ℕ) (m : ℕ) : Type 0 where
  pub more : ℕ
  pub m_is : m ≡ n + more
  pub some : 0 < more
  pub fits : more ≤ length bs
  pub closed : is_closed quote plain taken (take more bs) ≡ true

closed_here : (quote : ℕ) (plain taken : Bool) (b : ℕ) (bs : List ℕ) → (b == 10) ≡ false → not taken && (b == quote) ≡ true → is_closed quote plain taken (take 1 (b ∷ bs)) ≡ true
closed_here quote plain taken b bs p q = rw (p, q) refl

closed_later : (quote : ℕ) (plain taken : Bool) (b j : ℕ) (bs : List ℕ) → (b == 10) ≡ false → not taken && (b == quote) ≡ false → is_closed quote plain (takes_next plain taken b) (take j bs) ≡ true → is_closed quote plain taken (take (suc j) (b ∷ bs)) ≡ true
closed_later quote plain taken b j bs p q h = rw (p, q) h

pub closes : (n quote : ℕ) (plain taken : Bool) (bs : List ℕ) (m : ℕ) → close_from n quote plain taken bs ≡ Some m → Closes n quote plain taken bs m
closes n quote plain taken [] m h = absurd cc
closes n quote plain taken (b ∷ bs) m h = by (b == 10) refl (not taken && (b == quote)) refl (closes (n + 1) quote plain (takes_next plain taken b) bs m)
  where
    by : (t : Bool) → (b == 10) ≡ t → (u : Bool) → not taken && (b == quote) ≡ u → (close_from (n + 1) quote plain (takes_next plain taken b) bs ≡ Some m → Closes (n + 1) quote plain (takes_next plain taken b) bs m) → Closes n quote plain taken (b ∷ bs) m
    by true p u q f = let k : None ≡ Some m = rw p at h in absurd cc
    by false p true q f =
        let k : Some (n + 1) ≡ Some m = rw (p, q) at h in
        record { more = 1; m_is = sym (some_is (n + 1) m k); some = omega arith; fits = omega arith; closed = closed_here quote plain taken b bs p q }
    by false p false q f =
        let k : close_from (n + 1) quote plain (takes_next plain taken b) bs ≡ Some m = rw (p, q) at h in
        let c = f k in
        record { more = suc c.more; m_is = omega (arith, c.m_is); some = omega arith; fits = omega (arith, c.fits); closed = closed_later quote plain taken b c.more bs p q c.closed }

-- where a backslash takes nothing a closing quote is found, too
pub plain_closes : (n k quote : ℕ) (taken : Bool) (bs : List ℕ) (m : ℕ) → close_from n quote false taken bs ≡ Some m → close_from k quote true false bs ≡ None → ⊥
plain_closes n k quote taken [] m h g = cc
plain_closes n k quote taken (b ∷ bs) m h g = by (b == 10) refl (b == quote) refl (not taken && (b == quote)) refl (plain_closes (n + 1) (k + 1) quote (takes_next false taken b) bs m)
  where
    by : (t : Bool) → (b == 10) ≡ t → (u : Bool) → (b == quote) ≡ u → (v : Bool) → not taken && (b == quote) ≡ v → (close_from (n + 1) quote false (takes_next false taken b) bs ≡ Some m → close_from (k + 1) quote true false bs ≡ None → ⊥) → ⊥
    by true p u q v r f = let d : None ≡ Some m = rw p at h in cc
    by false p true q v r f = let d : Some (k + 1) ≡ None = rw (p, q) at g in cc
    by false p false q true r f = no_both (b == quote) (both (not taken) (b == quote) r).1 q
    by false p false q false r f =
        let d : close_from (k + 1) quote true false bs ≡ None = rw (p, q) at g in
        let i : close_from (n + 1) quote false (takes_next false taken b) bs ≡ Some m = rw (p, r) at h in
        f i d

-- the closing quote stands behind all bytes that are not it
pub close_past : (n quote : ℕ) (plain taken : Bool) (j : ℕ) (bs : List ℕ) (m : ℕ) → are_all (λ x. not (x == quote)) (take j bs) ≡ true → j ≤ length bs → close_from n quote plain taken bs ≡ Some m → n + j < m
close_past n quote plain taken zero bs m a l h = let c = closes n quote plain taken bs m h in omega (arith, c.m_is, c.some)
close_past n quote plain taken (suc j) [] m a l h = absurd (omega arith)
close_past n quote plain taken (suc j) (b ∷ bs) m a l h = by (b == 10) refl (b == quote) refl (close_past (n + 1) quote plain (takes_next plain taken b) j bs m)
  where
    by : (t : Bool) → (b == 10) ≡ t → (u : Bool) → (b == quote) ≡ u → (are_all (λ x. not (x == quote)) (take j bs) ≡ true → j ≤ length bs → close_from (n + 1) quote plain (takes_next plain taken b) bs ≡ Some m → (n + 1) + j < m) → n + suc j < m
    by true p u q f = let k : None ≡ Some m = rw p at h in absurd cc
    by false p true q f = let k : false ≡ true = rw q at a in absurd cc
    by false p false q f =
        let k = both (not (b == quote)) (are_all (λ x. not (x == quote)) (take j bs)) a in
        let i : close_from (n + 1) quote plain (takes_next plain taken b) bs ≡ Some m = by_taken taken (rw (p, q) at h) in
        omega (arith, f k.1 (omega arith) i)
      where
        by_taken : (v : Bool) → (if not v && false then Some (n + 1) else close_from (n + 1) quote plain (takes_next plain v b) bs) ≡ Some m → close_from (n + 1) quote plain (takes_next plain v b) bs ≡ Some m
        by_taken true e = e
        by_taken false e = e

-- the longest punctuator is taken
pub punct_bound : (b j : ℕ) (bs : List ℕ) → is_punct (b ∷ take j bs) ≡ true → j ≤ length bs → suc j ≤ punct_length (b ∷ bs)
punct_bound b zero [] h l = rw h (omega arith)
punct_bound b zero (c ∷ []) h l = rw h (by (is_punct2 b c))
  where
    by : (t : Bool) → 1 ≤ (if t then 2 else 1)
    by true = omega arith
    by false = omega arith
punct_bound b zero (c ∷ d ∷ bs) h l = rw h (by (is_punct3 b c d) (is_punct2 b c))
  where
    by : (t u : Bool) → 1 ≤ (if t then 3 else if u then 2 else 1)
    by true u = omega arith
    by false true = omega arith
    by false false = omega arith
punct_bound b (suc j) [] h l = absurd (omega arith)
punct_bound b (suc zero) (c ∷ []) h l = rw h (omega arith)
punct_bound b (suc zero) (c ∷ d ∷ bs) h l = rw h (by (is_punct3 b c d))
  where
    by : (t : Bool) → 2 ≤ (if t then 3 else 2)
    by true = omega arith
    by false = omega arith
punct_bound b (suc (suc j)) (c ∷ []) h l = absurd (omega arith)
punct_bound b (suc (suc zero)) (c ∷ d ∷ bs) h l = rw h (omega arith)
punct_bound b (suc (suc (suc j))) (c ∷ d ∷ []) h l = absurd (omega arith)
punct_bound b (suc (suc (suc j))) (c ∷ d ∷ e ∷ bs) h l = absurd cc

-- and it is a punctuator
pub record Puncts (b : ℕ) (bs : List ℕ) : Type 0 where
  pub more : ℕ
  pub length_is : punct_length (b ∷ bs) ≡ suc more
  pub fits : more ≤ length bs
  pub is_one : is_punct (b ∷ take more bs) ≡ true

pub puncts_here : (b : ℕ) (bs : List ℕ) → is_punct1 b ≡ true → Puncts b bs
puncts_here b [] h = record { more = 0; length_is = rw h refl; fits = omega arith; is_one = h }
puncts_here b (c ∷ []) h = by (is_punct2 b c) refl
  where
    by : (t : Bool) → is_punct2 b c ≡ t → Puncts b (c ∷ [])
    by true e = record { more = 1; length_is = rw e refl; fits = omega arith; is_one = e }
    by false e = record { more = 0; length_is = rw (e, h) refl; fits = omega arith; is_one = h }
puncts_here b (c ∷ d ∷ bs) h = by (is_punct3 b c d) refl (is_punct2 b c) refl
  where
    by : (t : Bool) → is_punct3 b c d ≡ t → (u : Bool) → is_punct2 b c ≡ u → Puncts b (c ∷ d ∷ bs)
    by true e u f = record { more = 2; length_is = rw e refl; fits = omega arith; is_one = e }
    by false e true f = record { more = 1; length_is = rw (e, f) refl; fits = omega arith; is_one = f }
    by false e false f = record { more = 0; length_is = rw (e, f, h) refl; fits = omega arith; is_one = h }

pub record Runs (n : ℕ) (p : ℕ → Bool) (bs : List ℕ) : Type 0 where
  pub more : ℕ
  pub length_is : run_from n p bs ≡ n + more
  pub fits : more ≤ length bs
  pub each : are_all p (take more bs) ≡ true

pub runs : (n : ℕ) (p : ℕ → Bool) (bs : List ℕ) → Runs n p bs
runs n p [] = record { more = 0; length_is = omega arith; fits = omega arith; each = refl }
runs n p (b ∷ bs) = by (p b) refl (runs (n + 1) p bs)
  where
    by : (t : Bool) → p b ≡ t → Runs (n + 1) p bs → Runs n p (b ∷ bs)
    by true e r = record { more = suc r.more; length_is = rw e (omega (arith, r.length_is)); fits = omega (arith, r.fits); each = rw e r.each }
    by false e r = record { more = 0; length_is = rw e (omega arith); fits = omega arith; each = refl }

pub record Tails (n before : ℕ) (bs : List ℕ) : Type 0 where
  pub more : ℕ
  pub length_is : tail_from n before bs ≡ n + more
  pub fits : more ≤ length bs
  pub each : is_tail before (take more bs) ≡ true

pub tails : (n before : ℕ) (bs : List ℕ) → Tails n before bs
tails n before [] = record { more = 0; length_is = omega arith; fits = omega arith; each = refl }
tails n before (b ∷ bs) = by (continues before b) refl (tails (n + 1) b bs)
  where
    by : (t : Bool) → continues before b ≡ t → Tails (n + 1) b bs → Tails n before (b ∷ bs)
    by true e r = record { more = suc r.more; length_is = rw e (omega (arith, r.length_is)); fits = omega (arith, r.fits); each = rw e r.each }
    by false e r = record { more = 0; length_is = rw e (omega arith); fits = omega arith; each = refl }
