-- Where a parser stands among its tokens.
use Rattle.std.proofs.Common.{◌≡◌, ℕ, zero, suc, ◌+◌, ◌-◌, ◌<◌, ◌≤◌, List, [], ◌∷◌, length, drop, get_or, get_or-drop, length-drop, add-one, refl, sym, ap, ◌∙◌, arith}
use Rattle.std.specs.Prelude.{min}
use Rattle.c65_scan.specs.declared.token.Token.{Token}
use Rattle.c65_parse.specs.Reading.{token_at, after_token}

next_drop : (ts : List Token) (i : ℕ) → suc i < length ts → after_token (drop i ts) ≡ drop (suc i) ts
next_drop [] i l = let f : ⊥ = omega arith in absurd f
next_drop (t ∷ []) i l = let f : ⊥ = omega arith in absurd f
next_drop (t ∷ u ∷ us) zero l = refl
next_drop (t ∷ u ∷ us) (suc i) l = next_drop (u ∷ us) i (omega arith)

pub next_token : (ts : List Token) (i : ℕ) → i + 1 < length ts → after_token (drop i ts) ≡ drop (i + 1) ts
next_token ts i l = rw add-one (next_drop ts i (omega arith))

pub last_token : (ts : List Token) (i : ℕ) → length ts ≤ i + 1 → after_token (drop i ts) ≡ drop i ts
last_token [] zero l = refl
last_token [] (suc i) l = refl
last_token (t ∷ []) zero l = refl
last_token (t ∷ []) (suc i) l = last_token [] i (omega arith)
last_token (t ∷ u ∷ us) zero l = let f : ⊥ = omega arith in absurd f
last_token (t ∷ u ∷ us) (suc i) l = last_token (u ∷ us) i (omega arith)

at_get : (ts : List Token) (n : ℕ) (d : Token) → 0 < length ts → token_at ts n ≡ get_or ts (min (length ts - 1) n) d
at_get [] n d l = let f : ⊥ = omega arith in absurd f
at_get (t ∷ []) n d l = let e : min (length (t ∷ []) - 1) n ≡ 0 = omega arith in rw e refl
at_get (t ∷ u ∷ us) zero d l = let e : min (length (t ∷ u ∷ us) - 1) zero ≡ 0 = omega arith in rw e refl
at_get (t ∷ u ∷ us) (suc n) d l = let e : min (length (t ∷ u ∷ us) - 1) (suc n) ≡ suc (min (length (u ∷ us) - 1) n) = omega arith in rw e (at_get (u ∷ us) n d (omega arith))

pub peeked : (ts : List Token) (i n k : ℕ) (d : Token) → i < length ts → k ≡ i + min (length ts - 1 - i) n → get_or ts k d ≡ token_at (drop i ts) n
peeked ts i n k d l h =
    let e : k ≡ i + min (length (drop i ts) - 1) n = rw length-drop (omega arith) in
    let m : 0 < length (drop i ts) = rw length-drop (omega arith) in
    ap (λ (j : ℕ). get_or ts j d) e ∙ sym (get_or-drop i ts (min (length (drop i ts) - 1) n) d) ∙ sym (at_get (drop i ts) n d m)
