-- Lines behind bytes, and bytes that stand behind others.
use Rattle.std.proofs.Common.{◌≡◌, ◌∙◌, ◌≤◌, ◌<◌, ◌+◌, ◌-◌, ℕ, zero, suc, List, [], ◌∷◌, ◌++◌, length, take, drop, refl, sym, ap, arith, Bool, true, false}
use Rattle.std.specs.Prelude.{◌==◌, if◌then◌else◌, min}
use Rattle.std.proofs.lemmas.List.{take-append-drop, drop-drop, drop-take, take-take}
use Rattle.c65_lex.specs.Cells.{line_after, next_line}
use Rattle.c65_pptext.specs.Kept.{line_behind}

pub line_append : (line : ℕ) (xs ys : List ℕ) → line_behind line (xs ++ ys) ≡ line_behind (line_behind line xs) ys
line_append line [] ys = refl
line_append line (x ∷ xs) ys = line_append (line_after x line) xs ys

after_if : (b : Bool) (line : ℕ) → line ≤ 4294967295 → (line ≤ (if b then next_line line else line)) × ((if b then next_line line else line) ≤ 4294967295)
after_if true line h = (omega (arith, h), omega (arith, h))
after_if false line h = (omega (arith, h), h)

-- bytes lead to no line before
pub line_onward : (line : ℕ) (xs : List ℕ) → line ≤ 4294967295 → line ≤ line_behind line xs
line_onward line [] h = omega arith
line_onward line (x ∷ xs) h =
    let a = after_if (x == 10) line h in
    let b = line_onward (line_after x line) xs a.1 in
    omega (arith, a.0, b)

pub line_most : (line : ℕ) (xs : List ℕ) → line ≤ 4294967295 → line_behind line xs ≤ 4294967295
line_most line [] h = h
line_most line (x ∷ xs) h = line_most (line_after x line) xs (after_if (x == 10) line h).1

take_none : (n : ℕ) → (let none : List ℕ = [] in take n none ≡ none)
take_none zero = refl
take_none (suc n) = refl

pub take_on : (at n : ℕ) (xs : List ℕ) → take (at + n) xs ≡ take at xs ++ take n (drop at xs)
take_on zero n xs = let e : zero + n ≡ n = omega arith in ap (λ (k : ℕ). take k xs) e
take_on (suc at) n [] = take_none (suc at + n) ∙ sym (take_none n)
take_on (suc at) n (x ∷ xs) =
    let e : suc at + n ≡ suc (at + n) = omega arith in
    ap (λ (k : ℕ). take k (x ∷ xs)) e ∙ ap (λ (ys : List ℕ). x ∷ ys) (take_on at n xs)

pub drop_on : (at n : ℕ) (xs : List ℕ) → drop at xs ≡ take n (drop at xs) ++ drop (at + n) xs
drop_on at n xs = sym (take-append-drop n (drop at xs)) ∙ ap (λ (ys : List ℕ). take n (drop at xs) ++ ys) (drop-drop n at xs)

-- bytes that stand within the first ones
pub take_within : (at n most : ℕ) (xs : List ℕ) → at + n ≤ most → take n (drop at (take most xs)) ≡ take n (drop at xs)
take_within at n most xs h =
    let e : most ≡ at + (most - at) = omega (arith, h) in
    ap (λ (k : ℕ). take n (drop at (take k xs))) e ∙ (ap (λ (ys : List ℕ). take n ys) (drop-take at (most - at) xs) ∙ take-take n (most - at) (drop at xs) (omega (arith, h)))

pub drop_all : (at : ℕ) (xs : List ℕ) → length xs ≤ at → drop at xs ≡ []
drop_all zero [] h = refl
drop_all zero (x ∷ xs) h = absurd (none (length xs) h)
  where
    none : (n : ℕ) → suc n ≤ zero → ⊥
    none n h = omega (arith, h)
drop_all (suc at) [] h = refl
drop_all (suc at) (x ∷ xs) h = drop_all at xs (omega (arith, h))

pub take_all : (n : ℕ) (xs : List ℕ) → length xs ≤ n → take n xs ≡ xs
take_all zero [] h = refl
take_all zero (x ∷ xs) h = absurd (none (length xs) h)
  where
    none : (n : ℕ) → suc n ≤ zero → ⊥
    none n h = omega (arith, h)
take_all (suc n) [] h = refl
take_all (suc n) (x ∷ xs) h = ap (λ (ys : List ℕ). x ∷ ys) (take_all n xs (omega (arith, h)))

-- counts of a text of n bytes, of which k are kept
pub place_of : (at k n : ℕ) → at ≤ k → k ≡ min 1048576 n → (at ≤ 1048576) × (at ≤ n)
place_of at k n h e = (omega (arith, h, e), omega (arith, h, e))

pub fits : (at k n size : ℕ) → k ≡ min 1048576 n → at + size ≤ 1048576 → size ≤ n - at → at ≤ n → at + size ≤ k
fits at k n size e w r h = omega (arith, e, w, r, h)

pub no_more : (at size : ℕ) → at + size ≤ 1048576 → min (at + size) 4294967295 ≡ at + size
no_more at size w = omega (arith, w)

pub all_whole : (at k n : ℕ) → n ≤ at → k ≡ min 1048576 n → k ≤ at
all_whole at k n h e = omega (arith, h, e)

pub all_high : (at k n : ℕ) → 1048576 ≤ at → k ≡ min 1048576 n → k ≤ at
all_high at k n h e = omega (arith, h, e)

pub not_more : (at n : ℕ) → n ≤ at → at ≤ 1048576 → n ≤ 1048576
not_more at n h e = omega (arith, h, e)

pub some_more : (at n size : ℕ) → 0 < size → 1048576 ≤ at → size ≤ n - at → 1048576 < n
some_more at n size h e r = omega (arith, h, e, r)

pub front_fits : (at size rest n k : ℕ) → at ≡ size → n ≡ size + rest → size ≤ 4096 → k ≡ min 1048576 n → at ≤ k
front_fits at size rest n k a b c d = omega (arith, a, b, c, d)

pub below : (n : ℕ) → n ≤ 4096 → n ≤ 1048576
below n h = omega (arith, h)
