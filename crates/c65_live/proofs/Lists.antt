-- Elements of lists that stand one behind the other, and of parts of lists.
use Rattle.std.proofs.Common.{◌≡◌, ℕ, zero, suc, ◌+◌, ◌-◌, ◌<◌, ◌≤◌, List, [], ◌∷◌, ◌++◌, length, take, drop, replicate, get_or, slice_get, refl, ◌∙◌, ap, append-nil, arith}
use Rattle.std.proofs.lemmas.List.{take_all, drop_all}
use Rattle.c65_code.specs.declared.parts.RegSet.{RegSet}
use Rattle.c65_code.specs.Parts.{no_parts}

pub nth_left : {A : Type 0} (xs ys : List A) (q : ℕ) → q < length xs → slice_get (xs ++ ys) q ≡ slice_get xs q
nth_left [] ys q h = absurd (omega (arith, h))
nth_left (x ∷ xs) ys zero h = refl
nth_left (x ∷ xs) ys (suc q) h = nth_left xs ys q (omega (arith, h))

pub nth_right : {A : Type 0} (xs ys : List A) (j : ℕ) → slice_get (xs ++ ys) (length xs + j) ≡ slice_get ys j
nth_right [] ys j = let e : 0 + j ≡ j = omega arith in ap (slice_get ys) e
nth_right (x ∷ xs) ys j = let e : suc (length xs) + j ≡ suc (length xs + j) = omega arith in ap (slice_get (x ∷ (xs ++ ys))) e ∙ nth_right xs ys j

pub nth_take : {A : Type 0} (n : ℕ) (xs : List A) (k : ℕ) → k < n → slice_get (take n xs) k ≡ slice_get xs k
nth_take zero xs k h = absurd (omega (arith, h))
nth_take (suc n) [] k h = refl
nth_take (suc n) (x ∷ xs) zero h = refl
nth_take (suc n) (x ∷ xs) (suc k) h = nth_take n xs k (omega (arith, h))

pub nth_drop : {A : Type 0} (n : ℕ) (xs : List A) (k : ℕ) → slice_get (drop n xs) k ≡ slice_get xs (n + k)
nth_drop zero xs k = let e : k ≡ 0 + k = omega arith in ap (slice_get xs) e
nth_drop (suc n) [] k = refl
nth_drop (suc n) (x ∷ xs) k = let e : suc (n + k) ≡ suc n + k = omega arith in nth_drop n xs k ∙ ap (slice_get (x ∷ xs)) e

pub get_left : (xs ys : List RegSet) (k : ℕ) → k < length xs → get_or (xs ++ ys) k no_parts ≡ get_or xs k no_parts
get_left [] ys k h = absurd (omega (arith, h))
get_left (x ∷ xs) ys zero h = refl
get_left (x ∷ xs) ys (suc k) h = get_left xs ys k (omega (arith, h))

pub get_right : (xs ys : List RegSet) (k : ℕ) → length xs ≤ k → get_or (xs ++ ys) k no_parts ≡ get_or ys (k - length xs) no_parts
get_right [] ys k h = let e : k ≡ k - 0 = omega arith in ap (λ i. get_or ys i no_parts) e
get_right (x ∷ xs) ys zero h = absurd (omega (arith, h))
get_right (x ∷ xs) ys (suc k) h = let e : k - length xs ≡ suc k - suc (length xs) = omega arith in get_right xs ys k (omega (arith, h)) ∙ ap (λ i. get_or ys i no_parts) e

pub get_take : (n : ℕ) (xs : List RegSet) (k : ℕ) → k < n → get_or (take n xs) k no_parts ≡ get_or xs k no_parts
get_take zero xs k h = absurd (omega (arith, h))
get_take (suc n) [] k h = refl
get_take (suc n) (x ∷ xs) zero h = refl
get_take (suc n) (x ∷ xs) (suc k) h = get_take n xs k (omega (arith, h))

pub get_drop : (n : ℕ) (xs : List RegSet) (k : ℕ) → get_or (drop n xs) k no_parts ≡ get_or xs (n + k) no_parts
get_drop zero xs k = let e : k ≡ 0 + k = omega arith in ap (λ i. get_or xs i no_parts) e
get_drop (suc n) [] k = refl
get_drop (suc n) (x ∷ xs) k = let e : suc (n + k) ≡ suc n + k = omega arith in get_drop n xs k ∙ ap (λ i. get_or (x ∷ xs) i no_parts) e

pub get_blank : (n k : ℕ) → get_or (replicate n no_parts) k no_parts ≡ no_parts
get_blank zero k = refl
get_blank (suc n) zero = refl
get_blank (suc n) (suc k) = get_blank n k

-- what was lent as a whole and given back as long as it was
pub lent_back : (long : ℕ) (given lent : List RegSet) → length given ≡ long → length lent ≡ long → take long (given ++ drop (length given) lent) ≡ given
lent_back long given lent e f =
    let rest : drop (length given) lent ≡ [] = drop_all (length given) lent (omega (arith, e, f)) in
    ap (λ xs. take long (given ++ xs)) rest ∙ (ap (take long) (append-nil given) ∙ take_all long given (omega (arith, e)))
