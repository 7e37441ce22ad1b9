-- The marks of a function's objects: where each stands among its homes.
use Rattle.std.proofs.Common.{◌≡◌, ℕ, zero, suc, ◌+◌, ◌-◌, ◌<◌, ◌≤◌, ◌⊎◌, inl, inr, true, false, List, [], ◌∷◌, length, refl, sym, ◌∙◌, ap, slice_get, slice_set, Some, arith}
use Rattle.std.specs.Prelude.{min, max}
use Rattle.std.proofs.Math.Nat.{min-le_left, min-le_right, le-max_left, le-max_right}
use Rattle.std.proofs.lemmas.List.{length-replicate}
use Rattle.c65_meaning.specs.After.{is_among}
use Rattle.c65_genframe.specs.declared.mark.Mark.{Mark}
use Rattle.c65_genframe.specs.declared.mark.Mark.TheVariants.{Other, Local, Parameter}
use Rattle.c65_genframe.specs.Marks.{least, greatest, marked, lowest, no_marks, all_marks}
use Rattle.c65_agree_homes.proofs.Among.{among_here, among_more, among_cases, among_clash}

-- ---- the least and the greatest number

least_first : (first : ℕ) (is : List ℕ) → least first is ≤ first
least_first first [] = omega arith
least_first first (i ∷ is) = omega (arith, least_first (min first i) is, min-le_left first i)

least_among : (first : ℕ) (is : List ℕ) (i : ℕ) → is_among is i ≡ true → least first is ≤ i
least_among first [] i h = absurd cc
least_among first (j ∷ is) i h = go (among_cases j is i h) (least_among (min first j) is i)
  where
    go : (j ≡ i) ⊎ (is_among is i ≡ true) → (is_among is i ≡ true → least (min first j) is ≤ i) → least (min first j) is ≤ i
    go (inl e) rest = omega (arith, e, least_first (min first j) is, min-le_right first j)
    go (inr e) rest = rest e

greatest_first : (first : ℕ) (is : List ℕ) → first ≤ greatest first is
greatest_first first [] = omega arith
greatest_first first (i ∷ is) = omega (arith, greatest_first (max first i) is, le-max_left first i)

greatest_among : (first : ℕ) (is : List ℕ) (i : ℕ) → is_among is i ≡ true → i ≤ greatest first is
greatest_among first [] i h = absurd cc
greatest_among first (j ∷ is) i h = go (among_cases j is i h) (greatest_among (max first j) is i)
  where
    go : (j ≡ i) ⊎ (is_among is i ≡ true) → (is_among is i ≡ true → i ≤ greatest (max first j) is) → i ≤ greatest (max first j) is
    go (inl e) rest = omega (arith, e, greatest_first (max first j) is, le-max_right first j)
    go (inr e) rest = rest e

pub local_low : (locals params : List ℕ) (i : ℕ) → is_among locals i ≡ true → lowest locals params ≤ i
local_low locals params i h = omega (arith, least_first (least 4294967295 locals) params, least_among 4294967295 locals i h)

pub param_low : (locals params : List ℕ) (i : ℕ) → is_among params i ≡ true → lowest locals params ≤ i
param_low locals params i h = least_among (least 4294967295 locals) params i h

-- ---- marks that are set

set_length : (ms : List Mark) (k : ℕ) (m : Mark) → length (slice_set ms k m) ≡ length ms
set_length [] k m = refl
set_length (n ∷ ms) zero m = refl
set_length (n ∷ ms) (suc k) m = ap suc (set_length ms k m)

set_here : (ms : List Mark) (k : ℕ) (m : Mark) → k < length ms → slice_get (slice_set ms k m) k ≡ Some m
set_here [] k m h = absurd (omega (arith, h))
set_here (n ∷ ms) zero m h = refl
set_here (n ∷ ms) (suc k) m h = set_here ms k m (omega (arith, h))

set_other : (ms : List Mark) (j k : ℕ) (m : Mark) → (j ≡ k → ⊥) → slice_get (slice_set ms j m) k ≡ slice_get ms k
set_other [] j k m h = refl
set_other (n ∷ ms) zero zero m h = absurd (h refl)
set_other (n ∷ ms) zero (suc k) m h = refl
set_other (n ∷ ms) (suc j) zero m h = refl
set_other (n ∷ ms) (suc j) (suc k) m h = set_other ms j k m (λ e. h (ap suc e))

set_again : (ms : List Mark) (j k : ℕ) (m : Mark) → slice_get ms k ≡ Some m → slice_get (slice_set ms j m) k ≡ Some m
set_again [] j k m h = h
set_again (n ∷ ms) zero zero m h = refl
set_again (n ∷ ms) zero (suc k) m h = h
set_again (n ∷ ms) (suc j) zero m h = h
set_again (n ∷ ms) (suc j) (suc k) m h = set_again ms j k m h

marked_length : (low : ℕ) (m : Mark) (ms : List Mark) (is : List ℕ) → length (marked low m ms is) ≡ length ms
marked_length low m ms [] = refl
marked_length low m ms (i ∷ is) = marked_length low m (slice_set ms (i - low) m) is ∙ set_length ms (i - low) m

marked_again : (low : ℕ) (m : Mark) (ms : List Mark) (is : List ℕ) (k : ℕ) → slice_get ms k ≡ Some m → slice_get (marked low m ms is) k ≡ Some m
marked_again low m ms [] k h = h
marked_again low m ms (i ∷ is) k h = marked_again low m (slice_set ms (i - low) m) is k (set_again ms (i - low) k m h)

marked_here : (low : ℕ) (m : Mark) (ms : List Mark) (is : List ℕ) (i : ℕ) → is_among is i ≡ true → i - low < length ms → slice_get (marked low m ms is) (i - low) ≡ Some m
marked_here low m ms [] i h lt = absurd cc
marked_here low m ms (j ∷ is) i h lt = go (among_cases j is i h) (λ e. marked_here low m (slice_set ms (j - low) m) is i e (omega (arith, lt, set_length ms (j - low) m)))
  where
    go : (j ≡ i) ⊎ (is_among is i ≡ true) → (is_among is i ≡ true → slice_get (marked low m (slice_set ms (j - low) m) is) (i - low) ≡ Some m) → slice_get (marked low m (slice_set ms (j - low) m) is) (i - low) ≡ Some m
    go (inl e) rest = marked_again low m (slice_set ms (j - low) m) is (i - low) (ap (λ (n : ℕ). slice_get (slice_set ms (n - low) m) (i - low)) e ∙ set_here ms (i - low) m lt)
    go (inr e) rest = rest e

marked_other : (low : ℕ) (m : Mark) (ms : List Mark) (is : List ℕ) (k : ℕ) → ((j : ℕ) → is_among is j ≡ true → j - low ≡ k → ⊥) → slice_get (marked low m ms is) k ≡ slice_get ms k
marked_other low m ms [] k h = refl
marked_other low m ms (i ∷ is) k h = marked_other low m (slice_set ms (i - low) m) is k (λ j a. h j (among_more i is j a)) ∙ set_other ms (i - low) k m (h i (among_here i is))

-- ---- the marks of all

room : (locals params : List ℕ) (i : ℕ) → i ≤ greatest (greatest 0 locals) params → lowest locals params ≤ i → i - lowest locals params < length (no_marks locals params)
room locals params i high low =
    let n : ℕ = greatest (greatest 0 locals) params + 1 - lowest locals params in
    let all : length (no_marks locals params) ≡ n = length-replicate n Other in
    omega (arith, all, high, low)

pub param_mark : (locals params : List ℕ) (i : ℕ) → is_among params i ≡ true → slice_get (all_marks locals params) (i - lowest locals params) ≡ Some Parameter
param_mark locals params i h =
    let low : ℕ = lowest locals params in
    let ms : List Mark = marked low Local (no_marks locals params) locals in
    let inside = room locals params i (greatest_among (greatest 0 locals) params i h) (param_low locals params i h) in
    marked_here low Parameter ms params i h (omega (arith, inside, marked_length low Local (no_marks locals params) locals))

pub local_mark : (locals params : List ℕ) (i : ℕ) → is_among locals i ≡ true → is_among params i ≡ false → slice_get (all_marks locals params) (i - lowest locals params) ≡ Some Local
local_mark locals params i h other =
    let low : ℕ = lowest locals params in
    let ms : List Mark = no_marks locals params in
    let le : low ≤ i = local_low locals params i h in
    let high : i ≤ greatest (greatest 0 locals) params = omega (arith, greatest_among 0 locals i h, greatest_first (greatest 0 locals) params) in
    let far : (j : ℕ) → is_among params j ≡ true → j - low ≡ i - low → ⊥ = λ j a e.
    let same : j ≡ i = omega (arith, e, le, param_low locals params j a) in
    among_clash params i (ap (is_among params) (sym same) ∙ a) other in
    marked_other low Parameter (marked low Local ms locals) params (i - low) far ∙ marked_here low Local ms locals i h (room locals params i high le)
