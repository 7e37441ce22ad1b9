-- Lists in which no number comes twice.
use Rattle.std.proofs.Common.{◌≡◌, ℕ, zero, suc, ◌⊎◌, inl, inr, true, false, List, [], ◌∷◌, ◌++◌, Some, refl, ◌∙◌, ap, slice_get, arith}
use Rattle.std.specs.Prelude.{take}
use Rattle.c65_csem.specs.Statements.{IsDistinct}
use Rattle.c65_meaning.specs.After.{is_among}
use Rattle.c65_agree_enter.specs.Params.{AreDistinct}
use Rattle.c65_agree_stmts.proofs.Blocks.{among_left, among_right, among_both}
use Rattle.c65_agree_homes.proofs.Among.{among_here, among_more, among_cases, among_clash, at_among, among_at, among_take, IsOutside, not_by}

pub distinct_tail : (i : ℕ) (is : List ℕ) → IsDistinct (i ∷ is) → IsDistinct is
distinct_tail i is d = record { once = λ j k x e f. let same : suc j ≡ suc k = d.once (suc j) (suc k) x e f in omega (arith, same) }

pub are_distinct : (is : List ℕ) → IsDistinct is → AreDistinct is
are_distinct [] d = tt
are_distinct (i ∷ is) d = (not_by is i once, are_distinct is (distinct_tail i is d))
  where
    once : is_among is i ≡ true → ⊥
    once h =
        let at = among_at is i h in
        let same : zero ≡ suc at.0 = d.once zero (suc at.0) i refl at.1 in
        omega (arith, same)

pub distinct_take : (n : ℕ) (is : List ℕ) → AreDistinct is → AreDistinct (take n is)
distinct_take zero is d = tt
distinct_take (suc n) [] d = tt
distinct_take (suc n) (i ∷ is) d = (not_by (take n is) i (λ h. among_clash is i (among_take n is i h) d.0), distinct_take n is d.1)

-- the last item is none of those before it
pub last_apart : (is : List ℕ) (n l : ℕ) → AreDistinct is → slice_get is n ≡ Some l → is_among (take n is) l ≡ false
last_apart [] n l d e = absurd cc
last_apart (i ∷ is) zero l d e = refl
last_apart (i ∷ is) (suc n) l d e = not_by (i ∷ take n is) l (λ h. go (among_cases i (take n is) l h) (last_apart is n l d.1 e))
  where
    go : (i ≡ l) ⊎ (is_among (take n is) l ≡ true) → is_among (take n is) l ≡ false → ⊥
    go (inl same) rest = among_clash is i (ap (is_among is) same ∙ at_among is n l e) d.0
    go (inr h) rest = among_clash (take n is) l h rest

-- ---- one list behind another

pub distinct_first : (is js : List ℕ) → AreDistinct (is ++ js) → AreDistinct is
distinct_first [] js d = tt
distinct_first (i ∷ is) js d = (not_by is i (λ h. among_clash (is ++ js) i (among_left is js i h) d.0), distinct_first is js d.1)

pub distinct_second : (is js : List ℕ) → AreDistinct (is ++ js) → AreDistinct js
distinct_second [] js d = d
distinct_second (i ∷ is) js d = distinct_second is js d.1

pub distinct_apart : (is js : List ℕ) → AreDistinct (is ++ js) → IsOutside is js
distinct_apart [] js d k h = absurd cc
distinct_apart (i ∷ is) js d k h = go (among_cases i is k h) (distinct_apart is js d.1 k)
  where
    go : (i ≡ k) ⊎ (is_among is k ≡ true) → (is_among is k ≡ true → is_among js k ≡ false) → is_among js k ≡ false
    go (inl e) rest = not_by js k (λ f. among_clash (is ++ js) i (ap (is_among (is ++ js)) e ∙ among_right is js k f) d.0)
    go (inr e) rest = rest e

pub distinct_both : (is js : List ℕ) → AreDistinct is → AreDistinct js → IsOutside is js → AreDistinct (is ++ js)
distinct_both [] js d e apart = e
distinct_both (i ∷ is) js d e apart = (not_by (is ++ js) i (λ h. go (among_both is js i h)), distinct_both is js d.1 e (λ k h. apart k (among_more i is k h)))
  where
    go : (is_among is i ≡ true) ⊎ (is_among js i ≡ true) → ⊥
    go (inl h) = among_clash is i h d.0
    go (inr h) = among_clash js i h (apart i (among_here i is))
