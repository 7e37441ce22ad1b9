-- Numbers among others.
use Rattle.std.proofs.Common.{◌≡◌, ℕ, zero, suc, ◌+◌, ◌⊎◌, inl, inr, Bool, true, false, List, [], ◌∷◌, Some, length, refl, sym, ◌∙◌, ap, subst, slice_get, arith}
use Rattle.std.specs.Prelude.{◌==◌, if◌then◌else◌, take}
use Rattle.std.proofs.lemmas.Bool.{eq-eqb, ne_eqb, eqb-true}
use Rattle.c65_meaning.specs.After.{is_among}

pub among_here : (i : ℕ) (is : List ℕ) → is_among (i ∷ is) i ≡ true
among_here i is = ap (λ (b : Bool). if b then true else is_among is i) (eq-eqb i i refl)

pub among_more : (j : ℕ) (is : List ℕ) (i : ℕ) → is_among is i ≡ true → is_among (j ∷ is) i ≡ true
among_more j is i h = go (j == i)
  where
    go : (b : Bool) → (if b then true else is_among is i) ≡ true
    go true = refl
    go false = h

pub among_cases : (j : ℕ) (is : List ℕ) (i : ℕ) → is_among (j ∷ is) i ≡ true → (j ≡ i) ⊎ (is_among is i ≡ true)
among_cases j is i h = go (j == i) refl h
  where
    go : (b : Bool) → (j == i) ≡ b → (if b then true else is_among is i) ≡ true → (j ≡ i) ⊎ (is_among is i ≡ true)
    go true e h = inl (eqb-true j i e)
    go false e h = inr h

-- what is and is not among the same
pub among_clash : {A : Type 0} (is : List ℕ) (i : ℕ) → is_among is i ≡ true → is_among is i ≡ false → A
among_clash is i h k = absurd (go (sym h ∙ k))
  where
    go : true ≡ false → ⊥
    go e = cc

pub not_among : (j : ℕ) (is : List ℕ) (i : ℕ) → (j ≡ i → ⊥) → is_among is i ≡ false → is_among (j ∷ is) i ≡ false
not_among j is i other h = ap (λ (b : Bool). if b then true else is_among is i) (ne_eqb j i other) ∙ h

-- each of the first list is one of the second
abbrev pub IsWithin : List ℕ → List ℕ → Type 0
IsWithin is js = (i : ℕ) → is_among is i ≡ true → is_among js i ≡ true

-- none of the first list is one of the second
abbrev pub IsOutside : List ℕ → List ℕ → Type 0
IsOutside is js = (i : ℕ) → is_among is i ≡ true → is_among js i ≡ false

pub among_or_not : (is : List ℕ) (i : ℕ) → (is_among is i ≡ true) ⊎ (is_among is i ≡ false)
among_or_not is i = go (is_among is i) refl
  where
    go : (b : Bool) → is_among is i ≡ b → (is_among is i ≡ true) ⊎ (is_among is i ≡ false)
    go true e = inl e
    go false e = inr e

-- an item that is not among those behind it
pub not_by : (is : List ℕ) (i : ℕ) → (is_among is i ≡ true → ⊥) → is_among is i ≡ false
not_by is i h = go (among_or_not is i)
  where
    go : (is_among is i ≡ true) ⊎ (is_among is i ≡ false) → is_among is i ≡ false
    go (inl e) = absurd (h e)
    go (inr e) = e

pub at_among : (is : List ℕ) (k i : ℕ) → slice_get is k ≡ Some i → is_among is i ≡ true
at_among [] k i h = absurd cc
at_among (j ∷ is) zero i h = let same : j ≡ i = cc in subst (λ (n : ℕ). is_among (n ∷ is) i ≡ true) (sym same) (among_here i is)
at_among (j ∷ is) (suc k) i h = among_more j is i (at_among is k i h)

pub among_at : (is : List ℕ) (i : ℕ) → is_among is i ≡ true → (k : ℕ) × (slice_get is k ≡ Some i)
among_at [] i h = absurd cc
among_at (j ∷ is) i h = go (among_cases j is i h) (among_at is i)
  where
    go : (j ≡ i) ⊎ (is_among is i ≡ true) → (is_among is i ≡ true → (k : ℕ) × (slice_get is k ≡ Some i)) → (k : ℕ) × (slice_get (j ∷ is) k ≡ Some i)
    go (inl e) rest = (zero, ap Some e)
    go (inr e) rest = let r = rest e in (suc r.0, r.1)

-- ---- the first items of a list

pub among_take : (n : ℕ) (is : List ℕ) (i : ℕ) → is_among (take n is) i ≡ true → is_among is i ≡ true
among_take zero is i h = absurd cc
among_take (suc n) [] i h = absurd cc
among_take (suc n) (j ∷ is) i h = go (among_cases j (take n is) i h) (among_take n is i)
  where
    go : (j ≡ i) ⊎ (is_among (take n is) i ≡ true) → (is_among (take n is) i ≡ true → is_among is i ≡ true) → is_among (j ∷ is) i ≡ true
    go (inl e) rest = subst (λ (m : ℕ). is_among (m ∷ is) i ≡ true) (sym e) (among_here i is)
    go (inr e) rest = among_more j is i (rest e)

-- an item is the last one, or among those before it
pub among_last : (is : List ℕ) (n l i : ℕ) → slice_get is n ≡ Some l → n + 1 ≡ length is → is_among is i ≡ true → (is_among (take n is) i ≡ true) ⊎ (l ≡ i)
among_last [] n l i at whole h = absurd cc
among_last (j ∷ is) zero l i at whole h =
    let none : length is ≡ 0 = omega (arith, whole) in
    let same : j ≡ l = cc in
    go is none (among_cases j is i h) same
  where
    go : (js : List ℕ) → length js ≡ 0 → (j ≡ i) ⊎ (is_among js i ≡ true) → j ≡ l → (is_among (take zero (j ∷ is)) i ≡ true) ⊎ (l ≡ i)
    go js none (inl e) same = inr (sym same ∙ e)
    go [] none (inr e) same = absurd cc
    go (k ∷ js) none (inr e) same = absurd (omega (arith, none))
among_last (j ∷ is) (suc n) l i at whole h = go (among_cases j is i h) (among_last is n l i at (omega (arith, whole)))
  where
    go : (j ≡ i) ⊎ (is_among is i ≡ true) → (is_among is i ≡ true → (is_among (take n is) i ≡ true) ⊎ (l ≡ i)) → (is_among (j ∷ take n is) i ≡ true) ⊎ (l ≡ i)
    go (inl e) rest = inl (subst (λ (m : ℕ). is_among (m ∷ take n is) i ≡ true) (sym e) (among_here i (take n is)))
    go (inr e) rest = by (rest e)
      where
        by : (is_among (take n is) i ≡ true) ⊎ (l ≡ i) → (is_among (j ∷ take n is) i ≡ true) ⊎ (l ≡ i)
        by (inl f) = inl (among_more j (take n is) i f)
        by (inr f) = inr f
