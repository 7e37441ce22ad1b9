-- Items of lists.
use Rattle.std.proofs.Common.{◌≡◌, ℕ, zero, suc, ◌<◌, List, [], ◌∷◌, ◌++◌, Some, slice_get, length, refl, ap, subst, arith}
use Rattle.std.specs.Prelude.{All, map}
use Rattle.std.proofs.lemmas.List.Elements.{All-head, All-tail}

pub all_at : {A : Type 0} (P : A → Type 0) (xs : List A) (i : ℕ) (x : A) → All P xs → slice_get xs i ≡ Some x → P x
all_at P [] i x h e = cc
all_at P (y ∷ xs) zero x h e = let f : y ≡ x = cc in subst P f (All-head P y xs h)
all_at P (y ∷ xs) (suc i) x h e = all_at P xs i x (All-tail P y xs h) e

-- an item of a list that is mapped
pub record IsMapped {A B : Type 0} (f : A → B) (xs : List A) (i : ℕ) (y : B) : Type 0 where
  pub item : A
  pub is : slice_get xs i ≡ Some item
  pub same : y ≡ f item

pub mapped : {A B : Type 0} (f : A → B) (xs : List A) (i : ℕ) (y : B) → slice_get (map f xs) i ≡ Some y → IsMapped f xs i y
mapped f [] i y e = cc
mapped f (x ∷ xs) zero y e = record { item = x; is = refl; same = cc }
mapped f (x ∷ xs) (suc i) y e = let h = mapped f xs i y e in record { item = h.item; is = h.is; same = h.same }

pub item_below : {A : Type 0} (xs : List A) (i : ℕ) (x : A) → slice_get xs i ≡ Some x → i < length xs
item_below [] i x e = cc
item_below (y ∷ xs) zero x e = omega arith
item_below (y ∷ xs) (suc i) x e = let h = item_below xs i x e in omega (arith, h)

pub length_mapped : {A B : Type 0} (f : A → B) (xs : List A) → length (map f xs) ≡ length xs
length_mapped f [] = refl
length_mapped f (x ∷ xs) = ap suc (length_mapped f xs)

-- each item
abbrev pub Every : {A : Type 0} → (A → Type 0) → List A → Type 0
Every P [] = Unit {0}
Every P (x ∷ xs) = P x × Every P xs

pub every_append : {A : Type 0} (P : A → Type 0) (xs ys : List A) → Every P xs → Every P ys → Every P (xs ++ ys)
every_append P [] ys p q = q
every_append P (x ∷ xs) ys p q = (p.0, every_append P xs ys p.1 q)

pub every_at : {A : Type 0} (P : A → Type 0) (xs : List A) (i : ℕ) (x : A) → Every P xs → slice_get xs i ≡ Some x → P x
every_at P [] i x p e = cc
every_at P (y ∷ xs) zero x p e = let f : y ≡ x = cc in subst P f p.0
every_at P (y ∷ xs) (suc i) x p e = every_at P xs i x p.1 e

pub every_from : {A : Type 0} (P : A → Type 0) (xs : List A) → ((i : ℕ) (x : A) → slice_get xs i ≡ Some x → P x) → Every P xs
every_from P [] h = tt
every_from P (x ∷ xs) h = (h 0 x refl, every_from P xs (λ i y e. h (suc i) y e))
