-- Items of lists.
use Rattle.std.proofs.Common.{◌≡◌, ℕ, zero, suc, ◌+◌, ◌<◌, List, [], ◌∷◌, ◌++◌, Some, refl, ap, arith}
use Rattle.std.specs.Prelude.{slice_get, length}

pub append_nothing : {A : Type 0} (xs : List A) → xs ++ [] ≡ xs
append_nothing [] = refl
append_nothing (x ∷ xs) = ap (λ ys. x ∷ ys) (append_nothing xs)

pub append_again : {A : Type 0} (xs ys zs : List A) → (xs ++ ys) ++ zs ≡ xs ++ (ys ++ zs)
append_again [] ys zs = refl
append_again (x ∷ xs) ys zs = ap (λ l. x ∷ l) (append_again xs ys zs)

-- an item stays where it is with others behind it, and is so far on with others before it
pub item_before : {A : Type 0} (xs ys : List A) (k : ℕ) (v : A) → slice_get xs k ≡ Some v → slice_get (xs ++ ys) k ≡ Some v
item_before [] ys k v e = cc
item_before (x ∷ xs) ys zero v e = e
item_before (x ∷ xs) ys (suc k) v e = item_before xs ys k v e

pub item_behind : {A : Type 0} (xs ys : List A) (k : ℕ) (v : A) → slice_get ys k ≡ Some v → slice_get (xs ++ ys) (length xs + k) ≡ Some v
item_behind [] ys k v e = let n : 0 + k ≡ k = omega arith in rw n e
item_behind (x ∷ xs) ys k v e = let n : length (x ∷ xs) + k ≡ suc (length xs + k) = omega arith in rw n (item_behind xs ys k v e)

-- there is an item at each place below the length
pub record HasItem {A : Type 0} (xs : List A) (k : ℕ) : Type 0 where
  pub item : A
  pub is : slice_get xs k ≡ Some item

pub item_at : {A : Type 0} (xs : List A) (k : ℕ) → k < length xs → HasItem xs k
item_at [] k lt = absurd (omega arith)
item_at (x ∷ xs) zero lt = record { item = x; is = refl }
item_at (x ∷ xs) (suc k) lt = let h = item_at xs k (omega arith) in record { item = h.item; is = h.is }
