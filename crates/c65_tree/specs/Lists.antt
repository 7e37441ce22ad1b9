-- A number for each item of a list: the greatest of them, and their sum.
use Rattle.std.specs.Prelude.{ℕ, ◌+◌, max, List, [], ◌∷◌, Option, None, Some}

abbrev pub deepest : {A : Type 0} → (A → ℕ) → List A → ℕ
deepest f [] = 0
deepest f (x ∷ xs) = max (f x) (deepest f xs)

abbrev pub total : {A : Type 0} → (A → ℕ) → List A → ℕ
total f [] = 0
total f (x ∷ xs) = f x + total f xs

-- the number of an item that may lack
abbrev pub of_option : {A : Type 0} → (A → ℕ) → Option A → ℕ
of_option f None = 0
of_option f (Some x) = f x
