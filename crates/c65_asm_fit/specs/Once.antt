-- Lists of which no item comes twice.
use Rattle.std.specs.Prelude.{◌≡◌, ℕ, Bool, true, false, if◌then◌else◌, List, [], ◌∷◌, ◌++◌, Some, is_some, nat_eq, slice_get}
use Rattle.std.specs.List.{list_any}
use Rattle.c65_base.specs.Names.{name_of}

abbrev pub IsOnce : {A : Type 0} → List A → Type 0
IsOnce {A} xs = (i j : ℕ) (x : A) → slice_get xs i ≡ Some x → slice_get xs j ≡ Some x → i ≡ j

-- no item comes twice, and none that came before, by a test of whether it came
abbrev pub comes_once : {A : Type 0} → (List A → A → Bool) → List A → List A → Bool
comes_once has seen [] = true
comes_once has seen (x ∷ xs) = if has seen x then false else comes_once has (seen ++ x ∷ []) xs

abbrev pub has_spelling : List (List ℕ) → List ℕ → Bool
has_spelling seen s = is_some (name_of seen s)

abbrev pub has_number : List ℕ → ℕ → Bool
has_number seen n = list_any (nat_eq n) seen
