-- A table of spellings. A spelling's number is its place in the table.
use Rattle.std.specs.Prelude.{◌≡◌, ◌+◌, ◌<◌, ℕ, List, [], ◌∷◌, ◌++◌, Option, None, Some, option_map, is_some, slice_get, length, bytes_eq, if◌then◌else◌}
use Rattle.c65_base.specs.declared.refusal.Refusal.{Refusal}
use Rattle.c65_base.specs.declared.refusal.Refusal.TheVariants.{OutOfMemory, TooLarge}
use Rattle.c65_base.specs.declared.refusal.Size.TheVariants.{Names}
use Rattle.c65_base.specs.Limits.{limit_of}

-- the number of a spelling
abbrev pub name_of : List (List ℕ) → List ℕ → Option ℕ
name_of [] spelling = None
name_of (first ∷ rest) spelling = if bytes_eq spelling first then Some 0 else option_map (λ n. n + 1) (name_of rest spelling)

-- the table once a spelling has a number: as before, or with the new spelling last
abbrev pub with_spelling : List (List ℕ) → List ℕ → List (List ℕ)
with_spelling names spelling = if is_some (name_of names spelling) then names else names ++ spelling ∷ []

-- no spelling stands at two places
abbrev pub IsDistinct : List (List ℕ) → Type 0
IsDistinct names = (i j : ℕ) (spelling : List ℕ) → slice_get names i ≡ Some spelling → slice_get names j ≡ Some spelling → i ≡ j

-- the spelling has no number
abbrev pub Lacks : List (List ℕ) → List ℕ → Type 0
Lacks names spelling = name_of names spelling ≡ None

-- Why a spelling gets no number: it is lacking, and the table is full, or there was no memory for a new one.
abbrev pub RefusesName : List (List ℕ) → List ℕ → Refusal → Type 0
RefusesName names spelling (TooLarge limit value) = (limit ≡ Names) × (value ≡ limit_of Names + 1) × Lacks names spelling × (length names ≡ limit_of Names)
RefusesName names spelling OutOfMemory = Lacks names spelling × (length names < limit_of Names)
RefusesName names spelling _ = ⊥
