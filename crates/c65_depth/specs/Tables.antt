-- Tables with an entry for each number from 0 on.
use Rattle.std.specs.Prelude.{ℕ, zero, suc, ◌&&◌, max, Bool, true, List, [], ◌∷◌, ◌++◌, Option, Some, None, if◌then◌else◌}

module _ {A : Type 0} where
  abbrev pub each : ℕ → (ℕ → A) → List A
  each zero h = []
  each (suc i) h = each i h ++ h i ∷ []

  abbrev pub add_if : Option A → List A → List A
  add_if None xs = xs
  add_if (Some x) xs = xs ++ x ∷ []

  -- only the entries that there are
  abbrev pub some_of : ℕ → (ℕ → Option A) → List A
  some_of zero h = []
  some_of (suc i) h = add_if (h i) (some_of i h)

abbrev pub every : ℕ → (ℕ → Bool) → Bool
every zero h = true
every (suc i) h = every i h && h i

abbrev pub greatest_of : ℕ → (ℕ → ℕ) → ℕ
greatest_of zero h = 0
greatest_of (suc i) h = max (greatest_of i h) (h i)

abbrev pub or_this : Bool → ℕ → Option ℕ → Option ℕ
or_this so i (Some j) = Some j
or_this so i None = if so then Some i else None

-- the first number for which a test says so
abbrev pub first_of : ℕ → (ℕ → Bool) → Option ℕ
first_of zero h = None
first_of (suc i) h = or_this (h i) i (first_of i h)
