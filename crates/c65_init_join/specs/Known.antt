-- The name of the main function (C90 5.1.2.2.1).
use Rattle.std.specs.Prelude.{ℕ, ◌+◌, List, [], ◌∷◌, Bool, false, Option, Some, None, codes, bytes_eq, slice_get, if◌then◌else◌}
use Rattle.c65_base.specs.declared.names.Name.{Name}

abbrev pub is_main_in : Option (List ℕ) → Bool
is_main_in None = false
is_main_in (Some spelling) = bytes_eq spelling (codes "main")

-- the name of the main function
abbrev pub is_main_at : List (List ℕ) → ℕ → Bool
is_main_at names n = is_main_in (slice_get names n)

abbrev pub main_spelling : List ℕ
main_spelling = codes "main"

-- the first name from number i on that is the main function's
abbrev pub main_named : ℕ → List (List ℕ) → Option Name
main_named i [] = None
main_named i (s ∷ ss) = if bytes_eq s (codes "main") then Some (record { 0 = i }) else main_named (i + 1) ss
