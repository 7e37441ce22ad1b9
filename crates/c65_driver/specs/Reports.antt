-- What a refusal leaves on standard error.
use Rattle.std.specs.Prelude.{◌≡◌, ℕ, List, take, Option, Result, Ok, Err}
use Rattle.c65_base.specs.declared.refusal.Refusal.{Refusal}
use Rattle.c65_base.specs.Lines.{line_of}
use Rattle.c65_io.specs.Causes.{Rose}
use Rattle.c65_io.specs.Told.{append_told}

-- a refusal's line, all of it where the count did not rise; Done writes nothing
abbrev pub Reports : ℕ → ℕ → Option (List ℕ) → Option (List ℕ) → Result ℕ Refusal → Type 0
Reports before now written written' (Ok status) = (written' ≡ written) × (now ≡ before)
Reports before now written written' (Err refusal) =
    ((Rose before now → ⊥) → written' ≡ append_told written (line_of refusal))
    × ((count : ℕ) × (written' ≡ append_told written (take count (line_of refusal))))
