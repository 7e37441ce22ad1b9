-- Counts of faults, and what they say of an answer.
use Rattle.std.specs.Prelude.{◌≡◌, ◌≤◌, ◌⊎◌, ℕ, Result, Err}
use Rattle.c65_base.specs.declared.refusal.Refusal.{Refusal}
use Rattle.c65_base.specs.declared.refusal.Refusal.TheVariants.{Missing, ReadFault}
use Rattle.c65_io.specs.Causes.{Rose}

-- A count of failed reads rose where the answer is a read fault, that of the files or that of the input, and both stand still elsewhere.
abbrev pub ReadCauses : {T : Type 0} → ℕ → ℕ → ℕ → ℕ → Result T Refusal → Type 0
ReadCauses files files' input input' (Err ReadFault) = (files ≤ files') × (input ≤ input') × (Rose files files' ⊎ Rose input input')
ReadCauses files files' input input' result = (files' ≡ files) × (input' ≡ input)

-- The count of missing paths rose where the answer is Missing, and stands still elsewhere.
abbrev pub MissCause : {T : Type 0} → ℕ → ℕ → Result T Refusal → Type 0
MissCause before now (Err (Missing path)) = (before ≤ now) × Rose before now
MissCause before now result = now ≡ before
