-- Which refusals the calls on macros have.
use Rattle.std.specs.Prelude.{◌≡◌, ℕ}
use Rattle.c65_base.specs.declared.code.Code.{Code}
use Rattle.c65_base.specs.declared.code.Code.TheVariants as codes
use Rattle.c65_base.specs.declared.refusal.Size.{Size}
use Rattle.c65_base.specs.declared.refusal.Size.TheVariants as sizes
use Rattle.c65_base.specs.declared.refusal.Refusal.{Refusal}
use Rattle.c65_base.specs.declared.refusal.Refusal.TheVariants as refusals

abbrev pub IsUseFault : Code → Type 0
IsUseFault codes.MacroArguments = Unit {0}
IsUseFault codes.OpenArguments = Unit {0}
IsUseFault codes.BadPaste = Unit {0}
IsUseFault _ = ⊥

-- a quantity that an expansion may exceed, with its number plus one
abbrev pub IsExceeded : Size → ℕ → Type 0
IsExceeded sizes.MacroArguments value = value ≡ 128
IsExceeded sizes.Tokens value = value ≡ 500001
IsExceeded sizes.Names value = value ≡ 65536
IsExceeded _ value = ⊥

-- why an expansion may be refused
abbrev pub StopsExpansion : Refusal → Type 0
StopsExpansion refusals.OutOfMemory = Unit {0}
StopsExpansion (refusals.At code pos) = IsUseFault code
StopsExpansion (refusals.TooLarge limit value) = IsExceeded limit value
StopsExpansion _ = ⊥

-- why an expansion may be refused before its list is at its end
abbrev pub IsInnerFault : Code → Type 0
IsInnerFault codes.MacroArguments = Unit {0}
IsInnerFault codes.BadPaste = Unit {0}
IsInnerFault _ = ⊥

abbrev pub StopsFeeding : Refusal → Type 0
StopsFeeding refusals.OutOfMemory = Unit {0}
StopsFeeding (refusals.At code pos) = IsInnerFault code
StopsFeeding (refusals.TooLarge limit value) = IsExceeded limit value
StopsFeeding _ = ⊥

-- no memory, or no room for a spelling
abbrev pub LacksRoom : Refusal → Type 0
LacksRoom refusals.OutOfMemory = Unit {0}
LacksRoom (refusals.TooLarge limit value) = (limit ≡ sizes.Names) × (value ≡ 65536)
LacksRoom _ = ⊥
