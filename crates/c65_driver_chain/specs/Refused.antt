-- Why compiling may be refused.
use Rattle.std.specs.Prelude.{◌≡◌, ◌<◌, ◌≤◌, ℕ, Bool, true, false, Result, Err, ⊤}
use Rattle.c65_base.specs.declared.refusal.Refusal.{Refusal}
use Rattle.c65_base.specs.declared.refusal.Refusal.TheVariants as refusals
use Rattle.c65_base.specs.declared.refusal.Size.{Size}
use Rattle.c65_base.specs.declared.refusal.Size.TheVariants as sizes
use Rattle.c65_base.specs.Limits.{limit_of}

-- the limits of the command line itself
abbrev pub is_of_command : Size → Bool
is_of_command sizes.Units = true
is_of_command sizes.Arguments = true
is_of_command _ = false

-- a quantity of the texts or of the program above its number
abbrev pub Exceeds : Size → ℕ → Type 0
Exceeds limit value = (is_of_command limit ≡ false) × (limit_of limit < value)

-- behind the preprocessor: a fault of a text, a limit, a fault of joining, or want of memory
abbrev pub StopsLater : Refusal → Type 0
StopsLater refusals.OutOfMemory = ⊤
StopsLater (refusals.Source code file line) = ⊤
StopsLater (refusals.TooLarge limit value) = Exceeds limit value
StopsLater (refusals.Link kind name) = ⊤
StopsLater _ = ⊥

-- that, or a file that is missing or could not be read
abbrev pub StopsUnits : Refusal → Type 0
StopsUnits (refusals.Missing path) = ⊤
StopsUnits refusals.ReadFault = ⊤
StopsUnits refusal = StopsLater refusal

-- that, or too many files
abbrev pub StopsChain : Refusal → Type 0
StopsChain (refusals.TooLarge sizes.Units value) = limit_of sizes.Units < value
StopsChain refusal = StopsUnits refusal

-- Units exactly where there are more files than the limit; want of memory may come first
abbrev pub UnitsLimit : {T : Type 0} → ℕ → Result T Refusal → Type 0
UnitsLimit count (Err refusals.OutOfMemory) = ⊤
UnitsLimit count (Err (refusals.TooLarge sizes.Units value)) = (limit_of sizes.Units < count) × (value ≡ count)
UnitsLimit count result = count ≤ limit_of sizes.Units
