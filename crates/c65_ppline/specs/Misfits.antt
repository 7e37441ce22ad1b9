-- Why the tokens of a line may not fit.
use Rattle.std.specs.Prelude.{◌≡◌, Result, Ok, Err, ⊤}
use Rattle.c65_base.specs.declared.refusal.Refusal.TheVariants as refusals
use Rattle.c65_base.specs.Answers.{Fault, at, large}
use Rattle.c65_ppline.specs.declared.line.Misfit.{Misfit}
use Rattle.c65_ppline.specs.declared.line.Misfit.TheVariants.{Short, Wrong, Stopped}
use Rattle.c65_ppline.specs.Causes.{Stops}

abbrev pub IsMisfit : Misfit → Type 0
IsMisfit Short = ⊤
IsMisfit Wrong = ⊤
IsMisfit (Stopped refusal) = Stops refusal

-- the line ends too early; a token stands where it can not; or another fault comes first
pub data Trouble : Type 0 where
  short : Trouble
  wrong : Trouble
  stopped : Fault → Trouble

infixl 10 ◌then◌
abbrev pub ◌then◌ : {A B : Type 0} → Result A Trouble → (A → Result B Trouble) → Result B Trouble
(Ok x) then f = f x
(Err e) then f = Err e

abbrev pub IsTrouble : {Y : Type 0} → Misfit → Result Y Trouble → Type 0
IsTrouble Short y = y ≡ Err short
IsTrouble Wrong y = y ≡ Err wrong
IsTrouble (Stopped refusals.OutOfMemory) y = ⊤
IsTrouble (Stopped (refusals.At code place)) y = y ≡ Err (stopped (at code place))
IsTrouble (Stopped (refusals.TooLarge limit value)) y = y ≡ Err (stopped (large limit value))
IsTrouble (Stopped _) y = ⊥

-- what was read, seen by view, is what the definition reads, unless memory ran out
abbrev pub Reads : {X Y : Type 0} → (X → Y) → Result X Misfit → Result Y Trouble → Type 0
Reads view (Ok x) y = y ≡ Ok (view x)
Reads view (Err m) y = IsTrouble m y
