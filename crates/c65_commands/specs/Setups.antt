-- How an image is run, and what its run does.
use Rattle.std.specs.Prelude.{◌≡◌, ℕ, ◌^◌, ◌-◌, ◌<◌, ◌≤◌, Bool, min, List, ◌++◌, take, Option, Some, None, Result, Ok, Err, ⊤}
use Rattle.c65_base.specs.declared.refusal.Refusal.{Refusal}
use Rattle.c65_base.specs.declared.refusal.Refusal.TheVariants.{OutOfMemory, TooLarge, BadImage}
use Rattle.c65_base.specs.declared.refusal.Size.TheVariants.{Arguments}
use Rattle.c65_mach.specs.declared.image.Image.{Image}
use Rattle.c65_sim.specs.declared.run.Budget.{Budget}
use Rattle.c65_sim.specs.declared.run.Budget.TheVariants.{Instructions, Cycles}
use Rattle.c65_sim.specs.View.{RunView, started, arguments_size}
use Rattle.c65_sim.specs.Runs.{Runs}
use Rattle.c65_driver_chain.specs.Refused.{StopsChain}
use Rattle.c65_driver_words.specs.Commands.{Spelled}

-- the rows or cycles, the guard of the hardware stack, and the program's arguments
pub record Setup : Type 0 where
  pub budget : Budget
  pub guard : Bool
  pub args : List (List ℕ)

abbrev pub budget_of : Option ℕ → Budget
budget_of None = Instructions (2 ^ 64 - 1)
budget_of (Some cycles) = Cycles cycles

-- argument 0 is the name of the first file, or of the image
abbrev pub setup_of : Bool → Spelled → Setup
setup_of guard command = record { budget = budget_of command.cycles; guard = guard; args = take 1 command.files ++ command.args }

-- nothing was read or written
abbrev pub Untouched : Option (List ℕ) → Option (List ℕ) → Option (List ℕ) → Option (List ℕ) → Type 0
Untouched left left' written written' = (left' ≡ left) × (written' ≡ written)

-- What the run of an image does to input and output, and what it answers. Arguments above 1,024 bytes start no run.
abbrev pub ImageRuns : Setup → Image → Option (List ℕ) → Option (List ℕ) → Option (List ℕ) → Option (List ℕ) → Result ℕ Refusal → Type 0
ImageRuns setup image left left' written written' (Err OutOfMemory) = Untouched left left' written written'
ImageRuns setup image left left' written written' (Err (TooLarge limit value)) =
    (1024 < arguments_size setup.args) × (limit ≡ Arguments) × (value ≡ min (arguments_size setup.args) (2 ^ 64 - 1)) × Untouched left left' written written'
ImageRuns setup image left left' written written' result =
    (arguments_size setup.args ≤ 1024)
    × ((new : RunView) × Runs setup.budget setup.guard (started image setup.args) new left left' written written' result)

-- what may be answered before there is an image
abbrev pub StopsBefore : Result ℕ Refusal → Type 0
StopsBefore (Ok status) = ⊥
StopsBefore (Err (BadImage offset)) = ⊤
StopsBefore (Err refusal) = StopsChain refusal

-- The run is that of the image that was made. Without one nothing is read or written.
abbrev pub MadeRuns : Setup → Option Image → Option (List ℕ) → Option (List ℕ) → Option (List ℕ) → Option (List ℕ) → Result ℕ Refusal → Type 0
MadeRuns setup (Some image) left left' written written' result = ImageRuns setup image left left' written written' result
MadeRuns setup None left left' written written' result = StopsBefore result × Untouched left left' written written'
