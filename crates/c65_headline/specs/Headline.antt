-- The main theorem as a clause of the tool: what it does and answers where told files are a well formed program.
use Rattle.std.specs.Prelude.{◌≡◌, ◌≢◌, ◌⊎◌, ℕ, ◌+◌, ◌*◌, ◌≤◌, ◌<◌, true, List, Option, Some, None, Result, Ok, Err, ⊤}
use Rattle.c65_genframe.specs.declared.modes.Modes.{Modes}
use Rattle.c65_genframe.specs.Modes.{modes_of}
use Rattle.c65_base.specs.declared.refusal.Refusal.{Refusal}
use Rattle.c65_base.specs.declared.refusal.Refusal.TheVariants as refusals
use Rattle.c65_base.specs.declared.refusal.Size.TheVariants as sizes
use Rattle.c65_io.specs.Causes.{Rose}
use Rattle.c65_io.specs.Told.{append_told}
use Rattle.c65_mach.specs.declared.image.Image.{Image}
use Rattle.c65_code.specs.declared.code.Code.{Code}
use Rattle.c65_link.specs.Linked.{linked, large}
use Rattle.c65_sim.specs.declared.run.Budget.{Budget}
use Rattle.c65_sim.specs.declared.run.Budget.TheVariants.{Instructions, Cycles}
use Rattle.c65_sim.specs.View.{arguments_size}
use Rattle.c65_ppdir.specs.Units.{Held}
use Rattle.c65_driver_words.specs.Commands.{Spelled}
use Rattle.c65_driver_words.specs.Words.{Spelling, Is, NoCommand}
use Rattle.c65_driver_words.specs.declared.command.CommandKind.{CommandKind}
use Rattle.c65_driver_words.specs.declared.command.CommandKind.TheVariants as kinds
use Rattle.c65_meaning.specs.Program.{ProgramTy}
use Rattle.c65_meaning.specs.Sem.{Ends, IsDefined, sem}
use Rattle.c65_commands.specs.Outside.{Outside}
use Rattle.c65_commands.specs.Setups.{Setup, setup_of}
use Rattle.c65_headline.specs.Images.{AreBytes, ImageAgrees}
use Rattle.c65_headline.specs.Fronts.{IsFront, HasLargeFrame, IsMadeOf}

-- ---- it builds

-- why there is no image: a limit is exceeded, or memory ran out, or a file could not be read
abbrev pub Hinders : ProgramTy → Modes → Option Code → Outside → Outside → Refusal → Type 0
Hinders p modes code old new refusals.OutOfMemory = ⊤
Hinders p modes code old new refusals.ReadFault = Rose old.files.faults new.files.faults ⊎ Rose old.input_faults new.input_faults
Hinders p modes code old new (refusals.TooLarge sizes.Frame value) = HasLargeFrame p modes value
Hinders p modes code old new (refusals.TooLarge sizes.Image value) = (c : Code) × (code ≡ Some c) × (linked c ≡ Err (large value))
Hinders p modes code old new _ = ⊥

abbrev pub IsHindered : ProgramTy → Modes → Option Code → Outside → Outside → Result ℕ Refusal → Type 0
IsHindered p modes code old new (Ok status) = ⊥
IsHindered p modes code old new (Err e) = Hinders p modes code old new e

-- `build` and `text` with an image answer 0, unless a write failed or memory ran out
abbrev pub IsWritten : Outside → Outside → Result ℕ Refusal → Type 0
IsWritten old new (Ok status) = status ≡ 0
IsWritten old new (Err refusals.OutOfMemory) = ⊤
IsWritten old new (Err refusals.WriteFault) = Rose old.files.writes new.files.writes ⊎ Rose old.out_faults new.out_faults
IsWritten old new (Err e) = ⊥

-- ---- it runs

-- so many rows or cycles are enough for n steps: a row takes at most 7 cycles
abbrev pub IsEnough : Budget → ℕ → Type 0
IsEnough (Instructions rows) n = 4096 * (n + 1) ≤ rows
IsEnough (Cycles cycles) n = 28672 * (n + 1) ≤ cycles

-- why the run of an image was not begun, or was cut off from outside
abbrev pub IsExcused : List (List ℕ) → Outside → Outside → Result ℕ Refusal → Type 0
IsExcused args old new (Err refusals.OutOfMemory) = ⊤
IsExcused args old new (Err refusals.ReadFault) = Rose old.files.faults new.files.faults ⊎ Rose old.input_faults new.input_faults
IsExcused args old new (Err refusals.WriteFault) = Rose old.out_faults new.out_faults
IsExcused args old new (Err (refusals.TooLarge sizes.Arguments value)) = 1024 < arguments_size args
IsExcused args old new _ = ⊥

-- the meaning is defined through every number of steps
abbrev pub IsAlwaysDefined : ProgramTy → List (List ℕ) → List ℕ → Type 0
IsAlwaysDefined p args input = (n : ℕ) → IsDefined (sem p args input n)

pub record RunsWell (p : ProgramTy) (setup : Setup) (input : List ℕ) (old new : Outside) (answer : Result ℕ Refusal) : Type 0 where
  -- where the meaning ends within the budget: with its status, and with its output and no more
  pub ends : (n : ℕ) (out : List ℕ) (status turns : ℕ) → sem p setup.args input n ≡ Ends out status turns → IsEnough setup.budget n
      → ((answer ≡ Ok status) × (new.written ≡ append_told old.written out)) ⊎ IsExcused setup.args old new answer
  pub never_deep : IsAlwaysDefined p setup.args input → (pc : ℕ) → answer ≢ Err (refusals.HardStack pc)
  pub never_illegal : IsAlwaysDefined p setup.args input → (pc : ℕ) → answer ≢ Err (refusals.Illegal pc)

-- ---- the clause

pub record Means (command : Spelled) (p : ProgramTy) (old new : Outside) (code : Option Code) (image : Option Image) (answer : Result ℕ Refusal) : Type 0 where
  pub builds : image ≡ None → IsHindered p (modes_of command.options) code old new answer
  pub agrees : (i : Image) → image ≡ Some i → (c : Code) × (code ≡ Some c) × ImageAgrees c p i

pub record Goes (command : Spelled) (p : ProgramTy) (old new : Outside) (code : Option Code) (image : Option Image) (answer : Result ℕ Refusal) : Type 0 where
  pub means : Means command p old new code image answer
  pub runs : (i : Image) (input : List ℕ) → image ≡ Some i → old.left ≡ Some input → AreBytes input → RunsWell p (setup_of true command) input old new answer

pub record Writes (command : Spelled) (p : ProgramTy) (old new : Outside) (code : Option Code) (image : Option Image) (answer : Result ℕ Refusal) : Type 0 where
  pub means : Means command p old new code image answer
  pub written : (i : Image) → image ≡ Some i → IsWritten old new answer

abbrev pub Performs : CommandKind → Spelled → ProgramTy → Outside → Outside → Option Code → Option Image → Result ℕ Refusal → Type 0
Performs kinds.Go command p old new code image answer = Goes command p old new code image answer
Performs kinds.Build command p old new code image answer = Writes command p old new code image answer
Performs kinds.Text command p old new code image answer = Writes command p old new code image answer
Performs kinds.Run command p old new code image answer = ⊤
Performs kinds.Gen command p old new code image answer = ⊤
Performs kinds.Depth command p old new code image answer = ⊤

abbrev pub Headline : Spelling → Outside → Outside → Option Code → Option Image → Result ℕ Refusal → Type 0
Headline (NoCommand word) old new code image answer = ⊤
Headline (Is command) old new code image answer = (held : Held) (p : ProgramTy) → old.files.contents ≡ Some held → IsFront held command p
    → Performs command.kind command p old new code image answer

-- ---- how the code was made

-- of told files, the code that was made is that of the front's program; `gen` reads no files
abbrev pub IsMadeBy : CommandKind → Spelled → Outside → Option Code → Type 0
IsMadeBy kinds.Gen command old code = ⊤
IsMadeBy kind command old code = (held : Held) (c : Code) → old.files.contents ≡ Some held → code ≡ Some c → IsMadeOf held command c

abbrev pub IsMade : Spelling → Outside → Option Code → Type 0
IsMade (NoCommand word) old code = ⊤
IsMade (Is command) old code = IsMadeBy command.kind command old code
