-- The generated program: its files, its command, its image, its run and the line that says so.
use Rattle.std.specs.Prelude.{◌≡◌, ℕ, ◌^◌, ◌-◌, true, false, List, [], ◌∷◌, ◌++◌, length, take, codes, decimal, bytes_eq, if◌then◌else◌, Option, Some, None, Result, Ok, Err, IfErr, ⊤}
use Rattle.c65_base.specs.declared.refusal.Refusal.{Refusal}
use Rattle.c65_base.specs.declared.refusal.Refusal.TheVariants as refusals
use Rattle.c65_biggen.specs.Generated.{generated_source}
use Rattle.c65_code.specs.declared.code.Code.{Code}
use Rattle.c65_io.specs.Told.{append_told}
use Rattle.c65_mach.specs.declared.image.Image.{Image}
use Rattle.c65_mach.specs.Images.{bytes_of}
use Rattle.c65_ppdir.specs.Units.{Held}
use Rattle.c65_sim.specs.declared.run.Budget.TheVariants.{Instructions}
use Rattle.c65_sim.specs.View.{RunView, started}
use Rattle.c65_sim.specs.Runs.{Runs, WriteCause}
use Rattle.c65_driver_chain.specs.Refused.{StopsLater}
use Rattle.c65_driver_words.specs.Commands.{Spelled}
use Rattle.c65_commands.specs.Compiled.{IsRead, LinkedBy, IsLinked, IsOfSources}

-- ---- its compilation

abbrev pub source_path : List ℕ
source_path = codes "gen.c"

-- these bytes are the only file
abbrev pub source_alone : List ℕ → Held
source_alone source path = if bytes_eq source_path path then Some source else None

-- the command that compiles it: with the options of `gen`, and without definitions and folders
abbrev pub source_command : Spelled → Spelled
source_command command = record { kind = command.kind; options = command.options; defines = []; folders = []; files = source_path ∷ []; args = []; out = None; cycles = None; known = false; number = command.number }

-- a code is that of the source
abbrev pub IsOfSource : {T : Type 0} → Spelled → List ℕ → Option Code → Result T Refusal → Type 0
IsOfSource {T} command source code answer = IsOfSources {T = T} (source_command command) (Some (source_alone source)) code answer

-- the image of a source
pub record CompilesSource (command : Spelled) (source : List ℕ) (code : Option Code) (answer : Result Image Refusal) : Type 0 where
  pub refused : IfErr answer StopsLater
  pub from_text : IsRead command.options.cpu code
  pub from_code : LinkedBy command.options.cpu code answer
  pub from_source : IsOfSource command source code answer

-- a refusal of files and devices in memory, which have no fault but want of memory
abbrev pub in_memory : Refusal → Refusal
in_memory (refusals.Missing path) = refusals.OutOfMemory
in_memory refusals.ReadFault = refusals.OutOfMemory
in_memory refusals.WriteFault = refusals.OutOfMemory
in_memory refusal = refusal

-- ---- its run

-- a run without arguments and input, with the guard of the hardware stack, ends so after so many rows
pub record RunsAlone (image : Image) (rows : ℕ) (answer : Result ℕ Refusal) : Type 0 where
  pub new : RunView
  pub left : Option (List ℕ)
  pub written : Option (List ℕ)
  pub runs : Runs (Instructions (2 ^ 64 - 1)) true (started image []) new (Some []) left (Some []) written answer
  pub count : new.count ≡ rows

-- why such a run gives no status
abbrev pub StopsAlone : Image → Refusal → Type 0
StopsAlone image refusals.OutOfMemory = ⊤
StopsAlone image (refusals.HardStack pc) = (rows : ℕ) × RunsAlone image rows (Err (refusals.HardStack pc))
StopsAlone image (refusals.Limit count) = (rows : ℕ) × RunsAlone image rows (Err (refusals.Limit count))
StopsAlone image (refusals.Illegal pc) = (rows : ℕ) × RunsAlone image rows (Err (refusals.Illegal pc))
StopsAlone image refusal = ⊥

-- ---- its line

abbrev pub sizes_text : ℕ → ℕ → ℕ → List ℕ
sizes_text number source image = codes "functions " ++ (decimal number ++ (codes " source " ++ (decimal source ++ (codes " image " ++ decimal image))))

abbrev pub run_text : ℕ → ℕ → List ℕ
run_text rows status = codes " instructions " ++ (decimal rows ++ (codes " status " ++ (decimal status ++ codes "\n")))

-- so many functions, the bytes of the source and of the image's file, the rows of the run and its status
abbrev pub gen_line : ℕ → ℕ → ℕ → ℕ → ℕ → List ℕ
gen_line number source image rows status = sizes_text number source image ++ run_text rows status

-- this line is that of the run of an image, which ended
pub record TellsRun (number : ℕ) (image : Image) (line : List ℕ) : Type 0 where
  pub rows : ℕ
  pub status : ℕ
  pub run : RunsAlone image rows (Ok status)
  pub text : line ≡ gen_line number (length (generated_source number)) (length (bytes_of image)) rows status

-- what the output gained: the line, or a part of it from the front where writing failed, and nothing elsewhere
abbrev pub WritesLine : ℕ → Image → Option (List ℕ) → Option (List ℕ) → Result ℕ Refusal → Type 0
WritesLine number image old new (Ok status) = (status ≡ 0) × ((line : List ℕ) × TellsRun number image line × (new ≡ append_told old line))
WritesLine number image old new (Err refusals.WriteFault) = (line : List ℕ) × TellsRun number image line × ((count : ℕ) × (new ≡ append_told old (take count line)))
WritesLine number image old new (Err refusal) = StopsAlone image refusal × (new ≡ old)

-- without an image nothing was written
abbrev pub MadeLine : ℕ → Option Image → Option (List ℕ) → Option (List ℕ) → Result ℕ Refusal → Type 0
MadeLine number (Some image) old new answer = WritesLine number image old new answer
MadeLine number None old new (Ok status) = ⊥
MadeLine number None old new (Err refusal) = StopsLater refusal × (new ≡ old)

-- ---- all of it

pub record Generates (command : Spelled) (old new : Option (List ℕ)) (faults faults' : ℕ) (code : Option Code) (image : Option Image) (answer : Result ℕ Refusal) : Type 0 where
  pub write : WriteCause faults faults' answer
  pub line : MadeLine command.number image old new answer
  pub from_text : IsRead command.options.cpu code
  pub from_code : IsLinked command.options.cpu code image answer
  pub from_source : IsOfSource command (generated_source command.number) code answer
