-- What compiling and linking a command's files gives, and what writing the image does.
use Rattle.std.specs.Prelude.{◌≡◌, ◌⊎◌, ℕ, List, length, codes, Option, Some, None, Result, Ok, Err, IfErr, ⊤}
use Rattle.c65_base.specs.declared.options.Cpu.{Cpu}
use Rattle.c65_base.specs.declared.options.Options.{Options}
use Rattle.c65_base.specs.declared.refusal.Refusal.{Refusal}
use Rattle.c65_base.specs.declared.refusal.Refusal.TheVariants.{OutOfMemory, WriteFault}
use Rattle.c65_asm.specs.Text.{text_of}
use Rattle.c65_asm.specs.Read.{read_text}
use Rattle.c65_asm.specs.declared.reading.Answer.TheVariants as answers
use Rattle.c65_asm.specs.Renumbered.{IsOfTypes}
use Rattle.c65_code.specs.declared.code.Code.{Code}
use Rattle.c65_code.specs.Processors.{RunsOn}
use Rattle.c65_code.specs.Writable.{IsWritable}
use Rattle.c65_io.specs.Contents.{Contents, WritesFile}
use Rattle.c65_mach.specs.declared.image.Image.{Image}
use Rattle.c65_mach.specs.Images.{bytes_of}
use Rattle.c65_link.specs.Linked.{linked, linked_for, Fails}
use Rattle.c65_ppfile.specs.Counts.{FaultCause, MissCause}
use Rattle.c65_ppline.specs.Relations.{Answers, IsFree}
use Rattle.c65_ppdir.specs.Units.{Held}
use Rattle.c65_optimise.specs.Optimised.{OptimisedBy}
use Rattle.c65_sim.specs.Runs.{WriteCause}
use Rattle.c65_driver_chain.specs.Front.{command, compiled}
use Rattle.c65_driver_chain.specs.Refused.{StopsChain, UnitsLimit}
use Rattle.c65_driver_words.specs.Commands.{Spelled}
use Rattle.c65_commands.specs.Outside.{FilesSide}

-- the image is the linker's of the code for a processor, or the linker refused the code, or there is no code
abbrev pub LinkedBy : Cpu → Option Code → Result Image Refusal → Type 0
LinkedBy cpu None (Ok image) = ⊥
LinkedBy cpu None (Err refusal) = ⊤
LinkedBy cpu (Some code) (Ok image) = linked_for cpu code ≡ Ok image
LinkedBy cpu (Some code) (Err refusal) = Fails refusal (linked code)

-- the same of what was made and of the command's answer
abbrev pub IsLinked : Cpu → Option Code → Option Image → Result ℕ Refusal → Type 0
IsLinked cpu None None (Ok status) = ⊥
IsLinked cpu None None (Err refusal) = ⊤
IsLinked cpu None (Some image) answer = ⊥
IsLinked cpu (Some code) (Some image) answer = linked_for cpu code ≡ Ok image
IsLinked cpu (Some code) None (Ok status) = ⊥
IsLinked cpu (Some code) None (Err refusal) = Fails refusal (linked code)

-- the assembly text reads as this code
abbrev pub ReadsAs : List ℕ → Code → Type 0
ReadsAs text code = read_text text ≡ answers.Code code

-- a code that can be written, whose numbers are of their types and whose rows the processor has, is printed, and its text reads as
-- this code
pub record IsPrintedAs (cpu : Cpu) (written code : Code) : Type 0 where
  pub writable : IsWritable written
  pub typed : IsOfTypes written
  pub runs : RunsOn cpu written
  pub reads : ReadsAs (text_of written) code

-- the code is what its own assembly text reads as, and some code was printed that reads as it
abbrev pub IsRead : Cpu → Option Code → Type 0
IsRead cpu None = ⊤
IsRead cpu (Some code) = ReadsAs (text_of code) code × ((written : Code) × IsPrintedAs cpu written code)

-- the image of files: the files are as they were, and the counts rise with their cause alone
pub record Compiles (cpu : Cpu) (folders files : List (List ℕ)) (old new : FilesSide) (code : Option Code) (answer : Result Image Refusal) : Type 0 where
  pub same : new.contents ≡ old.contents
  pub written : new.writes ≡ old.writes
  pub read : FaultCause old.faults new.faults answer
  pub missing : MissCause folders old.misses new.misses answer
  pub refused : IfErr answer StopsChain
  pub units : UnitsLimit (length files) answer
  pub from_text : IsRead cpu code
  pub from_code : LinkedBy cpu code answer

-- the code of a command's files, where it is told what each path holds, or their first refusal
abbrev pub front : Held → Spelled → Answers Code
front held c = compiled (command held c.options c.defines c.folders) c.files

-- a code is what the assembly text of the front's code reads as, which is rewritten first where that is asked for; without one the
-- refusal is the front's
abbrev pub IsOfFront : {T : Type 0} → Options → Answers Code → Option Code → Result T Refusal → Type 0
IsOfFront options P None (Ok x) = ⊥
IsOfFront options P None (Err e) = IsFree e ⊎ P (Err e)
IsOfFront options P (Some code) answer = (compiled : Code) × (new : Code) × P (Ok compiled) × OptimisedBy options compiled new × IsPrintedAs options.cpu new code

-- of files that tell nothing, nothing is said
abbrev pub IsOfSources : {T : Type 0} → Spelled → Contents → Option Code → Result T Refusal → Type 0
IsOfSources {T} c contents code answer = (held : Held) → contents ≡ Some held → IsOfFront {T = T} c.options (front held c) code answer

-- the path of `-o`, or `a.out`
abbrev pub output_of : Option (List ℕ) → List ℕ
output_of None = codes "a.out"
output_of (Some path) = path

abbrev pub wrote : Result Unit Unit
wrote = Ok tt

abbrev pub wrote_not : Result Unit Unit
wrote_not = Err tt

-- the path holds the bytes, or is open where the write failed, and the other paths are as they were; nothing was written elsewhere
abbrev pub WritesBytes : List ℕ → List ℕ → Contents → Contents → Result ℕ Refusal → Type 0
WritesBytes path bytes old new (Ok status) = WritesFile old new path bytes wrote
WritesBytes path bytes old new (Err WriteFault) = WritesFile old new path bytes wrote_not
WritesBytes path bytes old new (Err refusal) = new ≡ old

abbrev pub WriteServes : Result ℕ Refusal → Type 0
WriteServes (Ok status) = status ≡ 0
WriteServes (Err OutOfMemory) = ⊤
WriteServes (Err WriteFault) = ⊤
WriteServes (Err refusal) = ⊥

-- with an image, writing it is all that may still fail
abbrev pub ServesWith : Option Image → Result ℕ Refusal → Type 0
ServesWith None answer = ⊤
ServesWith (Some image) answer = WriteServes answer

pub record WritesImage (path bytes : List ℕ) (old new : FilesSide) (answer : Result ℕ Refusal) : Type 0 where
  pub served : WriteServes answer
  pub contents : WritesBytes path bytes old.contents new.contents answer
  pub cause : WriteCause old.writes new.writes answer
  pub faults : new.faults ≡ old.faults
  pub misses : new.misses ≡ old.misses

-- without an image no path was written
abbrev pub BuildsFile : List ℕ → Option Image → Contents → Contents → Result ℕ Refusal → Type 0
BuildsFile path (Some image) old new answer = WritesBytes path (bytes_of image) old new answer
BuildsFile path None old new answer = new ≡ old
