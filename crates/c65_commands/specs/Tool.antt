-- What the tool does, and what it answers, and why.
use Rattle.std.specs.Prelude.{◌≡◌, ℕ, ◌<◌, true, false, List, length, Option, None, Result, Ok, Err, ⊤}
use Rattle.c65_base.specs.declared.refusal.Refusal.{Refusal}
use Rattle.c65_base.specs.declared.refusal.Refusal.TheVariants.{OutOfMemory, Usage, Missing, ReadFault, WriteFault, Source, TooLarge, BadImage, Link, HardStack, Limit, Illegal}
use Rattle.c65_base.specs.declared.refusal.Size.TheVariants.{Arguments}
use Rattle.c65_base.specs.Limits.{limit_of}
use Rattle.c65_code.specs.declared.code.Code.{Code}
use Rattle.c65_mach.specs.declared.image.Image.{Image}
use Rattle.c65_ppfile.specs.Counts.{FaultCause, MissCause as HeaderCause}
use Rattle.c65_sim.specs.Runs.{WriteCause}
use Rattle.c65_driver_words.specs.Commands.{Spelled}
use Rattle.c65_driver_words.specs.Words.{Spelling, Is, NoCommand}
use Rattle.c65_driver_words.specs.declared.command.CommandKind.{CommandKind}
use Rattle.c65_driver_words.specs.declared.command.CommandKind.TheVariants as kinds
use Rattle.c65_driver_chain.specs.Refused.{StopsChain, UnitsLimit}
use Rattle.c65_commands.specs.Assembly.{MadeText}
use Rattle.c65_commands.specs.Causes.{ReadCauses, MissCause}
use Rattle.c65_commands.specs.Compiled.{IsRead, IsLinked, IsOfSources, ServesWith, output_of, BuildsFile}
use Rattle.c65_commands.specs.Depth.{Depths}
use Rattle.c65_commands.specs.Generated.{Generates}
use Rattle.c65_commands.specs.Outside.{FilesSide, TextSide, Outside, text_part}
use Rattle.c65_commands.specs.Setups.{setup_of, MadeRuns}
use Rattle.c65_commands.specs.Told.{ToldRun, MadeOf, first_of}

-- No other answer comes of `go`.
abbrev pub GoServes : Result ℕ Refusal → Type 0
GoServes (Ok status) = ⊤
GoServes (Err OutOfMemory) = ⊤
GoServes (Err (Missing path)) = ⊤
GoServes (Err ReadFault) = ⊤
GoServes (Err WriteFault) = ⊤
GoServes (Err (Source code file line)) = ⊤
GoServes (Err (TooLarge limit value)) = limit_of limit < value
GoServes (Err (Link kind name)) = ⊤
GoServes (Err (HardStack pc)) = ⊤
GoServes (Err (Limit count)) = ⊤
GoServes (Err (Illegal pc)) = ⊤
GoServes (Err refusal) = ⊥

-- No other answer comes of `build` and `text`.
abbrev pub BuildServes : Result ℕ Refusal → Type 0
BuildServes (Ok status) = status ≡ 0
BuildServes (Err WriteFault) = ⊤
BuildServes (Err refusal) = StopsChain refusal

-- No other answer comes of `run`.
abbrev pub RunServes : List ℕ → Result ℕ Refusal → Type 0
RunServes image (Ok status) = ⊤
RunServes image (Err OutOfMemory) = ⊤
RunServes image (Err (Missing path)) = path ≡ image
RunServes image (Err ReadFault) = ⊤
RunServes image (Err WriteFault) = ⊤
RunServes image (Err (TooLarge limit value)) = limit ≡ Arguments
RunServes image (Err (BadImage offset)) = ⊤
RunServes image (Err (Limit count)) = ⊤
RunServes image (Err (Illegal pc)) = ⊤
RunServes image (Err refusal) = ⊥

-- `go`: the image is linked from the code that was compiled, as its text reads, and the run is that of the image
pub record Goes (command : Spelled) (old new : Outside) (code : Option Code) (image : Option Image) (answer : Result ℕ Refusal) : Type 0 where
  pub served : GoServes answer
  pub units : UnitsLimit (length command.files) answer
  pub read : ReadCauses old.files.faults new.files.faults old.input_faults new.input_faults answer
  pub missing : HeaderCause command.folders old.files.misses new.files.misses answer
  pub write : WriteCause old.out_faults new.out_faults answer
  pub files : new.files.contents ≡ old.files.contents
  pub file_writes : new.files.writes ≡ old.files.writes
  pub made : MadeRuns (setup_of true command) image old.left new.left old.written new.written answer
  pub from_text : IsRead command.options.cpu code
  pub from_code : IsLinked command.options.cpu code image answer
  pub from_files : IsOfSources command old.files.contents code answer

-- `build`: the image is linked from the code that was compiled, as its text reads, and its bytes are written to one path
pub record Builds (command : Spelled) (old new : FilesSide) (code : Option Code) (image : Option Image) (answer : Result ℕ Refusal) : Type 0 where
  pub served : BuildServes answer
  pub units : UnitsLimit (length command.files) answer
  pub read : FaultCause old.faults new.faults answer
  pub missing : HeaderCause command.folders old.misses new.misses answer
  pub write : WriteCause old.writes new.writes answer
  pub with_image : ServesWith image answer
  pub contents : BuildsFile (output_of command.out) image old.contents new.contents answer
  pub from_text : IsRead command.options.cpu code
  pub from_code : IsLinked command.options.cpu code image answer
  pub from_files : IsOfSources command old.contents code answer

-- input and output are as they were
pub record BuildsAlone (command : Spelled) (old new : Outside) (code : Option Code) (image : Option Image) (answer : Result ℕ Refusal) : Type 0 where
  pub builds : Builds command old.files new.files code image answer
  pub left : new.left ≡ old.left
  pub input_faults : new.input_faults ≡ old.input_faults
  pub written : new.written ≡ old.written
  pub out_faults : new.out_faults ≡ old.out_faults

-- `text`: the image is linked from the code that was compiled, as its text reads, and this text is written
pub record Texts (command : Spelled) (old new : TextSide) (code : Option Code) (image : Option Image) (answer : Result ℕ Refusal) : Type 0 where
  pub served : BuildServes answer
  pub units : UnitsLimit (length command.files) answer
  pub read : FaultCause old.files.faults new.files.faults answer
  pub missing : HeaderCause command.folders old.files.misses new.files.misses answer
  pub with_image : ServesWith image answer
  pub text : MadeText command.known command.out code image old new answer
  pub from_text : IsRead command.options.cpu code
  pub from_code : IsLinked command.options.cpu code image answer
  pub from_files : IsOfSources command old.files.contents code answer

-- the input is as it was
pub record TextsAlone (command : Spelled) (old new : Outside) (code : Option Code) (image : Option Image) (answer : Result ℕ Refusal) : Type 0 where
  pub texts : Texts command (text_part old) (text_part new) code image answer
  pub left : new.left ≡ old.left
  pub input_faults : new.input_faults ≡ old.input_faults

-- `run`: the image is the one that the file spells, and the run is that of the image
pub record Runs (command : Spelled) (old new : Outside) (code : Option Code) (image : Option Image) (answer : Result ℕ Refusal) : Type 0 where
  pub served : RunServes (first_of command.files) answer
  pub read : ReadCauses old.files.faults new.files.faults old.input_faults new.input_faults answer
  pub missing : MissCause old.files.misses new.files.misses answer
  pub write : WriteCause old.out_faults new.out_faults answer
  pub files : new.files.contents ≡ old.files.contents
  pub file_writes : new.files.writes ≡ old.files.writes
  pub made : MadeRuns (setup_of false command) image old.left new.left old.written new.written answer
  pub told : ToldRun old.files.contents (first_of command.files) answer
  pub told_made : MadeOf old.files.contents (first_of command.files) image
  pub no_code : code ≡ None

-- `gen`: the image is linked from the code of the generated source, and the line of its run is written; files and input are as
-- they were
pub record Gens (command : Spelled) (old new : Outside) (code : Option Code) (image : Option Image) (answer : Result ℕ Refusal) : Type 0 where
  pub generates : Generates command old.written new.written old.out_faults new.out_faults code image answer
  pub files : new.files ≡ old.files
  pub left : new.left ≡ old.left
  pub input_faults : new.input_faults ≡ old.input_faults

-- `depth`: the lines of the program of files are written, and nothing is made; the input is as it was
pub record DepthsAlone (command : Spelled) (old new : Outside) (code : Option Code) (image : Option Image) (answer : Result ℕ Refusal) : Type 0 where
  pub depths : Depths command (text_part old) (text_part new) answer
  pub left : new.left ≡ old.left
  pub input_faults : new.input_faults ≡ old.input_faults
  pub no_code : code ≡ None
  pub no_image : image ≡ None

-- Usage with this word; want of memory may come in its place
abbrev pub IsUsage : ℕ → Result ℕ Refusal → Type 0
IsUsage word (Err OutOfMemory) = ⊤
IsUsage word answer = answer ≡ Err (Usage word)

-- the words are no command, and nothing happens
pub record Refuses (word : ℕ) (old new : Outside) (code : Option Code) (image : Option Image) (answer : Result ℕ Refusal) : Type 0 where
  pub usage : IsUsage word answer
  pub still : new ≡ old
  pub no_code : code ≡ None
  pub no_image : image ≡ None

-- the command of each word
abbrev pub Serves : CommandKind → Spelled → Outside → Outside → Option Code → Option Image → Result ℕ Refusal → Type 0
Serves kinds.Go command old new code image answer = Goes command old new code image answer
Serves kinds.Build command old new code image answer = BuildsAlone command old new code image answer
Serves kinds.Run command old new code image answer = Runs command old new code image answer
Serves kinds.Text command old new code image answer = TextsAlone command old new code image answer
Serves kinds.Gen command old new code image answer = Gens command old new code image answer
Serves kinds.Depth command old new code image answer = DepthsAlone command old new code image answer

abbrev pub Performs : Spelling → Outside → Outside → Option Code → Option Image → Result ℕ Refusal → Type 0
Performs (Is command) old new code image answer = Serves command.kind command old new code image answer
Performs (NoCommand word) old new code image answer = Refuses word old new code image answer
