-- What the command `text` writes.
use Rattle.std.specs.Prelude.{◌≡◌, ℕ, Bool, true, false, List, take, Option, Some, None, Result, Ok, Err}
use Rattle.c65_base.specs.declared.refusal.Refusal.{Refusal}
use Rattle.c65_base.specs.declared.refusal.Refusal.TheVariants.{WriteFault}
use Rattle.c65_code.specs.declared.code.Code.{Code}
use Rattle.c65_asm.specs.Known.{known_text_of}
use Rattle.c65_asm.specs.Text.{text_of}
use Rattle.c65_io.specs.Told.{append_told}
use Rattle.c65_mach.specs.declared.image.Image.{Image}
use Rattle.c65_sim.specs.Runs.{WriteCause}
use Rattle.c65_commands.specs.Compiled.{WritesBytes, WriteServes}
use Rattle.c65_commands.specs.Outside.{TextSide}

-- the assembly text of a code, where it is asked for with what is known before its instructions
abbrev pub printed : Bool → Code → List ℕ
printed false code = text_of code
printed true code = known_text_of code

-- this is the assembly text of the code that was made
abbrev pub IsTextOf : Bool → Option Code → List ℕ → Type 0
IsTextOf known None text = ⊥
IsTextOf known (Some code) text = text ≡ printed known code

-- the output gained the bytes, or some of them from the front where a write failed, and nothing elsewhere
abbrev pub AppendsBytes : List ℕ → Option (List ℕ) → Option (List ℕ) → Result ℕ Refusal → Type 0
AppendsBytes bytes old new (Ok status) = new ≡ append_told old bytes
AppendsBytes bytes old new (Err WriteFault) = (count : ℕ) × (new ≡ append_told old (take count bytes))
AppendsBytes bytes old new (Err refusal) = new ≡ old

-- the path alone is written, and its count alone rises with a fault
pub record ToPath (path bytes : List ℕ) (old new : TextSide) (answer : Result ℕ Refusal) : Type 0 where
  pub contents : WritesBytes path bytes old.files.contents new.files.contents answer
  pub cause : WriteCause old.files.writes new.files.writes answer
  pub written : new.written ≡ old.written
  pub out_faults : new.out_faults ≡ old.out_faults

-- the output alone is written
pub record ToOutput (bytes : List ℕ) (old new : TextSide) (answer : Result ℕ Refusal) : Type 0 where
  pub contents : new.files.contents ≡ old.files.contents
  pub writes : new.files.writes ≡ old.files.writes
  pub written : AppendsBytes bytes old.written new.written answer
  pub cause : WriteCause old.out_faults new.out_faults answer

-- the path of `-o`, or the output
abbrev pub TextTo : Option (List ℕ) → List ℕ → TextSide → TextSide → Result ℕ Refusal → Type 0
TextTo None bytes old new answer = ToOutput bytes old new answer
TextTo (Some path) bytes old new answer = ToPath path bytes old new answer

pub record WritesText (out : Option (List ℕ)) (bytes : List ℕ) (old new : TextSide) (answer : Result ℕ Refusal) : Type 0 where
  pub served : WriteServes answer
  pub to : TextTo out bytes old new answer
  pub faults : new.files.faults ≡ old.files.faults
  pub misses : new.files.misses ≡ old.files.misses

-- nothing was written
pub record Unwritten (old new : TextSide) : Type 0 where
  pub contents : new.files.contents ≡ old.files.contents
  pub writes : new.files.writes ≡ old.files.writes
  pub written : new.written ≡ old.written
  pub out_faults : new.out_faults ≡ old.out_faults

-- the text of the code that was made; without an image nothing was written
abbrev pub MadeText : Bool → Option (List ℕ) → Option Code → Option Image → TextSide → TextSide → Result ℕ Refusal → Type 0
MadeText known out (Some code) (Some image) old new answer = TextTo out (printed known code) old new answer
MadeText known out code image old new answer = Unwritten old new
