-- The command `depth`: the program of its files, and the lines that say what its functions take of the two stacks.
use Rattle.std.specs.Prelude.{◌≡◌, ◌⊎◌, ℕ, ◌^◌, ◌-◌, ◌<◌, ◌≤◌, Bool, true, false, min, List, [], ◌++◌, length, take, map, codes, decimal, slice_get, unwrap_or, Option, Some, None, Result, Ok, Err}
use Rattle.c65_base.specs.Lines.{joined}
use Rattle.c65_base.specs.declared.refusal.Refusal.{Refusal}
use Rattle.c65_base.specs.declared.refusal.Refusal.TheVariants as refusals
use Rattle.c65_base.specs.declared.refusal.Size.TheVariants as sizes
use Rattle.c65_csem.specs.Trees.{FuncTy, UnitTy}
use Rattle.c65_csem.specs.Views.{unit_of}
use Rattle.c65_depth.specs.declared.program.CertRow.{CertRow}
use Rattle.c65_depth.specs.Checks.{is_checked}
use Rattle.c65_depth.specs.Numbers.{unbounded_of, certificate_of}
use Rattle.c65_io.specs.Contents.{Contents}
use Rattle.c65_io.specs.Told.{append_told}
use Rattle.c65_ppfile.specs.Counts.{FaultCause, MissCause}
use Rattle.c65_ppline.specs.Relations.{Answers, IsFree}
use Rattle.c65_ppdir.specs.Units.{Held}
use Rattle.c65_sim.specs.View.{arguments_size}
use Rattle.c65_sim.specs.Runs.{WriteCause}
use Rattle.c65_driver_chain.specs.declared.chain.Joined.{Joined}
use Rattle.c65_driver_chain.specs.Front.{command, programs, IsGood}
use Rattle.c65_driver_chain.specs.Refused.{StopsChain, UnitsLimit}
use Rattle.c65_driver_words.specs.Commands.{Spelled}
use Rattle.c65_commands.specs.Outside.{FilesSide, TextSide}

-- ---- the program

-- the program of a command's files, where it is told what each path holds, or their first refusal
abbrev pub front : Held → Spelled → Answers ((UnitTy × ℕ) × List (List ℕ))
front held c = programs (command held c.options c.defines c.folders) c.files

-- these are the parts of the program, its main function and the spellings of its names; of told files it is that of the front
pub record IsOfFiles (c : Spelled) (contents : Contents) (names : List (List ℕ)) (unit : UnitTy) (main : ℕ) : Type 0 where
  pub gives : (held : Held) → contents ≡ Some held → front held c (Ok ((unit, main), names))
  pub good : IsGood names unit main

-- the files are no program; of told files the refusal is that of the front
pub record StopsFiles (c : Spelled) (contents : Contents) (refusal : Refusal) : Type 0 where
  pub refused : StopsChain refusal
  pub gives : (held : Held) → contents ≡ Some held → IsFree refusal ⊎ front held c (Err refusal)

abbrev pub IsProgram : Spelled → Contents → Result Joined Refusal → Type 0
IsProgram c contents (Ok x) = IsOfFiles c contents x.names (unit_of x.program.0) x.program.1
IsProgram c contents (Err refusal) = StopsFiles c contents refusal

-- the files are as they were, and the counts rise with their cause alone
pub record Joins (c : Spelled) (old new : FilesSide) (answer : Result Joined Refusal) : Type 0 where
  pub same : new.contents ≡ old.contents
  pub written : new.writes ≡ old.writes
  pub read : FaultCause old.faults new.faults answer
  pub missing : MissCause c.folders old.misses new.misses answer
  pub units : UnitsLimit (length c.files) answer
  pub program : IsProgram c old.contents answer

-- ---- its arguments

-- argument 0 is the name of the first file
abbrev pub arguments_of : Spelled → List (List ℕ)
arguments_of c = take 1 c.files ++ c.args

-- the bytes that they take on the software stack
abbrev pub size_of : Spelled → ℕ
size_of c = arguments_size (arguments_of c)

-- up to the greatest u64
abbrev pub size_told : Spelled → ℕ
size_told c = min (size_of c) (2 ^ 64 - 1)

-- ---- its lines

-- the two numbers of a function
abbrev pub numbers_text : ℕ → ℕ → List ℕ
numbers_text soft hard = codes " " ++ (decimal soft ++ (codes " " ++ (decimal hard ++ codes "\n")))

abbrev pub verdict_line : Bool → List ℕ
verdict_line true = codes "fits\n"
verdict_line false = codes "does not fit\n"

abbrev pub verdict_status : Bool → ℕ
verdict_status true = 0
verdict_status false = 1

module _ (names : List (List ℕ)) (unit : UnitTy) where
  abbrev pub name_of : Option FuncTy → List ℕ
  name_of None = []
  name_of (Some f) = unwrap_or (slice_get names f.name.0) []

  -- the name of a function
  abbrev pub name_at : ℕ → List ℕ
  name_at f = name_of (slice_get unit.funcs f)

  abbrev pub row_line : CertRow → List ℕ
  row_line row = name_at row.func ++ numbers_text row.soft row.hard

  abbrev pub row_lines : List CertRow → List ℕ
  row_lines rows = joined (map row_line rows)

  -- a function without a bound; there is one where there is no certificate
  abbrev pub unbounded_line : Option ℕ → List ℕ
  unbounded_line None = []
  unbounded_line (Some f) = codes "no bound " ++ (name_at f ++ codes "\n")

  module _ (main args : ℕ) where
    -- the rows of the certificate and whether the program fits, or the first function without a bound
    abbrev pub text_by : Option (List CertRow) → List ℕ
    text_by None = unbounded_line (unbounded_of unit main)
    text_by (Some rows) = row_lines rows ++ verdict_line (is_checked unit main rows args)

    -- 0 where it fits
    abbrev pub status_by : Option (List CertRow) → ℕ
    status_by None = 1
    status_by (Some rows) = verdict_status (is_checked unit main rows args)

    abbrev pub IsReport : Option (List CertRow) → List ℕ → ℕ → Type 0
    IsReport cert text status = (text ≡ text_by cert) × (status ≡ status_by cert)

-- ---- what the command does

-- the output gained the text, or a part of it from the front where writing failed, and nothing elsewhere
abbrev pub Writes : List ℕ → ℕ → Option (List ℕ) → Option (List ℕ) → Result ℕ Refusal → Type 0
Writes text wanted old new (Ok status) = (status ≡ wanted) × (new ≡ append_told old text)
Writes text wanted old new (Err refusals.OutOfMemory) = new ≡ old
Writes text wanted old new (Err refusals.WriteFault) = (count : ℕ) × (new ≡ append_told old (take count text))
Writes text wanted old new (Err refusal) = ⊥

-- this is the text of the program's least numbers, with its status
pub record IsMeasured (c : Spelled) (contents : Contents) (text : List ℕ) (status : ℕ) : Type 0 where
  pub names : List (List ℕ)
  pub unit : UnitTy
  pub main : ℕ
  pub of_files : IsOfFiles c contents names unit main
  pub few : size_of c ≤ 1024
  pub report : IsReport names unit main (size_of c) (certificate_of unit main) text status

-- the files are a program, and its arguments take too many bytes
pub record HasLongArguments (c : Spelled) (contents : Contents) (value : ℕ) : Type 0 where
  pub names : List (List ℕ)
  pub unit : UnitTy
  pub main : ℕ
  pub of_files : IsOfFiles c contents names unit main
  pub many : 1024 < size_of c
  pub told : value ≡ size_told c

-- what the output gained, and why it gained no more
abbrev pub Tells : Spelled → Contents → Option (List ℕ) → Option (List ℕ) → Result ℕ Refusal → Type 0
Tells c contents old new (Ok status) = (text : List ℕ) × IsMeasured c contents text status × (new ≡ append_told old text)
Tells c contents old new (Err refusals.WriteFault) = (text : List ℕ) × (status : ℕ) × IsMeasured c contents text status × ((count : ℕ) × (new ≡ append_told old (take count text)))
Tells c contents old new (Err (refusals.TooLarge sizes.Arguments value)) = HasLongArguments c contents value × (new ≡ old)
Tells c contents old new (Err refusal) = StopsFiles c contents refusal × (new ≡ old)

pub record Depths (c : Spelled) (old new : TextSide) (answer : Result ℕ Refusal) : Type 0 where
  pub units : UnitsLimit (length c.files) answer
  pub read : FaultCause old.files.faults new.files.faults answer
  pub missing : MissCause c.folders old.files.misses new.files.misses answer
  pub write : WriteCause old.out_faults new.out_faults answer
  pub contents : new.files.contents ≡ old.files.contents
  pub file_writes : new.files.writes ≡ old.files.writes
  pub lines : Tells c old.files.contents old.written new.written answer
