-- What told files are together: the code of their program, or the first refusal in the order of the stages
-- (C90 5.1.1.2, phases 1 to 8).
use Rattle.std.specs.Prelude.{◌≡◌, ◌⊎◌, ℕ, List, [], ◌∷◌, ◌++◌, length, nat_lt, codes, Result, Ok, Err}
use Rattle.c65_base.specs.Limits.{limit_of}
use Rattle.c65_base.specs.declared.names.Name.{Name}
use Rattle.c65_base.specs.declared.options.Options.{Options}
use Rattle.c65_base.specs.declared.refusal.Refusal.{Refusal}
use Rattle.c65_base.specs.declared.refusal.Refusal.TheVariants as refusals
use Rattle.c65_base.specs.declared.refusal.Size.TheVariants as sizes
use Rattle.c65_base.specs.Answers.{Fault, at, large, ◌>>=◌}
use Rattle.c65_lex.specs.declared.token.PpToken.{PpToken}
use Rattle.c65_lex.specs.declared.define.Define.{Define}
use Rattle.c65_ppfile.specs.Finding.{path_at}
use Rattle.c65_ppline.specs.Relations.{Answers, just, of, by_test, ◌then◌}
use Rattle.c65_ppdir.specs.Units.{Held, preprocessed}
use Rattle.c65_scan.specs.Tokens.{tokens_of}
use Rattle.c65_decl.specs.Units.{unit_read}
use Rattle.c65_csem.specs.declared.items.Parts.{Parts}
use Rattle.c65_csem.specs.Trees.{UnitTy}
use Rattle.c65_csem.specs.Units.{IsProgram}
use Rattle.c65_csem.specs.Views.{unit_of}
use Rattle.c65_init.specs.Units.{unit_in}
use Rattle.c65_init_join.specs.Answers.{JoinFault}
use Rattle.c65_init_join.specs.Joined.{joined}
use Rattle.c65_csem_names.specs.Programs.{IsScopedProgram}
use Rattle.c65_csem_plain.specs.Plain.{IsPlain}
use Rattle.c65_code.specs.declared.code.Code.{Code}
use Rattle.c65_genframe.specs.Modes.{modes_of}
use Rattle.c65_genstmt.specs.Programs.{program_of}

-- ---- one file

-- the spelling that stands for the further arguments of a function, and its name: it is known before all files
abbrev pub rest_spelling : List ℕ
rest_spelling = codes "__va_rest"

abbrev pub rest_name : Name
rest_name = record { 0 = 0 }

-- the typed parts of a unit's tokens, whose spellings are in this table, and in which a name stands for further arguments
abbrev pub typed : List (List ℕ) → Options → Name → List PpToken → Result UnitTy Fault
typed names o rest ts = do
  tokens ← tokens_of names ts
  tree ← unit_read (limit_of sizes.Depth) tokens
  unit_in tree o rest

-- a fault has the path of its file in the place of the number
abbrev pub in_file : {A : Type 0} → List (List ℕ) → Result A Fault → Answers A
in_file paths (Ok x) = just (Ok x)
in_file paths (Err (at code p)) = just (Err (refusals.Source code (path_at paths p.file) p.line))
in_file paths (Err (large limit value)) = just (Err (refusals.TooLarge limit value))

-- what stays the same for all files: what each path holds, the options, the definitions, and the folders of headers
pub record Command : Type 0 where
  pub held : Held
  pub options : Options
  pub defines : List Define
  pub folders : List (List ℕ)

abbrev pub command : Held → Options → List Define → List (List ℕ) → Command
command held options defines folders = record { held = held; options = options; defines = defines; folders = folders }

-- the typed parts of a file, and the spellings that are known behind it
abbrev pub file_typed : Command → Name → List ℕ → List (List ℕ) → Answers (UnitTy × List (List ℕ))
file_typed c rest path names = preprocessed c.held c.options c.defines c.folders path names then λ x. in_file x.0.files (typed x.1 c.options rest x.0.tokens) then λ u. just (Ok (u, x.1))

-- ---- all files

-- behind these parts, those of more files, each in its turn
abbrev pub files_typed : Command → Name → List (List ℕ) → List UnitTy → List (List ℕ) → Answers (List UnitTy × List (List ℕ))
files_typed c rest [] done names = just (Ok (done, names))
files_typed c rest (path ∷ paths) done names = file_typed c rest path names then λ x. files_typed c rest paths (done ++ x.0 ∷ []) x.1

-- those of all files
abbrev pub units_typed : Command → List (List ℕ) → Answers (List UnitTy × List (List ℕ))
units_typed c paths = files_typed c rest_name paths [] (rest_spelling ∷ [])

-- a fault of joining, at a name
abbrev pub joining : {A : Type 0} → Result A JoinFault → Answers A
joining (Ok x) = just (Ok x)
joining (Err f) = just (Err (refusals.Link f.kind f.name))

-- the program of such parts, its main function, and the spellings that are known behind it
abbrev pub units_joined : List UnitTy × List (List ℕ) → Answers ((UnitTy × ℕ) × List (List ℕ))
units_joined x = joining (joined x.1 x.0) then λ p. just (Ok (p, x.1))

-- that of all files; no more files are joined than the limit
abbrev pub programs : Command → List (List ℕ) → Answers ((UnitTy × ℕ) × List (List ℕ))
programs c paths = by_test (nat_lt (limit_of sizes.Units) (length paths)) (just (Err (refusals.TooLarge sizes.Units (length paths))))
    (units_typed c paths then units_joined)

-- ---- its code

-- what each program of the front meets, whose names are in this table
pub record IsGood (names : List (List ℕ)) (program : UnitTy) (main : ℕ) : Type 0 where
  pub well_typed : IsProgram program main
  pub scoped : IsScopedProgram program main
  pub plain : IsPlain names program main

-- the code of a program that is made of such parts, or the refusal of a frame
abbrev pub generated : Options → List (List ℕ) → UnitTy × ℕ → Answers Code
generated o names p z = (parts : Parts) × (unit_of parts ≡ p.0) × IsGood names p.0 p.1 × of (program_of parts p.1 names (modes_of o)) z

abbrev pub compiled : Command → List (List ℕ) → Answers Code
compiled c paths = programs c paths then λ x. generated c.options x.1 x.0

-- ---- refusals of one stage, seen from outside

-- with the path of a file
abbrev pub Located : List (List ℕ) → Refusal → Refusal → Type 0
Located paths (refusals.At code p) r = r ≡ refusals.Source code (path_at paths p.file) p.line
Located paths (refusals.TooLarge limit value) r = (r ≡ refusals.TooLarge limit value) ⊎ (r ≡ refusals.OutOfMemory)
Located paths e r = r ≡ refusals.OutOfMemory

-- of a stage that sees all files
abbrev pub Passed : Refusal → Refusal → Type 0
Passed (refusals.Link kind name) r = r ≡ refusals.Link kind name
Passed (refusals.TooLarge limit value) r = (r ≡ refusals.TooLarge limit value) ⊎ (r ≡ refusals.OutOfMemory)
Passed e r = r ≡ refusals.OutOfMemory
