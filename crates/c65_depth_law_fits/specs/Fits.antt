-- What a yes of `check` says of a program and of its runs.
use Rattle.std.specs.Prelude.{◌≡◌, ◌≢◌, ℕ, ◌<◌, ◌≤◌, ◌↔◌, true, List, length, IsSome}
use Rattle.c65_csem.specs.Units.{IsProgram}
use Rattle.c65_meaning.specs.Program.{ProgramTy}
use Rattle.c65_meaning.specs.Costs.{arguments_bytes}
use Rattle.c65_meaning.specs.State.{Deep}
use Rattle.c65_meaning.specs.Sem.{state_at}
use Rattle.c65_depth.specs.declared.program.CertRow.{CertRow}
use Rattle.c65_depth.specs.Checks.{is_checked}
use Rattle.c65_depth.specs.Certificates.{Names, body_at, IsFitting}

-- A program whose `main` has a body fits where `check` says so.
abbrev pub CheckedIsFitting : Type 0
CheckedIsFitting = (p : ProgramTy) (rows : List CertRow) (room : ℕ)
    → IsSome (body_at p p.main) → is_checked p.unit p.main rows room ≡ true
    → IsFitting p rows room

-- each function that a call names is one of the program
abbrev pub NamesFunctions : ProgramTy → Type 0
NamesFunctions p = (f h : ℕ) → Names p f h → h < length p.unit.funcs

-- And where such a program fits, `check` says so.
abbrev pub FittingIsChecked : Type 0
FittingIsChecked = (p : ProgramTy) (rows : List CertRow) (room : ℕ)
    → IsSome (body_at p p.main) → NamesFunctions p → IsFitting p rows room
    → is_checked p.unit p.main rows room ≡ true

-- So of a well typed program `check` says yes exactly where it fits.
abbrev pub CheckIsExact : Type 0
CheckIsExact = (p : ProgramTy) (rows : List CertRow) (room : ℕ)
    → IsProgram p.unit p.main
    → (is_checked p.unit p.main rows room ≡ true) ↔ IsFitting p rows room

-- After a yes for so many bytes no state is deep after any number of steps, on any input and with any arguments of no more bytes.
abbrev pub CheckedIsNeverDeep : Type 0
CheckedIsNeverDeep = (p : ProgramTy) (rows : List CertRow) (room : ℕ) (args : List (List ℕ)) (input : List ℕ) (n : ℕ)
    → is_checked p.unit p.main rows room ≡ true → arguments_bytes args ≤ room
    → state_at p args input n ≢ Deep
