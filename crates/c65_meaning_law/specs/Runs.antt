-- The run of a whole program never comes to trees or values that do not fit one another (C90 5.1.2.2.1, 6.3.2.2, 6.6.6, 7.1.7).
use Rattle.std.specs.Prelude.{◌≢◌, ℕ, List}
use Rattle.c65_csem.specs.Units.{IsProgram}
use Rattle.c65_meaning.specs.Program.{ProgramTy}
use Rattle.c65_meaning.specs.State.{State, Deep}
use Rattle.c65_csem_names.specs.Programs.{IsScopedProgram}
use Rattle.c65_meaning_law.specs.Laws.{IsFit}

-- fit, and no call was too deep
abbrev pub IsFitAndFree : State → Type 0
IsFitAndFree s = IsFit s × (s ≢ Deep)

-- A well typed program whose names are in scope, and whose `main` and library functions have their types, is after each number of steps
-- defined, ended, too deep or undefined by a numbered action; and in a running state memory names only blocks that there are. So it is in
-- the free meaning, and there it is never too deep.
abbrev pub ProgramsFit : (ProgramTy → List (List ℕ) → List ℕ → ℕ → State) → (State → Type 0) → Type 0
ProgramsFit run IsWhole = (p : ProgramTy) (args : List (List ℕ)) (input : List ℕ) (n : ℕ)
    → IsProgram p.unit p.main → IsScopedProgram p.unit p.main
    → IsWhole (run p args input n)
