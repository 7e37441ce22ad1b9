-- The states of a program whose functions have numbers that cover their costs.
use Rattle.std.specs.Prelude.{◌≢◌, ℕ, ◌≤◌, List, Option}
use Rattle.c65_meaning.specs.Program.{ProgramTy}
use Rattle.c65_meaning.specs.Costs.{arguments_bytes}
use Rattle.c65_meaning.specs.State.{Deep}
use Rattle.c65_meaning.specs.Sem.{state_at}
use Rattle.c65_depth.specs.declared.numbers.Numbers.{Numbers}
use Rattle.c65_depth.specs.Certificates.{Fits}

-- Where the numbers of a program cover the costs of its functions, and `main` has room with so many bytes of arguments, no state is deep
-- after any number of steps, on any input and with any arguments of no more bytes.
abbrev pub FittingIsNeverDeep : Type 0
FittingIsNeverDeep = (p : ProgramTy) (numbers : ℕ → Option Numbers) (room : ℕ) (args : List (List ℕ)) (input : List ℕ) (n : ℕ)
    → Fits p numbers room → arguments_bytes args ≤ room
    → state_at p args input n ≢ Deep
