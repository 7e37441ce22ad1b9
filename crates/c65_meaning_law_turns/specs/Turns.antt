-- A run between two turns is finite.
use Rattle.std.specs.Prelude.{◌⊎◌, ℕ, ◌≤◌, List, ⊤}
use Rattle.c65_meaning.specs.Program.{ProgramTy}
use Rattle.c65_meaning.specs.Sem.{Outcome, Ends, IsDefined, turns_of, sem}

abbrev pub HasEnded : Outcome → Type 0
HasEnded (Ends out status turns) = ⊤
HasEnded _ = ⊥

-- a program that is defined for ever ends, or makes as many turns as one likes
abbrev pub TurnsGoOn : Type 0
TurnsGoOn = (p : ProgramTy) (args : List (List ℕ)) (input : List ℕ) → ((n : ℕ) → IsDefined (sem p args input n)) → (least : ℕ)
    → (n : ℕ) × ((least ≤ turns_of (sem p args input n)) ⊎ HasEnded (sem p args input n))
