-- How the run of a sample ends, and when.
use Rattle.std.specs.Prelude.{◌≡◌, ℕ, suc, List, ⊤}
use Rattle.c65_meaning.specs.Program.{ProgramTy}
use Rattle.c65_meaning.specs.declared.ending.Ending.{Ending}
use Rattle.c65_meaning.specs.declared.ending.Ending.TheVariants.{Status, Undefined, TooDeep}
use Rattle.c65_meaning.specs.Why.{By}
use Rattle.c65_meaning.specs.Sem.{Outcome, Runs, Ends, HasNone, IsDeep, sem}

abbrev pub ended : List ℕ → ℕ → Ending → Outcome
ended out turns (Status s) = Ends out s turns
ended out turns (Undefined action) = HasNone (By action)
ended out turns TooDeep = IsDeep

abbrev pub IsRunning : Outcome → Type 0
IsRunning (Runs out turns) = ⊤
IsRunning (Ends out status turns) = ⊥
IsRunning (HasNone why) = ⊥
IsRunning IsDeep = ⊥

-- so many steps leave the run going, and the next one ends it like this
pub record EndsAfter (p : ProgramTy) (args : List (List ℕ)) (input : List ℕ) (n : ℕ) (out : List ℕ) (turns : ℕ) (e : Ending) : Type 0 where
  pub running : IsRunning (sem p args input n)
  pub ending : sem p args input (suc n) ≡ ended out turns e
