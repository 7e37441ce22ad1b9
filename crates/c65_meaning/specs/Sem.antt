-- The meaning of a program: n steps from the call of `main`, and when the run of an image agrees with it.
use Rattle.std.specs.Prelude.{◌≡◌, ℕ, true, ◌+◌, ◌*◌, ◌≤◌, List, ⊤}
use Rattle.c65_meaning.specs.Program.{ProgramTy}
use Rattle.c65_meaning.specs.Why.{Why}
use Rattle.c65_meaning.specs.Sites.{jumps}
use Rattle.c65_meaning.specs.State.{State, Undefined, Deep, Ended, Running}
use Rattle.c65_meaning.specs.Step.{steps}
use Rattle.c65_meaning.specs.Start.{start_in, start}

abbrev pub state_at : ProgramTy → List (List ℕ) → List ℕ → ℕ → State
state_at p args input n = steps p n (start p args input)

-- ---- what is seen of a run

pub data Outcome : Type 0 where
  Runs : (out : List ℕ) (turns : ℕ) → Outcome
  Ends : (out : List ℕ) (status turns : ℕ) → Outcome
  HasNone : (why : Why) → Outcome
  IsDeep : Outcome

abbrev pub outcome_of : State → Outcome
outcome_of (Undefined why) = HasNone why
outcome_of Deep = IsDeep
outcome_of (Ended out status turns) = Ends out status turns
outcome_of (Running work values c) = Runs c.out c.turns

abbrev pub sem : ProgramTy → List (List ℕ) → List ℕ → ℕ → Outcome
sem p args input n = outcome_of (state_at p args input n)

-- the same where no call is too deep, whatever is left of the stacks
abbrev pub sem_free : ProgramTy → List (List ℕ) → List ℕ → ℕ → Outcome
sem_free p args input n = outcome_of (steps p n (start_in true p args input))

-- nothing undefined has happened, and no call was too deep
abbrev pub IsDefined : Outcome → Type 0
IsDefined (Runs out turns) = ⊤
IsDefined (Ends out status turns) = ⊤
IsDefined (HasNone why) = ⊥
IsDefined IsDeep = ⊥

abbrev pub turns_of : Outcome → ℕ
turns_of (Runs out turns) = turns
turns_of (Ends out status turns) = turns
turns_of (HasNone why) = 0
turns_of IsDeep = 0

-- ---- agreement with another run

-- what is seen of the image's run after some rows
pub data Seen : Type 0 where
  SeenRunning : (out : List ℕ) → Seen
  SeenEnded : (out : List ℕ) (status : ℕ) → Seen
  SeenStopped : Seen

abbrev pub Matches : Outcome → Seen → Type 0
Matches (Runs out turns) (SeenRunning out2) = out ≡ out2
Matches (Ends out status turns) (SeenEnded out2 status2) = (out ≡ out2) × (status ≡ status2)
Matches _ _ = ⊥

-- the run has the same output and state at a moment that is early enough, and at one that is late enough
pub record Agrees (p : ProgramTy) (run : ℕ → Seen) (args : List (List ℕ)) (input : List ℕ) (n : ℕ) : Type 0 where
  pub defined : IsDefined (sem p args input n)
  pub early : ℕ
  pub is_early : early ≤ 4096 * (n + 1)
  pub same_early : Matches (sem p args input n) (run early)
  pub late : ℕ
  pub is_late : turns_of (sem p args input n) ≤ jumps p * (late + 1)
  pub same_late : Matches (sem p args input n) (run late)
