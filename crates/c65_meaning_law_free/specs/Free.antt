-- The free meaning, in which no call is too deep, beside the meaning.
use Rattle.std.specs.Prelude.{◌≡◌, ◌≢◌, ℕ, ◌≤◌, true, List}
use Rattle.c65_meaning.specs.Program.{ProgramTy}
use Rattle.c65_meaning.specs.State.{Scene, State, Undefined, Deep, Ended, Running}
use Rattle.c65_meaning.specs.Step.{is_deep, steps}
use Rattle.c65_meaning.specs.Start.{start_in}
use Rattle.c65_meaning.specs.Sem.{IsDeep, sem, sem_free, state_at}

abbrev pub free_state_at : ProgramTy → List (List ℕ) → List ℕ → ℕ → State
free_state_at p args input n = steps p n (start_in true p args input)

-- the same scene and the same state of a free run
abbrev pub freed_scene : Scene → Scene
freed_scene c = record c { free = true }

abbrev pub freed : State → State
freed (Running work values c) = Running work values (freed_scene c)
freed (Undefined why) = Undefined why
freed Deep = Deep
freed (Ended out status turns) = Ended out status turns

-- the active calls cost more than the stacks have
abbrev pub IsTooDeep : State → Type 0
IsTooDeep (Running work values c) = is_deep c.frames ≡ true
IsTooDeep (Undefined why) = ⊥
IsTooDeep Deep = ⊥
IsTooDeep (Ended out status turns) = ⊥

-- they do so in the free run after n steps, or before
pub record WasTooDeep (p : ProgramTy) (args : List (List ℕ)) (input : List ℕ) (n : ℕ) : Type 0 where
  pub moment : ℕ
  pub early : moment ≤ n
  pub deep : IsTooDeep (free_state_at p args input moment)

-- No call of a free run is too deep.
abbrev pub FreeIsNeverDeep : Type 0
FreeIsNeverDeep = (p : ProgramTy) (args : List (List ℕ)) (input : List ℕ) (n : ℕ) → sem_free p args input n ≢ IsDeep

-- Where no state on the way is too deep, both runs are in the same state.
abbrev pub FreeIsTheSame : Type 0
FreeIsTheSame = (p : ProgramTy) (args : List (List ℕ)) (input : List ℕ) (n : ℕ)
    → (WasTooDeep p args input n → ⊥) → free_state_at p args input n ≡ freed (state_at p args input n)

-- Where one is, the meaning is that a call was too deep.
abbrev pub TooDeepIsDeep : Type 0
TooDeepIsDeep = (p : ProgramTy) (args : List (List ℕ)) (input : List ℕ) (n : ℕ)
    → WasTooDeep p args input n → sem p args input n ≡ IsDeep

-- So the free meaning is the meaning wherever that is anything else.
abbrev pub FreeShowsTheSame : Type 0
FreeShowsTheSame = (p : ProgramTy) (args : List (List ℕ)) (input : List ℕ) (n : ℕ)
    → sem p args input n ≢ IsDeep → sem_free p args input n ≡ sem p args input n
