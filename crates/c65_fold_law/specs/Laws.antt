-- Folding keeps the meaning, in no more steps (C90 6.4).
use Rattle.std.specs.Prelude.{◌≡◌, ℕ, zero, suc, ◌≤◌, ℤ, List, [], ◌∷◌, ⊤}
use Rattle.c65_ctype.specs.Trees.{QTy}
use Rattle.c65_csem.specs.Trees.{Typed, node, constant}
use Rattle.c65_csem.specs.Typed.{IsTyped}
use Rattle.c65_csem.specs.Units.{IsUnit, IsProgram}
use Rattle.c65_fold.specs.Folded.{folded}
use Rattle.c65_meaning.specs.Program.{ProgramTy}
use Rattle.c65_meaning.specs.Store.{Value, Whole}
use Rattle.c65_meaning.specs.Items.{Item, plan}
use Rattle.c65_meaning.specs.State.{Frame, State, Undefined, Deep, Ended, Running, Scene}
use Rattle.c65_meaning.specs.Step.{step, steps}
use Rattle.c65_meaning.specs.Sem.{Outcome, IsDefined}
use Rattle.c65_fold_law.specs.Programs.{folded_unit, folded_program}

-- ---- one expression

-- a running state with this scene: its store, calls, input, output and turns
abbrev pub IsIn : Scene → State → Type 0
IsIn c (Running work values d) = d ≡ c
IsIn c (Undefined why) = ⊥
IsIn c Deep = ⊥
IsIn c (Ended out status turns) = ⊥

module _ (p : ProgramTy) (c : Scene) where
  -- n steps lead from a state to a state, and the scene is the same all the way
  abbrev pub Quietly : ℕ → State → State → Type 0
  Quietly zero s t = (s ≡ t) × IsIn c s
  Quietly (suc n) s t = IsIn c s × Quietly n (step p s) t

  -- at least one step
  pub record Leads (s t : State) : Type 0 where
    pub others : ℕ
    pub way : Quietly (suc others) s t

-- An expression that folding replaces by a constant: its run, in every state and before any work, gives the constant's value in at
-- least the one step that the constant takes, and changes nothing else.
abbrev pub ConstantsSettle : Type 0
ConstantsSettle = (p : ProgramTy) (e : Typed) (t : QTy) (z : ℤ)
    → IsTyped p.unit e → folded e ≡ node t (constant z)
    → (k : List Item) (values : List Value) (c : Scene)
    → Leads p c (Running (plan p.unit e k) values c) (Running k (Whole z ∷ values) c)

-- the same active call, with the same blocks, at no greater cost on the software stack
pub record IsCheaper (f g : Frame) : Type 0 where
  pub func : g.func ≡ f.func
  pub object : g.object ≡ f.object
  pub cost : g.cost ≤ f.cost
  pub rest : g.rest ≡ f.rest

abbrev pub Cheaper : List Frame → List Frame → Type 0
Cheaper [] [] = ⊤
Cheaper (f ∷ fs) (g ∷ gs) = IsCheaper f g × Cheaper fs gs
Cheaper _ _ = ⊥

-- a run comes to the end of its work after so many steps at most, with these values and this scene, but for what the calls cost
pub record EndsWithin (p : ProgramTy) (most : ℕ) (s : State) (values : List Value) (c : Scene) : Type 0 where
  pub moment : ℕ
  pub within : moment ≤ most
  pub calls : List Frame
  pub cheaper : Cheaper c.frames calls
  pub ends : steps p moment s ≡ Running [] values (record c { frames = calls })

-- Where the run of an expression comes to its end, in any state, that of its folded form in the folded program does, in no more
-- steps: with the same value, store, input, output and turns.
abbrev pub ExpressionsKeep : Type 0
ExpressionsKeep = (p : ProgramTy) (e : Typed) → IsUnit p.unit → IsTyped p.unit e
    → (n : ℕ) (values ended : List Value) (c d : Scene)
    → steps p n (Running (plan p.unit e []) values c) ≡ Running [] ended d
    → EndsWithin (folded_program p) n (Running (plan (folded_unit p.unit) (folded e) []) values c) ended d

-- ---- whole programs

-- what a program with these arguments and this input shows after so many steps: by `sem`, or by `sem_free`, where no call is too deep
abbrev pub Meaning : Type 0
Meaning = ProgramTy → List (List ℕ) → List ℕ → ℕ → Outcome

-- a run shows this after some steps, no more than so many
pub record ShowsWithin (means : Meaning) (p : ProgramTy) (args : List (List ℕ)) (input : List ℕ) (most : ℕ) (shown : Outcome) : Type 0 where
  pub moment : ℕ
  pub within : moment ≤ most
  pub shows : means p args input moment ≡ shown

-- What a program shows after n steps, where that is defined, its folded form shows after at most n: the same output and turns, and at
-- the end the same status.
abbrev pub FoldingKeeps : Meaning → Type 0
FoldingKeeps means = (p : ProgramTy) (args : List (List ℕ)) (input : List ℕ) (n : ℕ)
    → IsProgram p.unit p.main → IsDefined (means p args input n)
    → ShowsWithin means (folded_program p) args input n (means p args input n)

-- a run shows this after some steps, no fewer than so many, if it is defined there
pub record ShowsLater (means : Meaning) (p : ProgramTy) (args : List (List ℕ)) (input : List ℕ) (least : ℕ) (shown : Outcome) : Type 0 where
  pub moment : ℕ
  pub later : least ≤ moment
  pub shows : IsDefined (means p args input moment) → means p args input moment ≡ shown

-- What the folded form shows after n steps, the program itself shows after at least n, unless it is undefined or too deep there: folding
-- adds no output and no end, and no undefined action or depth of its own.
abbrev pub FoldingAddsNothing : Meaning → Type 0
FoldingAddsNothing means = (p : ProgramTy) (args : List (List ℕ)) (input : List ℕ) (n : ℕ)
    → IsProgram p.unit p.main
    → ShowsLater means p args input n (means (folded_program p) args input n)
