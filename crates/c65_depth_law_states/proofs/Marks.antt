-- What pending work of active calls finds among the waiting values, and that each call in it is one of the body of its function.
use Rattle.std.specs.Prelude.{◌≡◌, ℕ, Bool, true, false, ◌+◌, ◌≤◌, min, List, [], ◌∷◌, Option, Some, None, ⊤}
use Rattle.std.specs.List.{AllByRecursion}
use Rattle.c65_ctype.specs.Trees.{Ty}
use Rattle.c65_csem.specs.Trees.{Typed, MaybeTyped, Stmt, Stmts}
use Rattle.c65_meaning.specs.Program.{ProgramTy}
use Rattle.c65_meaning.specs.Store.{Value, Place}
use Rattle.c65_meaning.specs.Operators.{is_post}
use Rattle.c65_meaning.specs.Costs.{soft_cost, argument_bytes}
use Rattle.c65_meaning.specs.Items.{Item, Loop, Push, Name, Follow, Move, Fetch, Keep, Change, Apply1, Apply2, Both, Either, Truth, Choose, Drop, Put, Peek, Bump, PutUnder, Carry, Gather, Lay, Reach, Invoke, Busy, Skip, Init, CarryInto, Wipe, Begin, End, Branch, Test, Pass, Enter, Next, Back, Check, Redo, Select, EndSwitch, Jump, LeaveLoop, GoOn, Give, GiveNothing, Leave}
use Rattle.c65_meaning.specs.State.{Frame, State, Undefined, Deep, Ended, Running}
use Rattle.c65_depth.specs.declared.calls.Call.{Call}
use Rattle.c65_depth.specs.declared.numbers.Numbers.{Numbers}
use Rattle.c65_depth.specs.Calls.{most, calls_in, calls_if, calls_of, calls_of_all}
use Rattle.c65_depth.specs.Checks.{soft_limit, hard_limit}
use Rattle.c65_depth.specs.Certificates.{HasCall, IsReachable, IsPassed, body_at}

-- ---- values

-- what is known of a waiting value: that it is the place of a function, or nothing
abbrev pub Mark : Type 0
Mark = Option ℕ

abbrev pub IsMarked : Mark → Value → Type 0
IsMarked None v = ⊤
IsMarked (Some h) v = v ≡ Place h 0

abbrev pub AreMarked : List Mark → List Value → Type 0
AreMarked [] vs = ⊤
AreMarked (x ∷ ks) [] = ⊥
AreMarked (x ∷ ks) (v ∷ vs) = IsMarked x v × AreMarked ks vs

-- the value on top is taken
abbrev pub Pops : List Mark → (Mark → List Mark → Type 0) → Type 0
Pops [] g = ⊥
Pops (x ∷ ks) g = g x ks

abbrev pub PopsTwo : List Mark → (List Mark → Type 0) → Type 0
PopsTwo [] g = ⊥
PopsTwo (y ∷ []) g = ⊥
PopsTwo (y ∷ x ∷ ks) g = g ks

-- one value stands for another one, or for two
abbrev pub Turns : List Mark → (List Mark → Type 0) → Type 0
Turns ks go = Pops ks (λ x js. go (None ∷ js))

abbrev pub Joins : List Mark → (List Mark → Type 0) → Type 0
Joins ks go = PopsTwo ks (λ js. go (None ∷ js))

-- a statement begins and ends with what waits below its call
abbrev pub IsAtBase : List Mark → List Mark → (List Mark → Type 0) → Type 0
IsAtBase base ks go = (ks ≡ base) × go base

abbrev pub PopsToBase : List Mark → List Mark → (List Mark → Type 0) → Type 0
PopsToBase base ks go = Pops ks (λ x js. IsAtBase base js go)

-- arguments of these types wait above
abbrev pub pushed : List Ty → List Mark → List Mark
pushed [] ks = ks
pushed (t ∷ ts) ks = pushed ts (None ∷ ks)

abbrev pub with_mark : Bool → List Mark → List Mark
with_mark true ks = None ∷ ks
with_mark false ks = ks

-- ---- items

module _ (p : ProgramTy) (f : ℕ) where
  -- the calls of an expression or statement are some of those of the function's body
  abbrev pub Holds : Typed → Type 0
  Holds e = AllByRecursion (HasCall p f) (calls_in p.unit e)

  abbrev pub HoldsIf : MaybeTyped → Type 0
  HoldsIf e = AllByRecursion (HasCall p f) (calls_if p.unit e)

  abbrev pub HoldsStmt : Stmt → Type 0
  HoldsStmt s = AllByRecursion (HasCall p f) (calls_of p.unit s)

  abbrev pub HoldsStmts : Stmts → Type 0
  HoldsStmts ss = AllByRecursion (HasCall p f) (calls_of_all p.unit ss)

  abbrev pub HoldsLoop : Loop → Type 0
  HoldsLoop l = HoldsIf l.test × HoldsIf l.next × HoldsStmt l.body

  -- a call that the body names, whose callee waits below its arguments
  pub record IsInvoked (types : List Ty) (ks rest : List Mark) : Type 0 where
    pub call : Call
    pub has : HasCall p f call
    pub callee : ℕ
    pub named : call.callee ≡ Some callee
    pub bytes : call.bytes ≡ min (argument_bytes p.unit types) most
    pub waiting : ks ≡ pushed types (Some callee ∷ rest)

  module _ (base : List Mark) where
    -- what an item takes and leaves, and what holds of its parts; `out` is said of the end of the call
    abbrev pub Does : Item → List Mark → (List Mark → Type 0) → Type 0 → Type 0
    Does (Push v) ks go out = (x : Mark) × IsMarked x v × go (x ∷ ks)
    Does (Name i) ks go out = go (None ∷ ks)
    Does Follow ks go out = Turns ks go
    Does (Move o) ks go out = Turns ks go
    Does (Fetch s) ks go out = Turns ks go
    Does Keep ks go out = Pops ks (λ x js. go (x ∷ js))
    Does (Change s) ks go out = Turns ks go
    Does (Apply1 op s) ks go out = Turns ks go
    Does (Apply2 op l r) ks go out = Joins ks go
    Does (Both b) ks go out = Holds b × Turns ks go
    Does (Either b) ks go out = Holds b × Turns ks go
    Does Truth ks go out = Turns ks go
    Does (Choose a b) ks go out = Holds a × Holds b × Turns ks go
    Does Drop ks go out = Pops ks (λ x js. go js)
    Does (Put s) ks go out = Joins ks go
    Does (Peek s to) ks go out = Pops ks (λ x js. go (None ∷ None ∷ js))
    Does (Bump kind s) ks go out = PopsTwo ks (λ js. go (None ∷ None ∷ with_mark (is_post kind) js))
    Does (PutUnder s) ks go out = PopsTwo ks go
    Does (Carry done size) ks go out = Joins ks go
    Does (Gather size) ks go out = Turns ks go
    Does (Lay i done size) ks go out = Turns ks go
    Does Reach ks go out = go (None ∷ ks)
    Does (Invoke callee types) ks go out = (rest : List Mark) × IsInvoked types ks rest × go (None ∷ rest)
    Does (Busy left l args rest) ks go out = go (None ∷ ks)
    Does Skip ks go out = IsAtBase base ks go
    Does (Init i o s) ks go out = PopsToBase base ks go
    Does (CarryInto i o done size) ks go out = PopsToBase base ks go
    Does (Wipe i done size) ks go out = IsAtBase base ks go
    Does (Begin n objects body) ks go out = HoldsStmts body × IsAtBase base ks go
    Does (End objects) ks go out = IsAtBase base ks go
    Does (Branch m a n b) ks go out = HoldsStmt a × HoldsStmt b × PopsToBase base ks go
    Does (Test l) ks go out = HoldsLoop l × PopsToBase base ks go
    Does (Pass l) ks go out = HoldsLoop l × IsAtBase base ks go
    Does (Enter l) ks go out = HoldsLoop l × IsAtBase base ks go
    Does (Next l) ks go out = HoldsLoop l × IsAtBase base ks go
    Does (Back l) ks go out = HoldsLoop l × PopsToBase base ks go
    Does (Check l) ks go out = HoldsLoop l × IsAtBase base ks go
    Does (Redo l) ks go out = HoldsLoop l × PopsToBase base ks go
    Does (Select left n body) ks go out = HoldsStmt body × PopsToBase base ks go
    Does EndSwitch ks go out = IsAtBase base ks go
    Does (Jump l n) ks go out = IsAtBase base ks go
    Does LeaveLoop ks go out = IsAtBase base ks go
    Does GoOn ks go out = IsAtBase base ks go
    Does Give ks go out = PopsToBase base ks go
    Does GiveNothing ks go out = IsAtBase base ks go
    Does Leave ks go out = (ks ≡ base) × out

-- ---- work

-- behind the end of a call its result waits for the call below, where there is one
abbrev pub Resumes : List ℕ → (ℕ → List ℕ → List Mark → List Mark → Type 0) → List Mark → Type 0
Resumes [] go base = ⊤
Resumes (f ∷ fs) go base = (b : List Mark) × go f fs b (None ∷ base)

module _ (p : ProgramTy) where
  -- work of the call of f, and then of the calls fs below it
  abbrev pub Takes : List Item → ℕ → List ℕ → List Mark → List Mark → Type 0
  Takes [] f fs base ks = ⊤
  Takes (i ∷ k) f fs base ks = Does p f base i ks (λ js. Takes k f fs base js) (Resumes fs (λ g gs b js. Takes k g gs b js) base)

-- ---- active calls

-- the function and the cost of a call
pub record Active : Type 0 where
  pub func : ℕ
  pub cost : ℕ

abbrev pub active : List Frame → List Active
active [] = []
active (x ∷ rest) = record { func = x.func; cost = x.cost } ∷ active rest

abbrev pub funcs : List Active → List ℕ
funcs [] = []
funcs (x ∷ rest) = x.func ∷ funcs rest

abbrev pub soft_of : List Active → ℕ
soft_of [] = 0
soft_of (x ∷ rest) = x.cost + soft_of rest

abbrev pub hard_of : List Active → ℕ
hard_of [] = 0
hard_of (x ∷ rest) = 2 + hard_of rest

module _ (p : ProgramTy) (numbers : ℕ → Option Numbers) where
  -- a call whose numbers have room above the calls below it; the call of `main` has the program's arguments besides
  pub record HasRoom (x : Active) (rest : List Active) : Type 0 where
    pub reached : IsReachable p x.func
    pub body : Stmt
    pub is_body : body_at p x.func ≡ Some body
    pub passed : ℕ
    pub is_passed : IsPassed p x.func passed
    pub own : Numbers
    pub is_own : numbers x.func ≡ Some own
    pub besides : ℕ
    pub cost : x.cost ≤ soft_cost p.unit passed body + besides
    pub soft : soft_of rest + own.soft + besides ≤ soft_limit
    pub hard : hard_of rest + own.hard ≤ hard_limit

  abbrev pub HaveRoom : List Active → Type 0
  HaveRoom [] = ⊤
  HaveRoom (x ∷ rest) = HasRoom x rest × HaveRoom rest

  -- work that goes on with these values in these calls
  abbrev pub GoesOn : List Item → List Value → List Active → Type 0
  GoesOn k vs [] = ⊥
  GoesOn k vs (x ∷ rest) = HaveRoom (x ∷ rest) × (base : List Mark) × (ks : List Mark) × AreMarked ks vs × Takes p k x.func (funcs rest) base ks

  abbrev pub IsWell : State → Type 0
  IsWell (Undefined why) = ⊤
  IsWell Deep = ⊥
  IsWell (Ended out status turns) = ⊤
  IsWell (Running k vs c) = GoesOn k vs (active c.frames)
