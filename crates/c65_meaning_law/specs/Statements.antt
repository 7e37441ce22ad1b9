-- The run of one statement whose names are in scope (C90 6.1.2.1, 6.1.2.4), up to its next call or jump.
use Rattle.std.specs.Prelude.{ℕ, zero, suc, Bool, true, false, List, [], ◌∷◌, IsSome, IsTrue, is_none, slice_get, ⊤, if◌then◌else◌}
use Rattle.c65_csem.specs.Trees.{Stmt, UnitTy}
use Rattle.c65_csem.specs.Statements.{Context, IsStmt}
use Rattle.c65_meaning.specs.Program.{ProgramTy}
use Rattle.c65_meaning.specs.Store.{Value}
use Rattle.c65_meaning.specs.Shapes.{object_in, literal_block}
use Rattle.c65_meaning.specs.Items.{Item, Invoke, Jump, LeaveLoop, GoOn, Give, GiveNothing, plan_stmt}
use Rattle.c65_meaning.specs.After.{up_to_break, up_to_continue}
use Rattle.c65_meaning.specs.State.{Frame, Scene, State, Running}
use Rattle.c65_meaning.specs.Step as one
use Rattle.c65_csem_names.specs.Scopes.{IsInScope, IsScoped}
use Rattle.c65_meaning_law.specs.Laws.{IsClosed, HasBlock, HasRest, IsFit}

-- ---- what a scope needs

abbrev pub HasFrame : List Frame → Type 0
HasFrame [] = ⊥
HasFrame (f ∷ rest) = ⊤

module _ (u : UnitTy) where
  -- A call is active, and each object of the whole run, each object in scope, each literal and each function has a block. In a variadic
  -- function the further arguments have one.
  pub record IsReady (variadic : Bool) (scope : List ℕ) (c : Scene) : Type 0 where
    pub active : HasFrame c.frames
    pub objects : (i : ℕ) → IsSome (object_in u i) → IsInScope u scope i → HasBlock u c i
    pub literals : (l : ℕ) → IsSome (slice_get u.literals l) → IsSome (c.store (literal_block u l))
    pub funcs : (f : ℕ) → IsSome (slice_get u.funcs f) → IsSome (c.store f)
    pub rest : IsTrue variadic → HasRest c

-- ---- up to the end of the work, or the next call or jump

-- a call, or a jump: to a label, out of the call, and where there is no loop or switch to leave or go on with
abbrev pub leaves : Item → List Item → Bool
leaves (Invoke callee args) k = true
leaves (Jump l n) k = true
leaves LeaveLoop k = is_none (up_to_break k)
leaves GoOn k = is_none (up_to_continue k)
leaves Give k = true
leaves GiveNothing k = true
leaves _ k = false

abbrev pub pauses : State → Bool
pauses (Running [] vs c) = true
pauses (Running (i ∷ k) vs c) = leaves i k
pauses _ = false

module _ (p : ProgramTy) where
  -- n steps, or fewer where the run pauses before
  abbrev pub steps_within : ℕ → State → State
  steps_within zero s = s
  steps_within (suc n) s = if pauses s then s else steps_within n (one.step p s)

-- From a state with any values, the run of a well typed statement whose names are in a scope that has blocks is after each number of steps,
-- up to its end or its next call or jump, defined, ended, too deep or undefined by a numbered action.
abbrev pub StatementsFit : Type 0
StatementsFit = (p : ProgramTy) (context : Context) (variadic : Bool) (scope : List ℕ) (s : Stmt) (at n : ℕ) (values : List Value) (c : Scene)
    → IsStmt p.unit context s → IsScoped p.unit variadic scope s → IsReady p.unit variadic scope c → IsClosed c.store
    → IsFit (steps_within p n (Running (plan_stmt p.unit at s []) values c))
