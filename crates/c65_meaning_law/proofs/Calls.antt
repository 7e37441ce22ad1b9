-- A run inside calls: the work of the active call, and below it the calls that wait for their callees.
use Rattle.std.specs.Prelude.{◌≡◌, true, List, [], ◌∷◌, Some, slice_get}
use Rattle.c65_csem.specs.Trees.{UnitTy}
use Rattle.c65_csem.specs.Units.{IsBody}
use Rattle.c65_meaning.specs.Why.{Unfit}
use Rattle.c65_meaning.specs.Store.{Value}
use Rattle.c65_meaning.specs.Items.{Item}
use Rattle.c65_meaning.specs.State.{Frame, Scene, State, Undefined, Running}
use Rattle.c65_meaning.specs.Step.{func_in, frames_below}
use Rattle.c65_csem_names.specs.Scopes.{is_variadic, IsScoped, entering}
use Rattle.c65_meaning_law.specs.Statements.{IsReady}
use Rattle.c65_meaning_law.proofs.Stacks.{arithmetic, kind_given, Gives, Call, inside, Takes, IsRunning}

-- the scene in which these calls are active
abbrev pub with_frames : Scene → List Frame → Scene
with_frames c fs = record c { frames = fs }

module _ (u : UnitTy) (c : Scene) where
  -- the first frame is of the call: of a function with a well typed body in scope, and its parameters have blocks
  pub record IsCall (fs : List Frame) (call : Call) : Type 0 where
    pub func : slice_get u.funcs (func_in fs) ≡ Some call.func
    pub body : call.func.body ≡ Some call.code
    pub typed : IsBody u call.func call.code
    pub scoped : IsScoped u (is_variadic call.func.ty) (entering call.func.params []) call.code
    pub ready : IsReady u (is_variadic call.func.ty) (entering call.func.params []) (with_frames c fs)

  -- Below a call wait the calls of the other frames: each goes on behind the end of the one above it with what that one gives. The last one is
  -- of `main`, which gives a number.
  abbrev pub AreWaiting : List Frame → Call → Type 0
  AreWaiting [] call = (call.base ≡ []) × (kind_given call.func.ty ≡ arithmetic true)
  AreWaiting (f ∷ fs) call = (outer : Call) × IsCall (f ∷ fs) outer × Gives (kind_given call.func.ty) (Takes (inside outer) u (with_frames c (f ∷ fs)) call.behind) call.base × AreWaiting fs outer

-- a state of a run inside a call
pub record IsInside (u : UnitTy) (work : List Item) (vs : List Value) (d : Scene) : Type 0 where
  pub scene : Scene
  pub call : Call
  pub active : IsCall u scene scene.frames call
  pub running : IsRunning (inside call) u scene work vs d
  pub waiting : AreWaiting u scene (frames_below scene.frames) call

abbrev pub IsWell : UnitTy → State → Type 0
IsWell u (Undefined Unfit) = ⊥
IsWell u (Running work vs d) = IsInside u work vs d
IsWell u _ = Unit {0}

-- the calls of a scene
pub record IsAt (u : UnitTy) (c : Scene) (call : Call) : Type 0 where
  pub active : IsCall u c c.frames call
  pub waiting : AreWaiting u c (frames_below c.frames) call
