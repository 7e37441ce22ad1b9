-- A call of a function that has lines of its own, from its line to the line behind it (C90 6.3.2.2; docs/MACHINE.md, "Calls").
use Rattle.std.specs.Prelude.{◌≡◌, ℕ, suc, ◌+◌, ◌*◌, ◌<◌, ◌≤◌, true, false, IsTrue, List, [], ◌∷◌, Ok, Some, None, length, slice_get}
use Rattle.c65_ctype.specs.Trees.{Ty}
use Rattle.c65_csem.specs.Trees.{Stmt, FuncTy, UnitTy}
use Rattle.c65_meaning.specs.Store.{Value, Shape}
use Rattle.c65_meaning.specs.Items.{Item, Leave, plan_stmt}
use Rattle.c65_meaning.specs.Calls.{is_variadic, accepts}
use Rattle.c65_meaning.specs.Costs.{has_fixed, argument_bytes, soft_cost}
use Rattle.c65_meaning.specs.State as meaning
use Rattle.c65_meaning.specs.State.{Scene, Running, turned, soft_sum}
use Rattle.c65_meaning.specs.Step.{are_values, is_active, is_deep, new_frame, with_passed}
use Rattle.c65_code.specs.declared.line.Line.TheVariants.{Label}
use Rattle.c65_code.specs.declared.parts.Part.{Part}
use Rattle.c65_code.specs.declared.parts.RegSet.{RegSet}
use Rattle.c65_code.specs.Parts.{has_part}
use Rattle.c65_code.specs.LineState.{State, Frame, Same, sp_of}
use Rattle.c65_code.specs.Moves.{IsCallee, common_of}
use Rattle.c65_code.specs.Placement.{stack_end}
use Rattle.c65_code.specs.Steady.{HasLines}
use Rattle.c65_code.specs.Comes.{Seen}
use Rattle.c65_genframe.specs.Frames.{saved_bytes}
use Rattle.c65_genframe.specs.Symbols.{numbers_of, function_symbol}
use Rattle.c65_genentry.specs.Entry.{entry_code}
use Rattle.c65_genentry.specs.Ends.{end_code}
use Rattle.c65_agree_store.specs.Stands.{Placing, Banks}
use Rattle.c65_agree_state.specs.World.{World, unit_in, setting_in, Active, lines_of, place_in, HasAt, IsPlaced, HasTurns}
use Rattle.c65_agree_state.specs.Joins.{Joins, call_bytes}
use Rattle.c65_agree_state.specs.Follows.{Follows}
use Rattle.c65_agree_state.specs.Exprs.{Ready, Valued, MayFit, ResultIs, Kept, width_in}
use Rattle.c65_agree_between.specs.Stmts.{Between, ReturnLeads}
use Rattle.c65_agree_frame.specs.Ends.{IsPrimary}
use Rattle.c65_agree_frame.specs.Entries.{arriving}
use Rattle.c65_agree_leave.specs.Calls.{IsEntered, IsBehind}
use Rattle.c65_agree_leave.specs.Laws.{params_in}
use Rattle.c65_agree_registers.specs.Checks.{asked_by}
use Rattle.c65_agree_registers.specs.Entries.{HasMoves}
use Rattle.c65_agree_enter.specs.Params.{AreDistinct}
use Rattle.c65_agree_enter.specs.Entries.{HaveHomes, banks_with, HasEntered}
use Rattle.c65_agree_enter.specs.Laws.{IsCalled, IsAtEntry, AllPassed}

-- ---- the line

-- what the machine keeps of the outer function at a call whose line stands at p
abbrev pub frame_behind : World → Active → ℕ → RegSet → State → Frame
frame_behind g outer p gives t = record { back = place_in g outer (suc p); pushed = t.pushed; gives = gives }

-- the called function has lines of its own, and there is a frame more behind it
pub record IsCallFrom (g : World) (outer a : Active) (p : ℕ) (gives : RegSet) (t : State) : Type 0 where
  pub own : (setting_in g).library a.symbol ≡ None
  pub lines : HasLines (lines_of g a)
  pub behind : a.behind ≡ frame_behind g outer p gives t ∷ t.frames

-- what the call says that it passes is at the first line as at the call
abbrev pub IsPassedIn : RegSet → State → State → Type 0
IsPassedIn reads t u = (part : Part) → IsTrue (has_part reads part) → Same part t u

-- from the first line on the rest is followed, whatever the call leaves open
abbrev pub GoesIn : World → Active → RegSet → ℕ → ℕ → ℕ → meaning.State → State → Type 0
GoesIn g a reads n w turns m t = (u : State) (later : Seen) → IsAtEntry a t u → IsPassedIn reads t u → HasTurns g turns (place_in g a 0) later → Follows g n w m (place_in g a 0) u later

-- the pointer to a function is in ptr4, and all is kept that an expression keeps
pub record IsPut (g : World) (a : Active) (pushed needs f : ℕ) (c : Scene) (q : Placing) (b : Banks) (t u : State) : Type 0 where
  pub ready : Ready g a pushed needs c q b u
  pub kept : Kept g a c q b t c q b u
  pub callee : IsCallee (setting_in g) u (function_symbol (numbers_of g.parts) f).0

-- ---- the step

abbrev pub cost_of : UnitTy → List Ty → Stmt → ℕ
cost_of u types body = soft_cost u (argument_bytes u types) body

-- the meaning has entered the function: its arguments are values and fit it, an object that has one place for the whole run is not begun
-- again, and the call is not too deep
pub record IsMeant (u : UnitTy) (callee : Ty) (types : List Ty) (args : List Value) (f : ℕ) (func : FuncTy) (body : Stmt) (c c1 : Scene) : Type 0 where
  pub values : are_values args ≡ true
  pub accepted : accepts u callee types func ≡ true
  pub once : has_fixed u body ≡ true → is_active f c.frames ≡ false
  pub begun : with_passed u func types args (new_frame u f (cost_of u types body) (turned c)) ≡ Ok c1
  pub shallow : c1.free ≡ false → is_deep c1.frames ≡ false

-- ---- the function

-- what holds of any call, whatever the machine leaves open: the scene and the state belong together, and the called function's frame lies
-- below what the outer function has there
pub record IsBelow (g : World) (outer a : Active) (frame : Frame) (passed : ℕ) (c : Scene) (w : Placing) (k : Banks) (t : State) : Type 0 where
  pub joins : Joins g outer c w k t
  pub within : sp_of t + passed ≤ outer.base
  pub none_pushed : t.pushed ≡ []
  pub behind : a.behind ≡ frame ∷ outer.behind
  pub pushed : frame.pushed ≡ t.pushed
  pub top : a.base + call_bytes a ≡ sp_of t + passed

-- the function takes no further arguments, and its costs leave room, also for what its entry asks for where it checks the stacks
pub record MayCall (g : World) (outer a : Active) (frame : Frame) (passed cost needs : ℕ) (c : Scene) (w : Placing) (k : Banks) (t : State) : Type 0 where
  pub below : IsBelow g outer a frame passed c w k t
  pub called : IsCalled g a outer.base cost needs (params_in g a) c
  pub none_raised : a.raised ≡ 0
  pub asked : stack_end + asked_by a.frame.check ≤ sp_of t + (cost + soft_sum c.frames)

-- What stands of any call, whether or not its step is defined: it may still be too deep, or begin an object again that has one place.
pub record IsMade (g : World) (outer a : Active) (frame : Frame) (passed needs : ℕ) (func : FuncTy) (body : Stmt) (types : List Ty) (c : Scene) (w : Placing) (k : Banks) (t : State) : Type 0 where
  pub below : IsBelow g outer a frame passed c w k t
  pub moves : HasMoves a.frame
  pub is_function : slice_get (unit_in g).funcs a.func ≡ Some func
  pub has_body : func.body ≡ Some body
  pub calls : a.calls ≡ c.frames
  pub first : a.first ≡ c.next
  pub homes : HaveHomes g a (params_in g a)
  pub distinct : AreDistinct (params_in g a)
  pub room : stack_end + 8 * needs + a.spare ≤ a.base + (cost_of (unit_in g) types body + soft_sum c.frames)
  pub asks : stack_end + asked_by a.frame.check ≤ sp_of t + (cost_of (unit_in g) types body + soft_sum c.frames)

-- so it is of a function that takes no further arguments
pub record CallStands (g : World) (outer a : Active) (frame : Frame) (passed needs : ℕ) (func : FuncTy) (body : Stmt) (types : List Ty) (c : Scene) (w : Placing) (k : Banks) (t : State) : Type 0 where
  pub made : IsMade g outer a frame passed needs func body types c w k t
  pub fixed : a.frame.variadic ≡ false
  pub none_raised : a.raised ≡ 0
  pub all_named : is_variadic func.ty ≡ false

-- the lines of the function: its entry, and its end at label 0
pub record HasEnds (g : World) (a : Active) (e : ℕ) : Type 0 where
  pub single : IsPlaced (lines_of g a)
  pub entry : HasAt (lines_of g a) 0 (entry_code a.frame)
  pub end : HasAt (lines_of g a) e (Label 0 ∷ end_code a.frame)

-- Behind the lines of its entry the first statement may begin, and what the caller has is there again when the function is left.
pub record HasBegun (g : World) (outer a : Active) (frame : Frame) (passed needs : ℕ) (c0 : Scene) (w0 : Placing) (k0 : Banks) (t0 : State) (c1 : Scene) (t1 : State) : Type 0 where
  pub entered : HasEntered g a needs (params_in g a) c0 w0 k0 t0 c1 t1
  pub keeps : IsEntered a outer frame passed c0 w0 k0 t0 c1 entered.placing (banks_with a t1 k0) t1

-- the arguments lie where the entry takes the parameters from
pub record HasCome (g : World) (a : Active) (args : List Value) (w : Placing) (t : State) : Type 0 where
  pub stacked : a.base + (a.frame.soft + (saved_bytes a.frame.bank + length (arriving a.frame.last t))) ≡ sp_of t
  pub few : length (arriving a.frame.last t) ≤ a.frame.stacked
  pub lies : AllPassed g a w t (params_in g a) args

-- From the first statement on, where the blocks that begin are the call's own, the lines do the work of the body, for up to n steps, where
-- the function's end is followed within this weight.
abbrev pub BodyDoes : World → Active → ℕ → Stmt → Shape → List Item → List Value → ℕ → ℕ → Type 0
BodyDoes g a needs body result below vs n v = (c : Scene) (q : Placing) (b : Banks) (t : State) (seen : Seen)
    → a.first ≤ c.next → Between g a needs (params_in g a) c q b t → HasTurns g c.turns (place_in g a (length (entry_code a.frame))) seen
    → ReturnLeads g a needs c q b t (params_in g a) result below vs n v
    → Follows g n v (Running (plan_stmt (unit_in g) 0 body (Leave ∷ below)) vs c) (place_in g a (length (entry_code a.frame))) t seen

-- Behind the call the outer function goes on. The value stood in the primary register before the function's end, and what of it both the
-- call and the function give is there still.
pub record HasReturned (g : World) (outer a : Active) (frame : Frame) (passed : ℕ) (result : Shape) (c0 : Scene) (w0 : Placing) (k0 : Banks) (t0 : State) (v : Value) (c2 : Scene) (w : Placing) (k : Banks) (u : State) : Type 0 where
  pub behind : IsBehind g outer passed c0 w0 k0 t0 c2 w k u
  pub fits : MayFit Valued result v
  pub last : State
  pub value : ResultIs Valued w (width_in result) v last
  pub given : (part : Part) → IsPrimary part → IsTrue (has_part (common_of frame.gives ((setting_in g).gives a.symbol)) part) → Same part last u

-- there the rest is followed, the value waiting
abbrev pub GoesOnBehind : World → Active → Active → Frame → ℕ → Shape → List Item → List Value → ℕ → ℕ → Scene → Placing → Banks → State → Type 0
GoesOnBehind g outer a frame passed result below vs n weight c0 w0 k0 t0 = (j : ℕ) (v : Value) (c2 : Scene) (w : Placing) (k : Banks) (u : State) (later : Seen)
    → j < n → HasReturned g outer a frame passed result c0 w0 k0 t0 v c2 w k u → HasTurns g c2.turns frame.back later
    → Follows g j weight (Running below (v ∷ vs) c2) frame.back u later
