-- A call of a function that takes further arguments, from its first line to the line behind it (C90 6.3.2.2, 6.7.1; docs/MACHINE.md, "Calls").
use Rattle.std.specs.Prelude.{◌≡◌, ℕ, ◌+◌, ◌<◌, ◌≤◌, true, List, [], ◌∷◌, Ok, Some, length}
use Rattle.c65_ctype.specs.Trees.{Ty}
use Rattle.c65_csem.specs.Trees.{Stmt, FuncTy}
use Rattle.c65_meaning.specs.Store.{Cell, Value, Place, Shape}
use Rattle.c65_meaning.specs.Items.{Item, Leave, plan_stmt}
use Rattle.c65_meaning.specs.After.{is_among}
use Rattle.c65_meaning.specs.Calls.{is_variadic}
use Rattle.c65_meaning.specs.State.{Scene, Running, turned, soft_sum, Frame as Call}
use Rattle.c65_meaning.specs.Step.{taken, further, with_params, new_frame, begin_rest}
use Rattle.c65_code.specs.declared.parts.RegSet.{RegSet}
use Rattle.c65_code.specs.LineState.{State, Frame, sp_of}
use Rattle.c65_code.specs.Placement.{IsPlacement, stack_end}
use Rattle.c65_code.specs.Comes.{Seen}
use Rattle.c65_genframe.specs.Frames.{saved_bytes}
use Rattle.c65_agree_store.specs.Stands.{At, Placing, Banks}
use Rattle.c65_agree_state.specs.World.{World, unit_in, Active, place_in, owned_at, HasTurns}
use Rattle.c65_agree_state.specs.Joins.{spot_of}
use Rattle.c65_agree_state.specs.Follows.{Follows}
use Rattle.c65_agree_between.specs.Stmts.{HasCall}
use Rattle.c65_agree_frame.specs.Leads.{IsOn}
use Rattle.c65_agree_frame.specs.Ends.{end_cost}
use Rattle.c65_agree_leave.specs.Laws.{params_in}
use Rattle.c65_agree_enter.specs.Entries.{FixedAreLow}
use Rattle.c65_agree_enter.specs.Laws.{IsAtEntry}
use Rattle.c65_agree_call.specs.Calls.{IsPassedIn, IsBelow, IsMade, HasEnds, BodyDoes, GoesOnBehind}
use Rattle.c65_agree_registers.specs.Checks.{asked_by}
use Rattle.c65_agree_registers.specs.Entries.{HasMoves}
use Rattle.c65_agree_variadic.specs.Frames.{IsFurtherFrame, further_cost}
use Rattle.c65_agree_variadic.specs.Entries.{IsCalledFurther, HasPassedFurther}

-- the call passes further arguments of these cells, and its costs leave room, also for what its entry asks for where it checks the stacks
pub record MayCallFurther (g : World) (outer a : Active) (frame : Frame) (passed cost needs : ℕ) (xs : List Cell) (c : Scene) (w : Placing) (k : Banks) (t : State) : Type 0 where
  pub below : IsBelow g outer a frame passed c w k t
  pub called : IsCalledFurther g a outer.base cost needs (params_in g a) xs c
  pub asked : stack_end + asked_by a.frame.check ≤ sp_of t + (cost + soft_sum c.frames)

-- From the first line of such a function to the line behind the call: where its body does its work and the rest is followed behind the
-- call, the whole is.
abbrev pub FurtherFunctionsAreFollowed : Type 0
FurtherFunctionsAreFollowed = (g : World) (outer a : Active) (frame : Frame) (passed cost needs n weight e : ℕ) (body : Stmt) (result : Shape) (args vs : List Value) (xs : List Cell) (below : List Item)
    (call : Call) (calls : List Call) (c0 d : Scene) (w0 : Placing) (k0 : Banks) (t0 t : State) (seen : Seen)
    → IsPlacement g.code g.place → FixedAreLow g → MayCallFurther g outer a frame passed cost needs xs c0 w0 k0 t0 → IsFurtherFrame a.frame → HasMoves a.frame → c0.frames ≡ call ∷ calls
    → IsAtEntry a t0 t → HasPassedFurther g a (params_in g a) args xs w0 t → with_params (unit_in g) (params_in g a) args (new_frame (unit_in g) a.func cost c0) ≡ Ok d
    → HasEnds g a e → HasTurns g c0.turns (place_in g a 0) seen
    → BodyDoes g a needs body result below vs n (end_cost a.frame + weight) → GoesOnBehind g outer a frame passed result below vs n weight c0 w0 k0 t0
    → Follows g n (further_cost a.frame + (end_cost a.frame + weight)) (Running (plan_stmt (unit_in g) 0 body (Leave ∷ below)) vs (begin_rest xs d)) (place_in g a 0) t seen

-- ---- the step

-- What stands of a call of a function that takes further arguments, whether or not its step is defined.
pub record FurtherCallStands (g : World) (outer a : Active) (frame : Frame) (passed needs : ℕ) (func : FuncTy) (body : Stmt) (types : List Ty) (args : List Value) (c : Scene) (w : Placing) (k : Banks) (t : State) : Type 0 where
  pub made : IsMade g outer a frame passed needs func body types c w k t
  pub framed : IsFurtherFrame a.frame
  pub further_too : is_variadic func.ty ≡ true
  pub raised : a.raised ≡ length (further (unit_in g) func types args)
  pub above : (i at : ℕ) → is_among (params_in g a) i ≡ true → spot_of g a i ≡ At at → a.base + (a.frame.soft + (saved_bytes a.frame.bank + a.raised)) ≤ at

-- what a call asks for, whichever way it is made: the function, its lines, the values that wait, where the arguments lie, its body and what
-- is behind the call; its own line counts its turn
pub record MayGoFurther (g : World) (outer a : Active) (frame : Frame) (reads : RegSet) (passed needs most weight p e : ℕ) (func : FuncTy) (body : Stmt) (types : List Ty) (result : Shape) (args vs values : List Value) (below : List Item)
    (c : Scene) (w : Placing) (k : Banks) (t : State) : Type 0 where
  pub low : FixedAreLow g
  pub on : IsOn g t
  pub stands : FurtherCallStands g outer a frame passed needs func body types args c w k t
  pub call : HasCall c
  pub waits : taken types [] values ≡ Some (args, Place a.func 0 ∷ vs)
  pub ends : HasEnds g a e
  pub owns : 1 ≤ owned_at g.owns (place_in g outer p)
  pub passes : (u : State) → IsAtEntry a t u → IsPassedIn reads t u → HasPassedFurther g a (params_in g a) args (further (unit_in g) func types args) w u
  pub does : (j : ℕ) → j < most → BodyDoes g a needs body result below vs j (end_cost a.frame + weight)
  pub goes : (j : ℕ) → j < most → GoesOnBehind g outer a frame passed result below vs j weight (turned c) w k t

-- the step of a call has the weight for its line, the entry and the end of the function
abbrev pub further_whole_cost : Active → ℕ
further_whole_cost a = 8 + (further_cost a.frame + end_cost a.frame)
