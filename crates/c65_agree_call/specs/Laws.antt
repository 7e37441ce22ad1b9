-- A function that has lines of its own is called, does its work and comes back.
use Rattle.std.specs.Prelude.{◌≡◌, ℕ, ◌+◌, ◌<◌, ◌≤◌, IsTrue, List, [], ◌∷◌, Ok, Some, None, length, slice_get}
use Rattle.c65_ctype.specs.Trees.{Ty}
use Rattle.c65_csem.specs.Trees.{Stmt, FuncTy}
use Rattle.c65_meaning.specs.Store.{Value, Place, Shape}
use Rattle.c65_meaning.specs.Items.{Item, Invoke, Leave, plan_stmt}
use Rattle.c65_meaning.specs.State as meaning
use Rattle.c65_meaning.specs.State.{Scene, Running, turned, Frame as Call}
use Rattle.c65_meaning.specs.Step.{taken, with_params, new_frame}
use Rattle.c65_code.specs.declared.line.Sym.{Sym}
use Rattle.c65_code.specs.declared.line.Line.TheVariants as lines
use Rattle.c65_code.specs.declared.line.Callee.TheVariants.{Function, Pointer}
use Rattle.c65_code.specs.declared.parts.RegSet.{RegSet}
use Rattle.c65_code.specs.declared.routine.Width.TheVariants.{Ax}
use Rattle.c65_code.specs.Parts.{union_of}
use Rattle.c65_code.specs.Effects.{ptr4_bytes}
use Rattle.c65_code.specs.LineState.{Place as Spot, State, Frame}
use Rattle.c65_code.specs.Placement.{IsPlacement}
use Rattle.c65_code.specs.Moves.{IsCallee}
use Rattle.c65_code.specs.Steady.{IsCalm}
use Rattle.c65_code.specs.Comes.{Seen}
use Rattle.c65_genexpr.specs.Calls.{ptr4_code}
use Rattle.c65_genframe.specs.Symbols.{numbers_of, function_symbol}
use Rattle.c65_agree_store.specs.Stands.{Placing, Banks}
use Rattle.c65_agree_state.specs.World.{World, unit_in, setting_in, Active, lines_of, place_in, total_in, owned_at, HasAt, HasTurns}
use Rattle.c65_agree_state.specs.Follows.{Follows}
use Rattle.c65_agree_state.specs.Exprs.{Ready, Valued, ResultIs}
use Rattle.c65_agree_between.specs.Stmts.{HasCall}
use Rattle.c65_agree_frame.specs.Leads.{Leads, IsOn}
use Rattle.c65_agree_frame.specs.Ends.{end_cost}
use Rattle.c65_agree_leave.specs.Laws.{params_in}
use Rattle.c65_agree_registers.specs.Entries.{HasMoves, register_cost}
use Rattle.c65_agree_enter.specs.Entries.{FixedAreLow}
use Rattle.c65_agree_enter.specs.Laws.{IsAtEntry}
use Rattle.c65_agree_call.specs.Calls.{frame_behind, IsCallFrom, IsPassedIn, GoesIn, IsPut, IsMeant, MayCall, CallStands, HasEnds, HasCome, BodyDoes, GoesOnBehind}

-- ---- the line

-- by name
abbrev pub CallsByNameEnter : Type 0
CallsByNameEnter = (g : World) (outer a : Active) (sym : Sym) (reads gives : RegSet) (n w p turns : ℕ) (m : meaning.State) (t : State) (seen : Seen)
    → IsOn g t → IsCallFrom g outer a p gives t → sym.0 ≡ a.symbol → HasAt (lines_of g outer) p (lines.Call (Function sym reads gives) ∷ [])
    → turns ≤ total_in g seen → GoesIn g a reads n w turns m t → Follows g n (8 + w) m (place_in g outer p) t seen

-- through a pointer, which is in ptr4: one function alone stands at its address
abbrev pub CallsThroughPointersEnter : Type 0
CallsThroughPointersEnter = (g : World) (outer a : Active) (reads gives : RegSet) (n w p turns : ℕ) (m : meaning.State) (t : State) (seen : Seen)
    → IsPlacement g.code g.place → IsOn g t → IsCallFrom g outer a p gives t → IsCallee (setting_in g) t a.symbol → HasAt (lines_of g outer) p (lines.Call (Pointer reads gives) ∷ [])
    → turns ≤ total_in g seen → GoesIn g a (union_of reads ptr4_bytes) n w turns m t → Follows g n (8 + w) m (place_in g outer p) t seen

-- A pointer without arguments goes from AX to ptr4, and the function that it points to is there.
abbrev pub PointersArePut : Type 0
PointersArePut = (g : World) (a : Active) (pushed needs f : ℕ) (c : Scene) (q : Placing) (b : Banks) (t : State)
    → IsPlacement g.code g.place → Ready g a pushed needs c q b t → ResultIs Valued q Ax (Place f 0) t → f < length g.parts.funcs.items
    → IsTrue ((setting_in g).is_function (function_symbol (numbers_of g.parts) f).0) → Leads g a ptr4_code 2 t (IsPut g a pushed needs f c q b t)

-- ---- the step

-- The step of a call, where it is defined, enters the function with its arguments, whose values wait with that of the called pointer.
abbrev pub CallsAreMeant : Type 0
CallsAreMeant = (g : World) (callee : Ty) (types : List Ty) (args vs values : List Value) (f : ℕ) (func : FuncTy) (body : Stmt) (n w : ℕ) (k : List Item) (c : Scene) (p : Spot) (t : State) (seen : Seen)
    → slice_get (unit_in g).funcs f ≡ Some func → func.body ≡ Some body → taken types [] values ≡ Some (args, Place f 0 ∷ vs)
    → IsCalm (setting_in g) t → t.output ≡ c.out → t.ended ≡ None → c.turns ≤ total_in g seen
    → ((j : ℕ) (c1 : Scene) → j < n → IsMeant (unit_in g) callee types args f func body c c1 → Follows g j (w + 4000) (Running (plan_stmt (unit_in g) 0 body (Leave ∷ k)) vs c1) p t seen)
    → Follows g n w (Running (Invoke callee types ∷ k) values c) p t seen

-- ---- the function

-- From the first line of a function that takes no further arguments to the line behind the call: where its body does its work and the rest
-- is followed behind the call, the whole is.
abbrev pub FunctionsAreFollowed : Type 0
FunctionsAreFollowed = (g : World) (outer a : Active) (frame : Frame) (passed cost needs n weight e : ℕ) (body : Stmt) (result : Shape) (args vs : List Value) (below : List Item)
    (call : Call) (calls : List Call) (c0 c1 : Scene) (w0 : Placing) (k0 : Banks) (t0 t : State) (seen : Seen)
    → IsPlacement g.code g.place → FixedAreLow g → MayCall g outer a frame passed cost needs c0 w0 k0 t0 → HasMoves a.frame → c0.frames ≡ call ∷ calls
    → IsAtEntry a t0 t → HasCome g a args w0 t → with_params (unit_in g) (params_in g a) args (new_frame (unit_in g) a.func cost c0) ≡ Ok c1
    → HasEnds g a e → HasTurns g c0.turns (place_in g a 0) seen
    → BodyDoes g a needs body result below vs n (end_cost a.frame + weight) → GoesOnBehind g outer a frame passed result below vs n weight c0 w0 k0 t0
    → Follows g n (register_cost a.frame + (end_cost a.frame + weight)) (Running (plan_stmt (unit_in g) 0 body (Leave ∷ below)) vs c1) (place_in g a 0) t seen

-- ---- the whole

-- what a call asks for, whichever way it is made: the function, its lines, the values that wait, where the arguments lie, its body and what
-- is behind the call; its own line counts its turn
pub record MayGo (g : World) (outer a : Active) (frame : Frame) (reads : RegSet) (passed needs most weight p e : ℕ) (func : FuncTy) (body : Stmt) (types : List Ty) (result : Shape) (args vs values : List Value) (below : List Item)
    (c : Scene) (w : Placing) (k : Banks) (t : State) : Type 0 where
  pub low : FixedAreLow g
  pub on : IsOn g t
  pub stands : CallStands g outer a frame passed needs func body types c w k t
  pub call : HasCall c
  pub waits : taken types [] values ≡ Some (args, Place a.func 0 ∷ vs)
  pub ends : HasEnds g a e
  pub owns : 1 ≤ owned_at g.owns (place_in g outer p)
  pub passes : (u : State) → IsAtEntry a t u → IsPassedIn reads t u → HasCome g a args w u
  pub does : (j : ℕ) → j < most → BodyDoes g a needs body result below vs j (end_cost a.frame + weight)
  pub goes : (j : ℕ) → j < most → GoesOnBehind g outer a frame passed result below vs j weight (turned c) w k t

-- the step of a call has the weight for its line, the entry and the end of the function
abbrev pub whole_cost : Active → ℕ
whole_cost a = 8 + (register_cost a.frame + end_cost a.frame)

-- A call by name does the step of a call, and all that it leads to up to the line behind it.
abbrev pub CallsByNameAreFollowed : Type 0
CallsByNameAreFollowed = (g : World) (outer a : Active) (name : Sym) (reads gives : RegSet) (passed needs n v weight p e : ℕ) (callee : Ty) (func : FuncTy) (body : Stmt) (types : List Ty) (result : Shape) (args vs values : List Value) (below : List Item)
    (c : Scene) (w : Placing) (k : Banks) (t : State) (seen : Seen)
    → IsPlacement g.code g.place → IsCallFrom g outer a p gives t → name.0 ≡ a.symbol → HasAt (lines_of g outer) p (lines.Call (Function name reads gives) ∷ [])
    → MayGo g outer a (frame_behind g outer p gives t) reads passed needs n weight p e func body types result args vs values below c w k t
    → whole_cost a + weight ≤ v + 4000 → HasTurns g c.turns (place_in g outer p) seen
    → Follows g n v (Running (Invoke callee types ∷ below) values c) (place_in g outer p) t seen

-- and so does one through a pointer
abbrev pub CallsThroughPointersAreFollowed : Type 0
CallsThroughPointersAreFollowed = (g : World) (outer a : Active) (reads gives : RegSet) (passed needs n v weight p e : ℕ) (callee : Ty) (func : FuncTy) (body : Stmt) (types : List Ty) (result : Shape) (args vs values : List Value) (below : List Item)
    (c : Scene) (w : Placing) (k : Banks) (t : State) (seen : Seen)
    → IsPlacement g.code g.place → IsCallFrom g outer a p gives t → IsCallee (setting_in g) t a.symbol → HasAt (lines_of g outer) p (lines.Call (Pointer reads gives) ∷ [])
    → MayGo g outer a (frame_behind g outer p gives t) (union_of reads ptr4_bytes) passed needs n weight p e func body types result args vs values below c w k t
    → whole_cost a + weight ≤ v + 4000 → HasTurns g c.turns (place_in g outer p) seen
    → Follows g n v (Running (Invoke callee types ∷ below) values c) (place_in g outer p) t seen
