-- A function is left, and its caller goes on.
use Rattle.std.specs.Prelude.{◌≡◌, ℕ, ◌+◌, ◌≤◌, true, false, IsTrue, List, ◌∷◌, slice_get}
use Rattle.c65_meaning.specs.Store.{Value}
use Rattle.c65_meaning.specs.Items.{Item}
use Rattle.c65_meaning.specs.State.{Scene, Running, Frame as Call}
use Rattle.c65_meaning.specs.Step.{params_of, left_call}
use Rattle.c65_code.specs.declared.parts.Part.{Part}
use Rattle.c65_code.specs.Parts.{has_part}
use Rattle.c65_code.specs.LineState.{State, Frame, Same, sp_of}
use Rattle.c65_code.specs.Placement.{IsPlacement}
use Rattle.c65_code.specs.Moves.{common_of}
use Rattle.c65_code.specs.Comes.{Seen}
use Rattle.c65_genentry.specs.Ends.{end_code}
use Rattle.c65_agree_store.specs.Stands.{Placing, Banks}
use Rattle.c65_agree_state.specs.World.{World, unit_in, setting_in, Active, lines_of, place_in, HasAt, HasTurns}
use Rattle.c65_agree_state.specs.Joins.{Joins}
use Rattle.c65_agree_state.specs.Follows.{Follows}
use Rattle.c65_agree_between.specs.Stmts.{Between, Keeping}
use Rattle.c65_agree_frame.specs.Ends.{IsPrimary, IsLeft, end_cost}
use Rattle.c65_agree_leave.specs.Calls.{IsEntered, scene_behind, IsBehind}

-- the parameters of the called function
abbrev pub params_in : World → Active → List ℕ
params_in g a = params_of (slice_get (unit_in g).funcs a.func)

-- Where a called function may end, with no object open but its parameters, and its end has brought sp and regbank back, the scene behind
-- the call belongs to the state again, as the outer function's.
abbrev pub CallsAreLeft : Type 0
CallsAreLeft = (g : World) (a outer : Active) (frame : Frame) (passed needs : ℕ) (c0 c1 c : Scene) (w0 w1 w : Placing) (k0 k1 k : Banks) (t0 t1 t u : State)
    → IsPlacement g.code g.place → Joins g outer c0 w0 k0 t0 → sp_of t0 + passed ≤ outer.base
    → IsEntered a outer frame passed c0 w0 k0 t0 c1 w1 k1 t1 → Keeping a c1 w1 k1 t1 c w k t → Between g a needs (params_in g a) c w k t
    → IsLeft g a frame outer.behind t u → IsBehind g outer passed c0 w0 k0 t0 (scene_behind g c) w k u

-- The lines of the end do the step that leaves a call (but for that of main, whose return ends the run): behind the call its value waits,
-- and what of the primary register both the call and the function give is as it was.
abbrev pub ReturnsAreFollowed : Type 0
ReturnsAreFollowed = (g : World) (a outer : Active) (frame : Frame) (passed needs : ℕ) (c0 c1 c : Scene) (w0 w1 w : Placing) (k0 k1 k : Banks) (t0 t1 t : State)
    (call : Call) (calls : List Call) (n weight p : ℕ) (below : List Item) (vs : List Value) (v : Value) (seen : Seen)
    → IsPlacement g.code g.place → Joins g outer c0 w0 k0 t0 → sp_of t0 + passed ≤ outer.base → c0.frames ≡ call ∷ calls
    → IsEntered a outer frame passed c0 w0 k0 t0 c1 w1 k1 t1 → Keeping a c1 w1 k1 t1 c w k t → Between g a needs (params_in g a) c w k t
    → (a.frame.variadic ≡ false → a.raised ≡ 0) → (a.frame.variadic ≡ true → 1 ≤ a.frame.soft)
    → HasAt (lines_of g a) p (end_code a.frame) → HasTurns g c.turns (place_in g a p) seen
    → ((u : State) (later : Seen) → IsBehind g outer passed c0 w0 k0 t0 (scene_behind g c) w k u
    → ((part : Part) → IsPrimary part → IsTrue (has_part (common_of frame.gives ((setting_in g).gives a.symbol)) part) → Same part t u)
    → HasTurns g (scene_behind g c).turns frame.back later → Follows g n weight (Running below (v ∷ vs) (scene_behind g c)) frame.back u later)
    → Follows g n (end_cost a.frame + weight) (left_call (unit_in g) v below vs c) (place_in g a p) t seen
