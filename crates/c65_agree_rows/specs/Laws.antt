-- Calls of the runtime's routines in an expression: what their rows say as steps of the relation of scenes and states.
use Rattle.std.specs.Prelude.{◌≡◌, ℕ, suc, ◌+◌, ◌*◌, ◌<◌, ◌≤◌, Some, None, length, slice_get}
use Rattle.c65_code.specs.declared.routine.Routine.{Routine}
use Rattle.c65_code.specs.declared.routine.Routine.TheVariants as routines
use Rattle.c65_code.specs.declared.routine.Width.{Width}
use Rattle.c65_code.specs.declared.routine.TosOp.{TosOp}
use Rattle.c65_code.specs.declared.routine.UnaryRoutine.{UnaryRoutine}
use Rattle.c65_code.specs.LineState.{State, sp_of, ax_of, eax_of, IsBytes}
use Rattle.c65_code.specs.Numbers.{words_of, tos_result, result_width, unary_result, unary_width}
use Rattle.c65_code.specs.Placement.{IsPlacement, stack_start, stack_end}
use Rattle.c65_code.specs.Rows.{Row, Meets, row_of, primary_of, number_at, size_of}
use Rattle.c65_code.specs.Moves.{MeetsRow}
use Rattle.c65_code.specs.Steady.{IsOpen, RowHasRoom}
use Rattle.c65_code.specs.Weights.{row_cost}
use Rattle.c65_code.specs.Comes.{Seen, seen_at}
use Rattle.c65_genwide.specs.Lines.{call}
use Rattle.c65_meaning.specs.State as meaning
use Rattle.c65_meaning.specs.State.{Scene}
use Rattle.c65_agree_store.specs.Stands.{Placing, Banks}
use Rattle.c65_agree_state.specs.World.{World, Active, lines_of, place_in}
use Rattle.c65_agree_state.specs.Follows.{Follows}
use Rattle.c65_agree_state.specs.Exprs.{Ready, Kept}
use Rattle.c65_agree_state.specs.Laws.{OnlyScratch}
use Rattle.c65_agree_rows.specs.Rows.{IsQuiet, WriteBelow, Pushing, push_of, pushed_by, ArePushed, ArePopped, Moving, raising_of, lowering_of, moved_by, AreLeft, Widening, widening_of, IsWidened, NearLoad, near_load_of, IsOffset, near_width, IsNearLoaded, FarLoad, far_load_of, far_width, IsFarLoaded}

-- ---- any routine

-- a quiet row that writes below a bound alone, which sp does not exceed, leaves other scratch bytes alone
abbrev pub QuietRowsScratch : Type 0
QuietRowsScratch = (base : ℕ) (row : Row) (t u : State) → IsQuiet row → WriteBelow base row.writes → Meets row t u → IsBytes u → t.ended ≡ None
    → stack_start + 64 ≤ sp_of t → sp_of t ≤ base → OnlyScratch base t u

-- a routine that has its room goes, within its cost, before what is followed behind its line
abbrev pub RoutinesAreFollowed : Type 0
RoutinesAreFollowed = (g : World) (a : Active) (pushed needs : ℕ) (c : Scene) (w : Placing) (k : Banks) (t : State) (n v p : ℕ) (m : meaning.State) (seen : Seen) (r : Routine)
    → Ready g a pushed needs c w k t → slice_get (lines_of g a) p ≡ Some (call r) → RowHasRoom g.place (row_of r t) t
    → ((u : State) → MeetsRow (row_of r t) t u → IsBytes u → Follows g n v m (place_in g a (suc p)) u (seen_at (place_in g a (suc p)) seen))
    → Follows g n (row_cost (row_of r t) + v) m (place_in g a p) t seen

-- ---- families of routines

-- The routine has its room in the state t, and whatever it leaves open, the state behind it is of this kind.
pub record Runs (g : World) (r : Routine) (t : State) (Behind : State → Type 0) : Type 0 where
  pub room : RowHasRoom g.place (row_of r t) t
  pub behind : (u : State) → MeetsRow (row_of r t) t u → IsBytes u → Behind u

-- a value that is to wait is pushed, where one may still wait
pub record IsReadyPushed (g : World) (a : Active) (pushed needs : ℕ) (c : Scene) (w : Placing) (k : Banks) (push : Pushing) (t u : State) : Type 0 where
  pub ready : Ready g a (pushed + length (pushed_by push t)) needs c w k u
  pub are : ArePushed (pushed_by push t) t u

abbrev pub PushesRun : Type 0
PushesRun = (g : World) (a : Active) (pushed needs : ℕ) (c : Scene) (w : Placing) (k : Banks) (t : State) (push : Pushing)
    → IsPlacement g.code g.place → Ready g a pushed (1 + needs) c w k t → Runs g (push_of push) t (IsReadyPushed g a pushed needs c w k push t)

-- an operator takes the value that waits, and gives its result
pub record IsReadyPopped (g : World) (a : Active) (pushed needs : ℕ) (c : Scene) (w : Placing) (k : Banks) (op : TosOp) (width : Width) (v : ℕ) (t u : State) : Type 0 where
  pub ready : Ready g a pushed needs c w k u
  pub are : ArePopped (size_of width) t u
  pub result : primary_of (result_width op width) u ≡ v

abbrev pub OperatorsRun : Type 0
OperatorsRun = (g : World) (a : Active) (pushed needs : ℕ) (c : Scene) (w : Placing) (k : Banks) (t : State) (op : TosOp) (width : Width) (v : ℕ)
    → IsPlacement g.code g.place → Ready g a (pushed + size_of width) needs c w k t
    → tos_result op width (number_at width t.mem (sp_of t)) (primary_of width t) ≡ Some v → v < words_of (result_width op width)
    → Runs g (routines.Tos op width) t (IsReadyPopped g a pushed needs c w k op width v t)

-- sp is raised over bytes that wait; A, X and sreg stay
pub record IsRaised (g : World) (a : Active) (pushed needs : ℕ) (c : Scene) (w : Placing) (k : Banks) (count : ℕ) (t u : State) : Type 0 where
  pub ready : Ready g a pushed needs c w k u
  pub are : ArePopped count t u
  pub value : eax_of u ≡ eax_of t

abbrev pub RaisesRun : Type 0
RaisesRun = (g : World) (a : Active) (pushed needs : ℕ) (c : Scene) (w : Placing) (k : Banks) (t : State) (move : Moving)
    → IsPlacement g.code g.place → Ready g a (pushed + moved_by move t) needs c w k t → Runs g (raising_of move) t (IsRaised g a pushed needs c w k (moved_by move t) t)

-- sp is lowered, where as many bytes may still wait
pub record IsLowered (g : World) (a : Active) (pushed needs : ℕ) (c : Scene) (w : Placing) (k : Banks) (count : ℕ) (t u : State) : Type 0 where
  pub ready : Ready g a (pushed + count) needs c w k u
  pub are : AreLeft count t u
  pub value : eax_of u ≡ eax_of t

abbrev pub LowersRun : Type 0
LowersRun = (g : World) (a : Active) (pushed more needs : ℕ) (c : Scene) (w : Placing) (k : Banks) (t : State) (move : Moving)
    → IsPlacement g.code g.place → Ready g a pushed (more + needs) c w k t → moved_by move t ≤ 8 * more → Runs g (lowering_of move) t (IsLowered g a pushed needs c w k (moved_by move t) t)

-- all is kept that an expression keeps, and the primary register has the result
pub record IsKeptWith (g : World) (a : Active) (c : Scene) (w : Placing) (k : Banks) (t : State) (Result : State → Type 0) (u : State) : Type 0 where
  pub kept : Kept g a c w k t c w k u
  pub result : Result u

abbrev pub OppositesRun : Type 0
OppositesRun = (g : World) (a : Active) (pushed needs : ℕ) (c : Scene) (w : Placing) (k : Banks) (t : State) (op : UnaryRoutine) (width : Width)
    → IsPlacement g.code g.place → Ready g a pushed needs c w k t → unary_result op width (primary_of width t) < words_of (unary_width op width)
    → Runs g (routines.Unary op width) t (IsKeptWith g a c w k t (λ u. primary_of (unary_width op width) u ≡ unary_result op width (primary_of width t)))

abbrev pub WideningsRun : Type 0
WideningsRun = (g : World) (a : Active) (pushed needs : ℕ) (c : Scene) (w : Placing) (k : Banks) (t : State) (widening : Widening)
    → IsPlacement g.code g.place → Ready g a pushed needs c w k t → Runs g (widening_of widening) t (IsKeptWith g a c w k t (IsWidened widening t))

-- a load at offset o from sp, within the software stack
abbrev pub NearLoadsRun : Type 0
NearLoadsRun = (g : World) (a : Active) (pushed needs : ℕ) (c : Scene) (w : Placing) (k : Banks) (t : State) (load : NearLoad) (o : ℕ)
    → IsPlacement g.code g.place → Ready g a pushed needs c w k t → IsOffset load o t.regs.y → sp_of t + o + near_width load ≤ stack_end
    → Runs g (near_load_of load) t (IsKeptWith g a c w k t (IsNearLoaded load (sp_of t + o) t))

-- a load from the address in AX, of bytes that lie in data or at or above sp
abbrev pub FarLoadsRun : Type 0
FarLoadsRun = (g : World) (a : Active) (pushed needs : ℕ) (c : Scene) (w : Placing) (k : Banks) (t : State) (load : FarLoad)
    → IsPlacement g.code g.place → Ready g a pushed needs c w k t → ((i : ℕ) → i < far_width load → IsOpen g.place (sp_of t) (ax_of t + i))
    → Runs g (far_load_of load) t (IsKeptWith g a c w k t (IsFarLoaded load t))
