-- Calls of routines lead from states that are near one another to such states again.
use Rattle.std.specs.Prelude.{◌≡◌, ◌≤◌}
use Rattle.c65_base.specs.declared.library.Library.{Library}
use Rattle.c65_code.specs.declared.line.Callee.TheVariants as callees
use Rattle.c65_code.specs.declared.line.Line.{Line}
use Rattle.c65_code.specs.declared.line.Line.TheVariants.{Call}
use Rattle.c65_code.specs.declared.parts.RegSet.{RegSet}
use Rattle.c65_code.specs.declared.routine.Routine.{Routine}
use Rattle.c65_code.specs.declared.routine.Routine.TheVariants as routines
use Rattle.c65_code.specs.Effects.{kept_at_calls, library_reads}
use Rattle.c65_code.specs.LineState.{State, sp_of, s_of, IsBytes}
use Rattle.c65_code.specs.Moves.{MeetsRow}
use Rattle.c65_code.specs.Parts.{union_of, IsWithin}
use Rattle.c65_code.specs.Placement.{Setting, stack_start}
use Rattle.c65_code.specs.Rows.{row_of}
use Rattle.c65_code.specs.Steady.{IsCalm, IsSteady, RowHasRoom}
use Rattle.c65_code.specs.Weights.{row_cost}
use Rattle.c65_opt_law_near.specs.Near.{before, Near}
use Rattle.c65_opt_law_near.specs.Laws.{IsLow}

abbrev pub called : Routine → Line
called r = Call (callees.Routine r)

-- a state to which the routine leads, near another one
pub record IsAnswered (r : Routine) (after : RegSet) (t u : State) : Type 0 where
  pub state : State
  pub meets : MeetsRow (row_of r t) t state
  pub bytes : IsBytes state
  pub near : Near after state u

-- From a state t in which the call has room, and leads to one whose sp lies in the software stack, and a state u near t: where
-- the routine leads from u, it leads from t to a state near that; it needs no more from u than from t, and costs the same.
pub record StaysNear (s : Setting) (r : Routine) (after : RegSet) (t u : State) : Type 0 where
  pub answered : (v w : State) → MeetsRow (row_of r t) t v → IsBytes v → stack_start ≤ sp_of v → MeetsRow (row_of r u) u w → IsBytes w → IsAnswered r after t w
  pub room : RowHasRoom s.place (row_of r u) u
  pub cost : row_cost (row_of r u) ≡ row_cost (row_of r t)

abbrev pub RoutinesStayNear : Type 0
RoutinesStayNear = (s : Setting) (out : RegSet) (r : Routine) → IsLow s.place → (after : RegSet) (t u : State) → IsSteady s (called r) t → s_of t ≡ s_of u
    → Near (before out (called r) after) t u → StaysNear s r after t u

-- The same where a function of the library is called by its name, or through a pointer: the call passes what the row reads, and
-- nothing is live behind it but what was live before it or may change.
abbrev pub LibraryCallsStayNear : Type 0
LibraryCallsStayNear = (s : Setting) (f : Library) (reads after : RegSet) (t u : State) → IsLow s.place → IsCalm s t → RowHasRoom s.place (row_of (routines.Library f) t) t → IsWithin (library_reads f) (union_of reads kept_at_calls)
    → s_of t ≡ s_of u → Near (union_of reads kept_at_calls) t u → StaysNear s (routines.Library f) after t u
