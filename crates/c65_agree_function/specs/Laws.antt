-- A function of a program has its lines, and they do the work of its body.
use Rattle.std.specs.Prelude.{◌≡◌, ℕ, ◌+◌, ◌≤◌, Some, List, length}
use Rattle.c65_csem.specs.Trees.{Stmt, FuncTy}
use Rattle.c65_meaning.specs.Store.{Value, Shape}
use Rattle.c65_meaning.specs.Items.{Item}
use Rattle.c65_meaning.specs.State.{Scene}
use Rattle.c65_meaning.specs.Start.{main_values}
use Rattle.c65_code.specs.LineState.{State, sp_of}
use Rattle.c65_code.specs.Placement.{IsPlacement, stack_end}
use Rattle.c65_code.specs.Starts.{IsStart}
use Rattle.c65_genframe.specs.Frames.{saved_bytes}
use Rattle.c65_genstmt.specs.Stmts.{ways}
use Rattle.c65_agree_store.specs.Stands.{Placing, Banks}
use Rattle.c65_agree_state.specs.World.{World, unit_in, Active}
use Rattle.c65_agree_state.specs.Joins.{call_bytes}
use Rattle.c65_agree_frame.specs.Entries.{arriving, IsPlainFrame}
use Rattle.c65_agree_start.specs.First.{first_placing}
use Rattle.c65_agree_leave.specs.Laws.{params_in}
use Rattle.c65_agree_call.specs.Calls.{HasEnds, HasCome, BodyDoes}
use Rattle.c65_agree_homes.specs.Turns.{first_label, CountsTurns}
use Rattle.c65_agree_homes.specs.Frames.{IsCallIn}
use Rattle.c65_agree_homes.specs.Work.{HasWork}
use Rattle.c65_agree_function.specs.Functions.{calling_of, MainGives, end_line, TakesProgramArguments}

-- its entry and its end stand among its lines, of which each label has one place
abbrev pub FunctionsHaveEnds : Type 0
FunctionsHaveEnds = (g : World) (names : List (List ℕ)) (a : Active) (f : FuncTy) (body : Stmt) → IsCallIn g names a f → f.body ≡ Some body → HasEnds g a (end_line g a body)

-- Where the expressions and initial values of the body do their work, the lines of the body do its work, up to each end of the call.
abbrev pub FunctionsDo : Type 0
FunctionsDo = (g : World) (names : List (List ℕ)) (a : Active) (f : FuncTy) (body : Stmt) (needs : ℕ) (result : Shape) (below : List Item) (vs : List Value) (n v : ℕ)
    → IsCallIn g names a f → f.body ≡ Some body → IsPlacement g.code g.place → a.base + call_bytes a ≤ stack_end → CountsTurns g → MainGives g a result
    → ((c : Scene) (q : Placing) (b : Banks) (t : State) → HasWork (calling_of g a needs body result below vs n v c q b t) (params_in g a) 0 body (ways 0 0 0) 0 (first_label body))
    → BodyDoes g a needs body result below vs n v

-- Where main begins its arguments lie where its entry takes its parameters from: at their homes, or the last one in registers
-- (C90 5.1.2.2.1).
abbrev pub MainsArgumentsLie : Type 0
MainsArgumentsLie = (g : World) (names args : List (List ℕ)) (a : Active) (f : FuncTy) (input : List ℕ) (t : State)
    → IsCallIn g names a f → a.func ≡ g.main → IsPlainFrame a.frame → TakesProgramArguments (unit_in g) f.params → IsStart g.code g.place args input t
    → a.base + (a.frame.soft + (saved_bytes a.frame.bank + length (arriving a.frame.last t))) ≡ sp_of t
    → HasCome g a (main_values (unit_in g) args f.params) (first_placing g args) t
