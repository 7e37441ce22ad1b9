-- Where main ends the run ends, with the low byte of its value as status (C90 5.1.2.2.3).
use Rattle.std.specs.Prelude.{◌≡◌, ℕ, ◌+◌, ◌≤◌, false, IsTrue, Ok, List, [], ◌∷◌}
use Rattle.c65_ints.specs.declared.types.IntType.TheVariants.{Int}
use Rattle.c65_csem.specs.Trees.{Stmt}
use Rattle.c65_meaning.specs.Store.{Value, Number}
use Rattle.c65_meaning.specs.Items.{Item, Leave, plan_stmt}
use Rattle.c65_meaning.specs.State.{Scene, Running}
use Rattle.c65_meaning.specs.Step.{with_params, new_frame}
use Rattle.c65_code.specs.declared.parts.Part.TheVariants.{A}
use Rattle.c65_code.specs.Parts.{has_part}
use Rattle.c65_code.specs.LineState.{State}
use Rattle.c65_code.specs.Placement.{IsPlacement, stack_end}
use Rattle.c65_code.specs.Comes.{Seen}
use Rattle.c65_genentry.specs.Entry.{entry_code}
use Rattle.c65_agree_store.specs.Stands.{Placing, Banks}
use Rattle.c65_agree_state.specs.World.{World, unit_in, setting_in, Active, place_in, HasTurns}
use Rattle.c65_agree_state.specs.Joins.{call_bytes}
use Rattle.c65_agree_state.specs.Follows.{Follows}
use Rattle.c65_agree_between.specs.Stmts.{ReturnLeads}
use Rattle.c65_agree_frame.specs.Leads.{Leads}
use Rattle.c65_agree_frame.specs.Ends.{end_cost}
use Rattle.c65_agree_leave.specs.Laws.{params_in}
use Rattle.c65_agree_enter.specs.Entries.{HasEntered}
use Rattle.c65_agree_call.specs.Calls.{HasEnds, BodyDoes}

-- The first call of main, behind which there is none: it takes no further arguments, lies on the software stack, gives A, and has its
-- end among its lines.
pub record IsFirstCall (g : World) (a : Active) (e : ℕ) : Type 0 where
  pub first : a.behind ≡ []
  pub plain : a.frame.variadic ≡ false
  pub none_raised : a.raised ≡ 0
  pub high : a.base + call_bytes a ≤ stack_end
  pub gives : IsTrue (has_part ((setting_in g).gives a.symbol) A)
  pub ends : HasEnds g a e

-- Its end does the step that leaves it: both runs end with the low byte of the value, and of no number the meaning has none.
abbrev pub MainsReturn : Type 0
MainsReturn = (g : World) (a : Active) (e needs n weight : ℕ) (c1 : Scene) (w1 : Placing) (k1 : Banks) (t1 : State) (below : List Item) (vs : List Value)
    → IsPlacement g.code g.place → IsFirstCall g a e
    → ReturnLeads g a needs c1 w1 k1 t1 (params_in g a) (Number Int) below vs n (end_cost a.frame + weight)

-- From its first line on, whatever the lines of its entry do to enter it: where its body does its work for so many steps, the whole is
-- followed, to the end of the run.
abbrev pub MainIsFollowed : Type 0
MainIsFollowed = (g : World) (a : Active) (e cost needs n weight entry : ℕ) (body : Stmt) (args vs : List Value) (below : List Item) (c0 c1 : Scene) (w0 : Placing) (k0 : Banks) (t0 t : State) (seen : Seen)
    → IsPlacement g.code g.place → IsFirstCall g a e → a.first ≡ c0.next
    → with_params (unit_in g) (params_in g a) args (new_frame (unit_in g) a.func cost c0) ≡ Ok c1
    → Leads g a (entry_code a.frame) entry t (HasEntered g a needs (params_in g a) c0 w0 k0 t0 c1) → HasTurns g c0.turns (place_in g a 0) seen
    → BodyDoes g a needs body (Number Int) below vs n (end_cost a.frame + weight)
    → Follows g n (entry + (end_cost a.frame + weight)) (Running (plan_stmt (unit_in g) 0 body (Leave ∷ below)) vs c1) (place_in g a 0) t seen
