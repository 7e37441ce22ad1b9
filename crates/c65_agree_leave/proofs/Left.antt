-- The laws of calls that are left.
use Rattle.std.proofs.Common.{◌≡◌, ℕ, ◌+◌, ◌≤◌, List, [], ◌∷◌, Bool, true, false, refl, sym, ap, ◌∙◌, subst, arith}
use Rattle.std.specs.Prelude.{length}
use Rattle.c65_meaning.specs.Store.{Value}
use Rattle.c65_meaning.specs.Items.{Item}
use Rattle.c65_meaning.specs.State as meaning
use Rattle.c65_meaning.specs.State.{Scene, Running, Frame as Call}
use Rattle.c65_meaning.specs.Step.{frames_below, back_in, left_call}
use Rattle.c65_code.specs.LineState.{State, Frame, sp_of, s_of}
use Rattle.c65_code.specs.Comes.{Seen}
use Rattle.c65_agree_store.specs.Stands.{Placing, Banks}
use Rattle.c65_agree_state.specs.World.{World, unit_in, Active, place_in, HasTurns}
use Rattle.c65_agree_state.specs.Joins.{Joins, call_bytes}
use Rattle.c65_agree_state.specs.Follows.{Follows}
use Rattle.c65_agree_state.specs.Laws.{HasStacks}
use Rattle.c65_agree_between.specs.Stmts.{Between}
use Rattle.c65_agree_state.proofs.Followed.{ready_is_calm}
use Rattle.c65_agree_between.proofs.Between.{between_is_ready}
use Rattle.c65_agree_frame.specs.Ends.{MayEnd, end_cost}
use Rattle.c65_agree_frame.proofs.Ends.{ends_are_followed}
use Rattle.c65_agree_leave.specs.Calls.{scene_behind}
use Rattle.c65_agree_leave.specs.Laws.{CallsAreLeft, ReturnsAreFollowed, params_in}
use Rattle.c65_agree_leave.proofs.Endings.{arguments_else}
use Rattle.c65_agree_leave.proofs.Behind.{is_behind}

pub calls_are_left : CallsAreLeft
calls_are_left g a outer frame passed needs c0 c1 c w0 w1 w k0 k1 k t0 t1 t u placed j0 room e kept between left =
    is_behind g a outer frame passed needs c0 c1 c w0 w1 w k0 k1 k t0 t1 t u placed j0 room e kept between left

-- where there is a call behind, its value waits there
goes_back : (fs : List Call) (call : Call) (calls : List Call) (below : List Item) (vs : List Value) (c : Scene) (v : Value) → fs ≡ call ∷ calls → back_in fs below vs c v ≡ Running below (v ∷ vs) c
goes_back fs call calls below vs c v e = ap (λ xs. back_in xs below vs c v) e

-- where no value waits in the called function it may end
may_end : (g : World) (a : Active) (needs : ℕ) (scope : List ℕ) (c : Scene) (w : Placing) (k : Banks) (t : State) → Between g a needs scope c w k t → a.base + call_bytes a ≤ 65520
    → (a.frame.variadic ≡ false → a.raised ≡ 0) → (a.frame.variadic ≡ true → 1 ≤ a.frame.soft) → MayEnd g a t
may_end g a needs scope c w k t b high plain some =
    let stacks : HasStacks g t = ready_is_calm g a 0 needs c w k t (between_is_ready g a needs scope c w k t b) in
    let none : length t.pushed ≡ 0 = ap length b.none_pushed in
    record {
      on = record { stacks = stacks; running = b.joins.ended };
      none_pushed = b.none_pushed;
      hard = omega (arith, none, b.joins.hard, b.joins.few_calls);
      plain = plain;
      counted = λ v. (ap t.mem b.sp ∙ (b.joins.counted v ∙ omega arith), some v);
      within = omega (arith, b.sp, high);
    }

pub returns_are_followed : ReturnsAreFollowed
returns_are_followed g a outer frame passed needs c0 c1 c w0 w1 w k0 k1 k t0 t1 t call calls n weight p below vs v seen placed j0 room some e kept between plain soft has turned goes =
    let same = arguments_else (unit_in g) c in
    let j = between.joins in
    let back : left_call (unit_in g) v below vs c ≡ Running below (v ∷ vs) (scene_behind g c) = goes_back (frames_below c.frames) call calls below vs (scene_behind g c) v (j.calls ∙ (e.calls ∙ some)) in
    let may : MayEnd g a t = may_end g a needs (params_in g a) c w k t between (omega (arith, e.top, room, j0.top)) plain soft in
    let turns : c.turns ≡ (scene_behind g c).turns = sym same.turns in
    subst (λ m. Follows g n (end_cost a.frame + weight) m (place_in g a p) t seen) (sym back)
    (ends_are_followed g a frame outer.behind t n weight p c.turns (Running below (v ∷ vs) (scene_behind g c)) seen placed may (j.frames ∙ e.behind) has turned (λ u later left h.
    goes u later (is_behind g a outer frame passed needs c0 c1 c w0 w1 w k0 k1 k t0 t1 t u placed j0 room e kept between left) left.given (subst (λ x. HasTurns g x frame.back later) turns h)))
