-- From the first line of a called function to the line behind the call.
use Rattle.std.proofs.Common.{◌≡◌, ℕ, suc, ◌+◌, ◌≤◌, List, ◌∷◌, true, false, length, sym, ap, ◌∙◌, subst, arith}
use Rattle.std.specs.Prelude.{sum_by, slice_get, Some}
use Rattle.std.proofs.lemmas.List.Sums.{sum_by-cons}
use Rattle.c65_csem.specs.Trees.{Stmt}
use Rattle.c65_meaning.specs.Store.{Value, Shape}
use Rattle.c65_meaning.specs.Items.{Item, Leave, plan_stmt}
use Rattle.c65_meaning.specs.State.{Scene, Running, soft_sum, hard_sum, Frame as Call}
use Rattle.c65_meaning.specs.Step.{left_call, new_frame}
use Rattle.c65_code.specs.declared.line.Line.TheVariants.{Label}
use Rattle.c65_code.specs.LineState.{Bytes, State, Frame, sp_of, s_of, hard_bytes}
use Rattle.c65_code.specs.Placement.{IsPlacement, stack_start, stack_end}
use Rattle.c65_code.specs.Moves.{labelled}
use Rattle.c65_code.specs.Comes.{Seen}
use Rattle.c65_genentry.specs.Entry.{entry_code}
use Rattle.c65_agree_store.specs.Stands.{Placing, Banks}
use Rattle.c65_agree_step.proofs.Ways.{labels_are_passed}
use Rattle.c65_agree_state.specs.World.{World, unit_in, setting_in, Active, lines_of, place_in, IsPlaced, HasTurns}
use Rattle.c65_agree_state.specs.Follows.{Follows}
use Rattle.c65_agree_between.specs.Stmts.{ReturnLeads}
use Rattle.c65_agree_frame.specs.Leads.{Leads, IsOn}
use Rattle.c65_agree_frame.specs.Ends.{end_cost}
use Rattle.c65_agree_frame.proofs.Leads.{leads_as}
use Rattle.c65_agree_leave.specs.Calls.{scene_behind}
use Rattle.c65_agree_leave.specs.Laws.{params_in}
use Rattle.c65_agree_leave.proofs.Left.{returns_are_followed}
use Rattle.c65_agree_registers.specs.Checks.{asked_by}
use Rattle.c65_agree_registers.specs.Entries.{HasMoved, register_cost}
use Rattle.c65_agree_enter.specs.Entries.{MayEnter, HasEntered, banks_with}
use Rattle.c65_agree_enter.specs.Laws.{IsAtEntry}
use Rattle.c65_agree_enter.proofs.Entered.{callers_may_enter}
use Rattle.c65_agree_enter.proofs.Lines.{entries_enter, entries_keep}
use Rattle.c65_agree_call.specs.Calls.{IsBelow, HasEnds, HasBegun, BodyDoes, GoesOnBehind}
use Rattle.c65_agree_call.specs.Laws.{FunctionsAreFollowed}
use Rattle.c65_agree_call.proofs.Meant.{params_sums}

-- ---- at the first line

module _ (g : World) (outer a : Active) (frame : Frame) (passed : ℕ) (c0 : Scene) (w0 : Placing) (k0 : Banks) (t0 t : State) (b : IsBelow g outer a frame passed c0 w0 k0 t0) (at : IsAtEntry a t0 t) where
  -- the hard stack has two bytes more
  hard_is : hard_bytes t ≡ 2 + hard_bytes t0
  hard_is =
      let mine : length t.pushed ≡ 0 = ap length at.none_pushed in
      let none : length t0.pushed ≡ 0 = ap length b.none_pushed in
      let its : length frame.pushed ≡ 0 = ap length b.pushed ∙ none in
      let all : sum_by (λ (f : Frame). 2 + length f.pushed) t.frames ≡ 2 + length frame.pushed + sum_by (λ (f : Frame). 2 + length f.pushed) outer.behind = ap (sum_by (λ (f : Frame). 2 + length f.pushed)) (at.frames ∙ b.behind) ∙ sum_by-cons (λ (f : Frame). 2 + length f.pushed) frame outer.behind in
      let before : sum_by (λ (f : Frame). 2 + length f.pushed) t0.frames ≡ sum_by (λ (f : Frame). 2 + length f.pushed) outer.behind = ap (sum_by (λ (f : Frame). 2 + length f.pushed)) b.joins.frames in
      omega (arith, mine, none, its, all, before)

  pub hard_left : 2 + hard_sum c0.frames ≤ 224 → 255 ≤ s_of t + (2 + hard_sum c0.frames)
  hard_left few =
      let none : length t0.pushed ≡ 0 = ap length b.none_pushed in
      omega (arith, hard_is, none, b.joins.hard, few)

  pub entry_on : 2 + hard_sum c0.frames ≤ 224 → stack_start + 64 ≤ sp_of t → IsOn g t
  entry_on few soft = record {
    stacks = record {
      calm = record {
        low = omega (arith, soft);
        high = omega (arith, at.sp, b.within, b.joins.top);
        hard = omega (arith, hard_left few, few);
        constant = λ n v e. ap (λ (x : Bytes). x n) at.mem ∙ b.joins.constant n v e;
        bytes = at.bytes;
      };
      soft = soft;
      hard = omega (arith, hard_left few, few);
    };
    running = at.ended ∙ b.joins.ended;
  }

  pub may_enter : MayEnter g (length a.behind) outer.base c0 w0 k0 t0
  may_enter =
      let deeper : length a.behind ≡ suc (length outer.behind) = ap length b.behind in
      subst (λ d. MayEnter g d outer.base c0 w0 k0 t0) (sym deeper) (callers_may_enter g outer c0 w0 k0 t0 b.joins)

-- the end of the function stands behind its label
pub end_place : (g : World) (a : Active) (e : ℕ) → IsPlaced (lines_of g a) → slice_get (lines_of g a) e ≡ Some (Label 0) → place_in g a (labelled (lines_of g a) 0) ≡ place_in g a (suc e)
end_place g a e single is = ap (place_in g a) (single e 0 is) ∙ labels_are_passed (setting_in g) a.symbol e 0 is

-- From the first line of any function to the line behind the call, where the lines of its entry lead to its first statement.
pub entered_functions_are_followed : (g : World) (outer a : Active) (frame : Frame) (passed needs n weight cost e : ℕ) (body : Stmt) (result : Shape) (vs : List Value) (below : List Item)
    (call : Call) (calls : List Call) (c0 c1 : Scene) (w0 : Placing) (k0 : Banks) (t0 t : State) (seen : Seen)
    → IsPlacement g.code g.place → IsBelow g outer a frame passed c0 w0 k0 t0 → c0.frames ≡ call ∷ calls → a.first ≡ c0.next → c1.turns ≡ c0.turns
    → (a.frame.variadic ≡ false → a.raised ≡ 0) → (a.frame.variadic ≡ true → 1 ≤ a.frame.soft) → HasEnds g a e → HasTurns g c0.turns (place_in g a 0) seen
    → Leads g a (entry_code a.frame) cost t (HasBegun g outer a frame passed needs c0 w0 k0 t0 c1)
    → BodyDoes g a needs body result below vs n (end_cost a.frame + weight) → GoesOnBehind g outer a frame passed result below vs n weight c0 w0 k0 t0
    → Follows g n (cost + (end_cost a.frame + weight)) (Running (plan_stmt (unit_in g) 0 body (Leave ∷ below)) vs c1) (place_in g a 0) t seen
entered_functions_are_followed g outer a frame passed needs n weight cost e body result vs below call calls c0 c1 w0 k0 t0 t seen placed b some own same fixed counts ends turned leads does goes =
    leads n (end_cost a.frame + weight) 0 c1.turns (Running (plan_stmt (unit_in g) 0 body (Leave ∷ below)) vs c1) seen ends.entry (subst (λ x. HasTurns g x (place_in g a 0) seen) (sym same) turned) (λ t1 later h first.
    subst (λ z. Follows g n (end_cost a.frame + weight) (Running (plan_stmt (unit_in g) 0 body (Leave ∷ below)) vs c1) (place_in g a z) t1 later) (sym first_statement)
    (does c1 h.entered.placing (banks_with a t1 k0) t1 later (let next = h.entered.next in omega (arith, own, next)) h.entered.between (subst (λ z. HasTurns g c1.turns (place_in g a z) later) first_statement first) (ended t1 h)))
  where
    first_statement : 0 + length (entry_code a.frame) ≡ length (entry_code a.frame)
    first_statement = omega arith

    place : place_in g a (labelled (lines_of g a) 0) ≡ place_in g a (suc e)
    place = end_place g a e ends.single ends.end.0

    ended : (t1 : State) (h : HasBegun g outer a frame passed needs c0 w0 k0 t0 c1 t1) → ReturnLeads g a needs c1 h.entered.placing (banks_with a t1 k0) t1 (params_in g a) result below vs n (end_cost a.frame + weight)
    ended t1 h j v c q k t2 seen2 lt between keeping value fits back_at =
        subst (λ x. Follows g j (end_cost a.frame + weight) (left_call (unit_in g) v below vs c) x t2 seen2) (sym place)
        (returns_are_followed g a outer frame passed needs c0 c1 c w0 h.entered.placing q k0 (banks_with a t1 k0) k t0 t1 t2 call calls j weight (suc e) below vs v seen2 placed b.joins b.within some h.keeps keeping between
        fixed counts ends.end.1 (subst (λ x. HasTurns g c.turns x seen2) place back_at) (λ u later back given there.
        goes j v (scene_behind g c) q k u later lt (record { behind = back; fits = fits; last = t2; value = value; given = given }) there))

pub functions_are_followed : FunctionsAreFollowed
functions_are_followed g outer a frame passed cost needs n weight e body result args vs below call calls c0 c1 w0 k0 t0 t seen placed low m has some at come begun ends turned does goes =
    entered_functions_are_followed g outer a frame passed needs n weight (register_cost a.frame) e body result vs below call calls c0 c1 w0 k0 t0 t seen placed m.below some m.called.first
    (params_sums (unit_in g) (params_in g a) args (new_frame (unit_in g) a.func cost c0) c1 begun).turns (λ x. m.none_raised) (λ x. absurd (let clash : false ≡ true = sym m.called.plain ∙ x in cc)) ends turned
    (leads_as g a (entry_code a.frame) (register_cost a.frame) (register_cost a.frame) t (λ t1. HasEntered g a needs (params_in g a) c0 w0 k0 t0 c1 t1 × HasMoved a.frame t t1) (HasBegun g outer a frame passed needs c0 w0 k0 t0 c1) (omega arith) kept
    (entries_enter g a outer.base cost needs (params_in g a) args c0 c1 w0 k0 t0 t placed low (may_enter g outer a frame passed c0 w0 k0 t0 t m.below at) at m.called
    (entry_on g outer a frame passed c0 w0 k0 t0 t m.below at m.called.few_calls (omega (arith, come.stacked, base_high))) (subst (λ s. stack_end + asked_by a.frame.check ≤ s + (cost + soft_sum c0.frames)) (sym at.sp) m.asked) has base_high come.stacked come.few come.lies
    (hard_left g outer a frame passed c0 w0 k0 t0 t m.below at m.called.few_calls) begun)) does goes
  where
    -- the software stack has room for a routine below the frame
    base_high : stack_start + 64 ≤ a.base
    base_high = omega (arith, m.called.room, m.called.few)

    kept : (t1 : State) → HasEntered g a needs (params_in g a) c0 w0 k0 t0 c1 t1 × HasMoved a.frame t t1 → HasBegun g outer a frame passed needs c0 w0 k0 t0 c1 t1
    kept t1 h = record { entered = h.0; keeps = entries_keep g a outer frame passed needs (params_in g a) c0 c1 w0 k0 t0 t t1 m.below.joins m.called.calls m.below.behind m.below.pushed m.below.top m.called.first has at h.1 h.0 }
