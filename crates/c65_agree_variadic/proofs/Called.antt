-- A call of a function that takes further arguments, from its line to the line behind it.
use Rattle.std.proofs.Common.{◌≡◌, ℕ, suc, ◌+◌, ◌<◌, List, ◌∷◌, true, refl, sym, ap, ◌∙◌, subst, arith}
use Rattle.std.specs.Prelude.{Result, Ok, Err}
use Rattle.c65_ctype.specs.Trees.{Ty}
use Rattle.c65_csem.specs.Trees.{Stmt, FuncTy, UnitTy}
use Rattle.c65_meaning.specs.Why.{Why, ◌>>=◌}
use Rattle.c65_meaning.specs.Store.{Cell, Value, Shape}
use Rattle.c65_meaning.specs.Items.{Item, Leave, plan_stmt}
use Rattle.c65_meaning.specs.Calls.{is_variadic}
use Rattle.c65_meaning.specs.State as meaning
use Rattle.c65_meaning.specs.State.{Scene, Running, turned}
use Rattle.c65_meaning.specs.Step.{new_frame, with_params, with_passed, with_rest, further, begin_rest}
use Rattle.c65_code.specs.declared.parts.RegSet.{RegSet}
use Rattle.c65_code.specs.Parts.{union_of}
use Rattle.c65_code.specs.Effects.{ptr4_bytes}
use Rattle.c65_code.specs.LineState.{State, Frame}
use Rattle.c65_code.specs.Placement.{IsPlacement}
use Rattle.c65_agree_store.specs.Stands.{Placing, Banks}
use Rattle.c65_agree_state.specs.World.{World, unit_in, Active, place_in}
use Rattle.c65_agree_state.specs.Follows.{Follows}
use Rattle.c65_agree_between.specs.Stmts.{HasCall}
use Rattle.c65_agree_frame.specs.Ends.{end_cost}
use Rattle.c65_agree_leave.specs.Laws.{params_in}
use Rattle.c65_agree_call.specs.Calls.{frame_behind, GoesIn, cost_of, IsMeant, IsMade}
use Rattle.c65_agree_call.proofs.Called.{params_are, soft_few, hard_few, is_once, as_many, is_below, steps_by_name, steps_through_pointers}
use Rattle.c65_agree_variadic.specs.Frames.{further_cost}
use Rattle.c65_agree_variadic.specs.Calls.{MayCallFurther, FurtherCallStands, MayGoFurther}
use Rattle.c65_agree_variadic.specs.Laws.{FurtherCallsByNameAreFollowed, FurtherCallsThroughPointersAreFollowed}
use Rattle.c65_agree_variadic.proofs.Whole.{further_functions_are_followed}

-- ---- what the step begins

-- the parameters, and behind them the block of the further arguments
record AreBegun (u : UnitTy) (func : FuncTy) (types : List Ty) (args : List Value) (c c1 : Scene) : Type 0 where
  scene : Scene
  params : with_params u func.params args c ≡ Ok scene
  rest : c1 ≡ begin_rest (further u func types args) scene

abbrev with_further : UnitTy → FuncTy → List Ty → List Value → Scene → Result Scene Why
with_further u func types args d = Ok (with_rest (is_variadic func.ty) (further u func types args) d)

further_begun : (u : UnitTy) (func : FuncTy) (types : List Ty) (args : List Value) (c c1 : Scene) → is_variadic func.ty ≡ true → with_passed u func types args c ≡ Ok c1 → AreBegun u func types args c c1
further_begun u func types args c c1 more e = go (with_params u func.params args c) refl e
  where
    go : (r : Result Scene Why) → with_params u func.params args c ≡ r → (r >>= with_further u func types args) ≡ Ok c1 → AreBegun u func types args c c1
    go (Err why) f h = cc
    go (Ok d) f h =
        let full : with_rest (is_variadic func.ty) (further u func types args) d ≡ begin_rest (further u func types args) d = ap (λ b. with_rest b (further u func types args) d) more in
        let same : with_rest (is_variadic func.ty) (further u func types args) d ≡ c1 = cc in
        record { scene = d; params = f; rest = sym same ∙ full }

module _ (g : World) (outer a : Active) (frame : Frame) (passed needs : ℕ) (func : FuncTy) (body : Stmt) (types : List Ty) (args : List Value) (c : Scene) (w : Placing) (k : Banks) (t : State) (s : FurtherCallStands g outer a frame passed needs func body types args c w k t)
    (callee : Ty) (c1 : Scene) (h : IsMeant (unit_in g) callee types args a.func func body c c1) where
  abbrev framed : Scene
  framed = new_frame (unit_in g) a.func (cost_of (unit_in g) types body) (turned c)

  abbrev xs : List Cell
  xs = further (unit_in g) func types args

  abbrev made : IsMade g outer a frame passed needs func body types c w k t
  made = s.made

  own_params : params_in g a ≡ func.params
  own_params = params_are g outer a frame passed needs func body types c w k t made callee args c1 h

  begun : AreBegun (unit_in g) func types args framed c1
  begun = further_begun (unit_in g) func types args framed c1 s.further_too h.begun

  all_begun : with_params (unit_in g) (params_in g a) args framed ≡ Ok begun.scene
  all_begun = subst (λ is. with_params (unit_in g) is args framed ≡ Ok begun.scene) (sym own_params) begun.params

  may_call : HasCall c → MayCallFurther g outer a frame passed (cost_of (unit_in g) types body) needs xs (turned c) w k t
  may_call x = record {
    below = is_below g outer a frame passed needs func body types c w k t made callee args c1 h;
    called = record {
      function = func;
      is_function = made.is_function;
      params = sym own_params;
      once = is_once g outer a frame passed needs func body types c w k t made callee args c1 h;
      counts = s.framed.counts;
      raised = s.raised;
      above = s.above;
      calls = made.calls;
      as_many = as_many g outer a frame passed needs func body types c w k t made callee args c1 h x;
      first = made.first;
      homes = made.homes;
      distinct = made.distinct;
      top = omega (arith, made.below.top, made.below.within);
      high = made.below.joins.top;
      room = made.room;
      few = soft_few g outer a frame passed needs func body types c w k t made callee args c1 h;
      few_calls = hard_few g outer a frame passed needs func body types c w k t made callee args c1 h;
    };
    asked = made.asks;
  }

module _ (g : World) (outer a : Active) (frame : Frame) (reads : RegSet) (passed needs n weight p e : ℕ) (func : FuncTy) (body : Stmt) (types : List Ty) (result : Shape) (args vs values : List Value) (below : List Item)
    (c : Scene) (w : Placing) (k : Banks) (t : State) (placed : IsPlacement g.code g.place) (m : MayGoFurther g outer a frame reads passed needs n weight p e func body types result args vs values below c w k t) where
  abbrev inner : ℕ
  inner = further_cost a.frame + (end_cost a.frame + weight)

  abbrev work : Scene → meaning.State
  work c1 = Running (plan_stmt (unit_in g) 0 body (Leave ∷ below)) vs c1

  goes_in : (callee : Ty) (j : ℕ) (c1 : Scene) → j < n → IsMeant (unit_in g) callee types args a.func func body c c1 → GoesIn g a reads j inner (suc c.turns) (work c1) t
  goes_in callee j c1 lt h v later at in_registers come =
      let may = may_call g outer a frame passed needs func body types args c w k t m.stands callee c1 h m.call in
      let both = begun g outer a frame passed needs func body types args c w k t m.stands callee c1 h in
      let all = all_begun g outer a frame passed needs func body types args c w k t m.stands callee c1 h in
      subst (λ x. Follows g j inner (work x) (place_in g a 0) v later) (sym both.rest)
      (further_functions_are_followed g outer a frame passed (cost_of (unit_in g) types body) needs j weight e body result args vs (further (unit_in g) func types args) below m.call.0 m.call.1 (turned c) both.scene w k t v later placed m.low may
      m.stands.framed m.stands.made.moves m.call.2 at (m.passes v at in_registers) all m.ends come (m.does j lt) (m.goes j lt))

pub further_calls_by_name_are_followed : FurtherCallsByNameAreFollowed
further_calls_by_name_are_followed g outer a name reads gives passed needs n v weight p e callee func body types result args vs values below c w k t seen placed from same has m enough turned_at =
    steps_by_name g outer a func body types args vs values below reads n (further_cost a.frame + (end_cost a.frame + weight)) p callee c t seen m.stands.made.is_function m.stands.made.has_body m.waits m.on m.stands.made.below.joins.output turned_at m.owns name gives v from same has (omega (arith, enough))
    (goes_in g outer a (frame_behind g outer p gives t) reads passed needs n weight p e func body types result args vs values below c w k t placed m callee)

pub further_calls_through_pointers_are_followed : FurtherCallsThroughPointersAreFollowed
further_calls_through_pointers_are_followed g outer a reads gives passed needs n v weight p e callee func body types result args vs values below c w k t seen placed from is_callee has m enough turned_at =
    steps_through_pointers g outer a func body types args vs values below reads n (further_cost a.frame + (end_cost a.frame + weight)) p callee c t seen m.stands.made.is_function m.stands.made.has_body m.waits m.on m.stands.made.below.joins.output turned_at m.owns gives v placed from is_callee has (omega (arith, enough))
    (goes_in g outer a (frame_behind g outer p gives t) (union_of reads ptr4_bytes) passed needs n weight p e func body types result args vs values below c w k t placed m callee)
