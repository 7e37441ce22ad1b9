-- A call, from its line to the line behind it.
use Rattle.std.proofs.Common.{◌≡◌, ℕ, suc, ◌+◌, ◌<◌, ◌≤◌, ◌⊎◌, inl, inr, List, [], ◌∷◌, Bool, true, false, length, refl, sym, ap, ◌∙◌, subst, arith}
use Rattle.std.specs.Prelude.{◌||◌, nat_lt, Ok, Some, slice_get}
use Rattle.std.proofs.lemmas.Bool.{cases_lt, lt-ltb}
use Rattle.c65_ctype.specs.Trees.{Ty}
use Rattle.c65_csem.specs.Trees.{Stmt, FuncTy, UnitTy}
use Rattle.c65_meaning.specs.Store.{Value, Place, Shape}
use Rattle.c65_meaning.specs.Items.{Item, Invoke, Leave, plan_stmt}
use Rattle.c65_meaning.specs.Costs.{has_fixed}
use Rattle.c65_meaning.specs.State as meaning
use Rattle.c65_meaning.specs.State.{Scene, Running, turned, soft_sum, hard_sum}
use Rattle.c65_meaning.specs.Step.{taken, is_active, is_deep, frames_below, new_frame, params_of, with_params}
use Rattle.c65_code.specs.declared.line.Sym.{Sym}
use Rattle.c65_code.specs.declared.line.Line.TheVariants as lines
use Rattle.c65_code.specs.declared.line.Callee.TheVariants.{Function, Pointer}
use Rattle.c65_code.specs.declared.parts.RegSet.{RegSet}
use Rattle.c65_code.specs.Parts.{union_of}
use Rattle.c65_code.specs.Effects.{ptr4_bytes}
use Rattle.c65_code.specs.LineState.{State, Frame}
use Rattle.c65_code.specs.Moves.{IsCallee}
use Rattle.c65_code.specs.Placement.{IsPlacement}
use Rattle.c65_code.specs.Comes.{Seen}
use Rattle.c65_agree_store.specs.Stands.{Placing, Banks}
use Rattle.c65_agree_state.specs.World.{World, unit_in, setting_in, Active, lines_of, place_in, total_in, owned_at, HasAt, HasTurns}
use Rattle.c65_agree_state.specs.Fixed.{body_has_fixed, func_has_fixed}
use Rattle.c65_agree_state.specs.Follows.{Follows}
use Rattle.c65_agree_between.specs.Stmts.{HasCall}
use Rattle.c65_agree_state.proofs.Followed.{follows_weaken}
use Rattle.c65_agree_frame.specs.Leads.{IsOn}
use Rattle.c65_agree_frame.specs.Ends.{end_cost}
use Rattle.c65_agree_stmts.proofs.Standing.{turned_joins}
use Rattle.c65_agree_leave.specs.Laws.{params_in}
use Rattle.c65_agree_registers.specs.Entries.{register_cost}
use Rattle.c65_agree_call.specs.Calls.{frame_behind, IsCallFrom, GoesIn, cost_of, IsMeant, IsBelow, MayCall, IsMade, CallStands}
use Rattle.c65_agree_call.specs.Laws.{MayGo, CallsByNameAreFollowed, CallsThroughPointersAreFollowed}
use Rattle.c65_agree_call.proofs.Entering.{calls_by_name_enter, calls_through_pointers_enter}
use Rattle.c65_agree_call.proofs.Meant.{SameSums, passed_sums, plain_begun, calls_are_meant}
use Rattle.c65_agree_call.proofs.Whole.{functions_are_followed}

-- ---- not too deep

not_more : (m n : ℕ) → nat_lt m n ≡ false → n ≤ m
not_more m n e = by (cases_lt m n)
  where
    by : (m < n) ⊎ (n ≤ m) → n ≤ m
    by (inl l) = (let z : true ≡ false = sym (lt-ltb m n l) ∙ e in absurd cc)
    by (inr l) = l

first_false : (a b : Bool) → (a || b) ≡ false → a ≡ false
first_false true b e = e
first_false false b e = refl

second_false : (a b : Bool) → (a || b) ≡ false → b ≡ false
second_false true b e = let clash : true ≡ false = e in cc
second_false false b e = e

-- ---- what holds where the step is defined

module _ (g : World) (outer a : Active) (frame : Frame) (passed needs : ℕ) (func : FuncTy) (body : Stmt) (types : List Ty) (c : Scene) (w : Placing) (k : Banks) (t : State) (s : IsMade g outer a frame passed needs func body types c w k t)
    (callee : Ty) (args : List Value) (c1 : Scene) (h : IsMeant (unit_in g) callee types args a.func func body c c1) where
  abbrev u : UnitTy
  u = unit_in g

  abbrev framed : Scene
  framed = new_frame u a.func (cost_of u types body) (turned c)

  pub params_are : params_in g a ≡ func.params
  params_are = ap params_of s.is_function

  abbrev sums : SameSums framed c1
  sums = passed_sums u func types args framed c1 h.begun

  not_deep : is_deep c1.frames ≡ false
  not_deep = h.shallow (sums.free ∙ s.below.joins.asked)

  pub soft_few : cost_of u types body + soft_sum c.frames ≤ 1984
  soft_few = omega (arith, sums.soft, not_more 1984 (soft_sum c1.frames) (first_false (nat_lt 1984 (soft_sum c1.frames)) (nat_lt 224 (hard_sum c1.frames)) not_deep))

  pub hard_few : 2 + hard_sum c.frames ≤ 224
  hard_few = omega (arith, sums.hard, not_more 224 (hard_sum c1.frames) (second_false (nat_lt 1984 (soft_sum c1.frames)) (nat_lt 224 (hard_sum c1.frames)) not_deep))

  fixed_is : func_has_fixed u (slice_get u.funcs a.func) ≡ has_fixed u body
  fixed_is = ap (func_has_fixed u) s.is_function ∙ ap (body_has_fixed u) s.has_body

  pub is_once : func_has_fixed u (slice_get u.funcs a.func) ≡ true → is_active a.func c.frames ≡ false
  is_once f = h.once (sym fixed_is ∙ f)

  pub as_many : HasCall c → length a.calls ≡ length a.behind
  as_many x =
      let mine : length a.calls ≡ suc (length x.1) = ap length (s.calls ∙ x.2) in
      let its : x.1 ≡ outer.calls = sym (ap frames_below x.2) ∙ s.below.joins.calls in
      let more : length a.behind ≡ suc (length outer.behind) = ap length s.below.behind in
      omega (arith, mine, ap length its, s.below.joins.as_many, more)

  -- the turn of the call is counted
  pub is_below : IsBelow g outer a frame passed (turned c) w k t
  is_below = record { joins = turned_joins g outer c w k t s.below.joins; within = s.below.within; none_pushed = s.below.none_pushed; behind = s.below.behind; pushed = s.below.pushed; top = s.below.top }

-- ---- the step, where the line leads in

module _ (g : World) (outer a : Active) (func : FuncTy) (body : Stmt) (types : List Ty) (args vs values : List Value) (below : List Item) (reads : RegSet) (n inner p : ℕ) (callee : Ty) (c : Scene) (t : State) (seen : Seen)
    (is_function : slice_get (unit_in g).funcs a.func ≡ Some func) (has_body : func.body ≡ Some body) (waits : taken types [] values ≡ Some (args, Place a.func 0 ∷ vs)) (on : IsOn g t) (output : t.output ≡ c.out)
    (turned_at : HasTurns g c.turns (place_in g outer p) seen) (owns : 1 ≤ owned_at g.owns (place_in g outer p)) where
  abbrev work : Scene → meaning.State
  work c1 = Running (plan_stmt (unit_in g) 0 body (Leave ∷ below)) vs c1

  -- from the first line on, whichever way the call came there
  abbrev pub AllGoIn : RegSet → Type 0
  AllGoIn passes = (j : ℕ) (c1 : Scene) → j < n → IsMeant (unit_in g) callee types args a.func func body c c1 → GoesIn g a passes j inner (suc c.turns) (work c1) t

  step_follows : (v : ℕ) → 8 + inner ≤ v + 4000 → ((j : ℕ) (c1 : Scene) → j < n → IsMeant (unit_in g) callee types args a.func func body c c1 → Follows g j (8 + inner) (work c1) (place_in g outer p) t seen)
      → Follows g n v (Running (Invoke callee types ∷ below) values c) (place_in g outer p) t seen
  step_follows v enough line =
      calls_are_meant g callee types args vs values a.func func body n v below c (place_in g outer p) t seen is_function has_body waits on.stacks.calm output on.running (omega (arith, turned_at)) (λ j c1 lt h.
      follows_weaken g j (8 + inner) (v + 4000) (work c1) (place_in g outer p) t seen (omega (arith, enough)) (line j c1 lt h))

  next_turn : suc c.turns ≤ total_in g seen
  next_turn = omega (arith, turned_at, owns)

  pub steps_by_name : (name : Sym) (gives : RegSet) (v : ℕ) → IsCallFrom g outer a p gives t → name.0 ≡ a.symbol → HasAt (lines_of g outer) p (lines.Call (Function name reads gives) ∷ []) → 8 + inner ≤ v + 4000 → AllGoIn reads
      → Follows g n v (Running (Invoke callee types ∷ below) values c) (place_in g outer p) t seen
  steps_by_name name gives v from same has enough goes = step_follows v enough (λ j c1 lt h. calls_by_name_enter g outer a name reads gives j inner p (suc c.turns) (work c1) t seen on from same has next_turn (goes j c1 lt h))

  pub steps_through_pointers : (gives : RegSet) (v : ℕ) → IsPlacement g.code g.place → IsCallFrom g outer a p gives t → IsCallee (setting_in g) t a.symbol → HasAt (lines_of g outer) p (lines.Call (Pointer reads gives) ∷ []) → 8 + inner ≤ v + 4000 → AllGoIn (union_of reads ptr4_bytes)
      → Follows g n v (Running (Invoke callee types ∷ below) values c) (place_in g outer p) t seen
  steps_through_pointers gives v placed from is_callee has enough goes =
      step_follows v enough (λ j c1 lt h. calls_through_pointers_enter g outer a reads gives j inner p (suc c.turns) (work c1) t seen placed on from is_callee has next_turn (goes j c1 lt h))

-- ---- functions that take no further arguments

module _ (g : World) (outer a : Active) (frame : Frame) (passed needs : ℕ) (func : FuncTy) (body : Stmt) (types : List Ty) (c : Scene) (w : Placing) (k : Banks) (t : State) (s : CallStands g outer a frame passed needs func body types c w k t)
    (callee : Ty) (args : List Value) (c1 : Scene) (h : IsMeant (unit_in g) callee types args a.func func body c c1) where
  abbrev made : IsMade g outer a frame passed needs func body types c w k t
  made = s.made

  all_begun : with_params (unit_in g) (params_in g a) args (new_frame (unit_in g) a.func (cost_of (unit_in g) types body) (turned c)) ≡ Ok c1
  all_begun =
      subst (λ is. with_params (unit_in g) is args (new_frame (unit_in g) a.func (cost_of (unit_in g) types body) (turned c)) ≡ Ok c1) (sym (params_are g outer a frame passed needs func body types c w k t made callee args c1 h))
      (plain_begun (unit_in g) func types args (new_frame (unit_in g) a.func (cost_of (unit_in g) types body) (turned c)) c1 s.all_named h.begun)

  may_call : HasCall c → MayCall g outer a frame passed (cost_of (unit_in g) types body) needs (turned c) w k t
  may_call x = record {
    below = is_below g outer a frame passed needs func body types c w k t made callee args c1 h;
    called = record {
      function = func;
      is_function = made.is_function;
      params = sym (params_are g outer a frame passed needs func body types c w k t made callee args c1 h);
      once = is_once g outer a frame passed needs func body types c w k t made callee args c1 h;
      plain = s.fixed;
      calls = made.calls;
      as_many = as_many g outer a frame passed needs func body types c w k t made callee args c1 h x;
      first = made.first;
      homes = made.homes;
      distinct = made.distinct;
      top = omega (arith, made.below.top, made.below.within);
      high = made.below.joins.top;
      room = made.room;
      few = soft_few g outer a frame passed needs func body types c w k t made callee args c1 h;
      few_calls = hard_few g outer a frame passed needs func body types c w k t made callee args c1 h;
    };
    none_raised = s.none_raised;
    asked = made.asks;
  }

module _ (g : World) (outer a : Active) (frame : Frame) (reads : RegSet) (passed needs n weight p e : ℕ) (func : FuncTy) (body : Stmt) (types : List Ty) (result : Shape) (args vs values : List Value) (below : List Item)
    (c : Scene) (w : Placing) (k : Banks) (t : State) (placed : IsPlacement g.code g.place) (m : MayGo g outer a frame reads passed needs n weight p e func body types result args vs values below c w k t) where
  goes_in : (callee : Ty) (j : ℕ) (c1 : Scene) → j < n → IsMeant (unit_in g) callee types args a.func func body c c1
      → GoesIn g a reads j (register_cost a.frame + (end_cost a.frame + weight)) (suc c.turns) (Running (plan_stmt (unit_in g) 0 body (Leave ∷ below)) vs c1) t
  goes_in callee j c1 lt h u later at in_registers come =
      let may = may_call g outer a frame passed needs func body types c w k t m.stands callee args c1 h m.call in
      let begun = all_begun g outer a frame passed needs func body types c w k t m.stands callee args c1 h in
      functions_are_followed g outer a frame passed (cost_of (unit_in g) types body) needs j weight e body result args vs below m.call.0 m.call.1 (turned c) c1 w k t u later placed m.low may m.stands.made.moves m.call.2 at (m.passes u at in_registers) begun m.ends come (m.does j lt) (m.goes j lt)

pub calls_by_name_are_followed : CallsByNameAreFollowed
calls_by_name_are_followed g outer a name reads gives passed needs n v weight p e callee func body types result args vs values below c w k t seen placed from same has m enough turned_at =
    steps_by_name g outer a func body types args vs values below reads n (register_cost a.frame + (end_cost a.frame + weight)) p callee c t seen m.stands.made.is_function m.stands.made.has_body m.waits m.on m.stands.made.below.joins.output turned_at m.owns name gives v from same has (omega (arith, enough))
    (goes_in g outer a (frame_behind g outer p gives t) reads passed needs n weight p e func body types result args vs values below c w k t placed m callee)

pub calls_through_pointers_are_followed : CallsThroughPointersAreFollowed
calls_through_pointers_are_followed g outer a reads gives passed needs n v weight p e callee func body types result args vs values below c w k t seen placed from is_callee has m enough turned_at =
    steps_through_pointers g outer a func body types args vs values below reads n (register_cost a.frame + (end_cost a.frame + weight)) p callee c t seen m.stands.made.is_function m.stands.made.has_body m.waits m.on m.stands.made.below.joins.output turned_at m.owns gives v placed from is_callee has (omega (arith, enough))
    (goes_in g outer a (frame_behind g outer p gives t) (union_of reads ptr4_bytes) passed needs n weight p e func body types result args vs values below c w k t placed m callee)
