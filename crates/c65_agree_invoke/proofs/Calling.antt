-- A call whose arguments are there, and the function that it calls.
use Rattle.std.proofs.Common.{◌≡◌, ℕ, ◌+◌, ◌-◌, ◌<◌, ◌≤◌, Bool, true, false, List, [], ◌∷◌, length, refl, sym, ap, ◌∙◌, subst, arith}
use Rattle.std.specs.Prelude.{◌*◌, IsTrue}
use Rattle.c65_csem.specs.Trees.{call, Nodes, none, some, Stmt, FuncTy}
use Rattle.c65_meaning.specs.Store.{Value, Place, Shape}
use Rattle.c65_meaning.specs.Shapes.{types_of}
use Rattle.c65_meaning.specs.Items.{Item}
use Rattle.c65_meaning.specs.Step.{params_of}
use Rattle.c65_meaning.specs.State.{Scene, Running, turned, soft_sum, Frame as Call}
use Rattle.c65_code.specs.declared.line.Line.{Line}
use Rattle.c65_code.specs.declared.parts.Part.{Part}
use Rattle.c65_code.specs.declared.parts.RegSet.{RegSet}
use Rattle.c65_code.specs.Parts.{has_part}
use Rattle.c65_code.specs.LineState.{State, Same, sp_of}
use Rattle.c65_code.specs.Comes.{Seen}
use Rattle.c65_genframe.specs.declared.home.Arrival.{Arrival}
use Rattle.c65_genframe.specs.declared.home.Arrival.TheVariants.{Passed, Pushed, Kept as InRegbank}
use Rattle.c65_genframe.specs.Frames.{Framed, is_kept, saved_bytes}
use Rattle.c65_genframe.specs.Registers.{registers}
use Rattle.c65_genframe.specs.Symbols.{numbers_of, function_symbol}
use Rattle.c65_genexpr.specs.Arguments.{passed_of}
use Rattle.c65_agree_store.specs.Stands.{Placing, Banks}
use Rattle.c65_agree_state.specs.World.{World, unit_in, Active, lines_of, place_in, owned_at, HasAt, HasTurns}
use Rattle.c65_agree_state.specs.Joins.{call_bytes}
use Rattle.c65_agree_state.specs.Follows.{Follows}
use Rattle.c65_agree_state.specs.Exprs.{Ready, Valued, MayFit, ResultIs, Kept, Done, Rest, width_in}
use Rattle.c65_agree_between.specs.Stmts.{HasCall}
use Rattle.c65_agree_state.proofs.Followed.{follows_weaken, ready_is_calm}
use Rattle.c65_agree_state.proofs.Parts.{kept_goes_on}
use Rattle.c65_agree_frame.specs.Leads.{IsOn}
use Rattle.c65_agree_frame.specs.Ends.{IsPrimary, end_cost}
use Rattle.c65_agree_frame.proofs.Banks.{saved_few}
use Rattle.c65_agree_leave.specs.Laws.{params_in}
use Rattle.c65_agree_registers.specs.Entries.{register_cost}
use Rattle.c65_agree_registers.proofs.Entries.{checks_are_cheap}
use Rattle.c65_agree_enter.specs.Params.{AreDistinct}
use Rattle.c65_agree_enter.specs.Entries.{FixedAreLow, HaveHomes}
use Rattle.c65_agree_enter.specs.Laws.{IsAtEntry}
use Rattle.c65_agree_call.specs.Calls.{frame_behind, IsCallFrom, IsPassedIn, CallStands, HasCome, GoesOnBehind}
use Rattle.c65_agree_call.specs.Laws.{MayGo}
use Rattle.c65_agree_argument.specs.Arguments.{Argument, AreArguments, waiting_bytes, AreThere, left_of, piled}
use Rattle.c65_agree_argument.specs.Passed.{held_bytes, ArrivesAs, values_of, AreSmall, AllTaken, entering, Takes}
use Rattle.c65_agree_invoke.specs.Nodes.{IsCalling, IsCallee, BodiesDo, ResultsCome}
use Rattle.c65_agree_argument.proofs.Passed.{arguments_are_passed}
use Rattle.c65_agree_invoke.proofs.Taken.{values_are_taken, are_small, held_is, stacked_are, arrives_as, stacked_split, all_taken}

-- where a call may push a byte more than its values the scene has a call
pub has_call : (g : World) (a : Active) (pushed needs : ℕ) (c : Scene) (w : Placing) (k : Banks) (t : State) → Ready g a pushed needs c w k t → 1 ≤ a.spare → HasCall c
has_call g a pushed needs c w k t r spare = by c.frames refl
  where
    by : (fs : List Call) → c.frames ≡ fs → HasCall c
    by [] e = let none : soft_sum c.frames ≡ 0 = ap soft_sum e in absurd (omega (arith, none, r.room, r.sp, r.joins.top, spare))
    by (f ∷ fs) e = (f, fs, e)

-- the weight that arguments leave is enough for the parameters that move
left_most : (es : Nodes) → 266 * length (types_of es) ≤ left_of es
left_most none = omega arith
left_most (some e es) = omega (arith, left_most es)

-- the entry and the end of a function of so many bytes, and the line of its call
pub frames_are_cheap : (h : Framed) (es : Nodes) → h.soft ≤ 1025 → h.stacked ≤ 1024 → length h.moved ≤ length (types_of es) → 8 + (register_cost h + end_cost h) ≤ 1406 + left_of es
frames_are_cheap h es small short few = omega (arith, small, short, few, left_most es, checks_are_cheap h.check)

entering_most : (last : Arrival) (n : ℕ) → entering last n ≤ n
entering_most Passed n = omega arith
entering_most (Pushed m) n = omega arith
entering_most (InRegbank bank bytes) n = omega arith

held_most : (fast : Bool) (xs : List Argument) → AreSmall xs → held_bytes fast xs ≤ 4
held_most fast [] small = omega arith
held_most true (x ∷ []) small = omega (arith, small.1)
held_most false (x ∷ []) small = omega arith
held_most fast (x ∷ y ∷ ys) small = omega (arith, held_most fast (y ∷ ys) small.2)

-- the call at a line, in this scene and state, of the function i with the frame h, to which so many bytes come in registers
abbrev pub called : World → Active → ℕ → Framed → ℕ → RegSet → ℕ → ℕ → Scene → State → Active
called g a i h spare gives last p c u = record {
  func = i;
  symbol = (function_symbol (numbers_of g.parts) i).0;
  frame = h;
  base = sp_of u - (h.soft + (saved_bytes h.bank + entering h.last last));
  first = c.next;
  raised = 0;
  behind = frame_behind g a p gives u ∷ u.frames;
  calls = c.frames;
  spare = spare;
}

module _ (g : World) (a : Active) (i : ℕ) (h : Framed) (needs spare e : ℕ) (function : FuncTy) (body : Stmt) (fast : Bool) (es : Nodes) (callee : IsCallee g a.frame i h needs spare e function body fast es) (gives : RegSet) (at pushed : ℕ)
    (xs : List Argument) (c : Scene) (q : Placing) (b : Banks) (u : State) (args : AreArguments a.frame es xs) (ready : Ready g a (pushed + waiting_bytes fast xs) 0 c q b u) (there : AreThere fast q u xs) where
  abbrev wait : ℕ
  wait = waiting_bytes fast xs

  abbrev last : ℕ
  last = (passed_of a.frame fast es).last

  abbrev its : Active
  its = called g a i h spare gives last at c u

  pub is_calling : IsCalling g i h spare its
  is_calling = record { func = refl; symbol = refl; frame = refl; raised = refl; spare_bytes = refl }

  pub is_on : IsOn g u
  is_on = record { stacks = ready_is_calm g a (pushed + wait) 0 c q b u ready; running = ready.joins.ended }

  pub is_from : IsCallFrom g a its at gives u
  is_from = record { own = callee.own; lines = callee.lines; behind = refl }

  params_are : function.params ≡ params_in g its
  params_are = sym (ap params_of callee.is_function)

  small : AreSmall xs
  small = are_small a.frame es xs args

  held : held_bytes fast xs ≡ last
  held = held_is a.frame fast es xs args

  base_is : its.base + (h.soft + (saved_bytes h.bank + entering h.last last)) ≡ sp_of u
  base_is = omega (arith, callee.small, saved_few h.bank, held, held_most fast xs small, entering_most h.last last, is_on.stacks.soft)

  same_entering : entering h.last (held_bytes fast xs) ≡ entering h.last last
  same_entering = ap (entering h.last) held

  sizes : h.stacked ≡ waiting_bytes (is_kept h.last) xs
  sizes = callee.stacked ∙ sym (stacked_are (is_kept h.last) a.frame es xs args)

  arrives : ArrivesAs fast xs h.last
  arrives = arrives_as a.frame fast es xs h.last args callee.arrives

  takes : Takes g its fast xs u
  takes = record {
    moves = callee.moves;
    none_raised = refl;
    homes = subst (λ is. AllTaken (is_kept h.last) (unit_in g) h (h.soft + saved_bytes h.bank) is xs) params_are (all_taken (is_kept h.last) (unit_in g) a.frame h (h.soft + saved_bytes h.bank) function.params es xs callee.slots args);
    arrives = arrives;
    stacked = sizes;
    base = omega (arith, base_is, same_entering);
  }

  top : its.base + call_bytes its ≡ sp_of u + wait
  top = omega (arith, base_is, sizes, same_entering, stacked_split fast xs h.last arrives)

  homes : HaveHomes g its function.params
  homes = callee.homes its is_calling (omega (arith, base_is, callee.small, saved_few h.bank, held, held_most fast xs small, entering_most h.last last, is_on.stacks.soft)) (omega (arith, top, ready.sp, ready.joins.top))

  pub stands : CallStands g a its (frame_behind g a at gives u) wait needs function body (types_of es) c q b u
  stands = record {
    made = record {
      below = record { joins = ready.joins; within = omega (arith, ready.sp); none_pushed = ready.none_pushed; behind = ap (λ fs. frame_behind g a at gives u ∷ fs) ready.joins.frames; pushed = refl; top = top };
      moves = callee.moves;
      is_function = callee.is_function;
      has_body = callee.has_body;
      calls = refl;
      first = refl;
      homes = subst (λ is. HaveHomes g its is) params_are homes;
      distinct = subst AreDistinct params_are callee.distinct;
      room = omega (arith, base_is, callee.costs, ready.room);
      asks = omega (arith, callee.asks, ready.room);
    };
    fixed = callee.fixed;
    none_raised = refl;
    all_named = callee.all_named;
  }

  pub passes : (u2 : State) → IsAtEntry its u u2 → IsPassedIn (registers last) u u2 → HasCome g its (values_of xs) q u2
  passes u2 entry same = arguments_are_passed g its fast xs q u u2 small takes there ready.joins.bytes entry (subst (λ m. IsPassedIn (registers m) u u2) (sym held) same)

  -- what the call asks for, where the rest is followed behind it
  pub may_go : (reads : RegSet) (n most w : ℕ) (shape : Shape) (vs : List Value) (below : List Item) → FixedAreLow g → 1 ≤ a.spare → 1 ≤ owned_at g.owns (place_in g a at) → ((u2 : State) → IsPassedIn reads u u2 → IsPassedIn (registers last) u u2)
      → most ≤ n → 2600 ≤ w → BodiesDo g i h needs spare body shape n
      → ((j : ℕ) → j < most → GoesOnBehind g a its (frame_behind g a at gives u) wait shape below vs j w (turned c) q b u)
      → MayGo g a its (frame_behind g a at gives u) reads wait needs most w at e function body (types_of es) shape (values_of xs) vs (piled xs (Place i 0 ∷ vs)) below c q b u
  may_go reads n most w shape vs below low spared owned reads_last le enough bodies goes = record {
    low = low;
    on = is_on;
    stands = stands;
    call = has_call g a (pushed + wait) 0 c q b u ready spared;
    waits = values_are_taken a.frame es xs (Place i 0 ∷ vs) args;
    ends = callee.ends its is_calling;
    owns = owned;
    passes = λ u2 entry same. passes u2 entry (reads_last u2 same);
    does = λ j lt. bodies its below vs j (end_cost h + w) is_calling (omega (arith, top, ready.sp, ready.joins.top)) (omega (arith, lt, le)) (omega (arith, enough));
    goes = goes;
  }

-- ---- behind the call

-- the result comes to the primary register, and the rest of the expression is followed
pub comes_back : (g : World) (a : Active) (shape : Shape) (common : RegSet) (after : List Line) → ResultsCome g a shape common after
    → (pushed n w at end : ℕ) (k : List Item) (vs : List Value) (c : Scene) (q : Placing) (b : Banks) (u0 : State) → Rest g a Valued shape n w k vs end c q b u0 → at + length after ≡ end → HasAt (lines_of g a) at after
    → (o : ℕ) (v : Value) (c3 : Scene) (q3 : Placing) (b3 : Banks) (last u3 : State) (later : Seen) → o < n → Kept g a c q b u0 c3 q3 b3 u3 → Ready g a pushed 0 c3 q3 b3 u3
    → MayFit Valued shape v → ResultIs Valued q3 (width_in shape) v last → ((part : Part) → IsPrimary part → IsTrue (has_part common part) → Same part last u3) → HasTurns g c3.turns (place_in g a at) later
    → Follows g o (w + 2856) (Running k (v ∷ vs) c3) (place_in g a at) u3 later
comes_back g a shape common after come pushed n w at end k vs c q b u0 rest ends has o v c3 q3 b3 last u3 later lt kept ready fits is given turns =
    follows_weaken g o (256 + (w + 2600)) (w + 2856) (Running k (v ∷ vs) c3) (place_in g a at) u3 later (omega arith)
    (come pushed c3 q3 b3 v last u3 ready fits is given o (w + 2600) at c3.turns (Running k (v ∷ vs) c3) later has turns (λ x later2 d turns2.
    let done : Done g a Valued shape c q b u0 v c3 q3 b3 x = record { kept = kept_goes_on g a c c3 c3 q q3 q3 b b3 b3 u0 u3 x kept d.0; result = d.1; fits = fits } in
    subst (λ z. Follows g o (w + 2600) (Running k (v ∷ vs) c3) (place_in g a z) x later2) (sym ends)
    (rest o v c3 q3 b3 x later2 lt done (subst (λ z. HasTurns g c3.turns (place_in g a z) later2) ends turns2))))
