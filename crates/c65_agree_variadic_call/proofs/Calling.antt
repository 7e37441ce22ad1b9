-- A call whose arguments wait, of which some are further ones, and the function that it calls.
use Rattle.std.proofs.Common.{◌≡◌, ℕ, ◌+◌, ◌-◌, ◌<◌, ◌≤◌, false, List, ◌∷◌, length, refl, sym, ap, ◌∙◌, subst, arith}
use Rattle.c65_csem.specs.Trees.{call, Nodes, Stmt, FuncTy}
use Rattle.c65_meaning.specs.Store.{Cell, Value, Place, Shape}
use Rattle.c65_meaning.specs.Shapes.{types_of}
use Rattle.c65_meaning.specs.Items.{Item}
use Rattle.c65_meaning.specs.Step.{params_of, further}
use Rattle.c65_meaning.specs.State.{Scene, turned}
use Rattle.c65_code.specs.declared.parts.Part.TheVariants.{Y}
use Rattle.c65_code.specs.declared.parts.RegSet.{RegSet}
use Rattle.c65_code.specs.Effects.{only_y}
use Rattle.c65_code.specs.LineState.{State, sp_of}
use Rattle.c65_genframe.specs.Frames.{Framed, saved_bytes}
use Rattle.c65_genframe.specs.Symbols.{numbers_of, function_symbol}
use Rattle.c65_agree_store.specs.Stands.{Placing, Banks}
use Rattle.c65_agree_state.specs.World.{World, unit_in, Active, place_in, owned_at}
use Rattle.c65_agree_state.specs.Joins.{call_bytes}
use Rattle.c65_agree_state.specs.Exprs.{Ready}
use Rattle.c65_agree_state.proofs.Followed.{ready_is_calm}
use Rattle.c65_agree_frame.specs.Leads.{IsOn}
use Rattle.c65_agree_frame.specs.Ends.{end_cost}
use Rattle.c65_agree_frame.proofs.Banks.{saved_few}
use Rattle.c65_agree_leave.specs.Laws.{params_in}
use Rattle.c65_agree_registers.proofs.Entries.{checks_are_cheap}
use Rattle.c65_agree_enter.specs.Params.{AreDistinct}
use Rattle.c65_agree_enter.specs.Entries.{FixedAreLow}
use Rattle.c65_agree_enter.specs.Laws.{IsAtEntry}
use Rattle.c65_agree_call.specs.Calls.{frame_behind, IsCallFrom, IsPassedIn, GoesOnBehind}
use Rattle.c65_agree_argument.specs.Arguments.{Argument, AreArguments, waiting_bytes, AreThere, piled}
use Rattle.c65_agree_argument.specs.Passed.{all_bytes, values_of}
use Rattle.c65_agree_argument.proofs.Passed.{all_wait}
use Rattle.c65_agree_invoke.specs.Nodes.{sizes_of}
use Rattle.c65_agree_invoke.proofs.Calling.{has_call}
use Rattle.c65_agree_invoke.proofs.Taken.{values_are_taken, sizes_are}
use Rattle.c65_agree_variadic.specs.Frames.{further_cost}
use Rattle.c65_agree_variadic.specs.Entries.{HasPassedFurther}
use Rattle.c65_agree_variadic.specs.Calls.{FurtherCallStands, MayGoFurther}
use Rattle.c65_agree_variadic_call.specs.Callees.{IsCallingFurther, HasHomesAbove, IsFurtherCallee, FurtherBodiesDo}
use Rattle.c65_agree_variadic_call.proofs.Passed.{sum_is, further_arguments_are_passed}

-- the entry and the end of a function of so many bytes, of which six at most move to regbank, and the line of its call
pub further_frames_are_cheap : (h : Framed) → h.soft ≤ 1025 → h.stacked ≤ 250 → length h.moved ≤ 6 → 8 + (further_cost h + end_cost h) ≤ 1404
further_frames_are_cheap h small short few = omega (arith, small, short, few, checks_are_cheap h.check)

-- the call at a line, in this scene and state, of the function i with the frame h and so many bytes of further arguments
abbrev pub called_further : World → Active → ℕ → Framed → ℕ → RegSet → ℕ → ℕ → Scene → State → Active
called_further g a i h spare gives raised p c u = record {
  func = i;
  symbol = (function_symbol (numbers_of g.parts) i).0;
  frame = h;
  base = sp_of u - (h.soft + saved_bytes h.bank);
  first = c.next;
  raised = raised;
  behind = frame_behind g a p gives u ∷ u.frames;
  calls = c.frames;
  spare = spare;
}

module _ (g : World) (a : Active) (i : ℕ) (h : Framed) (needs spare e : ℕ) (function : FuncTy) (body : Stmt) (es : Nodes) (callee : IsFurtherCallee g a.frame i h needs spare e function body es) (gives : RegSet) (at pushed : ℕ)
    (xs : List Argument) (c : Scene) (q : Placing) (b : Banks) (u : State) (args : AreArguments a.frame es xs) (ready : Ready g a (pushed + waiting_bytes false xs) 0 c q b u) (there : AreThere false q u xs) (limit : sizes_of a.frame es ≤ 250) (count : u.regs.y ≡ all_bytes xs) where
  abbrev wait : ℕ
  wait = waiting_bytes false xs

  -- the cells of the further arguments
  abbrev more : List Cell
  more = further (unit_in g) function (types_of es) (values_of xs)

  abbrev its : Active
  its = called_further g a i h spare gives (length more) at c u

  is_calling : IsCallingFurther g i h spare its
  is_calling = record { func = refl; symbol = refl; frame = refl; spare_bytes = refl }

  is_on : IsOn g u
  is_on = record { stacks = ready_is_calm g a (pushed + wait) 0 c q b u ready; running = ready.joins.ended }

  pub is_from : IsCallFrom g a its at gives u
  is_from = record { own = callee.own; lines = callee.lines; behind = refl }

  params_are : function.params ≡ params_in g its
  params_are = sym (ap params_of callee.is_function)

  base_is : its.base + (h.soft + saved_bytes h.bank) ≡ sp_of u
  base_is = omega (arith, callee.small, saved_few h.bank, is_on.stacks.soft)

  few : all_bytes xs ≤ 250
  few = omega (arith, sizes_are a.frame es xs args, limit)

  sum : all_bytes xs ≡ h.stacked + length more
  sum = omega (arith, sum_is g its a.frame q u u callee.framed.further refl function.params (h.soft + saved_bytes h.bank) es xs callee.takes args, callee.stacked)

  top : its.base + call_bytes its ≡ sp_of u + wait
  top = omega (arith, base_is, sum, all_wait xs)

  lies : HasHomesAbove g its function.params
  lies = callee.lies its is_calling (omega (arith, base_is, callee.small, saved_few h.bank, is_on.stacks.soft)) (omega (arith, top, ready.sp, ready.joins.top))

  pub stands : FurtherCallStands g a its (frame_behind g a at gives u) wait needs function body (types_of es) (values_of xs) c q b u
  stands = record {
    made = record {
      below = record { joins = ready.joins; within = omega (arith, ready.sp); none_pushed = ready.none_pushed; behind = ap (λ fs. frame_behind g a at gives u ∷ fs) ready.joins.frames; pushed = refl; top = top };
      moves = callee.has_moves;
      is_function = callee.is_function;
      has_body = callee.has_body;
      calls = refl;
      first = refl;
      homes = (subst (HasHomesAbove g its) params_are lies).homes;
      distinct = subst AreDistinct params_are callee.distinct;
      room = omega (arith, base_is, callee.costs, ready.room);
      asks = omega (arith, callee.asks, ready.room);
    };
    framed = callee.framed;
    further_too = callee.further_too;
    raised = refl;
    above = (subst (HasHomesAbove g its) params_are lies).above;
  }

  passes : (u2 : State) → IsAtEntry its u u2 → IsPassedIn only_y u u2 → HasPassedFurther g its (params_in g its) (values_of xs) more q u2
  passes u2 entry same =
      subst (λ is. HasPassedFurther g its is (values_of xs) more q u2) params_are
      (further_arguments_are_passed g its a.frame function es xs q u u2 args there callee.takes callee.framed.further callee.stacked refl base_is few entry (sym (same Y refl) ∙ count))

  -- what the call asks for, where the rest is followed behind it
  pub may_go : (reads : RegSet) (n most w : ℕ) (shape : Shape) (vs : List Value) (below : List Item) → FixedAreLow g → 1 ≤ a.spare → 1 ≤ owned_at g.owns (place_in g a at) → ((u2 : State) → IsPassedIn reads u u2 → IsPassedIn only_y u u2)
      → most ≤ n → 2600 ≤ w → FurtherBodiesDo g i h needs spare body shape n
      → ((j : ℕ) → j < most → GoesOnBehind g a its (frame_behind g a at gives u) wait shape below vs j w (turned c) q b u)
      → MayGoFurther g a its (frame_behind g a at gives u) reads wait needs most w at e function body (types_of es) shape (values_of xs) vs (piled xs (Place i 0 ∷ vs)) below c q b u
  may_go reads n most w shape vs below low spared owned reads_y le enough bodies goes = record {
    low = low;
    on = is_on;
    stands = stands;
    call = has_call g a (pushed + wait) 0 c q b u ready spared;
    waits = values_are_taken a.frame es xs (Place i 0 ∷ vs) args;
    ends = callee.ends its is_calling;
    owns = owned;
    passes = λ u2 entry same. passes u2 entry (reads_y u2 same);
    does = λ j lt. bodies its below vs j (end_cost h + w) is_calling (omega (arith, top, ready.sp, ready.joins.top)) (omega (arith, lt, le)) (omega (arith, enough));
    goes = goes;
  }
