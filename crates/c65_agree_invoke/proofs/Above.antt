-- A call through a pointer that waits below its arguments, whatever function it names.
use Rattle.std.proofs.Common.{◌≡◌, ℕ, ◌+◌, ◌<◌, ◌≤◌, Bool, List, [], ◌∷◌, ◌++◌, None, length, sym, subst, arith, length-append}
use Rattle.std.proofs.Math.Nat.{mod-eq_of_lt}
use Rattle.c65_ctype.specs.Trees.{QTy, type_in}
use Rattle.c65_csem.specs.Trees.{Typed, node, call, Nodes, some}
use Rattle.c65_csem_need.specs.Needs.{need, need_of_all}
use Rattle.c65_meaning.specs.Store.{Value, Place, Shape, Pointer}
use Rattle.c65_meaning.specs.Shapes.{shape_of, types_of}
use Rattle.c65_meaning.specs.Items.{Item, Invoke, plan, plan_all}
use Rattle.c65_meaning.specs.State.{Scene, Running}
use Rattle.c65_code.specs.declared.line.Line.{Line}
use Rattle.c65_code.specs.declared.parts.RegSet.{RegSet}
use Rattle.c65_code.specs.declared.routine.Count.TheVariants.{Two}
use Rattle.c65_code.specs.declared.routine.Routine.TheVariants as routines
use Rattle.c65_code.specs.LineState.{State, sp_of, zero_word}
use Rattle.c65_code.specs.Placement.{IsPlacement}
use Rattle.c65_code.specs.Comes.{Seen}
use Rattle.c65_genframe.specs.Symbols.{numbers_of, function_symbol}
use Rattle.c65_genwide.specs.Lines.{call as routine_call}
use Rattle.c65_genwide.specs.Passing.{pass_bytes}
use Rattle.c65_genexpr.specs.declared.wanted.Wanted.TheVariants as wanted
use Rattle.c65_genexpr.specs.declared.arguments.Passed.{Passed}
use Rattle.c65_genexpr.specs.Types.{outcome_of, bare}
use Rattle.c65_genexpr.specs.Places.{more}
use Rattle.c65_genexpr.specs.Arguments.{is_fast, is_counted, passed_of}
use Rattle.c65_genexpr.specs.Calls.{count_code, result_code, fetch_code}
use Rattle.c65_genexpr.specs.Uses.{uses}
use Rattle.c65_genexpr.specs.Code.{expr_code, args_code}
use Rattle.c65_agree_store.specs.Stands.{Placing, Banks}
use Rattle.c65_agree_state.specs.World.{World, unit_in, Active, lines_of, place_in, HasAt, HasTurns}
use Rattle.c65_agree_state.specs.Follows.{Follows}
use Rattle.c65_agree_state.specs.Exprs.{Ready, Valued, Kept, Rest, Does}
use Rattle.c65_agree_state.proofs.Followed.{follows_weaken, ready_is_calm}
use Rattle.c65_agree_state.proofs.Leaves.{scratch_is_kept}
use Rattle.c65_agree_state.proofs.Nodes.{has_front, has_back, ready_stays}
use Rattle.c65_agree_rows.specs.Rows.{By}
use Rattle.c65_agree_rows.specs.Laws.{IsRaised}
use Rattle.c65_agree_rows.proofs.Moves.{raises_run}
use Rattle.c65_agree_frame.specs.Leads.{IsOn}
use Rattle.c65_agree_load.proofs.Kept.{runs_lead}
use Rattle.c65_agree_argument.specs.Arguments.{Argument, AreArguments, LieAt, AreHeld, waiting_bytes, AreThere, left_of, piled, IsOver, IsPushed, ArgumentsDo}
use Rattle.c65_agree_argument.proofs.Arguments.{arguments_leave_weight}
use Rattle.c65_agree_argument.proofs.Over.{over_pushed, still_lies, over_then, over_all}
use Rattle.c65_agree_argument.proofs.Pushed.{values_are_pushed}
use Rattle.c65_agree_argument.proofs.Scalars.{scalars_are_held}
use Rattle.c65_agree_invoke.specs.Nodes.{sizes_of, DoesFor, gives_in}
use Rattle.c65_agree_invoke.proofs.Calling.{comes_back}
use Rattle.c65_agree_invoke.proofs.Fetching.{IsFetched, fetch_leads, pointer_is}
use Rattle.c65_agree_invoke.proofs.Pointers.{by_value}
use Rattle.c65_agree_invoke.proofs.Stacked.{there_moves, primary_stays, same_then}
use Rattle.c65_agree_invoke.specs.Targets.{through_code, IsReturned, MayBeReached, AllMayBeReached}
use Rattle.c65_agree_invoke.proofs.Lines.{line_through, AreSplit, splits, so_long}
use Rattle.c65_agree_invoke.proofs.Counts.{wait_most, stacked_wait}

module _ (g : World) (a : Active) (n size : ℕ) (t : QTy) (f : Typed) (e : Typed) (es : Nodes) (pushed fresh : ℕ) (placed : IsPlacement g.code g.place) (few : sizes_of a.frame (some e es) ≤ 250)
    (does : Does g a Valued (Pointer size) (plan (unit_in g) f) (need f) pushed (expr_code a.frame pushed fresh wanted.Value f)) (arguments : ArgumentsDo g a (some e es)) (targets : AllMayBeReached g a n t f (some e es)) where
  abbrev args_of : Nodes
  args_of = some e es

  abbrev fast : Bool
  fast = is_fast (bare f)

  abbrev counted : Bool
  counted = is_counted (bare f)

  abbrev its_shape : Shape
  its_shape = shape_of (unit_in g).types (type_in t)

  abbrev what : Passed
  what = passed_of a.frame fast args_of

  abbrev gives : RegSet
  gives = gives_in a.frame t

  abbrev own : List Line
  own = expr_code a.frame pushed fresh wanted.Value f

  abbrev above : List Line
  above = args_code a.frame (more pushed 2) (fresh + uses None f) fast args_of

  abbrev after : List Line
  after = result_code (outcome_of a.frame (type_in t))

  abbrev behind : List Line
  behind = routine_call (routines.IncSp Two) ∷ after

  abbrev calls : List Line
  calls = count_code counted what ++ (line_through counted what gives ∷ behind)

  abbrev all : List Line
  all = own ++ (pass_bytes 2 ++ (above ++ (fetch_code what ++ calls)))

  abbrev work : List Item → List Item
  work k = Invoke (bare f) (types_of args_of) ∷ k

  module _ (w p : ℕ) (k : List Item) (vs : List Value) (c : Scene) (q : Placing) (b : Banks) (u0 : State) (has : HasAt (lines_of g a) p all) (rest : Rest g a Valued its_shape n w k vs (p + length all) c q b u0) where
    abbrev push_at : ℕ
    push_at = p + length own

    abbrev args_at : ℕ
    args_at = push_at + 1

    abbrev fetch_at : ℕ
    fetch_at = args_at + length above

    abbrev at : ℕ
    at = fetch_at + 8

    abbrev called : ℕ
    called = at + length (through_code counted what gives)

    has_push : HasAt (lines_of g a) push_at (pass_bytes 2 ++ (above ++ (fetch_code what ++ calls)))
    has_push = has_back (lines_of g a) p own (pass_bytes 2 ++ (above ++ (fetch_code what ++ calls))) has

    has_above : HasAt (lines_of g a) args_at (above ++ (fetch_code what ++ calls))
    has_above = has_back (lines_of g a) push_at (pass_bytes 2) (above ++ (fetch_code what ++ calls)) has_push

    has_fetch : HasAt (lines_of g a) fetch_at (fetch_code what ++ calls)
    has_fetch = has_back (lines_of g a) args_at above (fetch_code what ++ calls) has_above

    split : AreSplit (lines_of g a) at counted what gives behind
    split = splits (lines_of g a) at counted what gives behind (has_back (lines_of g a) fetch_at (fetch_code what) calls has_fetch)

    ends : called + 1 + length after ≡ p + length all
    ends = omega (arith, so_long counted what gives behind, length-append own (pass_bytes 2 ++ (above ++ (fetch_code what ++ calls))), length-append above (fetch_code what ++ calls))

    -- behind the call the pointer is taken off
    goes_back : (m : ℕ) → m ≤ n → (o : ℕ) (r : Value) (c5 : Scene) (q5 : Placing) (b5 : Banks) (u5 : State) (later : Seen) → o < m → IsReturned g a pushed 2 its_shape after c q b u0 r c5 q5 b5 u5 → HasTurns g c5.turns (place_in g a called) later
        → Follows g o (w + 3112) (Running k (r ∷ vs) c5) (place_in g a called) u5 later
    goes_back m le o r c5 q5 b5 u5 later less back turns =
        follows_weaken g o (256 + (w + 2856)) (w + 3112) (Running k (r ∷ vs) c5) (place_in g a called) u5 later (omega arith)
        (runs_lead g a (pushed + 2) 0 c5 q5 b5 u5 (routines.IncSp Two) (IsRaised g a pushed 0 c5 q5 b5 2 u5) (omega arith) back.ready (raises_run g a pushed 0 c5 q5 b5 u5 (By Two) placed back.ready) o (w + 2856) called c5.turns (Running k (r ∷ vs) c5) later
        (has_front (lines_of g a) called (routine_call (routines.IncSp Two) ∷ []) after split.behind) turns (λ u6 later6 up turns6.
        let all_kept : Kept g a c q b u0 c5 q5 b5 u6 = over_all g a 2 c c5 q q5 b b5 u0 u5 u6 back.over up.ready.joins up.are.sp (λ x above_it. up.are.mem x (omega (arith, above_it, up.are.sp))) up.ready.none_pushed in
        comes_back g a its_shape back.common after back.comes pushed n w (called + 1) (p + length all) k vs c q b u0 rest ends (has_back (lines_of g a) called (routine_call (routines.IncSp Two) ∷ []) after split.behind)
        o r c5 q5 b5 back.last u6 later6 (omega (arith, less, le)) all_kept up.ready back.fits back.value
        (λ part primary given. same_then part back.last u5 u6 (back.given part primary given) (primary_stays u5 u6 back.ready.joins.bytes up.ready.joins.bytes up.value part primary)) turns6))

    module _ (j : ℕ) (c1 : Scene) (q1 : Placing) (b1 : Banks) (u1 u2 : State) (v : Value) (lt : j < n) (kept : Kept g a c q b u0 c1 q1 b1 u1) (push : IsPushed g a pushed 0 2 c1 q1 b1 v u1 u2)
        (m : ℕ) (le : m ≤ j) (xs : List Argument) (c3 : Scene) (q3 : Placing) (b3 : Banks) (u3 : State) (args : AreArguments a.frame args_of xs) (over : IsOver g a (waiting_bytes fast xs) c1 q1 b1 u2 c3 q3 b3 u3)
        (ready3 : Ready g a (pushed + 2 + waiting_bytes fast xs) 0 c3 q3 b3 u3) (there : AreThere fast q3 u3 xs) where
      abbrev wait : ℕ
      wait = waiting_bytes fast xs

      over3 : IsOver g a (2 + wait) c q b u0 c3 q3 b3 u3
      over3 = over_pushed g a pushed 0 2 wait c c1 c3 q q1 q3 b b1 b3 u0 u1 u2 u3 v kept push over

      lies3 : LieAt q3 u3.mem (sp_of u3 + wait) 2 v
      lies3 = still_lies g a pushed 0 2 wait c c1 c3 q q1 q3 b b1 b3 u0 u1 u2 u3 v kept push over

      on3 : IsOn g u3
      on3 = record { stacks = ready_is_calm g a (pushed + 2 + wait) 0 c3 q3 b3 u3 ready3; running = ready3.joins.ended }

      so_many : what.stacked ≡ wait
      so_many = stacked_wait a.frame fast args_of xs few args

      module _ (i : ℕ) (same : v ≡ Place i 0) (target : MayBeReached g a n t f args_of i) where
        -- the pointer comes to ptr4, and the function is called
        is_fetched : (u4 : State) (later : Seen) → IsFetched what.stacked u3 u4 → HasTurns g c3.turns (place_in g a at) later → Follows g m (w + 2000 + left_of args_of) (Running (work k) (piled xs (Place i 0 ∷ vs)) c3) (place_in g a at) u4 later
        is_fetched u4 later h turns =
            let kept4 : Kept g a c3 q3 b3 u3 c3 q3 b3 u4 = scratch_is_kept g a (pushed + 2 + wait) 0 c3 q3 b3 u3 u4 placed ready3 h.only h.sp in
            let ready4 : Ready g a (pushed + 2 + wait) 0 c3 q3 b3 u4 = ready_stays g a (pushed + 2 + wait) 0 0 c3 c3 q3 q3 b3 b3 u3 u4 (omega arith) ready3 kept4 in
            let over4 : IsOver g a (2 + wait) c q b u0 c3 q3 b3 u4 = over_then g a (2 + wait) c c3 c3 q q3 q3 b b3 b3 u0 u3 u4 over3 kept4 in
            let h2 : IsFetched wait u3 u4 = subst (λ x. IsFetched x u3 u4) so_many h in
            let lies : LieAt q3 u3.mem (sp_of u3 + wait) 2 (Place i 0) = subst (λ x. LieAt q3 u3.mem (sp_of u3 + wait) 2 x) same lies3 in
            let address : zero_word u4 14 ≡ g.place.address (function_symbol (numbers_of g.parts) i).0 = pointer_is q3 wait i (g.place.address (function_symbol (numbers_of g.parts) i).0) u3 u4 kept4.joins.bytes (ready3.joins.symbols.funcs i target.few) lies h2 in
            target.calls pushed 2 m w at k vs xs c q b u0 c3 q3 b3 u4 later (omega (arith, le, lt)) args over4 ready4 (there_moves fast q3 u3 u4 xs h.sp h.mem h.value there) (target.is_code, sym address) split.own turns
            (goes_back m (omega (arith, le, lt)))

        is_called : (later : Seen) → HasTurns g c3.turns (place_in g a fetch_at) later → Follows g m (w + 2267 + left_of args_of) (Running (work k) (piled xs (Place i 0 ∷ vs)) c3) (place_in g a fetch_at) u3 later
        is_called later turns =
            let short : wait ≤ 250 = omega (arith, few, wait_most a.frame fast args_of xs args) in
            follows_weaken g m (8 + (w + 2000 + left_of args_of)) (w + 2267 + left_of args_of) (Running (work k) (piled xs (Place i 0 ∷ vs)) c3) (place_in g a fetch_at) u3 later (omega arith)
            (fetch_leads g a placed what u3 on3 (omega (arith, so_many, short)) (omega (arith, so_many, ready3.sp, ready3.joins.top)) m (w + 2000 + left_of args_of) fetch_at c3.turns (Running (work k) (piled xs (Place i 0 ∷ vs)) c3) later
            (has_front (lines_of g a) fetch_at (fetch_code what) calls has_fetch) turns (λ u4 later4 h turns4. is_fetched u4 later4 h turns4))

    after_pointer : (j : ℕ) (v : Value) (c1 : Scene) (q1 : Placing) (b1 : Banks) (u1 : State) (later : Seen) → j < n → Kept g a c q b u0 c1 q1 b1 u1 → AreHeld q1 u1 2 v → Ready g a pushed (need_of_all args_of) c1 q1 b1 u1 → HasTurns g c1.turns (place_in g a push_at) later
        → Follows g j (w + 2600) (Running (plan_all (unit_in g) args_of (work k)) (v ∷ vs) c1) (place_in g a push_at) u1 later
    after_pointer j v c1 q1 b1 u1 later lt kept held ready1 turns =
        let ready0 : Ready g a pushed 0 c1 q1 b1 u1 = record { joins = ready1.joins; sp = ready1.sp; room = omega (arith, ready1.room); none_pushed = ready1.none_pushed } in
        follows_weaken g j (333 + (w + 2267)) (w + 2600) (Running (plan_all (unit_in g) args_of (work k)) (v ∷ vs) c1) (place_in g a push_at) u1 later (omega arith)
        (values_are_pushed g a pushed 0 2 c1 q1 b1 u1 v placed (omega arith) (omega arith) held ready0 (omega (arith, ready1.room)) j (w + 2267) push_at c1.turns (Running (plan_all (unit_in g) args_of (work k)) (v ∷ vs) c1) later
        (has_front (lines_of g a) push_at (pass_bytes 2) (above ++ (fetch_code what ++ calls)) has_push) turns (λ u2 later2 push turns2.
        let sum : more pushed 2 ≡ pushed + 2 = mod-eq_of_lt (omega (arith, push.ready.sp, push.ready.joins.top)) in
        arguments_leave_weight g a fast args_of (more pushed 2) (fresh + uses None f) placed arguments j (w + 2267) args_at (work k) (v ∷ vs) c1 q1 b1 u2 later2 (has_front (lines_of g a) args_at above (fetch_code what ++ calls) has_above)
        (subst (λ x. Ready g a x 0 c1 q1 b1 u2) (sym sum) push.ready) (omega (arith, ready1.room, push.sp)) turns2 (λ m xs c3 q3 b3 u3 later3 le args over ready there turns3.
        let ready3 : Ready g a (pushed + 2 + waiting_bytes fast xs) 0 c3 q3 b3 u3 = subst (λ x. Ready g a (x + waiting_bytes fast xs) 0 c3 q3 b3 u3) sum ready in
        by_value g a f args_of xs args m (w + 2267 + left_of args_of) k vs c3 (place_in g a fetch_at) u3 later3 (ready_is_calm g a (pushed + 2 + waiting_bytes fast xs) 0 c3 q3 b3 u3 ready3).calm ready3.joins.output ready3.joins.ended (omega (arith, turns3)) v (λ i function same fits.
        is_called j c1 q1 b1 u1 u2 v lt kept push m le xs c3 q3 b3 u3 args over ready3 there i same (targets i function fits.0 fits.1) later3 turns3))))

  pub above_does : DoesFor g a n Valued its_shape (plan (unit_in g) (node t (call f args_of))) (need (node t (call f args_of))) pushed all
  above_does w p k vs c q b u0 seen has r turns rest =
      let r0 : Ready g a pushed (need f) c q b u0 = record { joins = r.joins; sp = r.sp; room = omega (arith, r.room); none_pushed = r.none_pushed } in
      does n w p (plan_all (unit_in g) args_of (work k)) vs c q b u0 seen (has_front (lines_of g a) p own (pass_bytes 2 ++ (above ++ (fetch_code what ++ calls))) has) r0 turns (λ j v c1 q1 b1 u1 later lt done turns1.
      after_pointer w p k vs c q b u0 has rest j v c1 q1 b1 u1 later lt done.kept (scalars_are_held q1 (Pointer size) v u1 tt done.kept.joins.bytes done.fits done.result)
      (ready_stays g a pushed (need (node t (call f args_of))) (need_of_all args_of) c c1 q q1 b b1 u0 u1 (omega arith) r done.kept) turns1)
