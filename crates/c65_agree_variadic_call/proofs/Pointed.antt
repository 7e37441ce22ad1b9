-- A call through a pointer of a function that takes further arguments.
use Rattle.std.proofs.Common.{◌≡◌, ℕ, suc, ◌+◌, ◌<◌, ◌≤◌, true, false, List, [], ◌∷◌, length, refl, sym, ap, ◌∙◌, subst, arith}
use Rattle.std.specs.Prelude.{slice_get, Some}
use Rattle.c65_ctype.specs.Trees.{QTy, type_in}
use Rattle.c65_csem.specs.Trees.{Typed, Nodes, FuncTy}
use Rattle.c65_mach.specs.declared.rows.Op.TheVariants.{Ldy}
use Rattle.c65_mach.specs.State.{Regs}
use Rattle.c65_mach.specs.Step.{apply}
use Rattle.c65_meaning.specs.Store.{Value, Place, Shape}
use Rattle.c65_meaning.specs.Shapes.{shape_of, types_of}
use Rattle.c65_meaning.specs.Items.{Item, Invoke}
use Rattle.c65_meaning.specs.State.{Scene, Running, turned, soft_sum}
use Rattle.c65_meaning.specs.Step.{further}
use Rattle.c65_code.specs.declared.line.Line.{Line}
use Rattle.c65_code.specs.declared.line.Line.TheVariants as lines
use Rattle.c65_code.specs.declared.line.Callee.TheVariants as callees
use Rattle.c65_code.specs.declared.parts.RegSet.{RegSet}
use Rattle.c65_code.specs.Effects.{only_y, ptr4_bytes}
use Rattle.c65_code.specs.LineState.{State, IsBytes}
use Rattle.c65_code.specs.Moves.{IsCallee, common_of}
use Rattle.c65_code.specs.Parts.{union_of}
use Rattle.c65_code.specs.Placement.{IsPlacement}
use Rattle.c65_code.specs.Comes.{Seen}
use Rattle.c65_genframe.specs.Frames.{saved_bytes}
use Rattle.c65_genframe.specs.Symbols.{numbers_of, function_symbol}
use Rattle.c65_genwide.specs.Lines.{value}
use Rattle.c65_genexpr.specs.declared.arguments.Passed.{Passed}
use Rattle.c65_genexpr.specs.Types.{outcome_of, bare}
use Rattle.c65_genexpr.specs.Arguments.{is_fast, is_counted, passed_of}
use Rattle.c65_genexpr.specs.Calls.{result_code}
use Rattle.c65_agree_store.specs.Stands.{Placing, Banks}
use Rattle.c65_agree_state.specs.World.{World, unit_in, setting_in, Active, lines_of, place_in, HasAt, HasTurns}
use Rattle.c65_agree_state.specs.Follows.{Follows}
use Rattle.c65_agree_state.specs.Exprs.{Ready, Kept}
use Rattle.c65_agree_state.proofs.Followed.{follows_weaken}
use Rattle.c65_agree_frame.specs.Ends.{end_cost}
use Rattle.c65_agree_frame.proofs.Banks.{saved_few}
use Rattle.c65_agree_frame.proofs.Leads.{kept_regs, lines_lead}
use Rattle.c65_agree_enter.specs.Entries.{FixedAreLow}
use Rattle.c65_agree_load.proofs.Kept.{is_on, kept_later, ready_later}
use Rattle.c65_agree_call.specs.Calls.{frame_behind, HasReturned}
use Rattle.c65_agree_call.proofs.Entering.{first_in}
use Rattle.c65_agree_argument.specs.Arguments.{Argument, AreArguments, waiting_bytes, AreThere, left_of, piled, IsOver}
use Rattle.c65_agree_argument.specs.Passed.{all_bytes, values_of}
use Rattle.c65_agree_argument.proofs.Passed.{all_wait}
use Rattle.c65_agree_argument.proofs.Over.{over_then, over_call}
use Rattle.c65_agree_invoke.specs.Nodes.{sizes_of, CallsAreOwned, gives_in}
use Rattle.c65_agree_invoke.proofs.Stacked.{there_moves}
use Rattle.c65_agree_invoke.proofs.Taken.{sizes_are}
use Rattle.c65_agree_variadic.specs.Frames.{further_cost}
use Rattle.c65_agree_variadic.proofs.Called.{further_calls_through_pointers_are_followed}
use Rattle.c65_agree_variadic_call.specs.Nodes.{MayBeCalledFurther, FurtherFunctionsMayBeReached, FurtherPointerCallsDo, FurtherPointerCallsAreExpressions}
use Rattle.c65_agree_variadic_call.proofs.Few.{few_move}
use Rattle.c65_agree_variadic_call.proofs.Calling.{further_frames_are_cheap, called_further, is_from, may_go}
use Rattle.c65_agree_variadic_call.proofs.Named.{named_few, slow}
use Rattle.c65_agree_invoke.specs.Targets.{own_lines, through_code, IsReturned, RestOfCall, CallsIt}
use Rattle.c65_agree_invoke.proofs.Counts.{stacked_wait}
use Rattle.c65_agree_invoke.proofs.Reaching.{reaching_calls_do, reaching_calls_are_expressions}

-- ---- the call, where the pointer is in ptr4 and Y has the number of bytes

module _ (g : World) (a : Active) (n : ℕ) (t : QTy) (f : Typed) (es : Nodes) (i : ℕ) (function : FuncTy) (placed : IsPlacement g.code g.place) (low : FixedAreLow g) (owned : CallsAreOwned g a) (spared : 1 ≤ a.spare) (limit : sizes_of a.frame es ≤ 250) (target : MayBeCalledFurther g a t es n i function) (at : ℕ) where
  abbrev shape : Shape
  shape = shape_of (unit_in g).types (type_in t)

  abbrev its_gives : RegSet
  its_gives = gives_in a.frame t

  abbrev its_line : Line
  its_line = lines.Call (callees.Pointer only_y its_gives)

  cheap : 8 + (further_cost target.frame + end_cost target.frame) ≤ 1404
  cheap =
      let h = target.frame in
      let short : h.stacked ≤ 250 = omega (arith, named_few a.frame function.params es, target.callee.stacked, limit) in
      let few : length h.moved ≤ 6 = few_move (saved_bytes h.bank) (h.soft + saved_bytes h.bank) (h.soft + saved_bytes h.bank + h.stacked) h.moved (saved_few h.bank) target.callee.has_moves.moves in
      further_frames_are_cheap h target.callee.small short few

  -- where the rest is followed behind it
  pub pointed_further : (pushed j v w : ℕ) (k : List Item) (vs : List Value) (xs : List Argument) (c : Scene) (q : Placing) (b : Banks) (u : State) (seen : Seen) (args : AreArguments a.frame es xs) (ready : Ready g a (pushed + waiting_bytes false xs) 0 c q b u) (there : AreThere false q u xs) (count : u.regs.y ≡ all_bytes xs)
      → IsCallee (setting_in g) u (function_symbol (numbers_of g.parts) i).0 → slice_get (lines_of g a) at ≡ Some its_line → HasTurns g c.turns (place_in g a at) seen → j ≤ n → 2600 ≤ w → w ≤ v + 2594
      → ((o : ℕ) (r : Value) (c3 : Scene) (q3 : Placing) (b3 : Banks) (u3 : State) (later : Seen) → o < j
      → HasReturned g a (called_further g a i target.frame target.spare its_gives (length (further (unit_in g) function (types_of es) (values_of xs))) at c u) (frame_behind g a at its_gives u) (waiting_bytes false xs) shape (turned c) q b u r c3 q3 b3 u3
      → HasTurns g c3.turns (place_in g a (suc at)) later → Follows g o w (Running k (r ∷ vs) c3) (place_in g a (suc at)) u3 later)
      → Follows g j v (Running (Invoke (bare f) (types_of es) ∷ k) (piled xs (Place i 0 ∷ vs)) c) (place_in g a at) u seen
  pointed_further pushed j v w k vs xs c q b u seen args ready there count is_callee there_is turns le least most goes =
      let m = target in
      let its : Active = called_further g a i m.frame m.spare its_gives (length (further (unit_in g) function (types_of es) (values_of xs))) at c u in
      further_calls_through_pointers_are_followed g a its only_y its_gives (waiting_bytes false xs) m.needs j v w at m.end (bare f) function m.body (types_of es) shape (values_of xs) vs (piled xs (Place i 0 ∷ vs)) k c q b u seen placed
      (is_from g a i m.frame m.needs m.spare m.end function m.body es m.callee its_gives at pushed xs c q b u args ready there limit count) is_callee (there_is, tt)
      (may_go g a i m.frame m.needs m.spare m.end function m.body es m.callee its_gives at pushed xs c q b u args ready there limit count (union_of only_y ptr4_bytes) n j w shape vs k low spared (owned at (callees.Pointer only_y its_gives) tt there_is)
      (λ u2 same part has. same part (first_in only_y ptr4_bytes part has)) le least m.bodies
      (λ o lt o2 r c3 q3 b3 u3 later less back turns2. goes o2 r c3 q3 b3 u3 later (omega (arith, lt, less)) back turns2))
      (omega (arith, cheap, most)) turns

-- ---- the lines of the call, where the pointer is in ptr4

module _ (g : World) (a : Active) (n : ℕ) (t : QTy) (f : Typed) (es : Nodes) (i : ℕ) (function : FuncTy) (placed : IsPlacement g.code g.place) (low : FixedAreLow g) (owned : CallsAreOwned g a) (spared : 1 ≤ a.spare) (limit : sizes_of a.frame es ≤ 250) (target : MayBeCalledFurther g a t es n i function) where
  abbrev what : Passed
  what = passed_of a.frame false es

  abbrev its_shape : Shape
  its_shape = shape_of (unit_in g).types (type_in t)

  abbrev after : List Line
  after = result_code (outcome_of a.frame (type_in t))

  abbrev gives : RegSet
  gives = gives_in a.frame t

  -- the call at a line, with the further arguments among these
  abbrev its_call : ℕ → List Argument → Scene → State → Active
  its_call at xs c u = called_further g a i target.frame target.spare gives (length (further (unit_in g) function (types_of es) (values_of xs))) at c u

  -- its result, with what waits below the arguments
  further_returned : (pushed count at : ℕ) (xs : List Argument) (c : Scene) (q : Placing) (b : Banks) (u : State) (c1 : Scene) (q1 : Placing) (b1 : Banks) (u1 : State) (r : Value) (c2 : Scene) (q2 : Placing) (b2 : Banks) (u2 : State)
      → IsOver g a (count + waiting_bytes false xs) c q b u c1 q1 b1 u1 → Ready g a (pushed + count + waiting_bytes false xs) 0 c1 q1 b1 u1
      → HasReturned g a (its_call at xs c1 u1) (frame_behind g a at gives u1) (waiting_bytes false xs) its_shape (turned c1) q1 b1 u1 r c2 q2 b2 u2
      → IsReturned g a pushed count its_shape after c q b u r c2 q2 b2 u2
  further_returned pushed count at xs c q b u c1 q1 b1 u1 r c2 q2 b2 u2 over ready back =
      let cost : soft_sum c2.frames ≡ soft_sum c1.frames = ap soft_sum back.behind.frames in
      record {
        over = over_call g a count (waiting_bytes false xs) c c1 c2 q q1 q2 b b1 b2 u u1 u2 over back.behind;
        ready = record { joins = back.behind.joins; sp = omega (arith, back.behind.sp, ready.sp); room = omega (arith, back.behind.sp, ready.room, cost); none_pushed = back.behind.pushed ∙ ready.none_pushed };
        fits = back.fits;
        common = common_of gives ((setting_in g).gives (function_symbol (numbers_of g.parts) i).0);
        comes = target.comes;
        last = back.last;
        value = back.value;
        given = back.given;
      }

  module _ (pushed count j w at : ℕ) (k : List Item) (vs : List Value) (xs : List Argument) (c : Scene) (q : Placing) (b : Banks) (u : State) (c1 : Scene) (q1 : Placing) (b1 : Banks) (u1 : State) (le : j ≤ n) (args : AreArguments a.frame es xs)
      (over : IsOver g a (count + waiting_bytes false xs) c q b u c1 q1 b1 u1) (ready : Ready g a (pushed + count + waiting_bytes false xs) 0 c1 q1 b1 u1) (there : AreThere false q1 u1 xs) (callee : IsCallee (setting_in g) u1 (function_symbol (numbers_of g.parts) i).0)
      (has : HasAt (lines_of g a) at (through_code true what gives)) (rest : RestOfCall g a n t f es pushed count j w (at + 2) k vs c q b u) where
    abbrev wait : ℕ
    wait = waiting_bytes false xs

    so_many : what.stacked ≡ all_bytes xs
    so_many = stacked_wait a.frame false es xs limit args ∙ all_wait xs

    -- Y has the number of bytes
    abbrev regs : Regs
    regs = apply false Ldy what.stacked u1.regs

    abbrev counted : State
    counted = record u1 { regs = regs }

    abbrev Calls : State → ℕ → ℕ → Seen → Type 0
    Calls x v p later = Follows g j v (Running (Invoke (bare f) (types_of es) ∷ k) (piled xs (Place i 0 ∷ vs)) c1) (place_in g a p) x later

    behind_count : IsBytes counted → (later : Seen) → HasTurns g c1.turns (place_in g a (suc at)) later → Calls counted (w + 1999) (suc at) later
    behind_count bytes later turns =
        let kept : Kept g a c1 q1 b1 u1 c1 q1 b1 counted = kept_later g a (pushed + count + wait) 0 c1 q1 b1 u1 placed ready regs u1.zp (λ m side. refl) bytes in
        let ready2 : Ready g a (pushed + count + wait) 0 c1 q1 b1 counted = ready_later g a (pushed + count + wait) 0 c1 q1 b1 u1 placed ready regs u1.zp (λ m side. refl) bytes in
        let over2 : IsOver g a (count + wait) c q b u c1 q1 b1 counted = over_then g a (count + wait) c c1 c1 q q1 q1 b b1 b1 u u1 counted over kept in
        let next : at + 2 ≡ suc (suc at) = omega arith in
        pointed_further g a n t f es i function placed low owned spared limit target (suc at) (pushed + count) j (w + 1999) (w + 3112) k vs xs c1 q1 b1 counted later args ready2 (there_moves false q1 u1 counted xs refl refl refl there) so_many callee has.1.0 turns
        le (omega arith) (omega arith) (λ o r c2 q2 b2 u2 later2 less back turns2.
        subst (λ m. RestOfCall g a n t f es pushed count j w m k vs c q b u) next rest o r c2 q2 b2 u2 later2 less (further_returned pushed count (suc at) xs c q b u c1 q1 b1 counted r c2 q2 b2 u2 over2 ready2 back) turns2)

    counted_calls : (seen : Seen) → HasTurns g c1.turns (place_in g a at) seen → Calls u1 (w + 2000 + left_of es) at seen
    counted_calls seen turns =
        let next : suc at ≡ at + 1 = omega arith in
        follows_weaken g j (1 + (w + 1999)) (w + 2000 + left_of es) (Running (Invoke (bare f) (types_of es) ∷ k) (piled xs (Place i 0 ∷ vs)) c1) (place_in g a at) u1 seen (omega arith)
        (lines_lead g a (value Ldy what.stacked ∷ []) u1 placed (is_on g a (pushed + count + wait) 0 c1 q1 b1 u1 placed ready) (refl, tt, omega (arith, so_many, sizes_are a.frame es xs args, limit), kept_regs u1 regs, tt)
        j (w + 1999) at c1.turns (Running (Invoke (bare f) (types_of es) ∷ k) (piled xs (Place i 0 ∷ vs)) c1) seen (has.0, tt) turns (λ z later e turns2.
        subst (λ x. Calls z (w + 1999) x later) next
        (subst (λ x. Calls x (w + 1999) (suc at) later) (sym e.0)
        (behind_count (subst IsBytes e.0 e.1) later (subst (λ x. HasTurns g c1.turns (place_in g a x) later) (sym next) turns2)))))

  -- a call that counts passes no argument in registers
  further_calls : is_counted (bare f) ≡ true → CallsIt g a n t f es i
  further_calls same pushed count j w at k vs xs c q b u c1 q1 b1 u1 seen le args over ready there callee has turns rest =
      let fast : is_fast (bare f) ≡ false = slow (bare f) same in
      let same_lines : own_lines g a n t f es ≡ through_code true what gives = ap (λ x. through_code x (passed_of a.frame (is_fast (bare f)) es) gives) same ∙ ap (λ x. through_code true (passed_of a.frame x es) gives) fast in
      counted_calls pushed count j w at k vs xs c q b u c1 q1 b1 u1 le args (subst (λ x. IsOver g a (count + waiting_bytes x xs) c q b u c1 q1 b1 u1) fast over) (subst (λ x. Ready g a (pushed + count + waiting_bytes x xs) 0 c1 q1 b1 u1) fast ready)
      (subst (λ x. AreThere x q1 u1 xs) fast there) callee (subst (HasAt (lines_of g a) at) same_lines has) (subst (λ ls. RestOfCall g a n t f es pushed count j w (at + length ls) k vs c q b u) same_lines rest) seen turns

pub further_functions_may_be_reached : FurtherFunctionsMayBeReached
further_functions_may_be_reached g a n t f es i function placed low owned spared counted limit target = record { few = target.few; is_code = target.is_code; calls = further_calls g a n t f es i function placed low owned spared limit target counted }

-- ---- the node

pub further_pointer_calls_do : FurtherPointerCallsDo
further_pointer_calls_do g a n size t f es pushed fresh placed low owned spared unnamed counted valued shape few does arguments targets =
    reaching_calls_do g a n size t f es pushed fresh placed unnamed valued shape few does arguments (λ i function is fits. further_functions_may_be_reached g a n t f es i function placed low owned spared counted few (targets i function is fits))

pub further_pointer_calls_are_expressions : FurtherPointerCallsAreExpressions
further_pointer_calls_are_expressions g a size t f es placed low owned spared unnamed counted valued shape few does arguments targets =
    reaching_calls_are_expressions g a size t f es placed unnamed valued shape few does arguments (λ i function is fits. further_functions_may_be_reached g a g.most t f es i function placed low owned spared counted few (targets i function is fits))
