-- Calls through pointers, and the functions that they may reach.
use Rattle.std.proofs.Common.{◌≡◌, ℕ, suc, ◌+◌, ◌≤◌, Bool, true, false, List, ◌++◌, None, length, refl, sym, ap, ◌∙◌, subst, arith}
use Rattle.c65_ctype.specs.Trees.{QTy, type_in}
use Rattle.c65_csem.specs.Trees.{Typed, node, call, Nodes, none, some, FuncTy}
use Rattle.c65_csem_need.specs.Needs.{need}
use Rattle.c65_meaning.specs.Store.{Value, Shape}
use Rattle.c65_meaning.specs.Shapes.{shape_of}
use Rattle.c65_meaning.specs.Items.{plan}
use Rattle.c65_meaning.specs.State.{Scene, turned, soft_sum}
use Rattle.c65_code.specs.declared.line.Line.{Line}
use Rattle.c65_code.specs.declared.parts.RegSet.{RegSet}
use Rattle.c65_code.specs.LineState.{State}
use Rattle.c65_code.specs.Moves.{common_of}
use Rattle.c65_code.specs.Placement.{IsPlacement}
use Rattle.c65_genframe.specs.Symbols.{numbers_of, function_symbol}
use Rattle.c65_genload.specs.Conversions.{push_code}
use Rattle.c65_code.specs.declared.routine.Width.TheVariants.{Ax}
use Rattle.c65_genexpr.specs.declared.wanted.Wanted.TheVariants as wanted
use Rattle.c65_genexpr.specs.declared.arguments.Passed.{Passed}
use Rattle.c65_genexpr.specs.Types.{outcome_of, bare}
use Rattle.c65_genexpr.specs.Places.{more}
use Rattle.c65_genexpr.specs.Arguments.{is_fast, is_counted, passed_of}
use Rattle.c65_genexpr.specs.Calls.{result_code, pointer_code, direct_code}
use Rattle.c65_genexpr.specs.Uses.{uses}
use Rattle.c65_genexpr.specs.Code.{expr_code, args_code, call_by}
use Rattle.c65_agree_store.specs.Stands.{Placing, Banks}
use Rattle.c65_agree_state.specs.World.{World, unit_in, setting_in, Active, lines_of, HasAt}
use Rattle.c65_agree_state.specs.Exprs.{Ready, Valued}
use Rattle.c65_agree_enter.specs.Entries.{FixedAreLow}
use Rattle.c65_agree_call.specs.Calls.{frame_behind, HasReturned}
use Rattle.c65_agree_argument.specs.Arguments.{Argument, waiting_bytes, left_of, IsOver}
use Rattle.c65_agree_argument.proofs.Over.{over_call}
use Rattle.c65_agree_invoke.specs.Nodes.{CallsAreOwned, gives_in, DoesFor, MayBeCalled, PointerCallsDo}
use Rattle.c65_agree_invoke.proofs.Calling.{called}
use Rattle.c65_agree_invoke.proofs.Pointers.{pointed}
use Rattle.c65_agree_invoke.proofs.Stacked.{pointer_does}
use Rattle.c65_agree_invoke.specs.Targets.{through_code, IsReturned, RestOfCall, CallsIt, AllMayBeReached}
use Rattle.c65_agree_invoke.specs.Reaching.{ReachingCallsDo, ReachingCallsAreExpressions, LinedFunctionsMayBeReached}
use Rattle.c65_agree_invoke.proofs.Direct.{directly_does}
use Rattle.c65_agree_invoke.proofs.Above.{above_does}

-- ---- the node

pub reaching_calls_do : ReachingCallsDo
reaching_calls_do g a n size t f none pushed fresh placed unnamed valued shape few does arguments targets =
    let own : List Line = expr_code a.frame pushed fresh wanted.Value f in
    let given = outcome_of a.frame (type_in t) in
    let same : expr_code a.frame pushed fresh wanted.Value (node t (call f none)) ≡ own ++ direct_code (is_counted (bare f)) (passed_of a.frame (is_fast (bare f)) none) given =
    ap (λ o. call_by a.frame o given f none own (args_code a.frame pushed fresh (is_fast (bare f)) none) (args_code a.frame (more pushed 2) (fresh + uses None f) (is_fast (bare f)) none)) unnamed in
    subst (λ ls. DoesFor g a n Valued (shape_of (unit_in g).types (type_in t)) (plan (unit_in g) (node t (call f none))) (need (node t (call f none))) pushed ls) (sym same)
    (directly_does g a n size t f pushed fresh placed (pointer_does g a size f pushed fresh valued shape does) targets)
reaching_calls_do g a n size t f (some e es) pushed fresh placed unnamed valued shape few does arguments targets =
    let own : List Line = expr_code a.frame pushed fresh wanted.Value f in
    let given = outcome_of a.frame (type_in t) in
    let above : List Line = args_code a.frame (more pushed 2) (fresh + uses None f) (is_fast (bare f)) (some e es) in
    let same : expr_code a.frame pushed fresh wanted.Value (node t (call f (some e es))) ≡ own ++ (push_code Ax ++ (above ++ pointer_code (is_counted (bare f)) (passed_of a.frame (is_fast (bare f)) (some e es)) given)) =
    ap (λ o. call_by a.frame o given f (some e es) own (args_code a.frame pushed fresh (is_fast (bare f)) (some e es)) above) unnamed in
    subst (λ ls. DoesFor g a n Valued (shape_of (unit_in g).types (type_in t)) (plan (unit_in g) (node t (call f (some e es)))) (need (node t (call f (some e es)))) pushed ls) (sym same)
    (above_does g a n size t f e es pushed fresh placed few (pointer_does g a size f pushed fresh valued shape does) arguments targets)

-- where fewer steps are left
reached_for : (g : World) (a : Active) (n m : ℕ) (t : QTy) (f : Typed) (es : Nodes) → n ≤ m → AllMayBeReached g a m t f es → AllMayBeReached g a n t f es
reached_for g a n m t f es le targets i function is fits =
    let target = targets i function is fits in
    record {
      few = target.few;
      is_code = target.is_code;
      calls = λ pushed count j w at k vs xs c q b u c1 q1 b1 u1 seen less args over ready there callee has turns rest. target.calls pushed count j w at k vs xs c q b u c1 q1 b1 u1 seen (omega (arith, less, le)) args over ready there callee has turns rest;
    }

pub reaching_calls_are_expressions : ReachingCallsAreExpressions
reaching_calls_are_expressions g a size t f es placed unnamed valued shape few does arguments targets pushed fresh n w p k vs c q b u seen has ready turns rest spoken =
    reaching_calls_do g a n size t f es pushed fresh placed unnamed valued shape few does arguments (reached_for g a n g.most t f es spoken.0 targets) w p k vs c q b u seen has ready turns rest spoken

-- ---- functions with lines of their own

module _ (g : World) (a : Active) (n : ℕ) (t : QTy) (f : Typed) (es : Nodes) (i : ℕ) (function : FuncTy) (placed : IsPlacement g.code g.place) (low : FixedAreLow g) (owned : CallsAreOwned g a) (spared : 1 ≤ a.spare) (target : MayBeCalled g a t (is_fast (bare f)) es n i function) where
  abbrev fast : Bool
  fast = is_fast (bare f)

  abbrev what : Passed
  what = passed_of a.frame fast es

  abbrev shape : Shape
  shape = shape_of (unit_in g).types (type_in t)

  abbrev after : List Line
  after = result_code (outcome_of a.frame (type_in t))

  abbrev gives : RegSet
  gives = gives_in a.frame t

  -- its result, with what waits below the arguments
  lined_returned : (pushed count at : ℕ) (xs : List Argument) (c : Scene) (q : Placing) (b : Banks) (u : State) (c1 : Scene) (q1 : Placing) (b1 : Banks) (u1 : State) (r : Value) (c2 : Scene) (q2 : Placing) (b2 : Banks) (u2 : State)
      → IsOver g a (count + waiting_bytes fast xs) c q b u c1 q1 b1 u1 → Ready g a (pushed + count + waiting_bytes fast xs) 0 c1 q1 b1 u1
      → HasReturned g a (called g a i target.frame target.spare gives what.last at c1 u1) (frame_behind g a at gives u1) (waiting_bytes fast xs) shape (turned c1) q1 b1 u1 r c2 q2 b2 u2
      → IsReturned g a pushed count shape after c q b u r c2 q2 b2 u2
  lined_returned pushed count at xs c q b u c1 q1 b1 u1 r c2 q2 b2 u2 over ready back =
      let cost : soft_sum c2.frames ≡ soft_sum c1.frames = ap soft_sum back.behind.frames in
      record {
        over = over_call g a count (waiting_bytes fast xs) c c1 c2 q q1 q2 b b1 b2 u u1 u2 over back.behind;
        ready = record { joins = back.behind.joins; sp = omega (arith, back.behind.sp, ready.sp); room = omega (arith, back.behind.sp, ready.room, cost); none_pushed = back.behind.pushed ∙ ready.none_pushed };
        fits = back.fits;
        common = common_of gives ((setting_in g).gives (function_symbol (numbers_of g.parts) i).0);
        comes = target.comes;
        last = back.last;
        value = back.value;
        given = back.given;
      }

  -- by the number of lines of the call, of which none counts
  lined_calls : (counted : Bool) → is_counted (bare f) ≡ counted → counted ≡ false → CallsIt g a n t f es i
  lined_calls true same e pushed count j w at k vs xs c q b u c1 q1 b1 u1 seen le args over ready there callee has turns rest = cc
  lined_calls false same e pushed count j w at k vs xs c q b u c1 q1 b1 u1 seen le args over ready there callee has turns rest =
      let lines : HasAt (lines_of g a) at (through_code false what gives) = subst (λ x. HasAt (lines_of g a) at (through_code x what gives)) same has in
      let goes : RestOfCall g a n t f es pushed count j w (at + length (through_code false what gives)) k vs c q b u = subst (λ x. RestOfCall g a n t f es pushed count j w (at + length (through_code x what gives)) k vs c q b u) same rest in
      pointed g a n t f es i function placed low owned spared target at (pushed + count) j (w + 2000 + left_of es) (w + 3112) k vs xs c1 q1 b1 u1 seen args ready there callee lines.0 turns le (omega arith) (omega arith) (λ o r c2 q2 b2 u2 later less back turns2.
      let next : at + 1 ≡ suc at = omega arith in
      subst (λ m. RestOfCall g a n t f es pushed count j w m k vs c q b u) next goes o r c2 q2 b2 u2 later less (lined_returned pushed count at xs c q b u c1 q1 b1 u1 r c2 q2 b2 u2 over ready back) turns2)

pub lined_functions_may_be_reached : LinedFunctionsMayBeReached
lined_functions_may_be_reached g a n t f es i function placed low owned spared uncounted target = record { few = target.few; is_code = target.is_code; calls = lined_calls g a n t f es i function placed low owned spared target (is_counted (bare f)) refl uncounted }

-- so a call through a pointer does its work where all functions that fit it have lines of their own
pub pointer_calls_do : PointerCallsDo
pointer_calls_do g a n size t f es pushed fresh placed low owned spared unnamed uncounted valued shape few does arguments targets =
    reaching_calls_do g a n size t f es pushed fresh placed unnamed valued shape few does arguments (λ i function is fits. lined_functions_may_be_reached g a n t f es i function placed low owned spared uncounted (targets i function is fits))
