-- Calls of functions that do not fit them.
use Rattle.std.proofs.Common.{◌≡◌, ℕ, ◌+◌, true, false, List, ◌∷◌, Some, length, sym, ap, ◌∙◌, arith}
use Rattle.std.specs.Prelude.{slice_get}
use Rattle.c65_ctype.specs.Trees.{QTy, type_in}
use Rattle.c65_csem.specs.Trees.{Typed, node, call, Nodes, FuncTy}
use Rattle.c65_csem_need.specs.Needs.{need}
use Rattle.c65_meaning.specs.Store.{Place}
use Rattle.c65_meaning.specs.Shapes.{types_of}
use Rattle.c65_meaning.specs.Items.{Item, Push, Keep, Invoke, plan_all}
use Rattle.c65_meaning.specs.Calls.{accepts}
use Rattle.c65_meaning.specs.State.{Running}
use Rattle.c65_code.specs.declared.line.Line.{Line}
use Rattle.c65_code.specs.Steady.{IsCalm}
use Rattle.c65_genexpr.specs.Types.{outcome_of, bare}
use Rattle.c65_genexpr.specs.Arguments.{is_fast, is_counted, passed_of}
use Rattle.c65_genexpr.specs.Calls.{library_at, named_by}
use Rattle.c65_genexpr.specs.Code.{args_code}
use Rattle.c65_agree_state.specs.World.{World, unit_in, setting_in, Active, lines_of, place_in}
use Rattle.c65_agree_state.proofs.Followed.{follows_weaken, steps_earn, ready_is_calm}
use Rattle.c65_agree_state.proofs.Nodes.{has_front}
use Rattle.c65_agree_argument.specs.Arguments.{waiting_bytes, left_of}
use Rattle.c65_agree_argument.proofs.Arguments.{arguments_leave_weight}
use Rattle.c65_agree_invoke.specs.Nodes.{by_name}
use Rattle.c65_agree_invoke.proofs.Pointers.{by_value}
use Rattle.c65_agree_slots.specs.Refused.{RefusedCallsAreExpressions}

module _ (g : World) (a : Active) (i : ℕ) (t s r : QTy) (es : Nodes) where
  abbrev called : Typed
  called = by_name s r i

  abbrev whole : Typed
  whole = node t (call (by_name s r i) es)

  -- no function that fits is there
  none_fits : {A : Type 0} → ((function : FuncTy) → slice_get (unit_in g).funcs i ≡ Some function → accepts (unit_in g) (type_in s) (types_of es) function ≡ false)
      → (k : ℕ) (function : FuncTy) → Place i 0 ≡ Place k 0 → slice_get (unit_in g).funcs k ≡ Some function → accepts (unit_in g) (type_in s) (types_of es) function ≡ true → A
  none_fits refuses k function same there fits =
      let number : i ≡ k = cc in
      let clash : false ≡ true = sym (refuses function (ap (slice_get (unit_in g).funcs) number ∙ there)) ∙ fits in
      cc

pub refused_calls_are_expressions : RefusedCallsAreExpressions
refused_calls_are_expressions g a i t s r es placed arguments refuses pushed fresh n w p k vs c q b u0 seen has r0 turns rest =
    let fast = is_fast (bare (called g a i t s r es)) in
    let own : List Line = args_code a.frame pushed fresh fast es in
    let after : List Line = named_by a.frame i (library_at a.frame i) (is_counted (bare (called g a i t s r es))) (passed_of a.frame fast es) (outcome_of a.frame (type_in t)) in
    let calm : IsCalm (setting_in g) u0 = (ready_is_calm g a pushed (need (whole g a i t s r es)) c q b u0 r0).calm in
    let work : List Item = plan_all (unit_in g) es (Invoke (type_in s) (types_of es) ∷ k) in
    steps_earn g n w (Push (Place i 0)) (Keep ∷ work) vs c (place_in g a p) u0 seen calm r0.joins.output r0.joins.ended (omega (arith, turns)) (λ j lt.
    steps_earn g j (w + 4000) Keep work (Place i 0 ∷ vs) c (place_in g a p) u0 seen calm r0.joins.output r0.joins.ended (omega (arith, turns)) (λ m less.
    follows_weaken g m w (w + 4000 + 4000) (Running work (Place i 0 ∷ vs) c) (place_in g a p) u0 seen (omega arith)
    (arguments_leave_weight g a fast es pushed fresh placed arguments m w p (Invoke (type_in s) (types_of es) ∷ k) (Place i 0 ∷ vs) c q b u0 seen (has_front (lines_of g a) p own after has)
    (record { joins = r0.joins; sp = r0.sp; room = omega (arith, r0.room); none_pushed = r0.none_pushed }) (omega (arith, r0.room)) turns (λ o xs c2 q2 b2 u later le args over ready there turns2.
    by_value g a (called g a i t s r es) es xs args o (w + left_of es) k vs c2 (place_in g a (p + length own)) u later (ready_is_calm g a (pushed + waiting_bytes fast xs) 0 c2 q2 b2 u ready).calm ready.joins.output ready.joins.ended (omega (arith, turns2))
    (Place i 0) (λ h function same fits. none_fits g a i t s r es refuses h function same fits.0 fits.1)))))
