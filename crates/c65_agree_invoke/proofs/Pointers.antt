-- A call through a pointer.
use Rattle.std.proofs.Common.{◌≡◌, ℕ, zero, suc, ◌+◌, ◌<◌, ◌≤◌, Bool, true, false, List, ◌∷◌, Option, Some, None, refl, sym, ap, ◌∙◌, subst, arith}
use Rattle.std.specs.Prelude.{slice_get}
use Rattle.c65_ctype.specs.Trees.{QTy, type_in}
use Rattle.c65_csem.specs.Trees.{Typed, Nodes, FuncTy}
use Rattle.c65_meaning.specs.declared.action.Action.TheVariants.{OutsideObject, CalleeType, NoResult}
use Rattle.c65_meaning.specs.Why.{Why, By}
use Rattle.c65_meaning.specs.Store.{Value, Whole, Null, Place, Opaque, Cells, NoValue, Shape}
use Rattle.c65_meaning.specs.Shapes.{shape_of, types_of}
use Rattle.c65_meaning.specs.Items.{Item, Invoke}
use Rattle.c65_meaning.specs.Calls.{accepts}
use Rattle.c65_meaning.specs.Operators.{unusable}
use Rattle.c65_meaning.specs.State as meaning
use Rattle.c65_meaning.specs.State.{Scene, Undefined, Running, turned}
use Rattle.c65_meaning.specs.Step.{are_values, perform, call_of, invoked}
use Rattle.c65_code.specs.declared.line.Line.{Line}
use Rattle.c65_code.specs.declared.line.Line.TheVariants as lines
use Rattle.c65_code.specs.declared.line.Callee.TheVariants as callees
use Rattle.c65_code.specs.declared.parts.RegSet.{RegSet}
use Rattle.c65_code.specs.Parts.{union_of}
use Rattle.c65_code.specs.Effects.{ptr4_bytes}
use Rattle.c65_code.specs.LineState.{Place as Spot, State}
use Rattle.c65_code.specs.Moves.{IsCallee}
use Rattle.c65_code.specs.Placement.{IsPlacement}
use Rattle.c65_code.specs.Steady.{IsCalm}
use Rattle.c65_code.specs.Comes.{Seen}
use Rattle.c65_genframe.specs.Registers.{registers}
use Rattle.c65_genframe.specs.Symbols.{numbers_of, function_symbol}
use Rattle.c65_genexpr.specs.Types.{bare}
use Rattle.c65_genexpr.specs.Arguments.{is_fast, passed_of}
use Rattle.c65_agree_store.specs.Stands.{Placing, Banks}
use Rattle.c65_agree_state.specs.World.{World, program_in, unit_in, setting_in, Active, lines_of, place_in, total_in, HasTurns}
use Rattle.c65_agree_state.specs.Follows.{Follows}
use Rattle.c65_agree_state.specs.Exprs.{Ready}
use Rattle.c65_agree_state.proofs.Followed.{steps_earn}
use Rattle.c65_agree_rows.proofs.Quiet.{nothing_follows}
use Rattle.c65_agree_enter.specs.Entries.{FixedAreLow}
use Rattle.c65_agree_call.specs.Calls.{frame_behind, HasReturned}
use Rattle.c65_agree_call.proofs.Entering.{first_in}
use Rattle.c65_agree_call.proofs.Called.{calls_through_pointers_are_followed}
use Rattle.c65_agree_argument.specs.Arguments.{Argument, AreArguments, waiting_bytes, AreThere, left_of, piled}
use Rattle.c65_agree_argument.specs.Passed.{values_of}
use Rattle.c65_agree_invoke.specs.Nodes.{CallsAreOwned, gives_in, MayBeCalled}
use Rattle.c65_agree_invoke.proofs.Taken.{values_are_taken}
use Rattle.c65_agree_invoke.proofs.Calling.{frames_are_cheap, called, is_from, may_go}

-- ---- the step, where it is a call of a function with a body

module _ (g : World) (a : Active) (f : Typed) (es : Nodes) (xs : List Argument) (args : AreArguments a.frame es xs) (j w : ℕ) (k : List Item) (vs : List Value) (c : Scene) (p : Spot) (u : State) (seen : Seen)
    (calm : IsCalm (setting_in g) u) (output : u.output ≡ c.out) (running : u.ended ≡ None) (turns : c.turns ≤ total_in g seen) where
  abbrev Goes : Value → Type 0
  Goes v = Follows g j w (Running (Invoke (bare f) (types_of es) ∷ k) (piled xs (v ∷ vs)) c) p u seen

  abbrev step_of : Value → meaning.State
  step_of v = call_of (unit_in g) (bare f) (types_of es) (values_of xs) v k vs c

  step_is : (v : Value) → perform (program_in g) (Invoke (bare f) (types_of es)) k (piled xs (v ∷ vs)) c ≡ step_of v
  step_is v = ap (λ r. invoked (unit_in g) (bare f) (types_of es) k r c) (values_are_taken a.frame es xs (v ∷ vs) args)

  -- an undefined step needs nothing of the machine
  refused : (v : Value) (why : Why) → step_of v ≡ Undefined why → Goes v
  refused v why e =
      steps_earn g j w (Invoke (bare f) (types_of es)) k (piled xs (v ∷ vs)) c p u seen calm output running turns (λ i lt.
      subst (λ m. Follows g i (w + 4000) m p u seen) (sym (step_is v ∙ e)) (nothing_follows g why i (w + 4000) p u seen))

  abbrev Fits : ℕ → FuncTy → Type 0
  Fits i function = (slice_get (unit_in g).funcs i ≡ Some function) × (accepts (unit_in g) (bare f) (types_of es) function ≡ true)

  module _ (i : ℕ) (good : (function : FuncTy) → Fits i function → Goes (Place i 0)) where
    by_fit : (function : FuncTy) → slice_get (unit_in g).funcs i ≡ Some function → (values fits : Bool) → are_values (values_of xs) ≡ values → accepts (unit_in g) (bare f) (types_of es) function ≡ fits → Goes (Place i 0)
    by_fit function is true true v e = good function (is, e)
    by_fit function is true false v e = refused (Place i 0) (By CalleeType) (rw (is, v, e) refl)
    by_fit function is false fits v e = refused (Place i 0) (By NoResult) (rw (is, v) refl)

    by_function : (o : Option FuncTy) → slice_get (unit_in g).funcs i ≡ o → Goes (Place i 0)
    by_function None is = refused (Place i 0) (By CalleeType) (rw is refl)
    by_function (Some function) is = by_fit function is (are_values (values_of xs)) (accepts (unit_in g) (bare f) (types_of es) function) refl refl

  pub by_value : (v : Value) → ((i : ℕ) (function : FuncTy) → v ≡ Place i 0 → Fits i function → Goes (Place i 0)) → Goes v
  by_value (Place i zero) good = by_function i (λ function fits. good i function refl fits) (slice_get (unit_in g).funcs i) refl
  by_value (Place i (suc o)) good = refused (Place i (suc o)) (By CalleeType) refl
  by_value Null good = refused Null (By OutsideObject) refl
  by_value (Whole z) good = refused (Whole z) (unusable (Whole z)) refl
  by_value Opaque good = refused Opaque (unusable Opaque) refl
  by_value (Cells ys) good = refused (Cells ys) (unusable (Cells ys)) refl
  by_value NoValue good = refused NoValue (unusable NoValue) refl

-- ---- the call, where the pointer is in ptr4

module _ (g : World) (a : Active) (n : ℕ) (t : QTy) (f : Typed) (es : Nodes) (i : ℕ) (function : FuncTy) (placed : IsPlacement g.code g.place) (low : FixedAreLow g) (owned : CallsAreOwned g a) (spared : 1 ≤ a.spare) (target : MayBeCalled g a t (is_fast (bare f)) es n i function) (at : ℕ) where
  abbrev fast : Bool
  fast = is_fast (bare f)

  abbrev shape : Shape
  shape = shape_of (unit_in g).types (type_in t)

  abbrev last : ℕ
  last = (passed_of a.frame fast es).last

  abbrev gives : RegSet
  gives = gives_in a.frame t

  abbrev line : Line
  line = lines.Call (callees.Pointer (registers last) gives)

  -- where the rest is followed behind it
  pub pointed : (pushed j v w : ℕ) (k : List Item) (vs : List Value) (xs : List Argument) (c : Scene) (q : Placing) (b : Banks) (u : State) (seen : Seen) (args : AreArguments a.frame es xs) (ready : Ready g a (pushed + waiting_bytes fast xs) 0 c q b u) (there : AreThere fast q u xs)
      → IsCallee (setting_in g) u (function_symbol (numbers_of g.parts) i).0 → slice_get (lines_of g a) at ≡ Some line → HasTurns g c.turns (place_in g a at) seen → j ≤ n → 2600 ≤ w → w + left_of es ≤ v + 2594
      → ((o : ℕ) (r : Value) (c3 : Scene) (q3 : Placing) (b3 : Banks) (u3 : State) (later : Seen) → o < j → HasReturned g a (called g a i target.frame target.spare gives last at c u) (frame_behind g a at gives u) (waiting_bytes fast xs) shape (turned c) q b u r c3 q3 b3 u3
      → HasTurns g c3.turns (place_in g a (suc at)) later → Follows g o w (Running k (r ∷ vs) c3) (place_in g a (suc at)) u3 later)
      → Follows g j v (Running (Invoke (bare f) (types_of es) ∷ k) (piled xs (Place i 0 ∷ vs)) c) (place_in g a at) u seen
  pointed pushed j v w k vs xs c q b u seen args ready there is_callee there_is turns le least most goes =
      let m = target in
      let its : Active = called g a i m.frame m.spare gives last at c u in
      calls_through_pointers_are_followed g a its (registers last) gives (waiting_bytes fast xs) m.needs j v w at m.end (bare f) function m.body (types_of es) shape (values_of xs) vs (piled xs (Place i 0 ∷ vs)) k c q b u seen placed
      (is_from g a i m.frame m.needs m.spare m.end function m.body fast es m.callee gives at pushed xs c q b u args ready there) is_callee (there_is, tt)
      (may_go g a i m.frame m.needs m.spare m.end function m.body fast es m.callee gives at pushed xs c q b u args ready there (union_of (registers last) ptr4_bytes) n j w shape vs k low spared (owned at (callees.Pointer (registers last) gives) tt there_is)
      (λ u2 same part has. same part (first_in (registers last) ptr4_bytes part has)) le least m.bodies
      (λ o lt o2 r c3 q3 b3 u3 later less back turns2. goes o2 r c3 q3 b3 u3 later (omega (arith, lt, less)) back turns2))
      (omega (arith, frames_are_cheap m.frame es m.callee.small m.callee.short m.callee.few, most)) turns
