-- A call of a function of the library by its name.
use Rattle.std.proofs.Common.{◌≡◌, ℕ, suc, ◌+◌, ◌<◌, ◌≤◌, Bool, List, ◌∷◌, ◌++◌, Some, length, sym, ap, ◌∙◌, subst, arith, inl, length-append}
use Rattle.std.specs.Prelude.{true, slice_get}
use Rattle.c65_base.specs.declared.library.Library.{Library}
use Rattle.c65_ctype.specs.Trees.{QTy, type_in}
use Rattle.c65_csem.specs.Trees.{node, call, Nodes, FuncTy}
use Rattle.c65_csem_need.specs.Needs.{need}
use Rattle.c65_meaning.specs.Store.{Value, Place, Shape}
use Rattle.c65_meaning.specs.Shapes.{shape_of, types_of}
use Rattle.c65_meaning.specs.Items.{Item, Push, Keep, Invoke, plan, plan_all}
use Rattle.c65_meaning.specs.Calls.{accepts}
use Rattle.c65_meaning.specs.State.{Scene, Running}
use Rattle.c65_code.specs.declared.line.Line.{Line}
use Rattle.c65_code.specs.declared.routine.Routine.TheVariants as routines
use Rattle.c65_code.specs.LineState.{State}
use Rattle.c65_code.specs.Placement.{IsPlacement}
use Rattle.c65_code.specs.Steady.{IsCalm}
use Rattle.c65_code.specs.Comes.{Seen}
use Rattle.c65_genwide.specs.Lines.{call as routine_call}
use Rattle.c65_genexpr.specs.declared.wanted.Wanted.TheVariants as wanted
use Rattle.c65_genexpr.specs.declared.arguments.Passed.{Passed}
use Rattle.c65_genexpr.specs.Types.{outcome_of}
use Rattle.c65_genexpr.specs.Arguments.{is_fast, is_counted, passed_of}
use Rattle.c65_genexpr.specs.Calls.{count_code, named_by, result_code}
use Rattle.c65_genexpr.specs.Code.{expr_code, args_code}
use Rattle.c65_agree_store.specs.Stands.{Placing, Banks}
use Rattle.c65_agree_state.specs.World.{World, unit_in, setting_in, Active, lines_of, place_in, HasAt, HasTurns}
use Rattle.c65_agree_state.specs.Follows.{Follows}
use Rattle.c65_agree_state.specs.Exprs.{Ready, Valued, Rest, Does}
use Rattle.c65_agree_state.proofs.Followed.{follows_weaken, steps_earn, ready_is_calm}
use Rattle.c65_agree_state.proofs.Nodes.{has_front, has_back}
use Rattle.c65_agree_argument.specs.Arguments.{Argument, AreArguments, waiting_bytes, AreThere, piled, IsOver, ArgumentsDo}
use Rattle.c65_agree_argument.proofs.Arguments.{arguments_are_followed}
use Rattle.c65_agree_invoke.specs.Nodes.{sizes_of, by_name}
use Rattle.c65_agree_invoke.specs.Targets.{IsReturned}
use Rattle.c65_agree_invoke.proofs.Calling.{comes_back}
use Rattle.c65_agree_invoke.proofs.Pointers.{by_value}
use Rattle.c65_agree_invoke.proofs.Returned.{all_returned}
use Rattle.c65_agree_library_expr.specs.Callees.{FitsLibrary, IsLibraryFunction}
use Rattle.c65_agree_library_expr.specs.Laws.{NamedLibraryCallsAreExpressions}
use Rattle.c65_agree_library_expr.proofs.Library.{library_goes}

module _ (g : World) (a : Active) (i : ℕ) (l : Library) (function : FuncTy) (t s r : QTy) (es : Nodes) (pushed fresh : ℕ) (placed : IsPlacement g.code g.place) (is : IsLibraryFunction g i l function)
    (fits : accepts (unit_in g) (type_in s) (types_of es) function ≡ true → FitsLibrary (unit_in g) a.frame l (type_in t) (type_in s) es) (few : sizes_of a.frame es ≤ 250) (arguments : ArgumentsDo g a es) where
  abbrev fast : Bool
  fast = is_fast (type_in s)

  abbrev counted : Bool
  counted = is_counted (type_in s)

  abbrev what : Passed
  what = passed_of a.frame fast es

  abbrev shape : Shape
  shape = shape_of (unit_in g).types (type_in t)

  abbrev own : List Line
  own = args_code a.frame pushed fresh fast es

  abbrev line : Line
  line = routine_call (routines.Library l)

  abbrev after : List Line
  after = result_code (outcome_of a.frame (type_in t))

  abbrev counts : List Line
  counts = count_code counted what

  abbrev all : List Line
  all = own ++ (counts ++ (line ∷ after))

  module _ (n w p : ℕ) (k : List Item) (vs : List Value) (c : Scene) (q : Placing) (b : Banks) (u : State) (has : HasAt (lines_of g a) p all) (rest : Rest g a Valued shape n w k vs (p + length all) c q b u) where
    abbrev at : ℕ
    at = p + length own

    abbrev called : ℕ
    called = at + length counts

    has_counts : HasAt (lines_of g a) at (counts ++ (line ∷ after))
    has_counts = has_back (lines_of g a) p own (counts ++ (line ∷ after)) has

    has_line : HasAt (lines_of g a) called (line ∷ after)
    has_line = has_back (lines_of g a) at counts (line ∷ after) has_counts

    module _ (j : ℕ) (le : j ≤ n) (xs : List Argument) (c1 : Scene) (q1 : Placing) (b1 : Banks) (u1 : State) (later : Seen) (args : AreArguments a.frame es xs) (over : IsOver g a (waiting_bytes fast xs) c q b u c1 q1 b1 u1) (ready : Ready g a (pushed + waiting_bytes fast xs) 0 c1 q1 b1 u1)
        (there : AreThere fast q1 u1 xs) (turns : HasTurns g c1.turns (place_in g a at) later) where
      goes_back : (o : ℕ) (v : Value) (c2 : Scene) (q2 : Placing) (b2 : Banks) (u2 : State) (last : Seen) → o < j → IsReturned g a pushed 0 shape after c q b u v c2 q2 b2 u2 → HasTurns g c2.turns (place_in g a (suc called)) last
          → Follows g o (w + 3112) (Running k (v ∷ vs) c2) (place_in g a (suc called)) u2 last
      goes_back o v c2 q2 b2 u2 last lt back turns2 =
          let flat : pushed + 0 ≡ pushed = omega arith in
          follows_weaken g o (w + 2856) (w + 3112) (Running k (v ∷ vs) c2) (place_in g a (suc called)) u2 last (omega arith)
          (comes_back g a shape back.common after back.comes pushed n w (suc called) (p + length all) k vs c q b u rest (omega (arith, length-append own (counts ++ (line ∷ after)), length-append counts (line ∷ after))) has_line.1
          o v c2 q2 b2 back.last u2 last (omega (arith, lt, le)) (all_returned g a pushed shape after c q b u v c2 q2 b2 u2 back) (subst (λ m. Ready g a m 0 c2 q2 b2 u2) flat back.ready) back.fits back.value back.given turns2)

      fitting : FitsLibrary (unit_in g) a.frame l (type_in t) (type_in s) es → Follows g j (w + 2000) (Running (Invoke (type_in s) (types_of es) ∷ k) (piled xs (Place i 0 ∷ vs)) c1) (place_in g a at) u1 later
      fitting h =
          let none : 0 + waiting_bytes fast xs ≡ waiting_bytes fast xs = omega arith in
          let sum : pushed + waiting_bytes fast xs ≡ pushed + 0 + waiting_bytes fast xs = omega arith in
          library_goes g a placed i l function is t (type_in s) es few h pushed 0 j w k vs xs c q b u c1 q1 b1 u1 later args at turns (has_front (lines_of g a) at counts (line ∷ after) has_counts) (inl has_line.0)
          (subst (λ m. IsOver g a m c q b u c1 q1 b1 u1) (sym none) over) (subst (λ m. Ready g a m 0 c1 q1 b1 u1) sum ready) there goes_back

      is_invoked : Follows g j (w + 2000) (Running (Invoke (type_in s) (types_of es) ∷ k) (piled xs (Place i 0 ∷ vs)) c1) (place_in g a at) u1 later
      is_invoked =
          by_value g a (by_name s r i) es xs args j (w + 2000) k vs c1 (place_in g a at) u1 later (ready_is_calm g a (pushed + waiting_bytes fast xs) 0 c1 q1 b1 u1 ready).calm ready.joins.output ready.joins.ended (omega (arith, turns)) (Place i 0) (λ h other same ok.
          subst (λ v. Follows g j (w + 2000) (Running (Invoke (type_in s) (types_of es) ∷ k) (piled xs (v ∷ vs)) c1) (place_in g a at) u1 later) same (fitting (fits (accepted h other same ok.0 ok.1))))
        where
          accepted : (h : ℕ) (other : FuncTy) → Place i 0 ≡ Place h 0 → slice_get (unit_in g).funcs h ≡ Some other → accepts (unit_in g) (type_in s) (types_of es) other ≡ true → accepts (unit_in g) (type_in s) (types_of es) function ≡ true
          accepted h other same found ok =
              let e : i ≡ h = cc in
              let both : Some other ≡ Some function = sym found ∙ (ap (slice_get (unit_in g).funcs) (sym e) ∙ is.is_function) in
              let one : other ≡ function = cc in
              ap (accepts (unit_in g) (type_in s) (types_of es)) (sym one) ∙ ok

  -- the pointer to the function takes two steps and no line
  does_all : Does g a Valued shape (plan (unit_in g) (node t (call (by_name s r i) es))) (need (node t (call (by_name s r i) es))) pushed all
  does_all n w p k vs c q b u seen has r0 turns rest =
      let calm : IsCalm (setting_in g) u = (ready_is_calm g a pushed (need (node t (call (by_name s r i) es))) c q b u r0).calm in
      let work : List Item = plan_all (unit_in g) es (Invoke (type_in s) (types_of es) ∷ k) in
      steps_earn g n w (Push (Place i 0)) (Keep ∷ work) vs c (place_in g a p) u seen calm r0.joins.output r0.joins.ended (omega (arith, turns)) (λ j lt.
      steps_earn g j (w + 4000) Keep work (Place i 0 ∷ vs) c (place_in g a p) u seen calm r0.joins.output r0.joins.ended (omega (arith, turns)) (λ m less.
      follows_weaken g m (w + 2000) (w + 4000 + 4000) (Running work (Place i 0 ∷ vs) c) (place_in g a p) u seen (omega arith)
      (arguments_are_followed g a fast es pushed fresh placed arguments m (w + 2000) p (Invoke (type_in s) (types_of es) ∷ k) (Place i 0 ∷ vs) c q b u seen (has_front (lines_of g a) p own (counts ++ (line ∷ after)) has)
      (record { joins = r0.joins; sp = r0.sp; room = omega (arith, r0.room); none_pushed = r0.none_pushed }) (omega (arith, r0.room)) turns (λ o xs c1 q1 b1 u1 later le args over ready there turns2.
      is_invoked n w p k vs c q b u has rest o (omega (arith, lt, less, le)) xs c1 q1 b1 u1 later args over ready there turns2))))

pub named_library_calls_are_expressions : NamedLibraryCallsAreExpressions
named_library_calls_are_expressions g a i l function t s r es placed library is fits few arguments pushed fresh =
    let p : Passed = passed_of a.frame (is_fast (type_in s)) es in
    let same : expr_code a.frame pushed fresh wanted.Value (node t (call (by_name s r i) es)) ≡ args_code a.frame pushed fresh (is_fast (type_in s)) es ++ (count_code (is_counted (type_in s)) p ++ (routine_call (routines.Library l) ∷ result_code (outcome_of a.frame (type_in t)))) =
    ap (λ o. args_code a.frame pushed fresh (is_fast (type_in s)) es ++ named_by a.frame i o (is_counted (type_in s)) p (outcome_of a.frame (type_in t))) library in
    subst (λ ls. Does g a Valued (shape_of (unit_in g).types (type_in t)) (plan (unit_in g) (node t (call (by_name s r i) es))) (need (node t (call (by_name s r i) es))) pushed ls) (sym same)
    (does_all g a i l function t s r es pushed fresh placed is fits few arguments)
