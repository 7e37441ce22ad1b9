-- A call of a function by its name.
use Rattle.std.proofs.Common.{◌≡◌, ℕ, suc, ◌+◌, ◌-◌, ◌<◌, ◌≤◌, Bool, List, ◌∷◌, ◌++◌, Some, None, length, refl, sym, ap, ◌∙◌, subst, arith, length-append}
use Rattle.std.specs.Prelude.{slice_get}
use Rattle.c65_ctype.specs.Trees.{QTy, type_in}
use Rattle.c65_csem.specs.Trees.{node, call, Nodes, Stmt, FuncTy}
use Rattle.c65_csem_need.specs.Needs.{need}
use Rattle.c65_meaning.specs.Store.{Value, Place, Shape}
use Rattle.c65_meaning.specs.Shapes.{shape_of, types_of}
use Rattle.c65_meaning.specs.Items.{Item, Push, Keep, Invoke, plan, plan_all}
use Rattle.c65_meaning.specs.State.{Scene, Running, turned, soft_sum}
use Rattle.c65_code.specs.declared.line.Sym.{Sym}
use Rattle.c65_code.specs.declared.line.Line.{Line}
use Rattle.c65_code.specs.declared.line.Line.TheVariants as lines
use Rattle.c65_code.specs.declared.line.Callee.TheVariants.{Function}
use Rattle.c65_code.specs.declared.parts.RegSet.{RegSet}
use Rattle.c65_code.specs.LineState.{State}
use Rattle.c65_code.specs.Moves.{common_of}
use Rattle.c65_code.specs.Placement.{IsPlacement}
use Rattle.c65_code.specs.Steady.{IsCalm}
use Rattle.c65_code.specs.Comes.{Seen}
use Rattle.c65_genframe.specs.Frames.{Framed}
use Rattle.c65_genframe.specs.Registers.{registers}
use Rattle.c65_genframe.specs.Symbols.{numbers_of, function_symbol}
use Rattle.c65_genexpr.specs.declared.wanted.Wanted.TheVariants as wanted
use Rattle.c65_genexpr.specs.declared.arguments.Passed.{Passed}
use Rattle.c65_genexpr.specs.Types.{outcome_of, bare}
use Rattle.c65_genexpr.specs.Arguments.{is_fast, is_counted, passed_of, reads_of}
use Rattle.c65_genexpr.specs.Calls.{count_code, named_by, result_code}
use Rattle.c65_genexpr.specs.Code.{expr_code, args_code}
use Rattle.c65_agree_store.specs.Stands.{Placing, Banks}
use Rattle.c65_agree_state.specs.World.{World, unit_in, setting_in, Active, lines_of, place_in, HasAt, HasTurns}
use Rattle.c65_agree_state.specs.Follows.{Follows}
use Rattle.c65_agree_state.specs.Exprs.{Ready, Valued, Kept, Rest}
use Rattle.c65_agree_state.proofs.Followed.{follows_weaken, steps_earn, ready_is_calm}
use Rattle.c65_agree_state.proofs.Nodes.{has_front, has_back}
use Rattle.c65_agree_enter.specs.Entries.{FixedAreLow}
use Rattle.c65_agree_call.specs.Calls.{frame_behind, HasReturned}
use Rattle.c65_agree_call.proofs.Called.{calls_by_name_are_followed}
use Rattle.c65_agree_argument.specs.Arguments.{Argument, AreArguments, waiting_bytes, AreThere, piled, left_of, IsOver, ArgumentsDo}
use Rattle.c65_agree_argument.specs.Passed.{values_of}
use Rattle.c65_agree_invoke.specs.Nodes.{IsCallee, BodiesDo, ResultsCome, CallsAreOwned, DoesFor, by_name, gives_in, NamedCallsDo}
use Rattle.c65_agree_argument.proofs.Arguments.{arguments_leave_weight}
use Rattle.c65_agree_argument.proofs.Over.{over_call, over_all}
use Rattle.c65_agree_invoke.proofs.Calling.{frames_are_cheap, called, is_from, may_go, comes_back}

module _ (g : World) (a : Active) (i : ℕ) (h : Framed) (needs spare e : ℕ) (function : FuncTy) (body : Stmt) (t s r : QTy) (es : Nodes) (pushed fresh : ℕ) (placed : IsPlacement g.code g.place) (low : FixedAreLow g) (owned : CallsAreOwned g a) (spared : 1 ≤ a.spare)
    (parts : a.frame.parts ≡ g.parts) (callee : IsCallee g a.frame i h needs spare e function body (is_fast (bare (by_name s r i))) es)
    (come : ResultsCome g a (shape_of (unit_in g).types (type_in t)) (common_of (gives_in a.frame t) ((setting_in g).gives (function_symbol (numbers_of g.parts) i).0)) (result_code (outcome_of a.frame (type_in t)))) where
  abbrev fast : Bool
  fast = is_fast (bare (by_name s r i))

  abbrev shape : Shape
  shape = shape_of (unit_in g).types (type_in t)

  abbrev name : Sym
  name = function_symbol (numbers_of a.frame.parts) i

  abbrev last : ℕ
  last = (passed_of a.frame fast es).last

  abbrev gives : RegSet
  gives = gives_in a.frame t

  abbrev own : List Line
  own = args_code a.frame pushed fresh fast es

  abbrev line : Line
  line = lines.Call (Function name (registers last) gives)

  abbrev after : List Line
  after = result_code (outcome_of a.frame (type_in t))

  abbrev all : List Line
  all = own ++ (line ∷ after)

  module _ (n j w p : ℕ) (k : List Item) (vs : List Value) (c : Scene) (q : Placing) (b : Banks) (u0 : State) (few : j ≤ n) (has : HasAt (lines_of g a) p all) (rest : Rest g a Valued shape n w k vs (p + length all) c q b u0)
      (bodies : BodiesDo g i h needs spare body shape n)
      (xs : List Argument) (c2 : Scene) (q2 : Placing) (b2 : Banks) (u : State) (args : AreArguments a.frame es xs) (over : IsOver g a (waiting_bytes fast xs) c q b u0 c2 q2 b2 u) (ready : Ready g a (pushed + waiting_bytes fast xs) 0 c2 q2 b2 u)
      (there : AreThere fast q2 u xs) where
    abbrev wait : ℕ
    wait = waiting_bytes fast xs

    abbrev at : ℕ
    at = p + length own

    abbrev its : Active
    its = called g a i h spare gives last at c2 u

    -- ---- behind the call

    module _ (v : Value) (c3 : Scene) (q3 : Placing) (b3 : Banks) (u3 : State) (back : HasReturned g a its (frame_behind g a at gives u) wait shape (turned c2) q2 b2 u v c3 q3 b3 u3) where
      kept_all : Kept g a c q b u0 c3 q3 b3 u3
      kept_all =
          let none : 0 + wait ≡ wait = omega arith in
          let flat : IsOver g a 0 c q b u0 c3 q3 b3 u3 = over_call g a 0 wait c c2 c3 q q2 q3 b b2 b3 u0 u u3 (subst (λ m. IsOver g a m c q b u0 c2 q2 b2 u) (sym none) over) back.behind in
          over_all g a 0 c c3 q q3 b b3 u0 u3 u3 flat back.behind.joins (omega arith) (λ m le. refl) (back.behind.pushed ∙ over.none_pushed)

      ready_back : Ready g a pushed 0 c3 q3 b3 u3
      ready_back =
          let cost : soft_sum c3.frames ≡ soft_sum c2.frames = ap soft_sum back.behind.frames in
          record { joins = back.behind.joins; sp = omega (arith, back.behind.sp, ready.sp); room = omega (arith, back.behind.sp, ready.room, cost); none_pushed = back.behind.pushed ∙ over.none_pushed }

      goes_back : (o : ℕ) (later : Seen) → o < j → HasTurns g c3.turns (place_in g a (suc at)) later → Follows g o (w + 2856) (Running k (v ∷ vs) c3) (place_in g a (suc at)) u3 later
      goes_back o later lt turns =
          comes_back g a shape (common_of gives ((setting_in g).gives (function_symbol (numbers_of g.parts) i).0)) after come pushed n w (suc at) (p + length all) k vs c q b u0 rest (omega (arith, length-append own (line ∷ after))) (has_back (lines_of g a) p own (line ∷ after) has).1
          o v c3 q3 b3 back.last u3 later (omega (arith, lt, few)) kept_all ready_back back.fits back.value back.given turns

    is_invoked : (later : Seen) → HasTurns g c2.turns (place_in g a at) later → Follows g j (w + 262 + left_of es) (Running (Invoke (type_in s) (types_of es) ∷ k) (piled xs (Place i 0 ∷ vs)) c2) (place_in g a at) u later
    is_invoked later turns =
        let symbol : name.0 ≡ its.symbol = ap (λ x. (function_symbol (numbers_of x) i).0) parts in
        let there_is : slice_get (lines_of g a) at ≡ Some line = (has_back (lines_of g a) p own (line ∷ after) has).0 in
        calls_by_name_are_followed g a its name (registers last) gives wait needs j (w + 262 + left_of es) (w + 2856) at e (type_in s) function body (types_of es) shape (values_of xs) vs (piled xs (Place i 0 ∷ vs)) k c2 q2 b2 u later placed
        (is_from g a i h needs spare e function body fast es callee gives at pushed xs c2 q2 b2 u args ready there) symbol (there_is, tt)
        (may_go g a i h needs spare e function body fast es callee gives at pushed xs c2 q2 b2 u args ready there (registers last) n j (w + 2856) shape vs k low spared (owned at (Function name (registers last) gives) tt there_is) (λ u2 same. same) few (omega arith) bodies
        (λ o lt m v c3 q3 b3 u3 later2 less back turns2. goes_back v c3 q3 b3 u3 back m later2 (omega (arith, lt, less)) turns2))
        (omega (arith, frames_are_cheap h es callee.small callee.short callee.few)) turns

  -- the pointer to the function takes two steps and no line, whose weight is enough for a check of the stacks
  does_all : (n : ℕ) → ArgumentsDo g a es → BodiesDo g i h needs spare body shape n → DoesFor g a n Valued shape (plan (unit_in g) (node t (call (by_name s r i) es))) (need (node t (call (by_name s r i) es))) pushed all
  does_all n arguments bodies w p k vs c q b u0 seen has r0 turns rest =
      let calm : IsCalm (setting_in g) u0 = (ready_is_calm g a pushed (need (node t (call (by_name s r i) es))) c q b u0 r0).calm in
      let work : List Item = plan_all (unit_in g) es (Invoke (type_in s) (types_of es) ∷ k) in
      steps_earn g n w (Push (Place i 0)) (Keep ∷ work) vs c (place_in g a p) u0 seen calm r0.joins.output r0.joins.ended (omega (arith, turns)) (λ j lt.
      steps_earn g j (w + 4000) Keep work (Place i 0 ∷ vs) c (place_in g a p) u0 seen calm r0.joins.output r0.joins.ended (omega (arith, turns)) (λ m less.
      follows_weaken g m (w + 262) (w + 4000 + 4000) (Running work (Place i 0 ∷ vs) c) (place_in g a p) u0 seen (omega arith)
      (arguments_leave_weight g a fast es pushed fresh placed arguments m (w + 262) p (Invoke (type_in s) (types_of es) ∷ k) (Place i 0 ∷ vs) c q b u0 seen (has_front (lines_of g a) p own (line ∷ after) has)
      (record { joins = r0.joins; sp = r0.sp; room = omega (arith, r0.room); none_pushed = r0.none_pushed }) (omega (arith, r0.room)) turns (λ o xs c2 q2 b2 u later le args over ready there turns2.
      is_invoked n o w p k vs c q b u0 (omega (arith, lt, less, le)) has rest bodies xs c2 q2 b2 u args over ready there later turns2))))

pub named_calls_do : NamedCallsDo
named_calls_do g a i h needs spare e n function body t s r es pushed fresh placed low owned spared parts no_library not_counted callee arguments bodies come =
    let p : Passed = passed_of a.frame (is_fast (bare (by_name s r i))) es in
    let own : List Line = args_code a.frame pushed fresh (is_fast (bare (by_name s r i))) es in
    let after : List Line = result_code (outcome_of a.frame (type_in t)) in
    let name : Sym = function_symbol (numbers_of a.frame.parts) i in
    let of_unit : expr_code a.frame pushed fresh wanted.Value (node t (call (by_name s r i) es)) ≡ own ++ named_by a.frame i None (is_counted (bare (by_name s r i))) p (outcome_of a.frame (type_in t)) =
    ap (λ o. own ++ named_by a.frame i o (is_counted (bare (by_name s r i))) p (outcome_of a.frame (type_in t))) no_library in
    let same : expr_code a.frame pushed fresh wanted.Value (node t (call (by_name s r i) es)) ≡ own ++ (lines.Call (Function name (registers p.last) (gives_in a.frame t)) ∷ after) =
    of_unit ∙ ap (λ b. own ++ (count_code b p ++ (lines.Call (Function name (reads_of b p) (gives_in a.frame t)) ∷ after))) not_counted in
    subst (λ ls. DoesFor g a n Valued (shape_of (unit_in g).types (type_in t)) (plan (unit_in g) (node t (call (by_name s r i) es))) (need (node t (call (by_name s r i) es))) pushed ls) (sym same)
    (does_all g a i h needs spare e function body t s r es pushed fresh placed low owned spared parts callee come n arguments bodies)
