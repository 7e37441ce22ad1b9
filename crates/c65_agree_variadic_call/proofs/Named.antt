-- A call by its name of a function that takes further arguments.
use Rattle.std.proofs.Common.{◌≡◌, ℕ, suc, ◌+◌, ◌<◌, ◌≤◌, true, false, List, [], ◌∷◌, ◌++◌, None, length, refl, sym, ap, ◌∙◌, subst, arith, length-append}
use Rattle.std.specs.Prelude.{not, ◌||◌}
use Rattle.c65_ctype.specs.Trees as types
use Rattle.c65_ctype.specs.Trees.{Ty, QTy, type_in}
use Rattle.c65_csem.specs.Trees.{node, call, Nodes, none, some, Stmt, FuncTy}
use Rattle.c65_csem_need.specs.Needs.{need}
use Rattle.c65_mach.specs.declared.rows.Op.TheVariants.{Ldy}
use Rattle.c65_mach.specs.State.{Regs}
use Rattle.c65_mach.specs.Step.{apply}
use Rattle.c65_meaning.specs.Store.{Value, Place, Shape}
use Rattle.c65_meaning.specs.Shapes.{shape_of, types_of}
use Rattle.c65_meaning.specs.Items.{Item, Push, Keep, Invoke, plan, plan_all}
use Rattle.c65_meaning.specs.State.{Scene, Running, turned, soft_sum}
use Rattle.c65_meaning.specs.Step.{further}
use Rattle.c65_code.specs.declared.line.Sym.{Sym}
use Rattle.c65_code.specs.declared.line.Line.{Line}
use Rattle.c65_code.specs.declared.line.Line.TheVariants as lines
use Rattle.c65_code.specs.declared.line.Callee.TheVariants.{Function}
use Rattle.c65_code.specs.declared.parts.RegSet.{RegSet}
use Rattle.c65_code.specs.Effects.{only_y}
use Rattle.c65_code.specs.LineState.{State, IsBytes}
use Rattle.c65_code.specs.Moves.{common_of}
use Rattle.c65_code.specs.Placement.{IsPlacement}
use Rattle.c65_code.specs.Steady.{IsCalm}
use Rattle.c65_code.specs.Comes.{Seen}
use Rattle.c65_genframe.specs.Frames.{Framed, is_variadic, takes_stack, saved_bytes}
use Rattle.c65_genframe.specs.Symbols.{numbers_of, function_symbol}
use Rattle.c65_genwide.specs.Lines.{value}
use Rattle.c65_genexpr.specs.declared.wanted.Wanted.TheVariants as wanted
use Rattle.c65_genexpr.specs.declared.types.Outcome.{Outcome}
use Rattle.c65_genexpr.specs.Types.{outcome_of, bare}
use Rattle.c65_genexpr.specs.Arguments.{is_fast, is_counted, stays, passed_of, passed_size, joined, reads_of}
use Rattle.c65_genexpr.specs.Calls.{library_at, count_code, named_by, result_code}
use Rattle.c65_genexpr.specs.Code.{expr_code, args_code}
use Rattle.c65_agree_store.specs.Stands.{Placing, Banks}
use Rattle.c65_agree_state.specs.World.{World, unit_in, setting_in, Active, lines_of, place_in, HasAt, HasTurns}
use Rattle.c65_agree_state.specs.Follows.{Follows}
use Rattle.c65_agree_state.specs.Exprs.{Ready, Valued, Kept, Rest}
use Rattle.c65_agree_state.proofs.Followed.{follows_weaken, steps_earn, ready_is_calm}
use Rattle.c65_agree_state.proofs.Nodes.{has_front, has_back}
use Rattle.c65_agree_frame.proofs.Leads.{kept_regs, lines_lead}
use Rattle.c65_agree_enter.specs.Entries.{FixedAreLow}
use Rattle.c65_agree_load.proofs.Kept.{is_on, kept_later, ready_later}
use Rattle.c65_agree_call.specs.Calls.{frame_behind, HasReturned}
use Rattle.c65_agree_argument.specs.Arguments.{Argument, AreArguments, waiting_bytes, AreThere, piled, IsOver, ArgumentsDo}
use Rattle.c65_agree_argument.specs.Passed.{all_bytes, values_of}
use Rattle.c65_agree_argument.proofs.Arguments.{arguments_are_followed}
use Rattle.c65_agree_argument.proofs.Over.{over_then, over_call, over_all}
use Rattle.c65_agree_invoke.specs.Nodes.{sizes_of, ResultsCome, CallsAreOwned, DoesFor, by_name, gives_in}
use Rattle.c65_agree_invoke.proofs.Calling.{comes_back}
use Rattle.c65_agree_invoke.proofs.Stacked.{there_moves}
use Rattle.c65_agree_invoke.proofs.Taken.{sizes_are}
use Rattle.c65_agree_variadic.proofs.Called.{further_calls_by_name_are_followed}
use Rattle.c65_agree_variadic_call.specs.Callees.{named_sizes, IsFurtherCallee, FurtherBodiesDo}
use Rattle.c65_agree_variadic_call.specs.Nodes.{FurtherNamedCallsDo, FurtherNamedCallsAreExpressions}
use Rattle.c65_agree_frame.proofs.Banks.{saved_few}
use Rattle.c65_agree_variadic_call.proofs.Few.{few_move}
use Rattle.c65_agree_variadic_call.proofs.Calling.{further_frames_are_cheap, called_further, is_from, may_go}

-- the number of bytes that are passed, as the line tells it
pub stacked_is : (f : Framed) (es : Nodes) → sizes_of f es ≤ 250 → (passed_of f false es).stacked ≡ sizes_of f es
stacked_is f none few = refl
stacked_is f (some e es) few = ap (λ b. (joined b (passed_size f e) (passed_of f false es)).stacked) (last_not es) ∙ omega (arith, stacked_is f es (omega (arith, few)), few)
  where
    last_not : (ns : Nodes) → stays false ns ≡ false
    last_not none = refl
    last_not (some x ns) = refl

-- those of the parameters are among them
pub named_few : (f : Framed) (is : List ℕ) (es : Nodes) → named_sizes f is es ≤ sizes_of f es
named_few f [] es = omega arith
named_few f (i ∷ is) none = omega arith
named_few f (i ∷ is) (some e es) = omega (arith, named_few f is es)

module _ (g : World) (a : Active) (i : ℕ) (h : Framed) (needs spare e : ℕ) (function : FuncTy) (body : Stmt) (t s r : QTy) (es : Nodes) (pushed fresh : ℕ) (placed : IsPlacement g.code g.place) (low : FixedAreLow g) (owned : CallsAreOwned g a) (spared : 1 ≤ a.spare)
    (parts : a.frame.parts ≡ g.parts) (limit : sizes_of a.frame es ≤ 250) (callee : IsFurtherCallee g a.frame i h needs spare e function body es)
    (come : ResultsCome g a (shape_of (unit_in g).types (type_in t)) (common_of (gives_in a.frame t) ((setting_in g).gives (function_symbol (numbers_of g.parts) i).0)) (result_code (outcome_of a.frame (type_in t)))) where
  abbrev shape : Shape
  shape = shape_of (unit_in g).types (type_in t)

  abbrev name : Sym
  name = function_symbol (numbers_of a.frame.parts) i

  abbrev gives : RegSet
  gives = gives_in a.frame t

  abbrev own : List Line
  own = args_code a.frame pushed fresh false es

  -- Y gets the number of bytes
  abbrev counting : Line
  counting = value Ldy (sizes_of a.frame es)

  abbrev line : Line
  line = lines.Call (Function name only_y gives)

  abbrev after : List Line
  after = result_code (outcome_of a.frame (type_in t))

  abbrev all : List Line
  all = own ++ (counting ∷ (line ∷ after))

  -- ---- at the line of the call

  module _ (n j w p : ℕ) (k : List Item) (vs : List Value) (c : Scene) (q : Placing) (b : Banks) (u0 : State) (few : j ≤ n) (has : HasAt (lines_of g a) p all) (rest : Rest g a Valued shape n w k vs (p + length all) c q b u0)
      (bodies : FurtherBodiesDo g i h needs spare body shape n)
      (xs : List Argument) (c2 : Scene) (q2 : Placing) (b2 : Banks) (u : State) (args : AreArguments a.frame es xs) (over : IsOver g a (waiting_bytes false xs) c q b u0 c2 q2 b2 u) (ready : Ready g a (pushed + waiting_bytes false xs) 0 c2 q2 b2 u)
      (there : AreThere false q2 u xs) (count : u.regs.y ≡ all_bytes xs) where
    abbrev wait : ℕ
    wait = waiting_bytes false xs

    abbrev at : ℕ
    at = suc (p + length own)

    abbrev more : ℕ
    more = length (further (unit_in g) function (types_of es) (values_of xs))

    abbrev its : Active
    its = called_further g a i h spare gives more at c2 u

    at_line : HasAt (lines_of g a) at (line ∷ after)
    at_line = (has_back (lines_of g a) p own (counting ∷ (line ∷ after)) has).1

    module _ (v : Value) (c3 : Scene) (q3 : Placing) (b3 : Banks) (u3 : State) (back : HasReturned g a its (frame_behind g a at gives u) wait shape (turned c2) q2 b2 u v c3 q3 b3 u3) where
      kept_all : Kept g a c q b u0 c3 q3 b3 u3
      kept_all =
          let none : 0 + wait ≡ wait = omega arith in
          let flat : IsOver g a 0 c q b u0 c3 q3 b3 u3 = over_call g a 0 wait c c2 c3 q q2 q3 b b2 b3 u0 u u3 (subst (λ m. IsOver g a m c q b u0 c2 q2 b2 u) (sym none) over) back.behind in
          over_all g a 0 c c3 q q3 b b3 u0 u3 u3 flat back.behind.joins (omega arith) (λ m le. refl) (back.behind.pushed ∙ over.none_pushed)

      ready_back : Ready g a pushed 0 c3 q3 b3 u3
      ready_back =
          let cost : soft_sum c3.frames ≡ soft_sum c2.frames = ap soft_sum back.behind.frames in
          record { joins = back.behind.joins; sp = omega (arith, back.behind.sp, ready.sp); room = omega (arith, back.behind.sp, ready.room, cost); none_pushed = back.behind.pushed ∙ over.none_pushed }

      goes_back : (o : ℕ) (later : Seen) → o < j → HasTurns g c3.turns (place_in g a (suc at)) later → Follows g o (w + 2856) (Running k (v ∷ vs) c3) (place_in g a (suc at)) u3 later
      goes_back o later lt turns =
          comes_back g a shape (common_of gives ((setting_in g).gives (function_symbol (numbers_of g.parts) i).0)) after come pushed n w (suc at) (p + length all) k vs c q b u0 rest (omega (arith, length-append own (counting ∷ (line ∷ after)))) at_line.1
          o v c3 q3 b3 back.last u3 later (omega (arith, lt, few)) kept_all ready_back back.fits back.value back.given turns

    is_invoked : (later : Seen) → HasTurns g c2.turns (place_in g a at) later → Follows g j (w + 262) (Running (Invoke (type_in s) (types_of es) ∷ k) (piled xs (Place i 0 ∷ vs)) c2) (place_in g a at) u later
    is_invoked later turns =
        let symbol : name.0 ≡ its.symbol = ap (λ x. (function_symbol (numbers_of x) i).0) parts in
        let short : h.stacked ≤ 250 = omega (arith, named_few a.frame function.params es, callee.stacked, limit) in
        let few_moved : length h.moved ≤ 6 = few_move (saved_bytes h.bank) (h.soft + saved_bytes h.bank) (h.soft + saved_bytes h.bank + h.stacked) h.moved (saved_few h.bank) callee.has_moves.moves in
        further_calls_by_name_are_followed g a its name only_y gives wait needs j (w + 262) (w + 2856) at e (type_in s) function body (types_of es) shape (values_of xs) vs (piled xs (Place i 0 ∷ vs)) k c2 q2 b2 u later placed
        (is_from g a i h needs spare e function body es callee gives at pushed xs c2 q2 b2 u args ready there limit count) symbol (at_line.0, tt)
        (may_go g a i h needs spare e function body es callee gives at pushed xs c2 q2 b2 u args ready there limit count only_y n j (w + 2856) shape vs k low spared (owned at (Function name only_y gives) tt at_line.0) (λ u2 same. same) few (omega arith) bodies
        (λ o lt m v c3 q3 b3 u3 later2 less back turns2. goes_back v c3 q3 b3 u3 back m later2 (omega (arith, lt, less)) turns2))
        (omega (arith, further_frames_are_cheap h callee.small short few_moved)) turns

  -- ---- the line that counts

  module _ (n j w p : ℕ) (k : List Item) (vs : List Value) (c : Scene) (q : Placing) (b : Banks) (u0 : State) (few : j ≤ n) (has : HasAt (lines_of g a) p all) (rest : Rest g a Valued shape n w k vs (p + length all) c q b u0)
      (bodies : FurtherBodiesDo g i h needs spare body shape n)
      (xs : List Argument) (c2 : Scene) (q2 : Placing) (b2 : Banks) (u : State) (args : AreArguments a.frame es xs) (over : IsOver g a (waiting_bytes false xs) c q b u0 c2 q2 b2 u) (ready : Ready g a (pushed + waiting_bytes false xs) 0 c2 q2 b2 u)
      (there : AreThere false q2 u xs) where
    abbrev regs : Regs
    regs = apply false Ldy (sizes_of a.frame es) u.regs

    abbrev counted : State
    counted = record u { regs = regs }

    behind_count : IsBytes counted → (later : Seen) → HasTurns g c2.turns (place_in g a (suc (p + length own))) later → Follows g j (w + 262) (Running (Invoke (type_in s) (types_of es) ∷ k) (piled xs (Place i 0 ∷ vs)) c2) (place_in g a (suc (p + length own))) counted later
    behind_count bytes later turns =
        let wait : ℕ = waiting_bytes false xs in
        let kept : Kept g a c2 q2 b2 u c2 q2 b2 counted = kept_later g a (pushed + wait) 0 c2 q2 b2 u placed ready regs u.zp (λ m side. refl) bytes in
        is_invoked n j w p k vs c q b u0 few has rest bodies xs c2 q2 b2 counted args (over_then g a wait c c2 c2 q q2 q2 b b2 b2 u0 u counted over kept) (ready_later g a (pushed + wait) 0 c2 q2 b2 u placed ready regs u.zp (λ m side. refl) bytes)
        (there_moves false q2 u counted xs refl refl refl there) (sym (sizes_are a.frame es xs args)) later turns

    is_counted_up : (later : Seen) → HasTurns g c2.turns (place_in g a (p + length own)) later → Follows g j (1 + (w + 262)) (Running (Invoke (type_in s) (types_of es) ∷ k) (piled xs (Place i 0 ∷ vs)) c2) (place_in g a (p + length own)) u later
    is_counted_up later turns =
        let next : suc (p + length own) ≡ p + length own + 1 = omega arith in
        let at = has_back (lines_of g a) p own (counting ∷ (line ∷ after)) has in
        lines_lead g a (counting ∷ []) u placed (is_on g a (pushed + waiting_bytes false xs) 0 c2 q2 b2 u placed ready) (refl, tt, omega (arith, limit), kept_regs u regs, tt) j (w + 262) (p + length own) c2.turns (Running (Invoke (type_in s) (types_of es) ∷ k) (piled xs (Place i 0 ∷ vs)) c2) later (at.0, tt) turns (λ z later2 e turns2.
        subst (λ x. Follows g j (w + 262) (Running (Invoke (type_in s) (types_of es) ∷ k) (piled xs (Place i 0 ∷ vs)) c2) (place_in g a x) z later2) next
        (subst (λ x. Follows g j (w + 262) (Running (Invoke (type_in s) (types_of es) ∷ k) (piled xs (Place i 0 ∷ vs)) c2) (place_in g a (suc (p + length own))) x later2) (sym e.0)
        (behind_count (subst IsBytes e.0 e.1) later2 (subst (λ x. HasTurns g c2.turns (place_in g a x) later2) (sym next) turns2))))

  -- the pointer to the function takes two steps and no line, whose weight is enough for a check of the stacks
  does_all : (n : ℕ) → ArgumentsDo g a es → FurtherBodiesDo g i h needs spare body shape n → DoesFor g a n Valued shape (plan (unit_in g) (node t (call (by_name s r i) es))) (need (node t (call (by_name s r i) es))) pushed all
  does_all n arguments bodies w p k vs c q b u0 seen has r0 turns rest =
      let calm : IsCalm (setting_in g) u0 = (ready_is_calm g a pushed (need (node t (call (by_name s r i) es))) c q b u0 r0).calm in
      let work : List Item = plan_all (unit_in g) es (Invoke (type_in s) (types_of es) ∷ k) in
      steps_earn g n w (Push (Place i 0)) (Keep ∷ work) vs c (place_in g a p) u0 seen calm r0.joins.output r0.joins.ended (omega (arith, turns)) (λ j lt.
      steps_earn g j (w + 4000) Keep work (Place i 0 ∷ vs) c (place_in g a p) u0 seen calm r0.joins.output r0.joins.ended (omega (arith, turns)) (λ m less.
      follows_weaken g m (1 + (w + 262)) (w + 4000 + 4000) (Running work (Place i 0 ∷ vs) c) (place_in g a p) u0 seen (omega arith)
      (arguments_are_followed g a false es pushed fresh placed arguments m (1 + (w + 262)) p (Invoke (type_in s) (types_of es) ∷ k) (Place i 0 ∷ vs) c q b u0 seen (has_front (lines_of g a) p own (counting ∷ (line ∷ after)) has)
      (record { joins = r0.joins; sp = r0.sp; room = omega (arith, r0.room); none_pushed = r0.none_pushed }) (omega (arith, r0.room)) turns (λ o xs c2 q2 b2 u later le args over ready there turns2.
      is_counted_up n o w p k vs c q b u0 (omega (arith, lt, less, le)) has rest bodies xs c2 q2 b2 u args over ready there later turns2))))

-- a call that counts passes no argument in registers
pub slow : (ty : Ty) → is_counted ty ≡ true → is_fast ty ≡ false
slow (types.pointer (types.qual (types.function f) c v)) e = ap not (on_stack f e)
  where
    on_stack : (x : types.Fn) → is_variadic x ≡ true → takes_stack x ≡ true
    on_stack (types.fn q ps variadic cdecl) d = ap (λ b. b || cdecl) d
slow types.void e = cc
slow (types.int k) e = cc
slow (types.array q n) e = cc
slow (types.tag n) e = cc
slow (types.function f) e = cc
slow (types.pointer (types.qual types.void c v)) e = cc
slow (types.pointer (types.qual (types.int k) c v)) e = cc
slow (types.pointer (types.qual (types.pointer q) c v)) e = cc
slow (types.pointer (types.qual (types.array q n) c v)) e = cc
slow (types.pointer (types.qual (types.tag n) c v)) e = cc

-- the lines of the generator
module _ (f : Framed) (pushed fresh i : ℕ) (t s r : QTy) (es : Nodes) (no_library : library_at f i ≡ None) (counted : is_counted (bare (by_name s r i)) ≡ true) (limit : sizes_of f es ≤ 250) where
  abbrev callee_type : Ty
  callee_type = bare (by_name s r i)

  abbrev its_outcome : Outcome
  its_outcome = outcome_of f (type_in t)

  abbrev its_args : List Line
  its_args = args_code f pushed fresh false es

  abbrev its_name : Sym
  its_name = function_symbol (numbers_of f.parts) i

  of_unit : expr_code f pushed fresh wanted.Value (node t (call (by_name s r i) es)) ≡ args_code f pushed fresh (is_fast callee_type) es ++ named_by f i None (is_counted callee_type) (passed_of f (is_fast callee_type) es) its_outcome
  of_unit = ap (λ o. args_code f pushed fresh (is_fast callee_type) es ++ named_by f i o (is_counted callee_type) (passed_of f (is_fast callee_type) es) its_outcome) no_library

  slowly : args_code f pushed fresh (is_fast callee_type) es ++ named_by f i None (is_counted callee_type) (passed_of f (is_fast callee_type) es) its_outcome ≡ its_args ++ named_by f i None (is_counted callee_type) (passed_of f false es) its_outcome
  slowly = ap (λ b. args_code f pushed fresh b es ++ named_by f i None (is_counted callee_type) (passed_of f b es) its_outcome) (slow callee_type counted)

  lines_are : expr_code f pushed fresh wanted.Value (node t (call (by_name s r i) es)) ≡ its_args ++ (value Ldy (sizes_of f es) ∷ (lines.Call (Function its_name only_y (gives_in f t)) ∷ result_code its_outcome))
  lines_are =
      of_unit ∙ (slowly ∙ (ap (λ b. its_args ++ (count_code b (passed_of f false es) ++ (lines.Call (Function its_name (reads_of b (passed_of f false es)) (gives_in f t)) ∷ result_code its_outcome))) counted
      ∙ ap (λ m. its_args ++ (value Ldy m ∷ (lines.Call (Function its_name only_y (gives_in f t)) ∷ result_code its_outcome))) (stacked_is f es limit)))

pub further_named_calls_do : FurtherNamedCallsDo
further_named_calls_do g a i h needs spare e n function body t s r es pushed fresh placed low owned spared parts no_library counted limit callee arguments bodies come =
    subst (λ ls. DoesFor g a n Valued (shape_of (unit_in g).types (type_in t)) (plan (unit_in g) (node t (call (by_name s r i) es))) (need (node t (call (by_name s r i) es))) pushed ls) (sym (lines_are a.frame pushed fresh i t s r es no_library counted limit))
    (does_all g a i h needs spare e function body t s r es pushed fresh placed low owned spared parts limit callee come n arguments bodies)

-- ---- as an expression

fewer_do : (g : World) (i : ℕ) (h : Framed) (needs spare : ℕ) (body : Stmt) (result : Shape) (n m : ℕ) → n ≤ m → FurtherBodiesDo g i h needs spare body result m → FurtherBodiesDo g i h needs spare body result n
fewer_do g i h needs spare body result n m le bodies a below vs j v calling high lt enough = bodies a below vs j v calling high (omega (arith, lt, le)) enough

pub further_named_calls_are_expressions : FurtherNamedCallsAreExpressions
further_named_calls_are_expressions g a i h needs spare e function body t s r es placed low owned spared parts no_library counted limit callee arguments bodies come pushed fresh n w p k vs c q b u seen has ready turns rest spoken =
    further_named_calls_do g a i h needs spare e n function body t s r es pushed fresh placed low owned spared parts no_library counted limit callee arguments (fewer_do g i h needs spare body (shape_of (unit_in g).types (type_in t)) n g.most spoken.0 bodies) come w p k vs c q b u seen has ready turns rest spoken
