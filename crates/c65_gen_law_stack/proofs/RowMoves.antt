-- How far each routine moves sp, and what waits behind it.
use Rattle.std.proofs.Common.{◌≡◌, ℕ, ◌+◌, ◌-◌, ◌==◌, ◌≤◌, Bool, true, false, Option, None, Some, List, [], ◌∷◌, refl, ap, ◌∙◌, arith}
use Rattle.std.specs.Prelude.{if◌then◌else◌}
use Rattle.std.proofs.lemmas.Bool.{eqb-true}
use Rattle.c65_code.specs.declared.routine.Count.{Count}
use Rattle.c65_code.specs.declared.routine.Count.TheVariants.{One, Two, Three, Four, Five, Six, Seven, Eight}
use Rattle.c65_code.specs.declared.routine.Width.{Width}
use Rattle.c65_code.specs.declared.routine.Width.TheVariants.{Ax, Eax}
use Rattle.c65_code.specs.declared.routine.TosOp.{TosOp}
use Rattle.c65_code.specs.declared.routine.Routine.{Routine}
use Rattle.c65_code.specs.declared.routine.Routine.TheVariants as routines
use Rattle.c65_code.specs.Numbers.{tos_result, result_width, unary_result, unary_width}
use Rattle.c65_code.specs.LineState.{State, sp_of}
use Rattle.c65_code.specs.Rows.{Row, row_of, row_by, is_too_deep, check_row, giving, giving_if, costing, popping, number_at, primary_of, number_of, tos_cost}
use Rattle.c65_code.specs.Rows as rows
use Rattle.c65_code.specs.Moves.{MeetsRow}
use Rattle.c65_code.specs.Forms.{Run}
use Rattle.c65_genload.specs.Conversions.{waiting}
use Rattle.c65_gen_law_lines.specs.Stack.{Waiting, waiting_by, taken, left, popped, bytes_in, by_routine}
use Rattle.c65_gen_law_stack.specs.Going.{IsOwn}

count_in : Option Waiting → ℕ
count_in None = 0
count_in (Some w) = bytes_in w.values

same_count : (w x : Waiting) → Some w ≡ Some x → bytes_in w.values ≡ bytes_in x.values
unfolding count_in
same_count w x e = ap count_in e

popped_count : (n : ℕ) (values : List ℕ) (calls : List (List ℕ)) (x : Waiting) → left calls (taken (n ∷ []) values) ≡ Some x → bytes_in values ≡ n + bytes_in x.values
popped_count n [] calls x e = absurd cc
popped_count n (m ∷ values) calls x e = by (m == n) refl e
  where
    by : (b : Bool) → (m == n) ≡ b → left calls (if b then taken [] values else None) ≡ Some x → m + bytes_in values ≡ n + bytes_in x.values
    by true h e = omega (arith, eqb-true m n h, same_count (waiting_by values calls) x e)
    by false h e = absurd cc

-- sp and what waits make the same sum
record Even (t u : State) (w x : Waiting) : Type 0 where
  even : sp_of u + bytes_in x.values ≡ sp_of t + bytes_in w.values

pushes : (n : ℕ) (w x : Waiting) (t u : State) → n ≤ sp_of t → sp_of u ≡ sp_of t - n → Some (waiting_by (n ∷ w.values) w.calls) ≡ Some x → Even t u w x
pushes n w x t u fits sp e = record { even = omega (arith, fits, sp, same_count (waiting_by (n ∷ w.values) w.calls) x e) }

pops : (n : ℕ) (w x : Waiting) (t u : State) → sp_of u ≡ sp_of t + n → popped n w ≡ Some x → Even t u w x
pops n w x t u sp e = record { even = omega (arith, sp, popped_count n w.values w.calls x e) }

stays : (w x : Waiting) (t u : State) → sp_of u ≡ sp_of t → Some w ≡ Some x → Even t u w x
stays w x t u sp e = record { even = omega (arith, sp, same_count w x e) }

giving_sp : (width : Width) (v : ℕ) (row : Row) → (giving width v row).sp ≡ row.sp
giving_sp Ax v row = refl
giving_sp Eax v row = refl

giving_if_sp : (width : Width) (o : Option ℕ) (row : Row) → (giving_if width o row).sp ≡ row.sp
giving_if_sp width None row = refl
giving_if_sp width (Some v) row = giving_sp width v row

widths : (width : Width) → rows.size_of width ≡ waiting width
widths Ax = refl
widths Eax = refl

small_count : (c : Count) → number_of c ≤ 8
small_count One = omega arith
small_count Two = omega arith
small_count Three = omega arith
small_count Four = omega arith
small_count Five = omega arith
small_count Six = omega arith
small_count Seven = omega arith
small_count Eight = omega arith

tos_sp : (op : TosOp) (width : Width) (t u : State) → MeetsRow (row_of (routines.Tos op width) t) t u → sp_of u ≡ sp_of t + waiting width
tos_sp op width t u m =
    let row : Row = costing (tos_cost op) (popping (rows.size_of width) t (row_by (routines.Tos op width) t)) in
    m.sp ∙ (giving_if_sp (result_width op width) (tos_result op width (number_at width t.mem (sp_of t)) (primary_of width t)) row ∙ ap (λ (n : ℕ). sp_of t + n) (widths width))

check_sp : (deep : Bool) (row : Row) → (check_row deep row).sp ≡ row.sp
check_sp true row = refl
check_sp false row = refl

routine_even : (r : Routine) (w x : Waiting) (t u : State) → IsOwn (Run r) → 8 ≤ sp_of t → by_routine r w ≡ Some x → MeetsRow (row_of r t) t u → Even t u w x
routine_even routines.PushA w x t u own low e m = pushes 1 w x t u (omega (arith, low)) m.sp e
routine_even routines.PushAx w x t u own low e m = pushes 2 w x t u (omega (arith, low)) m.sp e
routine_even routines.PushA0 w x t u own low e m = pushes 2 w x t u (omega (arith, low)) m.sp e
routine_even routines.Push0 w x t u own low e m = pushes 2 w x t u (omega (arith, low)) m.sp e
routine_even routines.PushEax w x t u own low e m = pushes 4 w x t u (omega (arith, low)) m.sp e
routine_even routines.PopA w x t u own low e m = pops 1 w x t u m.sp e
routine_even routines.PopAx w x t u own low e m = pops 2 w x t u m.sp e
routine_even routines.PopEax w x t u own low e m = pops 4 w x t u m.sp e
routine_even (routines.IncSp c) w x t u own low e m = pops (number_of c) w x t u m.sp e
routine_even (routines.DecSp c) w x t u own low e m = pushes (number_of c) w x t u (omega (arith, low, small_count c)) m.sp e
routine_even routines.StATos w x t u own low e m = pops 2 w x t u m.sp e
routine_even routines.StAxTos w x t u own low e m = pops 2 w x t u m.sp e
routine_even routines.StEaxTos w x t u own low e m = pops 2 w x t u m.sp e
routine_even routines.CopyTos w x t u own low e m = pops 2 w x t u m.sp e
routine_even (routines.Tos op width) w x t u own low e m = pops (waiting width) w x t u (tos_sp op width t u m) e
routine_even (routines.Library f) w x t u own low e m = absurd own
routine_even routines.LdAxYSp w x t u own low e m = stays w x t u m.sp e
routine_even routines.LdAx0Sp w x t u own low e m = stays w x t u m.sp e
routine_even routines.LdEaxYSp w x t u own low e m = stays w x t u m.sp e
routine_even routines.StAxYSp w x t u own low e m = stays w x t u m.sp e
routine_even routines.StAx0Sp w x t u own low e m = stays w x t u m.sp e
routine_even routines.StEaxYSp w x t u own low e m = stays w x t u m.sp e
routine_even routines.LdAi w x t u own low e m = stays w x t u m.sp e
routine_even routines.LdAxi w x t u own low e m = stays w x t u m.sp e
routine_even routines.LdEaxi w x t u own low e m = stays w x t u m.sp e
routine_even (routines.Unary op width) w x t u own low e m = stays w x t u (m.sp ∙ giving_sp (unary_width op width) (unary_result op width (primary_of width t)) (costing 256 (row_by (routines.Unary op width) t))) e
routine_even routines.SignA w x t u own low e m = stays w x t u m.sp e
routine_even routines.LongAx w x t u own low e m = stays w x t u m.sp e
routine_even routines.ULongAx w x t u own low e m = stays w x t u m.sp e
routine_even routines.StkChk w x t u own low e m = stays w x t u (m.sp ∙ check_sp (is_too_deep t) (costing 256 (row_by routines.StkChk t))) e
routine_even _ w x t u own low e m = absurd cc

pub routine_moves : (r : Routine) (w x : Waiting) (t u : State) → IsOwn (Run r) → 8 ≤ sp_of t → by_routine r w ≡ Some x → MeetsRow (row_of r t) t u → sp_of u + bytes_in x.values ≡ sp_of t + bytes_in w.values
routine_moves r w x t u own low e m = (routine_even r w x t u own low e m).even
