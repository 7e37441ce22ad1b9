-- What moves weigh, and what they leave open.
use Rattle.std.proofs.Common.{◌≡◌, ℕ, zero, suc, ◌≤◌, ◌||◌, Bool, true, false, IsTrue, List, [], ◌∷◌, Option, Some, None, refl, sym, ◌∙◌, ap, subst, arith, lit≤}
use Rattle.c65_code.specs.declared.parts.Part.{Part}
use Rattle.c65_code.specs.declared.parts.Part.TheVariants as parts
use Rattle.c65_code.specs.declared.routine.Width.{Width}
use Rattle.c65_code.specs.declared.routine.Width.TheVariants.{Ax, Eax}
use Rattle.c65_code.specs.declared.routine.TosOp.{TosOp}
use Rattle.c65_code.specs.declared.routine.TosOp.TheVariants as tos
use Rattle.c65_code.specs.declared.routine.UnaryRoutine.{UnaryRoutine}
use Rattle.c65_code.specs.declared.routine.UnaryRoutine.TheVariants.{Neg, Compl, Shl1, Shr1, Asr1, BNeg}
use Rattle.c65_base.specs.declared.library.Library.{Library}
use Rattle.c65_base.specs.declared.library.Library.TheVariants.{Putchar, Getchar, Puts, Exit, Memcpy, Memset, Strcmp, Strcpy, Strlen, Printf}
use Rattle.c65_code.specs.declared.routine.Routine.{Routine}
use Rattle.c65_code.specs.declared.routine.Routine.TheVariants as routines
use Rattle.c65_code.specs.Parts.{has_part, union_of}
use Rattle.c65_code.specs.Effects.{kept_at_calls}
use Rattle.c65_code.specs.LineState.{State, sp_of, Same}
use Rattle.c65_code.specs.Placement.{Setting}
use Rattle.c65_code.specs.Forms.{Form, Mark, Plain, Branch, Jump, Far, Push, Pull, Depth, Return, Run, Enter, Through, Stray, form_of}
use Rattle.c65_code.specs.Numbers.{tos_result, result_width}
use Rattle.c65_code.specs.Rows.{Row, Gives, row_of, row_by, is_too_deep, check_row, costing, popping, giving_if, number_at, size_of, primary_of, tos_cost, read_row, printed_of, print_row}
use Rattle.c65_code.specs.Moves.{Enters, Calls}
use Rattle.c65_code.specs.Weights.{row_cost, call_weight, Weighs}
use Rattle.c65_code.specs.LineLaws.{RunsWeigh, LeavesAOpen, CallsLeaveYOpen, with_a, with_y}

tos_costs : (op : TosOp) → 1 ≤ tos_cost op
tos_costs tos.Add = lit≤ tt
tos_costs tos.Sub = lit≤ tt
tos_costs tos.Mul = lit≤ tt
tos_costs tos.And = lit≤ tt
tos_costs tos.Or = lit≤ tt
tos_costs tos.Xor = lit≤ tt
tos_costs tos.Div = lit≤ tt
tos_costs tos.Mod = lit≤ tt
tos_costs tos.UDiv = lit≤ tt
tos_costs tos.UMod = lit≤ tt
tos_costs tos.Shl = lit≤ tt
tos_costs tos.Shr = lit≤ tt
tos_costs tos.Asr = lit≤ tt
tos_costs tos.Eq = lit≤ tt
tos_costs tos.Ne = lit≤ tt
tos_costs tos.Lt = lit≤ tt
tos_costs tos.Le = lit≤ tt
tos_costs tos.Gt = lit≤ tt
tos_costs tos.Ge = lit≤ tt
tos_costs tos.ULt = lit≤ tt
tos_costs tos.ULe = lit≤ tt
tos_costs tos.UGt = lit≤ tt
tos_costs tos.UGe = lit≤ tt

giving_costs : (width : Width) (o : Option ℕ) (row : Row) → (giving_if width o row).cost ≡ row.cost
giving_costs Ax None row = refl
giving_costs Ax (Some v) row = refl
giving_costs Eax None row = refl
giving_costs Eax (Some v) row = refl

tos_row_costs : (op : TosOp) (width : Width) (t : State) → 1 ≤ row_cost (row_of (routines.Tos op width) t)
tos_row_costs op width t =
    subst (λ n. 1 ≤ n)
    (sym (giving_costs (result_width op width) (tos_result op width (number_at width t.mem (sp_of t)) (primary_of width t)) (costing (tos_cost op) (popping (size_of width) t (row_by (routines.Tos op width) t)))))
    (tos_costs op)

unary_costs : (op : UnaryRoutine) (width : Width) (t : State) → 1 ≤ row_cost (row_of (routines.Unary op width) t)
unary_costs Neg Ax t = lit≤ tt
unary_costs Neg Eax t = lit≤ tt
unary_costs Compl Ax t = lit≤ tt
unary_costs Compl Eax t = lit≤ tt
unary_costs Shl1 Ax t = lit≤ tt
unary_costs Shl1 Eax t = lit≤ tt
unary_costs Shr1 Ax t = lit≤ tt
unary_costs Shr1 Eax t = lit≤ tt
unary_costs Asr1 Ax t = lit≤ tt
unary_costs Asr1 Eax t = lit≤ tt
unary_costs BNeg Ax t = lit≤ tt
unary_costs BNeg Eax t = lit≤ tt

read_costs : (input : List ℕ) (t : State) (row : Row) → (read_row input t row).cost ≡ row.cost
read_costs [] t row = refl
read_costs (v ∷ input) t row = refl

print_costs : (text : Option (List ℕ)) (t : State) → 1 ≤ (print_row t text (costing 256 (row_by (routines.Library Printf) t))).cost
print_costs None t = lit≤ tt
print_costs (Some text) t = omega arith

library_costs : (f : Library) (t : State) → 1 ≤ row_cost (row_of (routines.Library f) t)
library_costs Putchar t = lit≤ tt
library_costs Getchar t = subst (λ n. 1 ≤ n) (sym (read_costs t.input t (costing 256 (row_by (routines.Library Getchar) t)))) (lit≤ tt)
library_costs Puts t = omega arith
library_costs Exit t = lit≤ tt
library_costs Memcpy t = omega arith
library_costs Memset t = omega arith
library_costs Strcmp t = omega arith
library_costs Strcpy t = omega arith
library_costs Strlen t = omega arith
library_costs Printf t = print_costs (printed_of t) t

check_costs : (deep : Bool) (t : State) → 1 ≤ (check_row deep (costing 256 (row_by routines.StkChk t))).cost
check_costs true t = lit≤ tt
check_costs false t = lit≤ tt

pub row_costs : (r : Routine) (t : State) → 1 ≤ row_cost (row_of r t)
row_costs routines.PushA t = lit≤ tt
row_costs routines.PushAx t = lit≤ tt
row_costs routines.PushA0 t = lit≤ tt
row_costs routines.Push0 t = lit≤ tt
row_costs routines.PushEax t = lit≤ tt
row_costs routines.PopA t = lit≤ tt
row_costs routines.PopAx t = lit≤ tt
row_costs routines.PopEax t = lit≤ tt
row_costs routines.PopPtrs t = lit≤ tt
row_costs routines.AddYSp t = lit≤ tt
row_costs routines.SubYSp t = lit≤ tt
row_costs routines.LdAxYSp t = lit≤ tt
row_costs routines.LdAx0Sp t = lit≤ tt
row_costs routines.LdEaxYSp t = lit≤ tt
row_costs routines.StAxYSp t = lit≤ tt
row_costs routines.StAx0Sp t = lit≤ tt
row_costs routines.StEaxYSp t = lit≤ tt
row_costs routines.LdAi t = lit≤ tt
row_costs routines.LdAxi t = lit≤ tt
row_costs routines.LdEaxi t = lit≤ tt
row_costs routines.StATos t = lit≤ tt
row_costs routines.StAxTos t = lit≤ tt
row_costs routines.StEaxTos t = lit≤ tt
row_costs routines.SignA t = lit≤ tt
row_costs routines.LongAx t = lit≤ tt
row_costs routines.ULongAx t = lit≤ tt
row_costs routines.SaveRegs t = lit≤ tt
row_costs routines.RestRegs t = lit≤ tt
row_costs routines.CallPtr4 t = lit≤ tt
row_costs routines.StkChk t = check_costs (is_too_deep t) t
row_costs routines.Start t = lit≤ tt
row_costs routines.StartArgs t = lit≤ tt
row_costs routines.HookOpen t = lit≤ tt
row_costs routines.HookClose t = lit≤ tt
row_costs routines.HookRead t = lit≤ tt
row_costs routines.HookWrite t = lit≤ tt
row_costs routines.HookArgs t = lit≤ tt
row_costs routines.HookExit t = lit≤ tt
row_costs (routines.IncSp count) t = lit≤ tt
row_costs (routines.DecSp count) t = lit≤ tt
row_costs routines.CopyTos t = omega arith
row_costs (routines.Tos op width) t = tos_row_costs op width t
row_costs (routines.Unary op width) t = unary_costs op width t
row_costs (routines.Library f) t = library_costs f t

call_weighs : (o : Option Library) (t : State) → 1 ≤ call_weight o t
call_weighs None t = lit≤ tt
call_weighs (Some f) t = omega (arith, library_costs f t)

form_weighs : (s : Setting) (form : Form) (t : State) (w : ℕ) → Weighs s form t w → 1 ≤ w
form_weighs s (Branch op l) t w h = omega (arith, h)
form_weighs s (Run r) t w h = omega (arith, h, row_costs r t)
form_weighs s (Enter f reads gives) t w h = omega (arith, h, call_weighs (s.library f) t)
form_weighs s (Through reads gives) t w h = omega (arith, h.2, call_weighs (s.library h.0) t)
form_weighs s Mark t w h = omega (arith, h)
form_weighs s (Plain op mode operand) t w h = omega (arith, h)
form_weighs s (Jump l) t w h = omega (arith, h)
form_weighs s (Far i) t w h = omega (arith, h)
form_weighs s Push t w h = omega (arith, h)
form_weighs s Pull t w h = omega (arith, h)
form_weighs s Depth t w h = omega (arith, h)
form_weighs s Return t w h = omega (arith, h)
form_weighs s Stray t w h = omega (arith, h)

pub runs_weigh : RunsWeigh
runs_weigh s zero w p t run h = omega arith
runs_weigh s (suc k) w p t [] h = absurd h
runs_weigh s (suc k) w p t (m ∷ run) h =
    let first = form_weighs s (form_of h.0) t h.1 h.5 in
    let rest = runs_weigh s k h.2 m.0 m.1 run h.7 in
    omega (arith, first, rest, h.6)

pub leaves_a_open : LeavesAOpen
leaves_a_open row t u v none free m = record {
  sp = m.sp;
  a = subst (λ o. Gives o v) (sym none) tt;
  x = m.x;
  sreg = m.sreg;
  pointers = m.pointers;
  bank = m.bank;
  kept = kept;
  high = m.high;
  mem = m.mem;
  pushed = m.pushed;
  frames = m.frames;
  input = m.input;
  output = m.output;
  ended = m.ended;
}
  where
    kept : (p : Part) → has_part row.changes p ≡ false → Same p t (with_a v u)
    kept parts.A h = absurd (let e : true ≡ false = sym free ∙ h in cc)
    kept parts.X h = m.kept parts.X h
    kept parts.Y h = m.kept parts.Y h
    kept (parts.Zp i) h = m.kept (parts.Zp i) h
    kept parts.N h = m.kept parts.N h
    kept parts.V h = m.kept parts.V h
    kept parts.Z h = m.kept parts.Z h
    kept parts.C h = m.kept parts.C h

pub calls_leave_y_open : CallsLeaveYOpen
calls_leave_y_open s f reads gives p q t u v library out below m =
    let entered : Enters s f.0 reads gives p t q u = subst (λ o. Calls s o f.0 reads gives p t q u) library m.goes in
    let again : Enters s f.0 reads gives p t q (with_y v u) = record {
      to = entered.to;
      keeps = record { part = kept entered.keeps.part; high = entered.keeps.high; mem = entered.keeps.mem; input = entered.keeps.input; output = entered.keeps.output; ended = entered.keeps.ended };
      pushed = entered.pushed;
      frames = entered.frames;
    } in
    record {
      running = m.running;
      goes = subst (λ o. Calls s o f.0 reads gives p t q (with_y v u)) (sym library) again;
      bytes = record { a = m.bytes.a; x = m.bytes.x; y = below; zp = m.bytes.zp; mem = m.bytes.mem; pushed = m.bytes.pushed; frames = m.bytes.frames };
    }
  where
    not_passed : has_part (union_of reads kept_at_calls) parts.Y ≡ true → false ≡ true
    not_passed h = ap (λ b. b || false) (sym out) ∙ h

    kept : ((i : Part) → IsTrue (has_part (union_of reads kept_at_calls) i) → Same i t u) → (i : Part) → IsTrue (has_part (union_of reads kept_at_calls) i) → Same i t (with_y v u)
    kept k parts.A h = k parts.A h
    kept k parts.X h = k parts.X h
    kept k parts.Y h = absurd (let e : false ≡ true = not_passed h in cc)
    kept k (parts.Zp i) h = k (parts.Zp i) h
    kept k parts.N h = k parts.N h
    kept k parts.V h = k parts.V h
    kept k parts.Z h = k parts.Z h
    kept k parts.C h = k parts.C h
