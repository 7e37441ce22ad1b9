-- A move by a line that writes nothing of regbank leaves it as it was.
use Rattle.std.proofs.Common.{List, ◌≡◌, ◌≢◌, ℕ, ◌≤◌, inl, inr, Bool, true, false, Option, None, Some, refl, ap, ◌∙◌, arith}
use Rattle.std.specs.Prelude.{nat_lt, nat_le}
use Rattle.std.proofs.lemmas.Bool.{ltb-true, leb-true}
use Rattle.c65_mach.specs.Step.{kind_of}
use Rattle.c65_code.specs.declared.parts.Part.TheVariants.{Zp}
use Rattle.c65_code.specs.declared.parts.RegSet.{RegSet}
use Rattle.c65_code.specs.declared.routine.Width.{Width}
use Rattle.c65_code.specs.declared.routine.Width.TheVariants.{Ax, Eax}
use Rattle.c65_code.specs.declared.routine.TosOp.{TosOp}
use Rattle.c65_code.specs.declared.routine.UnaryRoutine.{UnaryRoutine}
use Rattle.c65_code.specs.declared.routine.Routine.{Routine}
use Rattle.c65_code.specs.declared.routine.Routine.TheVariants as routines
use Rattle.c65_code.specs.declared.line.Callee.TheVariants as callees
use Rattle.c65_code.specs.declared.line.Line.{Line}
use Rattle.c65_code.specs.declared.line.Line.TheVariants.{Label, Do, Call}
use Rattle.c65_code.specs.Parts.{has_part}
use Rattle.c65_code.specs.Effects.{routine_sets}
use Rattle.c65_code.specs.Numbers.{tos_result, result_width, unary_result, unary_width}
use Rattle.c65_code.specs.Texts.{bytes_at}
use Rattle.c65_code.specs.LineState.{Bytes, write, State, sp_of}
use Rattle.c65_code.specs.Rows.{Row, Meets, row_of, row_by, is_too_deep, check_row, giving, giving_if, costing, popping, number_at, primary_of, tos_cost, bank_of}
use Rattle.c65_code.specs.Rows as rows
use Rattle.c65_code.specs.Forms.{Run, form_of}
use Rattle.c65_code.specs.Moves.{MeetsRow}
use Rattle.c65_gen_law_stack.specs.Going.{IsOwn}
use Rattle.c65_gen_law_stack.specs.Bank.{is_outside, leaves_bank, MovesLeaveRegbank}
use Rattle.c65_gen_law_stack.proofs.ZeroMoves.{or_cases, Stays, IsClear, op_clear, goes_kept}
use Rattle.c65_gen_law_stack.proofs.Steps.{write_other, bank_kept}

-- ---- stores

same_bank : (m k : Bytes) → m 20 ≡ k 20 → m 21 ≡ k 21 → m 22 ≡ k 22 → m 23 ≡ k 23 → m 24 ≡ k 24 → m 25 ≡ k 25 → bytes_at 6 20 m ≡ bytes_at 6 20 k
same_bank m k e0 e1 e2 e3 e4 e5 = cc

outside : (i k : ℕ) → is_outside i ≡ true → 20 ≤ k → k ≤ 25 → k ≢ i
outside i k h low high = elim (or_cases (nat_lt i 20) (nat_le 26 i) h) [ inl a ↦ λ e. omega (arith, e, low, ltb-true i 20 a) | inr b ↦ λ e. omega (arith, e, high, leb-true 26 i b) ]

zero_bank : Stays is_outside (List ℕ) (bytes_at 6 20)
zero_bank zp i v h =
    same_bank (write zp i v) zp (write_other zp i v 20 (outside i 20 h (omega arith) (omega arith))) (write_other zp i v 21 (outside i 21 h (omega arith) (omega arith))) (write_other zp i v 22 (outside i 22 h (omega arith) (omega arith)))
    (write_other zp i v 23 (outside i 23 h (omega arith) (omega arith))) (write_other zp i v 24 (outside i 24 h (omega arith) (omega arith))) (write_other zp i v 25 (outside i 25 h (omega arith) (omega arith)))

-- ---- routines

giving_sets : (width : Width) (v : ℕ) (row : Row) → (giving width v row).changes ≡ row.changes
giving_sets Ax v row = refl
giving_sets Eax v row = refl

giving_if_sets : (width : Width) (o : Option ℕ) (row : Row) → (giving_if width o row).changes ≡ row.changes
giving_if_sets width None row = refl
giving_if_sets width (Some v) row = giving_sets width v row

-- what may change is a set without regbank
bank_by : (row : Row) (sets : RegSet) (t u : State) → Meets row t u → row.changes ≡ sets → has_part sets (Zp 20) ≡ false → has_part sets (Zp 21) ≡ false → has_part sets (Zp 22) ≡ false
    → has_part sets (Zp 23) ≡ false → has_part sets (Zp 24) ≡ false → has_part sets (Zp 25) ≡ false → bank_of u ≡ bank_of t
bank_by row sets t u m e h0 h1 h2 h3 h4 h5 =
    bank_kept row t u m (ap (λ (x : RegSet). has_part x (Zp 20)) e ∙ h0) (ap (λ (x : RegSet). has_part x (Zp 21)) e ∙ h1) (ap (λ (x : RegSet). has_part x (Zp 22)) e ∙ h2)
    (ap (λ (x : RegSet). has_part x (Zp 23)) e ∙ h3) (ap (λ (x : RegSet). has_part x (Zp 24)) e ∙ h4) (ap (λ (x : RegSet). has_part x (Zp 25)) e ∙ h5)

tos_sets : (op : TosOp) (width : Width) (t : State) → (rows.tos_row op width t).changes ≡ routine_sets (routines.Tos op width)
tos_sets op width t = giving_if_sets (result_width op width) (tos_result op width (number_at width t.mem (sp_of t)) (primary_of width t)) (costing (tos_cost op) (popping (rows.size_of width) t (row_by (routines.Tos op width) t)))

unary_sets : (op : UnaryRoutine) (width : Width) (t : State) → (rows.unary_row op width t).changes ≡ routine_sets (routines.Unary op width)
unary_sets op width t = giving_sets (unary_width op width) (unary_result op width (primary_of width t)) (costing 256 (row_by (routines.Unary op width) t))

check_bank : (deep : Bool) (t u : State) → Meets (check_row deep (costing 256 (row_by routines.StkChk t))) t u → bank_of u ≡ bank_of t
check_bank true t u m = bank_kept _ t u m refl refl refl refl refl refl
check_bank false t u m = bank_kept _ t u m refl refl refl refl refl refl

routine_bank : (r : Routine) (t u : State) → leaves_bank (Call (callees.Routine r)) ≡ true → IsOwn (Run r) → MeetsRow (row_of r t) t u → bank_of u ≡ bank_of t
routine_bank routines.RestRegs t u h own m = absurd cc
routine_bank (routines.Library f) t u h own m = absurd own
routine_bank (routines.Tos op width) t u h own m = bank_by (rows.tos_row op width t) (routine_sets (routines.Tos op width)) t u m (tos_sets op width t) refl refl refl refl refl refl
routine_bank (routines.Unary op width) t u h own m = bank_by (rows.unary_row op width t) (routine_sets (routines.Unary op width)) t u m (unary_sets op width t) refl refl refl refl refl refl
routine_bank routines.PushA t u h own m = bank_kept _ t u m refl refl refl refl refl refl
routine_bank routines.PushAx t u h own m = bank_kept _ t u m refl refl refl refl refl refl
routine_bank routines.PushA0 t u h own m = bank_kept _ t u m refl refl refl refl refl refl
routine_bank routines.Push0 t u h own m = bank_kept _ t u m refl refl refl refl refl refl
routine_bank routines.PushEax t u h own m = bank_kept _ t u m refl refl refl refl refl refl
routine_bank routines.PopA t u h own m = bank_kept _ t u m refl refl refl refl refl refl
routine_bank routines.PopAx t u h own m = bank_kept _ t u m refl refl refl refl refl refl
routine_bank routines.PopEax t u h own m = bank_kept _ t u m refl refl refl refl refl refl
routine_bank routines.PopPtrs t u h own m = bank_kept _ t u m refl refl refl refl refl refl
routine_bank routines.AddYSp t u h own m = bank_kept _ t u m refl refl refl refl refl refl
routine_bank routines.SubYSp t u h own m = bank_kept _ t u m refl refl refl refl refl refl
routine_bank routines.LdAxYSp t u h own m = bank_kept _ t u m refl refl refl refl refl refl
routine_bank routines.LdAx0Sp t u h own m = bank_kept _ t u m refl refl refl refl refl refl
routine_bank routines.LdEaxYSp t u h own m = bank_kept _ t u m refl refl refl refl refl refl
routine_bank routines.StAxYSp t u h own m = bank_kept _ t u m refl refl refl refl refl refl
routine_bank routines.StAx0Sp t u h own m = bank_kept _ t u m refl refl refl refl refl refl
routine_bank routines.StEaxYSp t u h own m = bank_kept _ t u m refl refl refl refl refl refl
routine_bank routines.LdAi t u h own m = bank_kept _ t u m refl refl refl refl refl refl
routine_bank routines.LdAxi t u h own m = bank_kept _ t u m refl refl refl refl refl refl
routine_bank routines.LdEaxi t u h own m = bank_kept _ t u m refl refl refl refl refl refl
routine_bank routines.StATos t u h own m = bank_kept _ t u m refl refl refl refl refl refl
routine_bank routines.StAxTos t u h own m = bank_kept _ t u m refl refl refl refl refl refl
routine_bank routines.StEaxTos t u h own m = bank_kept _ t u m refl refl refl refl refl refl
routine_bank routines.CopyTos t u h own m = bank_kept _ t u m refl refl refl refl refl refl
routine_bank routines.SignA t u h own m = bank_kept _ t u m refl refl refl refl refl refl
routine_bank routines.LongAx t u h own m = bank_kept _ t u m refl refl refl refl refl refl
routine_bank routines.ULongAx t u h own m = bank_kept _ t u m refl refl refl refl refl refl
routine_bank routines.StkChk t u h own m = check_bank (is_too_deep t) t u m
routine_bank routines.SaveRegs t u h own m = bank_kept _ t u m refl refl refl refl refl refl
routine_bank (routines.IncSp c) t u h own m = bank_kept _ t u m refl refl refl refl refl refl
routine_bank (routines.DecSp c) t u h own m = bank_kept _ t u m refl refl refl refl refl refl
routine_bank _ t u h own m = absurd m

-- ---- one move

abbrev spares_bank : Routine → Bool
spares_bank r = leaves_bank (Call (callees.Routine r))

line_clear : (line : Line) → leaves_bank line ≡ true → IsClear is_outside spares_bank (form_of line)
line_clear (Label l) h = tt
line_clear (Do op mode operand) h = op_clear is_outside spares_bank (kind_of op) op mode operand h
line_clear (Call (callees.Routine r)) h = h
line_clear (Call (callees.Function f reads gives)) h = tt
line_clear (Call (callees.Pointer reads gives)) h = tt

pub moves_leave_regbank : MovesLeaveRegbank
moves_leave_regbank s line p q t u ok own moves = goes_kept is_outside (List ℕ) (bytes_at 6 20) zero_bank spares_bank routine_bank s (form_of line) p q t u (line_clear line ok) own moves.goes
