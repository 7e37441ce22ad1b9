-- A move by a line that neither writes ptr2 nor calls what may change it leaves the word there.
use Rattle.std.proofs.Common.{◌≡◌, ◌≢◌, ℕ, ◌+◌, ◌*◌, inl, inr, Bool, true, false, refl, sym, ap, ◌∙◌, arith}
use Rattle.std.specs.Prelude.{nat_lt, nat_le}
use Rattle.std.proofs.lemmas.Bool.{ltb-true, leb-true}
use Rattle.c65_mach.specs.Step.{kind_of}
use Rattle.c65_code.specs.declared.parts.Part.TheVariants.{Zp}
use Rattle.c65_code.specs.declared.routine.Routine.{Routine}
use Rattle.c65_code.specs.declared.routine.Routine.TheVariants as routines
use Rattle.c65_code.specs.declared.line.Callee.TheVariants as callees
use Rattle.c65_code.specs.declared.line.Line.{Line}
use Rattle.c65_code.specs.declared.line.Line.TheVariants.{Label, Do, Call}
use Rattle.c65_code.specs.Parts.{has_part}
use Rattle.c65_code.specs.LineState.{Bytes, write, State, zero_word}
use Rattle.c65_code.specs.Rows.{Row, Meets, row_of}
use Rattle.c65_code.specs.Forms.{Run, form_of}
use Rattle.c65_code.specs.Moves.{MeetsRow}
use Rattle.c65_gen_law_stack.specs.Going.{IsOwn}
use Rattle.c65_gen_law_stack.specs.Light.{is_apart, leaves_ptr2, MovesLeavePtr2}
use Rattle.c65_gen_law_stack.proofs.ZeroMoves.{or_cases, Stays, IsClear, op_clear, goes_kept}
use Rattle.c65_gen_law_stack.proofs.Steps.{write_other}

-- ---- stores

-- the word in ptr2
abbrev held : Bytes → ℕ
held zp = zp 10 + 256 * zp 11

abbrev held_in : State → ℕ
held_in t = zero_word t 10

same_held : (m k : Bytes) → m 10 ≡ k 10 → m 11 ≡ k 11 → held m ≡ held k
same_held m k low high = ap (λ (a : ℕ). a + 256 * m 11) low ∙ ap (λ (b : ℕ). k 10 + 256 * b) high

low_beside : (i : ℕ) → is_apart i ≡ true → 10 ≢ i
low_beside i h = elim (or_cases (nat_lt i 10) (nat_le 12 i) h) [ inl a ↦ λ e. omega (arith, e, ltb-true i 10 a) | inr b ↦ λ e. omega (arith, e, leb-true 12 i b) ]

high_beside : (i : ℕ) → is_apart i ≡ true → 11 ≢ i
high_beside i h = elim (or_cases (nat_lt i 10) (nat_le 12 i) h) [ inl a ↦ λ e. omega (arith, e, ltb-true i 10 a) | inr b ↦ λ e. omega (arith, e, leb-true 12 i b) ]

zero_held : Stays is_apart ℕ held
zero_held zp i v h = same_held (write zp i v) zp (write_other zp i v 10 (low_beside i h)) (write_other zp i v 11 (high_beside i h))

-- ---- routines

-- what its row does not change
held_kept : (row : Row) (t u : State) → Meets row t u → has_part row.changes (Zp 10) ≡ false → has_part row.changes (Zp 11) ≡ false → held_in u ≡ held_in t
held_kept row t u m low high = same_held u.zp t.zp (sym (m.kept (Zp 10) low)) (sym (m.kept (Zp 11) high))

routine_held : (r : Routine) (t u : State) → leaves_ptr2 (Call (callees.Routine r)) ≡ true → IsOwn (Run r) → MeetsRow (row_of r t) t u → held_in u ≡ held_in t
routine_held (routines.Library f) t u h own m = absurd own
routine_held (routines.Tos op width) t u h own m = absurd cc
routine_held (routines.Unary op width) t u h own m = absurd cc
routine_held routines.PopPtrs t u h own m = absurd cc
routine_held routines.LdAi t u h own m = absurd cc
routine_held routines.LdAxi t u h own m = absurd cc
routine_held routines.LdEaxi t u h own m = absurd cc
routine_held routines.StATos t u h own m = absurd cc
routine_held routines.StAxTos t u h own m = absurd cc
routine_held routines.StEaxTos t u h own m = absurd cc
routine_held routines.CopyTos t u h own m = absurd cc
routine_held routines.SignA t u h own m = absurd cc
routine_held routines.LongAx t u h own m = absurd cc
routine_held routines.ULongAx t u h own m = absurd cc
routine_held routines.StkChk t u h own m = absurd cc
routine_held routines.SaveRegs t u h own m = absurd cc
routine_held routines.RestRegs t u h own m = absurd cc
routine_held routines.PushA t u h own m = held_kept _ t u m refl refl
routine_held routines.PushAx t u h own m = held_kept _ t u m refl refl
routine_held routines.PushA0 t u h own m = held_kept _ t u m refl refl
routine_held routines.Push0 t u h own m = held_kept _ t u m refl refl
routine_held routines.PushEax t u h own m = held_kept _ t u m refl refl
routine_held routines.PopA t u h own m = held_kept _ t u m refl refl
routine_held routines.PopAx t u h own m = held_kept _ t u m refl refl
routine_held routines.PopEax t u h own m = held_kept _ t u m refl refl
routine_held routines.AddYSp t u h own m = held_kept _ t u m refl refl
routine_held routines.SubYSp t u h own m = held_kept _ t u m refl refl
routine_held routines.LdAxYSp t u h own m = held_kept _ t u m refl refl
routine_held routines.LdAx0Sp t u h own m = held_kept _ t u m refl refl
routine_held routines.LdEaxYSp t u h own m = held_kept _ t u m refl refl
routine_held routines.StAxYSp t u h own m = held_kept _ t u m refl refl
routine_held routines.StAx0Sp t u h own m = held_kept _ t u m refl refl
routine_held routines.StEaxYSp t u h own m = held_kept _ t u m refl refl
routine_held (routines.IncSp c) t u h own m = held_kept _ t u m refl refl
routine_held (routines.DecSp c) t u h own m = held_kept _ t u m refl refl
routine_held _ t u h own m = absurd m

-- ---- one move

abbrev spares_ptr2 : Routine → Bool
spares_ptr2 r = leaves_ptr2 (Call (callees.Routine r))

line_clear : (line : Line) → leaves_ptr2 line ≡ true → IsClear is_apart spares_ptr2 (form_of line)
line_clear (Label l) h = tt
line_clear (Do op mode operand) h = op_clear is_apart spares_ptr2 (kind_of op) op mode operand h
line_clear (Call (callees.Routine r)) h = h
line_clear (Call (callees.Function f reads gives)) h = tt
line_clear (Call (callees.Pointer reads gives)) h = tt

pub moves_leave_ptr2 : MovesLeavePtr2
moves_leave_ptr2 s line p q t u ok own moves = goes_kept is_apart ℕ held zero_held spares_ptr2 routine_held s (form_of line) p q t u (line_clear line ok) own moves.goes
