-- Lines of the rules on arithmetic, comparisons and flags.
use Rattle.std.proofs.Common.{◌≡◌, ℕ, ◌+◌, ◌==◌, ◌&&◌, Bool, true, false, if◌then◌else◌, List, [], ◌∷◌, Option, Some, None, refl, subst}
use Rattle.std.specs.Prelude.{slice_get, is_some, drop}
use Rattle.std.proofs.lemmas.Bool.{and_parts}
use Rattle.c65_mach.specs.declared.rows.Op.{Op}
use Rattle.c65_mach.specs.declared.rows.Op.TheVariants as ops
use Rattle.c65_mach.specs.declared.rows.Mode.{Mode}
use Rattle.c65_mach.specs.declared.rows.Mode.TheVariants.{Accumulator, Immediate}
use Rattle.c65_mach.specs.Step.{kind_of}
use Rattle.c65_code.specs.declared.line.Line.{Line}
use Rattle.c65_code.specs.declared.line.Line.TheVariants.{Do}
use Rattle.c65_code.specs.declared.line.Operand.{Operand}
use Rattle.c65_code.specs.declared.line.Operand.TheVariants.{Byte}
use Rattle.c65_code.specs.declared.line.Sym.{Sym}
use Rattle.c65_code.specs.declared.parts.RegSet.{RegSet}
use Rattle.c65_code.specs.Forms.{op_form, form_of}
use Rattle.c65_know.specs.declared.note.Note.{Note}
use Rattle.c65_know.specs.Known.{annotated}
use Rattle.c65_live.specs.Tables.{Table}
use Rattle.c65_pass.specs.declared.register.Register.{Register}
use Rattle.c65_pass.specs.ArithRules.{has_carry, carry_of, is_idle_carry, is_dead_carry, signed_by, compared_by, is_idle_compare, is_dead_compare, neutral_byte, is_byte, is_idle_mask, are_opposite, is_stepped_back, neutral_carry, is_idle_sum, may_join, mixed, with_byte, joined_masks, is_arithmetic, is_dead_arithmetic, idle_compare, stepped_back, joined}
use Rattle.c65_pass.specs.LoadRules.{are_one}
use Rattle.c65_pass.specs.Rewriting.{Rewriting}
use Rattle.c65_pass.specs.Rules.{match_at}
use Rattle.c65_opt_law_kept.proofs.Steps.{IsStep}
use Rattle.c65_opt_law_kept.proofs.Kept.{InRow}
use Rattle.c65_opt_law_kept.proofs.Made.{at_line, gone_row, alone_row, both_gone_row, instead_row}

abbrev IsStepOf : Op → Mode → Operand → Type 0
IsStepOf op mode operand = IsStep (op_form (kind_of op) op mode operand)

-- ---- carries

idle_carry_op : (known : Option Note) (op : Op) (mode : Mode) (operand : Operand) → has_carry known (carry_of op) ≡ true → IsStepOf op mode operand
idle_carry_op known ops.Clc mode operand h = tt
idle_carry_op known ops.Sec mode operand h = tt
idle_carry_op known _ mode operand h = absurd cc

idle_carry_step : (known : Option Note) (line : Line) → is_idle_carry known line ≡ true → IsStep (form_of line)
idle_carry_step known (Do op mode operand) h = idle_carry_op known op mode operand h
idle_carry_step known _ h = absurd cc

carry_op : (op : Op) (mode : Mode) (operand : Operand) → is_some (carry_of op) ≡ true → IsStepOf op mode operand
carry_op ops.Clc mode operand h = tt
carry_op ops.Sec mode operand h = tt
carry_op _ mode operand h = absurd cc

dead_carry_step : (table : Table) (q : ℕ) (line : Line) → is_dead_carry table q line ≡ true → IsStep (form_of line)
dead_carry_step table q (Do op mode operand) h = carry_op op mode operand (and_parts (is_some (carry_of op)) _ h).0
dead_carry_step table q _ h = absurd cc

-- ---- comparisons

compare_op : (op : Op) (mode : Mode) (operand : Operand) → is_some (compared_by op) ≡ true → IsStepOf op mode operand
compare_op ops.Cmp mode operand h = tt
compare_op ops.Cpx mode operand h = tt
compare_op ops.Cpy mode operand h = tt
compare_op _ mode operand h = absurd cc

signed_op : (op : Op) (mode : Mode) (operand : Operand) → is_some (signed_by op mode) ≡ true → IsStepOf op mode operand
signed_op ops.Lda mode operand h = tt
signed_op ops.Txa mode operand h = tt
signed_op ops.Tya mode operand h = tt
signed_op ops.And mode operand h = tt
signed_op ops.Ora mode operand h = tt
signed_op ops.Eor mode operand h = tt
signed_op ops.Pla mode operand h = tt
signed_op ops.Ldx mode operand h = tt
signed_op ops.Tax mode operand h = tt
signed_op ops.Inx mode operand h = tt
signed_op ops.Dex mode operand h = tt
signed_op ops.Ldy mode operand h = tt
signed_op ops.Tay mode operand h = tt
signed_op ops.Iny mode operand h = tt
signed_op ops.Dey mode operand h = tt
signed_op ops.Asl mode operand h = tt
signed_op ops.Lsr mode operand h = tt
signed_op ops.Rol mode operand h = tt
signed_op ops.Ror mode operand h = tt
signed_op _ mode operand h = absurd cc

both_some : (a b : Option Register) → are_one a b ≡ true → (is_some a ≡ true) × (is_some b ≡ true)
both_some (Some r) (Some q) h = (refl, refl)
both_some (Some r) None h = absurd cc
both_some None b h = absurd cc

idle_compare_step : (table : Table) (q : ℕ) (line next : Line) → is_idle_compare table q line next ≡ true → IsStep (form_of line) × IsStep (form_of next)
idle_compare_step table q (Do op mode operand) (Do next Immediate (Byte v)) h =
    let both = both_some (signed_by op mode) (compared_by next) (and_parts (are_one (signed_by op mode) (compared_by next)) _ (and_parts (v == 0) _ h).1).0 in
    (signed_op op mode operand both.0, compare_op next Immediate (Byte v) both.1)
idle_compare_step table q _ _ h = absurd cc

dead_compare_step : (table : Table) (q : ℕ) (line : Line) → is_dead_compare table q line ≡ true → IsStep (form_of line)
dead_compare_step table q (Do op mode operand) h = compare_op op mode operand (and_parts (is_some (compared_by op)) _ h).0
dead_compare_step table q _ h = absurd cc

-- ---- masks and sums

mask_op : (v : ℕ) (op : Op) (mode : Mode) (operand : Operand) → is_byte v (neutral_byte op) ≡ true → IsStepOf op mode operand
mask_op v ops.And mode operand h = tt
mask_op v ops.Ora mode operand h = tt
mask_op v ops.Eor mode operand h = tt
mask_op v _ mode operand h = absurd cc

idle_mask_step : (table : Table) (q : ℕ) (line : Line) → is_idle_mask table q line ≡ true → IsStep (form_of line)
idle_mask_step table q (Do op Immediate (Byte v)) h = mask_op v op Immediate (Byte v) (and_parts (is_byte v (neutral_byte op)) _ h).0
idle_mask_step table q _ h = absurd cc

opposite_op : (op next : Op) (mode there : Mode) (operand other : Operand) → are_opposite op next ≡ true → IsStepOf op mode operand × IsStepOf next there other
opposite_op ops.Inx ops.Dex mode there operand other h = (tt, tt)
opposite_op ops.Dex ops.Inx mode there operand other h = (tt, tt)
opposite_op ops.Iny ops.Dey mode there operand other h = (tt, tt)
opposite_op ops.Dey ops.Iny mode there operand other h = (tt, tt)
opposite_op _ _ mode there operand other h = absurd cc

stepped_back_step : (table : Table) (q : ℕ) (line next : Line) → is_stepped_back table q line next ≡ true → IsStep (form_of line) × IsStep (form_of next)
stepped_back_step table q (Do op mode operand) (Do next there other) h = opposite_op op next mode there operand other (and_parts (are_opposite op next) _ h).0
stepped_back_step table q _ _ h = absurd cc

sum_op : (known : Option Note) (op : Op) (mode : Mode) (operand : Operand) → has_carry known (neutral_carry op) ≡ true → IsStepOf op mode operand
sum_op known ops.Adc mode operand h = tt
sum_op known ops.Sbc mode operand h = tt
sum_op known _ mode operand h = absurd cc

idle_sum_step : (known : Option Note) (table : Table) (q : ℕ) (line : Line) → is_idle_sum known table q line ≡ true → IsStep (form_of line)
idle_sum_step known table q (Do op Immediate (Byte v)) h = sum_op known op Immediate (Byte v) (and_parts (has_carry known (neutral_carry op)) _ (and_parts (v == 0) _ h).1).0
idle_sum_step known table q _ h = absurd cc

-- an operation on A and a byte, and what the two make
join_first : (op next : Op) (mode : Mode) (operand : Operand) → may_join op next ≡ true → IsStepOf op mode operand
join_first ops.Lda next mode operand h = tt
join_first ops.And next mode operand h = tt
join_first ops.Ora next mode operand h = tt
join_first ops.Eor next mode operand h = tt
join_first _ next mode operand h = absurd cc

made_step : (op next : Op) (o : Option ℕ) (l : Line) → may_join op next ≡ true → with_byte op o ≡ Some l → IsStep (form_of l)
made_step op next None l h e = absurd cc
made_step op next (Some x) l h e = let is : Do op Immediate (Byte x) ≡ l = cc in subst (λ (k : Line). IsStep (form_of k)) is (join_first op next Immediate (Byte x) h)

join_made : (op next : Op) (mode : Mode) (operand : Operand) (v w : ℕ) (l : Line) → may_join op next ≡ true → with_byte op (mixed next v w) ≡ Some l → IsStepOf next mode operand × IsStep (form_of l)
join_made op ops.And mode operand v w l h e = (tt, made_step op ops.And (mixed ops.And v w) l h e)
join_made op ops.Ora mode operand v w l h e = (tt, made_step op ops.Ora (mixed ops.Ora v w) l h e)
join_made op ops.Eor mode operand v w l h e = (tt, made_step op ops.Eor (mixed ops.Eor v w) l h e)
join_made op _ mode operand v w l h e = absurd cc

joined_step : (line next l : Line) → joined_masks line next ≡ Some l → IsStep (form_of line) × IsStep (form_of next) × IsStep (form_of l)
joined_step (Do op Immediate (Byte v)) (Do next Immediate (Byte w)) l e = pick (may_join op next) refl e
  where
    pick : (b : Bool) → may_join op next ≡ b → (if b then with_byte op (mixed next v w) else None) ≡ Some l → IsStepOf op Immediate (Byte v) × IsStepOf next Immediate (Byte w) × IsStep (form_of l)
    pick true h e = let both = join_made op next Immediate (Byte w) v w l h e in (join_first op next Immediate (Byte v) h, both.0, both.1)
    pick false h e = absurd cc
joined_step _ _ l e = absurd cc

arithmetic_op : (op : Op) (mode : Mode) (operand : Operand) → is_arithmetic op mode ≡ true → IsStepOf op mode operand
arithmetic_op ops.And mode operand h = tt
arithmetic_op ops.Ora mode operand h = tt
arithmetic_op ops.Eor mode operand h = tt
arithmetic_op ops.Adc mode operand h = tt
arithmetic_op ops.Sbc mode operand h = tt
arithmetic_op ops.Inx mode operand h = tt
arithmetic_op ops.Iny mode operand h = tt
arithmetic_op ops.Dex mode operand h = tt
arithmetic_op ops.Dey mode operand h = tt
arithmetic_op ops.Asl mode operand h = tt
arithmetic_op ops.Lsr mode operand h = tt
arithmetic_op ops.Rol mode operand h = tt
arithmetic_op ops.Ror mode operand h = tt
arithmetic_op _ mode operand h = absurd cc

dead_arithmetic_step : (table : Table) (q : ℕ) (line : Line) → is_dead_arithmetic table q line ≡ true → IsStep (form_of line)
dead_arithmetic_step table q (Do op mode operand) h = arithmetic_op op mode operand (and_parts (is_arithmetic op mode) _ h).0
dead_arithmetic_step table q _ h = absurd cc

-- ---- the rules

module _ (out : RegSet) (literals : List (Sym × List ℕ)) (lines : List Line) (table : Table) (at : ℕ) (w : Rewriting) where
  pub idle_carry_row : match_at 24 literals (annotated lines out) table at ≡ Some w → InRow lines at w
  idle_carry_row m = at_line 24 out literals lines table at w (λ line post e k. gone_row lines at line post w (is_idle_carry (slice_get (annotated lines out).notes at) line) e (idle_carry_step (slice_get (annotated lines out).notes at) line) k) m

  pub dead_carry_row : match_at 25 literals (annotated lines out) table at ≡ Some w → InRow lines at w
  dead_carry_row m = at_line 25 out literals lines table at w (λ line post e k. gone_row lines at line post w (is_dead_carry table at line) e (dead_carry_step table at line) k) m

  compared : (line : Line) (post : List Line) → drop at lines ≡ line ∷ post → idle_compare table at line post ≡ Some w → InRow lines at w
  compared line [] e k = absurd cc
  compared line (next ∷ post) e k = alone_row lines at line next post w (is_idle_compare table (at + 1) line next) e (idle_compare_step table (at + 1) line next) k

  pub idle_compare_row : match_at 26 literals (annotated lines out) table at ≡ Some w → InRow lines at w
  idle_compare_row m = at_line 26 out literals lines table at w compared m

  pub dead_compare_row : match_at 27 literals (annotated lines out) table at ≡ Some w → InRow lines at w
  dead_compare_row m = at_line 27 out literals lines table at w (λ line post e k. gone_row lines at line post w (is_dead_compare table at line) e (dead_compare_step table at line) k) m

  pub idle_mask_row : match_at 28 literals (annotated lines out) table at ≡ Some w → InRow lines at w
  idle_mask_row m = at_line 28 out literals lines table at w (λ line post e k. gone_row lines at line post w (is_idle_mask table at line) e (idle_mask_step table at line) k) m

  back : (line : Line) (post : List Line) → drop at lines ≡ line ∷ post → stepped_back table at line post ≡ Some w → InRow lines at w
  back line [] e k = absurd cc
  back line (next ∷ post) e k = both_gone_row lines at line next post w (is_stepped_back table (at + 1) line next) e (stepped_back_step table (at + 1) line next) k

  pub stepped_back_row : match_at 29 literals (annotated lines out) table at ≡ Some w → InRow lines at w
  stepped_back_row m = at_line 29 out literals lines table at w back m

  pub idle_sum_row : match_at 30 literals (annotated lines out) table at ≡ Some w → InRow lines at w
  idle_sum_row m = at_line 30 out literals lines table at w (λ line post e k. gone_row lines at line post w (is_idle_sum (slice_get (annotated lines out).notes at) table at line) e (idle_sum_step (slice_get (annotated lines out).notes at) table at line) k) m

  join : (line : Line) (post : List Line) → drop at lines ≡ line ∷ post → joined at line post ≡ Some w → InRow lines at w
  join line [] e k = absurd cc
  join line (next ∷ post) e k = instead_row lines at line next post w (joined_masks line next) e (joined_step line next) k

  pub joined_row : match_at 31 literals (annotated lines out) table at ≡ Some w → InRow lines at w
  joined_row m = at_line 31 out literals lines table at w join m

  pub dead_arithmetic_row : match_at 32 literals (annotated lines out) table at ≡ Some w → InRow lines at w
  dead_arithmetic_row m = at_line 32 out literals lines table at w (λ line post e k. gone_row lines at line post w (is_dead_arithmetic table at line) e (dead_arithmetic_step table at line) k) m
