-- Shifts, masks and products by constants: their labels, and that they leave what waits.
use Rattle.std.proofs.Common.{ℕ, zero, suc, ◌+◌, ◌-◌, ◌==◌, inl, inr, Option, None, Some, List, [], ◌∷◌, refl}
use Rattle.std.specs.Prelude.{nat_lt, replicate}
use Rattle.c65_ints.specs.declared.types.IntType.{IntType}
use Rattle.c65_mach.specs.declared.rows.Op.TheVariants.{And, Asl, Bne, Dey, Lda, Ldx, Ldy, Lsr, Sta, Stx, Sty, Tax, Tay, Txa, Tya}
use Rattle.c65_code.specs.declared.line.Line.{Line}
use Rattle.c65_code.specs.declared.routine.Routine.TheVariants.{Unary}
use Rattle.c65_code.specs.declared.routine.TosOp.{TosOp}
use Rattle.c65_code.specs.declared.routine.TosOp.TheVariants as tos
use Rattle.c65_code.specs.declared.routine.Width.{Width}
use Rattle.c65_code.specs.declared.routine.Width.TheVariants.{Ax, Eax}
use Rattle.c65_genwide.specs.Lines.{value, call}
use Rattle.c65_genwide.specs.Wide.{width_of, narrow_code}
use Rattle.c65_genload.specs.Words.{sreg, tmp1, implied, zero_page, shift_a}
use Rattle.c65_genload.specs.Numbers.{first, second, mask_code, scale_code}
use Rattle.c65_genshift.specs.declared.quick.Quick.{Quick}
use Rattle.c65_genshift.specs.declared.quick.Quick.TheVariants.{Shift, Mask}
use Rattle.c65_genshift.specs.Shifts.{one_of, calls_code, turns_code, left_turn, left_turns, left_bits_code, right_turn, left_byte_code, right_byte_code, left_one_code, left_two_code, left_three_code, right_one_code, right_two_code, right_three_code, left_word_code, right_word_code, left_long_code, right_long_code, shift_code}
use Rattle.c65_genshift.specs.Quick.{power_of, mask_word_code, mask_high_code, mask_long_code, mask_by_width, quick_lines, quick_code, elements_by, elements_code}
use Rattle.c65_gen_law_lines.proofs.Pieces.{narrow_piece, scale_piece}
use Rattle.c65_gen_law_lines.proofs.StackPieces.{narrow_still, scale_still}
use Rattle.c65_gen_law_stack.proofs.BankPieces.{narrow_clear, scale_clear}
use Rattle.c65_gen_law_stack.proofs.EvenLines.{Labels, No, One, Both, Even, even_then, even_piece, even_label, even_if, even_on, even_close, even_branch, even_lines, even_labelled}

-- ---- shifts

repeated_even : {X : Labels} (n : ℕ) (line : Line) → Even No X (line ∷ []) → Even No X (replicate n line)
repeated_even zero line one = even_lines [] refl
repeated_even (suc n) line one = even_on one (repeated_even n line one)

calls_even : {X : Labels} (op : TosOp) (width : Width) (n : ℕ) → Even No X (calls_code op width n)
calls_even op width n = repeated_even n (call (Unary (one_of op) width)) (even_piece (λ v. record { to = λ calls. refl }) refl (record { all = refl }))

left_even : {X : Labels} (n : ℕ) → Even No X (replicate n (shift_a Asl))
left_even n = repeated_even n (shift_a Asl) (even_lines (shift_a Asl ∷ []) refl)

right_even : {X : Labels} (n : ℕ) → Even No X (replicate n (shift_a Lsr))
right_even n = repeated_even n (shift_a Lsr) (even_lines (shift_a Lsr ∷ []) refl)

turns_even : {X : Labels} (turn : List Line) (n label : ℕ) → Even No (Both (One label) X) turn → Even No X (turns_code turn n label)
turns_even turn n label p =
    even_close label (inr (inl refl)) (even_then (even_lines (zero_page Stx tmp1 ∷ value Ldy n ∷ []) refl) (even_then (even_label label) (even_then p
    (even_then (even_lines (implied Dey ∷ []) refl) (even_then (even_branch Bne label refl (inl refl)) (even_lines (zero_page Ldx tmp1 ∷ []) refl))))))

left_turns_even : {X : Labels} (n : ℕ) → Even No X (left_turns n)
left_turns_even zero = even_lines [] refl
left_turns_even (suc n) = even_on (even_lines left_turn refl) (left_turns_even n)

left_bits_even : {X : Labels} (n : ℕ) → Even No X (left_bits_code n)
left_bits_even n = even_on (even_lines (zero_page Stx tmp1 ∷ []) refl) (even_on (left_turns_even n) (even_lines (zero_page Ldx tmp1 ∷ []) refl))

left_byte_even : {X : Labels} (n : ℕ) → Even No X (left_byte_code n)
left_byte_even n = even_on (left_even n) (even_lines (implied Tax ∷ value Lda 0 ∷ []) refl)

left_word_even : {X : Labels} (n label : ℕ) → Even No X (left_word_code n label)
left_word_even n label =
    even_if (nat_lt n 4) (even_labelled label (calls_even tos.Shl Ax n)) (even_if (nat_lt n 8) (turns_even left_turn n label (even_lines left_turn refl)) (even_labelled label (left_byte_even (n - 8))))

right_word_even : {X : Labels} (n label : ℕ) → Even No X (right_word_code n label)
right_word_even n label =
    let bytes : Even No _ (right_byte_code (n - 8)) = even_on (even_lines (implied Txa ∷ []) refl) (even_on (right_even (n - 8)) (even_lines (value Ldx 0 ∷ []) refl)) in
    even_if (nat_lt n 4) (even_labelled label (calls_even tos.Shr Ax n)) (even_if (nat_lt n 8) (turns_even right_turn n label (even_lines right_turn refl)) (even_labelled label bytes))

left_long_even : {X : Labels} (n : ℕ) → Even No X (left_long_code n)
left_long_even n =
    let last : Even No _ (left_three_code (n - 24)) = even_on (left_even (n - 24)) (even_lines (zero_page Sta (sreg + 1) ∷ value Lda 0 ∷ zero_page Sta sreg ∷ implied Tax ∷ []) refl) in
    even_if (nat_lt n 8) (calls_even tos.Shl Eax n) (even_if (nat_lt n 16) (even_on (even_lines left_one_code refl) (calls_even tos.Shl Eax (n - 8))) (even_if (nat_lt n 24) (even_on (even_lines left_two_code refl) (calls_even tos.Shl Eax (n - 16))) last))

right_long_even : {X : Labels} (n : ℕ) → Even No X (right_long_code n)
right_long_even n =
    let last : Even No _ (right_three_code (n - 24)) = even_on (even_lines (zero_page Lda (sreg + 1) ∷ value Ldx 0 ∷ zero_page Stx sreg ∷ zero_page Stx (sreg + 1) ∷ []) refl) (right_even (n - 24)) in
    even_if (nat_lt n 8) (calls_even tos.Shr Eax n) (even_if (nat_lt n 16) (even_on (even_lines right_one_code refl) (calls_even tos.Shr Eax (n - 8))) (even_if (nat_lt n 24) (even_on (even_lines right_two_code refl) (calls_even tos.Shr Eax (n - 16))) last))

shift_even : {X : Labels} (op : TosOp) (width : Width) (n label : ℕ) → Even No X (shift_code op width n label)
shift_even tos.Shl Ax n label = left_word_even n label
shift_even tos.Shl Eax n label = even_labelled label (left_long_even n)
shift_even tos.Shr Ax n label = right_word_even n label
shift_even tos.Shr Eax n label = even_labelled label (right_long_even n)
shift_even tos.Asr width n label = even_labelled label (calls_even tos.Asr width n)
shift_even op width n label = even_labelled label (calls_even op width n)

-- ---- masks

mask_word_even : {X : Labels} (n : ℕ) → Even No X (mask_word_code n)
mask_word_even n = even_if (second n == 0) (even_lines (value And (first n) ∷ value Ldx 0 ∷ []) refl) (even_lines (mask_code n) refl)

mask_long_even : {X : Labels} (n : ℕ) → Even No X (mask_long_code n)
mask_long_even n =
    even_if (nat_lt n 65536) (even_on (mask_word_even n) (even_lines (value Ldy 0 ∷ zero_page Sty sreg ∷ zero_page Sty (sreg + 1) ∷ []) refl))
    (even_on (even_lines (value And (first n) ∷ implied Tay ∷ implied Txa ∷ value And (second n) ∷ implied Tax ∷ []) refl) (even_on (even_lines (mask_high_code n) refl) (even_lines (implied Tya ∷ []) refl)))

mask_even : {X : Labels} (width : Width) (n : ℕ) → Even No X (mask_by_width width n)
mask_even Ax n = mask_word_even n
mask_even Eax n = mask_long_even n

-- ---- operators

quick_lines_even : {X : Labels} (width : Width) (quick : Quick) (label : ℕ) → Even No X (quick_lines width quick label)
quick_lines_even width (Shift op n) label = shift_even op width n label
quick_lines_even width (Mask n) label = even_labelled label (mask_even width n)

scale_even : {X : Labels} (size : ℕ) → Even No X (scale_code size)
scale_even size = even_piece (scale_still size) (scale_piece size).plain (scale_clear size)

pub narrow_even : {X : Labels} (kind : IntType) → Even No X (narrow_code kind)
narrow_even kind = even_piece (narrow_still kind) (narrow_piece kind).plain (narrow_clear kind)

pub quick_even : {X : Labels} (kind : IntType) (quick : Quick) (label : ℕ) → Even No X (quick_code kind quick label)
quick_even kind quick label = even_on (quick_lines_even (width_of kind) quick label) (narrow_even kind)

elements_by_even : {X : Labels} (size : ℕ) (k : Option ℕ) → Even No X (elements_by size k)
elements_by_even size (Some k) = even_if (nat_lt k 4) (calls_even tos.Shl Ax k) (even_if (nat_lt k 8) (left_bits_even k) (even_if (nat_lt k 16) (left_byte_even (k - 8)) (scale_even size)))
elements_by_even size None = scale_even size

pub elements_even : {X : Labels} (size : ℕ) → Even No X (elements_code size)
elements_even size = elements_by_even size (power_of size)
