-- Shifts and masks by constants: their labels, their size, and that they leave what waits.
use Rattle.std.proofs.Common.{◌≡◌, ℕ, zero, suc, ◌+◌, ◌-◌, ◌*◌, ◌%◌, ◌<◌, ◌≤◌, ◌==◌, Bool, true, false, Option, Some, None, List, [], ◌∷◌, ◌++◌, refl, subst, arith}
use Rattle.std.specs.Prelude.{◌||◌, nat_lt, nat_le, if◌then◌else◌, replicate}
use Rattle.std.proofs.lemmas.Bool.{and_parts, ltb-true, ltb-false}
use Rattle.c65_base.specs.declared.operators.BinaryOp.{BinaryOp}
use Rattle.c65_ints.specs.declared.types.IntType.{IntType}
use Rattle.c65_ints.specs.Ranges.{is_signed_of}
use Rattle.c65_mach.specs.declared.rows.Op.TheVariants.{And, Asl, Bne, Dey, Lda, Ldx, Ldy, Lsr, Sta, Stx, Sty, Tax, Tay, Txa, Tya}
use Rattle.c65_code.specs.declared.line.Line.{Line}
use Rattle.c65_code.specs.declared.routine.TosOp.{TosOp}
use Rattle.c65_code.specs.declared.routine.TosOp.TheVariants as tos
use Rattle.c65_code.specs.declared.routine.Width.{Width}
use Rattle.c65_code.specs.declared.routine.Width.TheVariants.{Ax, Eax}
use Rattle.c65_code.specs.declared.routine.Routine.TheVariants.{Unary}
use Rattle.c65_genwide.specs.Lines.{value, call}
use Rattle.c65_genwide.specs.Wide.{width_of, tos_of}
use Rattle.c65_genload.specs.Words.{sreg, tmp1, implied, zero_page, shift_a}
use Rattle.c65_genload.specs.Numbers.{first, second, mask_code}
use Rattle.c65_genshift.specs.declared.quick.Quick.{Quick}
use Rattle.c65_genshift.specs.declared.quick.Quick.TheVariants.{Shift, Mask}
use Rattle.c65_genshift.specs.Shifts.{one_of, calls_code, turns_code, left_turn, left_turns, left_bits_code, right_turn, left_byte_code, right_byte_code, left_one_code, left_two_code, right_one_code, right_two_code, labelled, left_word_code, right_word_code, left_long_code, right_long_code, shift_code, is_short_long, is_short}
use Rattle.c65_genshift.specs.Quick.{power_of, scaled_if, rest_if, quick_by, quick_of, mask_word_code, mask_high_code, mask_by_width, quick_lines, quick_code, elements_by, elements_code}
use Rattle.c65_gen_law_lines.proofs.Made.{nowhere, once_at}
use Rattle.c65_gen_law_lines.proofs.Pieces.{narrow_piece, scale_piece}
use Rattle.c65_gen_law_lines.proofs.StackPieces.{narrow_still, scale_still}
use Rattle.c65_gen_law_lines.proofs.Quiet.{Quiet, quiet_then, quiet_piece, quiet_label, quiet_branch, quiet_none, quiet_wider, quiet_as, quiet_if}

-- ---- by the number of bits

pub quiet_below : {ok : ℕ → Bool} {f : ℕ → ℕ} {k : ℕ} {x y : List Line} (n a : ℕ) → (n < a → Quiet ok f k x) → (a ≤ n → Quiet ok f k y) → Quiet ok f k (if nat_lt n a then x else y)
quiet_below {ok = ok} {f = f} {k = k} {x = x} {y = y} n a p q = go (nat_lt n a) refl
  where
    go : (b : Bool) → nat_lt n a ≡ b → Quiet ok f k (if b then x else y)
    go true e = p (ltb-true n a e)
    go false e = q (ltb-false n a e)

pub labelled_quiet : {ok : ℕ → Bool} {k : ℕ} {a : List Line} (label : ℕ) → Quiet ok nowhere k a → Quiet ok (once_at label) k (labelled label a)
labelled_quiet label p = quiet_wider (quiet_as (λ l. omega arith) (quiet_then p (quiet_label label))) (omega arith)

replicate_quiet : {ok : ℕ → Bool} {k : ℕ} (n : ℕ) (line : Line) → Quiet ok nowhere k (line ∷ []) → Quiet ok nowhere (n * k) (replicate n line)
replicate_quiet zero line p = quiet_none
replicate_quiet {k = k} (suc n) line p = quiet_wider (quiet_as (λ l. refl) (quiet_then p (replicate_quiet n line p))) (omega arith)

-- a call of a routine that may stand as lines later, and of one that does not
abbrev turn_size : Width → ℕ
turn_size Ax = 13
turn_size Eax = 3

one_quiet : {ok : ℕ → Bool} (op : TosOp) (width : Width) → Quiet ok nowhere (turn_size width) (call (Unary (one_of op) width) ∷ [])
one_quiet tos.Shl Ax = quiet_piece (record { plain = refl; fit = refl; size = omega arith }) (λ v. record { to = λ calls. refl })
one_quiet tos.Shl Eax = quiet_piece (record { plain = refl; fit = refl; size = omega arith }) (λ v. record { to = λ calls. refl })
one_quiet tos.Shr Ax = quiet_piece (record { plain = refl; fit = refl; size = omega arith }) (λ v. record { to = λ calls. refl })
one_quiet tos.Shr Eax = quiet_piece (record { plain = refl; fit = refl; size = omega arith }) (λ v. record { to = λ calls. refl })
one_quiet _ Ax = quiet_piece (record { plain = refl; fit = refl; size = omega arith }) (λ v. record { to = λ calls. refl })
one_quiet _ Eax = quiet_piece (record { plain = refl; fit = refl; size = omega arith }) (λ v. record { to = λ calls. refl })

calls_quiet : {ok : ℕ → Bool} (op : TosOp) (width : Width) (n : ℕ) → Quiet ok nowhere (n * turn_size width) (calls_code op width n)
calls_quiet op width n = replicate_quiet n (call (Unary (one_of op) width)) (one_quiet op width)

left_quiet : {ok : ℕ → Bool} (n : ℕ) → Quiet ok nowhere (n * 1) (replicate n (shift_a Asl))
left_quiet n = replicate_quiet n (shift_a Asl) (quiet_piece (record { plain = refl; fit = refl; size = omega arith }) (λ v. record { to = λ calls. refl }))

right_quiet : {ok : ℕ → Bool} (n : ℕ) → Quiet ok nowhere (n * 1) (replicate n (shift_a Lsr))
right_quiet n = replicate_quiet n (shift_a Lsr) (quiet_piece (record { plain = refl; fit = refl; size = omega arith }) (λ v. record { to = λ calls. refl }))

turns_quiet : {ok : ℕ → Bool} (turn : List Line) (n label : ℕ) → ok label ≡ true → Quiet ok nowhere 3 turn → Quiet ok (once_at label) 15 (turns_code turn n label)
turns_quiet {ok = ok} turn n label passes p =
    let set : Quiet ok nowhere 4 (zero_page Stx tmp1 ∷ value Ldy n ∷ []) = quiet_piece (record { plain = refl; fit = refl; size = omega arith }) (λ v. record { to = λ calls. refl }) in
    let next : Quiet ok nowhere 1 (implied Dey ∷ []) = quiet_piece (record { plain = refl; fit = refl; size = omega arith }) (λ v. record { to = λ calls. refl }) in
    let high : Quiet ok nowhere 2 (zero_page Ldx tmp1 ∷ []) = quiet_piece (record { plain = refl; fit = refl; size = omega arith }) (λ v. record { to = λ calls. refl }) in
    quiet_as (λ l. omega arith) (quiet_then set (quiet_then (quiet_label label) (quiet_then p (quiet_then next (quiet_then (quiet_branch Bne label refl passes) high)))))

pub left_byte_quiet : {ok : ℕ → Bool} (n : ℕ) → n < 8 → Quiet ok nowhere 10 (left_byte_code n)
left_byte_quiet {ok = ok} n few =
    let last : Quiet ok nowhere 3 (implied Tax ∷ value Lda 0 ∷ []) = quiet_piece (record { plain = refl; fit = refl; size = omega arith }) (λ v. record { to = λ calls. refl }) in
    quiet_wider (quiet_as (λ l. refl) (quiet_then (left_quiet n) last)) (omega (arith, few))

right_byte_quiet : {ok : ℕ → Bool} (n : ℕ) → n < 8 → Quiet ok nowhere 10 (right_byte_code n)
right_byte_quiet {ok = ok} n few =
    let low : Quiet ok nowhere 1 (implied Txa ∷ []) = quiet_piece (record { plain = refl; fit = refl; size = omega arith }) (λ v. record { to = λ calls. refl }) in
    let last : Quiet ok nowhere 2 (value Ldx 0 ∷ []) = quiet_piece (record { plain = refl; fit = refl; size = omega arith }) (λ v. record { to = λ calls. refl }) in
    quiet_wider (quiet_as (λ l. refl) (quiet_then low (quiet_then (right_quiet n) last))) (omega (arith, few))

left_word_quiet : {ok : ℕ → Bool} (n label : ℕ) → ok label ≡ true → n < 16 → Quiet ok (once_at label) 39 (left_word_code n label)
left_word_quiet {ok = ok} n label passes few =
    let turn : Quiet ok nowhere 3 left_turn = quiet_piece (record { plain = refl; fit = refl; size = omega arith }) (λ v. record { to = λ calls. refl }) in
    quiet_below n 4 (λ lt. labelled_quiet label (quiet_wider (calls_quiet tos.Shl Ax n) (omega (arith, lt))))
    (λ ge. quiet_below n 8 (λ lt. quiet_wider (turns_quiet left_turn n label passes turn) (omega arith)) (λ more. labelled_quiet label (quiet_wider (left_byte_quiet (n - 8) (omega (arith, few, more))) (omega arith))))

right_word_quiet : {ok : ℕ → Bool} (n label : ℕ) → ok label ≡ true → n < 16 → Quiet ok (once_at label) 39 (right_word_code n label)
right_word_quiet {ok = ok} n label passes few =
    let turn : Quiet ok nowhere 3 right_turn = quiet_piece (record { plain = refl; fit = refl; size = omega arith }) (λ v. record { to = λ calls. refl }) in
    quiet_below n 4 (λ lt. labelled_quiet label (quiet_wider (calls_quiet tos.Shr Ax n) (omega (arith, lt))))
    (λ ge. quiet_below n 8 (λ lt. quiet_wider (turns_quiet right_turn n label passes turn) (omega arith)) (λ more. labelled_quiet label (quiet_wider (right_byte_quiet (n - 8) (omega (arith, few, more))) (omega arith))))

left_long_quiet : {ok : ℕ → Bool} (n : ℕ) → n < 32 → Quiet ok nowhere 39 (left_long_code n)
left_long_quiet {ok = ok} n few =
    let one : Quiet ok nowhere 9 left_one_code = quiet_piece (record { plain = refl; fit = refl; size = omega arith }) (λ v. record { to = λ calls. refl }) in
    let two : Quiet ok nowhere 7 left_two_code = quiet_piece (record { plain = refl; fit = refl; size = omega arith }) (λ v. record { to = λ calls. refl }) in
    let last : Quiet ok nowhere 7 (zero_page Sta (sreg + 1) ∷ value Lda 0 ∷ zero_page Sta sreg ∷ implied Tax ∷ []) = quiet_piece (record { plain = refl; fit = refl; size = omega arith }) (λ v. record { to = λ calls. refl }) in
    quiet_below n 8 (λ lt. quiet_wider (calls_quiet tos.Shl Eax n) (omega (arith, lt)))
    (λ a. quiet_below n 16 (λ lt. quiet_wider (quiet_as (λ l. refl) (quiet_then one (calls_quiet tos.Shl Eax (n - 8)))) (omega (arith, lt)))
    (λ b. quiet_below n 24 (λ lt. quiet_wider (quiet_as (λ l. refl) (quiet_then two (calls_quiet tos.Shl Eax (n - 16)))) (omega (arith, lt)))
    (λ c. quiet_wider (quiet_as (λ l. refl) (quiet_then (left_quiet (n - 24)) last)) (omega (arith, few)))))

right_long_quiet : {ok : ℕ → Bool} (n : ℕ) → n < 32 → Quiet ok nowhere 39 (right_long_code n)
right_long_quiet {ok = ok} n few =
    let one : Quiet ok nowhere 11 right_one_code = quiet_piece (record { plain = refl; fit = refl; size = omega arith }) (λ v. record { to = λ calls. refl }) in
    let two : Quiet ok nowhere 10 right_two_code = quiet_piece (record { plain = refl; fit = refl; size = omega arith }) (λ v. record { to = λ calls. refl }) in
    let set : Quiet ok nowhere 8 (zero_page Lda (sreg + 1) ∷ value Ldx 0 ∷ zero_page Stx sreg ∷ zero_page Stx (sreg + 1) ∷ []) = quiet_piece (record { plain = refl; fit = refl; size = omega arith }) (λ v. record { to = λ calls. refl }) in
    quiet_below n 8 (λ lt. quiet_wider (calls_quiet tos.Shr Eax n) (omega (arith, lt)))
    (λ a. quiet_below n 16 (λ lt. quiet_wider (quiet_as (λ l. refl) (quiet_then one (calls_quiet tos.Shr Eax (n - 8)))) (omega (arith, lt)))
    (λ b. quiet_below n 24 (λ lt. quiet_wider (quiet_as (λ l. refl) (quiet_then two (calls_quiet tos.Shr Eax (n - 16)))) (omega (arith, lt)))
    (λ c. quiet_wider (quiet_as (λ l. refl) (quiet_then set (right_quiet (n - 24)))) (omega (arith, few)))))

-- these bits are at most 31
few_bits : (n : ℕ) → is_short_long n ≡ true → n < 32
few_bits n h = ltb-true n 32 (and_parts (nat_lt n 32) (nat_lt (n % 8) 4 || nat_le 24 n) h).0

shift_quiet : {ok : ℕ → Bool} (op : TosOp) (width : Width) (n label : ℕ) → ok label ≡ true → is_short op width n ≡ true → Quiet ok (once_at label) 39 (shift_code op width n label)
shift_quiet tos.Shl Ax n label passes h = left_word_quiet n label passes (ltb-true n 16 h)
shift_quiet tos.Shl Eax n label passes h = labelled_quiet label (left_long_quiet n (few_bits n h))
shift_quiet tos.Shr Ax n label passes h = right_word_quiet n label passes (ltb-true n 16 h)
shift_quiet tos.Shr Eax n label passes h = labelled_quiet label (right_long_quiet n (few_bits n h))
shift_quiet tos.Asr Ax n label passes h = labelled_quiet label (quiet_wider (calls_quiet tos.Asr Ax n) (omega (arith, ltb-true n 4 h)))
shift_quiet tos.Asr Eax n label passes h = labelled_quiet label (quiet_wider (calls_quiet tos.Asr Eax n) (omega (arith, ltb-true n 4 h)))
shift_quiet _ width n label passes h = absurd cc

-- ---- masks

mask_word_quiet : {ok : ℕ → Bool} (n : ℕ) → Quiet ok nowhere 8 (mask_word_code n)
mask_word_quiet {ok = ok} n =
    let low : Quiet ok nowhere 8 (value And (first n) ∷ value Ldx 0 ∷ []) = quiet_piece (record { plain = refl; fit = refl; size = omega arith }) (λ v. record { to = λ calls. refl }) in
    let all : Quiet ok nowhere 8 (mask_code n) = quiet_piece (record { plain = refl; fit = refl; size = omega arith }) (λ v. record { to = λ calls. refl }) in
    quiet_if (second n == 0) low all

mask_quiet : {ok : ℕ → Bool} (width : Width) (n : ℕ) → Quiet ok nowhere 20 (mask_by_width width n)
mask_quiet Ax n = quiet_wider (mask_word_quiet n) (omega arith)
mask_quiet {ok = ok} Eax n =
    let zeros : Quiet ok nowhere 6 (value Ldy 0 ∷ zero_page Sty sreg ∷ zero_page Sty (sreg + 1) ∷ []) = quiet_piece (record { plain = refl; fit = refl; size = omega arith }) (λ v. record { to = λ calls. refl }) in
    let all : Quiet ok nowhere 20 (value And (first n) ∷ implied Tay ∷ implied Txa ∷ value And (second n) ∷ implied Tax ∷ (mask_high_code n ++ (implied Tya ∷ []))) = quiet_piece (record { plain = refl; fit = refl; size = omega arith }) (λ v. record { to = λ calls. refl }) in
    quiet_if (nat_lt n 65536) (quiet_wider (quiet_as (λ l. refl) (quiet_then (mask_word_quiet n) zeros)) (omega arith)) all

-- ---- constants

-- the shifts among these are short ones
abbrev pub IsQuick : Width → Quick → Type 0
IsQuick width (Shift op n) = is_short op width n ≡ true
IsQuick width (Mask n) = Unit {0}

same_some : {A : Type 0} {a b : A} → Some a ≡ Some b → a ≡ b
same_some e = cc

shift_quick : (op : TosOp) (width : Width) (n : ℕ) (q : Quick) (b : Bool) → is_short op width n ≡ b → (if b then Some (Shift op n) else None) ≡ Some q → IsQuick width q
shift_quick op width n q true short e = subst (IsQuick width) (same_some e) short
shift_quick op width n q false short e = absurd cc

scaled_quick : (op : TosOp) (width : Width) (k : Option ℕ) (q : Quick) → scaled_if op width k ≡ Some q → IsQuick width q
scaled_quick op width (Some k) q e = shift_quick op width k q (is_short op width k) refl e
scaled_quick op width None q e = absurd cc

rest_quick : (width : Width) (n : ℕ) (k : Option ℕ) (q : Quick) → rest_if n k ≡ Some q → IsQuick width q
rest_quick width n (Some k) q e = subst (IsQuick width) (same_some e) tt
rest_quick width n None q e = absurd cc

quick_by_quick : (op : TosOp) (width : Width) (n : ℕ) (q : Quick) → quick_by op width n ≡ Some q → IsQuick width q
quick_by_quick tos.Shl width n q e = shift_quick tos.Shl width n q (is_short tos.Shl width n) refl e
quick_by_quick tos.Shr width n q e = shift_quick tos.Shr width n q (is_short tos.Shr width n) refl e
quick_by_quick tos.Asr width n q e = shift_quick tos.Asr width n q (is_short tos.Asr width n) refl e
quick_by_quick tos.Mul width n q e = scaled_quick tos.Shl width (power_of n) q e
quick_by_quick tos.UDiv width n q e = scaled_quick tos.Shr width (power_of n) q e
quick_by_quick tos.UMod width n q e = rest_quick width n (power_of n) q e
quick_by_quick _ width n q e = absurd cc

pub quick_is_quick : (op : BinaryOp) (kind : IntType) (n : ℕ) (q : Quick) → quick_of op kind n ≡ Some q → IsQuick (width_of kind) q
quick_is_quick op kind n q e = quick_by_quick (tos_of op (is_signed_of kind)) (width_of kind) n q e

quick_lines_quiet : {ok : ℕ → Bool} (width : Width) (q : Quick) (label : ℕ) → ok label ≡ true → IsQuick width q → Quiet ok (once_at label) 39 (quick_lines width q label)
quick_lines_quiet width (Shift op n) label passes h = shift_quiet op width n label passes h
quick_lines_quiet width (Mask n) label passes h = labelled_quiet label (quiet_wider (mask_quiet width n) (omega arith))

pub quick_quiet : {ok : ℕ → Bool} (kind : IntType) (q : Quick) (label : ℕ) → ok label ≡ true → IsQuick (width_of kind) q → Quiet ok (once_at label) 42 (quick_code kind q label)
quick_quiet kind q label passes h = quiet_as (λ l. omega arith) (quiet_then (quick_lines_quiet (width_of kind) q label passes h) (quiet_piece (narrow_piece kind) (narrow_still kind)))

-- ---- elements

left_turns_quiet : {ok : ℕ → Bool} (n : ℕ) → Quiet ok nowhere (n * 3) (left_turns n)
left_turns_quiet zero = quiet_none
left_turns_quiet {ok = ok} (suc n) =
    let turn : Quiet ok nowhere 3 left_turn = quiet_piece (record { plain = refl; fit = refl; size = omega arith }) (λ v. record { to = λ calls. refl }) in
    quiet_wider (quiet_as (λ l. refl) (quiet_then turn (left_turns_quiet n))) (omega arith)

left_bits_quiet : {ok : ℕ → Bool} (n : ℕ) → n < 8 → Quiet ok nowhere 25 (left_bits_code n)
left_bits_quiet {ok = ok} n few =
    let away : Quiet ok nowhere 2 (zero_page Stx tmp1 ∷ []) = quiet_piece (record { plain = refl; fit = refl; size = omega arith }) (λ v. record { to = λ calls. refl }) in
    let high : Quiet ok nowhere 2 (zero_page Ldx tmp1 ∷ []) = quiet_piece (record { plain = refl; fit = refl; size = omega arith }) (λ v. record { to = λ calls. refl }) in
    quiet_wider (quiet_as (λ l. refl) (quiet_then away (quiet_then (left_turns_quiet n) high))) (omega (arith, few))

elements_by_quiet : {ok : ℕ → Bool} (size : ℕ) (k : Option ℕ) → Quiet ok nowhere 91 (elements_by size k)
elements_by_quiet size (Some k) = quiet_below k 4 (λ lt. quiet_wider (calls_quiet tos.Shl Ax k) (omega (arith, lt)))
    (λ few. quiet_below k 8 (λ lt. quiet_wider (left_bits_quiet k lt) (omega arith))
    (λ a. quiet_below k 16 (λ lt. quiet_wider (left_byte_quiet (k - 8) (omega (arith, lt, a))) (omega arith)) (λ b. quiet_wider (quiet_piece (scale_piece size) (scale_still size)) (omega arith))))
elements_by_quiet size None = quiet_wider (quiet_piece (scale_piece size) (scale_still size)) (omega arith)

pub elements_quiet : {ok : ℕ → Bool} (size : ℕ) → Quiet ok nowhere 91 (elements_code size)
elements_quiet size = elements_by_quiet size (power_of size)
