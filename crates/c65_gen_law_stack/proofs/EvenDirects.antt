-- Operators, comparisons and tests whose operand is read where it lies: their labels, and that they leave what waits, and regbank.
use Rattle.std.proofs.Common.{◌≡◌, ℕ, ◌+◌, ◌-◌, ◌%◌, ◌==◌, ◌&&◌, ◌||◌, inl, inr, Bool, true, false, not, List, [], ◌∷◌, refl, ap}
use Rattle.std.specs.Prelude.{if◌then◌else◌, nat_lt}
use Rattle.std.proofs.lemmas.Bool.{and_from}
use Rattle.c65_base.specs.declared.operators.BinaryOp.{BinaryOp}
use Rattle.c65_base.specs.declared.operators.BinaryOp.TheVariants as ops
use Rattle.c65_mach.specs.declared.rows.Op.{Op}
use Rattle.c65_mach.specs.declared.rows.Op.TheVariants.{Adc, Bcc, Bcs, Beq, Bne, Bvc, Clc, Cmp, Cpx, Dex, Eor, Inx, Lda, Ldx, Ldy, Ora, Pha, Pla, Sbc, Sec, Sta, Stx, Tax, Tay, Txa, Tya}
use Rattle.c65_mach.specs.declared.rows.Mode.{Mode}
use Rattle.c65_mach.specs.declared.rows.Mode.TheVariants.{Absolute, Immediate, IndirectY, ZeroPage}
use Rattle.c65_mach.specs.Step.{kind_of}
use Rattle.c65_code.specs.declared.line.Operand.{Operand}
use Rattle.c65_code.specs.declared.line.Operand.TheVariants as operand
use Rattle.c65_code.specs.declared.line.Line.TheVariants.{Do}
use Rattle.c65_code.specs.Access.{is_written}
use Rattle.c65_code.specs.Segments.{is_to}
use Rattle.c65_genwide.specs.Lines.{value}
use Rattle.c65_genload.specs.Words.{ptr1, sp, sreg, tmp1, tmp2, implied, zero_page, branch}
use Rattle.c65_genload.specs.Numbers.{first, second, third, fourth}
use Rattle.c65_gendirect.specs.declared.bytes.OperandByte.{OperandByte}
use Rattle.c65_gendirect.specs.declared.bytes.OperandByte.TheVariants.{Number, Low, High, Near, Data, Zero}
use Rattle.c65_gendirect.specs.declared.compare.Sides.{Sides}
use Rattle.c65_gendirect.specs.declared.compare.Sides.TheVariants.{Word, Long}
use Rattle.c65_gendirect.specs.declared.relation.Relation.{Relation}
use Rattle.c65_gendirect.specs.declared.relation.Relation.TheVariants.{Less, NotLess, Greater, NotGreater, Equal, Unequal}
use Rattle.c65_gendirect.specs.Bytes.{op_of, takes_y, aside, back}
use Rattle.c65_gendirect.specs.Compare.{lowest_code, difference_code, is_turned, turned, turned_code, turned_difference_code, by_carry, by_sign, order_code, second_code, same_code, is_sign_test, highest_code, ordered_code, compare_code, compare_byte_code}
use Rattle.c65_gendirect.specs.Pointed.{pointer_code, pointed_sum_code}
use Rattle.c65_gendirect.specs.Tests.{or_code, all_zero_code, zero_test_code, truth_code}
use Rattle.c65_gendirect.specs.Words.{instruction, carry_code, first_byte_code, both_bytes_code, onward_code, end_label, is_and, is_number, word_code, sum_code, add_number_code, taken_from_code, long_mask_code}
use Rattle.c65_gen_law_stack.specs.Bank.{lies_outside}
use Rattle.c65_gen_law_stack.proofs.EvenLines.{Labels, No, One, Even, even_end, even_then, even_label, even_if, even_on, even_close, IsReader, even_branch, is_bare, even_lines, even_labelled}

-- ---- a byte

reader_bare : (op : Op) (mode : Mode) (o : Operand) → IsReader op → not (is_to o) ≡ true → is_bare (Do op mode o) ≡ true
reader_bare op mode o r plain = and_from (not (is_to o)) (not (is_written (kind_of op)) || lies_outside mode o) plain (ap (λ (b : Bool). not b || lies_outside mode o) r)

reader_even : {X : Labels} (op : Op) (mode : Mode) (o : Operand) → IsReader op → not (is_to o) ≡ true → Even No X (Do op mode o ∷ [])
reader_even op mode o r plain = even_lines (Do op mode o ∷ []) (and_from (is_bare (Do op mode o)) true (reader_bare op mode o r plain) refl)

pub byte_even : {X : Labels} (op : Op) (d : OperandByte) → IsReader op → Even No X (op_of op d)
byte_even op (Number n) r = reader_even op Immediate (operand.Byte n) r refl
byte_even op (Low sym at) r = reader_even op Immediate (operand.Low sym at) r refl
byte_even op (High sym at) r = reader_even op Immediate (operand.High sym at) r refl
byte_even op (Near at) r = even_on (even_lines (value Ldy at ∷ []) refl) (reader_even op IndirectY (operand.Zero sp) r refl)
byte_even op (Data sym at) r = reader_even op Absolute (operand.At sym at) r refl
byte_even op (Zero at) r = reader_even op ZeroPage (operand.Zero at) r refl

aside_even : {X : Labels} (d : OperandByte) → Even No X (aside d ∷ [])
aside_even d = by (takes_y d)
  where
    by : {X : Labels} (b : Bool) → Even No X (implied (if b then Pha else Tay) ∷ [])
    by true = even_lines (implied Pha ∷ []) refl
    by false = even_lines (implied Tay ∷ []) refl

back_even : {X : Labels} (d : OperandByte) → Even No X (back d ∷ [])
back_even d = by (takes_y d)
  where
    by : {X : Labels} (b : Bool) → Even No X (implied (if b then Pla else Tya) ∷ [])
    by true = even_lines (implied Pla ∷ []) refl
    by false = even_lines (implied Tya ∷ []) refl

-- ---- operators

instruction_reads : (op : BinaryOp) → IsReader (instruction op)
instruction_reads ops.Add = refl
instruction_reads ops.Sub = refl
instruction_reads ops.BitAnd = refl
instruction_reads ops.BitXor = refl
instruction_reads _ = refl

carry_even : {X : Labels} (op : BinaryOp) → Even No X (carry_code op)
carry_even ops.Add = even_lines (implied Clc ∷ []) refl
carry_even ops.Sub = even_lines (implied Sec ∷ []) refl
carry_even _ = even_lines [] refl

pub first_even : {X : Labels} (op : BinaryOp) (low : OperandByte) → Even No X (first_byte_code op low)
first_even op low = even_on (carry_even op) (byte_even (instruction op) low (instruction_reads op))

both_even : {X : Labels} (op : BinaryOp) (low high : OperandByte) → Even No X (both_bytes_code op low high)
both_even op low high =
    even_on (first_even op low) (even_on (aside_even high) (even_on (even_lines (implied Txa ∷ []) refl) (even_on (byte_even (instruction op) high (instruction_reads op)) (even_on (even_lines (implied Tax ∷ []) refl) (back_even high)))))

onward_even : {X : Labels} (op : BinaryOp) (fresh : ℕ) → Even No X (onward_code op fresh)
onward_even ops.Add fresh = even_close fresh (inr (inr refl)) (even_then (even_branch Bcc fresh refl (inl refl)) (even_then (even_lines (implied Inx ∷ []) refl) (even_label fresh)))
onward_even ops.Sub fresh = even_close fresh (inr (inr refl)) (even_then (even_branch Bcs fresh refl (inl refl)) (even_then (even_lines (implied Dex ∷ []) refl) (even_label fresh)))
onward_even ops.BitAnd fresh = even_lines (value Ldx 0 ∷ []) refl
onward_even _ fresh = even_lines [] refl

end_even : {X : Labels} (op : BinaryOp) (fresh : ℕ) → Even No X (end_label op fresh)
end_even ops.Add fresh = even_labelled fresh (even_lines [] refl)
end_even ops.Sub fresh = even_labelled fresh (even_lines [] refl)
end_even _ fresh = even_lines [] refl

pub word_even : {X : Labels} (op : BinaryOp) (low high : OperandByte) (fresh : ℕ) → Even No X (word_code op low high fresh)
word_even op low high fresh =
    even_if (is_number 0 high) (even_on (first_even op low) (onward_even op fresh))
    (even_if (is_and op && is_number 255 high) (first_even op low) (even_on (both_even op low high) (end_even op fresh)))

pub sum_even : {X : Labels} (low high : OperandByte) → Even No X (sum_code low high)
sum_even low high = both_even ops.Add low high

pub pointer_even : {X : Labels} → Even No X pointer_code
pointer_even = even_lines pointer_code refl

pub pointed_sum_even : {X : Labels} (low high : OperandByte) → Even No X (pointed_sum_code low high)
pointed_sum_even low high =
    even_on (first_even ops.Add low) (even_on (even_lines (zero_page Sta ptr1 ∷ implied Txa ∷ []) refl) (even_on (byte_even Adc high refl) (even_lines (zero_page Sta (ptr1 + 1) ∷ []) refl)))

pub added_even : {X : Labels} (n fresh : ℕ) → Even No X (add_number_code n fresh)
added_even n fresh =
    even_if (n % 65536 == 0) (even_labelled fresh (even_lines [] refl))
    (even_if (second n == 255 && nat_lt 0 (first n)) (word_even ops.Sub (Number (256 - first n)) (Number 0) fresh) (word_even ops.Add (Number (first n)) (Number (second n)) fresh))

pub taken_even : {X : Labels} (low high : OperandByte) → Even No X (taken_from_code low high)
taken_even low high =
    even_on (even_lines (zero_page Sta tmp1 ∷ zero_page Stx tmp2 ∷ []) refl) (even_on (byte_even Lda low refl) (even_on (even_lines (implied Sec ∷ zero_page Sbc tmp1 ∷ []) refl)
    (even_on (aside_even high) (even_on (byte_even Lda high refl) (even_on (even_lines (zero_page Sbc tmp2 ∷ implied Tax ∷ []) refl) (back_even high))))))

number_even : {X : Labels} (op : BinaryOp) (n : ℕ) → Even No X (value (instruction op) n ∷ [])
number_even op n = reader_even (instruction op) Immediate (operand.Byte n) (instruction_reads op) refl

pub long_mask_even : {X : Labels} (op : BinaryOp) (n : ℕ) → Even No X (long_mask_code op n)
long_mask_even op n =
    even_on (number_even op (first n)) (even_on (even_lines (implied Tay ∷ implied Txa ∷ []) refl) (even_on (number_even op (second n)) (even_on (even_lines (implied Tax ∷ zero_page Lda sreg ∷ []) refl) (even_on (number_even op (third n))
    (even_on (even_lines (zero_page Sta sreg ∷ zero_page Lda (sreg + 1) ∷ []) refl) (even_on (number_even op (fourth n)) (even_lines (zero_page Sta (sreg + 1) ∷ implied Tya ∷ []) refl)))))))

-- ---- comparisons

lowest_even : {X : Labels} (r : Relation) (low : OperandByte) → Even No X (lowest_code r low)
lowest_even Greater low = even_on (even_lines (implied Clc ∷ []) refl) (byte_even Sbc low refl)
lowest_even NotGreater low = even_on (even_lines (implied Clc ∷ []) refl) (byte_even Sbc low refl)
lowest_even _ low = byte_even Cmp low refl

difference_even : {X : Labels} (r : Relation) (sides : Sides) → Even No X (difference_code r sides)
difference_even r (Word low high) = even_on (lowest_even r low) (even_on (even_lines (implied Txa ∷ []) refl) (byte_even Sbc high refl))
difference_even r (Long d0 d1 d2 d3) =
    even_on (lowest_even r d0) (even_on (even_lines (implied Txa ∷ []) refl) (even_on (byte_even Sbc d1 refl) (even_on (even_lines (zero_page Lda sreg ∷ []) refl)
    (even_on (byte_even Sbc d2 refl) (even_on (even_lines (zero_page Lda (sreg + 1) ∷ []) refl) (byte_even Sbc d3 refl))))))

turned_code_even : {X : Labels} (d : OperandByte) → Even No X (turned_code d)
turned_code_even d = even_on (even_lines (value Eor 128 ∷ []) refl) (byte_even Sbc (turned d) refl)

turned_difference_even : {X : Labels} (r : Relation) (sides : Sides) → Even No X (turned_difference_code r sides)
turned_difference_even r (Word low high) = even_on (lowest_even r low) (even_on (even_lines (implied Txa ∷ []) refl) (turned_code_even high))
turned_difference_even r (Long d0 d1 d2 d3) =
    even_on (lowest_even r d0) (even_on (even_lines (implied Txa ∷ []) refl) (even_on (byte_even Sbc d1 refl) (even_on (even_lines (zero_page Lda sreg ∷ []) refl)
    (even_on (byte_even Sbc d2 refl) (even_on (even_lines (zero_page Lda (sreg + 1) ∷ []) refl) (turned_code_even d3))))))

carry_branches : (r : Relation) → IsReader (by_carry r)
carry_branches Less = refl
carry_branches NotGreater = refl
carry_branches _ = refl

sign_branches : (r : Relation) → IsReader (by_sign r)
sign_branches Less = refl
sign_branches NotGreater = refl
sign_branches _ = refl

order_even : {X : Labels} (r : Relation) (is_signed : Bool) (fresh to : ℕ) → X to → Even No X (order_code r is_signed fresh to)
order_even r true fresh to x =
    even_close fresh (inr (inr (inl refl))) (even_then (even_branch Bvc fresh refl (inl refl)) (even_then (even_lines (value Eor 128 ∷ []) refl) (even_then (even_label fresh) (even_branch (by_sign r) to (sign_branches r) (inr x)))))
order_even r false fresh to x = even_end (even_then (even_label fresh) (even_branch (by_carry r) to (carry_branches r) x)) (λ l z. absurd z) (λ l z. inr z)

second_even : {X : Labels} (d : OperandByte) → Even No X (second_code d)
second_even d = even_if (takes_y d) (even_on (even_lines (implied Txa ∷ []) refl) (byte_even Cmp d refl)) (byte_even Cpx d refl)

same_even : {X : Labels} (sides : Sides) (other : ℕ) → X other → Even No X (same_code sides other)
same_even (Word low high) other x = even_on (byte_even Cmp low refl) (even_on (even_branch Bne other refl x) (second_even high))
same_even (Long d0 d1 d2 d3) other x =
    even_on (byte_even Cmp d0 refl) (even_on (even_branch Bne other refl x) (even_on (second_even d1) (even_on (even_branch Bne other refl x) (even_on (even_lines (zero_page Lda sreg ∷ []) refl)
    (even_on (byte_even Cmp d2 refl) (even_on (even_branch Bne other refl x) (even_on (even_lines (zero_page Lda (sreg + 1) ∷ []) refl) (byte_even Cmp d3 refl))))))))

highest_even : {X : Labels} (sides : Sides) → Even No X (highest_code sides)
highest_even (Word low high) = even_lines (implied Txa ∷ []) refl
highest_even (Long d0 d1 d2 d3) = even_lines (zero_page Lda (sreg + 1) ∷ []) refl

ordered_even : {X : Labels} (r : Relation) (is_signed : Bool) (sides : Sides) (fresh to : ℕ) → X to → Even No X (ordered_code r is_signed sides fresh to)
ordered_even r is_signed sides fresh to x =
    even_if (is_sign_test r is_signed sides) (even_on (highest_even sides) (even_end (even_then (even_label fresh) (even_branch (by_sign r) to (sign_branches r) x)) (λ l z. absurd z) (λ l z. inr z)))
    (even_if (is_turned is_signed sides) (even_on (turned_difference_even r sides) (order_even r false fresh to x)) (even_on (difference_even r sides) (order_even r is_signed fresh to x)))

pub compare_even : {X : Labels} (r : Relation) (is_signed : Bool) (sides : Sides) (fresh to : ℕ) → X to → Even No X (compare_code r is_signed sides fresh to)
compare_even Equal is_signed sides fresh to x = even_close fresh (inr (inr refl)) (even_then (same_even sides fresh (inl refl)) (even_then (even_branch Beq to refl (inr x)) (even_label fresh)))
compare_even Unequal is_signed sides fresh to x = even_on (same_even sides to x) (even_labelled fresh (even_branch Bne to refl x))
compare_even Less is_signed sides fresh to x = ordered_even Less is_signed sides fresh to x
compare_even NotLess is_signed sides fresh to x = ordered_even NotLess is_signed sides fresh to x
compare_even Greater is_signed sides fresh to x = ordered_even Greater is_signed sides fresh to x
compare_even NotGreater is_signed sides fresh to x = ordered_even NotGreater is_signed sides fresh to x

pub compare_byte_even : {X : Labels} (r : Relation) (d : OperandByte) (to : ℕ) → X to → Even No X (compare_byte_code r d to)
compare_byte_even Equal d to x = even_on (byte_even Cmp d refl) (even_branch Beq to refl x)
compare_byte_even Unequal d to x = even_on (byte_even Cmp d refl) (even_branch Bne to refl x)
compare_byte_even Less d to x = even_on (lowest_even Less d) (even_branch (by_carry Less) to refl x)
compare_byte_even NotLess d to x = even_on (lowest_even NotLess d) (even_branch (by_carry NotLess) to refl x)
compare_byte_even Greater d to x = even_on (lowest_even Greater d) (even_branch (by_carry Greater) to refl x)
compare_byte_even NotGreater d to x = even_on (lowest_even NotGreater d) (even_branch (by_carry NotGreater) to refl x)

-- ---- tests and truth values

or_even : {X : Labels} (bytes : List OperandByte) → Even No X (or_code bytes)
or_even [] = even_lines [] refl
or_even (d ∷ ds) = even_on (byte_even Ora d refl) (or_even ds)

all_zero_even : {X : Labels} (bytes : List OperandByte) → Even No X (all_zero_code bytes)
all_zero_even [] = even_lines (value Lda 0 ∷ []) refl
all_zero_even (d ∷ ds) = even_on (byte_even Lda d refl) (or_even ds)

pub sense_even : {X : Labels} (sense : Bool) (to : ℕ) → X to → Even No X (branch (if sense then Bne else Beq) to ∷ [])
sense_even true to x = even_branch Bne to refl x
sense_even false to x = even_branch Beq to refl x

pub zero_test_even : {X : Labels} (bytes : List OperandByte) (sense : Bool) (to : ℕ) → X to → Even No X (zero_test_code bytes sense to)
zero_test_even bytes sense to x = even_on (all_zero_even bytes) (sense_even sense to x)

-- a truth value is had from its first label too
pub truth_even : (fresh : ℕ) → Even (One fresh) No (truth_code fresh)
truth_even fresh =
    even_end
    (even_then (even_lines (value Lda 1 ∷ []) refl) (even_then (even_branch {X = One (fresh + 1)} Bne (fresh + 1) refl refl) (even_then (even_label fresh) (even_then (even_lines (value Lda 0 ∷ []) refl) (even_then (even_label (fresh + 1)) (even_lines (value Ldx 0 ∷ []) refl))))))
    (λ l z. inr (inr (inl z)))
    (λ l z. inl (inr (inr (inr (inr (inl z))))))
