-- The pieces of which the lines of operands that are read where they lie, of shifts by constants and of tests are made.
use Rattle.std.proofs.Common.{◌≡◌, ℕ, zero, suc, ◌+◌, ◌-◌, ◌%◌, ◌<◌, ◌^◌, ◌==◌, Bool, true, false, Option, None, Some, List, [], ◌∷◌, ◌++◌, refl, arith, rules}
use Rattle.std.specs.Prelude.{if◌then◌else◌, nat_lt, ◌&&◌, replicate}
use Rattle.std.proofs.lemmas.Bool.{ltb-true}
use Rattle.std.proofs.lemmas.Nat.{xor_of_8}
use Rattle.c65_base.specs.declared.operators.BinaryOp.{BinaryOp}
use Rattle.c65_base.specs.declared.operators.BinaryOp.TheVariants as ops
use Rattle.c65_ints.specs.declared.types.IntType.{IntType}
use Rattle.c65_ints.specs.Ranges.{is_signed_of}
use Rattle.c65_mach.specs.declared.rows.Op.{Op}
use Rattle.c65_code.specs.declared.line.Line.{Line}
use Rattle.c65_code.specs.declared.line.Line.TheVariants.{Label}
use Rattle.c65_code.specs.declared.routine.TosOp.{TosOp}
use Rattle.c65_code.specs.declared.routine.TosOp.TheVariants as tos
use Rattle.c65_code.specs.declared.routine.Width.{Width}
use Rattle.c65_code.specs.declared.routine.Width.TheVariants.{Ax, Eax}
use Rattle.c65_genwide.specs.Wide.{width_of}
use Rattle.c65_genload.specs.declared.places.Place.{Place}
use Rattle.c65_genload.specs.declared.places.Place.TheVariants as places
use Rattle.c65_genload.specs.Numbers.{first, second, third, fourth, add_long_code, mask_code}
use Rattle.c65_genload.specs.Conversions.{size_of}
use Rattle.c65_gendirect.specs.declared.bytes.OperandByte.{OperandByte}
use Rattle.c65_gendirect.specs.declared.bytes.OperandByte.TheVariants as bytes
use Rattle.c65_gendirect.specs.declared.direct.Direct.{Direct}
use Rattle.c65_gendirect.specs.declared.direct.Direct.TheVariants as directs
use Rattle.c65_gendirect.specs.declared.compare.Sides.{Sides}
use Rattle.c65_gendirect.specs.declared.compare.Sides.TheVariants.{Word, Long}
use Rattle.c65_gendirect.specs.declared.relation.Relation.{Relation}
use Rattle.c65_gendirect.specs.declared.through.Stored.{Stored}
use Rattle.c65_gendirect.specs.declared.through.Stored.TheVariants as stores
use Rattle.c65_gendirect.specs.Pointed.{pointer_code, pointed_sum_code}
use Rattle.c65_gendirect.specs.Through.{read_bytes_code, point_code, byte_through_code, word_through_code}
use Rattle.c65_gendirect.specs.declared.relation.Relation.TheVariants as relations
use Rattle.c65_gendirect.specs.Bytes.{op_of, takes_y, aside, back, number_byte, place_byte, byte_above, byte_of, converted}
use Rattle.c65_gendirect.specs.Words.{instruction, carry_code, first_byte_code, both_bytes_code, onward_code, end_label, is_and, is_number, word_code, add_number_code, taken_from_code, long_mask_code}
use Rattle.c65_gendirect.specs.Compare.{lowest_code, difference_code, is_turned, turned, turned_code, turned_upper_code, turned_difference_code, by_sign, order_code, second_code, same_code, is_sign_test, highest_code, ordered_code, compare_code, compare_byte_code}
use Rattle.c65_gendirect.specs.Tests.{or_code, all_zero_code, zero_test_code, truth_code}
use Rattle.c65_genshift.specs.declared.quick.Quick.{Quick}
use Rattle.c65_genshift.specs.declared.quick.Quick.TheVariants.{Shift, Mask}
use Rattle.c65_genshift.specs.Shifts.{calls_code, turns_code, left_turn, left_turns, left_bits_code, right_turn, left_byte_code, right_byte_code, left_one_code, left_two_code, left_three_code, right_one_code, right_two_code, right_three_code, labelled, left_word_code, right_word_code, left_long_code, right_long_code, shift_code}
use Rattle.c65_genshift.specs.Quick.{power_of, mask_word_code, mask_long_code, mask_by_width, quick_lines, quick_code, elements_by, elements_code}
use Rattle.c65_mach.specs.declared.rows.Op.TheVariants.{Adc, Asl, Bne, Cmp, Cpx, Dey, Lda, Ldx, Ldy, Lsr, Ora, Pla, Sbc, Sec, Sta, Stx, Sty, Tax, Txa}
use Rattle.c65_genwide.specs.Lines.{value}
use Rattle.c65_genload.specs.Words.{sreg, ptr1, tmp1, tmp2, implied, zero_page, by_y, branch}
use Rattle.c65_genload.specs.Places.{byte_more}
use Rattle.c65_asm_law.proofs.Well.{Well, AllWell, well_append, well_none, well_more, well_if}
use Rattle.c65_asm_law.proofs.Loads.{WellPlace, narrow_well, mask_well, shifts_well, scale_well}

-- ---- bytes that are read where they lie

abbrev pub WellByte : ℕ → OperandByte → Type 0
WellByte n (bytes.Number v) = v < 2 ^ 8
WellByte n (bytes.Low s at) = (s.0 < n) × (at < 2 ^ 16)
WellByte n (bytes.High s at) = (s.0 < n) × (at < 2 ^ 16)
WellByte n (bytes.Near at) = at < 2 ^ 8
WellByte n (bytes.Data s at) = (s.0 < n) × (at < 2 ^ 16)
WellByte n (bytes.Zero at) = at < 2 ^ 8

abbrev pub WellMaybe : ℕ → Option OperandByte → Type 0
WellMaybe n None = Unit {0}
WellMaybe n (Some byte) = WellByte n byte

abbrev pub WellDirect : ℕ → Direct → Type 0
WellDirect n (directs.Number m) = Unit {0}
WellDirect n (directs.Address s at) = (s.0 < n) × (at < 2 ^ 16)
WellDirect n (directs.Kept place kind) = WellPlace n place

abbrev pub WellRead : ℕ → Option Direct → Type 0
WellRead n None = Unit {0}
WellRead n (Some d) = WellDirect n d

maybe_if : (n : ℕ) (b : Bool) (x y : Option OperandByte) → WellMaybe n x → WellMaybe n y → WellMaybe n (if b then x else y)
maybe_if n true x y p q = p
maybe_if n false x y p q = q

byte_if : (v w : ℕ) (b : Bool) → v < 2 ^ 8 → w < 2 ^ 8 → (if b then v else w) < 2 ^ 8
byte_if v w true p q = p
byte_if v w false p q = q

number_byte_well : (n m i : ℕ) → WellByte n (bytes.Number (number_byte m i))
number_byte_well n m i = byte_if (first m) _ (i == 0) (omega arith) (byte_if (second m) _ (i == 1) (omega arith) (byte_if (third m) (fourth m) (i == 2) (omega arith) (omega arith)))

place_byte_well : (n : ℕ) (p : Place) (i : ℕ) → WellPlace n p → WellMaybe n (place_byte p i)
place_byte_well n (places.Bank at) i h = omega arith
place_byte_well n (places.Near at) i h = omega arith
place_byte_well n (places.Data s at) i h = (h.0, omega arith)
place_byte_well n (places.Far at) i h = tt

above_well : (n : ℕ) (kind : IntType) → WellMaybe n (byte_above kind)
above_well n kind = maybe_if n (is_signed_of kind) None (Some (bytes.Number 0)) tt (omega arith)

pub byte_well : (n : ℕ) (d : Direct) (i : ℕ) → WellDirect n d → WellMaybe n (byte_of d i)
byte_well n (directs.Number m) i h = number_byte_well n m i
byte_well n (directs.Address s at) i h = maybe_if n (i == 0) (Some (bytes.Low s at)) _ h (maybe_if n (i == 1) (Some (bytes.High s at)) None h tt)
byte_well n (directs.Kept p kind) i h = maybe_if n (nat_lt i (size_of kind)) (place_byte p i) (byte_above kind) (place_byte_well n p i h) (above_well n kind)

pub read_if : (n : ℕ) (b : Bool) (x y : Option Direct) → WellRead n x → WellRead n y → WellRead n (if b then x else y)
read_if n true x y p q = p
read_if n false x y p q = q

pub converted_well : (n : ℕ) (to : IntType) (d : Direct) → WellDirect n d → WellRead n (converted to d)
converted_well n to (directs.Number m) h = tt
converted_well n to (directs.Address s at) h = read_if n (size_of to == 2) (Some (directs.Address s at)) None h tt
converted_well n to (directs.Kept p from) h = h

pub op_well : (n : ℕ) (op : Op) (byte : OperandByte) → WellByte n byte → AllWell n (op_of op byte)
op_well n op (bytes.Number v) h = record { all = ((tt, h), tt) }
op_well n op (bytes.Low s at) h = record { all = ((tt, h), tt) }
op_well n op (bytes.High s at) h = record { all = ((tt, h), tt) }
op_well n op (bytes.Near at) h = record { all = search (rules, h) }
op_well n op (bytes.Data s at) h = record { all = ((tt, h), tt) }
op_well n op (bytes.Zero at) h = record { all = ((tt, h), tt) }

-- ---- stores through a pointer

abbrev pub WellStored : ℕ → Stored → Type 0
WellStored n (stores.Single low) = WellByte n low
WellStored n (stores.Word low high) = WellByte n low × WellByte n high
WellStored n (stores.Fixed low high) = WellByte n low × WellByte n high

pub read_bytes_well : (n at : ℕ) (stored : Stored) → at < 2 ^ 8 → WellStored n stored → AllWell n (read_bytes_code at stored)
read_bytes_well n at (stores.Single low) few h = well_append n (op_of Lda low) _ (op_well n Lda low h) (record { all = search (rules, few) })
read_bytes_well n at (stores.Word low high) few h =
    well_append n (op_of Lda low) _ (op_well n Lda low h.0) (well_more n _ _ (tt, tt) (well_append n (op_of Lda high) _ (op_well n Lda high h.1) (record { all = search rules })))
read_bytes_well n at (stores.Fixed low high) few h =
    let first : AllWell n (value Ldy (byte_more at 1) ∷ by_y Sta ptr1 ∷ implied Tax ∷ []) = record { all = search rules } in
    let last : AllWell n (value Ldy at ∷ by_y Sta ptr1 ∷ []) = record { all = search (rules, few) } in
    well_append n (op_of Lda high) _ (op_well n Lda high h.1) (well_append n (value Ldy (byte_more at 1) ∷ by_y Sta ptr1 ∷ implied Tax ∷ []) _ first (well_append n (op_of Lda low) _ (op_well n Lda low h.0) last))

point_well : (n : ℕ) (low high : OperandByte) → WellByte n low → WellByte n high → AllWell n (point_code low high)
point_well n low high h k =
    let first : AllWell n (zero_page Sta ptr1 ∷ []) = record { all = search rules } in
    let second : AllWell n (zero_page Sta (ptr1 + 1) ∷ []) = record { all = search rules } in
    well_append n (op_of Lda low) _ (op_well n Lda low h) (well_append n (zero_page Sta ptr1 ∷ []) _ first (well_append n (op_of Lda high) _ (op_well n Lda high k) second))

pub byte_through_well : (n at : ℕ) (low high : OperandByte) → at < 2 ^ 8 → WellByte n low → WellByte n high → AllWell n (byte_through_code at low high)
byte_through_well n at low high few h k =
    let last : AllWell n (implied Txa ∷ value Ldy at ∷ by_y Sta ptr1 ∷ []) = record { all = search (rules, few) } in
    well_more n _ _ (tt, tt) (well_append n (point_code low high) _ (point_well n low high h k) last)

pub word_through_well : (n at : ℕ) (low high : OperandByte) → WellByte n low → WellByte n high → AllWell n (word_through_code at low high)
word_through_well n at low high h k =
    let last : AllWell n (value Ldy (byte_more at 1) ∷ implied Txa ∷ by_y Sta ptr1 ∷ implied Dey ∷ implied Pla ∷ by_y Sta ptr1 ∷ []) = record { all = search rules } in
    well_more n _ _ (tt, tt) (well_append n (point_code low high) _ (point_well n low high h k) last)

pub label_one : (n l : ℕ) → l < 2 ^ 32 → AllWell n (Label l ∷ [])
label_one n l low = record { all = (low, tt) }

pub labelled_well : (n l : ℕ) (lines : List Line) → l < 2 ^ 32 → AllWell n lines → AllWell n (labelled l lines)
labelled_well n l lines low h = well_append n lines _ h (label_one n l low)

-- ---- operators on words

pub carry_well : (n : ℕ) (op : BinaryOp) → AllWell n (carry_code op)
carry_well n ops.Add = record { all = ((tt, tt), tt) }
carry_well n ops.Sub = record { all = ((tt, tt), tt) }
carry_well n _ = well_none n

pub first_byte_well : (n : ℕ) (op : BinaryOp) (low : OperandByte) → WellByte n low → AllWell n (first_byte_code op low)
first_byte_well n op low h = well_append n (carry_code op) _ (carry_well n op) (op_well n (instruction op) low h)

both_bytes_well : (n : ℕ) (op : BinaryOp) (low high : OperandByte) → WellByte n low → WellByte n high → AllWell n (both_bytes_code op low high)
both_bytes_well n op low high h k =
    let last : AllWell n (implied Tax ∷ back high ∷ []) = record { all = ((tt, tt), ((tt, tt), tt)) } in
    well_append n (first_byte_code op low) _ (first_byte_well n op low h) (well_more n _ _ (tt, tt) (well_more n _ _ (tt, tt) (well_append n (op_of (instruction op) high) _ (op_well n (instruction op) high k) last)))

onward_well : (n : ℕ) (op : BinaryOp) (l : ℕ) → l < 2 ^ 32 → AllWell n (onward_code op l)
onward_well n ops.Add l low = record { all = search (rules, low) }
onward_well n ops.Sub l low = record { all = search (rules, low) }
onward_well n ops.BitAnd l low = record { all = search rules }
onward_well n _ l low = well_none n

end_well : (n : ℕ) (op : BinaryOp) (l : ℕ) → l < 2 ^ 32 → AllWell n (end_label op l)
end_well n ops.Add l low = label_one n l low
end_well n ops.Sub l low = label_one n l low
end_well n _ l low = well_none n

pub word_well : (n : ℕ) (op : BinaryOp) (low high : OperandByte) (l : ℕ) → WellByte n low → WellByte n high → l < 2 ^ 32 → AllWell n (word_code op low high l)
word_well n op low high l h k room =
    well_if n (is_number 0 high) _ _ (well_append n (first_byte_code op low) _ (first_byte_well n op low h) (onward_well n op l room))
    (well_if n (is_and op && is_number 255 high) _ _ (first_byte_well n op low h) (well_append n (both_bytes_code op low high) _ (both_bytes_well n op low high h k) (end_well n op l room)))

pub pointer_code_well : (n : ℕ) → AllWell n pointer_code
pointer_code_well n = record { all = search rules }

pub pointed_sum_well : (n : ℕ) (low high : OperandByte) → WellByte n low → WellByte n high → AllWell n (pointed_sum_code low high)
pointed_sum_well n low high h k =
    let last : AllWell n (zero_page Sta (ptr1 + 1) ∷ []) = record { all = search rules } in
    well_append n (first_byte_code ops.Add low) _ (first_byte_well n ops.Add low h) (well_more n _ _ (tt, omega arith) (well_more n _ _ (tt, tt) (well_append n (op_of Adc high) _ (op_well n Adc high k) last)))

and_right : (a b : Bool) → true ≡ (a && b) → b ≡ true
and_right true true is = refl
and_right a b is = absurd cc

above_zero : (m : ℕ) → nat_lt 0 (first m) ≡ true → 256 - first m < 2 ^ 8
above_zero m is = omega (arith, ltb-true 0 (first m) is)

-- what is left of a byte that is above 0
taken_when : (n m l : ℕ) (b : Bool) (other : List Line) → b ≡ (second m == 255 && nat_lt 0 (first m)) → l < 2 ^ 32 → AllWell n other → AllWell n (if b then word_code ops.Sub (bytes.Number (256 - first m)) (bytes.Number 0) l else other)
taken_when n m l true other is room h = word_well n ops.Sub (bytes.Number (256 - first m)) (bytes.Number 0) l (above_zero m (and_right (second m == 255) (nat_lt 0 (first m)) is)) (omega arith) room
taken_when n m l false other is room h = h

pub add_number_well : (n m l : ℕ) → l < 2 ^ 32 → AllWell n (add_number_code m l)
add_number_well n m l room = well_if n (m % 65536 == 0) (Label l ∷ []) _ (label_one n l room) (taken_when n m l (second m == 255 && nat_lt 0 (first m)) _ refl room (word_well n ops.Add (bytes.Number (first m)) (bytes.Number (second m)) l (omega arith) (omega arith) room))

pub taken_from_well : (n : ℕ) (low high : OperandByte) → WellByte n low → WellByte n high → AllWell n (taken_from_code low high)
taken_from_well n low high h k =
    let last : AllWell n (zero_page Sbc tmp2 ∷ implied Tax ∷ back high ∷ []) = record { all = search rules } in
    let second_byte : AllWell n (op_of Lda high ++ (zero_page Sbc tmp2 ∷ implied Tax ∷ back high ∷ [])) = well_append n (op_of Lda high) _ (op_well n Lda high k) last in
    let first_byte : AllWell n (op_of Lda low ++ (implied Sec ∷ zero_page Sbc tmp1 ∷ aside high ∷ (op_of Lda high ++ (zero_page Sbc tmp2 ∷ implied Tax ∷ back high ∷ [])))) = well_append n (op_of Lda low) _ (op_well n Lda low h) (well_more n _ _ (tt, tt) (well_more n _ _ (tt, omega arith) (well_more n _ _ (tt, tt) second_byte))) in
    well_more n _ _ (tt, omega arith) (well_more n _ _ (tt, omega arith) first_byte)

pub long_mask_well : (n : ℕ) (op : BinaryOp) (m : ℕ) → AllWell n (long_mask_code op m)
long_mask_well n op m = record { all = search rules }

pub add_long_well : (n m : ℕ) → AllWell n (add_long_code m)
add_long_well n m = record { all = search rules }

-- ---- comparisons

abbrev pub WellSides : ℕ → Sides → Type 0
WellSides n (Word low high) = WellByte n low × WellByte n high
WellSides n (Long d0 d1 d2 d3) = WellByte n d0 × (WellByte n d1 × (WellByte n d2 × WellByte n d3))

lowest_well : (n : ℕ) (r : Relation) (low : OperandByte) → WellByte n low → AllWell n (lowest_code r low)
lowest_well n relations.Greater low h = well_more n _ _ (tt, tt) (op_well n Sbc low h)
lowest_well n relations.NotGreater low h = well_more n _ _ (tt, tt) (op_well n Sbc low h)
lowest_well n _ low h = op_well n Cmp low h

difference_well : (n : ℕ) (r : Relation) (s : Sides) → WellSides n s → AllWell n (difference_code r s)
difference_well n r (Word low high) h = well_append n (lowest_code r low) _ (lowest_well n r low h.0) (well_more n _ _ (tt, tt) (op_well n Sbc high h.1))
difference_well n r (Long d0 d1 d2 d3) h =
    let last : AllWell n (zero_page Lda (sreg + 1) ∷ op_of Sbc d3) = well_more n _ _ (tt, omega arith) (op_well n Sbc d3 h.1.1.1) in
    let third_byte : AllWell n (zero_page Lda sreg ∷ (op_of Sbc d2 ++ (zero_page Lda (sreg + 1) ∷ op_of Sbc d3))) = well_more n _ _ (tt, omega arith) (well_append n (op_of Sbc d2) _ (op_well n Sbc d2 h.1.1.0) last) in
    well_append n (lowest_code r d0) _ (lowest_well n r d0 h.0) (well_more n _ _ (tt, tt) (well_append n (op_of Sbc d1) _ (op_well n Sbc d1 h.1.0) third_byte))

turned_well : (n : ℕ) (byte : OperandByte) → WellByte n byte → WellByte n (turned byte)
turned_well n (bytes.Number v) h = xor_of_8 v 128 h (omega arith)
turned_well n _ h = h

turned_code_well : (n : ℕ) (byte : OperandByte) → WellByte n byte → AllWell n (turned_code byte)
turned_code_well n byte h = well_more n _ _ (tt, omega arith) (op_well n Sbc (turned byte) (turned_well n byte h))

turned_difference_well : (n : ℕ) (r : Relation) (s : Sides) → WellSides n s → AllWell n (turned_difference_code r s)
turned_difference_well n r (Word low high) h = well_append n (lowest_code r low) _ (lowest_well n r low h.0) (well_more n _ _ (tt, tt) (turned_code_well n high h.1))
turned_difference_well n r (Long d0 d1 d2 d3) h =
    let last : AllWell n (zero_page Lda (sreg + 1) ∷ turned_code d3) = well_more n _ _ (tt, omega arith) (turned_code_well n d3 h.1.1.1) in
    let upper : AllWell n (turned_upper_code d2 d3) = well_more n _ _ (tt, omega arith) (well_append n (op_of Sbc d2) _ (op_well n Sbc d2 h.1.1.0) last) in
    well_append n (lowest_code r d0) _ (lowest_well n r d0 h.0) (well_more n _ _ (tt, tt) (well_append n (op_of Sbc d1) _ (op_well n Sbc d1 h.1.0) upper))

order_well : (n : ℕ) (r : Relation) (signed : Bool) (l to : ℕ) → l < 2 ^ 32 → to < 2 ^ 32 → AllWell n (order_code r signed l to)
order_well n r signed l to room low = well_if n signed _ _ (record { all = ((tt, room), ((tt, omega arith), (room, ((tt, low), tt)))) }) (record { all = (room, ((tt, low), tt)) })

second_well : (n : ℕ) (byte : OperandByte) → WellByte n byte → AllWell n (second_code byte)
second_well n byte h = well_if n (takes_y byte) _ _ (well_more n _ _ (tt, tt) (op_well n Cmp byte h)) (op_well n Cpx byte h)

same_well : (n : ℕ) (s : Sides) (to : ℕ) → WellSides n s → to < 2 ^ 32 → AllWell n (same_code s to)
same_well n (Word low high) to h room = well_append n (op_of Cmp low) _ (op_well n Cmp low h.0) (well_more n _ _ (tt, room) (second_well n high h.1))
same_well n (Long d0 d1 d2 d3) to h room =
    let last : AllWell n (branch Bne to ∷ zero_page Lda (sreg + 1) ∷ op_of Cmp d3) = well_more n _ _ (tt, room) (well_more n _ _ (tt, omega arith) (op_well n Cmp d3 h.1.1.1)) in
    let third_byte : AllWell n (branch Bne to ∷ zero_page Lda sreg ∷ (op_of Cmp d2 ++ (branch Bne to ∷ zero_page Lda (sreg + 1) ∷ op_of Cmp d3))) = well_more n _ _ (tt, room) (well_more n _ _ (tt, omega arith) (well_append n (op_of Cmp d2) _ (op_well n Cmp d2 h.1.1.0) last)) in
    well_append n (op_of Cmp d0) _ (op_well n Cmp d0 h.0) (well_more n _ _ (tt, room) (well_append n (second_code d1) _ (second_well n d1 h.1.0) third_byte))

-- where the bytes are the same, or are not
end_same : (n : ℕ) (op : Op) (l to : ℕ) → l < 2 ^ 32 → to < 2 ^ 32 → AllWell n (branch op to ∷ Label l ∷ [])
end_same n op l to room low = record { all = ((tt, low), (room, tt)) }

highest_well : (n : ℕ) (s : Sides) → AllWell n (highest_code s)
highest_well n (Word low high) = record { all = search rules }
highest_well n (Long d0 d1 d2 d3) = record { all = search rules }

ordered_well : (n : ℕ) (r : Relation) (signed : Bool) (s : Sides) (l to : ℕ) → WellSides n s → l < 2 ^ 32 → to < 2 ^ 32 → AllWell n (ordered_code r signed s l to)
ordered_well n r signed s l to h room low =
    well_if n (is_sign_test r signed s) (highest_code s ++ (Label l ∷ branch (by_sign r) to ∷ [])) _ (well_append n (highest_code s) _ (highest_well n s) (record { all = (room, ((tt, low), tt)) }))
    (well_if n (is_turned signed s) (turned_difference_code r s ++ order_code r false l to) _ (well_append n (turned_difference_code r s) _ (turned_difference_well n r s h) (order_well n r false l to room low))
    (well_append n (difference_code r s) _ (difference_well n r s h) (order_well n r signed l to room low)))

pub compare_well : (n : ℕ) (r : Relation) (signed : Bool) (s : Sides) (l to : ℕ) → WellSides n s → l < 2 ^ 32 → to < 2 ^ 32 → AllWell n (compare_code r signed s l to)
compare_well n relations.Equal signed s l to h room low = well_append n (same_code s l) _ (same_well n s l h room) (end_same n _ l to room low)
compare_well n relations.Unequal signed s l to h room low = well_append n (same_code s to) _ (same_well n s to h low) (end_same n _ l to room low)
compare_well n r signed s l to h room low = ordered_well n r signed s l to h room low

byte_end : (n : ℕ) (op : Op) (to : ℕ) → to < 2 ^ 32 → AllWell n (branch op to ∷ [])
byte_end n op to low = record { all = ((tt, low), tt) }

pub compare_byte_well : (n : ℕ) (r : Relation) (byte : OperandByte) (to : ℕ) → WellByte n byte → to < 2 ^ 32 → AllWell n (compare_byte_code r byte to)
compare_byte_well n relations.Equal byte to h low = well_append n (op_of Cmp byte) _ (op_well n Cmp byte h) (byte_end n _ to low)
compare_byte_well n relations.Unequal byte to h low = well_append n (op_of Cmp byte) _ (op_well n Cmp byte h) (byte_end n _ to low)
compare_byte_well n r byte to h low = well_append n (lowest_code r byte) _ (lowest_well n r byte h) (byte_end n _ to low)

-- ---- tests and truth values

abbrev pub AreBytes : ℕ → List OperandByte → Type 0
AreBytes n [] = Unit {0}
AreBytes n (d ∷ ds) = WellByte n d × AreBytes n ds

or_well : (n : ℕ) (ds : List OperandByte) → AreBytes n ds → AllWell n (or_code ds)
or_well n [] h = well_none n
or_well n (d ∷ ds) h = well_append n (op_of Ora d) _ (op_well n Ora d h.0) (or_well n ds h.1)

all_zero_well : (n : ℕ) (ds : List OperandByte) → AreBytes n ds → AllWell n (all_zero_code ds)
all_zero_well n [] h = record { all = ((tt, omega arith), tt) }
all_zero_well n (d ∷ ds) h = well_append n (op_of Lda d) _ (op_well n Lda d h.0) (or_well n ds h.1)

pub zero_test_well : (n : ℕ) (ds : List OperandByte) (s : Bool) (to : ℕ) → AreBytes n ds → to < 2 ^ 32 → AllWell n (zero_test_code ds s to)
zero_test_well n ds s to h low = well_append n (all_zero_code ds) _ (all_zero_well n ds h) (byte_end n _ to low)

pub truth_well : (n l : ℕ) → l + 1 < 2 ^ 32 → AllWell n (truth_code l)
truth_well n l room =
    let first_low : l < 2 ^ 32 = omega (arith, room) in
    record { all = search (rules, room, first_low) }

-- ---- shifts by constants

repeated_well : (n m : ℕ) (line : Line) → Well n line → AllWell n (replicate m line)
repeated_well n zero line h = well_none n
repeated_well n (suc m) line h = well_more n line _ h (repeated_well n m line h)

calls_well : (n : ℕ) (op : TosOp) (w : Width) (m : ℕ) → AllWell n (calls_code op w m)
calls_well n op w m = repeated_well n m _ tt

tmp_low : tmp1 < 2 ^ 8
tmp_low = omega arith

turns_well : (n m l : ℕ) (turn : List Line) → m < 2 ^ 8 → l < 2 ^ 32 → AllWell n turn → AllWell n (turns_code turn m l)
turns_well n m l turn few room h =
    let last : AllWell n (implied Dey ∷ branch Bne l ∷ zero_page Ldx tmp1 ∷ []) = record { all = search (rules, room) } in
    well_more n _ _ (tt, tmp_low) (well_more n _ _ (tt, few) (well_more n _ _ room (well_append n turn _ h last)))

left_byte_well : (n m : ℕ) → AllWell n (left_byte_code m)
left_byte_well n m = well_append n _ _ (shifts_well n m Asl) (record { all = search rules })

right_byte_well : (n m : ℕ) → AllWell n (right_byte_code m)
right_byte_well n m = well_more n _ _ (tt, tt) (well_append n _ _ (shifts_well n m Lsr) (record { all = search rules }))

-- a number of turns is below 8
turned_when : (n m l : ℕ) (turn other : List Line) (b : Bool) → nat_lt m 8 ≡ b → l < 2 ^ 32 → AllWell n turn → AllWell n other → AllWell n (if b then turns_code turn m l else other)
turned_when n m l turn other true is room h k = turns_well n m l turn (omega (arith, ltb-true m 8 is)) room h
turned_when n m l turn other false is room h k = k

left_word_well : (n m l : ℕ) → l < 2 ^ 32 → AllWell n (left_word_code m l)
left_word_well n m l room = well_if n (nat_lt m 4) _ _ (labelled_well n l _ room (calls_well n tos.Shl Ax m)) (turned_when n m l left_turn _ (nat_lt m 8) refl room (record { all = search rules }) (labelled_well n l _ room (left_byte_well n (m - 8))))

right_word_well : (n m l : ℕ) → l < 2 ^ 32 → AllWell n (right_word_code m l)
right_word_well n m l room = well_if n (nat_lt m 4) _ _ (labelled_well n l _ room (calls_well n tos.Shr Ax m)) (turned_when n m l right_turn _ (nat_lt m 8) refl room (record { all = search rules }) (labelled_well n l _ room (right_byte_well n (m - 8))))

left_long_well : (n m : ℕ) → AllWell n (left_long_code m)
left_long_well n m =
    let one : AllWell n left_one_code = record { all = search rules } in
    let two : AllWell n left_two_code = record { all = search rules } in
    let three : AllWell n (left_three_code (m - 24)) = well_append n _ _ (shifts_well n (m - 24) Asl) (record { all = search rules }) in
    well_if n (nat_lt m 8) _ _ (calls_well n tos.Shl Eax m) (well_if n (nat_lt m 16) _ _ (well_append n left_one_code _ one (calls_well n tos.Shl Eax (m - 8))) (well_if n (nat_lt m 24) _ _ (well_append n left_two_code _ two (calls_well n tos.Shl Eax (m - 16))) three))

right_long_well : (n m : ℕ) → AllWell n (right_long_code m)
right_long_well n m =
    let one : AllWell n right_one_code = record { all = search rules } in
    let two : AllWell n right_two_code = record { all = search rules } in
    let head : AllWell n (zero_page Lda (sreg + 1) ∷ value Ldx 0 ∷ zero_page Stx sreg ∷ zero_page Stx (sreg + 1) ∷ []) = record { all = search rules } in
    let three : AllWell n (right_three_code (m - 24)) = well_append n _ _ head (shifts_well n (m - 24) Lsr) in
    well_if n (nat_lt m 8) _ _ (calls_well n tos.Shr Eax m) (well_if n (nat_lt m 16) _ _ (well_append n right_one_code _ one (calls_well n tos.Shr Eax (m - 8))) (well_if n (nat_lt m 24) _ _ (well_append n right_two_code _ two (calls_well n tos.Shr Eax (m - 16))) three))

shift_well : (n : ℕ) (op : TosOp) (w : Width) (m l : ℕ) → l < 2 ^ 32 → AllWell n (shift_code op w m l)
shift_well n tos.Shl Ax m l room = left_word_well n m l room
shift_well n tos.Shl Eax m l room = labelled_well n l _ room (left_long_well n m)
shift_well n tos.Shr Ax m l room = right_word_well n m l room
shift_well n tos.Shr Eax m l room = labelled_well n l _ room (right_long_well n m)
shift_well n op w m l room = labelled_well n l _ room (calls_well n op w m)

mask_word_well : (n m : ℕ) → AllWell n (mask_word_code m)
mask_word_well n m = well_if n (second m == 0) _ (mask_code m) (record { all = search rules }) (mask_well n m)

mask_long_well : (n m : ℕ) → AllWell n (mask_long_code m)
mask_long_well n m =
    let zeros : AllWell n (value Ldy 0 ∷ zero_page Sty sreg ∷ zero_page Sty (sreg + 1) ∷ []) = record { all = search rules } in
    well_if n (nat_lt m 65536) _ _ (well_append n (mask_word_code m) _ (mask_word_well n m) zeros) (record { all = search rules })

mask_width_well : (n : ℕ) (w : Width) (m : ℕ) → AllWell n (mask_by_width w m)
mask_width_well n Ax m = mask_word_well n m
mask_width_well n Eax m = mask_long_well n m

quick_lines_well : (n : ℕ) (w : Width) (q : Quick) (l : ℕ) → l < 2 ^ 32 → AllWell n (quick_lines w q l)
quick_lines_well n w (Shift op m) l room = shift_well n op w m l room
quick_lines_well n w (Mask m) l room = labelled_well n l _ room (mask_width_well n w m)

pub quick_well : (n : ℕ) (kind : IntType) (q : Quick) (l : ℕ) → l < 2 ^ 32 → AllWell n (quick_code kind q l)
quick_well n kind q l room = well_append n (quick_lines (width_of kind) q l) _ (quick_lines_well n (width_of kind) q l room) (narrow_well n kind)

left_turns_well : (n m : ℕ) → AllWell n (left_turns m)
left_turns_well n zero = well_none n
left_turns_well n (suc m) = well_append n left_turn _ (record { all = search rules }) (left_turns_well n m)

left_bits_well : (n m : ℕ) → AllWell n (left_bits_code m)
left_bits_well n m = well_more n _ _ (tt, tmp_low) (well_append n (left_turns m) _ (left_turns_well n m) (record { all = search rules }))

elements_by_well : (n size : ℕ) (k : Option ℕ) → AllWell n (elements_by size k)
elements_by_well n size (Some k) =
    well_if n (nat_lt k 4) _ _ (calls_well n tos.Shl Ax k) (well_if n (nat_lt k 8) _ _ (left_bits_well n k) (well_if n (nat_lt k 16) _ _ (left_byte_well n (k - 8)) (scale_well n size)))
elements_by_well n size None = scale_well n size

pub elements_well : (n size : ℕ) → AllWell n (elements_code size)
elements_well n size = elements_by_well n size (power_of size)
