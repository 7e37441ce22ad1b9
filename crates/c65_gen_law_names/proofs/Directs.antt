-- The symbols of the pieces of which the lines of operands that are read where they lie, of shifts by constants and of tests are made.
use Rattle.std.proofs.Common.{ℕ, zero, suc, ◌+◌, ◌-◌, ◌%◌, ◌==◌, Bool, true, false, Option, None, Some, List, [], ◌∷◌, ◌++◌}
use Rattle.std.specs.Prelude.{if◌then◌else◌, nat_lt, ◌&&◌, replicate}
use Rattle.c65_base.specs.declared.operators.BinaryOp.{BinaryOp}
use Rattle.c65_base.specs.declared.operators.BinaryOp.TheVariants as ops
use Rattle.c65_ints.specs.declared.types.IntType.{IntType}
use Rattle.c65_ints.specs.Ranges.{is_signed_of}
use Rattle.c65_mach.specs.declared.rows.Op.{Op}
use Rattle.c65_code.specs.declared.line.Line.{Line}
use Rattle.c65_code.specs.declared.line.Line.TheVariants.{Label}
use Rattle.c65_code.specs.declared.routine.TosOp.{TosOp}
use Rattle.c65_code.specs.declared.routine.TosOp.TheVariants as tos
use Rattle.c65_code.specs.declared.routine.Width.{Width}
use Rattle.c65_code.specs.declared.routine.Width.TheVariants.{Ax, Eax}
use Rattle.c65_genwide.specs.Wide.{width_of}
use Rattle.c65_genload.specs.declared.places.Place.{Place}
use Rattle.c65_genload.specs.declared.places.Place.TheVariants as places
use Rattle.c65_genload.specs.Numbers.{first, second, add_long_code}
use Rattle.c65_genload.specs.Conversions.{size_of}
use Rattle.c65_gendirect.specs.declared.bytes.OperandByte.{OperandByte}
use Rattle.c65_gendirect.specs.declared.bytes.OperandByte.TheVariants as bytes
use Rattle.c65_gendirect.specs.declared.direct.Direct.{Direct}
use Rattle.c65_gendirect.specs.declared.direct.Direct.TheVariants as directs
use Rattle.c65_gendirect.specs.declared.compare.Sides.{Sides}
use Rattle.c65_gendirect.specs.declared.compare.Sides.TheVariants.{Word, Long}
use Rattle.c65_gendirect.specs.declared.relation.Relation.{Relation}
use Rattle.c65_gendirect.specs.declared.through.Stored.{Stored}
use Rattle.c65_gendirect.specs.declared.through.Stored.TheVariants as stores
use Rattle.c65_gendirect.specs.Pointed.{pointer_code, pointed_sum_code}
use Rattle.c65_gendirect.specs.Through.{read_bytes_code, point_code, byte_through_code, word_through_code}
use Rattle.c65_gendirect.specs.declared.relation.Relation.TheVariants as relations
use Rattle.c65_gendirect.specs.Bytes.{op_of, takes_y, aside, back, place_byte, byte_above, byte_of, converted}
use Rattle.c65_gendirect.specs.Words.{instruction, carry_code, first_byte_code, both_bytes_code, onward_code, end_label, is_and, is_number, word_code, add_number_code, taken_from_code, long_mask_code}
use Rattle.c65_gendirect.specs.Compare.{lowest_code, difference_code, is_turned, turned, turned_code, turned_upper_code, turned_difference_code, order_code, second_code, same_code, is_sign_test, highest_code, ordered_code, compare_code, compare_byte_code}
use Rattle.c65_gendirect.specs.Tests.{or_code, all_zero_code, zero_test_code, truth_code}
use Rattle.c65_genshift.specs.declared.quick.Quick.{Quick}
use Rattle.c65_genshift.specs.declared.quick.Quick.TheVariants.{Shift, Mask}
use Rattle.c65_genshift.specs.Shifts.{calls_code, turns_code, left_turn, left_turns, left_bits_code, right_turn, left_byte_code, right_byte_code, left_one_code, left_two_code, left_three_code, right_one_code, right_two_code, right_three_code, labelled, left_word_code, right_word_code, left_long_code, right_long_code, shift_code}
use Rattle.c65_genshift.specs.Quick.{power_of, mask_word_code, mask_long_code, mask_by_width, quick_lines, quick_code, elements_by, elements_code}
use Rattle.c65_mach.specs.declared.rows.Op.TheVariants.{Adc, Asl, Bne, Cmp, Cpx, Dey, Lda, Ldx, Ldy, Lsr, Ora, Pla, Sbc, Sec, Sta, Stx, Sty, Tax, Txa}
use Rattle.c65_genwide.specs.Lines.{value}
use Rattle.c65_genload.specs.Words.{sreg, ptr1, tmp1, tmp2, implied, zero_page, by_y, branch}
use Rattle.c65_genload.specs.Places.{byte_more}
use Rattle.c65_gen_law_names.proofs.Known.{AllKnown, KnownLine, known_if, known_more, known_none, known_then}
use Rattle.c65_gen_law_names.proofs.Loads.{KnownPlace, mask_known, narrow_known, scale_known, shifts_known}

-- ---- bytes that are read where they lie

abbrev pub KnownByte : (ℕ → Type 0) → OperandByte → Type 0
KnownByte P (bytes.Number v) = Unit {0}
KnownByte P (bytes.Low s at) = P s.0
KnownByte P (bytes.High s at) = P s.0
KnownByte P (bytes.Near at) = Unit {0}
KnownByte P (bytes.Data s at) = P s.0
KnownByte P (bytes.Zero at) = Unit {0}

abbrev pub KnownMaybe : (ℕ → Type 0) → Option OperandByte → Type 0
KnownMaybe P None = Unit {0}
KnownMaybe P (Some byte) = KnownByte P byte

abbrev pub KnownDirect : (ℕ → Type 0) → Direct → Type 0
KnownDirect P (directs.Number m) = Unit {0}
KnownDirect P (directs.Address s at) = P s.0
KnownDirect P (directs.Kept place kind) = KnownPlace P place

abbrev pub KnownRead : (ℕ → Type 0) → Option Direct → Type 0
KnownRead P None = Unit {0}
KnownRead P (Some d) = KnownDirect P d

maybe_if : (P : ℕ → Type 0) (b : Bool) (x y : Option OperandByte) → KnownMaybe P x → KnownMaybe P y → KnownMaybe P (if b then x else y)
maybe_if P true x y p q = p
maybe_if P false x y p q = q

place_byte_known : (P : ℕ → Type 0) (p : Place) (i : ℕ) → KnownPlace P p → KnownMaybe P (place_byte p i)
place_byte_known P (places.Bank at) i h = tt
place_byte_known P (places.Near at) i h = tt
place_byte_known P (places.Data s at) i h = h
place_byte_known P (places.Far at) i h = tt

above_known : (P : ℕ → Type 0) (kind : IntType) → KnownMaybe P (byte_above kind)
above_known P kind = maybe_if P (is_signed_of kind) None (Some (bytes.Number 0)) tt tt

pub byte_known : (P : ℕ → Type 0) (d : Direct) (i : ℕ) → KnownDirect P d → KnownMaybe P (byte_of d i)
byte_known P (directs.Number m) i h = tt
byte_known P (directs.Address s at) i h = maybe_if P (i == 0) (Some (bytes.Low s at)) _ h (maybe_if P (i == 1) (Some (bytes.High s at)) None h tt)
byte_known P (directs.Kept p kind) i h = maybe_if P (nat_lt i (size_of kind)) (place_byte p i) (byte_above kind) (place_byte_known P p i h) (above_known P kind)

pub read_if : (P : ℕ → Type 0) (b : Bool) (x y : Option Direct) → KnownRead P x → KnownRead P y → KnownRead P (if b then x else y)
read_if P true x y p q = p
read_if P false x y p q = q

pub converted_known : (P : ℕ → Type 0) (to : IntType) (d : Direct) → KnownDirect P d → KnownRead P (converted to d)
converted_known P to (directs.Number m) h = tt
converted_known P to (directs.Address s at) h = read_if P (size_of to == 2) (Some (directs.Address s at)) None h tt
converted_known P to (directs.Kept p from) h = h

pub op_known : (P : ℕ → Type 0) (op : Op) (byte : OperandByte) → KnownByte P byte → AllKnown P (op_of op byte)
op_known P op (bytes.Number v) h = record { all = tt }
op_known P op (bytes.Low s at) h = record { all = (h, tt) }
op_known P op (bytes.High s at) h = record { all = (h, tt) }
op_known P op (bytes.Near at) h = record { all = tt }
op_known P op (bytes.Data s at) h = record { all = (h, tt) }
op_known P op (bytes.Zero at) h = record { all = tt }

-- ---- stores through a pointer

abbrev pub KnownStored : (ℕ → Type 0) → Stored → Type 0
KnownStored P (stores.Single low) = KnownByte P low
KnownStored P (stores.Word low high) = KnownByte P low × KnownByte P high
KnownStored P (stores.Fixed low high) = KnownByte P low × KnownByte P high

pub read_bytes_known : (P : ℕ → Type 0) (at : ℕ) (stored : Stored) → KnownStored P stored → AllKnown P (read_bytes_code at stored)
read_bytes_known P at (stores.Single low) h = known_then (op_known P Lda low h) (record { all = tt })
read_bytes_known P at (stores.Word low high) h =
    known_then (op_known P Lda low h.0) (known_more tt (known_then (op_known P Lda high h.1) (record { all = tt })))
read_bytes_known P at (stores.Fixed low high) h =
    let first : AllKnown P (value Ldy (byte_more at 1) ∷ by_y Sta ptr1 ∷ implied Tax ∷ []) = record { all = tt } in
    let last : AllKnown P (value Ldy at ∷ by_y Sta ptr1 ∷ []) = record { all = tt } in
    known_then (op_known P Lda high h.1) (known_then {a = value Ldy (byte_more at 1) ∷ by_y Sta ptr1 ∷ implied Tax ∷ []} first (known_then (op_known P Lda low h.0) last))

point_known : (P : ℕ → Type 0) (low high : OperandByte) → KnownByte P low → KnownByte P high → AllKnown P (point_code low high)
point_known P low high h k =
    let first : AllKnown P (zero_page Sta ptr1 ∷ []) = record { all = tt } in
    let second : AllKnown P (zero_page Sta (ptr1 + 1) ∷ []) = record { all = tt } in
    known_then (op_known P Lda low h) (known_then {a = zero_page Sta ptr1 ∷ []} first (known_then (op_known P Lda high k) second))

pub byte_through_known : (P : ℕ → Type 0) (at : ℕ) (low high : OperandByte) → KnownByte P low → KnownByte P high → AllKnown P (byte_through_code at low high)
byte_through_known P at low high h k =
    let last : AllKnown P (implied Txa ∷ value Ldy at ∷ by_y Sta ptr1 ∷ []) = record { all = tt } in
    known_more tt (known_then (point_known P low high h k) last)

pub word_through_known : (P : ℕ → Type 0) (at : ℕ) (low high : OperandByte) → KnownByte P low → KnownByte P high → AllKnown P (word_through_code at low high)
word_through_known P at low high h k =
    let last : AllKnown P (value Ldy (byte_more at 1) ∷ implied Txa ∷ by_y Sta ptr1 ∷ implied Dey ∷ implied Pla ∷ by_y Sta ptr1 ∷ []) = record { all = tt } in
    known_more tt (known_then (point_known P low high h k) last)

pub label_one : (P : ℕ → Type 0) (l : ℕ) → AllKnown P (Label l ∷ [])
label_one P l = record { all = tt }

pub labelled_known : (P : ℕ → Type 0) (l : ℕ) (lines : List Line) → AllKnown P lines → AllKnown P (labelled l lines)
labelled_known P l lines h = known_then h (label_one P l)

-- ---- operators on words

pub carry_known : (P : ℕ → Type 0) (op : BinaryOp) → AllKnown P (carry_code op)
carry_known P ops.Add = record { all = tt }
carry_known P ops.Sub = record { all = tt }
carry_known P _ = known_none

pub first_byte_known : (P : ℕ → Type 0) (op : BinaryOp) (low : OperandByte) → KnownByte P low → AllKnown P (first_byte_code op low)
first_byte_known P op low h = known_then (carry_known P op) (op_known P (instruction op) low h)

both_bytes_known : (P : ℕ → Type 0) (op : BinaryOp) (low high : OperandByte) → KnownByte P low → KnownByte P high → AllKnown P (both_bytes_code op low high)
both_bytes_known P op low high h k =
    let last : AllKnown P (implied Tax ∷ back high ∷ []) = record { all = tt } in
    known_then (first_byte_known P op low h) (known_more tt (known_more tt (known_then (op_known P (instruction op) high k) last)))

onward_known : (P : ℕ → Type 0) (op : BinaryOp) (l : ℕ) → AllKnown P (onward_code op l)
onward_known P ops.Add l = record { all = tt }
onward_known P ops.Sub l = record { all = tt }
onward_known P ops.BitAnd l = record { all = tt }
onward_known P _ l = known_none

end_known : (P : ℕ → Type 0) (op : BinaryOp) (l : ℕ) → AllKnown P (end_label op l)
end_known P ops.Add l = label_one P l
end_known P ops.Sub l = label_one P l
end_known P _ l = known_none

pub word_known : (P : ℕ → Type 0) (op : BinaryOp) (low high : OperandByte) (l : ℕ) → KnownByte P low → KnownByte P high → AllKnown P (word_code op low high l)
word_known P op low high l h k =
    known_if (is_number 0 high) (known_then (first_byte_known P op low h) (onward_known P op l))
    (known_if (is_and op && is_number 255 high) (first_byte_known P op low h) (known_then (both_bytes_known P op low high h k) (end_known P op l)))

pub pointer_code_known : (P : ℕ → Type 0) → AllKnown P pointer_code
pointer_code_known P = record { all = tt }

pub pointed_sum_known : (P : ℕ → Type 0) (low high : OperandByte) → KnownByte P low → KnownByte P high → AllKnown P (pointed_sum_code low high)
pointed_sum_known P low high h k =
    let last : AllKnown P (zero_page Sta (ptr1 + 1) ∷ []) = record { all = tt } in
    known_then (first_byte_known P ops.Add low h) (known_more tt (known_more tt (known_then (op_known P Adc high k) last)))

pub add_number_known : (P : ℕ → Type 0) (m l : ℕ) → AllKnown P (add_number_code m l)
add_number_known P m l =
    known_if (m % 65536 == 0) (label_one P l) (known_if (second m == 255 && nat_lt 0 (first m)) (word_known P ops.Sub (bytes.Number (256 - first m)) (bytes.Number 0) l tt tt) (word_known P ops.Add (bytes.Number (first m)) (bytes.Number (second m)) l tt tt))

pub taken_from_known : (P : ℕ → Type 0) (low high : OperandByte) → KnownByte P low → KnownByte P high → AllKnown P (taken_from_code low high)
taken_from_known P low high h k =
    let last : AllKnown P (zero_page Sbc tmp2 ∷ implied Tax ∷ back high ∷ []) = record { all = tt } in
    let second_byte : AllKnown P (op_of Lda high ++ (zero_page Sbc tmp2 ∷ implied Tax ∷ back high ∷ [])) = known_then (op_known P Lda high k) last in
    let first_byte : AllKnown P (op_of Lda low ++ (implied Sec ∷ zero_page Sbc tmp1 ∷ aside high ∷ (op_of Lda high ++ (zero_page Sbc tmp2 ∷ implied Tax ∷ back high ∷ [])))) = known_then (op_known P Lda low h) (known_more tt (known_more tt (known_more tt second_byte))) in
    known_more tt (known_more tt first_byte)

pub long_mask_known : (P : ℕ → Type 0) (op : BinaryOp) (m : ℕ) → AllKnown P (long_mask_code op m)
long_mask_known P op m = record { all = tt }

pub add_long_known : (P : ℕ → Type 0) (m : ℕ) → AllKnown P (add_long_code m)
add_long_known P m = record { all = tt }

-- ---- comparisons

abbrev pub KnownSides : (ℕ → Type 0) → Sides → Type 0
KnownSides P (Word low high) = KnownByte P low × KnownByte P high
KnownSides P (Long d0 d1 d2 d3) = KnownByte P d0 × (KnownByte P d1 × (KnownByte P d2 × KnownByte P d3))

lowest_known : (P : ℕ → Type 0) (r : Relation) (low : OperandByte) → KnownByte P low → AllKnown P (lowest_code r low)
lowest_known P relations.Greater low h = known_more tt (op_known P Sbc low h)
lowest_known P relations.NotGreater low h = known_more tt (op_known P Sbc low h)
lowest_known P _ low h = op_known P Cmp low h

difference_known : (P : ℕ → Type 0) (r : Relation) (s : Sides) → KnownSides P s → AllKnown P (difference_code r s)
difference_known P r (Word low high) h = known_then (lowest_known P r low h.0) (known_more tt (op_known P Sbc high h.1))
difference_known P r (Long d0 d1 d2 d3) h =
    let last : AllKnown P (zero_page Lda (sreg + 1) ∷ op_of Sbc d3) = known_more tt (op_known P Sbc d3 h.1.1.1) in
    let third_byte : AllKnown P (zero_page Lda sreg ∷ (op_of Sbc d2 ++ (zero_page Lda (sreg + 1) ∷ op_of Sbc d3))) = known_more tt (known_then (op_known P Sbc d2 h.1.1.0) last) in
    known_then (lowest_known P r d0 h.0) (known_more tt (known_then (op_known P Sbc d1 h.1.0) third_byte))

turned_byte_known : (P : ℕ → Type 0) (byte : OperandByte) → KnownByte P byte → KnownByte P (turned byte)
turned_byte_known P (bytes.Number v) h = tt
turned_byte_known P _ h = h

turned_code_known : (P : ℕ → Type 0) (byte : OperandByte) → KnownByte P byte → AllKnown P (turned_code byte)
turned_code_known P byte h = known_more tt (op_known P Sbc (turned byte) (turned_byte_known P byte h))

turned_difference_known : (P : ℕ → Type 0) (r : Relation) (s : Sides) → KnownSides P s → AllKnown P (turned_difference_code r s)
turned_difference_known P r (Word low high) h = known_then (lowest_known P r low h.0) (known_more tt (turned_code_known P high h.1))
turned_difference_known P r (Long d0 d1 d2 d3) h =
    let last : AllKnown P (zero_page Lda (sreg + 1) ∷ turned_code d3) = known_more tt (turned_code_known P d3 h.1.1.1) in
    let upper : AllKnown P (turned_upper_code d2 d3) = known_more tt (known_then (op_known P Sbc d2 h.1.1.0) last) in
    known_then (lowest_known P r d0 h.0) (known_more tt (known_then (op_known P Sbc d1 h.1.0) upper))

order_known : (P : ℕ → Type 0) (r : Relation) (signed : Bool) (l to : ℕ) → AllKnown P (order_code r signed l to)
order_known P r signed l to = known_if signed (record { all = tt }) (record { all = tt })

second_known : (P : ℕ → Type 0) (byte : OperandByte) → KnownByte P byte → AllKnown P (second_code byte)
second_known P byte h = known_if (takes_y byte) (known_more tt (op_known P Cmp byte h)) (op_known P Cpx byte h)

same_known : (P : ℕ → Type 0) (s : Sides) (to : ℕ) → KnownSides P s → AllKnown P (same_code s to)
same_known P (Word low high) to h = known_then (op_known P Cmp low h.0) (known_more tt (second_known P high h.1))
same_known P (Long d0 d1 d2 d3) to h =
    let last : AllKnown P (branch Bne to ∷ zero_page Lda (sreg + 1) ∷ op_of Cmp d3) = known_more tt (known_more tt (op_known P Cmp d3 h.1.1.1)) in
    let third_byte : AllKnown P (branch Bne to ∷ zero_page Lda sreg ∷ (op_of Cmp d2 ++ (branch Bne to ∷ zero_page Lda (sreg + 1) ∷ op_of Cmp d3))) = known_more tt (known_more tt (known_then (op_known P Cmp d2 h.1.1.0) last)) in
    known_then (op_known P Cmp d0 h.0) (known_more tt (known_then (second_known P d1 h.1.0) third_byte))

-- where the bytes are the same, or are not
end_same : (P : ℕ → Type 0) (op : Op) (l to : ℕ) → AllKnown P (branch op to ∷ Label l ∷ [])
end_same P op l to = record { all = tt }

highest_known : (P : ℕ → Type 0) (s : Sides) → AllKnown P (highest_code s)
highest_known P (Word low high) = record { all = tt }
highest_known P (Long d0 d1 d2 d3) = record { all = tt }

ordered_known : (P : ℕ → Type 0) (r : Relation) (signed : Bool) (s : Sides) (l to : ℕ) → KnownSides P s → AllKnown P (ordered_code r signed s l to)
ordered_known P r signed s l to h =
    known_if (is_sign_test r signed s) (known_then (highest_known P s) (record { all = tt }))
    (known_if (is_turned signed s) (known_then (turned_difference_known P r s h) (order_known P r false l to)) (known_then (difference_known P r s h) (order_known P r signed l to)))

pub compare_known : (P : ℕ → Type 0) (r : Relation) (signed : Bool) (s : Sides) (l to : ℕ) → KnownSides P s → AllKnown P (compare_code r signed s l to)
compare_known P relations.Equal signed s l to h = known_then (same_known P s l h) (end_same P _ l to)
compare_known P relations.Unequal signed s l to h = known_then (same_known P s to h) (end_same P _ l to)
compare_known P r signed s l to h = ordered_known P r signed s l to h

byte_end : (P : ℕ → Type 0) (op : Op) (to : ℕ) → AllKnown P (branch op to ∷ [])
byte_end P op to = record { all = tt }

pub compare_byte_known : (P : ℕ → Type 0) (r : Relation) (byte : OperandByte) (to : ℕ) → KnownByte P byte → AllKnown P (compare_byte_code r byte to)
compare_byte_known P relations.Equal byte to h = known_then (op_known P Cmp byte h) (byte_end P _ to)
compare_byte_known P relations.Unequal byte to h = known_then (op_known P Cmp byte h) (byte_end P _ to)
compare_byte_known P r byte to h = known_then (lowest_known P r byte h) (byte_end P _ to)

-- ---- tests and truth values

abbrev pub AreBytes : (ℕ → Type 0) → List OperandByte → Type 0
AreBytes P [] = Unit {0}
AreBytes P (d ∷ ds) = KnownByte P d × AreBytes P ds

or_known : (P : ℕ → Type 0) (ds : List OperandByte) → AreBytes P ds → AllKnown P (or_code ds)
or_known P [] h = known_none
or_known P (d ∷ ds) h = known_then (op_known P Ora d h.0) (or_known P ds h.1)

all_zero_known : (P : ℕ → Type 0) (ds : List OperandByte) → AreBytes P ds → AllKnown P (all_zero_code ds)
all_zero_known P [] h = record { all = tt }
all_zero_known P (d ∷ ds) h = known_then (op_known P Lda d h.0) (or_known P ds h.1)

pub zero_test_known : (P : ℕ → Type 0) (ds : List OperandByte) (s : Bool) (to : ℕ) → AreBytes P ds → AllKnown P (zero_test_code ds s to)
zero_test_known P ds s to h = known_then (all_zero_known P ds h) (byte_end P _ to)

pub truth_known : (P : ℕ → Type 0) (l : ℕ) → AllKnown P (truth_code l)
truth_known P l =
    record { all = tt }

-- ---- shifts by constants

repeated_known : (P : ℕ → Type 0) (m : ℕ) (line : Line) → KnownLine P line → AllKnown P (replicate m line)
repeated_known P zero line h = known_none
repeated_known P (suc m) line h = known_more h (repeated_known P m line h)

calls_known : (P : ℕ → Type 0) (op : TosOp) (w : Width) (m : ℕ) → AllKnown P (calls_code op w m)
calls_known P op w m = repeated_known P m _ tt

turns_known : (P : ℕ → Type 0) (m l : ℕ) (turn : List Line) → AllKnown P turn → AllKnown P (turns_code turn m l)
turns_known P m l turn h =
    let last : AllKnown P (implied Dey ∷ branch Bne l ∷ zero_page Ldx tmp1 ∷ []) = record { all = tt } in
    known_more tt (known_more tt (known_more tt (known_then h last)))

left_byte_known : (P : ℕ → Type 0) (m : ℕ) → AllKnown P (left_byte_code m)
left_byte_known P m = known_then (shifts_known P m Asl) (record { all = tt })

right_byte_known : (P : ℕ → Type 0) (m : ℕ) → AllKnown P (right_byte_code m)
right_byte_known P m = known_more tt (known_then (shifts_known P m Lsr) (record { all = tt }))

left_word_known : (P : ℕ → Type 0) (m l : ℕ) → AllKnown P (left_word_code m l)
left_word_known P m l = known_if (nat_lt m 4) (labelled_known P l _ (calls_known P tos.Shl Ax m)) (known_if (nat_lt m 8) (turns_known P m l left_turn (record { all = tt })) (labelled_known P l _ (left_byte_known P (m - 8))))

right_word_known : (P : ℕ → Type 0) (m l : ℕ) → AllKnown P (right_word_code m l)
right_word_known P m l = known_if (nat_lt m 4) (labelled_known P l _ (calls_known P tos.Shr Ax m)) (known_if (nat_lt m 8) (turns_known P m l right_turn (record { all = tt })) (labelled_known P l _ (right_byte_known P (m - 8))))

left_long_known : (P : ℕ → Type 0) (m : ℕ) → AllKnown P (left_long_code m)
left_long_known P m =
    let one : AllKnown P left_one_code = record { all = tt } in
    let two : AllKnown P left_two_code = record { all = tt } in
    let three : AllKnown P (left_three_code (m - 24)) = known_then (shifts_known P (m - 24) Asl) (record { all = tt }) in
    known_if (nat_lt m 8) (calls_known P tos.Shl Eax m) (known_if (nat_lt m 16) (known_then {a = left_one_code} one (calls_known P tos.Shl Eax (m - 8))) (known_if (nat_lt m 24) (known_then {a = left_two_code} two (calls_known P tos.Shl Eax (m - 16))) three))

right_long_known : (P : ℕ → Type 0) (m : ℕ) → AllKnown P (right_long_code m)
right_long_known P m =
    let one : AllKnown P right_one_code = record { all = tt } in
    let two : AllKnown P right_two_code = record { all = tt } in
    let head : AllKnown P (zero_page Lda (sreg + 1) ∷ value Ldx 0 ∷ zero_page Stx sreg ∷ zero_page Stx (sreg + 1) ∷ []) = record { all = tt } in
    let three : AllKnown P (right_three_code (m - 24)) = known_then head (shifts_known P (m - 24) Lsr) in
    known_if (nat_lt m 8) (calls_known P tos.Shr Eax m) (known_if (nat_lt m 16) (known_then {a = right_one_code} one (calls_known P tos.Shr Eax (m - 8))) (known_if (nat_lt m 24) (known_then {a = right_two_code} two (calls_known P tos.Shr Eax (m - 16))) three))

shift_known : (P : ℕ → Type 0) (op : TosOp) (w : Width) (m l : ℕ) → AllKnown P (shift_code op w m l)
shift_known P tos.Shl Ax m l = left_word_known P m l
shift_known P tos.Shl Eax m l = labelled_known P l _ (left_long_known P m)
shift_known P tos.Shr Ax m l = right_word_known P m l
shift_known P tos.Shr Eax m l = labelled_known P l _ (right_long_known P m)
shift_known P op w m l = labelled_known P l _ (calls_known P op w m)

mask_word_known : (P : ℕ → Type 0) (m : ℕ) → AllKnown P (mask_word_code m)
mask_word_known P m = known_if (second m == 0) (record { all = tt }) (mask_known P m)

mask_long_known : (P : ℕ → Type 0) (m : ℕ) → AllKnown P (mask_long_code m)
mask_long_known P m =
    let zeros : AllKnown P (value Ldy 0 ∷ zero_page Sty sreg ∷ zero_page Sty (sreg + 1) ∷ []) = record { all = tt } in
    known_if (nat_lt m 65536) (known_then (mask_word_known P m) zeros) (record { all = tt })

mask_width_known : (P : ℕ → Type 0) (w : Width) (m : ℕ) → AllKnown P (mask_by_width w m)
mask_width_known P Ax m = mask_word_known P m
mask_width_known P Eax m = mask_long_known P m

quick_lines_known : (P : ℕ → Type 0) (w : Width) (q : Quick) (l : ℕ) → AllKnown P (quick_lines w q l)
quick_lines_known P w (Shift op m) l = shift_known P op w m l
quick_lines_known P w (Mask m) l = labelled_known P l _ (mask_width_known P w m)

pub quick_known : (P : ℕ → Type 0) (kind : IntType) (q : Quick) (l : ℕ) → AllKnown P (quick_code kind q l)
quick_known P kind q l = known_then (quick_lines_known P (width_of kind) q l) (narrow_known P kind)

left_turns_known : (P : ℕ → Type 0) (m : ℕ) → AllKnown P (left_turns m)
left_turns_known P zero = known_none
left_turns_known P (suc m) = known_more tt (known_more tt (left_turns_known P m))

left_bits_known : (P : ℕ → Type 0) (m : ℕ) → AllKnown P (left_bits_code m)
left_bits_known P m = known_more tt (known_then (left_turns_known P m) (record { all = tt }))

elements_by_known : (P : ℕ → Type 0) (size : ℕ) (k : Option ℕ) → AllKnown P (elements_by size k)
elements_by_known P size (Some k) = known_if (nat_lt k 4) (calls_known P tos.Shl Ax k) (known_if (nat_lt k 8) (left_bits_known P k) (known_if (nat_lt k 16) (left_byte_known P (k - 8)) (scale_known P size)))
elements_by_known P size None = scale_known P size

pub elements_known : (P : ℕ → Type 0) (size : ℕ) → AllKnown P (elements_code size)
elements_known P size = elements_by_known P size (power_of size)
