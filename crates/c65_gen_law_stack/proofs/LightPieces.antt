-- The pieces of which the lines of light expressions are made leave ptr2.
use Rattle.std.proofs.Common.{◌≡◌, ℕ, zero, suc, ◌+◌, ◌-◌, ◌/◌, ◌%◌, replicate, ◌==◌, ◌&&◌, ◌||◌, Bool, true, false, not, Option, None, Some, List, [], ◌∷◌, ◌++◌, refl, ◌∙◌, ap, sym, subst}
use Rattle.std.specs.Prelude.{if◌then◌else◌, nat_lt, nat_le}
use Rattle.std.specs.List.{list_all}
use Rattle.std.proofs.lemmas.Bool.{and_from, and_parts, eqb-true}
use Rattle.std.proofs.lemmas.List.Folds.{list_all-append}
use Rattle.c65_base.specs.declared.operators.BinaryOp.{BinaryOp}
use Rattle.c65_base.specs.declared.operators.BinaryOp.TheVariants as ops
use Rattle.c65_ints.specs.declared.types.IntType.{IntType}
use Rattle.c65_ints.specs.declared.types.IntType.TheVariants as ints
use Rattle.c65_ctype.specs.Trees.{Ty, void, int, pointer, array, tag, function}
use Rattle.c65_mach.specs.declared.rows.Op.{Op}
use Rattle.c65_mach.specs.declared.rows.Op.TheVariants.{Adc, And, Asl, Lsr, Rol, Ror, Lda, Ldy, Pha, Pla, Sbc, Sec, Sta, Stx, Tax, Tay, Txa, Tya}
use Rattle.c65_mach.specs.declared.rows.Mode.{Mode}
use Rattle.c65_mach.specs.declared.rows.Mode.TheVariants.{Absolute, Immediate, IndirectY, ZeroPage}
use Rattle.c65_mach.specs.Step.{kind_of}
use Rattle.c65_code.specs.declared.line.Operand.{Operand}
use Rattle.c65_code.specs.declared.line.Operand.TheVariants as operand
use Rattle.c65_code.specs.declared.line.Sym.{Sym}
use Rattle.c65_code.specs.declared.line.Line.{Line}
use Rattle.c65_code.specs.declared.line.Line.TheVariants.{Label, Do}
use Rattle.c65_code.specs.declared.routine.Width.{Width}
use Rattle.c65_code.specs.declared.routine.Width.TheVariants.{Ax, Eax}
use Rattle.c65_code.specs.Access.{is_written}
use Rattle.c65_genframe.specs.declared.home.Home.{Home}
use Rattle.c65_genframe.specs.declared.home.Home.TheVariants as homes
use Rattle.c65_genframe.specs.Frames.{Framed, home_of, is_raised}
use Rattle.c65_genframe.specs.Symbols.{numbers_of, object_symbol}
use Rattle.c65_genwide.specs.Lines.{value}
use Rattle.c65_genwide.specs.Wide.{width_of, narrow_code}
use Rattle.c65_genload.specs.declared.places.Extent.{Extent}
use Rattle.c65_genload.specs.declared.places.Extent.TheVariants.{One, Two, Three, Four}
use Rattle.c65_genload.specs.declared.places.Place.{Place}
use Rattle.c65_genload.specs.declared.places.Place.TheVariants as places
use Rattle.c65_genload.specs.declared.places.Access.{Access}
use Rattle.c65_genload.specs.declared.places.Access.TheVariants.{Whole, Part}
use Rattle.c65_genload.specs.declared.places.Field.{Field}
use Rattle.c65_genload.specs.Words.{ptr1, sp, sreg, tmp1, tmp2, implied, shift_a, zero_page}
use Rattle.c65_ints.specs.Ranges.{is_signed_of}
use Rattle.c65_genload.specs.Places.{onward, extent_of}
use Rattle.c65_genload.specs.Fields.{ones, is_in_byte, down_code, is_topmost, cut_code, spread_code, byte_value_code, rounds, is_astride, astride_code, wide_value_code}
use Rattle.c65_genload.specs.Numbers.{first, second, third, fourth, number_code, add_word_code, add_long_code, divide_code}
use Rattle.c65_genload.specs.Conversions.{widen_code, convert_to}
use Rattle.c65_genload.specs.Addresses.{symbol_code, offset_code}
use Rattle.c65_genload.specs.Loads.{bytes_code, field_load, load_code}
use Rattle.c65_gendirect.specs.declared.bytes.OperandByte.{OperandByte}
use Rattle.c65_gendirect.specs.declared.bytes.OperandByte.TheVariants.{Number, Low, High, Near, Data, Zero}
use Rattle.c65_gendirect.specs.Bytes.{op_of, takes_y, aside, back}
use Rattle.c65_gendirect.specs.Words.{instruction, carry_code, first_byte_code, both_bytes_code, onward_code, end_label, is_and, is_number, word_code, add_number_code, taken_from_code, long_mask_code}
use Rattle.c65_gendirect.specs.Pointed.{pointer_code, pointed_sum_code, behind_pointer_code}
use Rattle.c65_genshift.specs.Shifts.{labelled}
use Rattle.c65_genshift.specs.Quick.{elements_code}
use Rattle.c65_genexpr.specs.Places.{more, soft_code, soft_place, code_at, place_at, object_code, object_place}
use Rattle.c65_genexpr.specs.Operands.{conversion_code}
use Rattle.c65_genexpr.specs.declared.destination.Destination.{Destination}
use Rattle.c65_genexpr.specs.declared.destination.Destination.TheVariants.{Registers, Pointer}
use Rattle.c65_genexpr.specs.declared.operating.Form.{Form}
use Rattle.c65_genexpr.specs.declared.operating.Form.TheVariants as forms
use Rattle.c65_genexpr.specs.Operating.{is_signed_char, is_light_form, is_light_place, is_light_extent, is_light_access, is_light_to, is_light_conversion, placed, value_form, pointed_word, pointed_form, form_code}
use Rattle.c65_genexpr.specs.Destination.{arrived, destination_by, pointed_code, fetch_by, fetch_code}
use Rattle.c65_gen_law_stack.specs.Light.{leaves_ptr2, lies_beside}

-- lines that leave ptr2
pub record Spares (lines : List Line) : Type 0 where
  pub all : list_all leaves_ptr2 lines ≡ true

pub spares_then : {a b : List Line} → Spares a → Spares b → Spares (a ++ b)
spares_then {a = a} {b = b} p q = record { all = list_all-append leaves_ptr2 a b ∙ and_from (list_all leaves_ptr2 a) (list_all leaves_ptr2 b) p.all q.all }

pub spares_if : (b : Bool) {x y : List Line} → Spares x → Spares y → Spares (if b then x else y)
spares_if true p q = p
spares_if false p q = q

pub spares_none : Spares []
spares_none = record { all = refl }

pub spares_label : (l : ℕ) → Spares (Label l ∷ [])
spares_label l = record { all = refl }

spares_labelled : {a : List Line} (l : ℕ) → Spares a → Spares (labelled l a)
spares_labelled l p = spares_then p (spares_label l)

-- ---- values, addresses and loads

pub number_spares : (w : Width) (n : ℕ) → Spares (number_code w n)
number_spares Ax n = record { all = refl }
number_spares Eax n = record { all = refl }

pub symbol_spares : (s : Sym) (at : ℕ) → Spares (symbol_code s at)
symbol_spares s at = record { all = refl }

pub offset_spares : (n : ℕ) → Spares (offset_code n)
offset_spares n = let one : Spares (add_word_code n) = record { all = refl } in spares_if (n == 0) spares_none (spares_then one spares_none)

pub narrow_spares : (kind : IntType) → not (is_signed_char kind) ≡ true → Spares (narrow_code kind)
narrow_spares ints.SChar h = absurd cc
narrow_spares ints.UChar h = record { all = refl }
narrow_spares ints.Short h = spares_none
narrow_spares ints.UShort h = spares_none
narrow_spares ints.Int h = spares_none
narrow_spares ints.UInt h = spares_none
narrow_spares ints.Long h = spares_none
narrow_spares ints.ULong h = spares_none

bytes_spares : (place : Place) (extent : Extent) → is_light_place place ≡ true → Spares (bytes_code place extent)
bytes_spares (places.Far at) extent h = absurd cc
bytes_spares (places.Bank at) One h = record { all = refl }
bytes_spares (places.Bank at) Two h = record { all = refl }
bytes_spares (places.Bank at) Three h = record { all = refl }
bytes_spares (places.Bank at) Four h = record { all = refl }
bytes_spares (places.Near at) One h = record { all = refl }
bytes_spares (places.Near at) Two h = record { all = refl }
bytes_spares (places.Near at) Three h = record { all = refl }
bytes_spares (places.Near at) Four h = record { all = refl }
bytes_spares (places.Data s at) One h = record { all = refl }
bytes_spares (places.Data s at) Two h = record { all = refl }
bytes_spares (places.Data s at) Three h = record { all = refl }
bytes_spares (places.Data s at) Four h = record { all = refl }

-- one byte or two
pub few_spares : (place : Place) (extent : Extent) → is_light_extent extent ≡ true → Spares (bytes_code place extent)
few_spares (places.Far at) One h = record { all = refl }
few_spares (places.Far at) Two h = record { all = refl }
few_spares (places.Far at) Three h = absurd cc
few_spares (places.Far at) Four h = absurd cc
few_spares (places.Bank at) extent h = bytes_spares (places.Bank at) extent refl
few_spares (places.Near at) extent h = bytes_spares (places.Near at) extent refl
few_spares (places.Data s at) extent h = bytes_spares (places.Data s at) extent refl

repeated_spares : (n : ℕ) (op : Op) → Spares (shift_a op ∷ []) → Spares (replicate n (shift_a op))
repeated_spares zero op one = spares_none
repeated_spares (suc n) op one = spares_then one (repeated_spares n op one)

down_spares : (low : ℕ) → Spares (down_code low)
down_spares low =
    let right : Spares (shift_a Lsr ∷ []) = record { all = refl } in
    let left : Spares (shift_a Asl ∷ []) = record { all = refl } in
    let round : Spares (shift_a Rol ∷ []) = record { all = refl } in
    spares_if (nat_le low 4) (repeated_spares low Lsr right) (spares_then left (repeated_spares (8 - low) Rol round))

cut_spares : (g : Field) → Spares (cut_code g)
cut_spares g = spares_if (is_topmost g) spares_none (record { all = refl })

unsigned_spares : (g : Field) (b : Bool) → not b ≡ true → Spares (if b then spread_code g.width ++ narrow_code ints.SChar else narrow_code ints.UChar)
unsigned_spares g true h = absurd cc
unsigned_spares g false h = record { all = refl }

rounds_spares : (n : ℕ) (first next : Line) → Spares (first ∷ next ∷ []) → Spares (rounds n first next)
rounds_spares n first next p =
    spares_then (spares_if (nat_le 1 n) p spares_none) (spares_then (spares_if (nat_le 2 n) p spares_none) (spares_then (spares_if (nat_le 3 n) p spares_none) (spares_if (nat_le 4 n) p spares_none)))

astride_spares : (g : Field) → Spares (astride_code g)
astride_spares g =
    let high : Spares (zero_page Stx tmp1 ∷ []) = record { all = refl } in
    let back_to : Spares (zero_page Lda tmp1 ∷ []) = record { all = refl } in
    let cut : Spares (value And (first (ones g.width)) ∷ narrow_code ints.UChar) = record { all = refl } in
    spares_then high (spares_then
    (spares_if (nat_le g.low 4) (rounds_spares g.low (zero_page Lsr tmp1) (shift_a Ror) (record { all = refl })) (spares_then (rounds_spares (8 - g.low) (shift_a Asl) (zero_page Rol tmp1) (record { all = refl })) back_to))
    cut)

-- the first of two
pub first_spares : {a : List Line} (b : List Line) (c : Bool) → c ≡ true → Spares a → Spares (if c then a else b)
first_spares b true h p = p
first_spares b false h p = absurd cc

-- a bit-field without a sign that is brought down without a routine
pub field_spares : (place : Place) (g : Field) → is_light_access (Part g) ≡ true → Spares (bytes_code (onward place (g.low / 8)) One) → Spares (bytes_code place Two) → Spares (field_load place g)
field_spares place g k p q = go (is_in_byte g) (is_astride g) (and_parts (not (is_signed_of g.kind)) (is_in_byte g || is_astride g) k).1
  where
    go : (c d : Bool) → c || d ≡ true → Spares (if c then bytes_code (onward place (g.low / 8)) One ++ byte_value_code g else bytes_code place Two ++ (if d then astride_code g else wide_value_code g))
    go true d h = spares_then p (spares_then (down_spares (g.low % 8)) (spares_then (cut_spares g) (unsigned_spares g (is_signed_of g.kind) (and_parts (not (is_signed_of g.kind)) (is_in_byte g || is_astride g) k).0)))
    go false true h = spares_then q (astride_spares g)
    go false false h = absurd cc

onward_light : (place : Place) (n : ℕ) → is_light_place place ≡ true → is_light_place (onward place n) ≡ true
onward_light (places.Far at) n h = absurd cc
onward_light (places.Bank b) n h = refl
onward_light (places.Near at) n h = refl
onward_light (places.Data s at) n h = refl

pub load_spares : (place : Place) (access : Access) → is_light_place place ≡ true → is_light_access access ≡ true → Spares (load_code place access)
load_spares place (Whole kind) h k = spares_then (bytes_spares place (extent_of kind) h) (narrow_spares kind k)
load_spares place (Part g) h k = field_spares place g k (bytes_spares (onward place (g.low / 8)) One (onward_light place (g.low / 8) h)) (bytes_spares place Two h)

behind_pointer_spares : (at : ℕ) (extent : Extent) → Spares (behind_pointer_code at extent)
behind_pointer_spares at One = record { all = refl }
behind_pointer_spares at Two = record { all = refl }
behind_pointer_spares at Three = record { all = refl }
behind_pointer_spares at Four = record { all = refl }

pointed_spares : (place : Place) (kind : IntType) → not (is_signed_char kind) ≡ true → Spares (load_code place (Whole kind)) → Spares (pointed_code place kind)
pointed_spares (places.Far at) kind h p = spares_then (behind_pointer_spares at (extent_of kind)) (narrow_spares kind h)
pointed_spares (places.Bank at) kind h p = p
pointed_spares (places.Near at) kind h p = p
pointed_spares (places.Data s at) kind h p = p

fetch_by_spares : (d : Destination) (place : Place) (kind : IntType) → not (is_signed_char kind) ≡ true → Spares (load_code place (Whole kind)) → Spares (fetch_by d place kind)
fetch_by_spares Registers place kind h p = p
fetch_by_spares Pointer place kind h p = pointed_spares place kind h p

-- what is loaded behind ptr1 is as light as what is loaded behind AX
pub fetch_spares : (place : Place) (access : Access) → is_light_access access ≡ true → Spares (load_code place access) → Spares (fetch_code place access)
fetch_spares place (Whole kind) h p = fetch_by_spares (destination_by (extent_of kind)) place kind h p
fetch_spares place (Part g) h p = p

soft_spares : (raised : Bool) (pushed at stacked : ℕ) → is_light_place (soft_place raised at) ≡ true → Spares (soft_code raised pushed at stacked)
soft_spares true pushed at stacked h = absurd cc
soft_spares false pushed at stacked h = record { all = refl }

home_spares : (f : Framed) (pushed i : ℕ) (home : Option Home) → is_light_place (place_at f pushed i home) ≡ true → Spares (code_at f pushed i home)
home_spares f pushed i None h = symbol_spares (object_symbol (numbers_of f.parts) i) 0
home_spares f pushed i (Some (homes.Bank b)) h = spares_none
home_spares f pushed i (Some (homes.Soft d)) h = soft_spares (is_raised f i) pushed (more d pushed) f.stacked h

pub object_spares : (f : Framed) (pushed i : ℕ) → is_light_place (object_place f pushed i) ≡ true → Spares (object_code f pushed i)
object_spares f pushed i h = home_spares f pushed i (home_of f i) h

-- ---- conversions

widen_spares : (from to : IntType) → is_light_to Eax from to ≡ true → Spares (widen_code from)
widen_spares ints.Long to h = spares_none
widen_spares ints.ULong to h = spares_none
widen_spares ints.SChar to h = absurd cc
widen_spares ints.UChar to h = absurd cc
widen_spares ints.Short to h = absurd cc
widen_spares ints.UShort to h = absurd cc
widen_spares ints.Int to h = absurd cc
widen_spares ints.UInt to h = absurd cc

to_spares : (w : Width) (from to : IntType) → is_light_to w from to ≡ true → Spares (convert_to w from to)
to_spares Ax from to h = narrow_spares to h
to_spares Eax from to h = widen_spares from to h

pub conversion_spares : (t : Ty) (from : IntType) → is_light_conversion t from ≡ true → Spares (conversion_code t from)
conversion_spares void from h = spares_none
conversion_spares (int k) from h = to_spares (width_of k) from k h
conversion_spares (pointer q) from h = spares_none
conversion_spares (array q n) from h = spares_none
conversion_spares (tag n) from h = spares_none
conversion_spares (function g) from h = spares_none

-- ---- operands that are read where they lie

-- an operation that writes nothing
pub reader_spares : (op : Op) (mode : Mode) (o : Operand) → is_written (kind_of op) ≡ false → Spares (Do op mode o ∷ [])
reader_spares op mode o r = record { all = ap (λ (b : Bool). (not b || lies_beside mode o) && true) r }

pub byte_spares : (op : Op) (d : OperandByte) → is_written (kind_of op) ≡ false → Spares (op_of op d)
byte_spares op (Number n) r = reader_spares op Immediate (operand.Byte n) r
byte_spares op (Low s at) r = reader_spares op Immediate (operand.Low s at) r
byte_spares op (High s at) r = reader_spares op Immediate (operand.High s at) r
byte_spares op (Near at) r = let one : Spares (value Ldy at ∷ []) = record { all = refl } in spares_then one (reader_spares op IndirectY (operand.Zero sp) r)
byte_spares op (Data s at) r = reader_spares op Absolute (operand.At s at) r
byte_spares op (Zero at) r = reader_spares op ZeroPage (operand.Zero at) r

aside_spares : (d : OperandByte) → Spares (aside d ∷ [])
aside_spares d = by (takes_y d)
  where
    by : (b : Bool) → Spares (implied (if b then Pha else Tay) ∷ [])
    by true = record { all = refl }
    by false = record { all = refl }

back_spares : (d : OperandByte) → Spares (back d ∷ [])
back_spares d = by (takes_y d)
  where
    by : (b : Bool) → Spares (implied (if b then Pla else Tya) ∷ [])
    by true = record { all = refl }
    by false = record { all = refl }

pub instruction_reads : (op : BinaryOp) → is_written (kind_of (instruction op)) ≡ false
instruction_reads ops.Add = refl
instruction_reads ops.Sub = refl
instruction_reads ops.BitAnd = refl
instruction_reads ops.BitXor = refl
instruction_reads _ = refl

pub carry_spares : (op : BinaryOp) → Spares (carry_code op)
carry_spares ops.Add = record { all = refl }
carry_spares ops.Sub = record { all = refl }
carry_spares _ = spares_none

pub first_byte_spares : (op : BinaryOp) (low : OperandByte) → Spares (first_byte_code op low)
first_byte_spares op low = spares_then (carry_spares op) (byte_spares (instruction op) low (instruction_reads op))

both_spares : (op : BinaryOp) (low high : OperandByte) → Spares (both_bytes_code op low high)
both_spares op low high =
    let over : Spares (implied Txa ∷ []) = record { all = refl } in
    let back_to : Spares (implied Tax ∷ []) = record { all = refl } in
    spares_then (first_byte_spares op low) (spares_then (aside_spares high) (spares_then over (spares_then (byte_spares (instruction op) high (instruction_reads op)) (spares_then back_to (back_spares high)))))

onward_spares : (op : BinaryOp) (fresh : ℕ) → Spares (onward_code op fresh)
onward_spares ops.Add fresh = record { all = refl }
onward_spares ops.Sub fresh = record { all = refl }
onward_spares ops.BitAnd fresh = record { all = refl }
onward_spares _ fresh = spares_none

end_spares : (op : BinaryOp) (fresh : ℕ) → Spares (end_label op fresh)
end_spares ops.Add fresh = spares_label fresh
end_spares ops.Sub fresh = spares_label fresh
end_spares _ fresh = spares_none

word_spares : (op : BinaryOp) (low high : OperandByte) (fresh : ℕ) → Spares (word_code op low high fresh)
word_spares op low high fresh =
    spares_if (is_number 0 high) (spares_then (first_byte_spares op low) (onward_spares op fresh))
    (spares_if (is_and op && is_number 255 high) (first_byte_spares op low) (spares_then (both_spares op low high) (end_spares op fresh)))

pointer_spares : Spares pointer_code
pointer_spares = record { all = refl }

pub arrived_spares : (d : Destination) → Spares (arrived d)
arrived_spares Registers = spares_none
arrived_spares Pointer = pointer_spares

pointed_sum_spares : (low high : OperandByte) → Spares (pointed_sum_code low high)
pointed_sum_spares low high =
    let next : Spares (zero_page Sta ptr1 ∷ implied Txa ∷ []) = record { all = refl } in
    let last : Spares (zero_page Sta (ptr1 + 1) ∷ []) = record { all = refl } in
    spares_then (first_byte_spares ops.Add low) (spares_then next (spares_then (byte_spares Adc high refl) last))

added_spares : (n fresh : ℕ) → Spares (add_number_code n fresh)
added_spares n fresh =
    spares_if (n % 65536 == 0) (spares_label fresh)
    (spares_if (second n == 255 && nat_lt 0 (first n)) (word_spares ops.Sub (Number (256 - first n)) (Number 0) fresh) (word_spares ops.Add (Number (first n)) (Number (second n)) fresh))

taken_spares : (low high : OperandByte) → Spares (taken_from_code low high)
taken_spares low high =
    let kept : Spares (zero_page Sta tmp1 ∷ zero_page Stx tmp2 ∷ []) = record { all = refl } in
    let less : Spares (implied Sec ∷ zero_page Sbc tmp1 ∷ []) = record { all = refl } in
    let more_less : Spares (zero_page Sbc tmp2 ∷ implied Tax ∷ []) = record { all = refl } in
    spares_then kept (spares_then (byte_spares Lda low refl) (spares_then less (spares_then (aside_spares high) (spares_then (byte_spares Lda high refl) (spares_then more_less (back_spares high))))))

long_mask_spares : (op : BinaryOp) (n : ℕ) → Spares (long_mask_code op n)
long_mask_spares op n =
    let one : (m : ℕ) → Spares (value (instruction op) m ∷ []) = λ m. reader_spares (instruction op) Immediate (operand.Byte m) (instruction_reads op) in
    let over : Spares (implied Tay ∷ implied Txa ∷ []) = record { all = refl } in
    let third_byte : Spares (implied Tax ∷ zero_page Lda sreg ∷ []) = record { all = refl } in
    let fourth_byte : Spares (zero_page Sta sreg ∷ zero_page Lda (sreg + 1) ∷ []) = record { all = refl } in
    let last : Spares (zero_page Sta (sreg + 1) ∷ implied Tya ∷ []) = record { all = refl } in
    spares_then (one (first n)) (spares_then over (spares_then (one (second n)) (spares_then third_byte (spares_then (one (third n)) (spares_then fourth_byte (spares_then (one (fourth n)) last))))))

-- ---- forms

-- elements of one byte are bytes
elements_spares : (size : ℕ) → (size == 1) ≡ true → Spares (elements_code size)
elements_spares size h = subst (λ (n : ℕ). Spares (elements_code n)) (sym (eqb-true size 1 h)) spares_none

divide_spares : (size : ℕ) → (size == 1) ≡ true → Spares (divide_code size)
divide_spares size h = subst (λ (n : ℕ). Spares (divide_code n)) (sym (eqb-true size 1 h)) spares_none

placed_spares : (op : BinaryOp) (label : ℕ) → Spares (placed op label)
placed_spares ops.Add label = spares_none
placed_spares ops.Sub label = spares_none
placed_spares _ label = spares_label label

value_spares : (form : Form) (label : ℕ) → is_light_form form ≡ true → Spares (value_form form label)
value_spares (forms.Sum n) label h = added_spares n label
value_spares (forms.LongSum n) label h = let one : Spares (add_long_code n) = record { all = refl } in spares_labelled label one
value_spares (forms.Mask op n) label h = spares_labelled label (long_mask_spares op n)
value_spares (forms.Constant kind quick) label h = absurd cc
value_spares (forms.Word op low high) label h = spares_then (word_spares op low high label) (placed_spares op label)
value_spares (forms.Under low high) label h = spares_labelled label (taken_spares low high)
value_spares (forms.Indexed size low high) label h = spares_then (elements_spares size h) (word_spares ops.Add low high label)
value_spares (forms.Distance size low high) label h = spares_then (word_spares ops.Sub low high label) (divide_spares size h)
value_spares (forms.DistanceUnder size low high) label h = spares_labelled label (spares_then (taken_spares low high) (divide_spares size h))

pointed_word_spares : (op : BinaryOp) (low high : OperandByte) (label : ℕ) → Spares (pointed_word op low high label)
pointed_word_spares ops.Add low high label = spares_labelled label (pointed_sum_spares low high)
pointed_word_spares op low high label = spares_then (word_spares op low high label) (spares_then (placed_spares op label) pointer_spares)

pointed_form_spares : (form : Form) (label : ℕ) → is_light_form form ≡ true → Spares (pointed_form form label)
pointed_form_spares (forms.Word op low high) label h = pointed_word_spares op low high label
pointed_form_spares (forms.Indexed size low high) label h = spares_then (elements_spares size h) (pointed_word_spares ops.Add low high label)
pointed_form_spares form label h = spares_then (value_spares form label h) pointer_spares

pub form_spares : (d : Destination) (form : Form) (label : ℕ) → is_light_form form ≡ true → Spares (form_code d form label)
form_spares Registers form label h = value_spares form label h
form_spares Pointer form label h = pointed_form_spares form label h
