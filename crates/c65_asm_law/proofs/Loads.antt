-- The pieces of which the lines of loads, stores and conversions are made.
use Rattle.std.proofs.Common.{ℕ, ◌+◌, ◌-◌, ◌<◌, ◌^◌, ◌==◌, [], ◌∷◌, ◌++◌, arith, rules, zero, suc, ◌%◌, ◌/◌, replicate, Bool}
use Rattle.std.specs.Prelude.{min, nat_lt, nat_le, if◌then◌else◌}
use Rattle.c65_base.specs.declared.operators.BinaryOp.{BinaryOp}
use Rattle.c65_ints.specs.declared.types.IntType.{IntType}
use Rattle.c65_ints.specs.declared.types.IntType.TheVariants as ints
use Rattle.c65_ints.specs.Ranges.{is_signed_of}
use Rattle.c65_mach.specs.declared.rows.Op.{Op}
use Rattle.c65_mach.specs.declared.rows.Op.TheVariants.{And, Asl, Ldy, Lsr, Rol, Ror, Sta, Stx}
use Rattle.c65_mach.specs.declared.rows.Mode.{Mode}
use Rattle.c65_mach.specs.declared.rows.Mode.TheVariants.{ZeroPage, IndirectY, Absolute}
use Rattle.c65_code.specs.declared.line.Sym.{Sym}
use Rattle.c65_code.specs.declared.line.Operand.{Operand}
use Rattle.c65_code.specs.declared.line.Operand.TheVariants.{Zero, At}
use Rattle.c65_code.specs.declared.line.Line.{Line}
use Rattle.c65_code.specs.declared.line.Line.TheVariants.{Do}
use Rattle.c65_code.specs.declared.routine.Routine.TheVariants.{PushA, PushAx, PushEax, LdAi, LdEaxi, Tos, Unary}
use Rattle.c65_code.specs.declared.routine.UnaryRoutine.TheVariants.{Shl1}
use Rattle.c65_code.specs.declared.routine.TosOp.{TosOp}
use Rattle.c65_code.specs.declared.routine.TosOp.TheVariants as tos
use Rattle.c65_code.specs.declared.routine.Width.{Width}
use Rattle.c65_code.specs.declared.routine.Width.TheVariants.{Ax, Eax}
use Rattle.c65_genwide.specs.Lines.{value, call}
use Rattle.c65_genwide.specs.Passing.{three_code, pass_bytes}
use Rattle.c65_genwide.specs.Wide.{width_of, narrow_code, wide_code, is_comparison}
use Rattle.c65_genload.specs.declared.places.Extent.{Extent}
use Rattle.c65_genload.specs.declared.places.Extent.TheVariants.{One, Two, Three, Four}
use Rattle.c65_genload.specs.declared.places.Field.{Field}
use Rattle.c65_genload.specs.declared.places.Place.{Place}
use Rattle.c65_genload.specs.declared.places.Place.TheVariants as places
use Rattle.c65_genload.specs.declared.places.Access.{Access}
use Rattle.c65_genload.specs.declared.places.Access.TheVariants.{Whole, Part}
use Rattle.c65_genload.specs.Words.{sp, ptr1, tmp1, regbank, shift_a, zero_page}
use Rattle.c65_genload.specs.Places.{byte_more, onward, extent_of, settled}
use Rattle.c65_genload.specs.Numbers.{first, number_code, add_word_code, add_by_width, add_code, mask_code, by_code, shift_code, scale_code, is_divisor, divide_code}
use Rattle.c65_genload.specs.Conversions.{widen_code, convert_code, convert_to, push_code, test_code}
use Rattle.c65_genload.specs.Addresses.{symbol_code, address_code, above_code, raised_code, offset_code}
use Rattle.c65_genload.specs.Fields.{ones, others, is_in_byte, own_bits, down_code, up_code, is_topmost, cut_code, spread_code, signed_code, byte_value_code, mask_unless_all, once, rounds, both_down_code, is_astride, astride_code, wide_value_code, extract_code, lowest_code, aligned_code, is_unit}
use Rattle.c65_genload.specs.Loads.{hold_code, bytes_code, field_load, load_code}
use Rattle.c65_genload.specs.Stores.{bytes_store, after_store, under_code, unit_set, unit_store, popped_code, merged_code, bits_store, byte_store, field_store, store_code, copy_code}
use Rattle.c65_asm_law.proofs.Well.{Well, AllWell, well_append, well_none, well_more, well_if}

-- where a place lies, in numbers of their types
abbrev pub WellPlace : ℕ → Place → Type 0
WellPlace n (places.Bank at) = Unit {0}
WellPlace n (places.Near at) = at < 2 ^ 8
WellPlace n (places.Data sym at) = (sym.0 < n) × (at < 2 ^ 16)
WellPlace n (places.Far at) = at < 2 ^ 8

-- ---- numbers

pub narrow_well : (n : ℕ) (kind : IntType) → AllWell n (narrow_code kind)
narrow_well n ints.SChar = record { all = search rules }
narrow_well n ints.UChar = record { all = search rules }
narrow_well n ints.Short = well_none n
narrow_well n ints.UShort = well_none n
narrow_well n ints.Int = well_none n
narrow_well n ints.UInt = well_none n
narrow_well n ints.Long = well_none n
narrow_well n ints.ULong = well_none n

pub number_well : (n : ℕ) (w : Width) (m : ℕ) → AllWell n (number_code w m)
number_well n Ax m = record { all = search rules }
number_well n Eax m = record { all = search rules }

add_word_well : (n m : ℕ) → AllWell n (add_word_code m)
add_word_well n m = record { all = search rules }

add_width_well : (n : ℕ) (w : Width) (kind : IntType) (m : ℕ) → AllWell n (add_by_width w kind m)
add_width_well n Ax kind m = well_append n (add_word_code m) (narrow_code kind) (add_word_well n m) (narrow_well n kind)
add_width_well n Eax kind m = record { all = search rules }

pub add_well : (n : ℕ) (kind : IntType) (m : ℕ) → AllWell n (add_code kind m)
add_well n kind m = add_width_well n (width_of kind) kind m

pub mask_well : (n m : ℕ) → AllWell n (mask_code m)
mask_well n m = record { all = search rules }

by_well : (n : ℕ) (op : TosOp) (m : ℕ) → AllWell n (by_code op m)
by_well n op m = record { all = search rules }

shift_well : (n : ℕ) (op : TosOp) (m : ℕ) → AllWell n (shift_code op m)
shift_well n op m = well_if n (m == 0) [] (by_code op m) (well_none n) (by_well n op m)

double_well : (n : ℕ) → AllWell n (call (Unary Shl1 Ax) ∷ [])
double_well n = record { all = search rules }

pub scale_well : (n m : ℕ) → AllWell n (scale_code m)
scale_well n m = well_if n (m == 1) [] _ (well_none n) (well_if n (m == 2) (call (Unary Shl1 Ax) ∷ []) (by_code tos.Mul m) (double_well n) (by_well n tos.Mul m))

pub divide_well : (n m : ℕ) → AllWell n (divide_code m)
divide_well n m = well_if n (m == 1) [] _ (well_none n) (well_if n (is_divisor m) (by_code tos.Div m) (number_code Ax 0) (by_well n tos.Div m) (number_well n Ax 0))

-- ---- addresses

pub symbol_well : (n : ℕ) (s : Sym) (at : ℕ) → s.0 < n → at < 2 ^ 16 → AllWell n (symbol_code s at)
symbol_well n s at known few = record { all = ((tt, (known, few)), ((tt, (known, few)), tt)) }

pub address_well : (n at : ℕ) → at < 2 ^ 16 → AllWell n (address_code at)
address_well n at few = record { all = search (rules, few) }

above_well : (n : ℕ) → AllWell n above_code
above_well n = record { all = search rules }

pub raised_well : (n counter at : ℕ) → counter < 2 ^ 16 → AllWell n (raised_code counter at)
raised_well n counter at few =
    let one : AllWell n (call LdAi ∷ []) = record { all = search rules } in
    well_append n (address_code counter) (call LdAi ∷ (above_code ++ add_code ints.UInt at)) (address_well n counter few) (well_append n (call LdAi ∷ []) (above_code ++ add_code ints.UInt at) one (well_append n above_code (add_code ints.UInt at) (above_well n) (add_well n ints.UInt at)))

pub offset_well : (n m : ℕ) → AllWell n (offset_code m)
offset_well n m = well_if n (m == 0) [] (add_code ints.UInt m) (well_none n) (add_well n ints.UInt m)

-- ---- conversions

widen_well : (n : ℕ) (kind : IntType) → AllWell n (widen_code kind)
widen_well n ints.SChar = record { all = search rules }
widen_well n ints.UChar = record { all = search rules }
widen_well n ints.Short = record { all = search rules }
widen_well n ints.UShort = record { all = search rules }
widen_well n ints.Int = record { all = search rules }
widen_well n ints.UInt = record { all = search rules }
widen_well n ints.Long = well_none n
widen_well n ints.ULong = well_none n

to_well : (n : ℕ) (w : Width) (from to : IntType) → AllWell n (convert_to w from to)
to_well n Ax from to = narrow_well n to
to_well n Eax from to = widen_well n from

pub convert_well : (n : ℕ) (from to : IntType) → AllWell n (convert_code from to)
convert_well n from to = to_well n (width_of to) from to

pub push_well : (n : ℕ) (w : Width) → AllWell n (push_code w)
push_well n Ax = record { all = search rules }
push_well n Eax = record { all = search rules }

pub pass_well : (n m : ℕ) → AllWell n (pass_bytes m)
pass_well n m =
    let one : AllWell n (call PushA ∷ []) = record { all = search rules } in
    let two : AllWell n (call PushAx ∷ []) = record { all = search rules } in
    let three : AllWell n three_code = record { all = search rules } in
    let four : AllWell n (call PushEax ∷ []) = record { all = search rules } in
    well_if n (nat_lt m 2) (call PushA ∷ []) _ one (well_if n (nat_lt m 3) (call PushAx ∷ []) _ two (well_if n (nat_lt m 4) three_code (call PushEax ∷ []) three four))

pub test_well : (n : ℕ) (w : Width) → AllWell n (test_code w)
test_well n Ax = record { all = search rules }
test_well n Eax = record { all = search rules }

-- ---- loads

pub hold_well : (n : ℕ) (place : Place) → AllWell n (hold_code place)
hold_well n (places.Bank at) = well_none n
hold_well n (places.Near at) = well_none n
hold_well n (places.Data s at) = well_none n
hold_well n (places.Far at) = well_append n (offset_code at) (call PushAx ∷ []) (offset_well n at) (record { all = search rules })

pub settled_well : (n : ℕ) (place : Place) → WellPlace n place → WellPlace n (settled place)
settled_well n (places.Bank at) h = h
settled_well n (places.Near at) h = h
settled_well n (places.Data s at) h = h
settled_well n (places.Far at) h = omega arith

pub bytes_well : (n : ℕ) (place : Place) (e : Extent) → WellPlace n place → AllWell n (bytes_code place e)
bytes_well n (places.Bank at) One h = record { all = search rules }
bytes_well n (places.Bank at) Two h = record { all = search rules }
bytes_well n (places.Bank at) Three h = record { all = search rules }
bytes_well n (places.Bank at) Four h = record { all = search rules }
bytes_well n (places.Near at) One h = record { all = search (rules, h) }
bytes_well n (places.Near at) Two h = record { all = search rules }
bytes_well n (places.Near at) Three h = record { all = search rules }
bytes_well n (places.Near at) Four h = record { all = search rules }
bytes_well n (places.Data s at) One h = record { all = search (rules, h) }
bytes_well n (places.Data s at) Two h = record { all = search (rules, h) }
bytes_well n (places.Data s at) Three h = record { all = search (rules, h) }
bytes_well n (places.Data s at) Four h = record { all = search (rules, h) }
bytes_well n (places.Far at) One h = record { all = search (rules, h) }
bytes_well n (places.Far at) Two h = record { all = search rules }
bytes_well n (places.Far at) Three h = record { all = search rules }
bytes_well n (places.Far at) Four h = well_append n (offset_code at) (call LdEaxi ∷ []) (offset_well n at) (record { all = search rules })

-- so many shifts of A
pub shifts_well : (n m : ℕ) (op : Op) → AllWell n (replicate m (shift_a op))
shifts_well n zero op = well_none n
shifts_well n (suc m) op = well_more n (shift_a op) _ (tt, tt) (shifts_well n m op)

pub turned_well : (n low : ℕ) (one first further : Op) → AllWell n (if nat_le low 4 then replicate low (shift_a one) else shift_a first ∷ replicate (8 - low) (shift_a further))
turned_well n low one first further =
    well_if n (nat_le low 4) (replicate low (shift_a one)) _ (shifts_well n low one) (well_more n (shift_a first) _ (tt, tt) (shifts_well n (8 - low) further))

cut_well : (n : ℕ) (g : Field) → AllWell n (cut_code g)
cut_well n g = well_if n (is_topmost g) [] _ (well_none n) (record { all = search rules })

spread_well : (n width : ℕ) → AllWell n (spread_code width)
spread_well n width = well_if n (width == 8) [] _ (well_none n) (record { all = search rules })

signed_well : (n : ℕ) (g : Field) → AllWell n (signed_code g)
signed_well n g =
    well_if n (is_signed_of g.kind) (spread_code g.width ++ narrow_code ints.SChar) (narrow_code ints.UChar)
    (well_append n (spread_code g.width) (narrow_code ints.SChar) (spread_well n g.width) (narrow_well n ints.SChar))
    (narrow_well n ints.UChar)

byte_value_well : (n : ℕ) (g : Field) → AllWell n (byte_value_code g)
byte_value_well n g = well_append n (down_code (g.low % 8)) _ (turned_well n (g.low % 8) Lsr Asl Rol) (well_append n (cut_code g) (signed_code g) (cut_well n g) (signed_well n g))

unless_all_well : (n m : ℕ) → AllWell n (mask_unless_all m)
unless_all_well n m = well_if n (m == 65535) [] (mask_code m) (well_none n) (mask_well n m)

wide_value_well : (n : ℕ) (g : Field) → AllWell n (wide_value_code g)
wide_value_well n g =
    well_if n (is_signed_of g.kind) (shift_code tos.Shl (16 - min (g.low + g.width) 16) ++ shift_code tos.Asr (16 - min g.width 16)) (shift_code tos.Shr g.low ++ mask_unless_all (ones g.width))
    (well_append n _ _ (shift_well n tos.Shl (16 - min (g.low + g.width) 16)) (shift_well n tos.Asr (16 - min g.width 16)))
    (well_append n _ _ (shift_well n tos.Shr g.low) (unless_all_well n (ones g.width)))

once_well : (n : ℕ) (b : Bool) (first next : Line) → AllWell n (first ∷ next ∷ []) → AllWell n (once b first next)
once_well n b first next w = well_if n b (first ∷ next ∷ []) [] w (well_none n)

rounds_well : (n m : ℕ) (first next : Line) → AllWell n (first ∷ next ∷ []) → AllWell n (rounds m first next)
rounds_well n m first next w =
    well_append n (once (nat_le 1 m) first next) _ (once_well n (nat_le 1 m) first next w) (well_append n (once (nat_le 2 m) first next) _ (once_well n (nat_le 2 m) first next w)
    (well_append n (once (nat_le 3 m) first next) _ (once_well n (nat_le 3 m) first next w) (once_well n (nat_le 4 m) first next w)))

both_down_well : (n low : ℕ) → AllWell n (both_down_code low)
both_down_well n low =
    well_if n (nat_le low 4) (rounds low (zero_page Lsr tmp1) (shift_a Ror)) _ (rounds_well n low (zero_page Lsr tmp1) (shift_a Ror) (record { all = search rules }))
    (well_append n (rounds (8 - low) (shift_a Asl) (zero_page Rol tmp1)) _ (rounds_well n (8 - low) (shift_a Asl) (zero_page Rol tmp1) (record { all = search rules })) (record { all = search rules }))

astride_well : (n : ℕ) (g : Field) → AllWell n (astride_code g)
astride_well n g =
    let cut : first (ones g.width) < 2 ^ 8 = omega arith in
    well_append n (zero_page Stx tmp1 ∷ []) _ (record { all = search rules }) (well_append n (both_down_code g.low) _ (both_down_well n g.low)
    (well_append n (value And (first (ones g.width)) ∷ []) _ (record { all = ((tt, cut), tt) }) (narrow_well n ints.UChar)))

extract_well : (n : ℕ) (g : Field) → AllWell n (extract_code g)
extract_well n g = well_if n (is_astride g) (astride_code g) (wide_value_code g) (astride_well n g) (wide_value_well n g)

pub lowest_well : (n : ℕ) (g : Field) → AllWell n (lowest_code g)
lowest_well n g = well_if n (is_in_byte g) (byte_value_code g) (extract_code g) (byte_value_well n g) (extract_well n g)

-- of a place and bytes on
pub onward_well : (n : ℕ) (place : Place) (m : ℕ) → WellPlace n place → WellPlace n (onward place m)
onward_well n (places.Bank at) m h = omega arith
onward_well n (places.Near at) m h = omega arith
onward_well n (places.Data s at) m h = (h.0, omega arith)
onward_well n (places.Far at) m h = omega arith

field_load_well : (n : ℕ) (place : Place) (g : Field) → WellPlace n place → AllWell n (field_load place g)
field_load_well n place g h =
    well_if n (is_in_byte g) (bytes_code (onward place (g.low / 8)) One ++ byte_value_code g) (bytes_code place Two ++ extract_code g)
    (well_append n (bytes_code (onward place (g.low / 8)) One) (byte_value_code g) (bytes_well n (onward place (g.low / 8)) One (onward_well n place (g.low / 8) h)) (byte_value_well n g))
    (well_append n (bytes_code place Two) (extract_code g) (bytes_well n place Two h) (extract_well n g))

pub load_well : (n : ℕ) (place : Place) (access : Access) → WellPlace n place → AllWell n (load_code place access)
load_well n place (Whole kind) h = well_append n (bytes_code place (extent_of kind)) (narrow_code kind) (bytes_well n place (extent_of kind) h) (narrow_well n kind)
load_well n place (Part field) h = field_load_well n place field h

-- ---- stores

pub bytes_store_well : (n : ℕ) (place : Place) (e : Extent) → WellPlace n place → AllWell n (bytes_store place e)
bytes_store_well n (places.Bank at) One h = record { all = search rules }
bytes_store_well n (places.Bank at) Two h = record { all = search rules }
bytes_store_well n (places.Bank at) Three h = record { all = search rules }
bytes_store_well n (places.Bank at) Four h = record { all = search rules }
bytes_store_well n (places.Near at) One h = record { all = search (rules, h) }
bytes_store_well n (places.Near at) Two h = record { all = search (rules, h) }
bytes_store_well n (places.Near at) Three h = record { all = search (rules, h) }
bytes_store_well n (places.Near at) Four h = record { all = search (rules, h) }
bytes_store_well n (places.Data s at) One h = record { all = search (rules, h) }
bytes_store_well n (places.Data s at) Two h = record { all = search (rules, h) }
bytes_store_well n (places.Data s at) Three h = record { all = search (rules, h) }
bytes_store_well n (places.Data s at) Four h = record { all = search (rules, h) }
bytes_store_well n (places.Far at) One h = record { all = search rules }
bytes_store_well n (places.Far at) Two h = record { all = search rules }
bytes_store_well n (places.Far at) Three h = record { all = search rules }
bytes_store_well n (places.Far at) Four h = record { all = search rules }

after_store_well : (n : ℕ) (place : Place) (kind : IntType) → AllWell n (after_store place kind)
after_store_well n (places.Bank at) kind = well_none n
after_store_well n (places.Near at) kind = well_none n
after_store_well n (places.Data s at) kind = well_none n
after_store_well n (places.Far at) kind = narrow_well n kind

under_well : (n : ℕ) (place : Place) → WellPlace n place → AllWell n (under_code place)
under_well n (places.Bank at) h = bytes_well n (places.Bank at) Two h
under_well n (places.Near at) h = bytes_well n (places.Near (byte_more at 2)) Two (omega arith)
under_well n (places.Data s at) h = bytes_well n (places.Data s at) Two h
under_well n (places.Far at) h = record { all = search rules }

aligned_well : (n : ℕ) (g : Field) → AllWell n (aligned_code g)
aligned_well n g = well_append n _ _ (mask_well n (ones g.width)) (shift_well n tos.Shl g.low)

pub unit_set_well : (n : ℕ) (place : Place) (g : Field) → WellPlace n place → AllWell n (unit_set place g)
unit_set_well n place g h =
    let push : AllWell n (call PushAx ∷ []) = record { all = search rules } in
    let join : AllWell n (call (Tos tos.Or Ax) ∷ []) = record { all = search rules } in
    let joined : AllWell n (call (Tos tos.Or Ax) ∷ bytes_store place Two) = well_append n (call (Tos tos.Or Ax) ∷ []) (bytes_store place Two) join (bytes_store_well n place Two h) in
    let masked : AllWell n (mask_code (others g) ++ (call (Tos tos.Or Ax) ∷ bytes_store place Two)) = well_append n (mask_code (others g)) _ (mask_well n (others g)) joined in
    let under : AllWell n (under_code place ++ (mask_code (others g) ++ (call (Tos tos.Or Ax) ∷ bytes_store place Two))) = well_append n (under_code place) _ (under_well n place h) masked in
    well_append n (aligned_code g) _ (aligned_well n g) (well_append n (call PushAx ∷ []) _ push under)

unit_store_well : (n : ℕ) (place : Place) (g : Field) → WellPlace n place → AllWell n (unit_store place g)
unit_store_well n place g h = well_append n (unit_set place g) (extract_code g) (unit_set_well n place g h) (extract_well n g)

pub merged_well : (n : ℕ) (mode : Mode) (operand : Operand) (mask : ℕ) → mask < 2 ^ 8 → Well n (Do Sta mode operand) → AllWell n (merged_code mode operand mask)
merged_well n mode operand mask few whole =
    well_if n (mask == 255) (Do Sta mode operand ∷ []) _ (record { all = search (rules, whole) }) (record { all = search (rules, few, whole) })

pub bits_well : (n : ℕ) (place : Place) (mask : ℕ) → mask < 2 ^ 8 → WellPlace n place → AllWell n (bits_store place mask)
bits_well n (places.Bank at) mask few h = merged_well n ZeroPage (Zero (byte_more regbank at)) mask few (search rules)
bits_well n (places.Near at) mask few h = well_append n (value Ldy at ∷ []) _ (record { all = search (rules, h) }) (merged_well n IndirectY (Zero sp) mask few (search rules))
bits_well n (places.Data s at) mask few h = merged_well n Absolute (At s at) mask few (search (rules, h))
bits_well n (places.Far at) mask few h =
    well_append n popped_code _ (record { all = search rules }) (well_append n (value Ldy at ∷ []) _ (record { all = search (rules, h) }) (merged_well n IndirectY (Zero ptr1) mask few (search rules)))

byte_store_well : (n : ℕ) (place : Place) (g : Field) → WellPlace n place → AllWell n (byte_store place g)
byte_store_well n place g h =
    let own : own_bits g < 2 ^ 8 = omega arith in
    let at : WellPlace n (onward (settled place) (g.low / 8)) = onward_well n (settled place) (g.low / 8) (settled_well n place h) in
    well_append n (up_code (g.low % 8)) _ (turned_well n (g.low % 8) Asl Lsr Ror)
    (well_append n (bits_store (onward (settled place) (g.low / 8)) (own_bits g)) _ (bits_well n (onward (settled place) (g.low / 8)) (own_bits g) own at) (byte_value_well n g))

field_store_well : (n : ℕ) (place : Place) (g : Field) → WellPlace n place → AllWell n (field_store place g)
field_store_well n place g h =
    well_if n (is_in_byte g) (byte_store place g) _ (byte_store_well n place g h)
    (well_if n (is_unit g) (bytes_store place Two) (unit_store place g) (bytes_store_well n place Two h) (unit_store_well n place g h))

pub store_well : (n : ℕ) (place : Place) (access : Access) → WellPlace n place → AllWell n (store_code place access)
store_well n place (Whole kind) h = well_append n (bytes_store place (extent_of kind)) (after_store place kind) (bytes_store_well n place (extent_of kind) h) (after_store_well n place kind)
store_well n place (Part field) h = field_store_well n place field h

pub copy_well : (n m : ℕ) → AllWell n (copy_code m)
copy_well n m = record { all = search rules }

-- ---- operators

pub wide_well : (n : ℕ) (op : BinaryOp) (kind : IntType) → AllWell n (wide_code op kind)
wide_well n op kind = well_more n _ _ tt (well_if n (is_comparison op) [] (narrow_code kind) (well_none n) (narrow_well n kind))
