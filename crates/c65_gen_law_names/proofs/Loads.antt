-- The symbols of the pieces of which the lines of loads, stores and conversions are made.
use Rattle.std.proofs.Common.{ℕ, ◌+◌, ◌-◌, ◌==◌, [], ◌∷◌, ◌++◌, rules, zero, suc, ◌%◌, ◌/◌, replicate, Bool}
use Rattle.std.specs.Prelude.{min, nat_lt, nat_le, if◌then◌else◌}
use Rattle.c65_base.specs.declared.operators.BinaryOp.{BinaryOp}
use Rattle.c65_ints.specs.declared.types.IntType.{IntType}
use Rattle.c65_ints.specs.declared.types.IntType.TheVariants as ints
use Rattle.c65_ints.specs.Ranges.{is_signed_of}
use Rattle.c65_mach.specs.declared.rows.Op.{Op}
use Rattle.c65_mach.specs.declared.rows.Op.TheVariants.{And, Asl, Ldy, Lsr, Rol, Ror, Stx}
use Rattle.c65_mach.specs.declared.rows.Mode.{Mode}
use Rattle.c65_mach.specs.declared.rows.Mode.TheVariants.{ZeroPage, IndirectY, Absolute}
use Rattle.c65_code.specs.declared.line.Sym.{Sym}
use Rattle.c65_code.specs.declared.line.Operand.{Operand}
use Rattle.c65_code.specs.declared.line.Operand.TheVariants.{Zero, At}
use Rattle.c65_code.specs.declared.line.Line.{Line}
use Rattle.c65_code.specs.declared.routine.Routine.TheVariants.{PushA, PushAx, PushEax, LdAi, Tos, Unary}
use Rattle.c65_code.specs.declared.routine.UnaryRoutine.TheVariants.{Shl1}
use Rattle.c65_code.specs.declared.routine.TosOp.{TosOp}
use Rattle.c65_code.specs.declared.routine.TosOp.TheVariants as tos
use Rattle.c65_code.specs.declared.routine.Width.{Width}
use Rattle.c65_code.specs.declared.routine.Width.TheVariants.{Ax, Eax}
use Rattle.c65_genwide.specs.Lines.{value, call}
use Rattle.c65_genwide.specs.Passing.{three_code, pass_bytes}
use Rattle.c65_genwide.specs.Wide.{width_of, narrow_code, wide_code, is_comparison}
use Rattle.c65_genload.specs.declared.places.Extent.{Extent}
use Rattle.c65_genload.specs.declared.places.Extent.TheVariants.{One, Two, Three, Four}
use Rattle.c65_genload.specs.declared.places.Field.{Field}
use Rattle.c65_genload.specs.declared.places.Place.{Place}
use Rattle.c65_genload.specs.declared.places.Place.TheVariants as places
use Rattle.c65_genload.specs.declared.places.Access.{Access}
use Rattle.c65_genload.specs.declared.places.Access.TheVariants.{Whole, Part}
use Rattle.c65_genload.specs.Words.{sp, ptr1, tmp1, regbank, shift_a, zero_page}
use Rattle.c65_genload.specs.Places.{byte_more, onward, extent_of, settled}
use Rattle.c65_genload.specs.Numbers.{first, number_code, add_word_code, add_by_width, add_code, mask_code, by_code, shift_code, scale_code, is_divisor, divide_code}
use Rattle.c65_genload.specs.Conversions.{widen_code, convert_code, convert_to, push_code, test_code}
use Rattle.c65_genload.specs.Addresses.{symbol_code, address_code, above_code, raised_code, offset_code}
use Rattle.c65_genload.specs.Fields.{ones, others, is_in_byte, own_bits, is_topmost, cut_code, spread_code, signed_code, byte_value_code, mask_unless_all, once, rounds, both_down_code, is_astride, astride_code, wide_value_code, extract_code, lowest_code, aligned_code, is_unit}
use Rattle.c65_genload.specs.Loads.{hold_code, bytes_code, field_load, load_code}
use Rattle.c65_genload.specs.Stores.{bytes_store, after_store, under_code, unit_set, unit_store, popped_code, merged_code, bits_store, byte_store, field_store, store_code, copy_code}
use Rattle.c65_gen_law_names.proofs.Known.{AllKnown, KnownOperand, known_if, known_more, known_none, known_then}

-- the symbol behind which a place lies
abbrev pub KnownPlace : (ℕ → Type 0) → Place → Type 0
KnownPlace P (places.Bank at) = Unit {0}
KnownPlace P (places.Near at) = Unit {0}
KnownPlace P (places.Data sym at) = P sym.0
KnownPlace P (places.Far at) = Unit {0}

-- ---- numbers

pub narrow_known : (P : ℕ → Type 0) (kind : IntType) → AllKnown P (narrow_code kind)
narrow_known P ints.SChar = record { all = tt }
narrow_known P ints.UChar = record { all = tt }
narrow_known P ints.Short = known_none
narrow_known P ints.UShort = known_none
narrow_known P ints.Int = known_none
narrow_known P ints.UInt = known_none
narrow_known P ints.Long = known_none
narrow_known P ints.ULong = known_none

pub number_known : (P : ℕ → Type 0) (w : Width) (m : ℕ) → AllKnown P (number_code w m)
number_known P Ax m = record { all = tt }
number_known P Eax m = record { all = tt }

add_word_known : (P : ℕ → Type 0) (m : ℕ) → AllKnown P (add_word_code m)
add_word_known P m = record { all = tt }

add_width_known : (P : ℕ → Type 0) (w : Width) (kind : IntType) (m : ℕ) → AllKnown P (add_by_width w kind m)
add_width_known P Ax kind m = known_then (add_word_known P m) (narrow_known P kind)
add_width_known P Eax kind m = record { all = tt }

pub add_known : (P : ℕ → Type 0) (kind : IntType) (m : ℕ) → AllKnown P (add_code kind m)
add_known P kind m = add_width_known P (width_of kind) kind m

pub mask_known : (P : ℕ → Type 0) (m : ℕ) → AllKnown P (mask_code m)
mask_known P m = record { all = tt }

by_known : (P : ℕ → Type 0) (op : TosOp) (m : ℕ) → AllKnown P (by_code op m)
by_known P op m = record { all = tt }

shift_known : (P : ℕ → Type 0) (op : TosOp) (m : ℕ) → AllKnown P (shift_code op m)
shift_known P op m = known_if (m == 0) known_none (by_known P op m)

double_known : (P : ℕ → Type 0) → AllKnown P (call (Unary Shl1 Ax) ∷ [])
double_known P = record { all = tt }

pub scale_known : (P : ℕ → Type 0) (m : ℕ) → AllKnown P (scale_code m)
scale_known P m = known_if (m == 1) known_none (known_if (m == 2) (double_known P) (by_known P tos.Mul m))

pub divide_known : (P : ℕ → Type 0) (m : ℕ) → AllKnown P (divide_code m)
divide_known P m = known_if (m == 1) known_none (known_if (is_divisor m) (by_known P tos.Div m) (number_known P Ax 0))

-- ---- addresses

pub symbol_known : (P : ℕ → Type 0) (s : Sym) (at : ℕ) → P s.0 → AllKnown P (symbol_code s at)
symbol_known P s at known = record { all = (known, (known, tt)) }

pub address_known : (P : ℕ → Type 0) (at : ℕ) → AllKnown P (address_code at)
address_known P at = record { all = tt }

above_known : (P : ℕ → Type 0) → AllKnown P above_code
above_known P = record { all = tt }

pub raised_known : (P : ℕ → Type 0) (counter at : ℕ) → AllKnown P (raised_code counter at)
raised_known P counter at =
    let one : AllKnown P (call LdAi ∷ []) = record { all = tt } in
    known_then (address_known P counter) (known_then {a = call LdAi ∷ []} one (known_then {a = above_code} (above_known P) (add_known P ints.UInt at)))

pub offset_known : (P : ℕ → Type 0) (m : ℕ) → AllKnown P (offset_code m)
offset_known P m = known_if (m == 0) known_none (add_known P ints.UInt m)

-- ---- conversions

widen_known : (P : ℕ → Type 0) (kind : IntType) → AllKnown P (widen_code kind)
widen_known P ints.SChar = record { all = tt }
widen_known P ints.UChar = record { all = tt }
widen_known P ints.Short = record { all = tt }
widen_known P ints.UShort = record { all = tt }
widen_known P ints.Int = record { all = tt }
widen_known P ints.UInt = record { all = tt }
widen_known P ints.Long = known_none
widen_known P ints.ULong = known_none

to_known : (P : ℕ → Type 0) (w : Width) (from to : IntType) → AllKnown P (convert_to w from to)
to_known P Ax from to = narrow_known P to
to_known P Eax from to = widen_known P from

pub convert_known : (P : ℕ → Type 0) (from to : IntType) → AllKnown P (convert_code from to)
convert_known P from to = to_known P (width_of to) from to

pub push_known : (P : ℕ → Type 0) (w : Width) → AllKnown P (push_code w)
push_known P Ax = record { all = tt }
push_known P Eax = record { all = tt }

pub pass_known : (P : ℕ → Type 0) (m : ℕ) → AllKnown P (pass_bytes m)
pass_known P m =
    let one : AllKnown P (call PushA ∷ []) = record { all = tt } in
    let two : AllKnown P (call PushAx ∷ []) = record { all = tt } in
    let three : AllKnown P three_code = record { all = tt } in
    let four : AllKnown P (call PushEax ∷ []) = record { all = tt } in
    known_if (nat_lt m 2) one (known_if (nat_lt m 3) two (known_if (nat_lt m 4) three four))

pub test_known : (P : ℕ → Type 0) (w : Width) → AllKnown P (test_code w)
test_known P Ax = record { all = tt }
test_known P Eax = record { all = tt }

-- ---- loads

pub hold_known : (P : ℕ → Type 0) (place : Place) → AllKnown P (hold_code place)
hold_known P (places.Bank at) = known_none
hold_known P (places.Near at) = known_none
hold_known P (places.Data s at) = known_none
hold_known P (places.Far at) = known_then (offset_known P at) (record { all = tt })

pub settled_known : (P : ℕ → Type 0) (place : Place) → KnownPlace P place → KnownPlace P (settled place)
settled_known P (places.Bank at) h = h
settled_known P (places.Near at) h = h
settled_known P (places.Data s at) h = h
settled_known P (places.Far at) h = tt

pub bytes_known : (P : ℕ → Type 0) (place : Place) (e : Extent) → KnownPlace P place → AllKnown P (bytes_code place e)
bytes_known P (places.Bank at) One h = record { all = tt }
bytes_known P (places.Bank at) Two h = record { all = tt }
bytes_known P (places.Bank at) Three h = record { all = tt }
bytes_known P (places.Bank at) Four h = record { all = tt }
bytes_known P (places.Near at) One h = record { all = tt }
bytes_known P (places.Near at) Two h = record { all = tt }
bytes_known P (places.Near at) Three h = record { all = tt }
bytes_known P (places.Near at) Four h = record { all = tt }
bytes_known P (places.Data s at) One h = record { all = search (rules, h) }
bytes_known P (places.Data s at) Two h = record { all = search (rules, h) }
bytes_known P (places.Data s at) Three h = record { all = search (rules, h) }
bytes_known P (places.Data s at) Four h = record { all = search (rules, h) }
bytes_known P (places.Far at) One h = record { all = tt }
bytes_known P (places.Far at) Two h = record { all = tt }
bytes_known P (places.Far at) Three h = record { all = tt }
bytes_known P (places.Far at) Four h = known_then (offset_known P at) (record { all = tt })

-- so many shifts of A
pub shifts_known : (P : ℕ → Type 0) (m : ℕ) (op : Op) → AllKnown P (replicate m (shift_a op))
shifts_known P zero op = known_none
shifts_known P (suc m) op = known_more tt (shifts_known P m op)

pub turned_known : (P : ℕ → Type 0) (low : ℕ) (one first further : Op) → AllKnown P (if nat_le low 4 then replicate low (shift_a one) else shift_a first ∷ replicate (8 - low) (shift_a further))
turned_known P low one first further =
    known_if (nat_le low 4) (shifts_known P low one) (known_more tt (shifts_known P (8 - low) further))

cut_known : (P : ℕ → Type 0) (g : Field) → AllKnown P (cut_code g)
cut_known P g = known_if (is_topmost g) known_none (record { all = tt })

spread_known : (P : ℕ → Type 0) (width : ℕ) → AllKnown P (spread_code width)
spread_known P width = known_if (width == 8) known_none (record { all = tt })

signed_known : (P : ℕ → Type 0) (g : Field) → AllKnown P (signed_code g)
signed_known P g =
    known_if (is_signed_of g.kind)
    (known_then (spread_known P g.width) (narrow_known P ints.SChar))
    (narrow_known P ints.UChar)

byte_value_known : (P : ℕ → Type 0) (g : Field) → AllKnown P (byte_value_code g)
byte_value_known P g = known_then (turned_known P (g.low % 8) Lsr Asl Rol) (known_then (cut_known P g) (signed_known P g))

unless_all_known : (P : ℕ → Type 0) (m : ℕ) → AllKnown P (mask_unless_all m)
unless_all_known P m = known_if (m == 65535) known_none (mask_known P m)

wide_value_known : (P : ℕ → Type 0) (g : Field) → AllKnown P (wide_value_code g)
wide_value_known P g =
    known_if (is_signed_of g.kind)
    (known_then (shift_known P tos.Shl (16 - min (g.low + g.width) 16)) (shift_known P tos.Asr (16 - min g.width 16)))
    (known_then (shift_known P tos.Shr g.low) (unless_all_known P (ones g.width)))

once_known : (P : ℕ → Type 0) (b : Bool) (first next : Line) → AllKnown P (first ∷ next ∷ []) → AllKnown P (once b first next)
once_known P b first next w = known_if b w known_none

rounds_known : (P : ℕ → Type 0) (m : ℕ) (first next : Line) → AllKnown P (first ∷ next ∷ []) → AllKnown P (rounds m first next)
rounds_known P m first next w =
    known_then (once_known P (nat_le 1 m) first next w) (known_then (once_known P (nat_le 2 m) first next w)
    (known_then (once_known P (nat_le 3 m) first next w) (once_known P (nat_le 4 m) first next w)))

both_down_known : (P : ℕ → Type 0) (low : ℕ) → AllKnown P (both_down_code low)
both_down_known P low =
    known_if (nat_le low 4) (rounds_known P low (zero_page Lsr tmp1) (shift_a Ror) (record { all = tt }))
    (known_then (rounds_known P (8 - low) (shift_a Asl) (zero_page Rol tmp1) (record { all = tt })) (record { all = tt }))

astride_known : (P : ℕ → Type 0) (g : Field) → AllKnown P (astride_code g)
astride_known P g =
    known_then {a = zero_page Stx tmp1 ∷ []} (record { all = tt }) (known_then (both_down_known P g.low)
    (known_then {a = value And (first (ones g.width)) ∷ []} (record { all = tt }) (narrow_known P ints.UChar)))

extract_known : (P : ℕ → Type 0) (g : Field) → AllKnown P (extract_code g)
extract_known P g = known_if (is_astride g) (astride_known P g) (wide_value_known P g)

pub lowest_known : (P : ℕ → Type 0) (g : Field) → AllKnown P (lowest_code g)
lowest_known P g = known_if (is_in_byte g) (byte_value_known P g) (extract_known P g)

-- of a place and bytes on
pub onward_known : (P : ℕ → Type 0) (place : Place) (m : ℕ) → KnownPlace P place → KnownPlace P (onward place m)
onward_known P (places.Bank at) m h = tt
onward_known P (places.Near at) m h = tt
onward_known P (places.Data s at) m h = h
onward_known P (places.Far at) m h = tt

field_load_known : (P : ℕ → Type 0) (place : Place) (g : Field) → KnownPlace P place → AllKnown P (field_load place g)
field_load_known P place g h =
    known_if (is_in_byte g)
    (known_then (bytes_known P (onward place (g.low / 8)) One (onward_known P place (g.low / 8) h)) (byte_value_known P g))
    (known_then (bytes_known P place Two h) (extract_known P g))

pub load_known : (P : ℕ → Type 0) (place : Place) (access : Access) → KnownPlace P place → AllKnown P (load_code place access)
load_known P place (Whole kind) h = known_then (bytes_known P place (extent_of kind) h) (narrow_known P kind)
load_known P place (Part field) h = field_load_known P place field h

-- ---- stores

pub bytes_store_known : (P : ℕ → Type 0) (place : Place) (e : Extent) → KnownPlace P place → AllKnown P (bytes_store place e)
bytes_store_known P (places.Bank at) One h = record { all = tt }
bytes_store_known P (places.Bank at) Two h = record { all = tt }
bytes_store_known P (places.Bank at) Three h = record { all = tt }
bytes_store_known P (places.Bank at) Four h = record { all = tt }
bytes_store_known P (places.Near at) One h = record { all = tt }
bytes_store_known P (places.Near at) Two h = record { all = tt }
bytes_store_known P (places.Near at) Three h = record { all = tt }
bytes_store_known P (places.Near at) Four h = record { all = tt }
bytes_store_known P (places.Data s at) One h = record { all = search (rules, h) }
bytes_store_known P (places.Data s at) Two h = record { all = search (rules, h) }
bytes_store_known P (places.Data s at) Three h = record { all = search (rules, h) }
bytes_store_known P (places.Data s at) Four h = record { all = search (rules, h) }
bytes_store_known P (places.Far at) One h = record { all = tt }
bytes_store_known P (places.Far at) Two h = record { all = tt }
bytes_store_known P (places.Far at) Three h = record { all = tt }
bytes_store_known P (places.Far at) Four h = record { all = tt }

after_store_known : (P : ℕ → Type 0) (place : Place) (kind : IntType) → AllKnown P (after_store place kind)
after_store_known P (places.Bank at) kind = known_none
after_store_known P (places.Near at) kind = known_none
after_store_known P (places.Data s at) kind = known_none
after_store_known P (places.Far at) kind = narrow_known P kind

under_known : (P : ℕ → Type 0) (place : Place) → KnownPlace P place → AllKnown P (under_code place)
under_known P (places.Bank at) h = bytes_known P (places.Bank at) Two h
under_known P (places.Near at) h = bytes_known P (places.Near (byte_more at 2)) Two tt
under_known P (places.Data s at) h = bytes_known P (places.Data s at) Two h
under_known P (places.Far at) h = record { all = tt }

aligned_known : (P : ℕ → Type 0) (g : Field) → AllKnown P (aligned_code g)
aligned_known P g = known_then (mask_known P (ones g.width)) (shift_known P tos.Shl g.low)

pub unit_set_known : (P : ℕ → Type 0) (place : Place) (g : Field) → KnownPlace P place → AllKnown P (unit_set place g)
unit_set_known P place g h =
    let push : AllKnown P (call PushAx ∷ []) = record { all = tt } in
    let join : AllKnown P (call (Tos tos.Or Ax) ∷ []) = record { all = tt } in
    let joined : AllKnown P (call (Tos tos.Or Ax) ∷ bytes_store place Two) = known_then {a = call (Tos tos.Or Ax) ∷ []} join (bytes_store_known P place Two h) in
    let masked : AllKnown P (mask_code (others g) ++ (call (Tos tos.Or Ax) ∷ bytes_store place Two)) = known_then (mask_known P (others g)) joined in
    let under : AllKnown P (under_code place ++ (mask_code (others g) ++ (call (Tos tos.Or Ax) ∷ bytes_store place Two))) = known_then (under_known P place h) masked in
    known_then (aligned_known P g) (known_then {a = call PushAx ∷ []} push under)

unit_store_known : (P : ℕ → Type 0) (place : Place) (g : Field) → KnownPlace P place → AllKnown P (unit_store place g)
unit_store_known P place g h = known_then (unit_set_known P place g h) (extract_known P g)

pub merged_known : (P : ℕ → Type 0) (mode : Mode) (operand : Operand) (mask : ℕ) → KnownOperand P operand → AllKnown P (merged_code mode operand mask)
merged_known P mode operand mask whole =
    known_if (mask == 255) (known_more whole known_none) (known_more whole (known_more tt (known_more whole (known_more whole known_none))))

pub bits_known : (P : ℕ → Type 0) (place : Place) (mask : ℕ) → KnownPlace P place → AllKnown P (bits_store place mask)
bits_known P (places.Bank at) mask h = merged_known P ZeroPage (Zero (byte_more regbank at)) mask tt
bits_known P (places.Near at) mask h = known_then {a = value Ldy at ∷ []} (record { all = tt }) (merged_known P IndirectY (Zero sp) mask tt)
bits_known P (places.Data s at) mask h = merged_known P Absolute (At s at) mask h
bits_known P (places.Far at) mask h =
    known_then {a = popped_code} (record { all = tt }) (known_then {a = value Ldy at ∷ []} (record { all = tt }) (merged_known P IndirectY (Zero ptr1) mask tt))

byte_store_known : (P : ℕ → Type 0) (place : Place) (g : Field) → KnownPlace P place → AllKnown P (byte_store place g)
byte_store_known P place g h =
    let at : KnownPlace P (onward (settled place) (g.low / 8)) = onward_known P (settled place) (g.low / 8) (settled_known P place h) in
    known_then (turned_known P (g.low % 8) Asl Lsr Ror)
    (known_then (bits_known P (onward (settled place) (g.low / 8)) (own_bits g) at) (byte_value_known P g))

field_store_known : (P : ℕ → Type 0) (place : Place) (g : Field) → KnownPlace P place → AllKnown P (field_store place g)
field_store_known P place g h =
    known_if (is_in_byte g) (byte_store_known P place g h)
    (known_if (is_unit g) (bytes_store_known P place Two h) (unit_store_known P place g h))

pub store_known : (P : ℕ → Type 0) (place : Place) (access : Access) → KnownPlace P place → AllKnown P (store_code place access)
store_known P place (Whole kind) h = known_then (bytes_store_known P place (extent_of kind) h) (after_store_known P place kind)
store_known P place (Part field) h = field_store_known P place field h

pub copy_known : (P : ℕ → Type 0) (m : ℕ) → AllKnown P (copy_code m)
copy_known P m = record { all = tt }

-- ---- operators

pub wide_known : (P : ℕ → Type 0) (op : BinaryOp) (kind : IntType) → AllKnown P (wide_code op kind)
wide_known P op kind = known_more tt (known_if (is_comparison op) known_none (narrow_known P kind))
