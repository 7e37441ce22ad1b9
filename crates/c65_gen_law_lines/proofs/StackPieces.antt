-- What each piece of lines does to the values that wait.
use Rattle.std.proofs.Common.{ℕ, zero, suc, ◌+◌, ◌-◌, ◌%◌, ◌≤◌, ◌==◌, Bool, true, false, Option, None, Some, List, [], ◌∷◌, ◌++◌, refl, arith, ◌/◌, replicate}
use Rattle.std.specs.Prelude.{min, if◌then◌else◌, nat_le}
use Rattle.std.proofs.Math.Nat.{le-max_left, max-le, min-le_right}
use Rattle.c65_base.specs.declared.operators.UnaryOp.{UnaryOp}
use Rattle.c65_base.specs.declared.operators.UnaryOp.TheVariants as unary
use Rattle.c65_base.specs.declared.operators.BinaryOp.{BinaryOp}
use Rattle.c65_base.specs.declared.operators.BinaryOp.TheVariants as ops
use Rattle.c65_base.specs.declared.operators.StepKind.{StepKind}
use Rattle.c65_ints.specs.declared.types.IntType.{IntType}
use Rattle.c65_ints.specs.declared.types.IntType.TheVariants as ints
use Rattle.c65_ints.specs.Ranges.{is_signed_of}
use Rattle.c65_ctype.specs.Trees.{Ty, void, int, pointer, array, tag, function}
use Rattle.c65_ctype.specs.Trees as types
use Rattle.c65_csem.specs.Trees.{Typed, node, pack}
use Rattle.c65_mach.specs.declared.rows.Op.{Op}
use Rattle.c65_mach.specs.declared.rows.Op.TheVariants.{Lda, Ldy, Pha, Sta, Stx, Tax, Asl, Lsr, Rol, Ror}
use Rattle.c65_mach.specs.declared.rows.Mode.{Mode}
use Rattle.c65_code.specs.declared.line.Operand.{Operand}
use Rattle.c65_code.specs.declared.line.Line.{Line}
use Rattle.c65_code.specs.declared.routine.Routine.TheVariants.{PushAx, LdAi, LdEaxi, Tos, Unary}
use Rattle.c65_code.specs.declared.routine.UnaryRoutine.TheVariants.{Shl1}
use Rattle.c65_code.specs.declared.routine.TosOp.{TosOp}
use Rattle.c65_code.specs.declared.routine.TosOp.TheVariants as tos
use Rattle.c65_code.specs.declared.routine.Width.{Width}
use Rattle.c65_code.specs.declared.routine.Width.TheVariants.{Ax, Eax}
use Rattle.c65_genframe.specs.declared.home.Home.{Home}
use Rattle.c65_genframe.specs.declared.home.Home.TheVariants as homes
use Rattle.c65_genframe.specs.Frames.{Framed, home_of, is_raised, saved_bytes, type_bytes}
use Rattle.c65_genwide.specs.Lines.{value, call}
use Rattle.c65_genwide.specs.Passing.{pass_bytes}
use Rattle.c65_genwide.specs.Wide.{width_of, narrow_code, wide_code, tos_of, is_comparison}
use Rattle.c65_genload.specs.declared.places.Extent.{Extent}
use Rattle.c65_genload.specs.declared.places.Extent.TheVariants.{One, Two, Three, Four}
use Rattle.c65_genload.specs.declared.places.Field.{Field}
use Rattle.c65_genload.specs.declared.places.Place.{Place}
use Rattle.c65_genload.specs.declared.places.Place.TheVariants as places
use Rattle.c65_genload.specs.declared.places.Access.{Access}
use Rattle.c65_genload.specs.declared.places.Access.TheVariants.{Whole, Part}
use Rattle.c65_genload.specs.Words.{ptr1, tmp1, implied, zero_page, by_y, shift_a}
use Rattle.c65_genload.specs.Places.{type_in, byte_more, extent_of, settled, onward}
use Rattle.c65_genload.specs.Numbers.{number_code, add_word_code, add_by_width, add_code, mask_code, by_code, shift_code, scale_code, is_divisor, divide_code}
use Rattle.c65_genload.specs.Conversions.{widen_code, convert_code, convert_to, push_code, test_code, waiting, size_of}
use Rattle.c65_genload.specs.Addresses.{address_code, above_code, offset_code}
use Rattle.c65_genload.specs.Fields.{ones, others, is_in_byte, own_bits, is_topmost, cut_code, spread_code, byte_value_code, once, rounds, both_down_code, is_astride, astride_code, wide_value_code, extract_code, lowest_code, is_unit}
use Rattle.c65_genload.specs.Loads.{hold_code, bytes_code, field_load, load_code}
use Rattle.c65_genload.specs.Stores.{bytes_store, after_store, under_code, unit_set, unit_store, popped_code, merged_code, bits_store, byte_store, field_store, store_code, copy_code}
use Rattle.c65_gendirect.specs.declared.bytes.OperandByte.{OperandByte}
use Rattle.c65_gendirect.specs.declared.bytes.OperandByte.TheVariants as operand
use Rattle.c65_gendirect.specs.declared.through.Stored.{Stored}
use Rattle.c65_gendirect.specs.declared.through.Stored.TheVariants as stores
use Rattle.c65_gendirect.specs.Bytes.{op_of}
use Rattle.c65_gendirect.specs.Through.{read_bytes_code, point_code, byte_through_code, word_through_code}
use Rattle.c65_genexpr.specs.declared.operands.Operands.{Operands}
use Rattle.c65_genexpr.specs.declared.operands.Operands.TheVariants.{Numbers, PointerFirst, PointerLast, Pointers}
use Rattle.c65_genexpr.specs.Places.{more, soft_code, code_at, object_code, rest_code}
use Rattle.c65_genexpr.specs.Held.{keep_code, byte_behind_code, word_behind_code}
use Rattle.c65_genexpr.specs.Operands.{computes, between_code, difference_code, behind_code, unary_code, conversion_code, negative}
use Rattle.c65_genchange.specs.Stepping.{is_post}
use Rattle.c65_genexpr.specs.Steps.{back_code, after_code, long_step_code, open_code, close_code}
use Rattle.c65_genexpr.specs.Types.{kind_of}
use Rattle.c65_genexpr.specs.Spills.{kept_code, first_code, further_code, again_code, spill_code}
use Rattle.c65_genexpr.specs.Arguments.{clamped, passed_size, argument_code}
use Rattle.c65_gen_law_lines.specs.Stack.{argument_bytes}
pub use Rattle.c65_gen_law_lines.proofs.Leaves.{waits_append, Leaves, leaves_then, leaves_none, leaves_if, Still}

pub narrow_still : (kind : IntType) → Still (narrow_code kind)
narrow_still ints.SChar v = record { to = λ calls. refl }
narrow_still ints.UChar v = record { to = λ calls. refl }
narrow_still ints.Short v = leaves_none
narrow_still ints.UShort v = leaves_none
narrow_still ints.Int v = leaves_none
narrow_still ints.UInt v = leaves_none
narrow_still ints.Long v = leaves_none
narrow_still ints.ULong v = leaves_none

pub number_still : (w : Width) (n : ℕ) → Still (number_code w n)
number_still Ax n v = record { to = λ calls. refl }
number_still Eax n v = record { to = λ calls. refl }

add_width_still : (w : Width) (kind : IntType) (n : ℕ) → Still (add_by_width w kind n)
add_width_still Ax kind n v = leaves_then {a = add_word_code n} (record { to = λ calls. refl }) (narrow_still kind v)
add_width_still Eax kind n v = record { to = λ calls. refl }

add_still : (kind : IntType) (n : ℕ) → Still (add_code kind n)
add_still kind n v = add_width_still (width_of kind) kind n v

mask_still : (n : ℕ) → Still (mask_code n)
mask_still n v = record { to = λ calls. refl }

by_still : (op : TosOp) (n : ℕ) → Still (by_code op n)
by_still op n v = record { to = λ calls. refl }

shift_still : (op : TosOp) (n : ℕ) → Still (shift_code op n)
shift_still op n v = leaves_if (n == 0) leaves_none (by_still op n v)

double_still : Still (call (Unary Shl1 Ax) ∷ [])
double_still v = record { to = λ calls. refl }

pub scale_still : (n : ℕ) → Still (scale_code n)
scale_still n v = leaves_if (n == 1) leaves_none (leaves_if (n == 2) (double_still v) (by_still tos.Mul n v))

pub divide_still : (n : ℕ) → Still (divide_code n)
divide_still n v = leaves_if (n == 1) leaves_none (leaves_if (is_divisor n) (by_still tos.Div n v) (number_still Ax 0 v))

above_still : (n : ℕ) → Still (call LdAi ∷ (above_code ++ add_code ints.UInt n))
above_still n v = record { to = λ calls. refl }

soft_still : (raised : Bool) (pushed at stacked : ℕ) → Still (soft_code raised pushed at stacked)
soft_still true pushed at stacked v = leaves_then {a = address_code pushed} (record { to = λ calls. refl }) (above_still ((at + 65536 - stacked) % 65536) v)
soft_still false pushed at stacked v = record { to = λ calls. refl }

home_still : (f : Framed) (pushed i : ℕ) (home : Option Home) → Still (code_at f pushed i home)
home_still f pushed i None v = record { to = λ calls. refl }
home_still f pushed i (Some (homes.Bank b)) v = leaves_none
home_still f pushed i (Some (homes.Soft d)) v = soft_still (is_raised f i) pushed (more d pushed) f.stacked v

pub object_still : (f : Framed) (pushed i : ℕ) → Still (object_code f pushed i)
object_still f pushed i v = home_still f pushed i (home_of f i) v

pub further_still : (f : Framed) (pushed : ℕ) → Still (rest_code f pushed)
further_still f pushed v = leaves_then {a = address_code pushed} (record { to = λ calls. refl }) (above_still ((pushed + f.soft + saved_bytes f.bank + 65536 - f.stacked) % 65536) v)

one_still : (n : ℕ) → Still (add_code ints.UInt n)
one_still n v = record { to = λ calls. refl }

pub offset_still : (n : ℕ) → Still (offset_code n)
offset_still n v = leaves_if (n == 0) leaves_none (one_still n v)

widen_still : (kind : IntType) → Still (widen_code kind)
widen_still ints.SChar v = record { to = λ calls. refl }
widen_still ints.UChar v = record { to = λ calls. refl }
widen_still ints.Short v = record { to = λ calls. refl }
widen_still ints.UShort v = record { to = λ calls. refl }
widen_still ints.Int v = record { to = λ calls. refl }
widen_still ints.UInt v = record { to = λ calls. refl }
widen_still ints.Long v = leaves_none
widen_still ints.ULong v = leaves_none

to_still : (w : Width) (from to : IntType) → Still (convert_to w from to)
to_still Ax from to v = narrow_still to v
to_still Eax from to v = widen_still from v

pub convert_still : (from to : IntType) → Still (convert_code from to)
convert_still from to v = to_still (width_of to) from to v

pub conversion_still : (t : Ty) (from : IntType) → Still (conversion_code t from)
conversion_still void from v = leaves_none
conversion_still (int k) from v = convert_still from k v
conversion_still (pointer q) from v = convert_still from ints.UInt v
conversion_still (array q n) from v = convert_still from ints.UInt v
conversion_still (tag n) from v = convert_still from ints.UInt v
conversion_still (function g) from v = convert_still from ints.UInt v

pub push_leaves : (w : Width) (v : List ℕ) → Leaves v (push_code w) (waiting w ∷ v)
push_leaves Ax v = record { to = λ calls. refl }
push_leaves Eax v = record { to = λ calls. refl }

-- an argument has one to four bytes
pub number_some : (kind : IntType) → 1 ≤ size_of kind
number_some ints.SChar = omega arith
number_some ints.UChar = omega arith
number_some ints.Short = omega arith
number_some ints.UShort = omega arith
number_some ints.Int = omega arith
number_some ints.UInt = omega arith
number_some ints.Long = omega arith
number_some ints.ULong = omega arith

pub number_few : (kind : IntType) → size_of kind ≤ 4
number_few ints.SChar = omega arith
number_few ints.UChar = omega arith
number_few ints.Short = omega arith
number_few ints.UShort = omega arith
number_few ints.Int = omega arith
number_few ints.UInt = omega arith
number_few ints.Long = omega arith
number_few ints.ULong = omega arith

clamped_some : (n : ℕ) → 1 ≤ clamped n
clamped_some n = le-max_left 1 (min n 4)

clamped_few : (n : ℕ) → clamped n ≤ 4
clamped_few n = max-le (omega arith) (min-le_right n 4)

pub passed_some : (f : Framed) (e : Typed) → 1 ≤ passed_size f e
passed_some f (node t (pack e)) = clamped_some (type_bytes f (types.type_in t))
passed_some f (node t n) = number_some (kind_of (types.type_in t))

pub passed_few : (f : Framed) (e : Typed) → passed_size f e ≤ 4
passed_few f (node t (pack e)) = clamped_few (type_bytes f (types.type_in t))
passed_few f (node t n) = number_few (kind_of (types.type_in t))

pass_leaves : (n : ℕ) (v : List ℕ) → 1 ≤ n → n ≤ 4 → Leaves v (pass_bytes n) (n ∷ v)
pass_leaves zero v some few = absurd (omega (arith, some))
pass_leaves (suc zero) v some few = record { to = λ calls. refl }
pass_leaves (suc (suc zero)) v some few = record { to = λ calls. refl }
pass_leaves (suc (suc (suc zero))) v some few = record { to = λ calls. refl }
pass_leaves (suc (suc (suc (suc zero)))) v some few = record { to = λ calls. refl }
pass_leaves (suc (suc (suc (suc (suc n))))) v some few = absurd (omega (arith, few))

pub argument_leaves : (f : Framed) (kept : Bool) (e : Typed) (v : List ℕ) → Leaves v (argument_code kept (passed_size f e)) (argument_bytes kept (passed_size f e) ++ v)
argument_leaves f true e v = leaves_none
argument_leaves f false e v = pass_leaves (passed_size f e) v (passed_some f e) (passed_few f e)

pub test_still : (w : Width) → Still (test_code w)
test_still Ax v = record { to = λ calls. refl }
test_still Eax v = record { to = λ calls. refl }

-- ---- loads and stores

-- the address of a place that is anywhere waits
abbrev pub holding : Place → List ℕ → List ℕ
holding (places.Far at) v = 2 ∷ v
holding _ v = v

push_one : (v : List ℕ) → Leaves v (call PushAx ∷ []) (2 ∷ v)
push_one v = record { to = λ calls. refl }

take_four : (v : List ℕ) → Leaves v (call LdEaxi ∷ []) v
take_four v = record { to = λ calls. refl }

pub hold_leaves : (place : Place) (v : List ℕ) → Leaves v (hold_code place) (holding place v)
hold_leaves (places.Bank b) v = leaves_none
hold_leaves (places.Near at) v = leaves_none
hold_leaves (places.Data s at) v = leaves_none
hold_leaves (places.Far at) v = leaves_then (offset_still at v) (push_one v)

pub bytes_still : (place : Place) (e : Extent) → Still (bytes_code place e)
bytes_still (places.Bank b) One v = record { to = λ calls. refl }
bytes_still (places.Bank b) Two v = record { to = λ calls. refl }
bytes_still (places.Bank b) Three v = record { to = λ calls. refl }
bytes_still (places.Bank b) Four v = record { to = λ calls. refl }
bytes_still (places.Near at) One v = record { to = λ calls. refl }
bytes_still (places.Near at) Two v = record { to = λ calls. refl }
bytes_still (places.Near at) Three v = record { to = λ calls. refl }
bytes_still (places.Near at) Four v = record { to = λ calls. refl }
bytes_still (places.Data s at) One v = record { to = λ calls. refl }
bytes_still (places.Data s at) Two v = record { to = λ calls. refl }
bytes_still (places.Data s at) Three v = record { to = λ calls. refl }
bytes_still (places.Data s at) Four v = record { to = λ calls. refl }
bytes_still (places.Far at) One v = record { to = λ calls. refl }
bytes_still (places.Far at) Two v = record { to = λ calls. refl }
bytes_still (places.Far at) Three v = record { to = λ calls. refl }
bytes_still (places.Far at) Four v = leaves_then (offset_still at v) (take_four v)

repeated_still : (n : ℕ) (op : Op) → Still (replicate n (shift_a op))
repeated_still zero op v = leaves_none
repeated_still (suc n) op v = leaves_then {a = shift_a op ∷ []} (record { to = λ calls. refl }) (repeated_still n op v)

pub turned_still : (low : ℕ) (one first further : Op) → Still (if nat_le low 4 then replicate low (shift_a one) else shift_a first ∷ replicate (8 - low) (shift_a further))
turned_still low one first further v = leaves_if (nat_le low 4) (repeated_still low one v) (leaves_then {a = shift_a first ∷ []} (record { to = λ calls. refl }) (repeated_still (8 - low) further v))

cut_still : (g : Field) → Still (cut_code g)
cut_still g v = leaves_if (is_topmost g) leaves_none (record { to = λ calls. refl })

spread_still : (width : ℕ) → Still (spread_code width)
spread_still width v = leaves_if (width == 8) leaves_none (record { to = λ calls. refl })

byte_value_still : (g : Field) → Still (byte_value_code g)
byte_value_still g v =
    leaves_then (turned_still (g.low % 8) Lsr Asl Rol v) (leaves_then (cut_still g v) (leaves_if (is_signed_of g.kind) (leaves_then (spread_still g.width v) (narrow_still ints.SChar v)) (narrow_still ints.UChar v)))

wide_value_still : (g : Field) → Still (wide_value_code g)
wide_value_still g v =
    leaves_if (is_signed_of g.kind) (leaves_then (shift_still tos.Shl (16 - min (g.low + g.width) 16) v) (shift_still tos.Asr (16 - min g.width 16) v)) (leaves_then (shift_still tos.Shr g.low v) (leaves_if (ones g.width == 65535) leaves_none (mask_still (ones g.width) v)))

once_still : (b : Bool) (first next : Line) → Still (first ∷ next ∷ []) → Still (once b first next)
once_still b first next p v = leaves_if b (p v) leaves_none

rounds_still : (n : ℕ) (first next : Line) → Still (first ∷ next ∷ []) → Still (rounds n first next)
rounds_still n first next p v =
    leaves_then (once_still (nat_le 1 n) first next p v) (leaves_then (once_still (nat_le 2 n) first next p v) (leaves_then (once_still (nat_le 3 n) first next p v) (once_still (nat_le 4 n) first next p v)))

both_down_still : (low : ℕ) → Still (both_down_code low)
both_down_still low v =
    leaves_if (nat_le low 4) (rounds_still low (zero_page Lsr tmp1) (shift_a Ror) (λ u. record { to = λ calls. refl }) v)
    (leaves_then (rounds_still (8 - low) (shift_a Asl) (zero_page Rol tmp1) (λ u. record { to = λ calls. refl }) v) (record { to = λ calls. refl }))

astride_still : (g : Field) → Still (astride_code g)
astride_still g v = leaves_then {a = zero_page Stx tmp1 ∷ []} (record { to = λ calls. refl }) (leaves_then (both_down_still g.low v) (record { to = λ calls. refl }))

extract_still : (g : Field) → Still (extract_code g)
extract_still g v = leaves_if (is_astride g) (astride_still g v) (wide_value_still g v)

lowest_still : (g : Field) → Still (lowest_code g)
lowest_still g v = leaves_if (is_in_byte g) (byte_value_still g v) (extract_still g v)

field_load_still : (place : Place) (g : Field) → Still (field_load place g)
field_load_still place g v = leaves_if (is_in_byte g) (leaves_then (bytes_still (onward place (g.low / 8)) One v) (byte_value_still g v)) (leaves_then (bytes_still place Two v) (extract_still g v))

pub load_still : (place : Place) (access : Access) → Still (load_code place access)
load_still place (Whole kind) v = leaves_then (bytes_still place (extent_of kind) v) (narrow_still kind v)
load_still place (Part field) v = field_load_still place field v

pub store_leaves : (place : Place) (e : Extent) (v : List ℕ) → Leaves (holding place v) (bytes_store place e) v
store_leaves (places.Bank b) One v = record { to = λ calls. refl }
store_leaves (places.Bank b) Two v = record { to = λ calls. refl }
store_leaves (places.Bank b) Three v = record { to = λ calls. refl }
store_leaves (places.Bank b) Four v = record { to = λ calls. refl }
store_leaves (places.Near at) One v = record { to = λ calls. refl }
store_leaves (places.Near at) Two v = record { to = λ calls. refl }
store_leaves (places.Near at) Three v = record { to = λ calls. refl }
store_leaves (places.Near at) Four v = record { to = λ calls. refl }
store_leaves (places.Data s at) One v = record { to = λ calls. refl }
store_leaves (places.Data s at) Two v = record { to = λ calls. refl }
store_leaves (places.Data s at) Three v = record { to = λ calls. refl }
store_leaves (places.Data s at) Four v = record { to = λ calls. refl }
store_leaves (places.Far at) One v = record { to = λ calls. refl }
store_leaves (places.Far at) Two v = record { to = λ calls. refl }
store_leaves (places.Far at) Three v = record { to = λ calls. refl }
store_leaves (places.Far at) Four v = record { to = λ calls. refl }

after_store_still : (place : Place) (kind : IntType) → Still (after_store place kind)
after_store_still (places.Bank b) kind v = leaves_none
after_store_still (places.Near at) kind v = leaves_none
after_store_still (places.Data s at) kind v = leaves_none
after_store_still (places.Far at) kind v = narrow_still kind v

under_still : (place : Place) → Still (under_code place)
under_still (places.Bank b) v = bytes_still (places.Bank b) Two v
under_still (places.Near at) v = bytes_still (places.Near (byte_more at 2)) Two v
under_still (places.Data s at) v = bytes_still (places.Data s at) Two v
under_still (places.Far at) v = record { to = λ calls. refl }

join_one : (v : List ℕ) → Leaves (2 ∷ v) (call (Tos tos.Or Ax) ∷ []) v
join_one v = record { to = λ calls. refl }

pub unit_set_leaves : (place : Place) (g : Field) (v : List ℕ) → Leaves (holding place v) (unit_set place g) v
unit_set_leaves place g v =
    let h : List ℕ = holding place v in
    leaves_then (leaves_then (mask_still (ones g.width) h) (shift_still tos.Shl g.low h))
    (leaves_then (push_one h) (leaves_then (under_still place (2 ∷ h)) (leaves_then (mask_still (others g) (2 ∷ h)) (leaves_then (join_one h) (store_leaves place Two v)))))

unit_leaves : (place : Place) (g : Field) (v : List ℕ) → Leaves (holding place v) (unit_store place g) v
unit_leaves place g v = leaves_then (unit_set_leaves place g v) (extract_still g v)

pub merged_still : (mode : Mode) (operand : Operand) (mask : ℕ) → Still (merged_code mode operand mask)
merged_still mode operand mask v = leaves_if (mask == 255) (record { to = λ calls. refl }) (record { to = λ calls. refl })

pub bits_leaves : (place : Place) (n mask : ℕ) (v : List ℕ) → Leaves (holding place v) (bits_store (onward (settled place) n) mask) v
bits_leaves (places.Bank b) n mask v = merged_still _ _ mask v
bits_leaves (places.Near at) n mask v = leaves_then {a = value Ldy (byte_more at n) ∷ []} (record { to = λ calls. refl }) (merged_still _ _ mask v)
bits_leaves (places.Data s at) n mask v = merged_still _ _ mask v
bits_leaves (places.Far at) n mask v = leaves_then {a = popped_code} (record { to = λ calls. refl }) (leaves_then {a = value Ldy (byte_more 0 n) ∷ []} (record { to = λ calls. refl }) (merged_still _ _ mask v))

byte_leaves : (place : Place) (g : Field) (v : List ℕ) → Leaves (holding place v) (byte_store place g) v
byte_leaves place g v = leaves_then (turned_still (g.low % 8) Asl Lsr Ror (holding place v)) (leaves_then (bits_leaves place (g.low / 8) (own_bits g) v) (byte_value_still g v))

field_leaves : (place : Place) (g : Field) (v : List ℕ) → Leaves (holding place v) (field_store place g) v
field_leaves place g v = leaves_if (is_in_byte g) (byte_leaves place g v) (leaves_if (is_unit g) (store_leaves place Two v) (unit_leaves place g v))

pub stored_leaves : (place : Place) (access : Access) (v : List ℕ) → Leaves (holding place v) (store_code place access) v
stored_leaves place (Whole kind) v = leaves_then (store_leaves place (extent_of kind) v) (after_store_still place kind v)
stored_leaves place (Part field) v = field_leaves place field v

pub copy_leaves : (n : ℕ) (v : List ℕ) → Leaves (2 ∷ v) (copy_code n) v
copy_leaves n v = record { to = λ calls. refl }

-- ---- structures that calls give

further_bytes_still : (e : Extent) → Still (further_code e)
further_bytes_still One v = leaves_none
further_bytes_still Two v = record { to = λ calls. refl }
further_bytes_still Three v = record { to = λ calls. refl }
further_bytes_still Four v = record { to = λ calls. refl }

pub spill_still : (address : List Line) (e : Extent) → Still address → Still (spill_code address e)
spill_still address e still v =
    let kept : Leaves v kept_code v = record { to = λ calls. refl } in
    let first : Leaves v first_code v = record { to = λ calls. refl } in
    let again : Leaves v again_code v = record { to = λ calls. refl } in
    leaves_then kept (leaves_then (still v) (leaves_then first (leaves_then (further_bytes_still e v) again)))

-- ---- operators

pub unary_still : (op : UnaryOp) (w : Width) → Still (unary_code op w)
unary_still unary.Neg w v = record { to = λ calls. refl }
unary_still unary.BitNot w v = record { to = λ calls. refl }
unary_still _ w v = leaves_none

tos_leaves : (op : TosOp) (w : Width) (v : List ℕ) → Leaves (waiting w ∷ v) (call (Tos op w) ∷ []) v
tos_leaves op Ax v = record { to = λ calls. refl }
tos_leaves op Eax v = record { to = λ calls. refl }

pub wide_leaves : (op : BinaryOp) (kind : IntType) (v : List ℕ) → Leaves (waiting (width_of kind) ∷ v) (wide_code op kind) v
wide_leaves op kind v = leaves_then (tos_leaves (tos_of op (is_signed_of kind)) (width_of kind) v) (leaves_if (is_comparison op) leaves_none (narrow_still kind v))

pub between_leaves : (operands : Operands) (v : List ℕ) → Leaves v (between_code operands) (waiting (width_of (computes operands)) ∷ v)
between_leaves (Numbers kind) v = push_leaves (width_of kind) v
between_leaves (PointerFirst size) v = push_leaves Ax v
between_leaves (PointerLast size) v = leaves_then (scale_still size v) (push_leaves Ax v)
between_leaves (Pointers size) v = push_leaves Ax v

difference_still : (op : BinaryOp) (size : ℕ) → Still (difference_code op size)
difference_still ops.Sub size v = divide_still size v
difference_still _ size v = leaves_none

pub behind_leaves : (op : BinaryOp) (operands : Operands) (right : IntType) (v : List ℕ) → Leaves (waiting (width_of (computes operands)) ∷ v) (behind_code op operands right) v
behind_leaves op (Numbers kind) right v = leaves_then (convert_still right kind (waiting (width_of kind) ∷ v)) (wide_leaves op kind v)
behind_leaves op (PointerFirst size) right v = leaves_then (scale_still size (2 ∷ v)) (wide_leaves op ints.UInt v)
behind_leaves op (PointerLast size) right v = wide_leaves op ints.UInt v
behind_leaves op (Pointers size) right v = leaves_then (wide_leaves op ints.UInt v) (difference_still op size v)

-- ---- assignments

loaded_still : (d : OperandByte) → Still (op_of Lda d)
loaded_still (operand.Number n) v = record { to = λ calls. refl }
loaded_still (operand.Low s at) v = record { to = λ calls. refl }
loaded_still (operand.High s at) v = record { to = λ calls. refl }
loaded_still (operand.Near at) v = record { to = λ calls. refl }
loaded_still (operand.Data s at) v = record { to = λ calls. refl }
loaded_still (operand.Zero at) v = record { to = λ calls. refl }

pub read_bytes_still : (at : ℕ) (stored : Stored) → Still (read_bytes_code at stored)
read_bytes_still at (stores.Single low) v = leaves_then (loaded_still low v) (record { to = λ calls. refl })
read_bytes_still at (stores.Word low high) v =
    let aside : Leaves v (implied Pha ∷ []) v = record { to = λ calls. refl } in
    leaves_then (loaded_still low v) (leaves_then aside (leaves_then (loaded_still high v) (record { to = λ calls. refl })))
read_bytes_still at (stores.Fixed low high) v =
    let first : Leaves v (value Ldy (byte_more at 1) ∷ by_y Sta ptr1 ∷ implied Tax ∷ []) v = record { to = λ calls. refl } in
    leaves_then (loaded_still high v) (leaves_then first (leaves_then (loaded_still low v) (record { to = λ calls. refl })))

point_still : (low high : OperandByte) → Still (point_code low high)
point_still low high v =
    let first : Leaves v (zero_page Sta ptr1 ∷ []) v = record { to = λ calls. refl } in
    leaves_then (loaded_still low v) (leaves_then first (leaves_then (loaded_still high v) (record { to = λ calls. refl })))

pub byte_through_still : (at : ℕ) (low high : OperandByte) → Still (byte_through_code at low high)
byte_through_still at low high v =
    let aside : Leaves v (implied Tax ∷ []) v = record { to = λ calls. refl } in
    leaves_then aside (leaves_then (point_still low high v) (record { to = λ calls. refl }))

pub word_through_still : (at : ℕ) (low high : OperandByte) → Still (word_through_code at low high)
word_through_still at low high v =
    let aside : Leaves v (implied Pha ∷ []) v = record { to = λ calls. refl } in
    leaves_then aside (leaves_then (point_still low high v) (record { to = λ calls. refl }))

pub keep_still : Still keep_code
keep_still v = record { to = λ calls. refl }

pub byte_behind_still : (at : ℕ) → Still (byte_behind_code at)
byte_behind_still at v = record { to = λ calls. refl }

pub word_behind_still : (at : ℕ) → Still (word_behind_code at)
word_behind_still at v = record { to = λ calls. refl }

back_still : (access : Access) (n : ℕ) → Still (back_code access n)
back_still (Whole kind) n v = add_still kind (negative n) v
back_still (Part field) n v = leaves_then (add_still field.kind (negative n) v) (lowest_still (record field { low = 0 }) v)

after_still : (how : StepKind) (access : Access) (n : ℕ) → Still (after_code how access n)
after_still how access n v = leaves_if (is_post how) (back_still access n v) leaves_none

pub long_step_still : (how : StepKind) (place : Place) (access : Access) (n : ℕ) → Still (long_step_code how place access n)
long_step_still how place access n v =
    let h : List ℕ = holding place v in
    leaves_then (hold_leaves place v) (leaves_then (load_still (settled place) access h) (leaves_then (add_still (type_in access) n h) (leaves_then (stored_leaves place access v) (after_still how access n v))))

pub open_leaves : (place : Place) (access : Access) (kind : IntType) (v : List ℕ) → Leaves v (open_code place access kind) (waiting (width_of kind) ∷ holding place v)
open_leaves place access kind v =
    let h : List ℕ = holding place v in
    leaves_then (hold_leaves place v) (leaves_then (load_still (settled place) access h) (leaves_then (convert_still (type_in access) kind h) (push_leaves (width_of kind) h)))

pub close_leaves : (op : BinaryOp) (operands : Operands) (right : IntType) (place : Place) (access : Access) (v : List ℕ) → Leaves (waiting (width_of (computes operands)) ∷ holding place v) (close_code op operands right place access) v
close_leaves op operands right place access v =
    let h : List ℕ = holding place v in
    leaves_then (behind_leaves op operands right h) (leaves_then (convert_still (computes operands) (type_in access) h) (stored_leaves place access v))
