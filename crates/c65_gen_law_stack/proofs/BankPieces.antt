-- The pieces of which lines are made write nothing of regbank, but for stores to a place in regbank.
use Rattle.std.proofs.Common.{◌≡◌, ℕ, ◌+◌, ◌-◌, ◌%◌, ◌==◌, Bool, true, false, Option, None, Some, List, [], ◌∷◌, ◌++◌, refl, ◌∙◌, zero, suc, ◌/◌, replicate}
use Rattle.std.specs.Prelude.{min, if◌then◌else◌, nat_lt, nat_le}
use Rattle.std.specs.List.{list_all}
use Rattle.std.proofs.lemmas.Bool.{and_from}
use Rattle.std.proofs.lemmas.List.Folds.{list_all-append}
use Rattle.c65_base.specs.declared.operators.UnaryOp.{UnaryOp}
use Rattle.c65_base.specs.declared.operators.UnaryOp.TheVariants as unary
use Rattle.c65_base.specs.declared.operators.BinaryOp.{BinaryOp}
use Rattle.c65_base.specs.declared.operators.BinaryOp.TheVariants as ops
use Rattle.c65_base.specs.declared.operators.StepKind.{StepKind}
use Rattle.c65_ints.specs.declared.types.IntType.{IntType}
use Rattle.c65_ints.specs.declared.types.IntType.TheVariants as ints
use Rattle.c65_ints.specs.Ranges.{is_signed_of}
use Rattle.c65_ctype.specs.Trees.{Ty, void, int, pointer, array, tag, function}
use Rattle.c65_base.specs.declared.library.Library.{Library}
use Rattle.c65_mach.specs.declared.rows.Op.{Op}
use Rattle.c65_mach.specs.declared.rows.Op.TheVariants.{Lda, Ldy, Pha, Sta, Stx, Tax, And, Asl, Eor, Lsr, Rol, Ror}
use Rattle.c65_code.specs.declared.line.Sym.{Sym}
use Rattle.c65_mach.specs.declared.rows.Mode.{Mode}
use Rattle.c65_mach.specs.declared.rows.Mode.TheVariants.{IndirectY, Absolute}
use Rattle.c65_code.specs.declared.line.Operand.{Operand}
use Rattle.c65_code.specs.declared.line.Operand.TheVariants.{Zero, At}
use Rattle.c65_code.specs.declared.line.Line.{Line}
use Rattle.c65_code.specs.declared.line.Line.TheVariants.{Label, Call, Do}
use Rattle.c65_code.specs.declared.line.Callee.TheVariants as callees
use Rattle.c65_code.specs.declared.routine.Count.TheVariants.{Two as two_bytes}
use Rattle.c65_code.specs.declared.routine.Routine.TheVariants.{PushA, PushAx, PushEax, LdAi, LdEaxi, Tos, Unary, IncSp, Library as library_routine}
use Rattle.c65_code.specs.declared.routine.UnaryRoutine.TheVariants.{Shl1}
use Rattle.c65_code.specs.declared.routine.TosOp.{TosOp}
use Rattle.c65_code.specs.declared.routine.TosOp.TheVariants as tos
use Rattle.c65_code.specs.declared.routine.Width.{Width}
use Rattle.c65_code.specs.declared.routine.Width.TheVariants.{Ax, Eax}
use Rattle.c65_genframe.specs.declared.home.Home.{Home}
use Rattle.c65_genframe.specs.declared.home.Home.TheVariants as homes
use Rattle.c65_genframe.specs.Registers.{registers}
use Rattle.c65_genframe.specs.Frames.{Framed, home_of, is_raised, saved_bytes}
use Rattle.c65_genframe.specs.Symbols.{numbers_of, object_symbol, function_symbol}
use Rattle.c65_genwide.specs.Lines.{value, call}
use Rattle.c65_genwide.specs.Passing.{three_code, pass_bytes}
use Rattle.c65_genwide.specs.Wide.{width_of, narrow_code, wide_code, tos_of, is_comparison}
use Rattle.c65_genload.specs.declared.places.Extent.{Extent}
use Rattle.c65_genload.specs.declared.places.Extent.TheVariants.{One, Two, Three, Four}
use Rattle.c65_genload.specs.declared.places.Field.{Field}
use Rattle.c65_genload.specs.declared.places.Place.{Place}
use Rattle.c65_genload.specs.declared.places.Place.TheVariants as places
use Rattle.c65_genload.specs.declared.places.Access.{Access}
use Rattle.c65_genload.specs.declared.places.Access.TheVariants.{Whole, Part}
use Rattle.c65_genload.specs.Words.{ptr1, tmp1, implied, zero_page, by_y, sp, shift_a}
use Rattle.c65_genload.specs.Places.{type_in, byte_more, extent_of, settled, onward, word_more}
use Rattle.c65_genload.specs.Numbers.{first, number_code, add_word_code, add_by_width, add_code, mask_code, by_code, shift_code, scale_code, is_divisor, divide_code}
use Rattle.c65_genload.specs.Conversions.{widen_code, convert_code, convert_to, push_code, test_code}
use Rattle.c65_genload.specs.Addresses.{symbol_code, address_code, above_code, raised_code, offset_code}
use Rattle.c65_genload.specs.Fields.{ones, others, is_in_byte, own_bits, down_code, up_code, is_topmost, cut_code, spread_code, byte_value_code, once, rounds, is_astride, astride_code, wide_value_code, extract_code, lowest_code, is_unit}
use Rattle.c65_genload.specs.Loads.{hold_code, bytes_code, field_load, load_code}
use Rattle.c65_genfield.specs.Bits.{own_bits_code}
use Rattle.c65_genload.specs.Stores.{bytes_store, after_store, under_code, unit_set, unit_store, popped_code, merged_code, bits_store, byte_store, field_store, store_code, copy_code}
use Rattle.c65_gendirect.specs.declared.bytes.OperandByte.{OperandByte}
use Rattle.c65_gendirect.specs.declared.bytes.OperandByte.TheVariants as operand
use Rattle.c65_gendirect.specs.declared.through.Stored.{Stored}
use Rattle.c65_gendirect.specs.declared.through.Stored.TheVariants as stores
use Rattle.c65_gendirect.specs.Bytes.{op_of}
use Rattle.c65_gendirect.specs.Through.{read_bytes_code, point_code, byte_through_code, word_through_code}
use Rattle.c65_gendirect.specs.Pointed.{behind_pointer_code}
use Rattle.c65_genexpr.specs.declared.destination.Destination.{Destination}
use Rattle.c65_genexpr.specs.declared.destination.Destination.TheVariants.{Registers, Pointer}
use Rattle.c65_genexpr.specs.Destination.{arrived, destination_by, pointed_code, fetch_by, fetch_code as loaded_code}
use Rattle.c65_genexpr.specs.declared.operands.Operands.{Operands}
use Rattle.c65_genexpr.specs.declared.operands.Operands.TheVariants.{Numbers, PointerFirst, PointerLast, Pointers}
use Rattle.c65_genexpr.specs.declared.arguments.Passed.{Passed}
use Rattle.c65_genexpr.specs.Places.{more, soft_code, code_at, object_code, rest_code}
use Rattle.c65_genexpr.specs.Operands.{computes, between_code, difference_code, behind_code, unary_code, conversion_code, negative}
use Rattle.c65_genchange.specs.Stepping.{is_post}
use Rattle.c65_genexpr.specs.Held.{byte_behind_code, word_behind_code}
use Rattle.c65_genexpr.specs.Steps.{back_code, long_step_code, open_code, close_code}
use Rattle.c65_genexpr.specs.declared.types.Outcome.{Outcome}
use Rattle.c65_genexpr.specs.declared.types.Outcome.TheVariants.{Nothing, Number, Area}
use Rattle.c65_genexpr.specs.Types.{given_bytes}
use Rattle.c65_genexpr.specs.Spills.{kept_code, first_code, further_code, again_code, spill_code}
use Rattle.c65_genexpr.specs.Arguments.{reads_of, argument_code}
use Rattle.c65_genexpr.specs.Calls.{count_code, fetch_code, result_code, library_at, named_by, named_code, pointer_code, direct_code, ptr4_code}
use Rattle.c65_gen_law_stack.specs.Bank.{leaves_bank}

-- lines that write nothing of regbank
pub record Clear (lines : List Line) : Type 0 where
  pub all : list_all leaves_bank lines ≡ true

pub clear_then : {a b : List Line} → Clear a → Clear b → Clear (a ++ b)
clear_then {a = a} {b = b} p q = record { all = list_all-append leaves_bank a b ∙ and_from (list_all leaves_bank a) (list_all leaves_bank b) p.all q.all }

pub clear_if : (b : Bool) {x y : List Line} → Clear x → Clear y → Clear (if b then x else y)
clear_if true p q = p
clear_if false p q = q

pub clear_none : Clear []
clear_none = record { all = refl }

pub label_clear : (l : ℕ) → Clear (Label l ∷ [])
label_clear l = record { all = refl }

-- a place that is not in regbank
abbrev pub IsOff : Place → Type 0
IsOff (places.Bank b) = ⊥
IsOff _ = Unit {0}

pub narrow_clear : (kind : IntType) → Clear (narrow_code kind)
narrow_clear ints.SChar = record { all = refl }
narrow_clear ints.UChar = record { all = refl }
narrow_clear ints.Short = clear_none
narrow_clear ints.UShort = clear_none
narrow_clear ints.Int = clear_none
narrow_clear ints.UInt = clear_none
narrow_clear ints.Long = clear_none
narrow_clear ints.ULong = clear_none

pub number_clear : (w : Width) (n : ℕ) → Clear (number_code w n)
number_clear Ax n = record { all = refl }
number_clear Eax n = record { all = refl }

add_width_clear : (w : Width) (kind : IntType) (n : ℕ) → Clear (add_by_width w kind n)
add_width_clear Ax kind n = let one : Clear (add_word_code n) = record { all = refl } in clear_then one (narrow_clear kind)
add_width_clear Eax kind n = record { all = refl }

pub add_clear : (kind : IntType) (n : ℕ) → Clear (add_code kind n)
add_clear kind n = add_width_clear (width_of kind) kind n

mask_clear : (n : ℕ) → Clear (mask_code n)
mask_clear n = record { all = refl }

by_clear : (op : TosOp) (n : ℕ) → Clear (by_code op n)
by_clear op n = record { all = refl }

shift_clear : (op : TosOp) (n : ℕ) → Clear (shift_code op n)
shift_clear op n = clear_if (n == 0) clear_none (by_clear op n)

pub scale_clear : (n : ℕ) → Clear (scale_code n)
scale_clear n = let one : Clear (call (Unary Shl1 Ax) ∷ []) = record { all = refl } in clear_if (n == 1) clear_none (clear_if (n == 2) one (by_clear tos.Mul n))

pub divide_clear : (n : ℕ) → Clear (divide_code n)
divide_clear n = clear_if (n == 1) clear_none (clear_if (is_divisor n) (by_clear tos.Div n) (number_clear Ax 0))

pub symbol_clear : (s : Sym) (at : ℕ) → Clear (symbol_code s at)
symbol_clear s at = record { all = refl }

address_clear : (at : ℕ) → Clear (address_code at)
address_clear at = record { all = refl }

raised_clear : (counter at : ℕ) → Clear (raised_code counter at)
raised_clear counter at = let one : Clear (call LdAi ∷ []) = record { all = refl } in let above : Clear above_code = record { all = refl } in clear_then (address_clear counter) (clear_then one (clear_then above (add_clear ints.UInt at)))

pub offset_clear : (n : ℕ) → Clear (offset_code n)
offset_clear n = clear_if (n == 0) clear_none (add_clear ints.UInt n)

soft_clear : (raised : Bool) (pushed at stacked : ℕ) → Clear (soft_code raised pushed at stacked)
soft_clear true pushed at stacked = raised_clear pushed ((at + 65536 - stacked) % 65536)
soft_clear false pushed at stacked = address_clear at

home_clear : (f : Framed) (pushed i : ℕ) (home : Option Home) → Clear (code_at f pushed i home)
home_clear f pushed i None = symbol_clear (object_symbol (numbers_of f.parts) i) 0
home_clear f pushed i (Some (homes.Bank b)) = clear_none
home_clear f pushed i (Some (homes.Soft d)) = soft_clear (is_raised f i) pushed (more d pushed) f.stacked

pub object_clear : (f : Framed) (pushed i : ℕ) → Clear (object_code f pushed i)
object_clear f pushed i = home_clear f pushed i (home_of f i)

pub further_clear : (f : Framed) (pushed : ℕ) → Clear (rest_code f pushed)
further_clear f pushed = raised_clear pushed ((pushed + f.soft + saved_bytes f.bank + 65536 - f.stacked) % 65536)

-- ---- conversions

widen_clear : (kind : IntType) → Clear (widen_code kind)
widen_clear ints.SChar = record { all = refl }
widen_clear ints.UChar = record { all = refl }
widen_clear ints.Short = record { all = refl }
widen_clear ints.UShort = record { all = refl }
widen_clear ints.Int = record { all = refl }
widen_clear ints.UInt = record { all = refl }
widen_clear ints.Long = clear_none
widen_clear ints.ULong = clear_none

to_clear : (w : Width) (from to : IntType) → Clear (convert_to w from to)
to_clear Ax from to = narrow_clear to
to_clear Eax from to = widen_clear from

pub convert_clear : (from to : IntType) → Clear (convert_code from to)
convert_clear from to = to_clear (width_of to) from to

pub conversion_clear : (t : Ty) (from : IntType) → Clear (conversion_code t from)
conversion_clear void from = clear_none
conversion_clear (int k) from = convert_clear from k
conversion_clear (pointer q) from = convert_clear from ints.UInt
conversion_clear (array q n) from = convert_clear from ints.UInt
conversion_clear (tag n) from = convert_clear from ints.UInt
conversion_clear (function g) from = convert_clear from ints.UInt

pub push_clear : (w : Width) → Clear (push_code w)
push_clear Ax = record { all = refl }
push_clear Eax = record { all = refl }

pub pass_clear : (n : ℕ) → Clear (pass_bytes n)
pass_clear n =
    let one : Clear (call PushA ∷ []) = record { all = refl } in
    let two : Clear (call PushAx ∷ []) = record { all = refl } in
    let three : Clear three_code = record { all = refl } in
    let four : Clear (call PushEax ∷ []) = record { all = refl } in
    clear_if (nat_lt n 2) one (clear_if (nat_lt n 3) two (clear_if (nat_lt n 4) three four))

pub argument_clear : (kept : Bool) (n : ℕ) → Clear (argument_code kept n)
argument_clear kept n = clear_if kept clear_none (pass_clear n)

pub test_clear : (w : Width) → Clear (test_code w)
test_clear Ax = record { all = refl }
test_clear Eax = record { all = refl }

-- ---- loads and stores

pub hold_clear : (place : Place) → Clear (hold_code place)
hold_clear (places.Bank b) = clear_none
hold_clear (places.Near at) = clear_none
hold_clear (places.Data s at) = clear_none
hold_clear (places.Far at) =
    let push : Clear (call PushAx ∷ []) = record { all = refl } in
    clear_then (offset_clear at) push

pub bytes_clear : (place : Place) (e : Extent) → Clear (bytes_code place e)
bytes_clear (places.Bank b) One = record { all = refl }
bytes_clear (places.Bank b) Two = record { all = refl }
bytes_clear (places.Bank b) Three = record { all = refl }
bytes_clear (places.Bank b) Four = record { all = refl }
bytes_clear (places.Near at) One = record { all = refl }
bytes_clear (places.Near at) Two = record { all = refl }
bytes_clear (places.Near at) Three = record { all = refl }
bytes_clear (places.Near at) Four = record { all = refl }
bytes_clear (places.Data s at) One = record { all = refl }
bytes_clear (places.Data s at) Two = record { all = refl }
bytes_clear (places.Data s at) Three = record { all = refl }
bytes_clear (places.Data s at) Four = record { all = refl }
bytes_clear (places.Far at) One = record { all = refl }
bytes_clear (places.Far at) Two = record { all = refl }
bytes_clear (places.Far at) Three = record { all = refl }
bytes_clear (places.Far at) Four =
    let whole : Clear (call LdEaxi ∷ []) = record { all = refl } in
    clear_then (offset_clear at) whole

repeated_clear : (n : ℕ) (op : Op) → Clear (shift_a op ∷ []) → Clear (replicate n (shift_a op))
repeated_clear zero op one = clear_none
repeated_clear (suc n) op one = clear_then one (repeated_clear n op one)

turned_clear : (low : ℕ) (one first further : Op) → Clear (shift_a one ∷ []) → Clear (shift_a first ∷ []) → Clear (shift_a further ∷ []) → Clear (if nat_le low 4 then replicate low (shift_a one) else shift_a first ∷ replicate (8 - low) (shift_a further))
turned_clear low one first further a b c = clear_if (nat_le low 4) (repeated_clear low one a) (clear_then b (repeated_clear (8 - low) further c))

down_clear : (low : ℕ) → Clear (down_code low)
down_clear low = turned_clear low Lsr Asl Rol (record { all = refl }) (record { all = refl }) (record { all = refl })

pub up_clear : (low : ℕ) → Clear (up_code low)
up_clear low = turned_clear low Asl Lsr Ror (record { all = refl }) (record { all = refl }) (record { all = refl })

cut_clear : (g : Field) → Clear (cut_code g)
cut_clear g = clear_if (is_topmost g) clear_none (record { all = refl })

spread_clear : (width : ℕ) → Clear (spread_code width)
spread_clear width = clear_if (width == 8) clear_none (record { all = refl })

byte_value_clear : (g : Field) → Clear (byte_value_code g)
byte_value_clear g = clear_then (down_clear (g.low % 8)) (clear_then (cut_clear g) (clear_if (is_signed_of g.kind) (clear_then (spread_clear g.width) (narrow_clear ints.SChar)) (narrow_clear ints.UChar)))

wide_value_clear : (g : Field) → Clear (wide_value_code g)
wide_value_clear g =
    clear_if (is_signed_of g.kind) (clear_then (shift_clear tos.Shl (16 - min (g.low + g.width) 16)) (shift_clear tos.Asr (16 - min g.width 16))) (clear_then (shift_clear tos.Shr g.low) (clear_if (ones g.width == 65535) clear_none (mask_clear (ones g.width))))

once_clear : (b : Bool) (first next : Line) → Clear (first ∷ next ∷ []) → Clear (once b first next)
once_clear b first next c = clear_if b c clear_none

rounds_clear : (n : ℕ) (first next : Line) → Clear (first ∷ next ∷ []) → Clear (rounds n first next)
rounds_clear n first next c =
    clear_then (once_clear (nat_le 1 n) first next c) (clear_then (once_clear (nat_le 2 n) first next c) (clear_then (once_clear (nat_le 3 n) first next c) (once_clear (nat_le 4 n) first next c)))

astride_clear : (g : Field) → Clear (astride_code g)
astride_clear g =
    let high : Clear (zero_page Stx tmp1 ∷ []) = record { all = refl } in
    let back : Clear (zero_page Lda tmp1 ∷ []) = record { all = refl } in
    let cut : Clear (value And (first (ones g.width)) ∷ narrow_code ints.UChar) = record { all = refl } in
    clear_then high (clear_then
    (clear_if (nat_le g.low 4) (rounds_clear g.low (zero_page Lsr tmp1) (shift_a Ror) (record { all = refl })) (clear_then (rounds_clear (8 - g.low) (shift_a Asl) (zero_page Rol tmp1) (record { all = refl })) back))
    cut)

extract_clear : (g : Field) → Clear (extract_code g)
extract_clear g = clear_if (is_astride g) (astride_clear g) (wide_value_clear g)

lowest_clear : (g : Field) → Clear (lowest_code g)
lowest_clear g = clear_if (is_in_byte g) (byte_value_clear g) (extract_clear g)

field_load_clear : (place : Place) (g : Field) → Clear (field_load place g)
field_load_clear place g = clear_if (is_in_byte g) (clear_then (bytes_clear (onward place (g.low / 8)) One) (byte_value_clear g)) (clear_then (bytes_clear place Two) (extract_clear g))

pub own_bits_clear : (place : Place) (g : Field) → Clear (own_bits_code place g)
own_bits_clear place g = let cut : Clear (value And (own_bits g) ∷ []) = record { all = refl } in clear_then (bytes_clear (onward place (g.low / 8)) One) cut

pub load_clear : (place : Place) (access : Access) → Clear (load_code place access)
load_clear place (Whole kind) = clear_then (bytes_clear place (extent_of kind)) (narrow_clear kind)
load_clear place (Part field) = field_load_clear place field

pub arrived_clear : (d : Destination) → Clear (arrived d)
arrived_clear Registers = clear_none
arrived_clear Pointer = record { all = refl }

pub behind_pointer_clear : (at : ℕ) (e : Extent) → Clear (behind_pointer_code at e)
behind_pointer_clear at One = record { all = refl }
behind_pointer_clear at Two = record { all = refl }
behind_pointer_clear at Three = record { all = refl }
behind_pointer_clear at Four = record { all = refl }

pointed_clear : (place : Place) (kind : IntType) → Clear (pointed_code place kind)
pointed_clear (places.Far at) kind = clear_then (behind_pointer_clear at (extent_of kind)) (narrow_clear kind)
pointed_clear (places.Bank b) kind = load_clear (places.Bank b) (Whole kind)
pointed_clear (places.Near at) kind = load_clear (places.Near at) (Whole kind)
pointed_clear (places.Data s at) kind = load_clear (places.Data s at) (Whole kind)

fetch_by_clear : (d : Destination) (place : Place) (kind : IntType) → Clear (fetch_by d place kind)
fetch_by_clear Registers place kind = load_clear place (Whole kind)
fetch_by_clear Pointer place kind = pointed_clear place kind

pub fetch_clear : (place : Place) (access : Access) → Clear (loaded_code place access)
fetch_clear place (Whole kind) = fetch_by_clear (destination_by (extent_of kind)) place kind
fetch_clear place (Part field) = load_clear place (Part field)

pub bytes_store_clear : (place : Place) (e : Extent) → IsOff place → Clear (bytes_store place e)
bytes_store_clear (places.Bank b) e off = absurd off
bytes_store_clear (places.Near at) One off = record { all = refl }
bytes_store_clear (places.Near at) Two off = record { all = refl }
bytes_store_clear (places.Near at) Three off = record { all = refl }
bytes_store_clear (places.Near at) Four off = record { all = refl }
bytes_store_clear (places.Data s at) One off = record { all = refl }
bytes_store_clear (places.Data s at) Two off = record { all = refl }
bytes_store_clear (places.Data s at) Three off = record { all = refl }
bytes_store_clear (places.Data s at) Four off = record { all = refl }
bytes_store_clear (places.Far at) One off = record { all = refl }
bytes_store_clear (places.Far at) Two off = record { all = refl }
bytes_store_clear (places.Far at) Three off = record { all = refl }
bytes_store_clear (places.Far at) Four off = record { all = refl }

after_store_clear : (place : Place) (kind : IntType) → Clear (after_store place kind)
after_store_clear (places.Bank b) kind = clear_none
after_store_clear (places.Near at) kind = clear_none
after_store_clear (places.Data s at) kind = clear_none
after_store_clear (places.Far at) kind = narrow_clear kind

under_clear : (place : Place) → Clear (under_code place)
under_clear (places.Bank b) = bytes_clear (places.Bank b) Two
under_clear (places.Near at) = bytes_clear (places.Near (byte_more at 2)) Two
under_clear (places.Data s at) = bytes_clear (places.Data s at) Two
under_clear (places.Far at) = record { all = refl }

pub unit_set_clear : (place : Place) (g : Field) → IsOff place → Clear (unit_set place g)
unit_set_clear place g off =
    let push : Clear (call PushAx ∷ []) = record { all = refl } in
    let join : Clear (call (Tos tos.Or Ax) ∷ []) = record { all = refl } in
    clear_then (clear_then (mask_clear (ones g.width)) (shift_clear tos.Shl g.low)) (clear_then push (clear_then (under_clear place) (clear_then (mask_clear (others g)) (clear_then join (bytes_store_clear place Two off)))))

unit_store_clear : (place : Place) (g : Field) → IsOff place → Clear (unit_store place g)
unit_store_clear place g off = clear_then (unit_set_clear place g off) (extract_clear g)

pub merged_clear : (mode : Mode) (operand : Operand) (mask : ℕ) → Clear (Do Sta mode operand ∷ []) → Clear (Do Eor mode operand ∷ []) → Clear (merged_code mode operand mask)
merged_clear mode operand mask whole other =
    let own : Clear (value And mask ∷ []) = record { all = refl } in
    clear_if (mask == 255) whole (clear_then other (clear_then own (clear_then other whole)))

pub bits_clear : (place : Place) (n mask : ℕ) → IsOff place → Clear (bits_store (onward (settled place) n) mask)
bits_clear (places.Bank b) n mask off = absurd off
bits_clear (places.Near at) n mask off =
    let way : Clear (value Ldy (byte_more at n) ∷ []) = record { all = refl } in
    clear_then way (merged_clear IndirectY (Zero sp) mask (record { all = refl }) (record { all = refl }))
bits_clear (places.Data s at) n mask off = merged_clear Absolute (At s (word_more at n)) mask (record { all = refl }) (record { all = refl })
bits_clear (places.Far at) n mask off =
    let way : Clear (popped_code ++ (value Ldy (byte_more 0 n) ∷ [])) = record { all = refl } in
    clear_then way (merged_clear IndirectY (Zero ptr1) mask (record { all = refl }) (record { all = refl }))

byte_store_clear : (place : Place) (g : Field) → IsOff place → Clear (byte_store place g)
byte_store_clear place g off = clear_then (up_clear (g.low % 8)) (clear_then (bits_clear place (g.low / 8) (own_bits g) off) (byte_value_clear g))

field_store_clear : (place : Place) (g : Field) → IsOff place → Clear (field_store place g)
field_store_clear place g off = clear_if (is_in_byte g) (byte_store_clear place g off) (clear_if (is_unit g) (bytes_store_clear place Two off) (unit_store_clear place g off))

pub store_clear : (place : Place) (access : Access) → IsOff place → Clear (store_code place access)
store_clear place (Whole kind) off = clear_then (bytes_store_clear place (extent_of kind) off) (after_store_clear place kind)
store_clear place (Part field) off = field_store_clear place field off

pub copy_clear : (n : ℕ) → Clear (copy_code n)
copy_clear n = record { all = refl }

-- ---- operators

pub unary_clear : (op : UnaryOp) (w : Width) → Clear (unary_code op w)
unary_clear unary.Neg Ax = record { all = refl }
unary_clear unary.Neg Eax = record { all = refl }
unary_clear unary.BitNot Ax = record { all = refl }
unary_clear unary.BitNot Eax = record { all = refl }
unary_clear _ w = clear_none

pub wide_clear : (op : BinaryOp) (kind : IntType) → Clear (wide_code op kind)
wide_clear op kind = let one : Clear (call (Tos (tos_of op (is_signed_of kind)) (width_of kind)) ∷ []) = record { all = refl } in clear_then one (clear_if (is_comparison op) clear_none (narrow_clear kind))

pub between_clear : (operands : Operands) → Clear (between_code operands)
between_clear (Numbers kind) = push_clear (width_of kind)
between_clear (PointerFirst size) = push_clear Ax
between_clear (PointerLast size) = clear_then (scale_clear size) (push_clear Ax)
between_clear (Pointers size) = push_clear Ax

difference_clear : (op : BinaryOp) (size : ℕ) → Clear (difference_code op size)
difference_clear ops.Sub size = divide_clear size
difference_clear _ size = clear_none

pub behind_clear : (op : BinaryOp) (operands : Operands) (right : IntType) → Clear (behind_code op operands right)
behind_clear op (Numbers kind) right = clear_then (convert_clear right kind) (wide_clear op kind)
behind_clear op (PointerFirst size) right = clear_then (scale_clear size) (wide_clear op ints.UInt)
behind_clear op (PointerLast size) right = wide_clear op ints.UInt
behind_clear op (Pointers size) right = clear_then (wide_clear op ints.UInt) (difference_clear op size)

-- ---- assignments

loaded_clear : (d : OperandByte) → Clear (op_of Lda d)
loaded_clear (operand.Number n) = record { all = refl }
loaded_clear (operand.Low s at) = record { all = refl }
loaded_clear (operand.High s at) = record { all = refl }
loaded_clear (operand.Near at) = record { all = refl }
loaded_clear (operand.Data s at) = record { all = refl }
loaded_clear (operand.Zero at) = record { all = refl }

pub read_bytes_clear : (at : ℕ) (stored : Stored) → Clear (read_bytes_code at stored)
read_bytes_clear at (stores.Single low) = clear_then (loaded_clear low) (record { all = refl })
read_bytes_clear at (stores.Word low high) =
    let aside : Clear (implied Pha ∷ []) = record { all = refl } in
    clear_then (loaded_clear low) (clear_then aside (clear_then (loaded_clear high) (record { all = refl })))
read_bytes_clear at (stores.Fixed low high) =
    let first : Clear (value Ldy (byte_more at 1) ∷ by_y Sta ptr1 ∷ implied Tax ∷ []) = record { all = refl } in
    clear_then (loaded_clear high) (clear_then first (clear_then (loaded_clear low) (record { all = refl })))

point_clear : (low high : OperandByte) → Clear (point_code low high)
point_clear low high =
    let first : Clear (zero_page Sta ptr1 ∷ []) = record { all = refl } in
    clear_then (loaded_clear low) (clear_then first (clear_then (loaded_clear high) (record { all = refl })))

pub byte_through_clear : (at : ℕ) (low high : OperandByte) → Clear (byte_through_code at low high)
byte_through_clear at low high =
    let aside : Clear (implied Tax ∷ []) = record { all = refl } in
    clear_then aside (clear_then (point_clear low high) (record { all = refl }))

pub word_through_clear : (at : ℕ) (low high : OperandByte) → Clear (word_through_code at low high)
word_through_clear at low high =
    let aside : Clear (implied Pha ∷ []) = record { all = refl } in
    clear_then aside (clear_then (point_clear low high) (record { all = refl }))

back_clear : (access : Access) (n : ℕ) → Clear (back_code access n)
back_clear (Whole kind) n = add_clear kind (negative n)
back_clear (Part field) n = clear_then (add_clear field.kind (negative n)) (lowest_clear (record field { low = 0 }))

pub byte_behind_clear : (at : ℕ) → Clear (byte_behind_code at)
byte_behind_clear at = record { all = refl }

pub word_behind_clear : (at : ℕ) → Clear (word_behind_code at)
word_behind_clear at = record { all = refl }

pub long_step_clear : (how : StepKind) (place : Place) (access : Access) (n : ℕ) → IsOff place → Clear (long_step_code how place access n)
long_step_clear how place access n off = clear_then (hold_clear place) (clear_then (load_clear (settled place) access) (clear_then (add_clear (type_in access) n) (clear_then (store_clear place access off) (clear_if (is_post how) (back_clear access n) clear_none))))

pub open_clear : (place : Place) (access : Access) (kind : IntType) → Clear (open_code place access kind)
open_clear place access kind = clear_then (hold_clear place) (clear_then (load_clear (settled place) access) (clear_then (convert_clear (type_in access) kind) (push_clear (width_of kind))))

pub close_clear : (op : BinaryOp) (operands : Operands) (right : IntType) (place : Place) (access : Access) → IsOff place → Clear (close_code op operands right place access)
close_clear op operands right place access off = clear_then (behind_clear op operands right) (clear_then (convert_clear (computes operands) (type_in access)) (store_clear place access off))

-- ---- structures that calls give

further_bytes_clear : (e : Extent) → Clear (further_code e)
further_bytes_clear One = clear_none
further_bytes_clear Two = record { all = refl }
further_bytes_clear Three = record { all = refl }
further_bytes_clear Four = record { all = refl }

pub spill_clear : (address : List Line) (e : Extent) → Clear address → Clear (spill_code address e)
spill_clear address e c =
    let kept : Clear kept_code = record { all = refl } in
    let first : Clear first_code = record { all = refl } in
    let again : Clear again_code = record { all = refl } in
    clear_then kept (clear_then c (clear_then first (clear_then (further_bytes_clear e) again)))

-- ---- calls

count_clear : (counted : Bool) (p : Passed) → Clear (count_code counted p)
count_clear true p = record { all = refl }
count_clear false p = clear_none

result_clear : (given : Outcome) → Clear (result_code given)
result_clear Nothing = clear_none
result_clear (Number kind) = narrow_clear kind
result_clear (Area bytes) = clear_none

named_by_clear : (f : Framed) (i : ℕ) (l : Option Library) (counted : Bool) (p : Passed) (given : Outcome) → Clear (named_by f i l counted p given)
named_by_clear f i (Some l) counted p given = let one : Clear (call (library_routine l) ∷ []) = record { all = refl } in clear_then (count_clear counted p) (clear_then one (result_clear given))
named_by_clear f i None counted p given =
    let one : Clear (Call (callees.Function (function_symbol (numbers_of f.parts) i) (reads_of counted p) (registers (given_bytes given))) ∷ []) = record { all = refl } in
    clear_then (count_clear counted p) (clear_then one (result_clear given))

pub named_clear : (f : Framed) (i : ℕ) (counted : Bool) (p : Passed) (given : Outcome) → Clear (named_code f i counted p given)
named_clear f i counted p given = named_by_clear f i (library_at f i) counted p given

pub direct_clear : (counted : Bool) (p : Passed) (given : Outcome) → Clear (direct_code counted p given)
direct_clear counted p given =
    let one : Clear (Call (callees.Pointer (reads_of counted p) (registers (given_bytes given))) ∷ []) = record { all = refl } in
    let stored : Clear ptr4_code = record { all = refl } in
    clear_then stored (clear_then (count_clear counted p) (clear_then one (result_clear given)))

pub pointer_clear : (counted : Bool) (p : Passed) (given : Outcome) → Clear (pointer_code counted p given)
pointer_clear counted p given =
    let one : Clear (Call (callees.Pointer (reads_of counted p) (registers (given_bytes given))) ∷ []) = record { all = refl } in
    let two : Clear (call (IncSp two_bytes) ∷ []) = record { all = refl } in
    let fetch : Clear (fetch_code p) = record { all = refl } in
    clear_then fetch (clear_then (count_clear counted p) (clear_then one (clear_then two (result_clear given))))
