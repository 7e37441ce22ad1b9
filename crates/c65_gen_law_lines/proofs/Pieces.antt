-- The pieces of which lines are made: each with its greatest size.
use Rattle.std.proofs.Common.{ℕ, ◌+◌, ◌-◌, ◌%◌, ◌≤◌, ◌==◌, Bool, true, false, Option, None, Some, List, [], ◌∷◌, ◌++◌, refl, arith, zero, suc, ◌≡◌, ◌/◌, replicate}
use Rattle.std.specs.Prelude.{min, if◌then◌else◌, nat_lt, nat_le}
use Rattle.std.proofs.lemmas.Bool.{leb-true, leb-false}
use Rattle.c65_base.specs.declared.operators.UnaryOp.{UnaryOp}
use Rattle.c65_base.specs.declared.operators.UnaryOp.TheVariants as unary
use Rattle.c65_base.specs.declared.operators.BinaryOp.{BinaryOp}
use Rattle.c65_base.specs.declared.operators.BinaryOp.TheVariants as ops
use Rattle.c65_base.specs.declared.operators.StepKind.{StepKind}
use Rattle.c65_ints.specs.declared.types.IntType.{IntType}
use Rattle.c65_ints.specs.declared.types.IntType.TheVariants as ints
use Rattle.c65_ints.specs.Ranges.{is_signed_of}
use Rattle.c65_ctype.specs.Trees.{Ty, void, int, pointer, array, tag, function}
use Rattle.c65_base.specs.declared.library.Library.{Library}
use Rattle.c65_mach.specs.declared.rows.Op.{Op}
use Rattle.c65_mach.specs.declared.rows.Op.TheVariants.{Dey, Lda, Ldy, Pha, Pla, Sta, Stx, Tax, Txa, And, Asl, Eor, Lsr, Rol, Ror, Sbc, Sec}
use Rattle.c65_mach.specs.declared.rows.Mode.{Mode}
use Rattle.c65_mach.specs.declared.rows.Mode.TheVariants.{ZeroPage, IndirectY, Absolute}
use Rattle.c65_code.specs.declared.line.Sym.{Sym}
use Rattle.c65_code.specs.declared.line.Operand.{Operand}
use Rattle.c65_code.specs.declared.line.Operand.TheVariants.{Zero, At}
use Rattle.c65_code.specs.declared.line.Line.{Line}
use Rattle.c65_code.specs.declared.line.Line.TheVariants.{Call, Do}
use Rattle.c65_code.specs.declared.line.Callee.TheVariants.{Function, Pointer}
use Rattle.c65_code.specs.declared.routine.Count.TheVariants.{Two as two_bytes}
use Rattle.c65_code.specs.declared.routine.Routine.TheVariants.{PushA, PushAx, PushEax, LdAi, LdEaxi, Tos, Unary, IncSp, Library as library_routine}
use Rattle.c65_code.specs.declared.routine.UnaryRoutine.TheVariants.{Shl1}
use Rattle.c65_code.specs.declared.routine.TosOp.{TosOp}
use Rattle.c65_code.specs.declared.routine.TosOp.TheVariants as tos
use Rattle.c65_code.specs.declared.routine.Width.{Width}
use Rattle.c65_code.specs.declared.routine.Width.TheVariants.{Ax, Eax}
use Rattle.c65_genframe.specs.declared.home.Home.{Home}
use Rattle.c65_genframe.specs.declared.home.Home.TheVariants as homes
use Rattle.c65_genframe.specs.Registers.{registers}
use Rattle.c65_genframe.specs.Frames.{Framed, home_of, is_raised, saved_bytes}
use Rattle.c65_genframe.specs.Symbols.{numbers_of, object_symbol, function_symbol}
use Rattle.c65_genwide.specs.Lines.{value, call}
use Rattle.c65_genwide.specs.Passing.{three_code, pass_bytes}
use Rattle.c65_genwide.specs.Wide.{width_of, narrow_code, wide_code, tos_of, is_comparison}
use Rattle.c65_genload.specs.declared.places.Extent.{Extent}
use Rattle.c65_genload.specs.declared.places.Extent.TheVariants.{One, Two, Three, Four}
use Rattle.c65_genload.specs.declared.places.Field.{Field}
use Rattle.c65_genload.specs.declared.places.Place.{Place}
use Rattle.c65_genload.specs.declared.places.Place.TheVariants as places
use Rattle.c65_genload.specs.declared.places.Access.{Access}
use Rattle.c65_genload.specs.declared.places.Access.TheVariants.{Whole, Part}
use Rattle.c65_genload.specs.Words.{ptr1, tmp1, implied, zero_page, by_y, sp, regbank, shift_a}
use Rattle.c65_genload.specs.Places.{type_in, byte_more, extent_of, settled, onward}
use Rattle.c65_genload.specs.Numbers.{first, number_code, add_word_code, add_by_width, add_code, mask_code, by_code, shift_code, scale_code, is_divisor, divide_code}
use Rattle.c65_genload.specs.Conversions.{widen_code, convert_code, convert_to, push_code, test_code}
use Rattle.c65_genload.specs.Addresses.{symbol_code, address_code, above_code, raised_code, offset_code}
use Rattle.c65_genload.specs.Fields.{ones, others, is_in_byte, own_bits, down_code, up_code, is_topmost, cut_code, sign_bit, spread_code, signed_code, byte_value_code, mask_unless_all, once, rounds, both_down_code, is_astride, astride_code, wide_value_code, extract_code, lowest_code, aligned_code, is_unit}
use Rattle.c65_genload.specs.Loads.{hold_code, bytes_code, field_load, load_code}
use Rattle.c65_genload.specs.Stores.{bytes_store, after_store, under_code, unit_set, unit_store, popped_code, merged_code, bits_store, byte_store, field_store, store_code, copy_code}
use Rattle.c65_gendirect.specs.declared.bytes.OperandByte.{OperandByte}
use Rattle.c65_gendirect.specs.declared.bytes.OperandByte.TheVariants as operand
use Rattle.c65_gendirect.specs.declared.through.Stored.{Stored}
use Rattle.c65_gendirect.specs.declared.through.Stored.TheVariants as stores
use Rattle.c65_gendirect.specs.Bytes.{op_of}
use Rattle.c65_gendirect.specs.Through.{read_bytes_code, point_code, byte_through_code, word_through_code}
use Rattle.c65_genexpr.specs.declared.operands.Operands.{Operands}
use Rattle.c65_genexpr.specs.declared.operands.Operands.TheVariants.{Numbers, PointerFirst, PointerLast, Pointers}
use Rattle.c65_genexpr.specs.declared.arguments.Passed.{Passed}
use Rattle.c65_genexpr.specs.Places.{more, soft_code, code_at, object_code, rest_code}
use Rattle.c65_genexpr.specs.Held.{keep_code, byte_behind_code, word_behind_code}
use Rattle.c65_genexpr.specs.Operands.{computes, between_code, difference_code, behind_code, unary_code, conversion_code, negative}
use Rattle.c65_genchange.specs.Stepping.{is_post}
use Rattle.c65_genexpr.specs.Steps.{back_code, after_code, long_step_code, open_code, close_code}
use Rattle.c65_genexpr.specs.declared.types.Outcome.{Outcome}
use Rattle.c65_genexpr.specs.declared.types.Outcome.TheVariants.{Nothing, Number, Area}
use Rattle.c65_genexpr.specs.Types.{given_bytes}
use Rattle.c65_genexpr.specs.Spills.{kept_code, first_code, further_code, again_code, spill_code}
use Rattle.c65_genexpr.specs.Arguments.{reads_of, argument_code}
use Rattle.c65_genexpr.specs.Calls.{count_code, fetch_code, result_code, library_at, named_by, named_code, pointer_code, direct_code, ptr4_code}
use Rattle.c65_gen_law_lines.proofs.Made.{Piece, piece_append, piece_wider, piece_if, piece_none}

pub narrow_piece : (kind : IntType) → Piece 3 (narrow_code kind)
narrow_piece ints.SChar = record { plain = refl; fit = refl; size = omega arith }
narrow_piece ints.UChar = record { plain = refl; fit = refl; size = omega arith }
narrow_piece ints.Short = piece_none 3
narrow_piece ints.UShort = piece_none 3
narrow_piece ints.Int = piece_none 3
narrow_piece ints.UInt = piece_none 3
narrow_piece ints.Long = piece_none 3
narrow_piece ints.ULong = piece_none 3

pub number_piece : (w : Width) (n : ℕ) → Piece 12 (number_code w n)
number_piece Ax n = record { plain = refl; fit = refl; size = omega arith }
number_piece Eax n = record { plain = refl; fit = refl; size = omega arith }

add_word_piece : (n : ℕ) → Piece 9 (add_word_code n)
add_word_piece n = record { plain = refl; fit = refl; size = omega arith }

add_width_piece : (w : Width) (kind : IntType) (n : ℕ) → Piece 21 (add_by_width w kind n)
add_width_piece Ax kind n = piece_wider 12 21 (add_word_code n ++ narrow_code kind) (piece_append 9 3 (add_word_code n) (narrow_code kind) (add_word_piece n) (narrow_piece kind)) (omega arith)
add_width_piece Eax kind n = record { plain = refl; fit = refl; size = omega arith }

pub add_piece : (kind : IntType) (n : ℕ) → Piece 21 (add_code kind n)
add_piece kind n = add_width_piece (width_of kind) kind n

mask_piece : (n : ℕ) → Piece 8 (mask_code n)
mask_piece n = record { plain = refl; fit = refl; size = omega arith }

by_piece : (op : TosOp) (n : ℕ) → Piece 10 (by_code op n)
by_piece op n = record { plain = refl; fit = refl; size = omega arith }

shift_piece : (op : TosOp) (n : ℕ) → Piece 10 (shift_code op n)
shift_piece op n = piece_if 10 (n == 0) [] (by_code op n) (piece_none 10) (by_piece op n)

double_piece : Piece 13 (call (Unary Shl1 Ax) ∷ [])
double_piece = record { plain = refl; fit = refl; size = omega arith }

pub scale_piece : (n : ℕ) → Piece 13 (scale_code n)
scale_piece n = piece_if 13 (n == 1) [] _ (piece_none 13) (piece_if 13 (n == 2) (call (Unary Shl1 Ax) ∷ []) (by_code tos.Mul n) double_piece (piece_wider 10 13 (by_code tos.Mul n) (by_piece tos.Mul n) (omega arith)))

zero_piece : Piece 10 (number_code Ax 0)
zero_piece = record { plain = refl; fit = refl; size = omega arith }

pub divide_piece : (n : ℕ) → Piece 10 (divide_code n)
divide_piece n = piece_if 10 (n == 1) [] _ (piece_none 10) (piece_if 10 (is_divisor n) (by_code tos.Div n) (number_code Ax 0) (by_piece tos.Div n) zero_piece)

pub symbol_piece : (s : Sym) (at : ℕ) → Piece 4 (symbol_code s at)
symbol_piece s at = record { plain = refl; fit = refl; size = omega arith }

address_piece : (at : ℕ) → Piece 12 (address_code at)
address_piece at = record { plain = refl; fit = refl; size = omega arith }

above_piece : Piece 10 above_code
above_piece = record { plain = refl; fit = refl; size = omega arith }

pub raised_piece : (counter at : ℕ) → Piece 34 (raised_code counter at)
raised_piece counter at =
    let added : Piece 9 (add_code ints.UInt at) = record { plain = refl; fit = refl; size = omega arith } in
    let rest : Piece 19 (above_code ++ add_code ints.UInt at) = piece_append 10 9 above_code (add_code ints.UInt at) above_piece added in
    let one : Piece 3 (call LdAi ∷ []) = record { plain = refl; fit = refl; size = omega arith } in
    piece_append 12 22 (address_code counter) (call LdAi ∷ (above_code ++ add_code ints.UInt at)) (address_piece counter) (piece_append 3 19 (call LdAi ∷ []) (above_code ++ add_code ints.UInt at) one rest)

pub offset_piece : (n : ℕ) → Piece 9 (offset_code n)
offset_piece n = piece_if 9 (n == 0) [] (add_code ints.UInt n) (piece_none 9) (record { plain = refl; fit = refl; size = omega arith })

soft_piece : (raised : Bool) (pushed at stacked : ℕ) → Piece 34 (soft_code raised pushed at stacked)
soft_piece true pushed at stacked = raised_piece pushed ((at + 65536 - stacked) % 65536)
soft_piece false pushed at stacked = piece_wider 12 34 (address_code at) (address_piece at) (omega arith)

home_piece : (f : Framed) (pushed i : ℕ) (home : Option Home) → Piece 34 (code_at f pushed i home)
home_piece f pushed i None = piece_wider 4 34 _ (symbol_piece (object_symbol (numbers_of f.parts) i) 0) (omega arith)
home_piece f pushed i (Some (homes.Bank b)) = piece_none 34
home_piece f pushed i (Some (homes.Soft d)) = soft_piece (is_raised f i) pushed (more d pushed) f.stacked

pub object_piece : (f : Framed) (pushed i : ℕ) → Piece 34 (object_code f pushed i)
object_piece f pushed i = home_piece f pushed i (home_of f i)

pub further_piece : (f : Framed) (pushed : ℕ) → Piece 34 (rest_code f pushed)
further_piece f pushed = raised_piece pushed ((pushed + f.soft + saved_bytes f.bank + 65536 - f.stacked) % 65536)

-- ---- conversions

widen_piece : (kind : IntType) → Piece 3 (widen_code kind)
widen_piece ints.SChar = record { plain = refl; fit = refl; size = omega arith }
widen_piece ints.UChar = record { plain = refl; fit = refl; size = omega arith }
widen_piece ints.Short = record { plain = refl; fit = refl; size = omega arith }
widen_piece ints.UShort = record { plain = refl; fit = refl; size = omega arith }
widen_piece ints.Int = record { plain = refl; fit = refl; size = omega arith }
widen_piece ints.UInt = record { plain = refl; fit = refl; size = omega arith }
widen_piece ints.Long = piece_none 3
widen_piece ints.ULong = piece_none 3

to_piece : (w : Width) (from to : IntType) → Piece 3 (convert_to w from to)
to_piece Ax from to = narrow_piece to
to_piece Eax from to = widen_piece from

pub convert_piece : (from to : IntType) → Piece 3 (convert_code from to)
convert_piece from to = to_piece (width_of to) from to

pub conversion_piece : (t : Ty) (from : IntType) → Piece 3 (conversion_code t from)
conversion_piece void from = piece_none 3
conversion_piece (int k) from = convert_piece from k
conversion_piece (pointer q) from = convert_piece from ints.UInt
conversion_piece (array q n) from = convert_piece from ints.UInt
conversion_piece (tag n) from = convert_piece from ints.UInt
conversion_piece (function g) from = convert_piece from ints.UInt

pub push_piece : (w : Width) → Piece 3 (push_code w)
push_piece Ax = record { plain = refl; fit = refl; size = omega arith }
push_piece Eax = record { plain = refl; fit = refl; size = omega arith }

-- the lines that push a value of so many bytes: for three there is no routine
abbrev pub passing_by : Bool → Bool → Bool → ℕ
passing_by below_two below_three below_four = if below_two then 3 else (if below_three then 3 else (if below_four then 16 else 3))

abbrev pub passing : ℕ → ℕ
passing n = passing_by (nat_lt n 2) (nat_lt n 3) (nat_lt n 4)

pass_piece_by : (a b c : Bool) → Piece (passing_by a b c) (if a then call PushA ∷ [] else (if b then call PushAx ∷ [] else (if c then three_code else call PushEax ∷ [])))
pass_piece_by true b c = record { plain = refl; fit = refl; size = omega arith }
pass_piece_by false true c = record { plain = refl; fit = refl; size = omega arith }
pass_piece_by false false true = record { plain = refl; fit = refl; size = omega arith }
pass_piece_by false false false = record { plain = refl; fit = refl; size = omega arith }

pub pass_piece : (n : ℕ) → Piece (passing n) (pass_bytes n)
pass_piece n = pass_piece_by (nat_lt n 2) (nat_lt n 3) (nat_lt n 4)

pub argument_piece : (kept : Bool) (n : ℕ) → Piece (passing n) (argument_code kept n)
argument_piece kept n = piece_if (passing n) kept [] (pass_bytes n) (piece_none (passing n)) (pass_piece n)

pub test_piece : (w : Width) → Piece 8 (test_code w)
test_piece Ax = record { plain = refl; fit = refl; size = omega arith }
test_piece Eax = record { plain = refl; fit = refl; size = omega arith }

-- ---- loads and stores

pub hold_piece : (place : Place) → Piece 12 (hold_code place)
hold_piece (places.Bank b) = piece_none 12
hold_piece (places.Near at) = piece_none 12
hold_piece (places.Data s at) = piece_none 12
hold_piece (places.Far at) =
    let push : Piece 3 (call PushAx ∷ []) = record { plain = refl; fit = refl; size = omega arith } in
    piece_append 9 3 (offset_code at) (call PushAx ∷ []) (offset_piece at) push

-- the lines that take so many bytes: three have no routine
abbrev pub taking : Extent → ℕ
taking Three = 20
taking _ = 16

pub bytes_piece : (place : Place) (e : Extent) → Piece (taking e) (bytes_code place e)
bytes_piece (places.Bank b) One = record { plain = refl; fit = refl; size = omega arith }
bytes_piece (places.Bank b) Two = record { plain = refl; fit = refl; size = omega arith }
bytes_piece (places.Bank b) Three = record { plain = refl; fit = refl; size = omega arith }
bytes_piece (places.Bank b) Four = record { plain = refl; fit = refl; size = omega arith }
bytes_piece (places.Near at) One = record { plain = refl; fit = refl; size = omega arith }
bytes_piece (places.Near at) Two = record { plain = refl; fit = refl; size = omega arith }
bytes_piece (places.Near at) Three = record { plain = refl; fit = refl; size = omega arith }
bytes_piece (places.Near at) Four = record { plain = refl; fit = refl; size = omega arith }
bytes_piece (places.Data s at) One = record { plain = refl; fit = refl; size = omega arith }
bytes_piece (places.Data s at) Two = record { plain = refl; fit = refl; size = omega arith }
bytes_piece (places.Data s at) Three = record { plain = refl; fit = refl; size = omega arith }
bytes_piece (places.Data s at) Four = record { plain = refl; fit = refl; size = omega arith }
bytes_piece (places.Far at) One = record { plain = refl; fit = refl; size = omega arith }
bytes_piece (places.Far at) Two = record { plain = refl; fit = refl; size = omega arith }
bytes_piece (places.Far at) Three = record { plain = refl; fit = refl; size = omega arith }
bytes_piece (places.Far at) Four =
    let whole : Piece 3 (call LdEaxi ∷ []) = record { plain = refl; fit = refl; size = omega arith } in
    piece_wider 12 16 _ (piece_append 9 3 (offset_code at) (call LdEaxi ∷ []) (offset_piece at) whole) (omega arith)

taking_few : (e : Extent) → taking e ≤ 20
taking_few One = omega arith
taking_few Two = omega arith
taking_few Three = omega arith
taking_few Four = omega arith

pub part_piece : (place : Place) (e : Extent) → Piece 20 (bytes_code place e)
part_piece place e = piece_wider (taking e) 20 (bytes_code place e) (bytes_piece place e) (taking_few e)

-- no number has three
taking_number : (kind : IntType) → taking (extent_of kind) ≤ 16
taking_number ints.SChar = omega arith
taking_number ints.UChar = omega arith
taking_number ints.Short = omega arith
taking_number ints.UShort = omega arith
taking_number ints.Int = omega arith
taking_number ints.UInt = omega arith
taking_number ints.Long = omega arith
taking_number ints.ULong = omega arith

number_bytes_piece : (place : Place) (kind : IntType) → Piece 16 (bytes_code place (extent_of kind))
number_bytes_piece place kind = piece_wider (taking (extent_of kind)) 16 (bytes_code place (extent_of kind)) (bytes_piece place (extent_of kind)) (taking_number kind)

repeated_shift : (n : ℕ) (op : Op) → Piece 1 (shift_a op ∷ []) → Piece n (replicate n (shift_a op))
repeated_shift zero op one = piece_none 0
repeated_shift (suc n) op one = piece_wider (1 + n) (suc n) _ (piece_append 1 n (shift_a op ∷ []) (replicate n (shift_a op)) one (repeated_shift n op one)) (omega arith)

-- at most four to one side, and else round by the other
turned_piece : (low : ℕ) (one first further : Op) (b : Bool) → nat_le low 4 ≡ b → Piece 1 (shift_a one ∷ []) → Piece 1 (shift_a first ∷ []) → Piece 1 (shift_a further ∷ []) → Piece 4 (if b then replicate low (shift_a one) else shift_a first ∷ replicate (8 - low) (shift_a further))
turned_piece low one first further true h x y z = piece_wider low 4 _ (repeated_shift low one x) (leb-true low 4 h)
turned_piece low one first further false h x y z =
    piece_wider (1 + (8 - low)) 4 _ (piece_append 1 (8 - low) (shift_a first ∷ []) _ y (repeated_shift (8 - low) further z)) (omega (arith, leb-false low 4 h))

down_piece : (low : ℕ) → Piece 4 (down_code low)
down_piece low = turned_piece low Lsr Asl Rol (nat_le low 4) refl (record { plain = refl; fit = refl; size = omega arith }) (record { plain = refl; fit = refl; size = omega arith }) (record { plain = refl; fit = refl; size = omega arith })

pub up_piece : (low : ℕ) → Piece 4 (up_code low)
up_piece low = turned_piece low Asl Lsr Ror (nat_le low 4) refl (record { plain = refl; fit = refl; size = omega arith }) (record { plain = refl; fit = refl; size = omega arith }) (record { plain = refl; fit = refl; size = omega arith })

cut_piece : (g : Field) → Piece 2 (cut_code g)
cut_piece g =
    let kept : Piece 2 (value And (first (ones g.width)) ∷ []) = record { plain = refl; fit = refl; size = omega arith } in
    piece_if 2 (is_topmost g) [] (value And (first (ones g.width)) ∷ []) (piece_none 2) kept

spread_piece : (width : ℕ) → Piece 5 (spread_code width)
spread_piece width =
    let turned : Piece 5 (value Eor (sign_bit width) ∷ implied Sec ∷ value Sbc (sign_bit width) ∷ []) = record { plain = refl; fit = refl; size = omega arith } in
    piece_if 5 (width == 8) [] _ (piece_none 5) turned

signed_piece : (g : Field) → Piece 8 (signed_code g)
signed_piece g =
    piece_if 8 (is_signed_of g.kind) (spread_code g.width ++ narrow_code ints.SChar) (narrow_code ints.UChar)
    (piece_append 5 3 _ _ (spread_piece g.width) (narrow_piece ints.SChar))
    (piece_wider 3 8 _ (narrow_piece ints.UChar) (omega arith))

byte_value_piece : (g : Field) → Piece 14 (byte_value_code g)
byte_value_piece g = piece_append 4 10 _ _ (down_piece (g.low % 8)) (piece_append 2 8 _ _ (cut_piece g) (signed_piece g))

mask_less_piece : (n : ℕ) → Piece 8 (mask_unless_all n)
mask_less_piece n = piece_if 8 (n == 65535) [] (mask_code n) (piece_none 8) (mask_piece n)

once_piece : (b : Bool) (first next : Line) → Piece 3 (first ∷ next ∷ []) → Piece 3 (once b first next)
once_piece b first next p = piece_if 3 b (first ∷ next ∷ []) [] p (piece_none 3)

rounds_piece : (n : ℕ) (first next : Line) → Piece 3 (first ∷ next ∷ []) → Piece 12 (rounds n first next)
rounds_piece n first next p =
    piece_append 3 9 (once (nat_le 1 n) first next) _ (once_piece (nat_le 1 n) first next p) (piece_append 3 6 (once (nat_le 2 n) first next) _ (once_piece (nat_le 2 n) first next p)
    (piece_append 3 3 (once (nat_le 3 n) first next) (once (nat_le 4 n) first next) (once_piece (nat_le 3 n) first next p) (once_piece (nat_le 4 n) first next p)))

both_down_piece : (low : ℕ) → Piece 14 (both_down_code low)
both_down_piece low =
    let last : Piece 2 (zero_page Lda tmp1 ∷ []) = record { plain = refl; fit = refl; size = omega arith } in
    piece_if 14 (nat_le low 4) (rounds low (zero_page Lsr tmp1) (shift_a Ror)) (rounds (8 - low) (shift_a Asl) (zero_page Rol tmp1) ++ zero_page Lda tmp1 ∷ [])
    (piece_wider 12 14 _ (rounds_piece low (zero_page Lsr tmp1) (shift_a Ror) (record { plain = refl; fit = refl; size = omega arith })) (omega arith))
    (piece_append 12 2 (rounds (8 - low) (shift_a Asl) (zero_page Rol tmp1)) (zero_page Lda tmp1 ∷ []) (rounds_piece (8 - low) (shift_a Asl) (zero_page Rol tmp1) (record { plain = refl; fit = refl; size = omega arith })) last)

astride_piece : (g : Field) → Piece 20 (astride_code g)
astride_piece g =
    let high : Piece 2 (zero_page Stx tmp1 ∷ []) = record { plain = refl; fit = refl; size = omega arith } in
    let cut : Piece 4 (value And (first (ones g.width)) ∷ narrow_code ints.UChar) = record { plain = refl; fit = refl; size = omega arith } in
    piece_append 2 18 (zero_page Stx tmp1 ∷ []) _ high (piece_append 14 4 (both_down_code g.low) (value And (first (ones g.width)) ∷ narrow_code ints.UChar) (both_down_piece g.low) cut)

wide_value_piece : (g : Field) → Piece 20 (wide_value_code g)
wide_value_piece g =
    piece_if 20 (is_signed_of g.kind) (shift_code tos.Shl (16 - min (g.low + g.width) 16) ++ shift_code tos.Asr (16 - min g.width 16)) (shift_code tos.Shr g.low ++ mask_unless_all (ones g.width))
    (piece_append 10 10 _ _ (shift_piece tos.Shl (16 - min (g.low + g.width) 16)) (shift_piece tos.Asr (16 - min g.width 16)))
    (piece_wider 18 20 _ (piece_append 10 8 _ _ (shift_piece tos.Shr g.low) (mask_less_piece (ones g.width))) (omega arith))

extract_piece : (g : Field) → Piece 20 (extract_code g)
extract_piece g = piece_if 20 (is_astride g) (astride_code g) (wide_value_code g) (astride_piece g) (wide_value_piece g)

lowest_piece : (g : Field) → Piece 20 (lowest_code g)
lowest_piece g = piece_if 20 (is_in_byte g) (byte_value_code g) (extract_code g) (piece_wider 14 20 _ (byte_value_piece g) (omega arith)) (extract_piece g)

field_load_piece : (place : Place) (g : Field) → Piece 36 (field_load place g)
field_load_piece place g =
    piece_if 36 (is_in_byte g) (bytes_code (onward place (g.low / 8)) One ++ byte_value_code g) (bytes_code place Two ++ extract_code g)
    (piece_wider 30 36 _ (piece_append 16 14 _ _ (bytes_piece (onward place (g.low / 8)) One) (byte_value_piece g)) (omega arith))
    (piece_append 16 20 _ _ (bytes_piece place Two) (extract_piece g))

-- a number by what is kept: a whole object, or a bit-field
abbrev pub by_access : ℕ → ℕ → Access → ℕ
by_access whole part (Whole kind) = whole
by_access whole part (Part field) = part

pub load_piece : (place : Place) (access : Access) → Piece (by_access 19 36 access) (load_code place access)
load_piece place (Whole kind) = piece_append 16 3 _ _ (number_bytes_piece place kind) (narrow_piece kind)
load_piece place (Part field) = field_load_piece place field

pub bytes_store_piece : (place : Place) (e : Extent) → Piece 16 (bytes_store place e)
bytes_store_piece (places.Bank b) One = record { plain = refl; fit = refl; size = omega arith }
bytes_store_piece (places.Bank b) Two = record { plain = refl; fit = refl; size = omega arith }
bytes_store_piece (places.Bank b) Three = record { plain = refl; fit = refl; size = omega arith }
bytes_store_piece (places.Bank b) Four = record { plain = refl; fit = refl; size = omega arith }
bytes_store_piece (places.Near at) One = record { plain = refl; fit = refl; size = omega arith }
bytes_store_piece (places.Near at) Two = record { plain = refl; fit = refl; size = omega arith }
bytes_store_piece (places.Near at) Three = record { plain = refl; fit = refl; size = omega arith }
bytes_store_piece (places.Near at) Four = record { plain = refl; fit = refl; size = omega arith }
bytes_store_piece (places.Data s at) One = record { plain = refl; fit = refl; size = omega arith }
bytes_store_piece (places.Data s at) Two = record { plain = refl; fit = refl; size = omega arith }
bytes_store_piece (places.Data s at) Three = record { plain = refl; fit = refl; size = omega arith }
bytes_store_piece (places.Data s at) Four = record { plain = refl; fit = refl; size = omega arith }
bytes_store_piece (places.Far at) One = record { plain = refl; fit = refl; size = omega arith }
bytes_store_piece (places.Far at) Two = record { plain = refl; fit = refl; size = omega arith }
bytes_store_piece (places.Far at) Three = record { plain = refl; fit = refl; size = omega arith }
bytes_store_piece (places.Far at) Four = record { plain = refl; fit = refl; size = omega arith }

after_store_piece : (place : Place) (kind : IntType) → Piece 3 (after_store place kind)
after_store_piece (places.Bank b) kind = piece_none 3
after_store_piece (places.Near at) kind = piece_none 3
after_store_piece (places.Data s at) kind = piece_none 3
after_store_piece (places.Far at) kind = narrow_piece kind

under_piece : (place : Place) → Piece 18 (under_code place)
under_piece (places.Bank b) = piece_wider 16 18 _ (bytes_piece (places.Bank b) Two) (omega arith)
under_piece (places.Near at) = piece_wider 16 18 _ (bytes_piece (places.Near (byte_more at 2)) Two) (omega arith)
under_piece (places.Data s at) = piece_wider 16 18 _ (bytes_piece (places.Data s at) Two) (omega arith)
under_piece (places.Far at) = record { plain = refl; fit = refl; size = omega arith }

aligned_piece : (g : Field) → Piece 18 (aligned_code g)
aligned_piece g = piece_append 8 10 _ _ (mask_piece (ones g.width)) (shift_piece tos.Shl g.low)

one_call : (k : ℕ) (line : Line) (rest : List Line) → Piece 3 (line ∷ []) → Piece k rest → Piece (3 + k) (line ∷ rest)
one_call k line rest p q = piece_append 3 k (line ∷ []) rest p q

pub unit_set_piece : (place : Place) (g : Field) → Piece 66 (unit_set place g)
unit_set_piece place g =
    let push : Piece 3 (call PushAx ∷ []) = record { plain = refl; fit = refl; size = omega arith } in
    let join : Piece 3 (call (Tos tos.Or Ax) ∷ []) = record { plain = refl; fit = refl; size = omega arith } in
    let joined : Piece 19 (call (Tos tos.Or Ax) ∷ bytes_store place Two) = one_call 16 (call (Tos tos.Or Ax)) (bytes_store place Two) join (bytes_store_piece place Two) in
    let masked : Piece 27 (mask_code (others g) ++ (call (Tos tos.Or Ax) ∷ bytes_store place Two)) = piece_append 8 19 (mask_code (others g)) (call (Tos tos.Or Ax) ∷ bytes_store place Two) (mask_piece (others g)) joined in
    let under : Piece 45 (under_code place ++ (mask_code (others g) ++ (call (Tos tos.Or Ax) ∷ bytes_store place Two))) = piece_append 18 27 (under_code place) _ (under_piece place) masked in
    piece_append 18 48 (aligned_code g) _ (aligned_piece g) (one_call 45 (call PushAx) _ push under)

unit_store_piece : (place : Place) (g : Field) → Piece 86 (unit_store place g)
unit_store_piece place g = piece_append 66 20 (unit_set place g) (extract_code g) (unit_set_piece place g) (extract_piece g)

pub merged_piece : (mode : Mode) (operand : Operand) (mask : ℕ) → Piece 3 (Do Sta mode operand ∷ []) → Piece 3 (Do Eor mode operand ∷ []) → Piece 11 (merged_code mode operand mask)
merged_piece mode operand mask whole other =
    let own : Piece 2 (value And mask ∷ []) = record { plain = refl; fit = refl; size = omega arith } in
    piece_if 11 (mask == 255) (Do Sta mode operand ∷ []) _ (piece_wider 3 11 _ whole (omega arith))
    (piece_append 3 8 (Do Eor mode operand ∷ []) _ other (piece_append 2 6 (value And mask ∷ []) _ own (piece_append 3 3 (Do Eor mode operand ∷ []) _ other whole)))

pub bits_piece : (place : Place) (mask : ℕ) → Piece 24 (bits_store place mask)
bits_piece (places.Bank b) mask = piece_wider 11 24 _ (merged_piece ZeroPage (Zero (byte_more regbank b)) mask (record { plain = refl; fit = refl; size = omega arith }) (record { plain = refl; fit = refl; size = omega arith })) (omega arith)
bits_piece (places.Near at) mask =
    let way : Piece 2 (value Ldy at ∷ []) = record { plain = refl; fit = refl; size = omega arith } in
    piece_wider 13 24 _ (piece_append 2 11 (value Ldy at ∷ []) _ way (merged_piece IndirectY (Zero sp) mask (record { plain = refl; fit = refl; size = omega arith }) (record { plain = refl; fit = refl; size = omega arith }))) (omega arith)
bits_piece (places.Data s at) mask = piece_wider 11 24 _ (merged_piece Absolute (At s at) mask (record { plain = refl; fit = refl; size = omega arith }) (record { plain = refl; fit = refl; size = omega arith })) (omega arith)
bits_piece (places.Far at) mask =
    let way : Piece 13 (popped_code ++ (value Ldy at ∷ [])) = record { plain = refl; fit = refl; size = omega arith } in
    piece_append 13 11 (popped_code ++ (value Ldy at ∷ [])) _ way (merged_piece IndirectY (Zero ptr1) mask (record { plain = refl; fit = refl; size = omega arith }) (record { plain = refl; fit = refl; size = omega arith }))

byte_store_piece : (place : Place) (g : Field) → Piece 42 (byte_store place g)
byte_store_piece place g =
    piece_append 4 38 _ _ (up_piece (g.low % 8)) (piece_append 24 14 _ _ (bits_piece (onward (settled place) (g.low / 8)) (own_bits g)) (byte_value_piece g))

field_store_piece : (place : Place) (g : Field) → Piece 86 (field_store place g)
field_store_piece place g =
    piece_if 86 (is_in_byte g) (byte_store place g) _ (piece_wider 42 86 _ (byte_store_piece place g) (omega arith))
    (piece_if 86 (is_unit g) (bytes_store place Two) (unit_store place g) (piece_wider 16 86 _ (bytes_store_piece place Two) (omega arith)) (unit_store_piece place g))

pub store_piece : (place : Place) (access : Access) → Piece (by_access 19 86 access) (store_code place access)
store_piece place (Whole kind) = piece_append 16 3 _ _ (bytes_store_piece place (extent_of kind)) (after_store_piece place kind)
store_piece place (Part field) = field_store_piece place field

pub copy_piece : (n : ℕ) → Piece 13 (copy_code n)
copy_piece n = record { plain = refl; fit = refl; size = omega arith }

-- ---- operators

pub unary_piece : (op : UnaryOp) (w : Width) → Piece 13 (unary_code op w)
unary_piece unary.Neg Ax = record { plain = refl; fit = refl; size = omega arith }
unary_piece unary.Neg Eax = record { plain = refl; fit = refl; size = omega arith }
unary_piece unary.BitNot Ax = record { plain = refl; fit = refl; size = omega arith }
unary_piece unary.BitNot Eax = record { plain = refl; fit = refl; size = omega arith }
unary_piece _ w = piece_none 13

pub wide_piece : (op : BinaryOp) (kind : IntType) → Piece 6 (wide_code op kind)
wide_piece op kind =
    let one : Piece 3 (call (Tos (tos_of op (is_signed_of kind)) (width_of kind)) ∷ []) = record { plain = refl; fit = refl; size = omega arith } in
    one_call 3 (call (Tos (tos_of op (is_signed_of kind)) (width_of kind))) _ one (piece_if 3 (is_comparison op) [] (narrow_code kind) (piece_none 3) (narrow_piece kind))

pub between_piece : (operands : Operands) → Piece 16 (between_code operands)
between_piece (Numbers kind) = piece_wider 3 16 _ (push_piece (width_of kind)) (omega arith)
between_piece (PointerFirst size) = piece_wider 3 16 _ (push_piece Ax) (omega arith)
between_piece (PointerLast size) = piece_append 13 3 _ _ (scale_piece size) (push_piece Ax)
between_piece (Pointers size) = piece_wider 3 16 _ (push_piece Ax) (omega arith)

difference_piece : (op : BinaryOp) (size : ℕ) → Piece 10 (difference_code op size)
difference_piece ops.Sub size = divide_piece size
difference_piece _ size = piece_none 10

pub behind_piece : (op : BinaryOp) (operands : Operands) (right : IntType) → Piece 19 (behind_code op operands right)
behind_piece op (Numbers kind) right = piece_wider 9 19 _ (piece_append 3 6 _ _ (convert_piece right kind) (wide_piece op kind)) (omega arith)
behind_piece op (PointerFirst size) right = piece_append 13 6 _ _ (scale_piece size) (wide_piece op ints.UInt)
behind_piece op (PointerLast size) right = piece_wider 6 19 _ (wide_piece op ints.UInt) (omega arith)
behind_piece op (Pointers size) right = piece_wider 16 19 _ (piece_append 6 10 _ _ (wide_piece op ints.UInt) (difference_piece op size)) (omega arith)

-- ---- assignments

loaded_piece : (d : OperandByte) → Piece 4 (op_of Lda d)
loaded_piece (operand.Number n) = record { plain = refl; fit = refl; size = omega arith }
loaded_piece (operand.Low s at) = record { plain = refl; fit = refl; size = omega arith }
loaded_piece (operand.High s at) = record { plain = refl; fit = refl; size = omega arith }
loaded_piece (operand.Near at) = record { plain = refl; fit = refl; size = omega arith }
loaded_piece (operand.Data s at) = record { plain = refl; fit = refl; size = omega arith }
loaded_piece (operand.Zero at) = record { plain = refl; fit = refl; size = omega arith }

pub read_bytes_piece : (at : ℕ) (stored : Stored) → Piece 18 (read_bytes_code at stored)
read_bytes_piece at (stores.Single low) =
    let last : Piece 14 (value Ldy at ∷ by_y Sta ptr1 ∷ []) = record { plain = refl; fit = refl; size = omega arith } in
    piece_append 4 14 (op_of Lda low) _ (loaded_piece low) last
read_bytes_piece at (stores.Word low high) =
    let aside : Piece 1 (implied Pha ∷ []) = record { plain = refl; fit = refl; size = omega arith } in
    let last : Piece 9 (value Ldy (byte_more at 1) ∷ by_y Sta ptr1 ∷ implied Tax ∷ implied Dey ∷ implied Pla ∷ by_y Sta ptr1 ∷ []) = record { plain = refl; fit = refl; size = omega arith } in
    piece_append 4 14 (op_of Lda low) _ (loaded_piece low) (piece_append 1 13 (implied Pha ∷ []) _ aside (piece_append 4 9 (op_of Lda high) _ (loaded_piece high) last))
read_bytes_piece at (stores.Fixed low high) =
    let first : Piece 5 (value Ldy (byte_more at 1) ∷ by_y Sta ptr1 ∷ implied Tax ∷ []) = record { plain = refl; fit = refl; size = omega arith } in
    let last : Piece 5 (value Ldy at ∷ by_y Sta ptr1 ∷ []) = record { plain = refl; fit = refl; size = omega arith } in
    piece_append 4 14 (op_of Lda high) _ (loaded_piece high) (piece_append 5 9 (value Ldy (byte_more at 1) ∷ by_y Sta ptr1 ∷ implied Tax ∷ []) _ first (piece_append 4 5 (op_of Lda low) _ (loaded_piece low) last))

point_piece : (low high : OperandByte) → Piece 12 (point_code low high)
point_piece low high =
    let first : Piece 2 (zero_page Sta ptr1 ∷ []) = record { plain = refl; fit = refl; size = omega arith } in
    let second : Piece 2 (zero_page Sta (ptr1 + 1) ∷ []) = record { plain = refl; fit = refl; size = omega arith } in
    piece_append 4 8 (op_of Lda low) _ (loaded_piece low) (piece_append 2 6 (zero_page Sta ptr1 ∷ []) _ first (piece_append 4 2 (op_of Lda high) _ (loaded_piece high) second))

pub byte_through_piece : (at : ℕ) (low high : OperandByte) → Piece 22 (byte_through_code at low high)
byte_through_piece at low high =
    let aside : Piece 1 (implied Tax ∷ []) = record { plain = refl; fit = refl; size = omega arith } in
    let last : Piece 9 (implied Txa ∷ value Ldy at ∷ by_y Sta ptr1 ∷ []) = record { plain = refl; fit = refl; size = omega arith } in
    piece_append 1 21 (implied Tax ∷ []) _ aside (piece_append 12 9 (point_code low high) _ (point_piece low high) last)

pub word_through_piece : (at : ℕ) (low high : OperandByte) → Piece 22 (word_through_code at low high)
word_through_piece at low high =
    let aside : Piece 1 (implied Pha ∷ []) = record { plain = refl; fit = refl; size = omega arith } in
    let last : Piece 9 (value Ldy (byte_more at 1) ∷ implied Txa ∷ by_y Sta ptr1 ∷ implied Dey ∷ implied Pla ∷ by_y Sta ptr1 ∷ []) = record { plain = refl; fit = refl; size = omega arith } in
    piece_append 1 21 (implied Pha ∷ []) _ aside (piece_append 12 9 (point_code low high) _ (point_piece low high) last)

pub keep_piece : Piece 4 keep_code
keep_piece = record { plain = refl; fit = refl; size = omega arith }

pub byte_behind_piece : (at : ℕ) → Piece 4 (byte_behind_code at)
byte_behind_piece at = record { plain = refl; fit = refl; size = omega arith }

pub word_behind_piece : (at : ℕ) → Piece 11 (word_behind_code at)
word_behind_piece at = record { plain = refl; fit = refl; size = omega arith }

back_piece : (access : Access) (n : ℕ) → Piece (by_access 21 41 access) (back_code access n)
back_piece (Whole kind) n = add_piece kind (negative n)
back_piece (Part field) n = piece_append 21 20 _ _ (add_piece field.kind (negative n)) (lowest_piece (record field { low = 0 }))

after_piece : (how : StepKind) (access : Access) (n : ℕ) → Piece (by_access 21 41 access) (after_code how access n)
after_piece how access n = piece_if _ (is_post how) (back_code access n) [] (back_piece access n) (piece_none _)

step_sizes : (access : Access) → 12 + (by_access 19 36 access + (21 + (by_access 19 86 access + by_access 21 41 access))) ≤ by_access 92 196 access
step_sizes (Whole kind) = omega arith
step_sizes (Part field) = omega arith

pub long_step_piece : (how : StepKind) (place : Place) (access : Access) (n : ℕ) → Piece (by_access 92 196 access) (long_step_code how place access n)
long_step_piece how place access n =
    piece_wider _ _ _ (piece_append 12 _ _ _ (hold_piece place) (piece_append _ _ _ _ (load_piece (settled place) access) (piece_append 21 _ _ _ (add_piece (type_in access) n) (piece_append _ _ _ _ (store_piece place access) (after_piece how access n))))) (step_sizes access)

open_sizes : (access : Access) → 12 + (by_access 19 36 access + (3 + 3)) ≤ by_access 37 54 access
open_sizes (Whole kind) = omega arith
open_sizes (Part field) = omega arith

pub open_piece : (place : Place) (access : Access) (kind : IntType) → Piece (by_access 37 54 access) (open_code place access kind)
open_piece place access kind =
    piece_wider _ _ _ (piece_append 12 _ _ _ (hold_piece place) (piece_append _ _ _ _ (load_piece (settled place) access) (piece_append 3 3 _ _ (convert_piece (type_in access) kind) (push_piece (width_of kind))))) (open_sizes access)

close_sizes : (access : Access) → 19 + (3 + by_access 19 86 access) ≤ by_access 41 108 access
close_sizes (Whole kind) = omega arith
close_sizes (Part field) = omega arith

pub close_piece : (op : BinaryOp) (operands : Operands) (right : IntType) (place : Place) (access : Access) → Piece (by_access 41 108 access) (close_code op operands right place access)
close_piece op operands right place access =
    piece_wider _ _ _ (piece_append 19 _ _ _ (behind_piece op operands right) (piece_append 3 _ _ _ (convert_piece (computes operands) (type_in access)) (store_piece place access))) (close_sizes access)

-- ---- structures that calls give

further_bytes_piece : (e : Extent) → Piece 15 (further_code e)
further_bytes_piece One = piece_none 15
further_bytes_piece Two = record { plain = refl; fit = refl; size = omega arith }
further_bytes_piece Three = record { plain = refl; fit = refl; size = omega arith }
further_bytes_piece Four = record { plain = refl; fit = refl; size = omega arith }

pub spill_piece : (address : List Line) (e : Extent) → Piece 34 address → Piece 67 (spill_code address e)
spill_piece address e p =
    let kept : Piece 4 kept_code = record { plain = refl; fit = refl; size = omega arith } in
    let first : Piece 10 first_code = record { plain = refl; fit = refl; size = omega arith } in
    let again : Piece 4 again_code = record { plain = refl; fit = refl; size = omega arith } in
    piece_append 4 63 kept_code _ kept (piece_append 34 29 address _ p (piece_append 10 19 first_code _ first (piece_append 15 4 (further_code e) again_code (further_bytes_piece e) again)))

-- ---- calls

count_piece : (counted : Bool) (p : Passed) → Piece 2 (count_code counted p)
count_piece true p = record { plain = refl; fit = refl; size = omega arith }
count_piece false p = piece_none 2

result_piece : (given : Outcome) → Piece 3 (result_code given)
result_piece Nothing = piece_none 3
result_piece (Number kind) = narrow_piece kind
result_piece (Area bytes) = piece_none 3

named_by_piece : (f : Framed) (i : ℕ) (l : Option Library) (counted : Bool) (p : Passed) (given : Outcome) → Piece 65 (named_by f i l counted p given)
named_by_piece f i (Some l) counted p given =
    let one : Piece 60 (call (library_routine l) ∷ []) = record { plain = refl; fit = refl; size = omega arith } in
    piece_append 2 63 (count_code counted p) _ (count_piece counted p) (piece_append 60 3 (call (library_routine l) ∷ []) _ one (result_piece given))
named_by_piece f i None counted p given =
    let one : Piece 3 (Call (Function (function_symbol (numbers_of f.parts) i) (reads_of counted p) (registers (given_bytes given))) ∷ []) = record { plain = refl; fit = refl; size = omega arith } in
    piece_wider 8 65 _ (piece_append 2 6 (count_code counted p) _ (count_piece counted p) (one_call 3 (Call (Function (function_symbol (numbers_of f.parts) i) (reads_of counted p) (registers (given_bytes given)))) _ one (result_piece given))) (omega arith)

pub named_piece : (f : Framed) (i : ℕ) (counted : Bool) (p : Passed) (given : Outcome) → Piece 65 (named_code f i counted p given)
named_piece f i counted p given = named_by_piece f i (library_at f i) counted p given

fetch_piece : (p : Passed) → Piece 15 (fetch_code p)
fetch_piece p = record { plain = refl; fit = refl; size = omega arith }

pub direct_piece : (counted : Bool) (p : Passed) (given : Outcome) → Piece 12 (direct_code counted p given)
direct_piece counted p given =
    let stored : Piece 4 ptr4_code = record { plain = refl; fit = refl; size = omega arith } in
    let one : Piece 3 (Call (Pointer (reads_of counted p) (registers (given_bytes given))) ∷ []) = record { plain = refl; fit = refl; size = omega arith } in
    piece_append 4 8 ptr4_code _ stored (piece_append 2 6 (count_code counted p) _ (count_piece counted p) (one_call 3 (Call (Pointer (reads_of counted p) (registers (given_bytes given)))) _ one (result_piece given)))

pub pointer_piece : (counted : Bool) (p : Passed) (given : Outcome) → Piece 26 (pointer_code counted p given)
pointer_piece counted p given =
    let one : Piece 3 (Call (Pointer (reads_of counted p) (registers (given_bytes given))) ∷ []) = record { plain = refl; fit = refl; size = omega arith } in
    let two : Piece 3 (call (IncSp two_bytes) ∷ []) = record { plain = refl; fit = refl; size = omega arith } in
    piece_append 15 11 (fetch_code p) _ (fetch_piece p) (piece_append 2 9 (count_code counted p) _ (count_piece counted p) (one_call 6 (Call (Pointer (reads_of counted p) (registers (given_bytes given)))) _ one (one_call 3 (call (IncSp two_bytes)) _ two (result_piece given))))
