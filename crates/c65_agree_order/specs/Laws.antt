-- What the lines of comparisons of numbers and pointers do, where those of their sides do the work of these: of words and long words, with sign or without, and of
-- bytes (C90 6.3.8, 6.3.9).
use Rattle.std.specs.Prelude.{◌≡◌, ℕ, ◌+◌, ◌%◌, ◌≤◌, max, Bool, true, false, ℤ, List, ◌∷◌, ◌++◌, Option, Some, None}
use Rattle.c65_base.specs.declared.operators.BinaryOp.{BinaryOp}
use Rattle.c65_ints.specs.declared.types.IntType.{IntType}
use Rattle.c65_ints.specs.declared.types.IntType.TheVariants.{UChar}
use Rattle.c65_ints.specs.Ranges.{is_signed_of, InRange}
use Rattle.c65_csem.specs.Places.{is_promoted}
use Rattle.c65_meaning.specs.Store as values
use Rattle.c65_meaning.specs.Store.{Null, Number, Pointer}
use Rattle.c65_ctype.specs.Trees.{int, QTy, type_in}
use Rattle.c65_csem.specs.Trees.{Typed, node, convert, binary}
use Rattle.c65_meaning.specs.Items.{Item, Apply2, Change, Push}
use Rattle.c65_code.specs.declared.line.Line.{Line}
use Rattle.c65_code.specs.declared.line.Line.TheVariants.{Label}
use Rattle.c65_code.specs.declared.routine.Width.TheVariants.{Ax, Eax}
use Rattle.c65_code.specs.Placement.{IsPlacement}
use Rattle.c65_genwide.specs.Wide.{width_of}
use Rattle.c65_genload.specs.Conversions.{waiting}
use Rattle.c65_genframe.specs.Frames.{Framed}
use Rattle.c65_gendirect.specs.declared.bytes.OperandByte.{OperandByte}
use Rattle.c65_gendirect.specs.declared.bytes.OperandByte.TheVariants as operands
use Rattle.c65_gendirect.specs.declared.direct.Direct.{Direct}
use Rattle.c65_gendirect.specs.declared.direct.Direct.TheVariants as directs
use Rattle.c65_gendirect.specs.declared.compare.Sides.{Sides}
use Rattle.c65_gendirect.specs.declared.compare.Sides.TheVariants.{Word, Long}
use Rattle.c65_gendirect.specs.declared.relation.Relation.{Relation}
use Rattle.c65_gendirect.specs.Bytes.{op_of, byte_of, number_byte}
use Rattle.c65_gendirect.specs.Words.{first_byte_code}
use Rattle.c65_gendirect.specs.Compare.{relation_of, mirrored}
use Rattle.c65_mach.specs.declared.rows.Op.TheVariants.{Lda}
use Rattle.c65_genexpr.specs.declared.comparing.Side.TheVariants.{Left, Right}
use Rattle.c65_genexpr.specs.declared.comparing.Comparing.TheVariants.{Byte, Whole, Held, HeldByte, Stacked}
use Rattle.c65_genexpr.specs.declared.operands.Operands.{Operands}
use Rattle.c65_genexpr.specs.declared.operands.Operands.TheVariants.{Numbers, Pointers}
use Rattle.c65_genexpr.specs.Types.{bare}
use Rattle.c65_genexpr.specs.Places.{more}
use Rattle.c65_genexpr.specs.Operands.{residue_of}
use Rattle.c65_genexpr.specs.Direct.{sides_of, keeps_byte}
use Rattle.c65_genexpr.specs.Operating.{takes_bytes}
use Rattle.c65_genexpr.specs.Comparing.{relation_by, is_raised, raised, one_more, low_code, comparison_by}
use Rattle.c65_genexpr.specs.Lows.{is_number, byte_in, low_operand}
use Rattle.c65_genexpr.specs.Code.{low_value_code}
use Rattle.c65_agree_state.specs.World.{World, Active, lines_of, IsPlaced}
use Rattle.c65_agree_state.specs.Exprs.{Valued}
use Rattle.c65_agree_direct.specs.Laws.{IsReadInPlace}
use Rattle.c65_agree_operate.specs.Manners.{Manner, DoesIn}
use Rattle.c65_agree_operate.specs.Laws.{on_numbers}
use Rattle.c65_agree_operate_bytes.specs.Laws.{IsReadBehind}
use Rattle.c65_agree_compare.specs.Branches.{SettlesIn}
use Rattle.c65_agree_compare.specs.Laws.{IsOrder}
use Rattle.c65_agree_order.specs.Bytes.{Any, LowsIn, BytesIn, IsByteRead, IsByteBehind}
use Rattle.c65_agree_order.specs.Pointers.{on_pointers}

-- ---- words

-- the left side is in AX, and the right one is read where it lies
abbrev pub WordsSettle : Type 0
WordsSettle = (g : World) (a : Active) (m : Manner) (op : BinaryOp) (r : Relation) (t : IntType) (d : Direct) (low high : OperandByte) (s : Bool) (to own needs more_needs pushed : ℕ) (first second : List Item → List Item) (left right : List Line)
    → IsPlacement g.code g.place → IsPlaced (lines_of g a) → relation_of op ≡ Some r → width_of t ≡ Ax → sides_of Ax d ≡ Some (Word low high)
    → DoesIn g a m Valued (Number t) first needs pushed left → IsReadInPlace g a pushed (Number t) second d
    → SettlesIn g a m s to (on_numbers op t t first second) (max needs (1 + more_needs)) pushed (comparison_by (Whole Left (relation_by s r) (is_signed_of t) (Word low high)) op (Numbers t) t s to own left right)

-- the right side is in AX, and the left one is read behind its lines
abbrev pub WordsBehindSettle : Type 0
WordsBehindSettle = (g : World) (a : Active) (m : Manner) (pure : Bool) (op : BinaryOp) (r : Relation) (t : IntType) (d : Direct) (low high : OperandByte) (s : Bool) (to own needs more_needs pushed : ℕ) (first second : List Item → List Item) (left right : List Line)
    → IsPlacement g.code g.place → IsPlaced (lines_of g a) → relation_of op ≡ Some r → width_of t ≡ Ax → sides_of Ax d ≡ Some (Word low high)
    → (m.pure ≡ true → pure ≡ true) → IsReadBehind g a pure pushed (Number t) first d
    → DoesIn g a (record m { pure = pure }) Valued (Number t) second more_needs pushed right
    → SettlesIn g a m s to (on_numbers op t t first second) (max needs (1 + more_needs)) pushed (comparison_by (Whole Right (mirrored (relation_by s r)) (is_signed_of t) (Word low high)) op (Numbers t) t s to own left right)

-- the left side waits in ptr2 while the right one comes, whose lines are light
abbrev pub HeldWordsSettle : Type 0
HeldWordsSettle = (g : World) (a : Active) (m : Manner) (op : BinaryOp) (r : Relation) (t : IntType) (s : Bool) (to own needs more_needs pushed : ℕ) (first second : List Item → List Item) (left right : List Line)
    → IsPlacement g.code g.place → IsPlaced (lines_of g a) → m.light ≡ false → relation_of op ≡ Some r → width_of t ≡ Ax
    → DoesIn g a m Valued (Number t) first needs pushed left
    → DoesIn g a (record m { light = true }) Valued (Number t) second more_needs pushed right
    → SettlesIn g a m s to (on_numbers op t t first second) (max needs (1 + more_needs)) pushed (comparison_by (Held (mirrored (relation_by s r)) (is_signed_of t)) op (Numbers t) t s to own left right)

-- ---- words, of which one is a number that is taken one greater

abbrev pub RaisedWordsSettle : Type 0
RaisedWordsSettle = (g : World) (a : Active) (m : Manner) (op : BinaryOp) (r : Relation) (t : IntType) (z : ℤ) (low high : OperandByte) (s : Bool) (to own needs more_needs pushed : ℕ) (first second : List Item → List Item) (left right : List Line)
    → IsPlacement g.code g.place → IsPlaced (lines_of g a) → relation_of op ≡ Some r → width_of t ≡ Ax → InRange t z
    → is_raised (relation_by s r) t (directs.Number (residue_of z)) ≡ true → sides_of Ax (one_more (directs.Number (residue_of z))) ≡ Some (Word low high)
    → DoesIn g a m Valued (Number t) first needs pushed left → IsReadInPlace g a pushed (Number t) second (directs.Number (residue_of z))
    → SettlesIn g a m s to (on_numbers op t t first second) (max needs (1 + more_needs)) pushed (comparison_by (Whole Left (raised (relation_by s r)) (is_signed_of t) (Word low high)) op (Numbers t) t s to own left right)

abbrev pub RaisedWordsBehindSettle : Type 0
RaisedWordsBehindSettle = (g : World) (a : Active) (m : Manner) (pure : Bool) (op : BinaryOp) (r : Relation) (t : IntType) (z : ℤ) (low high : OperandByte) (s : Bool) (to own needs more_needs pushed : ℕ) (first second : List Item → List Item) (left right : List Line)
    → IsPlacement g.code g.place → IsPlaced (lines_of g a) → relation_of op ≡ Some r → width_of t ≡ Ax → InRange t z
    → is_raised (mirrored (relation_by s r)) t (directs.Number (residue_of z)) ≡ true → sides_of Ax (one_more (directs.Number (residue_of z))) ≡ Some (Word low high)
    → (m.pure ≡ true → pure ≡ true) → IsReadBehind g a pure pushed (Number t) first (directs.Number (residue_of z))
    → DoesIn g a (record m { pure = pure }) Valued (Number t) second more_needs pushed right
    → SettlesIn g a m s to (on_numbers op t t first second) (max needs (1 + more_needs)) pushed (comparison_by (Whole Right (raised (mirrored (relation_by s r))) (is_signed_of t) (Word low high)) op (Numbers t) t s to own left right)

-- ---- long words

-- the left side is in EAX, and the right one is read where it lies
abbrev pub LongsSettle : Type 0
LongsSettle = (g : World) (a : Active) (m : Manner) (op : BinaryOp) (r : Relation) (t : IntType) (d : Direct) (one two three four : OperandByte) (s : Bool) (to own needs more_needs pushed : ℕ) (first second : List Item → List Item) (left right : List Line)
    → IsPlacement g.code g.place → IsPlaced (lines_of g a) → relation_of op ≡ Some r → width_of t ≡ Eax → sides_of Eax d ≡ Some (Long one two three four)
    → DoesIn g a m Valued (Number t) first needs pushed left → IsReadInPlace g a pushed (Number t) second d
    → SettlesIn g a m s to (on_numbers op t t first second) (max needs (1 + more_needs)) pushed (comparison_by (Whole Left (relation_by s r) (is_signed_of t) (Long one two three four)) op (Numbers t) t s to own left right)

-- the right side is in EAX, and the left one is read behind its lines
abbrev pub LongsBehindSettle : Type 0
LongsBehindSettle = (g : World) (a : Active) (m : Manner) (pure : Bool) (op : BinaryOp) (r : Relation) (t : IntType) (d : Direct) (one two three four : OperandByte) (s : Bool) (to own needs more_needs pushed : ℕ) (first second : List Item → List Item) (left right : List Line)
    → IsPlacement g.code g.place → IsPlaced (lines_of g a) → relation_of op ≡ Some r → width_of t ≡ Eax → sides_of Eax d ≡ Some (Long one two three four)
    → (m.pure ≡ true → pure ≡ true) → IsReadBehind g a pure pushed (Number t) first d
    → DoesIn g a (record m { pure = pure }) Valued (Number t) second more_needs pushed right
    → SettlesIn g a m s to (on_numbers op t t first second) (max needs (1 + more_needs)) pushed (comparison_by (Whole Right (mirrored (relation_by s r)) (is_signed_of t) (Long one two three four)) op (Numbers t) t s to own left right)

-- ---- long words, of which one is a number that is taken one greater

abbrev pub RaisedLongsSettle : Type 0
RaisedLongsSettle = (g : World) (a : Active) (m : Manner) (op : BinaryOp) (r : Relation) (t : IntType) (z : ℤ) (one two three four : OperandByte) (s : Bool) (to own needs more_needs pushed : ℕ) (first second : List Item → List Item) (left right : List Line)
    → IsPlacement g.code g.place → IsPlaced (lines_of g a) → relation_of op ≡ Some r → width_of t ≡ Eax → InRange t z
    → is_raised (relation_by s r) t (directs.Number (residue_of z)) ≡ true → sides_of Eax (one_more (directs.Number (residue_of z))) ≡ Some (Long one two three four)
    → DoesIn g a m Valued (Number t) first needs pushed left → IsReadInPlace g a pushed (Number t) second (directs.Number (residue_of z))
    → SettlesIn g a m s to (on_numbers op t t first second) (max needs (1 + more_needs)) pushed (comparison_by (Whole Left (raised (relation_by s r)) (is_signed_of t) (Long one two three four)) op (Numbers t) t s to own left right)

abbrev pub RaisedLongsBehindSettle : Type 0
RaisedLongsBehindSettle = (g : World) (a : Active) (m : Manner) (pure : Bool) (op : BinaryOp) (r : Relation) (t : IntType) (z : ℤ) (one two three four : OperandByte) (s : Bool) (to own needs more_needs pushed : ℕ) (first second : List Item → List Item) (left right : List Line)
    → IsPlacement g.code g.place → IsPlaced (lines_of g a) → relation_of op ≡ Some r → width_of t ≡ Eax → InRange t z
    → is_raised (mirrored (relation_by s r)) t (directs.Number (residue_of z)) ≡ true → sides_of Eax (one_more (directs.Number (residue_of z))) ≡ Some (Long one two three four)
    → (m.pure ≡ true → pure ≡ true) → IsReadBehind g a pure pushed (Number t) first (directs.Number (residue_of z))
    → DoesIn g a (record m { pure = pure }) Valued (Number t) second more_needs pushed right
    → SettlesIn g a m s to (on_numbers op t t first second) (max needs (1 + more_needs)) pushed (comparison_by (Whole Right (raised (mirrored (relation_by s r))) (is_signed_of t) (Long one two three four)) op (Numbers t) t s to own left right)

-- ---- low bytes

-- that of a value in its register is in A
abbrev pub ValuesAreLow : Type 0
ValuesAreLow = (g : World) (a : Active) (m : Manner) (t : IntType) (needs pushed : ℕ) (work : List Item → List Item) (lines : List Line)
    → DoesIn g a m Valued (Number t) work needs pushed lines → LowsIn g a m Any t work needs pushed lines

-- an unsigned char is a byte
abbrev pub CharsAreBytes : Type 0
CharsAreBytes = (g : World) (a : Active) (m : Manner) (needs pushed : ℕ) (work : List Item → List Item) (lines : List Line)
    → LowsIn g a m Any UChar work needs pushed lines → BytesIn g a m UChar work needs pushed lines

-- a conversion between numbers keeps the low byte, and takes no lines (C90 6.2.1.2)
abbrev pub ConversionsKeepLows : Type 0
ConversionsKeepLows = (g : World) (a : Active) (m : Manner) (r t : IntType) (needs pushed : ℕ) (work : List Item → List Item) (lines : List Line)
    → LowsIn g a m Any r work needs pushed lines → LowsIn g a m Any t (λ k. work (Change (Number t) ∷ k)) needs pushed lines

-- and a byte, but where it is to a signed char
abbrev pub ConversionsKeepBytes : Type 0
ConversionsKeepBytes = (g : World) (a : Active) (m : Manner) (r t : IntType) (needs pushed : ℕ) (work : List Item → List Item) (lines : List Line)
    → keeps_byte (int t) (int r) ≡ true → BytesIn g a m r work needs pushed lines → BytesIn g a m t (λ k. work (Change (Number t) ∷ k)) needs pushed lines

-- the low byte of a sum, a difference or bits of two words is that of their low bytes (C90 6.3.6, 6.3.10 to 6.3.12)
abbrev pub LowOperandsDo : Type 0
LowOperandsDo = (g : World) (a : Active) (m : Manner) (op : BinaryOp) (t : IntType) (label needs more_needs pushed : ℕ) (d : Direct) (x : OperandByte) (first second : List Item → List Item) (left : List Line)
    → IsPlacement g.code g.place → takes_bytes op ≡ true → is_promoted t ≡ true → width_of t ≡ Ax → byte_of d 0 ≡ Some x
    → LowsIn g a m Any t first needs pushed left → IsReadInPlace g a pushed (Number t) second d
    → LowsIn g a m Any t (on_numbers op t t first second) (max needs (1 + more_needs)) pushed (Label label ∷ (left ++ first_byte_code op x))

-- ---- bytes

-- the low byte of an unsigned char is read where that lies
abbrev pub CharsAreRead : Type 0
CharsAreRead = (g : World) (a : Active) (pushed : ℕ) (work : List Item → List Item) (d : Direct) (x : OperandByte)
    → byte_of d 0 ≡ Some x → IsReadInPlace g a pushed (Number UChar) work d → IsByteRead g a pushed UChar work x

abbrev pub CharsAreReadBehind : Type 0
CharsAreReadBehind = (g : World) (a : Active) (pure : Bool) (pushed : ℕ) (work : List Item → List Item) (d : Direct) (x : OperandByte)
    → byte_of d 0 ≡ Some x → IsReadBehind g a pure pushed (Number UChar) work d → IsByteBehind g a pure pushed UChar work x

-- so it is of one that is converted
abbrev pub ReadsAreConverted : Type 0
ReadsAreConverted = (g : World) (a : Active) (pushed : ℕ) (r t : IntType) (work : List Item → List Item) (x : OperandByte)
    → keeps_byte (int t) (int r) ≡ true → IsByteRead g a pushed r work x → IsByteRead g a pushed t (λ k. work (Change (Number t) ∷ k)) x

abbrev pub ReadsBehindAreConverted : Type 0
ReadsBehindAreConverted = (g : World) (a : Active) (pure : Bool) (pushed : ℕ) (r t : IntType) (work : List Item → List Item) (x : OperandByte)
    → keeps_byte (int t) (int r) ≡ true → IsByteBehind g a pure pushed r work x → IsByteBehind g a pure pushed t (λ k. work (Change (Number t) ∷ k)) x

-- and of a constant from 0 to 255
abbrev pub ConstantsAreRead : Type 0
ConstantsAreRead = (g : World) (a : Active) (pushed : ℕ) (t : IntType) (z : ℤ) → InRange t z → InRange UChar z → IsByteRead g a pushed t (λ k. Push (values.Whole z) ∷ k) (operands.Number (number_byte (residue_of z) 0))

abbrev pub ConstantsAreReadBehind : Type 0
ConstantsAreReadBehind = (g : World) (a : Active) (pure : Bool) (pushed : ℕ) (t : IntType) (z : ℤ) → InRange t z → InRange UChar z → IsByteBehind g a pure pushed t (λ k. Push (values.Whole z) ∷ k) (operands.Number (number_byte (residue_of z) 0))

-- a byte that is read where it lies comes to A
abbrev pub ReadBytesCome : Type 0
ReadBytesCome = (g : World) (a : Active) (m : Manner) (t : IntType) (needs pushed : ℕ) (work : List Item → List Item) (x : OperandByte)
    → IsPlacement g.code g.place → m.over ≤ 1000 → IsByteRead g a pushed t work x → BytesIn g a m t work needs pushed (op_of Lda x)

-- the left side is in A, and the right one is read where it lies
abbrev pub BytesSettle : Type 0
BytesSettle = (g : World) (a : Active) (m : Manner) (op : BinaryOp) (r : Relation) (t : IntType) (low : Option OperandByte) (x : OperandByte) (s : Bool) (to own needs more_needs pushed : ℕ) (first second : List Item → List Item) (left right : List Line)
    → IsPlacement g.code g.place → relation_of op ≡ Some r
    → BytesIn g a m t first needs pushed (low_code low left) → IsByteRead g a pushed t second x
    → SettlesIn g a m s to (on_numbers op t t first second) (max needs (1 + more_needs)) pushed (comparison_by (Byte Left low (relation_by s r) x) op (Numbers t) t s to own left right)

-- the right side is in A, and the left one is read behind its lines
abbrev pub BytesBehindSettle : Type 0
BytesBehindSettle = (g : World) (a : Active) (m : Manner) (pure : Bool) (op : BinaryOp) (r : Relation) (t : IntType) (low : Option OperandByte) (x : OperandByte) (s : Bool) (to own needs more_needs pushed : ℕ) (first second : List Item → List Item) (left right : List Line)
    → IsPlacement g.code g.place → relation_of op ≡ Some r
    → (m.pure ≡ true → pure ≡ true) → IsByteBehind g a pure pushed t first x
    → BytesIn g a (record m { pure = pure }) t second more_needs pushed (low_code low right)
    → SettlesIn g a m s to (on_numbers op t t first second) (max needs (1 + more_needs)) pushed (comparison_by (Byte Right low (mirrored (relation_by s r)) x) op (Numbers t) t s to own left right)

-- the left side waits in the low byte of ptr2 while the right one comes
abbrev pub HeldBytesSettle : Type 0
HeldBytesSettle = (g : World) (a : Active) (m : Manner) (op : BinaryOp) (r : Relation) (t : IntType) (s : Bool) (to own needs more_needs pushed : ℕ) (first second : List Item → List Item) (left right : List Line)
    → IsPlacement g.code g.place → m.light ≡ false → relation_of op ≡ Some r
    → BytesIn g a m t first needs pushed left
    → BytesIn g a (record m { light = true }) t second more_needs pushed right
    → SettlesIn g a m s to (on_numbers op t t first second) (max needs (1 + more_needs)) pushed (comparison_by (HeldByte (mirrored (relation_by s r))) op (Numbers t) t s to own left right)

-- ---- bytes, of which one is a number that is taken one greater

abbrev pub RaisedBytesSettle : Type 0
RaisedBytesSettle = (g : World) (a : Active) (m : Manner) (op : BinaryOp) (r : Relation) (t : IntType) (z : ℤ) (low : Option OperandByte) (s : Bool) (to own needs more_needs pushed : ℕ) (first second : List Item → List Item) (left right : List Line)
    → IsPlacement g.code g.place → relation_of op ≡ Some r → InRange UChar z → is_raised (relation_by s r) UChar (directs.Number (residue_of z)) ≡ true
    → BytesIn g a m t first needs pushed (low_code low left) → IsByteRead g a pushed t second (operands.Number (number_byte (residue_of z) 0))
    → SettlesIn g a m s to (on_numbers op t t first second) (max needs (1 + more_needs)) pushed (comparison_by (Byte Left low (raised (relation_by s r)) (operands.Number (number_byte ((residue_of z + 1) % 4294967296) 0))) op (Numbers t) t s to own left right)

abbrev pub RaisedBytesBehindSettle : Type 0
RaisedBytesBehindSettle = (g : World) (a : Active) (m : Manner) (pure : Bool) (op : BinaryOp) (r : Relation) (t : IntType) (z : ℤ) (low : Option OperandByte) (s : Bool) (to own needs more_needs pushed : ℕ) (first second : List Item → List Item) (left right : List Line)
    → IsPlacement g.code g.place → relation_of op ≡ Some r → InRange UChar z → is_raised (mirrored (relation_by s r)) UChar (directs.Number (residue_of z)) ≡ true
    → (m.pure ≡ true → pure ≡ true) → IsByteBehind g a pure pushed t first (operands.Number (number_byte (residue_of z) 0))
    → BytesIn g a (record m { pure = pure }) t second more_needs pushed (low_code low right)
    → SettlesIn g a m s to (on_numbers op t t first second) (max needs (1 + more_needs)) pushed (comparison_by (Byte Right low (raised (mirrored (relation_by s r))) (operands.Number (number_byte ((residue_of z + 1) % 4294967296) 0))) op (Numbers t) t s to own left right)

-- ---- pointers

-- the left pointer is in AX, and the right one is read where it lies
abbrev pub PointersSettle : Type 0
PointersSettle = (g : World) (a : Active) (m : Manner) (op : BinaryOp) (r : Relation) (size other : ℕ) (d : Direct) (low high : OperandByte) (operands : Operands) (right_type : IntType) (s : Bool) (to own needs more_needs pushed : ℕ) (first second : List Item → List Item) (left right : List Line)
    → IsPlacement g.code g.place → IsPlaced (lines_of g a) → relation_of op ≡ Some r → sides_of Ax d ≡ Some (Word low high)
    → DoesIn g a m Valued (Pointer size) first needs pushed left → IsReadInPlace g a pushed (Pointer other) second d
    → SettlesIn g a m s to (on_pointers op size other first second) (max needs (1 + more_needs)) pushed (comparison_by (Whole Left (relation_by s r) false (Word low high)) op operands right_type s to own left right)

-- the right pointer is in AX, and the left one is read behind its lines
abbrev pub PointersBehindSettle : Type 0
PointersBehindSettle = (g : World) (a : Active) (m : Manner) (pure : Bool) (op : BinaryOp) (r : Relation) (size other : ℕ) (d : Direct) (low high : OperandByte) (operands : Operands) (right_type : IntType) (s : Bool) (to own needs more_needs pushed : ℕ) (first second : List Item → List Item) (left right : List Line)
    → IsPlacement g.code g.place → IsPlaced (lines_of g a) → relation_of op ≡ Some r → sides_of Ax d ≡ Some (Word low high)
    → (m.pure ≡ true → pure ≡ true) → IsReadBehind g a pure pushed (Pointer size) first d
    → DoesIn g a (record m { pure = pure }) Valued (Pointer other) second more_needs pushed right
    → SettlesIn g a m s to (on_pointers op size other first second) (max needs (1 + more_needs)) pushed (comparison_by (Whole Right (mirrored (relation_by s r)) false (Word low high)) op operands right_type s to own left right)

-- the left pointer waits in ptr2 while the right one comes, whose lines are light
abbrev pub HeldPointersSettle : Type 0
HeldPointersSettle = (g : World) (a : Active) (m : Manner) (op : BinaryOp) (r : Relation) (size other : ℕ) (operands : Operands) (right_type : IntType) (s : Bool) (to own needs more_needs pushed : ℕ) (first second : List Item → List Item) (left right : List Line)
    → IsPlacement g.code g.place → IsPlaced (lines_of g a) → m.light ≡ false → relation_of op ≡ Some r
    → DoesIn g a m Valued (Pointer size) first needs pushed left
    → DoesIn g a (record m { light = true }) Valued (Pointer other) second more_needs pushed right
    → SettlesIn g a m s to (on_pointers op size other first second) (max needs (1 + more_needs)) pushed (comparison_by (Held (mirrored (relation_by s r)) false) op operands right_type s to own left right)

-- by a routine: the left pointer waits on the software stack, and the right one is in AX
abbrev pub StackedPointersSettle : Type 0
StackedPointersSettle = (g : World) (a : Active) (m : Manner) (op : BinaryOp) (r : Relation) (size other count : ℕ) (right_type : IntType) (s : Bool) (to own needs more_needs pushed : ℕ) (first second : List Item → List Item) (left right : List Line)
    → IsPlacement g.code g.place → m.light ≡ false → m.over ≤ 1000 → relation_of op ≡ Some r
    → DoesIn g a m Valued (Pointer size) first needs pushed left
    → DoesIn g a m Valued (Pointer other) second more_needs (more pushed (waiting Ax)) right
    → SettlesIn g a m s to (on_pointers op size other first second) (max needs (1 + more_needs)) pushed (comparison_by Stacked op (Pointers count) right_type s to own left right)

-- an order beside a null pointer has no meaning, whatever its lines are
abbrev pub NullOrdersSettle : Type 0
NullOrdersSettle = (g : World) (a : Active) (m : Manner) (op : BinaryOp) (r x : Relation) (size other : ℕ) (is_signed : Bool) (sides : Sides) (operands : Operands) (right_type : IntType) (s : Bool) (to own needs pushed : ℕ) (first : List Item → List Item) (left right : List Line)
    → relation_of op ≡ Some r → IsOrder r → DoesIn g a m Valued (Pointer size) first needs pushed left
    → SettlesIn g a m s to (λ k. first (Push Null ∷ Apply2 op (Pointer size) (Pointer other) ∷ k)) needs pushed (comparison_by (Whole Left x is_signed sides) op operands right_type s to own left right)

abbrev pub NullOrdersBehindSettle : Type 0
NullOrdersBehindSettle = (g : World) (a : Active) (m : Manner) (op : BinaryOp) (r x : Relation) (size other : ℕ) (is_signed : Bool) (sides : Sides) (operands : Operands) (right_type : IntType) (s : Bool) (to own needs pushed : ℕ) (second : List Item → List Item) (left right : List Line)
    → relation_of op ≡ Some r → IsOrder r → DoesIn g a m Valued (Pointer other) second needs pushed right
    → SettlesIn g a m s to (λ k. Push Null ∷ second (Apply2 op (Pointer size) (Pointer other) ∷ k)) needs pushed (comparison_by (Whole Right x is_signed sides) op operands right_type s to own left right)

-- ---- the lines of the generator

-- of the low byte of a number that is converted, and not read where it lies: those of the number's low byte
abbrev pub LowConversionLinesAre : Type 0
LowConversionLinesAre = (f : Framed) (pushed fresh : ℕ) (q : QTy) (e : Typed) → byte_in f pushed (node q (convert e)) ≡ None → is_number (type_in q) ≡ true → is_number (bare e) ≡ true
    → low_value_code f pushed fresh (node q (convert e)) ≡ low_value_code f pushed fresh e

-- of an operator whose right operand is read where it lies
abbrev pub LowOperatorLinesAre : Type 0
LowOperatorLinesAre = (f : Framed) (pushed fresh : ℕ) (q : QTy) (op : BinaryOp) (x y : Typed) (d : OperandByte) → low_operand f pushed op x y ≡ Some d
    → low_value_code f pushed fresh (node q (binary op x y)) ≡ Label fresh ∷ (low_value_code f pushed (fresh + 1) x ++ first_byte_code op d)
