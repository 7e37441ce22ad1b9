-- Which values an expression or an object of a shape may have, and that reading, converting and operating give such values
-- (C90 6.1.2.5, 6.2.1, 6.3).
use Rattle.std.specs.Prelude.{◌≡◌, ℕ, ◌≤◌, Bool, true, false, length, Ok, ⊤}
use Rattle.c65_base.specs.declared.operators.UnaryOp.{UnaryOp}
use Rattle.c65_base.specs.declared.operators.UnaryOp.TheVariants.{Not}
use Rattle.c65_base.specs.declared.operators.BinaryOp.{BinaryOp}
use Rattle.c65_base.specs.declared.operators.BinaryOp.TheVariants.{Lt, Gt, Le, Ge, Eq, Ne}
use Rattle.c65_base.specs.declared.operators.StepKind.{StepKind}
use Rattle.c65_ints.specs.declared.types.IntType.{IntType}
use Rattle.c65_ints.specs.declared.types.IntType.TheVariants as I
use Rattle.c65_ints.specs.Ranges.{InRange, width_of}
use Rattle.c65_meaning.specs.Store.{Cell, Bits, Piece, Clouded, Store, Value, Whole, Null, Place, Opaque, Cells, NoValue, Shape, Number, Field, Pointer, Area, read_cells}
use Rattle.c65_meaning.specs.Operators.{converted, binary, unary, bumped}

-- A number lies in the range of its type. The value of an area is the place of a structure or union, or its cells where it is passed or
-- returned; void has none.
abbrev pub Fits : Shape → Value → Type 0
Fits (Number t) (Whole z) = InRange t z
Fits (Number t) Opaque = ⊤
Fits (Field t low width) (Whole z) = InRange t z
Fits (Field t low width) Opaque = ⊤
Fits (Pointer size) Null = ⊤
Fits (Pointer size) (Place b o) = ⊤
Fits (Pointer size) Opaque = ⊤
Fits (Area size) (Place b o) = ⊤
Fits (Area size) (Cells xs) = length xs ≡ size
Fits (Area size) NoValue = ⊤
Fits _ _ = ⊥

-- ---- conversions

-- a type that may be converted to: a number, a pointer or void
abbrev pub IsTarget : Shape → Type 0
IsTarget (Field t low width) = ⊥
IsTarget _ = ⊤

abbrev pub ConversionsFit : Type 0
ConversionsFit = (f : Shape) (v w : Value) → IsTarget f → converted f v ≡ Ok w → Fits f w

-- ---- operators

abbrev pub compares : BinaryOp → Bool
compares Lt = true
compares Gt = true
compares Le = true
compares Ge = true
compares Eq = true
compares Ne = true
compares _ = false

abbrev pub calculated_shape : Bool → IntType → Shape
calculated_shape true t = Number I.Int
calculated_shape false t = Number t

-- the shape of what an operator gives
abbrev pub result_shape : BinaryOp → Shape → Shape → Shape
result_shape op (Number t) (Number r) = calculated_shape (compares op) t
result_shape op (Pointer size) (Number r) = Pointer size
result_shape op (Number t) (Pointer size) = Pointer size
result_shape op _ _ = Number I.Int

abbrev pub OperatorsFit : Type 0
OperatorsFit = (s : Store) (op : BinaryOp) (f g : Shape) (v w r : Value) → Fits f v → binary s op f g v w ≡ Ok r → Fits (result_shape op f g) r

abbrev pub unary_shape : UnaryOp → Shape → Shape
unary_shape Not f = Number I.Int
unary_shape op f = f

abbrev pub UnaryOperatorsFit : Type 0
UnaryOperatorsFit = (s : Store) (op : UnaryOp) (f : Shape) (v r : Value) → unary s op f v ≡ Ok r → Fits (unary_shape op f) r

-- one more or one less fits where it was
abbrev pub StepsFit : Type 0
StepsFit = (s : Store) (kind : StepKind) (f : Shape) (v r : Value) → bumped s kind f v ≡ Ok r → Fits f r

-- ---- reading

-- the set bits of a byte are the bits of a number below 256
abbrev pub IsByte : Cell → Type 0
IsByte (Bits known value) = value ≤ 255
IsByte (Piece i b o) = ⊤
IsByte Clouded = ⊤

-- a bit-field is no wider than its type
abbrev pub IsShape : Shape → Type 0
IsShape (Field t low width) = width ≤ width_of t
IsShape _ = ⊤

abbrev pub ReadsFit : Type 0
ReadsFit = (f : Shape) (cells : ℕ → Cell) (o : ℕ) (v : Value) → IsShape f → ((p : ℕ) → IsByte (cells p)) → read_cells f cells o ≡ Ok v → Fits f v
