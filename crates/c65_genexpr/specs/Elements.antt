-- Elements of small arrays, which are read by Y behind the array's symbol (C90 6.3.2.1). By 6.3.6 an index of a whole object stays
-- within it, so where that has at most 256 bytes the low byte of the element's offset says all.
use Rattle.std.specs.Prelude.{ℕ, ℤ, ◌%◌, ◌==◌, ◌&&◌, nat_le, if◌then◌else◌, Bool, Option, Some, None, option_map, List, [], ◌∷◌, ◌++◌}
use Rattle.c65_base.specs.declared.operators.BinaryOp.{BinaryOp}
use Rattle.c65_base.specs.declared.operators.BinaryOp.TheVariants.{Add}
use Rattle.c65_ints.specs.declared.types.IntType.{IntType}
use Rattle.c65_ctype.specs.Views.{types_of}
use Rattle.c65_csem.specs.Trees.{Typed, node, literal, object, deref, member, decay, binary}
use Rattle.c65_mach.specs.declared.rows.Op.{Op}
use Rattle.c65_mach.specs.declared.rows.Op.TheVariants.{Asl, Lda, Ldx, Ora, Tay}
use Rattle.c65_mach.specs.declared.rows.Mode.TheVariants.{AbsoluteY}
use Rattle.c65_code.specs.declared.line.Sym.{Sym}
use Rattle.c65_code.specs.declared.line.Operand.TheVariants.{At}
use Rattle.c65_code.specs.declared.line.Line.{Line}
use Rattle.c65_code.specs.declared.line.Line.TheVariants.{Do}
use Rattle.c65_genframe.specs.declared.home.Home.{Home}
use Rattle.c65_genframe.specs.Symbols.{numbers_of, literal_symbol, object_symbol}
use Rattle.c65_genframe.specs.Frames.{Framed, home_of, type_bytes}
use Rattle.c65_genwide.specs.Wide.{narrow_code}
use Rattle.c65_genload.specs.Words.{implied, shift_a}
use Rattle.c65_genload.specs.declared.places.Extent.{Extent}
use Rattle.c65_genload.specs.declared.places.Extent.TheVariants.{One, Two}
use Rattle.c65_genload.specs.declared.places.Access.{Access}
use Rattle.c65_genload.specs.declared.places.Access.TheVariants.{Whole, Part}
use Rattle.c65_genload.specs.Places.{extent_of}
use Rattle.c65_genshift.specs.Quick.{elements_code}
use Rattle.c65_genexpr.specs.declared.elements.Element.{Element}
use Rattle.c65_genexpr.specs.declared.operands.Operands.{Operands}
use Rattle.c65_genexpr.specs.declared.operands.Operands.TheVariants.{PointerFirst}
use Rattle.c65_genexpr.specs.Types.{bare, offset_at, access_of}
use Rattle.c65_genexpr.specs.Places.{more}
use Rattle.c65_genexpr.specs.Operands.{operands_of, constant_in}
use Rattle.c65_genexpr.specs.declared.wanted.Wanted.{Wanted}
use Rattle.c65_genexpr.specs.declared.wanted.Wanted.TheVariants.{Value, Test}
use Rattle.c65_genexpr.specs.Wanted.{branch_code}

-- ---- the element

abbrev pub is_small : ℕ → Bool
is_small bytes = nat_le 1 bytes && nat_le bytes 256

-- an object in data
abbrev pub data_symbol : Framed → ℕ → Option Home → Option Sym
data_symbol f i None = Some (object_symbol (numbers_of f.parts) i)
data_symbol f i (Some home) = None

-- a whole object, or a literal
abbrev pub whole_symbol : Framed → Typed → Option Sym
whole_symbol f (node t (literal n)) = Some (literal_symbol (numbers_of f.parts) n)
whole_symbol f (node t (object i)) = data_symbol f i (home_of f i)
whole_symbol f (node t _) = None

-- of 1 to 256 bytes
abbrev pub small_array : Framed → Typed → Option Sym
small_array f e = if is_small (type_bytes f (bare e)) then whole_symbol f e else None

abbrev pub array_of : Framed → Typed → Option Sym
array_of f (node t (decay e)) = small_array f e
array_of f (node t _) = None

abbrev pub behind : ℕ → Sym → Element
behind size sym = record { sym = sym; at = 0; size = size }

-- the sum of such an array and an index that is no constant
abbrev pub sum_by : BinaryOp → Operands → Option ℤ → Option Sym → Option Element
sum_by Add (PointerFirst size) None sym = option_map (behind size) sym
sum_by op operands z sym = None

abbrev pub sum_element : Framed → Typed → Option Element
sum_element f (node t (binary op a b)) = sum_by op (operands_of f (bare a) (bare b)) (constant_in b) (array_of f a)
sum_element f (node t _) = None

-- a part, so far behind the beginning
abbrev pub onward : ℕ → Element → Element
onward n x = record { sym = x.sym; at = more x.at (n % 65536); size = x.size }

-- the element that a place is, or that it is a part of
abbrev mutual
  pub element_of : Framed → Typed → Option Element
  element_of f (node t (deref e)) = sum_element f e
  element_of f (node t (member e m)) = option_map (onward (offset_at (types_of f.parts.types) (bare e) m)) (element_of f e)
  element_of f (node t _) = None

abbrev pub typed_by : IntType → Extent → Option Element → Option (Element × IntType)
typed_by kind One x = option_map (λ y. (y, kind)) x
typed_by kind Two x = option_map (λ y. (y, kind)) x
typed_by kind extent x = None

abbrev pub element_by : Access → Option Element → Option (Element × IntType)
element_by (Whole kind) x = typed_by kind (extent_of kind) x
element_by (Part field) x = None

-- where one byte or two are kept there, with their type
abbrev pub element_at : Framed → Typed → Option (Element × IntType)
element_at f e = element_by (access_of (types_of f.parts.types) e) (element_of f e)

-- the lines of an element, or others
abbrev pub element_or : {A : Type 0} → Option (Element × IntType) → (Element × IntType → A) → A → A
element_or None f other = other
element_or (Some x) f other = f x

-- ---- lines

abbrev pub by_index : Op → Sym → ℕ → Line
by_index op sym at = Do op AbsoluteY (At sym at)

-- how often one byte is doubled
abbrev pub doublings : ℕ → Option ℕ
doublings size = if size == 1 then Some 0 else (if size == 2 then Some 1 else (if size == 4 then Some 2 else (if size == 8 then Some 3 else None)))

abbrev pub doubled_code : ℕ → List Line
doubled_code n = if n == 0 then [] else (if n == 1 then shift_a Asl ∷ [] else (if n == 2 then shift_a Asl ∷ shift_a Asl ∷ [] else shift_a Asl ∷ shift_a Asl ∷ shift_a Asl ∷ []))

abbrev pub scaled_by : ℕ → Option ℕ → List Line
scaled_by size (Some n) = doubled_code n
scaled_by size None = elements_code size

-- the low byte of a number of elements becomes that of a number of bytes
abbrev pub scaled_code : ℕ → List Line
scaled_code size = scaled_by size (doublings size)

-- and goes to Y
abbrev pub reached_code : Element → List Line
reached_code x = scaled_code x.size ++ (implied Tay ∷ [])

abbrev pub element_bytes_code : Element → Extent → List Line
element_bytes_code x One = by_index Lda x.sym x.at ∷ []
element_bytes_code x extent = by_index Ldx x.sym (more x.at 1) ∷ by_index Lda x.sym x.at ∷ []

-- what is kept there, behind the low byte of the index
abbrev pub element_value_code : Element → IntType → List Line
element_value_code x kind = reached_code x ++ (element_bytes_code x (extent_of kind) ++ narrow_code kind)

-- its low byte alone
abbrev pub element_byte_code : Element → List Line
element_byte_code x = reached_code x ++ (by_index Lda x.sym x.at ∷ [])

abbrev pub either_byte_code : Element → Extent → List Line
either_byte_code x One = by_index Lda x.sym x.at ∷ []
either_byte_code x extent = by_index Lda x.sym x.at ∷ by_index Ora x.sym (more x.at 1) ∷ []

abbrev pub element_test_code : Element → IntType → Bool → ℕ → List Line
element_test_code x kind s to = reached_code x ++ (either_byte_code x (extent_of kind) ++ branch_code s to)

abbrev pub loaded_element : Wanted → Element × IntType → List Line → List Line
loaded_element Value x index = index ++ element_value_code x.0 x.1
loaded_element (Test to s) x index = index ++ element_test_code x.0 x.1 s to
