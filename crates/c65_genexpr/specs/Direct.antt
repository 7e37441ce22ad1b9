-- Values whose bytes are read where they lie, trees that change nothing, and values of one byte.
use Rattle.std.specs.Prelude.{ℕ, ◌==◌, nat_lt, ◌&&◌, ◌||◌, if◌then◌else◌, Bool, true, false, Option, Some, None, option_and_then, List, [], ◌∷◌}
use Rattle.c65_ints.specs.declared.types.IntType.{IntType}
use Rattle.c65_ints.specs.declared.types.IntType.TheVariants.{SChar, UChar}
use Rattle.c65_ctype.specs.Trees.{Ty, int, pointer, type_in}
use Rattle.c65_ctype.specs.Views.{types_of}
use Rattle.c65_csem.specs.Trees.{Typed, node, Node, constant, null, func, deref, member, load, address, decay, convert, unary, binary, both, either, choice, comma, assign, assign_op, assign_step, step, copy, call, pack, spill}
use Rattle.c65_code.specs.declared.routine.Width.{Width}
use Rattle.c65_code.specs.declared.routine.Width.TheVariants.{Ax, Eax}
use Rattle.c65_genframe.specs.Frames.{Framed}
use Rattle.c65_genframe.specs.Symbols.{numbers_of, function_symbol}
use Rattle.c65_genload.specs.Conversions.{size_of}
use Rattle.c65_genload.specs.declared.places.Extent.{Extent}
use Rattle.c65_genload.specs.declared.places.Extent.TheVariants.{One, Two}
use Rattle.c65_genload.specs.declared.places.Place.{Place}
use Rattle.c65_genload.specs.declared.places.Place.TheVariants.{Data, Far}
use Rattle.c65_genload.specs.declared.places.Access.{Access}
use Rattle.c65_genload.specs.declared.places.Access.TheVariants.{Whole, Part}
use Rattle.c65_gendirect.specs.declared.bytes.OperandByte.{OperandByte}
use Rattle.c65_gendirect.specs.declared.direct.Direct.{Direct}
use Rattle.c65_gendirect.specs.declared.direct.Direct.TheVariants.{Number, Address, Kept}
use Rattle.c65_gendirect.specs.declared.compare.Sides.{Sides}
use Rattle.c65_gendirect.specs.declared.compare.Sides.TheVariants.{Word, Long}
use Rattle.c65_gendirect.specs.Bytes.{byte_of, converted}
use Rattle.c65_genexpr.specs.Types.{kind_of, bare, access_of}
use Rattle.c65_genexpr.specs.Places.{place_of, is_plain}
use Rattle.c65_genexpr.specs.Operands.{residue_of}

-- a number that is kept at a known place
abbrev pub kept_at : Place → Access → Option Direct
kept_at (Far at) access = None
kept_at place (Whole kind) = Some (Kept place kind)
kept_at place (Part field) = None

abbrev pub address_at : Place → Option Direct
address_at (Data sym at) = Some (Address sym at)
address_at place = None

-- the address of a place, where it is known when the program is linked
abbrev pub address_of : Framed → ℕ → Typed → Option Direct
address_of f pushed (node t (func i)) = Some (Address (function_symbol (numbers_of f.parts) i) 0)
address_of f pushed e = if is_plain e then address_at (place_of f pushed e) else None

-- conversions that take bytes as they are, and zeros above them
abbrev pub takes_bytes : Ty → Ty → Bool
takes_bytes (int to) (int from) = true
takes_bytes (pointer to) (pointer from) = true
takes_bytes (int to) (pointer from) = size_of to == 2
takes_bytes to from = false

abbrev pub converted_if : Bool → IntType → Option Direct → Option Direct
converted_if true to d = option_and_then (converted to) d
converted_if false to d = None

-- a value whose bytes can be read where they lie, where so many bytes wait
abbrev mutual
  pub direct_of : Framed → ℕ → Typed → Option Direct
  direct_of f pushed (node t (constant z)) = Some (Number (residue_of z))
  direct_of f pushed (node t null) = Some (Number 0)
  direct_of f pushed (node t (load e)) = if is_plain e then kept_at (place_of f pushed e) (access_of (types_of f.parts.types) e) else None
  direct_of f pushed (node t (address e)) = address_of f pushed e
  direct_of f pushed (node t (decay e)) = address_of f pushed e
  direct_of f pushed (node t (convert e)) = converted_if (takes_bytes (type_in t) (bare e)) (kind_of (type_in t)) (direct_of f pushed e)
  direct_of f pushed (node t _) = None

-- a value that nothing changes while the program runs
abbrev pub is_fixed : Option Direct → Bool
is_fixed (Some (Number n)) = true
is_fixed (Some (Address sym at)) = true
is_fixed _ = false

-- ---- trees that change nothing, and call nothing

abbrev mutual
  pub is_pure : Typed → Bool
  is_pure (node t n) = is_pure_node n

  pub is_pure_node : Node → Bool
  is_pure_node (deref e) = is_pure e
  is_pure_node (member e m) = is_pure e
  is_pure_node (load e) = is_pure e
  is_pure_node (address e) = is_pure e
  is_pure_node (decay e) = is_pure e
  is_pure_node (convert e) = is_pure e
  is_pure_node (unary op e) = is_pure e
  is_pure_node (binary op a b) = is_pure a && is_pure b
  is_pure_node (both a b) = is_pure a && is_pure b
  is_pure_node (either a b) = is_pure a && is_pure b
  is_pure_node (choice c a b) = is_pure c && (is_pure a && is_pure b)
  is_pure_node (comma a b) = is_pure a && is_pure b
  is_pure_node (assign a b) = false
  is_pure_node (assign_op op k a b) = false
  is_pure_node (assign_step op a b) = false
  is_pure_node (step how e) = false
  is_pure_node (copy a b) = false
  is_pure_node (call e es) = false
  is_pure_node (pack e) = is_pure e
  is_pure_node (spill i e) = false
  is_pure_node _ = true

-- ---- values from 0 to 255

abbrev pub is_unsigned_char : Ty → Bool
is_unsigned_char (int UChar) = true
is_unsigned_char _ = false

-- conversions that keep them
abbrev pub keeps_byte : Ty → Ty → Bool
keeps_byte (int SChar) from = false
keeps_byte (int to) (int from) = true
keeps_byte to from = false

abbrev mutual
  pub is_byte : Typed → Bool
  is_byte (node t (constant z)) = nat_lt (residue_of z) 256
  is_byte (node t (convert e)) = is_unsigned_char (type_in t) || (keeps_byte (type_in t) (bare e) && is_byte e)
  is_byte (node t _) = is_unsigned_char (type_in t)

-- ---- bytes together

abbrev pub both_bytes : Option OperandByte → Option OperandByte → Option Sides
both_bytes (Some low) (Some high) = Some (Word low high)
both_bytes _ _ = None

abbrev pub all_bytes : Option OperandByte → Option OperandByte → Option OperandByte → Option OperandByte → Option Sides
all_bytes (Some first) (Some second) (Some third) (Some fourth) = Some (Long first second third fourth)
all_bytes _ _ _ _ = None

-- the bytes of a word or a long
abbrev pub sides_of : Width → Direct → Option Sides
sides_of Ax d = both_bytes (byte_of d 0) (byte_of d 1)
sides_of Eax d = all_bytes (byte_of d 0) (byte_of d 1) (byte_of d 2) (byte_of d 3)

abbrev pub listed : Option Sides → List OperandByte
listed None = []
listed (Some (Word low high)) = low ∷ high ∷ []
listed (Some (Long first second third fourth)) = first ∷ second ∷ third ∷ fourth ∷ []

abbrev pub alone : Option OperandByte → List OperandByte
alone None = []
alone (Some d) = d ∷ []

-- the bytes that a number has where it is kept
abbrev pub own_bytes : Direct → Extent → List OperandByte
own_bytes d One = alone (byte_of d 0)
own_bytes d Two = listed (sides_of Ax d)
own_bytes d _ = listed (sides_of Eax d)
