-- Kinds of expressions and types, as operators ask for them (C90 6.1.2.5, 6.2.2.1).
use Rattle.std.specs.Prelude.{◌≡◌, ℕ, ◌*◌, List, length, Bool, true, false, ◌||◌, ◌&&◌, Option, Some, None, option_and_then, slice_get, is_some, nat_le, ◌==◌}
use Rattle.c65_ints.specs.declared.types.IntType.{IntType}
use Rattle.c65_ints.specs.declared.types.IntType.TheVariants as ints
use Rattle.c65_ctype.specs.Trees.{Ty, void, int, pointer, array, tag, function, QTy, qual, type_in, MemberTy, LayoutTy, TypesTy}
use Rattle.c65_ctype.specs.Tables.{layout_at}
use Rattle.c65_ctype.specs.Sizes.{size_of}
use Rattle.c65_ctype.specs.Compatible.{same_int}
use Rattle.c65_csem.specs.declared.items.Class.{Class}
use Rattle.c65_csem.specs.declared.items.Class.TheVariants.{Auto, Register, Fixed}
use Rattle.c65_csem.specs.Trees.{Typed, node, Node, literal, object, func, deref, member, choice, comma, copy, type_of, ObjectTy, UnitTy}

-- an expression that names an object or a function
abbrev pub is_place : Typed → Bool
is_place (node t (literal n)) = true
is_place (node t (object i)) = true
is_place (node t (func i)) = true
is_place (node t (deref e)) = true
is_place (node t (member e i)) = true
is_place (node t _) = false

-- a type without qualifiers
abbrev pub plain : Ty → QTy
plain t = qual t false false

abbrev pub plain_of : QTy → QTy
plain_of (qual t c v) = qual t false false

-- a type that has further qualifiers; those of an array are those of its elements (C90 6.5.3)
abbrev mutual
  pub qualified : Bool → Bool → QTy → QTy
  qualified c v (qual t d w) = qualified_ty c v d w t

  pub qualified_ty : Bool → Bool → Bool → Bool → Ty → QTy
  qualified_ty c v d w void = qual void (c || d) (v || w)
  qualified_ty c v d w (int k) = qual (int k) (c || d) (v || w)
  qualified_ty c v d w (pointer q) = qual (pointer q) (c || d) (v || w)
  qualified_ty c v d w (array q n) = qual (array (qualified c v q) n) d w
  qualified_ty c v d w (tag n) = qual (tag n) (c || d) (v || w)
  qualified_ty c v d w (function f) = qual (function f) d w

-- the integer promotions of a type that is no bit-field (C90 6.2.1.1)
abbrev pub promoted_of : IntType → IntType
promoted_of ints.SChar = ints.Int
promoted_of ints.UChar = ints.Int
promoted_of ints.Short = ints.Int
promoted_of ints.UShort = ints.UInt
promoted_of ints.Int = ints.Int
promoted_of ints.UInt = ints.UInt
promoted_of ints.Long = ints.Long
promoted_of ints.ULong = ints.ULong

abbrev pub is_promoted : IntType → Bool
is_promoted k = same_int k (promoted_of k)

abbrev pub is_scalar : Ty → Bool
is_scalar (int k) = true
is_scalar (pointer q) = true
is_scalar _ = false

abbrev pub is_tag : Ty → Bool
is_tag (tag n) = true
is_tag _ = false

abbrev pub is_void : Ty → Bool
is_void void = true
is_void _ = false

-- a structure or union of at most four bytes, which may be passed and returned (C90 6.3.2.2, 6.6.6.4)
abbrev pub most_small : ℕ
most_small = 4

abbrev pub is_small : TypesTy → Ty → Bool
is_small types (tag n) = nat_le 1 (size_of types (tag n)) && nat_le (size_of types (tag n)) most_small
is_small types _ = false

-- a type whose values are passed and returned
abbrev pub is_passed : TypesTy → Ty → Bool
is_passed types t = is_scalar t || is_small types t

-- a type that has a size
abbrev mutual
  pub is_sized : TypesTy → Ty → Bool
  is_sized types void = false
  is_sized types (int k) = true
  is_sized types (pointer q) = true
  is_sized types (array q None) = false
  is_sized types (array q (Some n)) = is_sized_in types q
  is_sized types (tag n) = is_some (layout_at types n)
  is_sized types (function f) = false

  pub is_sized_in : TypesTy → QTy → Bool
  is_sized_in types (qual t c v) = is_sized types t

-- a pointer whose target has a size, so that it may be moved
abbrev pub moves : TypesTy → Ty → Bool
moves types (pointer q) = is_sized_in types q
moves types _ = false

-- member m of a structure or union
abbrev pub member_at : TypesTy → Ty → ℕ → Option MemberTy
member_at types (tag n) m = option_and_then (λ l. slice_get l.members m) (layout_at types n)
member_at types _ m = None

abbrev pub is_bits : Option MemberTy → Bool
is_bits None = false
is_bits (Some m) = is_some m.bits

-- a bit-field, which has no address
abbrev pub is_bit_field : TypesTy → Typed → Bool
is_bit_field types (node t (member e m)) = is_bits (member_at types (type_in (type_of e)) m)
is_bit_field types (node t _) = false

-- an object with a home in the frame of its function
abbrev pub is_framed : Class → Bool
is_framed Auto = true
is_framed Register = true
is_framed _ = false

-- an object of a block that has one place for the whole run
abbrev pub is_fixed : Class → Bool
is_fixed Fixed = true
is_fixed _ = false

abbrev pub is_fixed_object : Option ObjectTy → Bool
is_fixed_object None = false
is_fixed_object (Some o) = is_fixed o.class

-- an object of a block or a parameter, which is new at each entry (C90 6.1.2.4)
abbrev pub is_automatic : Class → Bool
is_automatic Auto = true
is_automatic Register = true
is_automatic Fixed = true
is_automatic _ = false

abbrev pub is_register : Class → Bool
is_register Register = true
is_register _ = false

abbrev pub has_register : Option ObjectTy → Bool
has_register None = false
has_register (Some o) = is_register o.class

abbrev mutual
  -- an object of class register, or a member of one
  pub is_registered : UnitTy → Typed → Bool
  is_registered u (node t e) = is_registered_node u e

  pub is_registered_node : UnitTy → Node → Bool
  is_registered_node u (object i) = has_register (slice_get u.objects i)
  is_registered_node u (member e m) = is_registered u e
  is_registered_node u _ = false

-- Two types that are the same down to pointers, structures and functions. The type with which an item is
-- named may lack a number of elements or a prototype that a later declaration gave, or have the tag of
-- another unit.
abbrev mutual
  pub are_alike : QTy → QTy → Bool
  are_alike (qual t c v) (qual u d w) = alike t u

  pub alike : Ty → Ty → Bool
  alike void void = true
  alike (int k) (int j) = same_int k j
  alike (pointer q) (pointer r) = true
  alike (array q m) (array r n) = are_alike q r
  alike (tag m) (tag n) = true
  alike (function f) (function g) = true
  alike _ _ = false
