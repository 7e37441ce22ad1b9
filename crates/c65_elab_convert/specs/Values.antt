-- The value of an expression, promotions, and conversions to a type (C90 6.2).
use Rattle.std.specs.Prelude.{ℕ, Bool, true, false, ◌||◌, ◌&&◌, ◌==◌, Option, Some, None, nat_lt, if◌then◌else◌}
use Rattle.c65_ints.specs.declared.types.IntType.{IntType}
use Rattle.c65_ints.specs.declared.types.IntType.TheVariants as ints
use Rattle.c65_ctype.specs.Trees.{Ty, void, int, pointer, array, tag, function, QTy, qual, type_in, MemberTy, TypesTy}
use Rattle.c65_ctype.specs.Compatible.{same_int, same_bool}
use Rattle.c65_csem.specs.Trees.{Typed, node, Node, member, load, decay, convert, type_of}
use Rattle.c65_csem.specs.Places.{is_place, is_scalar, is_void, plain, plain_of, promoted_of, member_at}
use Rattle.c65_csem.specs.Typed.{decayed}

abbrev pub loaded : Typed → Typed
loaded e = node (plain_of (type_of e)) (load e)

abbrev pub voided : Typed → Typed
voided e = node (plain void) (convert e)

-- a number or a pointer is loaded; what a pointer to void points to has no value
abbrev pub value_of_place : Typed → Typed
value_of_place e = if is_scalar (type_in (type_of e)) then loaded e else if is_void (type_in (type_of e)) then voided e else e

abbrev pub value_by : Option QTy → Typed → Typed
value_by (Some t) e = node t (decay e)
value_by None e = if is_place e then value_of_place e else e

-- the value of an expression: arrays and functions become pointers, and structures and unions stay places
abbrev pub value_of : Typed → Typed
value_of e = value_by (decayed (type_of e)) e

-- a bit-field of fewer bits than int has
abbrev pub narrow_width : Option (ℕ × ℕ) → Bool
narrow_width None = false
narrow_width (Some b) = nat_lt b.1 16

abbrev pub narrow_member : Option MemberTy → Bool
narrow_member None = false
narrow_member (Some m) = narrow_width m.bits

abbrev pub is_narrow : TypesTy → Typed → Bool
is_narrow types (node t (member e m)) = narrow_member (member_at types (type_in (type_of e)) m)
is_narrow types (node t _) = false

abbrev pub is_narrow_value : TypesTy → Typed → Bool
is_narrow_value types (node t (load e)) = is_narrow types e
is_narrow_value types (node t _) = false

-- the integer promotions of a place, and of a value: int holds all values of a narrow bit-field
abbrev pub place_promotion : TypesTy → Typed → IntType → IntType
place_promotion types e k = if is_narrow types e then ints.Int else promoted_of k

abbrev pub promotion : TypesTy → Typed → IntType → IntType
promotion types e k = if is_narrow_value types e then ints.Int else promoted_of k

abbrev pub is_either : IntType → IntType → IntType → Bool
is_either k a b = same_int k a || same_int k b

-- the usual arithmetic conversions: unsigned long if either is one, else long if either is one, else unsigned int if
-- either is one, else int
abbrev pub common_of : IntType → IntType → IntType
common_of a b = if is_either ints.ULong a b then ints.ULong else if is_either ints.Long a b then ints.Long else if is_either ints.UInt a b then ints.UInt else ints.Int

abbrev pub equal_count : Option ℕ → Option ℕ → Bool
equal_count None None = true
equal_count (Some m) (Some n) = m == n
equal_count _ _ = false

-- the same type; types with functions in them are not looked into
abbrev mutual
  pub equal_types : QTy → QTy → Bool
  equal_types (qual t c v) (qual u d w) = (same_bool c d && same_bool v w) && equal_plain t u

  pub equal_plain : Ty → Ty → Bool
  equal_plain void void = true
  equal_plain (int k) (int j) = same_int k j
  equal_plain (pointer q) (pointer r) = equal_types q r
  equal_plain (array q m) (array r n) = equal_count m n && equal_types q r
  equal_plain (tag m) (tag n) = m == n
  equal_plain _ _ = false

-- converted to a type, where it has another one
abbrev pub as_plain_of : Ty → Typed → Typed
as_plain_of t e = if equal_plain t (type_in (type_of e)) then e else node (plain t) (convert e)

abbrev pub as_int_of : IntType → Typed → Typed
as_int_of k e = as_plain_of (int k) e
