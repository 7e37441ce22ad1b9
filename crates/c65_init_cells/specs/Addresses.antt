-- Address constants (C90 6.4): what an initial pointer names, and how far behind its beginning.
use Rattle.std.specs.Prelude.{ℕ, ◌*◌, ◌^◌, ℤ, pos, negsuc, neg_ℤ, ◌+ℤ◌, ◌*ℤ◌, Bool, true, false, not, ◌&&◌, nat_lt, nat_le, Option, Some, None, is_none, option_and_then, option_map, slice_get, if◌then◌else◌}
use Rattle.c65_base.specs.declared.operators.BinaryOp.{BinaryOp}
use Rattle.c65_base.specs.declared.operators.BinaryOp.TheVariants.{Add, Sub}
use Rattle.c65_ints.specs.declared.types.IntType.TheVariants.{SChar, UChar}
use Rattle.c65_ctype.specs.Trees.{Ty, void, int, pointer, array, tag, function, QTy, qual, type_in, MemberTy, LayoutTy, TypesTy}
use Rattle.c65_ctype.specs.Sizes.{bytes_of}
use Rattle.c65_ctype.specs.Tables.{layout_at}
use Rattle.c65_csem.specs.declared.items.Target.{Target}
use Rattle.c65_csem.specs.declared.items.Target.TheVariants.{Object, Literal, Func}
use Rattle.c65_csem.specs.Trees.{ObjectTy, UnitTy, Typed, node, Node, constant, null, literal, object, func, deref, member, address, decay, convert, binary, type_of}
use Rattle.c65_csem.specs.Places.{is_automatic, member_at}
use Rattle.c65_init_cells.specs.declared.address.Constant.{Constant}
use Rattle.c65_init_cells.specs.declared.address.Constant.TheVariants.{At, Number}

-- an object that is there for the whole run
abbrev pub is_static : Option ObjectTy → Bool
is_static None = false
is_static (Some o) = not (is_automatic o.class)

abbrev pub target_of : Constant → Option Target
target_of (At t z) = Some t
target_of (Number z) = None

-- what is named is there for the whole run
abbrev pub lasts : UnitTy → Option Target → Bool
lasts u None = true
lasts u (Some (Object i)) = is_static (slice_get u.objects i)
lasts u (Some (Literal i)) = true
lasts u (Some (Func i)) = true

-- a number that 64 bits hold, and one that 32 bits hold
abbrev pub within_64 : ℤ → Bool
within_64 (pos n) = nat_lt n (2 ^ 63)
within_64 (negsuc n) = nat_lt n (2 ^ 63)

abbrev pub within_32 : ℤ → Bool
within_32 (pos n) = nat_lt n (2 ^ 31)
within_32 (negsuc n) = nat_lt n (2 ^ 31)

abbrev pub held : ℤ → Option ℤ
held z = if within_64 z then Some z else None

-- ---- how far

-- so many bytes further on
abbrev pub moved : Constant → ℤ → Option Constant
moved (At t z) by = option_map (At t) (held (z +ℤ by))
moved (Number z) by = option_map Number (held (z +ℤ by))

abbrev pub moved_from : ℤ → Option Constant → Option Constant
moved_from by c = option_and_then (λ x. moved x by) c

-- to a member of a structure or union
abbrev pub to_member : Option MemberTy → Option Constant → Option Constant
to_member None c = None
to_member (Some m) c = moved_from (pos m.offset) c

-- so many elements of this size, where these have at most 65,535 bytes
abbrev pub limited_product : ℕ → Option ℕ → Option ℕ
limited_product n None = None
limited_product n (Some size) = if nat_le (size * n) 65535 then Some (size * n) else None

abbrev pub finished_size : Option LayoutTy → Option ℕ
finished_size None = None
finished_size (Some l) = Some l.size

-- the bytes of a type that has a size, where neither it nor a type that it is an array of has more
-- than 65,535
abbrev mutual
  pub measured : TypesTy → Ty → Option ℕ
  measured types void = None
  measured types (int k) = Some (bytes_of k)
  measured types (pointer q) = Some 2
  measured types (array q None) = None
  measured types (array q (Some n)) = limited_product n (measured_in types q)
  measured types (tag n) = finished_size (layout_at types n)
  measured types (function f) = None

  pub measured_in : TypesTy → QTy → Option ℕ
  measured_in types (qual t c v) = measured types t

-- the bytes of what a pointer type points to
abbrev pub step_of : TypesTy → Ty → Option ℤ
step_of types (pointer q) = option_map pos (measured_in types q)
step_of types _ = None

abbrev pub signed_step : BinaryOp → ℤ → Option ℤ
signed_step Add by = Some by
signed_step Sub by = held (neg_ℤ by)
signed_step _ by = None

abbrev pub times : BinaryOp → ℤ → Option ℤ → Option ℤ
times op z None = None
times op z (Some size) = option_and_then (signed_step op) (held (size *ℤ z))

-- the bytes by which a constant number of steps moves a pointer of this type
abbrev pub distance : TypesTy → BinaryOp → Ty → Node → Option ℤ
distance types op t (constant z) = times op z (step_of types t)
distance types op t _ = None

-- ---- from where

abbrev pub holds_address : Ty → Bool
holds_address (pointer q) = true
holds_address (int SChar) = false
holds_address (int UChar) = false
holds_address (int k) = true
holds_address _ = false

abbrev pub number_in : Node → Option Constant
number_in (constant z) = Some (Number z)
number_in _ = None

abbrev pub object_start : UnitTy → ℕ → Option Constant
object_start u i = if is_static (slice_get u.objects i) then Some (At (Object i) (pos 0)) else None

-- a number, or the pointer that is converted, where its type holds all of it
abbrev pub converted : Bool → Option Constant → Option Constant → Option Constant
converted whole n c = if whole && is_none n then c else n

-- a pointer at the left, or else at the right
abbrev pub moved_by : Option ℤ → Option Constant → Option ℤ → Option Constant → Option Constant
moved_by (Some by) a other b = moved_from by a
moved_by None a (Some by) b = moved_from by b
moved_by None a None b = None

abbrev mutual
  -- where a place lies that is there for the whole run
  pub place_constant : UnitTy → Node → Option Constant
  place_constant u (object i) = object_start u i
  place_constant u (literal i) = Some (At (Literal i) (pos 0))
  place_constant u (func i) = Some (At (Func i) (pos 0))
  place_constant u (deref (node t e)) = pointer_constant u e
  place_constant u (member (node t e) i) = to_member (member_at u.types (type_in t) i) (place_constant u e)
  place_constant u _ = None

  -- the value of a pointer that is a constant, in a tree that is folded
  pub pointer_constant : UnitTy → Node → Option Constant
  pointer_constant u null = Some (Number (pos 0))
  pointer_constant u (decay (node t e)) = place_constant u e
  pointer_constant u (address (node t e)) = place_constant u e
  pointer_constant u (convert (node t e)) = converted (holds_address (type_in t)) (number_in e) (pointer_constant u e)
  pointer_constant u (binary op (node t a) (node v b)) = moved_by (distance u.types op (type_in t) b) (pointer_constant u a) (distance u.types op (type_in v) a) (pointer_constant u b)
  pointer_constant u _ = None

abbrev pub constant_of : UnitTy → Typed → Option Constant
constant_of u (node t e) = pointer_constant u e
