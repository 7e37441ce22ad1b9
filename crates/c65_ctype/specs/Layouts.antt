-- The layout of a structure or union (C90 6.5.2.1), or the first fault in the order of its members. At
-- one member come: a bit-field of another type than int, or of a width that does not fit; a name that
-- an earlier member has; a type without a size; the number of members; the bytes. Last comes that no
-- member has a name, at the place of the first.
use Rattle.std.specs.Prelude.{ℕ, ◌+◌, List, [], ◌∷◌, ◌++◌, length, Bool, true, false, Option, Some, None, Result, Ok, Err, nat_le, nat_lt, ◌==◌, ◌&&◌, is_some, if◌then◌else◌}
use Rattle.c65_base.specs.declared.code.Code.TheVariants.{BitField, MemberTwice}
use Rattle.c65_base.specs.declared.names.Name.{Name}
use Rattle.c65_base.specs.declared.refusal.Pos.{Pos}
use Rattle.c65_base.specs.declared.refusal.Size.TheVariants.{Members}
use Rattle.c65_base.specs.Limits.{limit_of}
use Rattle.c65_base.specs.Answers.{Fault, at, large, ◌>>=◌}
use Rattle.c65_ints.specs.declared.types.IntType.TheVariants as ints
use Rattle.c65_ctype.specs.declared.place.Spot.{Spot}
use Rattle.c65_ctype.specs.declared.place.Cursor.{Cursor}
use Rattle.c65_ctype.specs.Trees.{Ty, int, MemberTy, FieldTy, LayoutTy, TypesTy, type_in}
use Rattle.c65_ctype.specs.Places.{spot_for, start}
use Rattle.c65_ctype.specs.Sizes.{size_at}

-- int and unsigned int, in which bit-fields lie
abbrev pub is_bit_type : Ty → Bool
is_bit_type (int ints.Int) = true
is_bit_type (int ints.UInt) = true
is_bit_type _ = false

-- a bit-field of width 0 has no name
abbrev pub is_bit_width : Option Name → ℕ → Bool
is_bit_width None w = nat_le w 16
is_bit_width (Some n) w = nat_lt 0 w && nat_le w 16

abbrev pub bits_form : FieldTy → Option ℕ → Result (Unit {0}) Fault
bits_form f None = Ok tt
bits_form f (Some w) = if is_bit_type (type_in f.ty) && is_bit_width f.name w then Ok tt else Err (at BitField f.pos)

abbrev pub is_named : Name → Option Name → Bool
is_named n None = false
is_named n (Some m) = m.0 == n.0

-- one of the members has this name
abbrev pub has_name : List MemberTy → Name → Bool
has_name [] n = false
has_name (m ∷ ms) n = if is_named n m.name then true else has_name ms n

abbrev pub fresh : List MemberTy → Pos → Option Name → Result (Unit {0}) Fault
fresh ms p None = Ok tt
fresh ms p (Some n) = if has_name ms n then Err (at MemberTwice p) else Ok tt

-- the bytes of a member's type, which for a bit-field are those of its unit
abbrev pub own_size : TypesTy → FieldTy → Option ℕ → Result ℕ Fault
own_size types f None = size_at types f.pos (type_in f.ty)
own_size types f (Some w) = Ok 2

abbrev pub few : List MemberTy → Result (Unit {0}) Fault
few ms = if nat_lt (length ms) (limit_of Members) then Ok tt else Err (large Members (limit_of Members + 1))

abbrev pub member_at : FieldTy → Spot → MemberTy
member_at f s = record { name = f.name; ty = f.ty; offset = s.offset; bits = s.bits }

-- the next member, behind these
abbrev pub next_member : TypesTy → Bool → List MemberTy → Cursor → FieldTy → Result (MemberTy × Cursor) Fault
next_member types is_union ms p f = do
  form ← bits_form f f.width
  name ← fresh ms f.pos f.name
  size ← own_size types f f.width
  number ← few ms
  x ← spot_for is_union p size f.width
  Ok (member_at f x.0, x.1)

-- members behind these, and the bytes of all
abbrev pub laid : TypesTy → Bool → List MemberTy → Cursor → List FieldTy → Result (List MemberTy × ℕ) Fault
laid types is_union ms p [] = Ok (ms, p.end)
laid types is_union ms p (f ∷ fs) = do
  x ← next_member types is_union ms p f
  laid types is_union (ms ++ x.0 ∷ []) x.1 fs

-- some member has a name
abbrev pub any_named : List FieldTy → Bool
any_named [] = false
any_named (f ∷ fs) = if is_some f.name then true else any_named fs

-- where none has, the place of the first
abbrev pub unnamed_at : List FieldTy → Option Pos
unnamed_at [] = None
unnamed_at (f ∷ fs) = if any_named (f ∷ fs) then None else Some f.pos

abbrev pub refused_at : Option Pos → Result (Unit {0}) Fault
refused_at None = Ok tt
refused_at (Some p) = Err (at BitField p)

abbrev pub layout_for : TypesTy → Bool → List FieldTy → Result LayoutTy Fault
layout_for types is_union fields = do
  x ← laid types is_union [] start fields
  named ← refused_at (unnamed_at fields)
  Ok (record { is_union = is_union; members = x.0; size = x.1 })
