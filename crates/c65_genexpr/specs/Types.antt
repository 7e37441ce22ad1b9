-- What the generator reads off types.
use Rattle.std.specs.Prelude.{ℕ, Option, None, Some}
use Rattle.c65_ints.specs.declared.types.IntType.{IntType}
use Rattle.c65_ints.specs.declared.types.IntType.TheVariants.{UInt}
use Rattle.c65_ctype.specs.Trees.{Ty, void, int, pointer, tag, type_in, MemberTy, TypesTy}
use Rattle.c65_csem.specs.Trees.{Typed, node, member, type_of}
use Rattle.c65_csem.specs.Places.{member_at}
use Rattle.c65_genframe.specs.Frames.{Framed, type_bytes}
use Rattle.c65_genload.specs.Conversions.{size_of}
use Rattle.c65_genload.specs.declared.places.Access.{Access}
use Rattle.c65_genload.specs.declared.places.Access.TheVariants.{Whole, Part}
use Rattle.c65_genexpr.specs.declared.types.Outcome.{Outcome}
use Rattle.c65_genexpr.specs.declared.types.Outcome.TheVariants.{Nothing, Number, Area}

-- the integer type that stands for a scalar one
abbrev pub kind_of : Ty → IntType
kind_of (int kind) = kind
kind_of _ = UInt

-- what a call gives: nothing, a number, or the bytes of a structure or union
abbrev pub outcome_of : Framed → Ty → Outcome
outcome_of f void = Nothing
outcome_of f (int kind) = Number kind
outcome_of f (tag n) = Area (type_bytes f (tag n))
outcome_of f _ = Number UInt

-- and how many bytes
abbrev pub given_bytes : Outcome → ℕ
given_bytes Nothing = 0
given_bytes (Number kind) = size_of kind
given_bytes (Area bytes) = bytes

-- the type of a tree, without its qualifiers, and the integer type that stands for it
abbrev pub bare : Typed → Ty
bare e = type_in (type_of e)

abbrev pub kind_in : Typed → IntType
kind_in e = kind_of (bare e)

abbrev pub offset_in : Option MemberTy → ℕ
offset_in None = 0
offset_in (Some m) = m.offset

abbrev pub offset_at : TypesTy → Ty → ℕ → ℕ
offset_at types t m = offset_in (member_at types t m)

abbrev pub bits_in : Option MemberTy → Option (ℕ × ℕ)
bits_in None = None
bits_in (Some m) = m.bits

abbrev pub bits_at : TypesTy → Ty → ℕ → Option (ℕ × ℕ)
bits_at types t m = bits_in (member_at types t m)

-- a bit-field is a part of its unit
abbrev pub field_or : IntType → Option (ℕ × ℕ) → Access
field_or kind None = Whole kind
field_or kind (Some bits) = Part (record { kind = kind; low = bits.0; width = bits.1 })

abbrev pub access_of : TypesTy → Typed → Access
access_of types (node t (member e m)) = field_or (kind_of (type_in t)) (bits_at types (bare e) m)
access_of types (node t e) = Whole (kind_of (type_in t))

-- the bytes of what a pointer names
abbrev pub target_bytes : Framed → Ty → ℕ
target_bytes f (pointer q) = type_bytes f (type_in q)
target_bytes f _ = 1
