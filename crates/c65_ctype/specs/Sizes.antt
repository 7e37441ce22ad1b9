-- How many bytes a type takes (C90 6.1.2.5, 6.3.3.4).
use Rattle.std.specs.Prelude.{ℕ, ◌*◌, ◌/◌, Option, Some, None, Result, Ok, Err, nat_le, if◌then◌else◌}
use Rattle.c65_base.specs.declared.code.Code.TheVariants.{IncompleteType}
use Rattle.c65_base.specs.declared.refusal.Pos.{Pos}
use Rattle.c65_base.specs.declared.refusal.Size.TheVariants.{Object}
use Rattle.c65_base.specs.Limits.{limit_of}
use Rattle.c65_base.specs.Answers.{Fault, at, large, ◌>>=◌}
use Rattle.c65_ints.specs.declared.types.IntType.{IntType}
use Rattle.c65_ints.specs.Ranges.{width_of}
use Rattle.c65_ctype.specs.Trees.{Ty, void, int, pointer, array, tag, function, QTy, qual, LayoutTy, TypesTy}
use Rattle.c65_ctype.specs.Tables.{layout_at}

-- an integer: its bits in bytes of eight
abbrev pub bytes_of : IntType → ℕ
bytes_of t = width_of t / 8

-- no type may have more bytes than an object
abbrev pub limited : ℕ → Result ℕ Fault
limited n = if nat_le n (limit_of Object) then Ok n else Err (large Object n)

-- so many elements of this size
abbrev pub elements : Pos → Option ℕ → ℕ → Result ℕ Fault
elements p None size = Err (at IncompleteType p)
elements p (Some n) size = limited (size * n)

abbrev pub finished_size : Pos → Option LayoutTy → Result ℕ Fault
finished_size p None = Err (at IncompleteType p)
finished_size p (Some l) = Ok l.size

-- The size that is needed at a place. Void, a function, an array whose number of elements is not
-- known, and a structure or union that is not finished have none. An array is measured from its
-- elements outward: the innermost type that has too many bytes is the one that is refused.
abbrev mutual
  pub size_at : TypesTy → Pos → Ty → Result ℕ Fault
  size_at types p void = Err (at IncompleteType p)
  size_at types p (int t) = Ok (bytes_of t)
  size_at types p (pointer q) = Ok 2
  size_at types p (array q n) = qualified_size_at types p q >>= elements p n
  size_at types p (tag n) = finished_size p (layout_at types n)
  size_at types p (function f) = Err (at IncompleteType p)

  -- qualifiers change no size
  pub qualified_size_at : TypesTy → Pos → QTy → Result ℕ Fault
  qualified_size_at types p (qual t c v) = size_at types p t

abbrev pub size_in : Option LayoutTy → ℕ
size_in None = 0
size_in (Some l) = l.size

-- The size of a type that has one, and 0 otherwise.
abbrev mutual
  pub size_of : TypesTy → Ty → ℕ
  size_of types void = 0
  size_of types (int t) = bytes_of t
  size_of types (pointer q) = 2
  size_of types (array q None) = 0
  size_of types (array q (Some n)) = qualified_size_of types q * n
  size_of types (tag n) = size_in (layout_at types n)
  size_of types (function f) = 0

  pub qualified_size_of : TypesTy → QTy → ℕ
  qualified_size_of types (qual t c v) = size_of types t
