-- What the meaning reads off a program's types: shapes of objects, and numbers of blocks.
use Rattle.std.specs.Prelude.{ℕ, ◌+◌, ◌||◌, Bool, false, List, [], ◌∷◌, Option, Some, None, length, slice_get}
use Rattle.c65_ctype.specs.Trees.{Ty, int, pointer, array, QTy, qual, MemberTy, TypesTy, type_in}
use Rattle.c65_ctype.specs.Sizes.{size_of}
use Rattle.c65_csem.specs.Trees.{Typed, node, member, Nodes, none, some, type_of, ObjectTy, UnitTy}
use Rattle.c65_csem.specs.Places.{member_at, is_automatic}
use Rattle.c65_meaning.specs.Store.{Shape, Number, Field, Pointer, Area}

-- the type of a tree, without its qualifiers
abbrev pub bare_type : Typed → Ty
bare_type e = type_in (type_of e)

-- the types of arguments
abbrev pub types_of : Nodes → List Ty
types_of none = []
types_of (some e rest) = bare_type e ∷ types_of rest

-- ---- shapes

abbrev pub shape_of : TypesTy → Ty → Shape
shape_of types (int t) = Number t
shape_of types (pointer q) = Pointer (size_of types (type_in q))
shape_of types t = Area (size_of types t)

abbrev pub offset_of : Option MemberTy → ℕ
offset_of None = 0
offset_of (Some m) = m.offset

-- a bit-field of an integer type lies in its bits
abbrev pub field_shape : Ty → Option (ℕ × ℕ) → Shape → Shape
field_shape (int t) (Some bits) s = Field t bits.0 bits.1
field_shape _ _ s = s

abbrev pub member_shape : Option MemberTy → Shape → Shape
member_shape None s = s
member_shape (Some m) s = field_shape (type_in m.ty) m.bits s

-- how the object lies that a place names
abbrev pub place_shape : TypesTy → Typed → Shape
place_shape types (node t (member a m)) = member_shape (member_at types (bare_type a) m) (shape_of types (type_in t))
place_shape types (node t e) = shape_of types (type_in t)

-- ---- objects

abbrev mutual
  pub elements_const : Ty → Bool
  elements_const (array q n) = are_const q
  elements_const _ = false

  -- const itself, or an array of const elements
  pub are_const : QTy → Bool
  are_const (qual t c v) = c || elements_const t

abbrev pub object_size : TypesTy → Option ObjectTy → ℕ
object_size types None = 0
object_size types (Some x) = size_of types (type_in x.ty)

abbrev pub object_sealed : Option ObjectTy → Bool
object_sealed None = false
object_sealed (Some x) = are_const x.ty

abbrev pub object_shape : TypesTy → Option ObjectTy → Shape
object_shape types None = Area 0
object_shape types (Some x) = shape_of types (type_in x.ty)

abbrev pub lives_in_frame : Option ObjectTy → Bool
lives_in_frame None = false
lives_in_frame (Some x) = is_automatic x.class

abbrev pub object_in : UnitTy → ℕ → Option ObjectTy
object_in u i = slice_get u.objects i

-- the first blocks are the functions, then the literals, then the objects of the program; automatic ones leave theirs unused
abbrev pub literal_block : UnitTy → ℕ → ℕ
literal_block u l = length u.funcs + l

abbrev pub object_block : UnitTy → ℕ → ℕ
object_block u i = length u.funcs + length u.literals + i

abbrev pub first_block : UnitTy → ℕ
first_block u = length u.funcs + length u.literals + length u.objects
