-- Tests on kinds of types (C90 6.1.2.5, 6.2.1, 6.2.2).
use Rattle.std.specs.Prelude.{ℕ, ◌+◌, Bool, true, false, not, ◌||◌, ◌&&◌, ◌==◌, Option, Some, None, is_some, if◌then◌else◌}
use Rattle.c65_ints.specs.declared.types.IntType.{IntType}
use Rattle.c65_ints.specs.declared.types.IntType.TheVariants.{SChar, UChar}
use Rattle.c65_ctype.specs.Trees.{Ty, void, int, pointer, array, tag, function, QTy, qual, type_in, Fn, fn, Params, unknown, known, QTys, end, more, TypesTy}
use Rattle.c65_ctype.specs.Compatible.{same_int, same_bool}
use Rattle.c65_ctype.specs.Sizes.{bytes_of, size_in}
use Rattle.c65_ctype.specs.Tables.{layout_at}
use Rattle.c65_csem.specs.Places.{plain, plain_of, qualified, is_promoted, is_scalar, is_small, moves}
use Rattle.c65_csem.specs.Typed.{decayed, rest_type}

abbrev pub equal_count : Option ℕ → Option ℕ → Bool
equal_count None None = true
equal_count (Some m) (Some n) = m == n
equal_count _ _ = false

-- the same type
abbrev mutual
  pub same : QTy → QTy → Bool
  same (qual t c v) (qual u d w) = same_bool c d && same_bool v w && same_ty t u

  pub same_ty : Ty → Ty → Bool
  same_ty void void = true
  same_ty (int k) (int j) = same_int k j
  same_ty (pointer q) (pointer r) = same q r
  same_ty (array q m) (array r n) = equal_count m n && same q r
  same_ty (tag m) (tag n) = m == n
  same_ty (function f) (function g) = same_fn f g
  same_ty _ _ = false

  pub same_fn : Fn → Fn → Bool
  same_fn (fn q xs va cd) (fn r ys vb ce) = same_bool va vb && same_bool cd ce && same q r && same_params xs ys

  pub same_params : Params → Params → Bool
  same_params unknown unknown = true
  same_params (known xs) (known ys) = same_all xs ys
  same_params _ _ = false

  pub same_all : QTys → QTys → Bool
  same_all end end = true
  same_all (more x xs) (more y ys) = same x y && same_all xs ys
  same_all _ _ = false

abbrev pub has_bits : QTy → Bool → Bool → Bool
has_bits (qual t c v) d w = same_bool c d && same_bool v w

-- no qualifiers
abbrev pub is_bare : QTy → Bool
is_bare t = has_bits t false false

-- an integer type without qualifiers
abbrev pub int_of : QTy → Option IntType
int_of (qual (int k) c v) = if c || v then None else Some k
int_of _ = None

abbrev pub is_int_of : QTy → IntType → Bool
is_int_of t k = same t (plain (int k))

abbrev pub is_int : QTy → Bool
is_int t = is_some (int_of t)

abbrev pub promotes : Option IntType → Bool
promotes None = false
promotes (Some k) = is_promoted k

abbrev pub is_promoted_int : QTy → Bool
is_promoted_int t = promotes (int_of t)

abbrev pub is_plain_void : QTy → Bool
is_plain_void t = same t (plain void)

abbrev pub is_pointer_ty : Ty → Bool
is_pointer_ty (pointer q) = true
is_pointer_ty _ = false

abbrev pub is_plain_pointer : QTy → Bool
is_plain_pointer t = is_bare t && is_pointer_ty (type_in t)

-- the second type without its qualifiers
abbrev pub is_plain_of : QTy → QTy → Bool
is_plain_of t q = same t (plain_of q)

abbrev pub is_plain_scalar : QTy → Bool
is_plain_scalar t = is_bare t && is_scalar (type_in t)

-- a pointer to a type
abbrev pub is_pointer_to : QTy → QTy → Bool
is_pointer_to t q = same t (plain (pointer q))

-- a pointer to something that has a size
abbrev pub is_moved : TypesTy → QTy → Bool
is_moved types t = is_plain_pointer t && moves types (type_in t)

-- a structure or union of at most four bytes
abbrev pub is_plain_small : TypesTy → QTy → Bool
is_plain_small types t = is_bare t && is_small types (type_in t)

abbrev pub is_result : TypesTy → QTy → Bool
is_result types t = is_plain_void t || is_plain_scalar t || is_plain_small types t

abbrev pub is_usual : QTy → Bool
is_usual t = is_plain_void t || is_plain_scalar t

-- what a call passes without a prototype
abbrev pub passes : TypesTy → QTy → Bool
passes types t = is_promoted_int t || is_plain_pointer t || is_plain_small types t

abbrev pub is_rest : QTy → Bool
is_rest t = same t rest_type

-- the size of a scalar type, and of a structure or union that is finished
abbrev pub flat_bytes : TypesTy → Ty → ℕ
flat_bytes types (int k) = bytes_of k
flat_bytes types (pointer q) = 2
flat_bytes types (tag n) = size_in (layout_at types n)
flat_bytes types _ = 0

abbrev pub same_size : TypesTy → QTy → QTy → Bool
same_size types t q = flat_bytes types (type_in t) == flat_bytes types (type_in q)

abbrev pub is_stepped : TypesTy → QTy → Bool
is_stepped types t = is_int t || is_moved types t

abbrev pub is_some_type : QTy → Option QTy → Bool
is_some_type t None = false
is_some_type t (Some q) = same t q

-- what an array or a function becomes
abbrev pub is_decayed : QTy → QTy → Bool
is_decayed t q = is_some_type t (decayed q)

-- so many characters and a zero
abbrev pub is_text : QTy → IntType → ℕ → Bool
is_text t k n = same t (plain (array (plain (int k)) (Some (n + 1))))

abbrev pub is_literal : QTy → ℕ → Bool
is_literal t n = is_text t UChar n || is_text t SChar n

-- the second type with further qualifiers
abbrev pub is_qualified : QTy → Bool → Bool → QTy → Bool
is_qualified t c v q = same t (qualified c v q)
