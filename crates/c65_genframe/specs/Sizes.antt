-- How many bytes objects and parameters take.
use Rattle.std.specs.Prelude.{ℕ, ◌*◌, ◌&&◌, Bool, false, nat_lt, Option, None, Some, option_map, option_and_then, unwrap_or, slice_get, if◌then◌else◌}
use Rattle.c65_ints.specs.declared.types.IntType.TheVariants.{SChar, UChar, Short, UShort, Int, UInt, Long, ULong}
use Rattle.c65_ctype.specs.Trees.{Ty, void, int, pointer, array, tag, function, QTy, qual, type_in, TypesTy}
use Rattle.c65_ctype.specs.Sizes.{bytes_of}
use Rattle.c65_ctype.specs.Tables.{layout_at}
use Rattle.c65_csem.specs.declared.items.Parts.{Parts}
use Rattle.c65_csem.specs.Trees.{ObjectTy}
use Rattle.c65_csem.specs.Views.{object_of}
use Rattle.c65_csem.specs.Places.{is_register}

-- an object, by its number
abbrev pub object_in : Parts → ℕ → Option ObjectTy
object_in parts i = option_map object_of (slice_get parts.objects.items i)

abbrev pub limited : ℕ → Option ℕ
limited n = if nat_lt 65535 n then None else Some n

abbrev pub elements : Option ℕ → ℕ → Option ℕ
elements None n = None
elements (Some size) n = limited (size * n)

-- the bytes of a type that has a size, and at most 65,535 bytes
abbrev mutual
  pub bytes_at : TypesTy → Ty → Option ℕ
  bytes_at types void = None
  bytes_at types (int k) = Some (bytes_of k)
  bytes_at types (pointer q) = Some 2
  bytes_at types (array q None) = None
  bytes_at types (array q (Some n)) = elements (qualified_bytes_at types q) n
  bytes_at types (tag n) = option_and_then (λ l. limited l.size) (layout_at types n)
  bytes_at types (function f) = None

  pub qualified_bytes_at : TypesTy → QTy → Option ℕ
  qualified_bytes_at types (qual t c v) = bytes_at types t

-- and another number where it has none
abbrev pub bytes_or : TypesTy → Ty → ℕ → ℕ
bytes_or types t other = unwrap_or (bytes_at types t) other

abbrev pub object_bytes : TypesTy → Option ObjectTy → ℕ
object_bytes types None = 0
object_bytes types (Some o) = bytes_or types (type_in o.ty) 65536

-- a parameter of a definition without a prototype is passed as its promoted type (C90 6.3.2.2)
abbrev pub passed_bytes : TypesTy → Bool → Ty → ℕ
passed_bytes types false (int SChar) = 2
passed_bytes types false (int UChar) = 2
passed_bytes types prototype t = bytes_or types t 65536

abbrev pub slot_bytes : TypesTy → Bool → Option ObjectTy → ℕ
slot_bytes types prototype None = 0
slot_bytes types prototype (Some o) = passed_bytes types prototype (type_in o.ty)

-- in regbank stand integers of one or two bytes and pointers
abbrev pub bank_size : Ty → ℕ
bank_size (int SChar) = 1
bank_size (int UChar) = 1
bank_size (int Short) = 2
bank_size (int UShort) = 2
bank_size (int Int) = 2
bank_size (int UInt) = 2
bank_size (int Long) = 0
bank_size (int ULong) = 0
bank_size (pointer q) = 2
bank_size _ = 0

-- the bytes that an object may take in regbank, where `register` is honoured
abbrev pub bank_bytes : Bool → Option ObjectTy → ℕ
bank_bytes honoured None = 0
bank_bytes honoured (Some o) = if honoured && is_register o.class then bank_size (type_in o.ty) else 0
