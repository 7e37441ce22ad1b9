-- An object has as many bytes as its home.
use Rattle.std.proofs.Common.{◌≡◌, ◌≤◌, Bool, true, false, Option, None, Some, refl, arith}
use Rattle.std.specs.Prelude.{◌&&◌, if◌then◌else◌}
use Rattle.c65_ints.specs.declared.types.IntType.{IntType}
use Rattle.c65_ints.specs.declared.types.IntType.TheVariants.{SChar, UChar, Short, UShort, Int, UInt, Long, ULong}
use Rattle.c65_ctype.specs.Trees.{Ty, void, int, pointer, array, tag, function, type_in, TypesTy}
use Rattle.c65_csem.specs.Places.{is_register}
use Rattle.c65_csem.specs.Trees.{ObjectTy}
use Rattle.c65_genframe.specs.Sizes.{bytes_or, object_bytes, passed_bytes, slot_bytes, bank_size, bank_bytes}

bank_type : (types : TypesTy) (t : Ty) → 1 ≤ bank_size t → bytes_or types t 65536 ≡ bank_size t
bank_type types void h = absurd (omega (arith, h))
bank_type types (int SChar) h = refl
bank_type types (int UChar) h = refl
bank_type types (int Short) h = refl
bank_type types (int UShort) h = refl
bank_type types (int Int) h = refl
bank_type types (int UInt) h = refl
bank_type types (int Long) h = absurd (omega (arith, h))
bank_type types (int ULong) h = absurd (omega (arith, h))
bank_type types (pointer q) h = refl
bank_type types (array q n) h = absurd (omega (arith, h))
bank_type types (tag n) h = absurd (omega (arith, h))
bank_type types (function f) h = absurd (omega (arith, h))

bank_if : (types : TypesTy) (r : Bool) (t : Ty) → 1 ≤ (if true && r then bank_size t else 0) → bytes_or types t 65536 ≡ (if true && r then bank_size t else 0)
bank_if types true t h = bank_type types t h
bank_if types false t h = absurd (omega (arith, h))

-- what stands in regbank has there all its bytes
pub bank_whole : (types : TypesTy) (o : Option ObjectTy) → 1 ≤ bank_bytes true o → object_bytes types o ≡ bank_bytes true o
bank_whole types None h = absurd (omega (arith, h))
bank_whole types (Some o) h = bank_if types (is_register o.class) (type_in o.ty) h

char_most : (types : TypesTy) (k : IntType) → bytes_or types (int k) 65536 ≤ passed_bytes types false (int k)
char_most types SChar = omega arith
char_most types UChar = omega arith
char_most types Short = omega arith
char_most types UShort = omega arith
char_most types Int = omega arith
char_most types UInt = omega arith
char_most types Long = omega arith
char_most types ULong = omega arith

passed_most : (types : TypesTy) (prototype : Bool) (t : Ty) → bytes_or types t 65536 ≤ passed_bytes types prototype t
passed_most types true t = omega arith
passed_most types false void = omega arith
passed_most types false (int k) = char_most types k
passed_most types false (pointer q) = omega arith
passed_most types false (array q n) = omega arith
passed_most types false (tag n) = omega arith
passed_most types false (function f) = omega arith

-- a parameter is passed in no fewer bytes than it has
pub slot_most : (types : TypesTy) (prototype : Bool) (o : Option ObjectTy) → object_bytes types o ≤ slot_bytes types prototype o
slot_most types prototype None = omega arith
slot_most types prototype (Some o) = passed_most types prototype (type_in o.ty)
