-- What the values of constant expressions say of arrays, bit-fields and enumerators.
use Rattle.std.specs.Prelude.{ℕ, ℤ, pos, negsuc, Bool, true, false, ◌&&◌, Option, Some, None, nat_lt, nat_le, int_le, Result, Ok, Err, if◌then◌else◌}
use Rattle.c65_base.specs.declared.code.Code.TheVariants.{ArraySize, BitField, EnumRange}
use Rattle.c65_base.specs.declared.names.Name.{Name}
use Rattle.c65_base.specs.declared.refusal.Pos.{Pos}
use Rattle.c65_base.specs.Answers.{Fault, at, ◌>>=◌}
use Rattle.c65_ints.specs.declared.types.IntType.TheVariants.{Int, UInt}
use Rattle.c65_ctype.specs.Trees.{Ty, int, QTy, qual, FieldTy}

-- C90 6.5.4.2
abbrev pub array_count : ℤ → Pos → Result ℕ Fault
array_count (pos n) p = if nat_lt 0 n && nat_le n 4294967295 then Ok n else Err (at ArraySize p)
array_count (negsuc n) p = Err (at ArraySize p)

-- C90 6.5.2.1
abbrev pub bit_width : ℤ → Pos → Result ℕ Fault
bit_width (pos n) p = if nat_le n 16 then Ok n else Err (at BitField p)
bit_width (negsuc n) p = Err (at BitField p)

-- C90 6.5.2.2
abbrev pub enumerator_value : ℤ → Pos → Result ℤ Fault
enumerator_value z p = if int_le (negsuc 32767) z && int_le z (pos 32767) then Ok z else Err (at EnumRange p)

-- plain `int` is unsigned in a bit-field
abbrev pub bit_ty : Ty → Bool → Bool → Bool → QTy
bit_ty (int Int) false c v = qual (int UInt) c v
bit_ty t signed c v = qual t c v

abbrev pub bit_type : QTy → Bool → QTy
bit_type (qual t c v) signed = bit_ty t signed c v

-- a member; with a width it is a bit-field
abbrev pub field_in : Option Name → QTy → Bool → Option ℤ → Pos → Result FieldTy Fault
field_in name t signed None p = Ok (record { name = name; ty = t; width = None; pos = p })
field_in name t signed (Some z) p = bit_width z p >>= (λ w. Ok (record { name = name; ty = bit_type t signed; width = Some w; pos = p }))
