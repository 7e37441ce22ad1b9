-- The first bytes of an object.
use Rattle.std.specs.Prelude.{ℕ, zero, suc, ◌+◌, ◌*◌, ◌/◌, ◌%◌, ◌^◌, ℤ, List, [], ◌∷◌, set, slice_get, Bool, true, Option, Some, None, nat_lt, if◌then◌else◌, bit_or}
use Rattle.std.specs.Int.{w64, cast_unsigned}
use Rattle.c65_csem.specs.declared.items.Cell.{Cell}
use Rattle.c65_csem.specs.declared.items.Cell.TheVariants.{Byte, Piece}
use Rattle.c65_csem.specs.declared.items.Target.{Target}

-- at least so many bytes, with zero bytes behind those that are there
abbrev pub grown : List Cell → ℕ → List Cell
grown cs zero = cs
grown [] (suc n) = Byte 0 ∷ grown [] n
grown (c ∷ cs) (suc n) = c ∷ grown cs n

-- a byte at a place
abbrev pub placed : List Cell → ℕ → ℕ → List Cell
placed cs at b = set (grown cs (at + 1)) at (Byte b)

-- bytes from a place on
abbrev pub written : List Cell → ℕ → List ℕ → List Cell
written cs at [] = cs
written cs at (b ∷ bs) = written (placed cs at b) (at + 1) bs

-- the two bytes of a pointer
abbrev pub pointed : List Cell → ℕ → Target → ℤ → List Cell
pointed cs at t z = set (set (grown cs (at + 2)) at (Piece t z 0)) (at + 1) (Piece t z 1)

-- the byte of a cell; zero where there is none
abbrev pub byte_in : Option Cell → ℕ
byte_in (Some (Byte b)) = b
byte_in _ = 0

-- a unit of two bytes, the lower one first, as a number
abbrev pub unit_at : List Cell → ℕ → ℕ
unit_at cs at = byte_in (slice_get cs at) + 256 * byte_in (slice_get cs (at + 1))

-- the lowest bits of a number, so many of its first 16
abbrev pub low_bits : ℤ → ℕ → ℕ
low_bits z width = if nat_lt width 16 then (cast_unsigned w64 z % 65536) % 2 ^ width else cast_unsigned w64 z % 65536

-- the place of a bit-field's lowest bit in its unit
abbrev pub shifted : ℕ → ℕ → ℕ
shifted bits lowest = if nat_lt lowest 16 then (bits * 2 ^ lowest) % 65536 else bits

abbrev pub with_unit : List Cell → ℕ → ℕ → List Cell
with_unit cs at unit = set (set cs at (Byte (unit % 256))) (at + 1) (Byte (unit / 256))

-- a bit-field's value in its unit, whose other bits stay (C90 6.5.2.1)
abbrev pub with_bits : List Cell → ℕ → ℕ → ℕ → ℤ → List Cell
with_bits cs at lowest width z = with_unit (grown cs (at + 2)) at (bit_or (unit_at (grown cs (at + 2)) at) (shifted (low_bits z width) lowest))

-- whether an array that has so many elements, where that is known, has one more
abbrev pub is_below : ℕ → Option ℕ → Bool
is_below n None = true
is_below n (Some m) = nat_lt n m
