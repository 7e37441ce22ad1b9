-- Where objects lie, and what is kept there.
use Rattle.std.specs.Prelude.{ℕ, ◌+◌, ◌%◌, nat_lt, if◌then◌else◌}
use Rattle.c65_ints.specs.declared.types.IntType.{IntType}
use Rattle.c65_ints.specs.declared.types.IntType.TheVariants.{SChar, UChar, Short, UShort, Int, UInt, Long, ULong}
use Rattle.c65_genload.specs.declared.places.Extent.{Extent}
use Rattle.c65_genload.specs.declared.places.Extent.TheVariants.{One, Two, Three, Four}
use Rattle.c65_genload.specs.declared.places.Place.{Place}
use Rattle.c65_genload.specs.declared.places.Place.TheVariants.{Bank, Near, Data, Far}
use Rattle.c65_genload.specs.declared.places.Access.{Access}
use Rattle.c65_genload.specs.declared.places.Access.TheVariants.{Whole, Part}

-- the type of the value that is kept
abbrev pub type_in : Access → IntType
type_in (Whole kind) = kind
type_in (Part field) = field.kind

-- the bytes that wait for a place
abbrev pub held : Place → ℕ
held (Far at) = 2
held _ = 0

-- once the address waits, it is that of the first byte
abbrev pub settled : Place → Place
settled (Far at) = Far 0
settled place = place

-- sums of one byte, and of an address
abbrev pub byte_more : ℕ → ℕ → ℕ
byte_more at n = (at + n) % 256

abbrev pub word_more : ℕ → ℕ → ℕ
word_more at n = (at + n) % 65536

-- so many bytes on
abbrev pub onward : Place → ℕ → Place
onward (Bank at) n = Bank (byte_more at n)
onward (Near at) n = Near (byte_more at n)
onward (Data sym at) n = Data sym (word_more at n)
onward (Far at) n = Far (byte_more at n)

abbrev pub extent_of : IntType → Extent
extent_of SChar = One
extent_of UChar = One
extent_of Short = Two
extent_of UShort = Two
extent_of Int = Two
extent_of UInt = Two
extent_of Long = Four
extent_of ULong = Four

-- so many bytes, from 1 to 4
abbrev pub extent_by : ℕ → Extent
extent_by bytes = if nat_lt bytes 2 then One else (if nat_lt bytes 3 then Two else (if nat_lt bytes 4 then Three else Four))
