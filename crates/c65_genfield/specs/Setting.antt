-- Bit-fields that are set where they lie, where nothing needs their value then (C90 6.3.16). A byte is read before it is stored,
-- and no byte is read again.
use Rattle.std.specs.Prelude.{ℕ, ◌-◌, ◌*◌, ◌/◌, ◌%◌, ◌^◌, ◌==◌, min, if◌then◌else◌, List, [], ◌∷◌, ◌++◌}
use Rattle.c65_mach.specs.declared.rows.Op.TheVariants.{And, Lda, Ldy, Ora, Sta}
use Rattle.c65_mach.specs.declared.rows.Mode.TheVariants.{IndirectY}
use Rattle.c65_code.specs.declared.line.Operand.TheVariants.{Zero}
use Rattle.c65_code.specs.declared.line.Line.{Line}
use Rattle.c65_genwide.specs.Lines.{value}
use Rattle.c65_genload.specs.declared.places.Field.{Field}
use Rattle.c65_genload.specs.declared.places.Place.{Place}
use Rattle.c65_genload.specs.Places.{byte_more, onward, settled}
use Rattle.c65_genload.specs.declared.places.Extent.TheVariants.{Two}
use Rattle.c65_genload.specs.Numbers.{first, second}
use Rattle.c65_genload.specs.Fields.{others, is_in_byte, own_bits, up_code, is_unit}
use Rattle.c65_genload.specs.Stores.{bytes_store, merged_code, bits_store, unit_set}
use Rattle.c65_genchange.specs.declared.spots.Spot.{Spot}
use Rattle.c65_genchange.specs.Spots.{spot_at, reach_code, again_code}

-- ---- a number

-- the bits of the unit that are of the field
abbrev pub own_word : Field → ℕ
own_word g = 65535 - others g

-- the bits of a number that go there
abbrev pub set_word : Field → ℕ → ℕ
set_word g n = n % 2 ^ min g.width 16 * 2 ^ min g.low 16

-- the bits of A that a mask has become 0, where not all of them are set then
abbrev pub clear_code : ℕ → ℕ → List Line
clear_code bits mask = if bits == mask then [] else value And (255 - mask) ∷ []

-- these become 1
abbrev pub raise_code : ℕ → List Line
raise_code bits = if bits == 0 then [] else value Ora bits ∷ []

-- the bits of a byte that a mask has become these
abbrev pub byte_code : ℕ → ℕ → Spot → List Line
byte_code bits mask spot =
    if mask == 255 then value Lda bits ∷ reach_code Sta spot
    else reach_code Lda spot ++ (clear_code bits mask ++ (raise_code bits ++ again_code Sta spot))

-- a byte that has none of the field's bits stays
abbrev pub part_code : ℕ → ℕ → Spot → List Line
part_code bits mask spot = if mask == 0 then [] else byte_code bits mask spot

-- of a place that is anywhere the address is in ptr1
abbrev pub number_code : Place → Field → ℕ → List Line
number_code place g n = part_code (first (set_word g n)) (first (own_word g)) (spot_at place 0) ++ part_code (second (set_word g n)) (second (own_word g)) (spot_at place 1)

-- ---- the value in A

-- so far behind the pointer at a byte of the zero page
abbrev pub behind_code : ℕ → ℕ → Field → List Line
behind_code pointer at g = up_code (g.low % 8) ++ (value Ldy (byte_more at (g.low / 8)) ∷ merged_code IndirectY (Zero pointer) (own_bits g))

-- of a field in one byte that byte alone; an address that waited is popped
abbrev pub byte_set : Place → Field → List Line
byte_set place g = up_code (g.low % 8) ++ bits_store (onward (settled place) (g.low / 8)) (own_bits g)

abbrev pub set_code : Place → Field → List Line
set_code place g = if is_in_byte g then byte_set place g else (if is_unit g then bytes_store place Two else unit_set place g)
