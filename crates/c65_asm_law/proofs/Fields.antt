-- The lines that test and set bit-fields are lines that the text can write.
use Rattle.std.proofs.Common.{ℕ, ◌-◌, ◌<◌, ◌^◌, ◌/◌, ◌%◌, ◌==◌, Bool, true, false, Option, Some, None, [], ◌∷◌, ◌++◌, arith}
use Rattle.c65_mach.specs.declared.rows.Op.TheVariants.{Asl, Lda, Lsr, Ror, Sta}
use Rattle.c65_mach.specs.declared.rows.Mode.TheVariants.{IndirectY}
use Rattle.c65_code.specs.declared.line.Operand.TheVariants.{Zero}
use Rattle.c65_genwide.specs.Lines.{value}
use Rattle.c65_genwide.specs.Wide.{width_of}
use Rattle.c65_ints.specs.declared.types.IntType.{IntType}
use Rattle.c65_genload.specs.declared.places.Extent.{Extent}
use Rattle.c65_genload.specs.declared.places.Extent.TheVariants.{One, Two}
use Rattle.c65_genload.specs.declared.places.Field.{Field}
use Rattle.c65_genload.specs.declared.places.Place.{Place}
use Rattle.c65_genload.specs.declared.places.Place.TheVariants as places
use Rattle.c65_genload.specs.declared.places.Access.{Access}
use Rattle.c65_genload.specs.declared.places.Access.TheVariants.{Whole, Part}
use Rattle.c65_genload.specs.Places.{byte_more, onward, settled, extent_of}
use Rattle.c65_genload.specs.Numbers.{first, second}
use Rattle.c65_genload.specs.Fields.{is_in_byte, own_bits, up_code, is_unit}
use Rattle.c65_genload.specs.Loads.{bytes_code, load_code}
use Rattle.c65_genload.specs.Stores.{bytes_store, unit_set}
use Rattle.c65_genchange.specs.declared.spots.Spot.{Spot}
use Rattle.c65_genchange.specs.Spots.{spot_at, reach_code}
use Rattle.c65_genfield.specs.Bits.{own_bits_code}
use Rattle.c65_genfield.specs.Setting.{own_word, set_word, clear_code, raise_code, byte_code, part_code, number_code, behind_code, byte_set, set_code}
use Rattle.c65_genexpr.specs.Held.{ptr2}
use Rattle.c65_genexpr.specs.Wanted.{branch_code, value_test_code}
use Rattle.c65_gendirect.specs.Pointed.{behind_pointer_code}
use Rattle.c65_genexpr.specs.Destination.{fetch_code}
use Rattle.c65_genexpr.specs.Fields.{byte_test, number_test, loaded_test}
use Rattle.c65_asm_law.proofs.Well.{AllWell, well_append, well_none, well_more, well_if}
use Rattle.c65_asm_law.proofs.Loads.{WellPlace, settled_well, onward_well, turned_well, bytes_store_well, unit_set_well, merged_well, bits_well, bytes_well, load_well, test_well}
use Rattle.c65_asm_law.proofs.Pointed.{behind_pointer_well, fetch_well}
use Rattle.c65_asm_law.proofs.Changes.{WellSpot, reach_well, again_well}

-- ---- a test

branch_well : (n : ℕ) (s : Bool) (to : ℕ) → to < 2 ^ 32 → AllWell n (branch_code s to)
branch_well n true to aim = record { all = ((tt, aim), tt) }
branch_well n false to aim = record { all = ((tt, aim), tt) }

own_bits_well : (n : ℕ) (place : Place) (g : Field) → WellPlace n place → AllWell n (own_bits_code place g)
own_bits_well n place g h =
    let own : own_bits g < 2 ^ 8 = omega arith in
    well_append n (bytes_code (onward place (g.low / 8)) One) _ (bytes_well n (onward place (g.low / 8)) One (onward_well n place (g.low / 8) h)) (record { all = ((tt, own), tt) })

fetched_test : (n : ℕ) (place : Place) (kind : IntType) (s : Bool) (to : ℕ) → WellPlace n place → to < 2 ^ 32 → AllWell n (fetch_code place (Whole kind) ++ value_test_code (width_of kind) s to)
fetched_test n place kind s to h aim = well_append n (fetch_code place (Whole kind)) _ (fetch_well n place (Whole kind) h) (well_append n _ _ (test_well n (width_of kind)) (branch_well n s to aim))

byte_test_well : (n : ℕ) (place : Place) (kind : IntType) (extent : Extent) (s : Bool) (to : ℕ) → WellPlace n place → to < 2 ^ 32 → AllWell n (byte_test place kind extent s to)
byte_test_well n (places.Far at) kind One s to h aim = well_append n (behind_pointer_code at One) _ (behind_pointer_well n at One h) (branch_well n s to aim)
byte_test_well n place kind extent s to h aim = fetched_test n place kind s to h aim

number_test_well : (n : ℕ) (place : Place) (access : Access) (s : Bool) (to : ℕ) → WellPlace n place → to < 2 ^ 32 → AllWell n (number_test place access s to)
number_test_well n place (Whole kind) s to h aim = byte_test_well n place kind (extent_of kind) s to h aim
number_test_well n place (Part g) s to h aim = well_append n (load_code place (Part g)) _ (load_well n place (Part g) h) (well_append n _ _ (test_well n (width_of g.kind)) (branch_well n s to aim))

pub loaded_test_well : (n : ℕ) (field : Option Field) (place : Place) (access : Access) (s : Bool) (to : ℕ) → WellPlace n place → to < 2 ^ 32 → AllWell n (loaded_test field place access s to)
loaded_test_well n (Some g) place access s to h aim = well_append n (own_bits_code place g) _ (own_bits_well n place g h) (branch_well n s to aim)
loaded_test_well n None place access s to h aim = number_test_well n place access s to h aim

-- ---- a number

byte_well : (n bits mask : ℕ) (spot : Spot) → bits < 2 ^ 8 → WellSpot n spot → AllWell n (byte_code bits mask spot)
byte_well n bits mask spot few h =
    let rest : 255 - mask < 2 ^ 8 = omega arith in
    well_if n (mask == 255) (value Lda bits ∷ reach_code Sta spot) _ (well_more n _ _ (tt, few) (reach_well n Sta spot h))
    (well_append n (reach_code Lda spot) _ (reach_well n Lda spot h)
    (well_append n (clear_code bits mask) _ (well_if n (bits == mask) [] _ (well_none n) (record { all = ((tt, rest), tt) }))
    (well_append n (raise_code bits) _ (well_if n (bits == 0) [] _ (well_none n) (record { all = ((tt, few), tt) })) (again_well n Sta spot h))))

byte_spot_well : (n : ℕ) (place : Place) (i : ℕ) → WellPlace n place → WellSpot n (spot_at place i)
byte_spot_well n (places.Bank b) i h = omega arith
byte_spot_well n (places.Near at) i h = (omega arith, omega arith)
byte_spot_well n (places.Data s at) i h = (h.0, omega arith)
byte_spot_well n (places.Far at) i h = (omega arith, omega arith)

part_well : (n bits mask : ℕ) (spot : Spot) → bits < 2 ^ 8 → WellSpot n spot → AllWell n (part_code bits mask spot)
part_well n bits mask spot few h = well_if n (mask == 0) [] _ (well_none n) (byte_well n bits mask spot few h)

pub number_well : (n : ℕ) (place : Place) (g : Field) (m : ℕ) → WellPlace n place → AllWell n (number_code place g m)
number_well n place g m h =
    well_append n (part_code (first (set_word g m)) (first (own_word g)) (spot_at place 0)) _ (part_well n (first (set_word g m)) (first (own_word g)) (spot_at place 0) (omega arith) (byte_spot_well n place 0 h))
    (part_well n (second (set_word g m)) (second (own_word g)) (spot_at place 1) (omega arith) (byte_spot_well n place 1 h))

-- ---- the value in A

pub behind_well : (n at : ℕ) (g : Field) → AllWell n (behind_code ptr2 at g)
behind_well n at g =
    let way : byte_more at (g.low / 8) < 2 ^ 8 = omega arith in
    let own : own_bits g < 2 ^ 8 = omega arith in
    well_append n (up_code (g.low % 8)) _ (turned_well n (g.low % 8) Asl Lsr Ror) (well_more n _ _ (tt, way) (merged_well n IndirectY (Zero ptr2) (own_bits g) own (tt, omega arith)))

byte_set_well : (n : ℕ) (place : Place) (g : Field) → WellPlace n place → AllWell n (byte_set place g)
byte_set_well n place g h =
    let own : own_bits g < 2 ^ 8 = omega arith in
    let at : WellPlace n (onward (settled place) (g.low / 8)) = onward_well n (settled place) (g.low / 8) (settled_well n place h) in
    well_append n (up_code (g.low % 8)) _ (turned_well n (g.low % 8) Asl Lsr Ror) (bits_well n (onward (settled place) (g.low / 8)) (own_bits g) own at)

pub set_well : (n : ℕ) (place : Place) (g : Field) → WellPlace n place → AllWell n (set_code place g)
set_well n place g h =
    well_if n (is_in_byte g) (byte_set place g) _ (byte_set_well n place g h) (well_if n (is_unit g) (bytes_store place Two) (unit_set place g) (bytes_store_well n place Two h) (unit_set_well n place g h))
