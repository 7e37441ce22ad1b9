-- The symbols of the lines that test and set bit-fields.
use Rattle.std.proofs.Common.{ℕ, ◌/◌, ◌%◌, ◌==◌, Bool, true, false, Option, Some, None, ◌++◌}
use Rattle.c65_mach.specs.declared.rows.Op.TheVariants.{Asl, Lda, Lsr, Ror, Sta}
use Rattle.c65_mach.specs.declared.rows.Mode.TheVariants.{IndirectY}
use Rattle.c65_code.specs.declared.line.Operand.TheVariants.{Zero}
use Rattle.c65_genwide.specs.Wide.{width_of}
use Rattle.c65_ints.specs.declared.types.IntType.{IntType}
use Rattle.c65_genload.specs.declared.places.Extent.{Extent}
use Rattle.c65_genload.specs.declared.places.Extent.TheVariants.{One, Two}
use Rattle.c65_genload.specs.declared.places.Field.{Field}
use Rattle.c65_genload.specs.declared.places.Place.{Place}
use Rattle.c65_genload.specs.declared.places.Place.TheVariants as places
use Rattle.c65_genload.specs.declared.places.Access.{Access}
use Rattle.c65_genload.specs.declared.places.Access.TheVariants.{Whole, Part}
use Rattle.c65_genload.specs.Places.{onward, settled, extent_of}
use Rattle.c65_genload.specs.Numbers.{first, second}
use Rattle.c65_genload.specs.Fields.{is_in_byte, own_bits, is_unit}
use Rattle.c65_genchange.specs.declared.spots.Spot.{Spot}
use Rattle.c65_genchange.specs.Spots.{spot_at}
use Rattle.c65_genfield.specs.Bits.{own_bits_code}
use Rattle.c65_genfield.specs.Setting.{own_word, set_word, byte_code, part_code, number_code, behind_code, byte_set, set_code}
use Rattle.c65_genexpr.specs.Held.{ptr2}
use Rattle.c65_genexpr.specs.Wanted.{branch_code, value_test_code}
use Rattle.c65_genexpr.specs.Destination.{fetch_code}
use Rattle.c65_genexpr.specs.Fields.{byte_test, number_test, loaded_test}
use Rattle.c65_gen_law_names.proofs.Known.{AllKnown, known_if, known_more, known_none, known_then}
use Rattle.c65_gen_law_names.proofs.Loads.{KnownPlace, bits_known, bytes_known, bytes_store_known, load_known, merged_known, onward_known, settled_known, test_known, turned_known, unit_set_known}
use Rattle.c65_gen_law_names.proofs.Pointed.{behind_pointer_known, fetch_known}
use Rattle.c65_gen_law_names.proofs.Changes.{KnownSpot, again_known, reach_known}

-- ---- a test

branch_known : (P : ℕ → Type 0) (s : Bool) (to : ℕ) → AllKnown P (branch_code s to)
branch_known P true to = record { all = tt }
branch_known P false to = record { all = tt }

own_bits_known : (P : ℕ → Type 0) (place : Place) (g : Field) → KnownPlace P place → AllKnown P (own_bits_code place g)
own_bits_known P place g h =
    known_then (bytes_known P (onward place (g.low / 8)) One (onward_known P place (g.low / 8) h)) (record { all = tt })

fetched_test : (P : ℕ → Type 0) (place : Place) (kind : IntType) (s : Bool) (to : ℕ) → KnownPlace P place → AllKnown P (fetch_code place (Whole kind) ++ value_test_code (width_of kind) s to)
fetched_test P place kind s to h = known_then (fetch_known P place (Whole kind) h) (known_then (test_known P (width_of kind)) (branch_known P s to))

byte_test_known : (P : ℕ → Type 0) (place : Place) (kind : IntType) (extent : Extent) (s : Bool) (to : ℕ) → KnownPlace P place → AllKnown P (byte_test place kind extent s to)
byte_test_known P (places.Far at) kind One s to h = known_then (behind_pointer_known P at One) (branch_known P s to)
byte_test_known P place kind extent s to h = fetched_test P place kind s to h

number_test_known : (P : ℕ → Type 0) (place : Place) (access : Access) (s : Bool) (to : ℕ) → KnownPlace P place → AllKnown P (number_test place access s to)
number_test_known P place (Whole kind) s to h = byte_test_known P place kind (extent_of kind) s to h
number_test_known P place (Part g) s to h = known_then (load_known P place (Part g) h) (known_then (test_known P (width_of g.kind)) (branch_known P s to))

pub loaded_test_known : (P : ℕ → Type 0) (field : Option Field) (place : Place) (access : Access) (s : Bool) (to : ℕ) → KnownPlace P place → AllKnown P (loaded_test field place access s to)
loaded_test_known P (Some g) place access s to h = known_then (own_bits_known P place g h) (branch_known P s to)
loaded_test_known P None place access s to h = number_test_known P place access s to h

-- ---- a number

byte_known : (P : ℕ → Type 0) (bits mask : ℕ) (spot : Spot) → KnownSpot P spot → AllKnown P (byte_code bits mask spot)
byte_known P bits mask spot h =
    known_if (mask == 255) (known_more tt (reach_known P Sta spot h))
    (known_then (reach_known P Lda spot h)
    (known_then (known_if (bits == mask) known_none (record { all = tt }))
    (known_then (known_if (bits == 0) known_none (record { all = tt })) (again_known P Sta spot h))))

byte_spot_known : (P : ℕ → Type 0) (place : Place) (i : ℕ) → KnownPlace P place → KnownSpot P (spot_at place i)
byte_spot_known P (places.Bank b) i h = tt
byte_spot_known P (places.Near at) i h = tt
byte_spot_known P (places.Data s at) i h = h
byte_spot_known P (places.Far at) i h = tt

part_known : (P : ℕ → Type 0) (bits mask : ℕ) (spot : Spot) → KnownSpot P spot → AllKnown P (part_code bits mask spot)
part_known P bits mask spot h = known_if (mask == 0) known_none (byte_known P bits mask spot h)

pub number_known : (P : ℕ → Type 0) (place : Place) (g : Field) (m : ℕ) → KnownPlace P place → AllKnown P (number_code place g m)
number_known P place g m h =
    known_then (part_known P (first (set_word g m)) (first (own_word g)) (spot_at place 0) (byte_spot_known P place 0 h))
    (part_known P (second (set_word g m)) (second (own_word g)) (spot_at place 1) (byte_spot_known P place 1 h))

-- ---- the value in A

pub behind_known : (P : ℕ → Type 0) (at : ℕ) (g : Field) → AllKnown P (behind_code ptr2 at g)
behind_known P at g =
    known_then (turned_known P (g.low % 8) Asl Lsr Ror) (known_more tt (merged_known P IndirectY (Zero ptr2) (own_bits g) tt))

byte_set_known : (P : ℕ → Type 0) (place : Place) (g : Field) → KnownPlace P place → AllKnown P (byte_set place g)
byte_set_known P place g h =
    let at : KnownPlace P (onward (settled place) (g.low / 8)) = onward_known P (settled place) (g.low / 8) (settled_known P place h) in
    known_then (turned_known P (g.low % 8) Asl Lsr Ror) (bits_known P (onward (settled place) (g.low / 8)) (own_bits g) at)

pub set_known : (P : ℕ → Type 0) (place : Place) (g : Field) → KnownPlace P place → AllKnown P (set_code place g)
set_known P place g h =
    known_if (is_in_byte g) (byte_set_known P place g h) (known_if (is_unit g) (bytes_store_known P place Two h) (unit_set_known P place g h))
