-- Tests of what is loaded.
use Rattle.std.specs.Prelude.{ℕ, Bool, Option, Some, None, List, ◌++◌}
use Rattle.c65_ints.specs.declared.types.IntType.{IntType}
use Rattle.c65_code.specs.declared.line.Line.{Line}
use Rattle.c65_genwide.specs.Wide.{width_of}
use Rattle.c65_genload.specs.declared.places.Field.{Field}
use Rattle.c65_genload.specs.declared.places.Place.{Place}
use Rattle.c65_genload.specs.declared.places.Access.{Access}
use Rattle.c65_genload.specs.declared.places.Access.TheVariants.{Whole, Part}
use Rattle.c65_genload.specs.declared.places.Place.TheVariants.{Far}
use Rattle.c65_genload.specs.declared.places.Extent.{Extent}
use Rattle.c65_genload.specs.declared.places.Extent.TheVariants.{One}
use Rattle.c65_genload.specs.Places.{extent_of}
use Rattle.c65_genload.specs.Loads.{load_code}
use Rattle.c65_genfield.specs.Bits.{own_bits_code}
use Rattle.c65_gendirect.specs.Pointed.{behind_pointer_code}
use Rattle.c65_genexpr.specs.Destination.{fetch_code}
use Rattle.c65_genexpr.specs.Wanted.{branch_code, value_test_code}

-- a byte behind ptr1 is tested in A; any other number by its value
abbrev pub byte_test : Place → IntType → Extent → Bool → ℕ → List Line
byte_test (Far at) kind One s to = behind_pointer_code at One ++ branch_code s to
byte_test place kind extent s to = fetch_code place (Whole kind) ++ value_test_code (width_of kind) s to

abbrev pub number_test : Place → Access → Bool → ℕ → List Line
number_test place (Whole kind) s to = byte_test place kind (extent_of kind) s to
number_test place (Part field) s to = load_code place (Part field) ++ value_test_code (width_of field.kind) s to

-- a bit-field of one byte by its bits of that byte; any other number by its value
abbrev pub loaded_test : Option Field → Place → Access → Bool → ℕ → List Line
loaded_test (Some g) place access s to = own_bits_code place g ++ branch_code s to
loaded_test None place access s to = number_test place access s to
