-- Where the address of a place's base comes, and what is loaded behind it (C90 6.2.2.1).
use Rattle.std.specs.Prelude.{ℕ, Bool, List, [], ◌++◌}
use Rattle.c65_ints.specs.declared.types.IntType.{IntType}
use Rattle.c65_code.specs.declared.line.Line.{Line}
use Rattle.c65_genwide.specs.Wide.{narrow_code}
use Rattle.c65_genload.specs.declared.places.Place.{Place}
use Rattle.c65_genload.specs.declared.places.Place.TheVariants.{Far}
use Rattle.c65_genload.specs.declared.places.Access.{Access}
use Rattle.c65_genload.specs.declared.places.Access.TheVariants.{Whole, Part}
use Rattle.c65_genload.specs.declared.places.Extent.{Extent}
use Rattle.c65_genload.specs.declared.places.Extent.TheVariants.{One, Two}
use Rattle.c65_genload.specs.Places.{extent_of}
use Rattle.c65_genload.specs.Loads.{load_code}
use Rattle.c65_gendirect.specs.Pointed.{pointer_code, behind_pointer_code}
use Rattle.c65_genexpr.specs.declared.destination.Destination.{Destination}
use Rattle.c65_genexpr.specs.declared.destination.Destination.TheVariants.{Registers, Pointer}

-- behind the lines that bring an address to AX
abbrev pub arrived : Destination → List Line
arrived Registers = []
arrived Pointer = pointer_code

-- one byte or two are loaded behind ptr1
abbrev pub destination_by : Extent → Destination
destination_by One = Pointer
destination_by Two = Pointer
destination_by extent = Registers

-- where a load has the address of its place
abbrev pub destination_of : Access → Destination
destination_of (Whole kind) = destination_by (extent_of kind)
destination_of (Part field) = Registers

-- a number behind ptr1, where its place is anywhere
abbrev pub pointed_code : Place → IntType → List Line
pointed_code (Far at) kind = behind_pointer_code at (extent_of kind) ++ narrow_code kind
pointed_code place kind = load_code place (Whole kind)

abbrev pub fetch_by : Destination → Place → IntType → List Line
fetch_by Registers place kind = load_code place (Whole kind)
fetch_by Pointer place kind = pointed_code place kind

-- the value that is kept at a place, behind the lines of its base
abbrev pub fetch_code : Place → Access → List Line
fetch_code place (Whole kind) = fetch_by (destination_by (extent_of kind)) place kind
fetch_code place (Part field) = load_code place (Part field)
