-- Lines that bring an address to ptr1, and that load behind it, are lines that the text can write.
use Rattle.std.proofs.Common.{ℕ, ◌<◌, ◌^◌, rules}
use Rattle.c65_ints.specs.declared.types.IntType.{IntType}
use Rattle.c65_genload.specs.declared.places.Extent.{Extent}
use Rattle.c65_genload.specs.declared.places.Extent.TheVariants.{One, Two, Three, Four}
use Rattle.c65_genload.specs.declared.places.Place.{Place}
use Rattle.c65_genload.specs.declared.places.Place.TheVariants as places
use Rattle.c65_genload.specs.declared.places.Access.{Access}
use Rattle.c65_genload.specs.declared.places.Access.TheVariants.{Whole, Part}
use Rattle.c65_genload.specs.Places.{extent_of}
use Rattle.c65_gendirect.specs.Pointed.{behind_pointer_code}
use Rattle.c65_genexpr.specs.declared.destination.Destination.{Destination}
use Rattle.c65_genexpr.specs.declared.destination.Destination.TheVariants.{Registers, Pointer}
use Rattle.c65_genexpr.specs.Destination.{arrived, destination_by, pointed_code, fetch_by, fetch_code}
use Rattle.c65_asm_law.proofs.Well.{AllWell, well_append, well_none}
use Rattle.c65_asm_law.proofs.Loads.{WellPlace, narrow_well, load_well}
use Rattle.c65_asm_law.proofs.Directs.{pointer_code_well}

pub arrived_well : (n : ℕ) (d : Destination) → AllWell n (arrived d)
arrived_well n Registers = well_none n
arrived_well n Pointer = pointer_code_well n

pub behind_pointer_well : (n at : ℕ) (extent : Extent) → at < 2 ^ 8 → AllWell n (behind_pointer_code at extent)
behind_pointer_well n at One few = record { all = search (rules, few) }
behind_pointer_well n at Two few = record { all = search rules }
behind_pointer_well n at Three few = record { all = search rules }
behind_pointer_well n at Four few = record { all = search rules }

pointed_well : (n : ℕ) (place : Place) (kind : IntType) → WellPlace n place → AllWell n (pointed_code place kind)
pointed_well n (places.Far at) kind h = well_append n (behind_pointer_code at (extent_of kind)) _ (behind_pointer_well n at (extent_of kind) h) (narrow_well n kind)
pointed_well n (places.Bank at) kind h = load_well n (places.Bank at) (Whole kind) h
pointed_well n (places.Near at) kind h = load_well n (places.Near at) (Whole kind) h
pointed_well n (places.Data s at) kind h = load_well n (places.Data s at) (Whole kind) h

fetch_by_well : (n : ℕ) (d : Destination) (place : Place) (kind : IntType) → WellPlace n place → AllWell n (fetch_by d place kind)
fetch_by_well n Registers place kind h = load_well n place (Whole kind) h
fetch_by_well n Pointer place kind h = pointed_well n place kind h

pub fetch_well : (n : ℕ) (place : Place) (access : Access) → WellPlace n place → AllWell n (fetch_code place access)
fetch_well n place (Whole kind) h = fetch_by_well n (destination_by (extent_of kind)) place kind h
fetch_well n place (Part field) h = load_well n place (Part field) h
