-- Lines that bring an address to ptr1, and that load behind it, name no symbols but that of the place.
use Rattle.std.proofs.Common.{ℕ}
use Rattle.c65_ints.specs.declared.types.IntType.{IntType}
use Rattle.c65_genload.specs.declared.places.Extent.{Extent}
use Rattle.c65_genload.specs.declared.places.Extent.TheVariants.{One, Two, Three, Four}
use Rattle.c65_genload.specs.declared.places.Place.{Place}
use Rattle.c65_genload.specs.declared.places.Place.TheVariants as places
use Rattle.c65_genload.specs.declared.places.Access.{Access}
use Rattle.c65_genload.specs.declared.places.Access.TheVariants.{Whole, Part}
use Rattle.c65_genload.specs.Places.{extent_of}
use Rattle.c65_gendirect.specs.Pointed.{behind_pointer_code}
use Rattle.c65_genexpr.specs.declared.destination.Destination.{Destination}
use Rattle.c65_genexpr.specs.declared.destination.Destination.TheVariants.{Registers, Pointer}
use Rattle.c65_genexpr.specs.Destination.{arrived, destination_by, pointed_code, fetch_by, fetch_code}
use Rattle.c65_gen_law_names.proofs.Known.{AllKnown, known_none, known_then}
use Rattle.c65_gen_law_names.proofs.Loads.{KnownPlace, load_known, narrow_known}
use Rattle.c65_gen_law_names.proofs.Directs.{pointer_code_known}

pub arrived_known : (P : ℕ → Type 0) (d : Destination) → AllKnown P (arrived d)
arrived_known P Registers = known_none
arrived_known P Pointer = pointer_code_known P

pub behind_pointer_known : (P : ℕ → Type 0) (at : ℕ) (extent : Extent) → AllKnown P (behind_pointer_code at extent)
behind_pointer_known P at One = record { all = tt }
behind_pointer_known P at Two = record { all = tt }
behind_pointer_known P at Three = record { all = tt }
behind_pointer_known P at Four = record { all = tt }

pointed_known : (P : ℕ → Type 0) (place : Place) (kind : IntType) → KnownPlace P place → AllKnown P (pointed_code place kind)
pointed_known P (places.Far at) kind h = known_then (behind_pointer_known P at (extent_of kind)) (narrow_known P kind)
pointed_known P (places.Bank at) kind h = load_known P (places.Bank at) (Whole kind) h
pointed_known P (places.Near at) kind h = load_known P (places.Near at) (Whole kind) h
pointed_known P (places.Data s at) kind h = load_known P (places.Data s at) (Whole kind) h

fetch_by_known : (P : ℕ → Type 0) (d : Destination) (place : Place) (kind : IntType) → KnownPlace P place → AllKnown P (fetch_by d place kind)
fetch_by_known P Registers place kind h = load_known P place (Whole kind) h
fetch_by_known P Pointer place kind h = pointed_known P place kind h

pub fetch_known : (P : ℕ → Type 0) (place : Place) (access : Access) → KnownPlace P place → AllKnown P (fetch_code place access)
fetch_known P place (Whole kind) h = fetch_by_known P (destination_by (extent_of kind)) place kind h
fetch_known P place (Part field) h = load_known P place (Part field) h
