-- Addresses that come to ptr1, and what is loaded behind them: their size, the form of each line, and that they leave what waits.
use Rattle.std.proofs.Common.{ℕ, refl, arith}
use Rattle.c65_ints.specs.declared.types.IntType.{IntType}
use Rattle.c65_genload.specs.declared.places.Extent.{Extent}
use Rattle.c65_genload.specs.declared.places.Extent.TheVariants.{One, Two, Three, Four}
use Rattle.c65_genload.specs.declared.places.Place.{Place}
use Rattle.c65_genload.specs.declared.places.Place.TheVariants as places
use Rattle.c65_genload.specs.declared.places.Access.{Access}
use Rattle.c65_genload.specs.declared.places.Access.TheVariants.{Whole, Part}
use Rattle.c65_genload.specs.Places.{extent_of}
use Rattle.c65_gendirect.specs.Pointed.{behind_pointer_code}
use Rattle.c65_genexpr.specs.declared.destination.Destination.{Destination}
use Rattle.c65_genexpr.specs.declared.destination.Destination.TheVariants.{Registers, Pointer}
use Rattle.c65_genexpr.specs.Destination.{arrived, destination_by, pointed_code, fetch_by, fetch_code}
use Rattle.c65_gen_law_lines.proofs.Made.{Piece, piece_append, piece_wider, piece_none}
use Rattle.c65_gen_law_lines.proofs.Leaves.{leaves_then, leaves_none, Still}
use Rattle.c65_gen_law_lines.proofs.Pieces.{narrow_piece, by_access, load_piece}
use Rattle.c65_gen_law_lines.proofs.StackPieces.{narrow_still, load_still}

pub arrived_piece : (d : Destination) → Piece 4 (arrived d)
arrived_piece Registers = piece_none 4
arrived_piece Pointer = record { plain = refl; fit = refl; size = omega arith }

pub arrived_still : (d : Destination) → Still (arrived d)
arrived_still Registers v = leaves_none
arrived_still Pointer v = record { to = λ calls. refl }

pub behind_pointer_piece : (at : ℕ) (e : Extent) → Piece 8 (behind_pointer_code at e)
behind_pointer_piece at One = record { plain = refl; fit = refl; size = omega arith }
behind_pointer_piece at Two = record { plain = refl; fit = refl; size = omega arith }
behind_pointer_piece at Three = record { plain = refl; fit = refl; size = omega arith }
behind_pointer_piece at Four = record { plain = refl; fit = refl; size = omega arith }

pub behind_pointer_still : (at : ℕ) (e : Extent) → Still (behind_pointer_code at e)
behind_pointer_still at One v = record { to = λ calls. refl }
behind_pointer_still at Two v = record { to = λ calls. refl }
behind_pointer_still at Three v = record { to = λ calls. refl }
behind_pointer_still at Four v = record { to = λ calls. refl }

pointed_piece : (place : Place) (kind : IntType) → Piece 19 (pointed_code place kind)
pointed_piece (places.Far at) kind = piece_wider 11 19 _ (piece_append 8 3 _ _ (behind_pointer_piece at (extent_of kind)) (narrow_piece kind)) (omega arith)
pointed_piece (places.Bank b) kind = load_piece (places.Bank b) (Whole kind)
pointed_piece (places.Near at) kind = load_piece (places.Near at) (Whole kind)
pointed_piece (places.Data s at) kind = load_piece (places.Data s at) (Whole kind)

pointed_still : (place : Place) (kind : IntType) → Still (pointed_code place kind)
pointed_still (places.Far at) kind v = leaves_then (behind_pointer_still at (extent_of kind) v) (narrow_still kind v)
pointed_still (places.Bank b) kind v = load_still (places.Bank b) (Whole kind) v
pointed_still (places.Near at) kind v = load_still (places.Near at) (Whole kind) v
pointed_still (places.Data s at) kind v = load_still (places.Data s at) (Whole kind) v

fetch_by_piece : (d : Destination) (place : Place) (kind : IntType) → Piece 19 (fetch_by d place kind)
fetch_by_piece Registers place kind = load_piece place (Whole kind)
fetch_by_piece Pointer place kind = pointed_piece place kind

fetch_by_still : (d : Destination) (place : Place) (kind : IntType) → Still (fetch_by d place kind)
fetch_by_still Registers place kind v = load_still place (Whole kind) v
fetch_by_still Pointer place kind v = pointed_still place kind v

pub fetch_piece : (place : Place) (access : Access) → Piece (by_access 19 36 access) (fetch_code place access)
fetch_piece place (Whole kind) = fetch_by_piece (destination_by (extent_of kind)) place kind
fetch_piece place (Part field) = load_piece place (Part field)

pub fetch_still : (place : Place) (access : Access) → Still (fetch_code place access)
fetch_still place (Whole kind) v = fetch_by_still (destination_by (extent_of kind)) place kind v
fetch_still place (Part field) v = load_still place (Part field) v
