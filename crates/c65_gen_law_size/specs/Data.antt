-- The bytes of the data of a program: its objects that have one place for the whole run, and its literals.
use Rattle.std.specs.Prelude.{ℕ, ◌+◌, ◌≤◌, if◌then◌else◌, Option, None, Some, List, [], ◌∷◌, length, map}
use Rattle.c65_ctype.specs.Trees.{type_in, TypesTy}
use Rattle.c65_ctype.specs.Views.{types_of}
use Rattle.c65_csem.specs.declared.items.Cell.{Cell}
use Rattle.c65_csem.specs.declared.items.Parts.{Parts}
use Rattle.c65_csem.specs.Trees.{ObjectTy}
use Rattle.c65_csem.specs.Views.{object_of}
use Rattle.c65_code.specs.declared.code.Datum.{Datum}
use Rattle.c65_code.specs.Placement.{size_of_datum}
use Rattle.c65_genframe.specs.Sizes.{bytes_or}
use Rattle.c65_gendata.specs.Data.{is_placed}
use Rattle.c65_csem_names.specs.Initial.{first_pieces, second_pieces}

-- ---- the bytes of data

-- an object that has one place for the whole run
abbrev pub placed_bytes : TypesTy → ObjectTy → ℕ
placed_bytes types o = if is_placed o.class then bytes_or types (type_in o.ty) 65536 else 0

abbrev pub objects_bytes : TypesTy → List ObjectTy → ℕ
objects_bytes types [] = 0
objects_bytes types (o ∷ os) = placed_bytes types o + objects_bytes types os

-- a literal and the zero behind it
abbrev pub literals_bytes : List (List ℕ) → ℕ
literals_bytes [] = 0
literals_bytes (bytes ∷ rest) = length bytes + 1 + literals_bytes rest

abbrev pub data_bytes : Parts → ℕ
data_bytes parts = objects_bytes (types_of parts.types) (map object_of parts.objects.items) + literals_bytes parts.literals.items

-- what the generator puts down for them
abbrev pub datums_size : List Datum → ℕ
datums_size [] = 0
datums_size (datum ∷ datums) = size_of_datum datum + datums_size datums

-- ---- first bytes of objects

-- the first bytes of an object are no more than it has, and each pointer among them has both its pieces
abbrev pub IsFilled : ℕ → Option (List Cell) → Type 0
IsFilled bytes None = Unit {0}
IsFilled bytes (Some cells) = (length cells ≤ bytes) × (first_pieces cells ≤ second_pieces cells)

abbrev pub AreFilled : TypesTy → List ObjectTy → Type 0
AreFilled types [] = Unit {0}
AreFilled types (o ∷ os) = IsFilled (bytes_or types (type_in o.ty) 65536) o.init × AreFilled types os
