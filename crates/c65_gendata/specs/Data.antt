-- The data of a program.
use Rattle.std.specs.Prelude.{ℕ, suc, ◌++◌, ◌||◌, Bool, true, false, if◌then◌else◌, List, [], ◌∷◌, map, replicate, Option, None, Some}
use Rattle.std.specs.List.{list_all}
use Rattle.c65_ctype.specs.Trees.{Ty, array, QTy, qual, type_in, TypesTy}
use Rattle.c65_ctype.specs.Views.{types_of}
use Rattle.c65_csem.specs.declared.items.Class.{Class}
use Rattle.c65_csem.specs.declared.items.Class.TheVariants.{External, Tentative, Static}
use Rattle.c65_csem.specs.declared.items.Cell.{Cell}
use Rattle.c65_csem.specs.declared.items.Parts.{Parts}
use Rattle.c65_csem.specs.Trees.{ObjectTy}
use Rattle.c65_csem.specs.Places.{is_fixed}
use Rattle.c65_csem.specs.Views.{object_of}
use Rattle.c65_code.specs.declared.code.DataCell.{DataCell}
use Rattle.c65_code.specs.declared.code.DataCell.TheVariants.{Byte}
use Rattle.c65_code.specs.declared.code.Datum.{Datum}
use Rattle.c65_code.specs.declared.code.DatumKind.TheVariants.{Data, Const, Zero}
use Rattle.c65_code.specs.declared.line.Sym.{Sym}
use Rattle.c65_genframe.specs.declared.symbols.Numbers.{Numbers}
use Rattle.c65_genframe.specs.Symbols.{numbers_of, object_symbol, literal_symbol}
use Rattle.c65_genframe.specs.Sizes.{bytes_or}
use Rattle.c65_gendata.specs.Cells.{with_cells, is_zero, literal_cells}

abbrev mutual
  -- an object that may not be written; the qualifiers of an array are those of its elements (C90 6.5.3)
  pub is_const : QTy → Bool
  is_const (qual t c v) = is_const_type c t

  pub is_const_type : Bool → Ty → Bool
  is_const_type c (array q n) = is_const q
  is_const_type c _ = c

abbrev pub filled : Sym → Bool → List DataCell → Datum
filled sym constant cells = record { sym = sym; kind = if constant then Const else Data; cells = cells; zeros = 0 }

abbrev pub blank : Sym → Bool → ℕ → Datum
blank sym false bytes = record { sym = sym; kind = Zero; cells = []; zeros = bytes }
blank sym true bytes = filled sym true (replicate bytes (Byte 0))

abbrev pub valued : Numbers → Sym → Bool → ℕ → List Cell → Datum
valued n sym constant bytes cells = if list_all is_zero cells then blank sym constant bytes else filled sym constant (with_cells n cells [])

abbrev pub initialised : Numbers → Sym → Bool → ℕ → Option (List Cell) → Datum
initialised n sym constant bytes None = blank sym constant bytes
initialised n sym constant bytes (Some cells) = valued n sym constant bytes cells

-- An object of so many bytes. One of a block begins as zero bytes that may be written, also where it is const: its initial
-- value is stored at each entry of its block.
abbrev pub object_datum : Numbers → ObjectTy → Sym → ℕ → Datum
object_datum n o sym bytes = if is_fixed o.class then blank sym false bytes else initialised n sym (is_const o.ty) bytes o.init

-- an object that is defined and lives as long as the program (C90 6.1.2.4)
abbrev pub is_lasting : Class → Bool
is_lasting External = true
is_lasting Tentative = true
is_lasting Static = true
is_lasting _ = false

-- an object that has one place for the whole run
abbrev pub is_placed : Class → Bool
is_placed c = is_lasting c || is_fixed c

abbrev pub with_object : TypesTy → Numbers → ObjectTy → Sym → List Datum → List Datum
with_object types n o sym ds = if is_placed o.class then ds ++ object_datum n o sym (bytes_or types (type_in o.ty) 65536) ∷ [] else ds

-- the first of these objects has the number i
abbrev pub with_objects : TypesTy → Numbers → ℕ → List ObjectTy → List Datum → List Datum
with_objects types n i [] ds = ds
with_objects types n i (o ∷ os) ds = with_objects types n (suc i) os (with_object types n o (object_symbol n i) ds)

abbrev pub with_literals : Numbers → ℕ → List (List ℕ) → List Datum → List Datum
with_literals n i [] ds = ds
with_literals n i (bytes ∷ rest) ds = with_literals n (suc i) rest (ds ++ filled (literal_symbol n i) true (literal_cells bytes) ∷ [])

-- objects, and then literals, in the order of their numbers
abbrev pub data_of : Parts → List Datum
data_of parts =
    let n = numbers_of parts in
    with_literals n 0 parts.literals.items (with_objects (types_of parts.types) n 0 (map object_of parts.objects.items) [])
