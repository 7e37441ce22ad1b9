-- The data of a program, one by one.
use Rattle.std.proofs.Common.{◌≡◌, ℕ, zero, suc, ◌+◌, ◌<◌, ◌≤◌, Bool, true, false, List, [], ◌∷◌, ◌++◌, map, length, Option, Some, None, refl, subst, arith}
use Rattle.std.specs.Prelude.{slice_get, if◌then◌else◌}
use Rattle.std.specs.List.{list_all}
use Rattle.c65_ctype.specs.Trees.{type_in, TypesTy}
use Rattle.c65_csem.specs.declared.items.Cell.{Cell}
use Rattle.c65_csem.specs.Trees.{ObjectTy}
use Rattle.c65_csem.specs.Places.{is_fixed}
use Rattle.c65_code.specs.declared.code.DataCell.TheVariants.{Byte}
use Rattle.c65_code.specs.declared.code.Datum.{Datum}
use Rattle.c65_code.specs.declared.line.Sym.{Sym}
use Rattle.c65_genframe.specs.declared.symbols.Numbers.{Numbers}
use Rattle.c65_genframe.specs.Symbols.{object_symbol, literal_symbol}
use Rattle.c65_genframe.specs.Sizes.{bytes_or}
use Rattle.c65_gendata.specs.Cells.{with_cells, is_zero, literal_cells}
use Rattle.c65_gendata.specs.Data.{is_const, filled, blank, valued, initialised, object_datum, is_placed, with_object, with_objects, with_literals}
use Rattle.c65_opt_law_whole.specs.Laws.{AreByteCells, IsLiteralData}

-- ---- what holds of each

abbrev pub Each : (Datum → Type 0) → List Datum → Type 0
Each P [] = Unit {0}
Each P (d ∷ ds) = P d × Each P ds

pub each_at : (P : Datum → Type 0) (ds : List Datum) (i : ℕ) (d : Datum) → Each P ds → slice_get ds i ≡ Some d → P d
each_at P [] i d h e = absurd cc
each_at P (x ∷ ds) zero d h e = let same : x ≡ d = cc in subst P same h.0
each_at P (x ∷ ds) (suc i) d h e = each_at P ds i d h.1 e

one_more : (P : Datum → Type 0) (ds : List Datum) (d : Datum) → Each P ds → P d → Each P (ds ++ d ∷ [])
one_more P [] d h k = (k, tt)
one_more P (x ∷ ds) d h k = (h.0, one_more P ds d h.1 k)

-- ---- objects

blank_sym : (s : Sym) (constant : Bool) (bytes : ℕ) → (blank s constant bytes).sym ≡ s
blank_sym s true bytes = refl
blank_sym s false bytes = refl

valued_sym : (n : Numbers) (s : Sym) (constant : Bool) (bytes : ℕ) (cells : List Cell) → (valued n s constant bytes cells).sym ≡ s
valued_sym n s constant bytes cells = pick (list_all is_zero cells)
  where
    pick : (b : Bool) → (if b then blank s constant bytes else filled s constant (with_cells n cells [])).sym ≡ s
    pick true = blank_sym s constant bytes
    pick false = refl

initialised_sym : (n : Numbers) (s : Sym) (constant : Bool) (bytes : ℕ) (init : Option (List Cell)) → (initialised n s constant bytes init).sym ≡ s
initialised_sym n s constant bytes None = blank_sym s constant bytes
initialised_sym n s constant bytes (Some cells) = valued_sym n s constant bytes cells

object_sym : (n : Numbers) (o : ObjectTy) (s : Sym) (bytes : ℕ) → (object_datum n o s bytes).sym ≡ s
object_sym n o s bytes = pick (is_fixed o.class)
  where
    pick : (b : Bool) → (if b then blank s false bytes else initialised n s (is_const o.ty) bytes o.init).sym ≡ s
    pick true = blank_sym s false bytes
    pick false = initialised_sym n s (is_const o.ty) bytes o.init

module _ (P : Datum → Type 0) (types : TypesTy) (n : Numbers) (most : ℕ) (own : (i : ℕ) (d : Datum) → i < most → d.sym ≡ object_symbol n i → P d) where
  object_each : (i : ℕ) (o : ObjectTy) (ds : List Datum) → i < most → Each P ds → Each P (with_object types n o (object_symbol n i) ds)
  object_each i o ds lt h = pick (is_placed o.class)
    where
      pick : (b : Bool) → Each P (if b then ds ++ object_datum n o (object_symbol n i) (bytes_or types (type_in o.ty) 65536) ∷ [] else ds)
      pick true = one_more P ds (object_datum n o (object_symbol n i) (bytes_or types (type_in o.ty) 65536)) h (own i (object_datum n o (object_symbol n i) (bytes_or types (type_in o.ty) 65536)) lt (object_sym n o (object_symbol n i) (bytes_or types (type_in o.ty) 65536)))
      pick false = h

  pub objects_each : (i : ℕ) (os : List ObjectTy) (ds : List Datum) → i + length os ≤ most → Each P ds → Each P (with_objects types n i os ds)
  objects_each i [] ds le h = h
  objects_each i (o ∷ os) ds le h = objects_each (suc i) os (with_object types n o (object_symbol n i) ds) (omega (arith, le)) (object_each i o ds (omega (arith, le)) h)

-- ---- literals

byte_cells : (bytes : List ℕ) → AreByteCells (map (λ b. Byte b) bytes ++ Byte 0 ∷ [])
byte_cells [] = tt
byte_cells (b ∷ bytes) = byte_cells bytes

literal_data : (s : Sym) (bytes : List ℕ) → IsLiteralData (filled s true (literal_cells bytes))
literal_data s bytes = record { constant = refl; bytes = byte_cells bytes }

pub literals_each : (P : Datum → Type 0) → ((d : Datum) → IsLiteralData d → P d) → (n : Numbers) (i : ℕ) (ls : List (List ℕ)) (ds : List Datum) → Each P ds → Each P (with_literals n i ls ds)
literals_each P of n i [] ds h = h
literals_each P of n i (bytes ∷ ls) ds h =
    literals_each P of n (suc i) ls (ds ++ filled (literal_symbol n i) true (literal_cells bytes) ∷ [])
    (one_more P ds (filled (literal_symbol n i) true (literal_cells bytes)) h (of (filled (literal_symbol n i) true (literal_cells bytes)) (literal_data (literal_symbol n i) bytes)))
