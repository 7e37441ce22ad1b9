-- The bytes of the data that the generator puts down.
use Rattle.std.proofs.Common.{◌≡◌, ℕ, zero, suc, ◌+◌, ◌≤◌, ◌==◌, Bool, true, false, Option, None, Some, List, [], ◌∷◌, ◌++◌, length, refl, arith}
use Rattle.std.specs.Prelude.{if◌then◌else◌, map, replicate}
use Rattle.std.specs.List.{list_all}
use Rattle.c65_ctype.specs.Trees.{type_in, TypesTy}
use Rattle.c65_ctype.specs.Views.{types_of}
use Rattle.c65_csem.specs.declared.items.Cell.{Cell}
use Rattle.c65_csem.specs.declared.items.Cell.TheVariants as cells
use Rattle.c65_csem.specs.declared.items.Parts.{Parts}
use Rattle.c65_csem.specs.Trees.{ObjectTy}
use Rattle.c65_csem.specs.Views.{object_of}
use Rattle.c65_code.specs.declared.code.DataCell.{DataCell}
use Rattle.c65_code.specs.declared.code.DataCell.TheVariants.{Byte, Address}
use Rattle.c65_code.specs.declared.code.Datum.{Datum}
use Rattle.c65_code.specs.declared.line.Sym.{Sym}
use Rattle.c65_code.specs.Placement.{cells_size, size_of_datum}
use Rattle.c65_genframe.specs.declared.symbols.Numbers.{Numbers}
use Rattle.c65_genframe.specs.Symbols.{numbers_of, object_symbol, literal_symbol}
use Rattle.c65_genframe.specs.Sizes.{bytes_or}
use Rattle.c65_gendata.specs.Cells.{symbol_of, offset_of, with_cells, is_zero, literal_cells}
use Rattle.c65_gendata.specs.Data.{is_const, filled, blank, valued, initialised, object_datum, is_placed, with_object, with_objects, with_literals, data_of}
use Rattle.c65_csem_names.specs.Initial.{first_pieces, second_pieces}
use Rattle.c65_gen_law_size.specs.Data.{placed_bytes, objects_bytes, literals_bytes, data_bytes, datums_size, IsFilled, AreFilled}
use Rattle.c65_csem.specs.Places.{is_fixed}

-- ---- cells

cells_sum : (xs ys : List DataCell) → cells_size (xs ++ ys) ≡ cells_size xs + cells_size ys
cells_sum [] ys = omega arith
cells_sum (Byte v ∷ xs) ys = omega (arith, cells_sum xs ys)
cells_sum (Address s o ∷ xs) ys = omega (arith, cells_sum xs ys)

filled_cells : (n : Numbers) (cs : List Cell) (xs : List DataCell) → cells_size (with_cells n cs xs) + second_pieces cs ≡ cells_size xs + (length cs + first_pieces cs)
filled_cells n [] xs = omega arith
filled_cells n (cells.Byte b ∷ cs) xs = omega (arith, filled_cells n cs (xs ++ Byte b ∷ []), cells_sum xs (Byte b ∷ []))
filled_cells n (cells.Piece t o part ∷ cs) xs = go (part == 0) (λ ys. filled_cells n cs ys)
  where
    address : DataCell
    address = Address (symbol_of n t) (offset_of o)

    go : (first : Bool) → ((ys : List DataCell) → cells_size (with_cells n cs ys) + second_pieces cs ≡ cells_size ys + (length cs + first_pieces cs)) → cells_size (with_cells n cs (if first then xs ++ address ∷ [] else xs)) + ((if first then 0 else 1) + second_pieces cs) ≡ cells_size xs + (suc (length cs) + ((if first then 1 else 0) + first_pieces cs))
    go true rest = omega (arith, rest (xs ++ address ∷ []), cells_sum xs (address ∷ []))
    go false rest = omega (arith, rest xs)

zeros_size : (n : ℕ) → cells_size (replicate n (Byte 0)) ≡ n
zeros_size zero = refl
zeros_size (suc n) = omega (arith, zeros_size n)

text_size : (bytes : List ℕ) → cells_size (map (λ b. Byte b) bytes) ≡ length bytes
text_size [] = refl
text_size (b ∷ bytes) = omega (arith, text_size bytes)

-- ---- objects and literals

blank_size : (s : Sym) (constant : Bool) (bytes : ℕ) → size_of_datum (blank s constant bytes) ≡ bytes
blank_size s false bytes = omega arith
blank_size s true bytes = omega (arith, zeros_size bytes)

valued_size : (n : Numbers) (s : Sym) (constant : Bool) (bytes : ℕ) (cs : List Cell) → length cs ≤ bytes → first_pieces cs ≤ second_pieces cs → size_of_datum (valued n s constant bytes cs) ≤ bytes
valued_size n s constant bytes cs fits paired = go (list_all is_zero cs)
  where
    go : (b : Bool) → size_of_datum (if b then blank s constant bytes else filled s constant (with_cells n cs [])) ≤ bytes
    go true = omega (arith, blank_size s constant bytes)
    go false = omega (arith, filled_cells n cs [], fits, paired)

datum_size : (n : Numbers) (o : ObjectTy) (s : Sym) (bytes : ℕ) (init : Option (List Cell)) → IsFilled bytes init → size_of_datum (initialised n s (is_const o.ty) bytes init) ≤ bytes
datum_size n o s bytes None h = omega (arith, blank_size s (is_const o.ty) bytes)
datum_size n o s bytes (Some cs) h = valued_size n s (is_const o.ty) bytes cs h.0 h.1

placed_size : (fixed : Bool) (n : Numbers) (o : ObjectTy) (s : Sym) (bytes : ℕ) → IsFilled bytes o.init → size_of_datum (if fixed then blank s false bytes else initialised n s (is_const o.ty) bytes o.init) ≤ bytes
placed_size true n o s bytes h = omega (arith, blank_size s false bytes)
placed_size false n o s bytes h = datum_size n o s bytes o.init h

datums_sum : (ds es : List Datum) → datums_size (ds ++ es) ≡ datums_size ds + datums_size es
datums_sum [] es = omega arith
datums_sum (d ∷ ds) es = omega (arith, datums_sum ds es)

object_size : (types : TypesTy) (n : Numbers) (o : ObjectTy) (s : Sym) (ds : List Datum) → IsFilled (bytes_or types (type_in o.ty) 65536) o.init → datums_size (with_object types n o s ds) ≤ datums_size ds + placed_bytes types o
object_size types n o s ds h = go (is_placed o.class)
  where
    bytes : ℕ
    bytes = bytes_or types (type_in o.ty) 65536

    datum : Datum
    datum = object_datum n o s bytes

    go : (b : Bool) → datums_size (if b then ds ++ datum ∷ [] else ds) ≤ datums_size ds + (if b then bytes else 0)
    go true = omega (arith, datums_sum ds (datum ∷ []), placed_size (is_fixed o.class) n o s bytes h)
    go false = omega arith

objects_size : (types : TypesTy) (n : Numbers) (i : ℕ) (os : List ObjectTy) (ds : List Datum) → AreFilled types os → datums_size (with_objects types n i os ds) ≤ datums_size ds + objects_bytes types os
objects_size types n i [] ds h = omega arith
objects_size types n i (o ∷ os) ds h =
    omega (arith, objects_size types n (suc i) os (with_object types n o (object_symbol n i) ds) h.1, object_size types n o (object_symbol n i) ds h.0)

literals_size : (n : Numbers) (i : ℕ) (texts : List (List ℕ)) (ds : List Datum) → datums_size (with_literals n i texts ds) ≡ datums_size ds + literals_bytes texts
literals_size n i [] ds = omega arith
literals_size n i (bytes ∷ rest) ds =
    let datum : Datum = filled (literal_symbol n i) true (literal_cells bytes) in
    let size : cells_size (literal_cells bytes) ≡ cells_size (map (λ b. Byte b) bytes) + 1 = cells_sum (map (λ b. Byte b) bytes) (Byte 0 ∷ []) in
    omega (arith, literals_size n (suc i) rest (ds ++ datum ∷ []), datums_sum ds (datum ∷ []), size, text_size bytes)

pub data_size : (parts : Parts) → AreFilled (types_of parts.types) (map object_of parts.objects.items) → datums_size (data_of parts) ≤ data_bytes parts
data_size parts h =
    let n : Numbers = numbers_of parts in
    let objects : List Datum = with_objects (types_of parts.types) n 0 (map object_of parts.objects.items) [] in
    omega (arith, literals_size n 0 parts.literals.items objects, objects_size (types_of parts.types) n 0 (map object_of parts.objects.items) [] h)
