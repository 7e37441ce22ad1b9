-- Each object with one place for the whole run, and each literal, has its datum.
use Rattle.std.proofs.Common.{◌≡◌, ℕ, zero, suc, ◌+◌, List, [], ◌∷◌, ◌++◌, Some, Bool, true, false, refl, sym, ap, subst, arith}
use Rattle.std.specs.Prelude.{slice_get, length, map, if◌then◌else◌}
use Rattle.c65_ctype.specs.Trees.{type_in, TypesTy}
use Rattle.c65_ctype.specs.Views.{types_of}
use Rattle.c65_csem.specs.declared.items.TObject.{TObject}
use Rattle.c65_csem.specs.Trees.{ObjectTy}
use Rattle.c65_csem.specs.Views.{object_of}
use Rattle.c65_code.specs.declared.code.Datum.{Datum}
use Rattle.c65_code.specs.declared.line.Sym.{Sym}
use Rattle.c65_genframe.specs.declared.symbols.Numbers.{Numbers}
use Rattle.c65_genframe.specs.Sizes.{bytes_or}
use Rattle.c65_genframe.specs.Symbols.{numbers_of, object_symbol, literal_symbol}
use Rattle.c65_gendata.specs.Cells.{literal_cells}
use Rattle.c65_gendata.specs.Data.{filled, is_placed, object_datum, with_object, with_objects, with_literals}
use Rattle.c65_agree_data.specs.Laws.{ObjectsHaveData, LiteralsHaveData}
use Rattle.c65_agree_data.proofs.Lists.{item_before, item_behind}

-- these data are among others
record Has (ds : List Datum) (d : Datum) : Type 0 where
  place : ℕ
  is : slice_get ds place ≡ Some d

has_before : (xs ys : List Datum) (d : Datum) → Has xs d → Has (xs ++ ys) d
has_before xs ys d h = record { place = h.place; is = item_before xs ys h.place d h.is }

has_last : (xs : List Datum) (d : Datum) → Has (xs ++ d ∷ []) d
has_last xs d = record { place = length xs + 0; is = item_behind xs (d ∷ []) 0 d refl }

-- ---- literals

literals_keep : (n : Numbers) (i : ℕ) (texts : List (List ℕ)) (ds : List Datum) (d : Datum) → Has ds d → Has (with_literals n i texts ds) d
literals_keep n i [] ds d h = h
literals_keep n i (text ∷ texts) ds d h = literals_keep n (suc i) texts (ds ++ filled (literal_symbol n i) true (literal_cells text) ∷ []) d (has_before ds (filled (literal_symbol n i) true (literal_cells text) ∷ []) d h)

has_literal : (n : Numbers) (i l : ℕ) (texts : List (List ℕ)) (ds : List Datum) (text : List ℕ) → slice_get texts l ≡ Some text → Has (with_literals n i texts ds) (filled (literal_symbol n (i + l)) true (literal_cells text))
has_literal n i l [] ds text e = cc
has_literal n i zero (first ∷ texts) ds text e =
    let same : first ≡ text = cc in
    let here : i ≡ i + 0 = omega arith in
    let d = filled (literal_symbol n i) true (literal_cells first) in
    subst (λ j. Has (with_literals n (suc i) texts (ds ++ d ∷ [])) (filled (literal_symbol n j) true (literal_cells text))) here
    (subst (λ x. Has (with_literals n (suc i) texts (ds ++ d ∷ [])) (filled (literal_symbol n i) true (literal_cells x))) same
    (literals_keep n (suc i) texts (ds ++ d ∷ []) d (has_last ds d)))
has_literal n i (suc l) (first ∷ texts) ds text e =
    let later : suc i + l ≡ i + suc l = omega arith in
    subst (λ j. Has (with_literals n i (first ∷ texts) ds) (filled (literal_symbol n j) true (literal_cells text))) later
    (has_literal n (suc i) l texts (ds ++ filled (literal_symbol n i) true (literal_cells first) ∷ []) text e)

-- ---- objects

object_keeps : (types : TypesTy) (n : Numbers) (o : ObjectTy) (sym : Sym) (ds : List Datum) (d : Datum) → Has ds d → Has (with_object types n o sym ds) d
object_keeps types n o sym ds d h = go (is_placed o.class)
  where
    go : (b : Bool) → Has (if b then ds ++ object_datum n o sym (bytes_or types (type_in o.ty) 65536) ∷ [] else ds) d
    go true = has_before ds (object_datum n o sym (bytes_or types (type_in o.ty) 65536) ∷ []) d h
    go false = h

objects_keep : (types : TypesTy) (n : Numbers) (i : ℕ) (os : List ObjectTy) (ds : List Datum) (d : Datum) → Has ds d → Has (with_objects types n i os ds) d
objects_keep types n i [] ds d h = h
objects_keep types n i (o ∷ os) ds d h = objects_keep types n (suc i) os (with_object types n o (object_symbol n i) ds) d (object_keeps types n o (object_symbol n i) ds d h)

has_object : (types : TypesTy) (n : Numbers) (i k : ℕ) (os : List ObjectTy) (ds : List Datum) (o : ObjectTy) → slice_get os k ≡ Some o → is_placed o.class ≡ true
    → Has (with_objects types n i os ds) (object_datum n o (object_symbol n (i + k)) (bytes_or types (type_in o.ty) 65536))
has_object types n i k [] ds o e p = cc
has_object types n i zero (first ∷ os) ds o e p =
    let same : first ≡ o = cc in
    let here : i ≡ i + 0 = omega arith in
    let d = object_datum n o (object_symbol n i) (bytes_or types (type_in o.ty) 65536) in
    let added : with_object types n o (object_symbol n i) ds ≡ ds ++ d ∷ [] = ap (λ b. if b then ds ++ d ∷ [] else ds) p in
    subst (λ j. Has (with_objects types n i (first ∷ os) ds) (object_datum n o (object_symbol n j) (bytes_or types (type_in o.ty) 65536))) here
    (objects_keep types n (suc i) os (with_object types n first (object_symbol n i) ds) d
    (subst (λ x. Has (with_object types n x (object_symbol n i) ds) d) (sym same) (subst (λ xs. Has xs d) (sym added) (has_last ds d))))
has_object types n i (suc k) (first ∷ os) ds o e p =
    let later : suc i + k ≡ i + suc k = omega arith in
    subst (λ j. Has (with_objects types n i (first ∷ os) ds) (object_datum n o (object_symbol n j) (bytes_or types (type_in o.ty) 65536))) later
    (has_object types n (suc i) k os (with_object types n first (object_symbol n i) ds) o e p)

map_item : (xs : List TObject) (k : ℕ) (x : TObject) → slice_get xs k ≡ Some x → slice_get (map object_of xs) k ≡ Some (object_of x)
map_item [] k x e = cc
map_item (y ∷ xs) zero x e = let f : y ≡ x = cc in ap (λ z. Some (object_of z)) f
map_item (y ∷ xs) (suc k) x e = map_item xs k x e

pub objects_have_data : ObjectsHaveData
objects_have_data parts i o e p =
    let n = numbers_of parts in
    let types = types_of parts.types in
    let d = object_datum n (object_of o) (object_symbol n i) (bytes_or types (type_in (object_of o).ty) 65536) in
    let os = map object_of parts.objects.items in
    let first : Has (with_objects types n 0 os []) (object_datum n (object_of o) (object_symbol n (0 + i)) (bytes_or types (type_in (object_of o).ty) 65536)) = has_object types n 0 i os [] (object_of o) (map_item parts.objects.items i o e) p in
    let start : 0 + i ≡ i = omega arith in
    let among : Has (with_objects types n 0 os []) d = subst (λ j. Has (with_objects types n 0 os []) (object_datum n (object_of o) (object_symbol n j) (bytes_or types (type_in (object_of o).ty) 65536))) start first in
    let all = literals_keep n 0 parts.literals.items (with_objects types n 0 os []) d among in
    (all.place, all.is)

pub literals_have_data : LiteralsHaveData
literals_have_data parts l text e =
    let n = numbers_of parts in
    let before = with_objects (types_of parts.types) n 0 (map object_of parts.objects.items) [] in
    let start : 0 + l ≡ l = omega arith in
    let all : Has (with_literals n 0 parts.literals.items before) (filled (literal_symbol n l) true (literal_cells text)) =
    subst (λ j. Has (with_literals n 0 parts.literals.items before) (filled (literal_symbol n j) true (literal_cells text))) start (has_literal n 0 l parts.literals.items before text e) in
    (all.place, all.is)
