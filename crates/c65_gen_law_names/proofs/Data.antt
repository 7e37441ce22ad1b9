-- The data of a program: each object with one place for the whole run and each literal has its datum, and what cells name is known.
use Rattle.std.proofs.Common.{◌≡◌, ℕ, zero, suc, ◌+◌, ◌==◌, Bool, true, false, Option, Some, None, List, [], ◌∷◌, ◌++◌, slice_get, refl, sym, ap, ◌∙◌, subst, arith}
use Rattle.std.specs.Prelude.{if◌then◌else◌, map, replicate}
use Rattle.std.specs.List.{list_all}
use Rattle.std.proofs.lemmas.Bool.Decides.{Decides-eqb}
use Rattle.c65_ctype.specs.Trees.{type_in, TypesTy}
use Rattle.c65_ctype.specs.Views.{types_of}
use Rattle.c65_csem.specs.declared.items.Cell.{Cell}
use Rattle.c65_csem.specs.declared.items.Cell.TheVariants as cells
use Rattle.c65_csem.specs.declared.items.Parts.{Parts}
use Rattle.c65_csem.specs.Trees.{ObjectTy}
use Rattle.c65_csem.specs.Places.{is_fixed}
use Rattle.c65_csem.specs.Views.{object_of}
use Rattle.c65_code.specs.declared.code.Datum.{Datum}
use Rattle.c65_code.specs.declared.code.DataCell.{DataCell}
use Rattle.c65_code.specs.declared.code.DataCell.TheVariants.{Byte, Address}
use Rattle.c65_code.specs.declared.line.Sym.{Sym}
use Rattle.c65_code.specs.Placement.{has_datum}
use Rattle.c65_genframe.specs.declared.symbols.Numbers.{Numbers}
use Rattle.c65_genframe.specs.Sizes.{bytes_or}
use Rattle.c65_genframe.specs.Symbols.{numbers_of, object_symbol, literal_symbol}
use Rattle.c65_gendata.specs.Cells.{symbol_of, offset_of, with_cell, with_cells, is_zero, literal_cells}
use Rattle.c65_gendata.specs.Data.{is_const, filled, blank, initialised, object_datum, is_placed, with_object, with_objects, with_literals, data_of}
use Rattle.c65_gen_law_names.proofs.Lists.{Every, every_append}

-- ---- which symbols have data

datum_before : (xs ys : List Datum) (k : ℕ) → has_datum xs k ≡ true → has_datum (xs ++ ys) k ≡ true
datum_before [] ys k h = absurd cc
datum_before (x ∷ xs) ys k h = by (x.sym.0 == k) h (λ e. datum_before xs ys k e)
  where
    by : (b : Bool) → (if b then true else has_datum xs k) ≡ true → (has_datum xs k ≡ true → has_datum (xs ++ ys) k ≡ true) → (if b then true else has_datum (xs ++ ys) k) ≡ true
    by true e rest = refl
    by false e rest = rest e

datum_last : (xs : List Datum) (d : Datum) → has_datum (xs ++ d ∷ []) d.sym.0 ≡ true
datum_last [] d = ap (λ (b : Bool). if b then true else false) ((Decides-eqb d.sym.0 d.sym.0).1 refl)
datum_last (x ∷ xs) d = by (x.sym.0 == d.sym.0) (datum_last xs d)
  where
    by : (b : Bool) → has_datum (xs ++ d ∷ []) d.sym.0 ≡ true → (if b then true else has_datum (xs ++ d ∷ []) d.sym.0) ≡ true
    by true e = refl
    by false e = e

pub datum_at : (ds : List Datum) (i k : ℕ) (d : Datum) → slice_get ds i ≡ Some d → d.sym.0 ≡ k → has_datum ds k ≡ true
datum_at [] i k d e f = absurd cc
datum_at (x ∷ ds) zero k d e f = let same : x ≡ d = cc in ap (λ (b : Bool). if b then true else has_datum ds k) ((Decides-eqb x.sym.0 k).1 (ap (λ (z : Datum). z.sym.0) same ∙ f))
datum_at (x ∷ ds) (suc i) k d e f = by (x.sym.0 == k) (datum_at ds i k d e f)
  where
    by : (b : Bool) → has_datum ds k ≡ true → (if b then true else has_datum ds k) ≡ true
    by true h = refl
    by false h = h

-- ---- what a datum is of

blank_of : (s : Sym) (constant : Bool) (bytes : ℕ) → (blank s constant bytes).sym ≡ s
blank_of s true bytes = refl
blank_of s false bytes = refl

initialised_of : (n : Numbers) (s : Sym) (constant : Bool) (bytes : ℕ) (init : Option (List Cell)) → (initialised n s constant bytes init).sym ≡ s
initialised_of n s constant bytes None = blank_of s constant bytes
initialised_of n s constant bytes (Some cs) = by (list_all is_zero cs)
  where
    by : (b : Bool) → (if b then blank s constant bytes else filled s constant (with_cells n cs [])).sym ≡ s
    by true = blank_of s constant bytes
    by false = refl

object_datum_of : (n : Numbers) (o : ObjectTy) (s : Sym) (bytes : ℕ) → (object_datum n o s bytes).sym ≡ s
object_datum_of n o s bytes = by (is_fixed o.class)
  where
    by : (b : Bool) → (if b then blank s false bytes else initialised n s (is_const o.ty) bytes o.init).sym ≡ s
    by true = blank_of s false bytes
    by false = initialised_of n s (is_const o.ty) bytes o.init

-- ---- objects and literals have data

module _ (types : TypesTy) (n : Numbers) where
  object_keeps : (o : ObjectTy) (s : Sym) (ds : List Datum) (k : ℕ) → has_datum ds k ≡ true → has_datum (with_object types n o s ds) k ≡ true
  object_keeps o s ds k h = by (is_placed o.class)
    where
      by : (b : Bool) → has_datum (if b then ds ++ object_datum n o s (bytes_or types (type_in o.ty) 65536) ∷ [] else ds) k ≡ true
      by true = datum_before ds (object_datum n o s (bytes_or types (type_in o.ty) 65536) ∷ []) k h
      by false = h

  object_has : (o : ObjectTy) (s : Sym) (ds : List Datum) → is_placed o.class ≡ true → has_datum (with_object types n o s ds) s.0 ≡ true
  object_has o s ds placed =
      let d : Datum = object_datum n o s (bytes_or types (type_in o.ty) 65536) in
      ap (λ (b : Bool). has_datum (if b then ds ++ d ∷ [] else ds) s.0) placed ∙ ap (λ (z : Sym). has_datum (ds ++ d ∷ []) z.0) (sym (object_datum_of n o s (bytes_or types (type_in o.ty) 65536))) ∙ datum_last ds d

  objects_keep : (i : ℕ) (os : List ObjectTy) (ds : List Datum) (k : ℕ) → has_datum ds k ≡ true → has_datum (with_objects types n i os ds) k ≡ true
  objects_keep i [] ds k h = h
  objects_keep i (o ∷ os) ds k h = objects_keep (suc i) os (with_object types n o (object_symbol n i) ds) k (object_keeps o (object_symbol n i) ds k h)

  objects_have : (i : ℕ) (os : List ObjectTy) (ds : List Datum) (k : ℕ) (o : ObjectTy) → slice_get os k ≡ Some o → is_placed o.class ≡ true → has_datum (with_objects types n i os ds) (i + k) ≡ true
  objects_have i [] ds k o e placed = absurd cc
  objects_have i (x ∷ os) ds zero o e placed =
      let same : x ≡ o = cc in
      let here : i ≡ i + 0 = omega arith in
      subst (λ (j : ℕ). has_datum (with_objects types n i (x ∷ os) ds) j ≡ true) here
      (objects_keep (suc i) os (with_object types n x (object_symbol n i) ds) i (object_has x (object_symbol n i) ds (ap (λ (z : ObjectTy). is_placed z.class) same ∙ placed)))
  objects_have i (x ∷ os) ds (suc k) o e placed =
      let later : suc i + k ≡ i + suc k = omega arith in
      subst (λ (j : ℕ). has_datum (with_objects types n i (x ∷ os) ds) j ≡ true) later (objects_have (suc i) os (with_object types n x (object_symbol n i) ds) k o e placed)

literals_keep : (n : Numbers) (i : ℕ) (ls : List (List ℕ)) (ds : List Datum) (k : ℕ) → has_datum ds k ≡ true → has_datum (with_literals n i ls ds) k ≡ true
literals_keep n i [] ds k h = h
literals_keep n i (l ∷ ls) ds k h = literals_keep n (suc i) ls (ds ++ filled (literal_symbol n i) true (literal_cells l) ∷ []) k (datum_before ds (filled (literal_symbol n i) true (literal_cells l) ∷ []) k h)

literals_have : (n : Numbers) (i : ℕ) (ls : List (List ℕ)) (ds : List Datum) (k : ℕ) (l : List ℕ) → slice_get ls k ≡ Some l → has_datum (with_literals n i ls ds) (literal_symbol n (i + k)).0 ≡ true
literals_have n i [] ds k l e = absurd cc
literals_have n i (x ∷ ls) ds zero l e =
    let here : i ≡ i + 0 = omega arith in
    let d : Datum = filled (literal_symbol n i) true (literal_cells x) in
    subst (λ (j : ℕ). has_datum (with_literals n i (x ∷ ls) ds) (literal_symbol n j).0 ≡ true) here (literals_keep n (suc i) ls (ds ++ d ∷ []) (literal_symbol n i).0 (datum_last ds d))
literals_have n i (x ∷ ls) ds (suc k) l e =
    let later : suc i + k ≡ i + suc k = omega arith in
    subst (λ (j : ℕ). has_datum (with_literals n i (x ∷ ls) ds) (literal_symbol n j).0 ≡ true) later (literals_have n (suc i) ls (ds ++ filled (literal_symbol n i) true (literal_cells x) ∷ []) k l e)

pub objects_have_data : (parts : Parts) (i : ℕ) (o : ObjectTy) → slice_get (map object_of parts.objects.items) i ≡ Some o → is_placed o.class ≡ true → has_datum (data_of parts) (object_symbol (numbers_of parts) i).0 ≡ true
objects_have_data parts i o e placed =
    let first : 0 + i ≡ i = omega arith in
    let os : List ObjectTy = map object_of parts.objects.items in
    let ds : List Datum = with_objects (types_of parts.types) (numbers_of parts) 0 os [] in
    literals_keep (numbers_of parts) 0 parts.literals.items ds i (subst (λ (j : ℕ). has_datum ds j ≡ true) first (objects_have (types_of parts.types) (numbers_of parts) 0 os [] i o e placed))

pub literals_have_data : (parts : Parts) (l : ℕ) (text : List ℕ) → slice_get parts.literals.items l ≡ Some text → has_datum (data_of parts) (literal_symbol (numbers_of parts) l).0 ≡ true
literals_have_data parts l text e =
    let first : 0 + l ≡ l = omega arith in
    subst (λ (j : ℕ). has_datum (data_of parts) (literal_symbol (numbers_of parts) j).0 ≡ true) first (literals_have (numbers_of parts) 0 parts.literals.items _ l text e)

-- ---- what cells name

module _ (P : ℕ → Type 0) where
  abbrev pub KnownCell : DataCell → Type 0
  KnownCell (Byte b) = Unit {0}
  KnownCell (Address s offset) = P s.0

  abbrev pub KnownDatum : Datum → Type 0
  KnownDatum d = Every KnownCell d.cells

  abbrev pub KnownPiece : Numbers → Cell → Type 0
  KnownPiece n (cells.Byte b) = Unit {0}
  KnownPiece n (cells.Piece t o part) = P (symbol_of n t).0

  abbrev pub KnownInit : Numbers → Option (List Cell) → Type 0
  KnownInit n None = Unit {0}
  KnownInit n (Some cs) = Every (KnownPiece n) cs

  cell_known : (n : Numbers) (c : Cell) (xs : List DataCell) → KnownPiece n c → Every KnownCell xs → Every KnownCell (with_cell n c xs)
  cell_known n (cells.Byte b) xs p all = every_append KnownCell xs (Byte b ∷ []) all (tt, tt)
  cell_known n (cells.Piece t o part) xs p all = by (part == 0)
    where
      by : (b : Bool) → Every KnownCell (if b then xs ++ Address (symbol_of n t) (offset_of o) ∷ [] else xs)
      by true = every_append KnownCell xs (Address (symbol_of n t) (offset_of o) ∷ []) all (p, tt)
      by false = all

  cells_known : (n : Numbers) (cs : List Cell) (xs : List DataCell) → Every (KnownPiece n) cs → Every KnownCell xs → Every KnownCell (with_cells n cs xs)
  cells_known n [] xs h all = all
  cells_known n (c ∷ cs) xs h all = cells_known n cs (with_cell n c xs) h.1 (cell_known n c xs h.0 all)

  zeros_known : (k : ℕ) → Every KnownCell (replicate k (Byte 0))
  zeros_known zero = tt
  zeros_known (suc k) = (tt, zeros_known k)

  blank_known : (s : Sym) (constant : Bool) (bytes : ℕ) → KnownDatum (blank s constant bytes)
  blank_known s false bytes = tt
  blank_known s true bytes = zeros_known bytes

  initialised_known : (n : Numbers) (s : Sym) (constant : Bool) (bytes : ℕ) (init : Option (List Cell)) → KnownInit n init → KnownDatum (initialised n s constant bytes init)
  initialised_known n s constant bytes None h = blank_known s constant bytes
  initialised_known n s constant bytes (Some cs) h = by (list_all is_zero cs)
    where
      by : (b : Bool) → KnownDatum (if b then blank s constant bytes else filled s constant (with_cells n cs []))
      by true = blank_known s constant bytes
      by false = cells_known n cs [] h tt

  object_datum_known : (n : Numbers) (o : ObjectTy) (s : Sym) (bytes : ℕ) → KnownInit n o.init → KnownDatum (object_datum n o s bytes)
  object_datum_known n o s bytes h = by (is_fixed o.class)
    where
      by : (b : Bool) → KnownDatum (if b then blank s false bytes else initialised n s (is_const o.ty) bytes o.init)
      by true = blank_known s false bytes
      by false = initialised_known n s (is_const o.ty) bytes o.init h

  object_known : (types : TypesTy) (n : Numbers) (o : ObjectTy) (s : Sym) (ds : List Datum) → KnownInit n o.init → Every KnownDatum ds → Every KnownDatum (with_object types n o s ds)
  object_known types n o s ds h all = by (is_placed o.class)
    where
      by : (b : Bool) → Every KnownDatum (if b then ds ++ object_datum n o s (bytes_or types (type_in o.ty) 65536) ∷ [] else ds)
      by true = every_append KnownDatum ds (object_datum n o s (bytes_or types (type_in o.ty) 65536) ∷ []) all (object_datum_known n o s (bytes_or types (type_in o.ty) 65536) h, tt)
      by false = all

  objects_known : (types : TypesTy) (n : Numbers) (i : ℕ) (os : List ObjectTy) (ds : List Datum) → Every (λ o. KnownInit n o.init) os → Every KnownDatum ds → Every KnownDatum (with_objects types n i os ds)
  objects_known types n i [] ds h all = all
  objects_known types n i (o ∷ os) ds h all = objects_known types n (suc i) os (with_object types n o (object_symbol n i) ds) h.1 (object_known types n o (object_symbol n i) ds h.0 all)

  bytes_known : (bytes : List ℕ) → Every KnownCell (map (λ b. Byte b) bytes)
  bytes_known [] = tt
  bytes_known (b ∷ bytes) = (tt, bytes_known bytes)

  literals_known : (n : Numbers) (i : ℕ) (ls : List (List ℕ)) (ds : List Datum) → Every KnownDatum ds → Every KnownDatum (with_literals n i ls ds)
  literals_known n i [] ds all = all
  literals_known n i (l ∷ ls) ds all =
      let d : Datum = filled (literal_symbol n i) true (literal_cells l) in
      let own : KnownDatum d = every_append KnownCell (map (λ b. Byte b) l) (Byte 0 ∷ []) (bytes_known l) (tt, tt) in
      literals_known n (suc i) ls (ds ++ d ∷ []) (every_append KnownDatum ds (d ∷ []) all (own, tt))

  pub data_known : (parts : Parts) → Every (λ o. KnownInit (numbers_of parts) o.init) (map object_of parts.objects.items) → Every KnownDatum (data_of parts)
  data_known parts h = literals_known (numbers_of parts) 0 parts.literals.items _ (objects_known (types_of parts.types) (numbers_of parts) 0 (map object_of parts.objects.items) [] h tt)
