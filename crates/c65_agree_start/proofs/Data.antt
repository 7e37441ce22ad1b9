-- The symbols, sizes and kinds of data.
use Rattle.std.proofs.Common.{◌≡◌, ℕ, zero, suc, ◌+◌, ◌<◌, ◌≤◌, List, [], ◌∷◌, ◌++◌, Bool, true, false, Option, None, Some, refl, ap, ◌∙◌, arith}
use Rattle.std.specs.Prelude.{if◌then◌else◌, ◌==◌, length, replicate, map}
use Rattle.std.specs.List.{list_all}
use Rattle.c65_ctype.specs.Trees.{TypesTy, type_in}
use Rattle.c65_csem.specs.declared.items.Cell.{Cell}
use Rattle.c65_csem.specs.declared.items.Cell.TheVariants.{Byte, Piece}
use Rattle.c65_csem.specs.Trees.{ObjectTy}
use Rattle.c65_csem.specs.Places.{is_fixed}
use Rattle.c65_csem_plain.specs.Plain.{ArePaired}
use Rattle.c65_code.specs.declared.code.Datum.{Datum}
use Rattle.c65_code.specs.declared.code.DatumKind.TheVariants.{Const}
use Rattle.c65_code.specs.declared.code.DataCell.{DataCell}
use Rattle.c65_code.specs.declared.code.DataCell.TheVariants as placed
use Rattle.c65_code.specs.declared.line.Sym.{Sym}
use Rattle.c65_code.specs.Placement.{cells_size, size_of_datum, has_datum}
use Rattle.c65_genframe.specs.declared.symbols.Numbers.{Numbers}
use Rattle.c65_genframe.specs.Sizes.{bytes_or}
use Rattle.c65_genframe.specs.Symbols.{object_symbol, literal_symbol}
use Rattle.c65_gendata.specs.Cells.{symbol_of, offset_of, with_cell, with_cells, is_zero, literal_cells}
use Rattle.c65_gendata.specs.Data.{filled, blank, is_const, initialised, object_datum, is_placed, with_object, with_objects, with_literals}
use Rattle.c65_agree_numbers.proofs.Tests.{equal, unequal}

-- ---- symbols

pub value_symbol : (n : Numbers) (s : Sym) (c : Bool) (bytes : ℕ) (init : Option (List Cell)) → (initialised n s c bytes init).sym ≡ s
value_symbol n s c bytes init = of_init init
  where
    blank_symbol : (c : Bool) → (blank s c bytes).sym ≡ s
    blank_symbol true = refl
    blank_symbol false = refl

    of_value : (cells : List Cell) (all : Bool) → (if all then blank s c bytes else filled s c (with_cells n cells [])).sym ≡ s
    of_value cells true = blank_symbol c
    of_value cells false = refl

    of_init : (init : Option (List Cell)) → (initialised n s c bytes init).sym ≡ s
    of_init None = blank_symbol c
    of_init (Some cells) = of_value cells (list_all is_zero cells)

datum_symbol : (n : Numbers) (o : ObjectTy) (s : Sym) (bytes : ℕ) → (object_datum n o s bytes).sym ≡ s
datum_symbol n o s bytes = go (is_fixed o.class)
  where
    go : (fixed : Bool) → (if fixed then blank s false bytes else initialised n s (is_const o.ty) bytes o.init).sym ≡ s
    go true = refl
    go false = value_symbol n s (is_const o.ty) bytes o.init

none_in_both : (xs ys : List Datum) (f : ℕ) → has_datum xs f ≡ false → has_datum ys f ≡ false → has_datum (xs ++ ys) f ≡ false
none_in_both [] ys f h k = k
none_in_both (d ∷ xs) ys f h k = go (λ e. none_in_both xs ys f e k) (d.sym.0 == f) h
  where
    go : (has_datum xs f ≡ false → has_datum (xs ++ ys) f ≡ false) → (same : Bool) → (if same then true else has_datum xs f) ≡ false → (if same then true else has_datum (xs ++ ys) f) ≡ false
    go deep true e = cc
    go deep false e = deep e

none_in_one : (d : Datum) (f : ℕ) → d.sym.0 < f → has_datum (d ∷ []) f ≡ false
none_in_one d f lt = ap (λ (b : Bool). if b then true else false) (unequal d.sym.0 f (λ e. omega (arith, e, lt)))

literals_none : (n : Numbers) (i : ℕ) (texts : List (List ℕ)) (ds : List Datum) (f : ℕ) → n.literals + i + length texts ≤ f → has_datum ds f ≡ false → has_datum (with_literals n i texts ds) f ≡ false
literals_none n i [] ds f le h = h
literals_none n i (text ∷ texts) ds f le h =
    let d = filled (literal_symbol n i) true (literal_cells text) in
    literals_none n (suc i) texts (ds ++ d ∷ []) f (omega (arith, le)) (none_in_both ds (d ∷ []) f h (none_in_one d f (omega (arith, le))))

objects_none : (types : TypesTy) (n : Numbers) (i : ℕ) (os : List ObjectTy) (ds : List Datum) (f : ℕ) → i + length os ≤ f → has_datum ds f ≡ false → has_datum (with_objects types n i os ds) f ≡ false
objects_none types n i [] ds f le h = h
objects_none types n i (o ∷ os) ds f le h = objects_none types n (suc i) os (with_object types n o (object_symbol n i) ds) f (omega (arith, le)) (go (is_placed o.class))
  where
    d : Datum
    d = object_datum n o (object_symbol n i) (bytes_or types (type_in o.ty) 65536)

    number : d.sym.0 ≡ i
    number = ap (λ (s : Sym). s.0) (datum_symbol n o (object_symbol n i) (bytes_or types (type_in o.ty) 65536))

    go : (b : Bool) → has_datum (if b then ds ++ d ∷ [] else ds) f ≡ false
    go true = none_in_both ds (d ∷ []) f h (none_in_one d f (omega (arith, number, le)))
    go false = h

-- no datum has a symbol behind those of objects and literals
pub none_behind : (types : TypesTy) (n : Numbers) (os : List ObjectTy) (texts : List (List ℕ)) (f : ℕ) → n.literals ≡ length os → n.literals + length texts ≤ f → has_datum (with_literals n 0 texts (with_objects types n 0 os [])) f ≡ false
none_behind types n os texts f e le = literals_none n 0 texts (with_objects types n 0 os []) f (omega (arith, le)) (objects_none types n 0 os [] f (omega (arith, e, le)) refl)

-- ---- sizes

size_of_both : (xs ys : List DataCell) → cells_size (xs ++ ys) ≡ cells_size xs + cells_size ys
size_of_both [] ys = omega arith
size_of_both (x ∷ xs) ys = let h = size_of_both xs ys in omega (arith, h)

zeros_size : (n : ℕ) → cells_size (replicate n (placed.Byte 0)) ≡ n
zeros_size zero = refl
zeros_size (suc n) = let h = zeros_size n in omega (arith, h)

bytes_size : (text : List ℕ) → cells_size (map (λ b. placed.Byte b) text) ≡ length text
bytes_size [] = refl
bytes_size (b ∷ text) = let h = bytes_size text in omega (arith, h)

pub literal_size : (s : Sym) (text : List ℕ) → size_of_datum (filled s true (literal_cells text)) ≡ length text + 1
literal_size s text =
    let both = size_of_both (map (λ b. placed.Byte b) text) (placed.Byte 0 ∷ []) in
    omega (arith, both, bytes_size text)

-- an initial value has as many bytes as cells
cells_are : (n : Numbers) (cells : List Cell) (xs : List DataCell) → ArePaired cells → cells_size (with_cells n cells xs) ≡ cells_size xs + length cells
cells_are n [] xs p = omega arith
cells_are n (Byte v ∷ cs) xs p =
    let both = size_of_both xs (placed.Byte v ∷ []) in
    omega (arith, cells_are n cs (xs ++ placed.Byte v ∷ []) p, both)
cells_are n (Piece t o part ∷ []) xs p = absurd p
cells_are n (Piece t o part ∷ Byte v ∷ cs) xs p = absurd p
cells_are n (Piece t o part ∷ Piece u r second ∷ cs) xs p =
    let d : DataCell = placed.Address (symbol_of n t) (offset_of o) in
    let first : with_cell n (Piece t o part) xs ≡ xs ++ d ∷ [] = ap (λ (b : Bool). if b then xs ++ d ∷ [] else xs) (equal part 0 p.0) in
    let both : with_cell n (Piece u r second) (with_cell n (Piece t o part) xs) ≡ with_cell n (Piece t o part) xs =
    ap (λ (b : Bool). if b then with_cell n (Piece t o part) xs ++ placed.Address (symbol_of n u) (offset_of r) ∷ [] else with_cell n (Piece t o part) xs) (unequal second 0 (λ e. omega (arith, e, p.1))) in
    let size = size_of_both xs (d ∷ []) in
    ap (λ ys. cells_size (with_cells n cs ys)) (both ∙ first) ∙ cells_are n cs (xs ++ d ∷ []) p.4 ∙ omega (arith, size)

abbrev pub Fills : ℕ → Option (List Cell) → Type 0
Fills size None = Unit {0}
Fills size (Some cells) = (length cells ≡ size) × ArePaired cells

pub value_size : (n : Numbers) (s : Sym) (c : Bool) (size : ℕ) (init : Option (List Cell)) → Fills size init → size_of_datum (initialised n s c size init) ≡ size
value_size n s c size init fills = of_init init fills
  where
    blank_size : (c : Bool) → size_of_datum (blank s c size) ≡ size
    blank_size true = omega (arith, zeros_size size)
    blank_size false = omega arith

    of_value : (cells : List Cell) (all : Bool) → (length cells ≡ size) × ArePaired cells → size_of_datum (if all then blank s c size else filled s c (with_cells n cells [])) ≡ size
    of_value cells true h = blank_size c
    of_value cells false h = omega (arith, cells_are n cells [] h.1, h.0)

    of_init : (init : Option (List Cell)) → Fills size init → size_of_datum (initialised n s c size init) ≡ size
    of_init None h = blank_size c
    of_init (Some cells) h = of_value cells (list_all is_zero cells) h

-- ---- kinds

kind_by : (s : Sym) (c : Bool) (cells : List DataCell) → (filled s c cells).kind ≡ Const → c ≡ true
kind_by s true cells e = refl
kind_by s false cells e = cc

pub constant_kind : (n : Numbers) (s : Sym) (c : Bool) (size : ℕ) (init : Option (List Cell)) → (initialised n s c size init).kind ≡ Const → c ≡ true
constant_kind n s c size init e = of_init init e
  where
    blank_kind : (c : Bool) → (blank s c size).kind ≡ Const → c ≡ true
    blank_kind true e = refl
    blank_kind false e = cc

    of_value : (cells : List Cell) (all : Bool) → (if all then blank s c size else filled s c (with_cells n cells [])).kind ≡ Const → c ≡ true
    of_value cells true e = blank_kind c e
    of_value cells false e = kind_by s c (with_cells n cells []) e

    of_init : (init : Option (List Cell)) → (initialised n s c size init).kind ≡ Const → c ≡ true
    of_init None e = blank_kind c e
    of_init (Some cells) e = of_value cells (list_all is_zero cells) e
