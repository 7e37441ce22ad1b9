-- The data of a program.
use Rattle.std.proofs.Common.{◌≡◌, ℕ, ℤ, pos, negsuc, zero, suc, ◌+◌, ◌*◌, ◌<◌, ◌≤◌, ◌^◌, ◌==◌, Bool, true, false, IsTrue, Option, None, Some, List, [], ◌∷◌, ◌++◌, length, map, refl, sym, subst, arith}
use Rattle.std.specs.Prelude.{All, if◌then◌else◌, nat_lt, unwrap_or, option_and_then, replicate}
use Rattle.std.specs.List.{list_all}
use Rattle.std.proofs.lemmas.Bool.{ltb-false}
use Rattle.std.proofs.lemmas.List.{length-append, length-map, length-replicate}
use Rattle.c65_ints.specs.declared.types.IntType.{IntType}
use Rattle.c65_ints.specs.declared.types.IntType.TheVariants as ints
use Rattle.c65_ctype.specs.Trees.{Ty, void, int, pointer, array, tag, function, type_in, TypesTy, LayoutTy}
use Rattle.c65_ctype.specs.Sizes.{bytes_of}
use Rattle.c65_ctype.specs.Tables.{layout_at}
use Rattle.c65_ctype.specs.Views.{types_of}
use Rattle.c65_csem.specs.declared.items.Cell.{Cell}
use Rattle.c65_csem.specs.declared.items.Cell.TheVariants as cells
use Rattle.c65_csem.specs.declared.items.Target.{Target}
use Rattle.c65_csem.specs.declared.items.Target.TheVariants as targets
use Rattle.c65_csem.specs.declared.items.Parts.{Parts}
use Rattle.c65_csem.specs.Trees.{ObjectTy, UnitTy}
use Rattle.c65_csem.specs.Units.{NamesTarget, IsCell, IsInit, IsObject}
use Rattle.c65_csem.specs.Views.{object_of, unit_of}
use Rattle.c65_code.specs.declared.line.Sym.{Sym}
use Rattle.c65_code.specs.declared.code.DataCell.{DataCell}
use Rattle.c65_code.specs.declared.code.DataCell.TheVariants.{Byte, Address}
use Rattle.c65_code.specs.declared.code.Datum.{Datum}
use Rattle.c65_code.specs.declared.code.DatumKind.TheVariants.{Data, Const}
use Rattle.c65_code.specs.Writable.{IsShaped}
use Rattle.c65_genframe.specs.declared.symbols.Numbers.{Numbers}
use Rattle.c65_genframe.specs.Symbols.{numbers_of, object_symbol, literal_symbol}
use Rattle.c65_genframe.specs.Sizes.{limited, elements, qualified_bytes_at, bytes_or}
use Rattle.c65_gendata.specs.Cells.{symbol_of, offset_of, with_cell, with_cells, is_zero, literal_cells}
use Rattle.c65_gendata.specs.Data.{is_const, filled, blank, initialised, object_datum, is_placed, with_object, with_objects, with_literals, data_of}
use Rattle.c65_asm_law.specs.Items.{IsByte, BeginsWhole, IsStored, AreBytes, HasData}
use Rattle.c65_asm_law.proofs.Lists.{Every, every_append, every_all, Rises, rises_wider, rises_more}
use Rattle.c65_asm_law.proofs.Known.{KnowsBy}
use Rattle.c65_csem.specs.Places.{is_fixed}

abbrev pub WellCell : ℕ → DataCell → Type 0
WellCell n (Byte v) = v < 2 ^ 8
WellCell n (Address sym offset) = (sym.0 < n) × (offset < 2 ^ 16)

pub record WellDatum (n : ℕ) (d : Datum) : Type 0 where
  pub known : d.sym.0 < n
  pub cells : Every (WellCell n) d.cells
  pub shaped : IsShaped d.kind (length d.cells) d.zeros
  pub zeros : d.zeros < 2 ^ 32

-- ---- cells

target_known : (n : ℕ) (numbers : Numbers) (u : UnitTy) (t : Target) → KnowsBy numbers u n → NamesTarget u t → (symbol_of numbers t).0 < n
target_known n numbers u (targets.Object i) knows h = knows.objects i h
target_known n numbers u (targets.Literal i) knows h = knows.literals i h
target_known n numbers u (targets.Func i) knows h = knows.funcs i h

offset_few : (o : ℤ) → offset_of o < 2 ^ 16
offset_few (pos k) = omega arith
offset_few (negsuc k) = omega arith

piece_well : (n : ℕ) (b : Bool) (xs : List DataCell) (cell : DataCell) → WellCell n cell → Every (WellCell n) xs → Every (WellCell n) (if b then xs ++ cell ∷ [] else xs)
piece_well n true xs cell well h = every_append (WellCell n) xs (cell ∷ []) h (well, tt)
piece_well n false xs cell well h = h

cell_well : (n : ℕ) (numbers : Numbers) (u : UnitTy) (c : Cell) (xs : List DataCell) → KnowsBy numbers u n → IsCell u c → IsByte c → Every (WellCell n) xs → Every (WellCell n) (with_cell numbers c xs)
cell_well n numbers u (cells.Byte b) xs knows typed byte h = every_append (WellCell n) xs (Byte b ∷ []) h (byte, tt)
cell_well n numbers u (cells.Piece t o part) xs knows typed byte h = piece_well n (part == 0) xs (Address (symbol_of numbers t) (offset_of o)) (target_known n numbers u t knows typed.0, offset_few o) h

cells_well : (n : ℕ) (numbers : Numbers) (u : UnitTy) (cs : List Cell) (xs : List DataCell) → KnowsBy numbers u n → Every (IsCell u) cs → Every IsByte cs → Every (WellCell n) xs → Every (WellCell n) (with_cells numbers cs xs)
cells_well n numbers u [] xs knows typed bytes h = h
cells_well n numbers u (c ∷ cs) xs knows typed bytes h = cells_well n numbers u cs (with_cell numbers c xs) knows typed.1 bytes.1 (cell_well n numbers u c xs knows typed.0 bytes.0 h)

piece_long : (b : Bool) (xs : List DataCell) (cell : DataCell) → length xs ≤ length (if b then xs ++ cell ∷ [] else xs)
piece_long true xs cell = omega (arith, length-append xs (cell ∷ []))
piece_long false xs cell = omega arith

cell_long : (numbers : Numbers) (c : Cell) (xs : List DataCell) → length xs ≤ length (with_cell numbers c xs)
cell_long numbers (cells.Byte b) xs = omega (arith, length-append xs (Byte b ∷ []))
cell_long numbers (cells.Piece t o part) xs = piece_long (part == 0) xs (Address (symbol_of numbers t) (offset_of o))

cells_long : (numbers : Numbers) (cs : List Cell) (xs : List DataCell) → length xs ≤ length (with_cells numbers cs xs)
cells_long numbers [] xs = omega arith
cells_long numbers (c ∷ cs) xs = omega (arith, cell_long numbers c xs, cells_long numbers cs (with_cell numbers c xs))

first_long : (numbers : Numbers) (c : Cell) (cs : List Cell) → BeginsWhole (c ∷ cs) → 1 ≤ length (with_cell numbers c [])
first_long numbers (cells.Byte b) cs whole = omega arith
first_long numbers (cells.Piece t o part) cs whole = subst (λ (k : ℕ). 1 ≤ length (if k == 0 then Address (symbol_of numbers t) (offset_of o) ∷ [] else [])) (sym whole) (omega arith)

-- ---- sizes

int_few : (k : IntType) → bytes_of k ≤ 65536
int_few ints.SChar = omega arith
int_few ints.UChar = omega arith
int_few ints.Short = omega arith
int_few ints.UShort = omega arith
int_few ints.Int = omega arith
int_few ints.UInt = omega arith
int_few ints.Long = omega arith
int_few ints.ULong = omega arith

limited_when : (m : ℕ) (b : Bool) → nat_lt 65535 m ≡ b → unwrap_or (if b then None else Some m) 65536 ≤ 65536
limited_when m true h = omega arith
limited_when m false h = omega (arith, ltb-false 65535 m h)

limited_few : (m : ℕ) → unwrap_or (limited m) 65536 ≤ 65536
limited_few m = limited_when m (nat_lt 65535 m) refl

elements_few : (o : Option ℕ) (k : ℕ) → unwrap_or (elements o k) 65536 ≤ 65536
elements_few None k = omega arith
elements_few (Some size) k = limited_few (size * k)

layout_few : (o : Option LayoutTy) → unwrap_or (option_and_then (λ l. limited l.size) o) 65536 ≤ 65536
layout_few None = omega arith
layout_few (Some l) = limited_few l.size

pub bytes_few : (types : TypesTy) (t : Ty) → bytes_or types t 65536 ≤ 65536
bytes_few types void = omega arith
bytes_few types (int k) = int_few k
bytes_few types (pointer q) = omega arith
bytes_few types (array q None) = omega arith
bytes_few types (array q (Some k)) = elements_few (qualified_bytes_at types q) k
bytes_few types (tag k) = layout_few (layout_at types k)
bytes_few types (function f) = omega arith

-- ---- objects

shaped_by : (constant : Bool) (k : ℕ) → 1 ≤ k → IsShaped (if constant then Const else Data) k 0
shaped_by true k h = (h, refl)
shaped_by false k h = (h, refl)

filled_well : (n : ℕ) (s : Sym) (constant : Bool) (cs : List DataCell) → s.0 < n → Every (WellCell n) cs → 1 ≤ length cs → WellDatum n (filled s constant cs)
filled_well n s constant cs known well some = record { known = known; cells = well; shaped = shaped_by constant (length cs) some; zeros = omega arith }

replicated : (n k : ℕ) → Every (WellCell n) (replicate k (Byte 0))
replicated n zero = tt
replicated n (suc k) = (omega arith, replicated n k)

blank_well : (n : ℕ) (s : Sym) (constant : Bool) (bytes : ℕ) → s.0 < n → 1 ≤ bytes → bytes ≤ 65536 → WellDatum n (blank s constant bytes)
blank_well n s false bytes known some few = record { known = known; cells = tt; shaped = refl; zeros = omega (arith, few) }
blank_well n s true bytes known some few = filled_well n s true (replicate bytes (Byte 0)) known (replicated n bytes) (omega (arith, some, length-replicate bytes (Byte 0)))

valued_when : (n : ℕ) (numbers : Numbers) (u : UnitTy) (s : Sym) (constant : Bool) (bytes : ℕ) (cs : List Cell) (b : Bool) → list_all is_zero cs ≡ b → KnowsBy numbers u n → s.0 < n → 1 ≤ bytes → bytes ≤ 65536 → Every (IsCell u) cs → Every IsByte cs → BeginsWhole cs
    → WellDatum n (if b then blank s constant bytes else filled s constant (with_cells numbers cs []))
valued_when n numbers u s constant bytes cs true is knows known some few typed byte whole = blank_well n s constant bytes known some few
valued_when n numbers u s constant bytes [] false is knows known some few typed byte whole = absurd cc
valued_when n numbers u s constant bytes (c ∷ cs) false is knows known some few typed byte whole =
    filled_well n s constant (with_cells numbers (c ∷ cs) []) known (cells_well n numbers u (c ∷ cs) [] knows typed byte tt) (omega (arith, first_long numbers c cs whole, cells_long numbers cs (with_cell numbers c [])))

datum_by : (n : ℕ) (numbers : Numbers) (u : UnitTy) (s : Sym) (constant : Bool) (bytes : ℕ) (init : Option (List Cell)) → KnowsBy numbers u n → s.0 < n → 1 ≤ bytes → bytes ≤ 65536
    → ((cs : List Cell) → init ≡ Some cs → All (IsCell u) cs × All IsByte cs × BeginsWhole cs) → WellDatum n (initialised numbers s constant bytes init)
datum_by n numbers u s constant bytes None knows known some few inits = blank_well n s constant bytes known some few
datum_by n numbers u s constant bytes (Some cs) knows known some few inits =
    let all = inits cs refl in
    valued_when n numbers u s constant bytes cs (list_all is_zero cs) refl knows known some few (every_all (IsCell u) cs all.0) (every_all IsByte cs all.1) all.2

init_cells : (u : UnitTy) (o : ObjectTy) (init : Option (List Cell)) (cs : List Cell) → IsInit u o init → init ≡ Some cs → All (IsCell u) cs
init_cells u o None cs typed is = absurd cc
init_cells u o (Some ds) cs typed is = let same : ds ≡ cs = cc in subst (λ (z : List Cell). All (IsCell u) z) same typed.1

datum_when : (n : ℕ) (numbers : Numbers) (parts : Parts) (o : ObjectTy) (s : Sym) (fixed : Bool) → KnowsBy numbers (unit_of parts) n → s.0 < n → IsObject (unit_of parts) o → IsStored parts o → IsTrue (is_placed o.class)
    → WellDatum n (if fixed then blank s false (bytes_or (types_of parts.types) (type_in o.ty) 65536) else initialised numbers s (is_const o.ty) (bytes_or (types_of parts.types) (type_in o.ty) 65536) o.init)
datum_when n numbers parts o s true knows known typed stored lasts = blank_well n s false (bytes_or (types_of parts.types) (type_in o.ty) 65536) known (stored.size lasts) (bytes_few (types_of parts.types) (type_in o.ty))
datum_when n numbers parts o s false knows known typed stored lasts =
    datum_by n numbers (unit_of parts) s (is_const o.ty) (bytes_or (types_of parts.types) (type_in o.ty) 65536) o.init knows known (stored.size lasts) (bytes_few (types_of parts.types) (type_in o.ty)) (λ cs is. (init_cells (unit_of parts) o o.init cs typed.init is, stored.bytes cs is, stored.whole cs is))

object_datum_well : (n : ℕ) (numbers : Numbers) (parts : Parts) (o : ObjectTy) (s : Sym) → KnowsBy numbers (unit_of parts) n → s.0 < n → IsObject (unit_of parts) o → IsStored parts o → IsTrue (is_placed o.class)
    → WellDatum n (object_datum numbers o s (bytes_or (types_of parts.types) (type_in o.ty) 65536))
object_datum_well n numbers parts o s knows known typed stored lasts = datum_when n numbers parts o s (is_fixed o.class) knows known typed stored lasts

abbrev pub key : Datum → ℕ
key d = d.sym.0

blank_key : (s : Sym) (constant : Bool) (bytes : ℕ) → key (blank s constant bytes) ≡ s.0
blank_key s true bytes = refl
blank_key s false bytes = refl

valued_key : (numbers : Numbers) (s : Sym) (constant : Bool) (bytes : ℕ) (cs : List Cell) (b : Bool) → key (if b then blank s constant bytes else filled s constant (with_cells numbers cs [])) ≡ s.0
valued_key numbers s constant bytes cs true = blank_key s constant bytes
valued_key numbers s constant bytes cs false = refl

initialised_key : (numbers : Numbers) (s : Sym) (constant : Bool) (bytes : ℕ) (init : Option (List Cell)) → key (initialised numbers s constant bytes init) ≡ s.0
initialised_key numbers s constant bytes None = blank_key s constant bytes
initialised_key numbers s constant bytes (Some cs) = valued_key numbers s constant bytes cs (list_all is_zero cs)

object_key : (numbers : Numbers) (o : ObjectTy) (s : Sym) (bytes : ℕ) → key (object_datum numbers o s bytes) ≡ s.0
object_key numbers o s bytes = go (is_fixed o.class)
  where
    go : (fixed : Bool) → key (if fixed then blank s false bytes else initialised numbers s (is_const o.ty) bytes o.init) ≡ s.0
    go true = refl
    go false = initialised_key numbers s (is_const o.ty) bytes o.init

-- what holds of the data so far
pub record AreData (n hi : ℕ) (ds : List Datum) : Type 0 where
  pub well : Every (WellDatum n) ds
  pub rises : Rises key 0 hi ds

more_data : (n hi to : ℕ) (ds : List Datum) (d : Datum) → AreData n hi ds → WellDatum n d → hi ≤ key d → key d < to → AreData n to (ds ++ d ∷ [])
more_data n hi to ds d all well low high = record { well = every_append (WellDatum n) ds (d ∷ []) all.well (well, tt); rises = rises_more key 0 hi to ds d all.rises low high }

same_data : (n hi to : ℕ) (ds : List Datum) → AreData n hi ds → hi ≤ to → AreData n to ds
same_data n hi to ds all le = record { well = all.well; rises = rises_wider key 0 hi to ds le all.rises }

object_when : (n i : ℕ) (parts : Parts) (o : ObjectTy) (ds : List Datum) (b : Bool) → is_placed o.class ≡ b → KnowsBy (numbers_of parts) (unit_of parts) n → i < n → IsObject (unit_of parts) o → IsStored parts o → AreData n i ds
    → AreData n (suc i) (if b then ds ++ object_datum (numbers_of parts) o (object_symbol (numbers_of parts) i) (bytes_or (types_of parts.types) (type_in o.ty) 65536) ∷ [] else ds)
object_when n i parts o ds true lasts knows known typed stored all =
    let d : Datum = object_datum (numbers_of parts) o (object_symbol (numbers_of parts) i) (bytes_or (types_of parts.types) (type_in o.ty) 65536) in
    let at : key d ≡ i = object_key (numbers_of parts) o (object_symbol (numbers_of parts) i) (bytes_or (types_of parts.types) (type_in o.ty) 65536) in
    more_data n i (suc i) ds d all (object_datum_well n (numbers_of parts) parts o (object_symbol (numbers_of parts) i) knows known typed stored lasts) (omega (arith, at)) (omega (arith, at))
object_when n i parts o ds false lasts knows known typed stored all = same_data n i (suc i) ds all (omega arith)

objects_data : (n i : ℕ) (parts : Parts) (os : List ObjectTy) (ds : List Datum) → KnowsBy (numbers_of parts) (unit_of parts) n → i + length os ≤ n → Every (IsObject (unit_of parts)) os → Every (IsStored parts) os → AreData n i ds
    → AreData n (i + length os) (with_objects (types_of parts.types) (numbers_of parts) i os ds)
objects_data n i parts [] ds knows few typed stored all = same_data n i (i + 0) ds all (omega arith)
objects_data n i parts (o ∷ os) ds knows few typed stored all =
    let next : List Datum = with_object (types_of parts.types) (numbers_of parts) o (object_symbol (numbers_of parts) i) ds in
    let here : AreData n (suc i) next = object_when n i parts o ds (is_placed o.class) refl knows (omega (arith, few)) typed.0 stored.0 all in
    let rest : AreData n (suc i + length os) (with_objects (types_of parts.types) (numbers_of parts) (suc i) os next) = objects_data n (suc i) parts os next knows (omega (arith, few)) typed.1 stored.1 here in
    same_data n (suc i + length os) (i + suc (length os)) _ rest (omega arith)

-- ---- literals

bytes_well : (n : ℕ) (bytes : List ℕ) → Every (λ b. b < 2 ^ 8) bytes → Every (WellCell n) (map (λ b. Byte b) bytes)
bytes_well n [] h = tt
bytes_well n (b ∷ bytes) h = (h.0, bytes_well n bytes h.1)

literal_well : (n : ℕ) (s : Sym) (bytes : List ℕ) → s.0 < n → AreBytes bytes → WellDatum n (filled s true (literal_cells bytes))
literal_well n s bytes known h = filled_well n s true (literal_cells bytes) known (every_append (WellCell n) (map (λ b. Byte b) bytes) (Byte 0 ∷ []) (bytes_well n bytes (every_all (λ b. b < 2 ^ 8) bytes h)) (omega arith, tt)) (omega (arith, length-append (map (λ (b : ℕ). Byte b) bytes) (Byte 0 ∷ [])))

literals_data : (n i : ℕ) (parts : Parts) (ls : List (List ℕ)) (ds : List Datum) → length parts.objects.items + i + length ls ≤ n → n ≤ 2 ^ 32 → Every AreBytes ls → AreData n (length parts.objects.items + i) ds
    → AreData n (length parts.objects.items + i + length ls) (with_literals (numbers_of parts) i ls ds)
literals_data n i parts [] ds few room bytes all = same_data n (length parts.objects.items + i) (length parts.objects.items + i + 0) ds all (omega arith)
literals_data n i parts (l ∷ ls) ds few room bytes all =
    let s : Sym = literal_symbol (numbers_of parts) i in
    let d : Datum = filled s true (literal_cells l) in
    let at : s.0 ≡ length parts.objects.items + i = omega (arith, few, room) in
    let here : AreData n (length parts.objects.items + suc i) (ds ++ d ∷ []) = more_data n (length parts.objects.items + i) (length parts.objects.items + suc i) ds d all (literal_well n s l (omega (arith, at, few)) bytes.0) (omega (arith, at)) (omega (arith, at)) in
    let rest : AreData n (length parts.objects.items + suc i + length ls) (with_literals (numbers_of parts) (suc i) ls (ds ++ d ∷ [])) = literals_data n (suc i) parts ls (ds ++ d ∷ []) (omega (arith, few)) room bytes.1 here in
    same_data n (length parts.objects.items + suc i + length ls) (length parts.objects.items + i + suc (length ls)) _ rest (omega arith)

-- ---- all data

no_data : (n : ℕ) → AreData n 0 []
no_data n = record { well = tt; rises = omega arith }

pub program_data : (n : ℕ) (parts : Parts) → KnowsBy (numbers_of parts) (unit_of parts) n → length parts.objects.items + length parts.literals.items ≤ n → n ≤ 2 ^ 32 → All (IsObject (unit_of parts)) (unit_of parts).objects → HasData parts
    → AreData n (length parts.objects.items + length parts.literals.items) (data_of parts)
program_data n parts knows few room typed has =
    let os : List ObjectTy = map object_of parts.objects.items in
    let count : length os ≡ length parts.objects.items = length-map parts.objects.items object_of in
    let first : List Datum = with_objects (types_of parts.types) (numbers_of parts) 0 os [] in
    let objects : AreData n (0 + length os) first = objects_data n 0 parts os [] knows (omega (arith, few, count)) (every_all (IsObject (unit_of parts)) os typed) (every_all (IsStored parts) os has.objects) (no_data n) in
    let before : AreData n (length parts.objects.items + 0) first = same_data n (0 + length os) (length parts.objects.items + 0) first objects (omega (arith, count)) in
    let all : AreData n (length parts.objects.items + 0 + length parts.literals.items) (data_of parts) = literals_data n 0 parts parts.literals.items first (omega (arith, few)) room (every_all AreBytes parts.literals.items has.literals) before in
    same_data n (length parts.objects.items + 0 + length parts.literals.items) (length parts.objects.items + length parts.literals.items) (data_of parts) all (omega arith)
