-- The blocks of the program: where each has its place.
use Rattle.std.proofs.Common.{◌≡◌, ℕ, zero, suc, ◌+◌, ◌-◌, ◌<◌, ◌≤◌, ◌⊎◌, inl, inr, List, [], ◌∷◌, ◌++◌, Bool, true, false, Option, Some, None, pos, negsuc, refl, sym, ap, ◌∙◌, subst, arith}
use Rattle.std.specs.Prelude.{length, map, slice_get, nat_lt, not, ◌&&◌, ◌||◌, All, if◌then◌else◌}
use Rattle.std.proofs.lemmas.Bool.{cases_lt}
use Rattle.std.proofs.lemmas.Bool.Decides.{nat_tests}
use Rattle.std.proofs.lemmas.List.Elements.{All-nil, All-cons}
use Rattle.c65_ctype.specs.Trees.{void, int, pointer, array, tag, function, QTy, qual, type_in}
use Rattle.c65_ctype.specs.Views.{types_of}
use Rattle.c65_csem.specs.declared.items.Class.{Class}
use Rattle.c65_csem.specs.declared.items.Class.TheVariants as classes
use Rattle.c65_csem.specs.declared.items.Cell.{Cell}
use Rattle.c65_csem.specs.declared.items.Cell.TheVariants.{Byte, Piece}
use Rattle.c65_csem.specs.declared.items.Target.{Target}
use Rattle.c65_csem.specs.declared.items.TObject.{TObject}
use Rattle.c65_csem.specs.Trees.{ObjectTy}
use Rattle.c65_csem.specs.Places.{is_automatic, is_fixed}
use Rattle.c65_csem.specs.Units.{NamesTarget, IsCell, IsObject, IsInit, is_defined, IsDefined}
use Rattle.c65_csem.specs.Views.{object_of, func_of}
use Rattle.c65_csem_names.specs.Initial.{IsOfWholeRun, PointsToWholeRun}
use Rattle.c65_csem_plain.specs.Plain.{AreBytes, IsPlainObject, BeginsPlain}
use Rattle.c65_meaning.specs.Store.{Block, function_block}
use Rattle.c65_meaning.specs.Shapes.{are_const, literal_block, object_block, object_in, object_size, object_sealed}
use Rattle.c65_meaning.specs.Start.{text_block, literal_in, target_block, cells_of, static_block, initial_store, initial_size, is_inside, are_inside, init_inside, objects_inside}
use Rattle.c65_code.specs.declared.code.Datum.{Datum}
use Rattle.c65_code.specs.declared.code.DatumKind.TheVariants.{Const}
use Rattle.c65_code.specs.declared.line.Sym.{Sym}
use Rattle.c65_code.specs.LineState.{State}
use Rattle.c65_code.specs.Placement.{IsDatumOf, IsFunction, size_of_datum, has_datum}
use Rattle.c65_code.proofs.FunctionLaws.{function_from}
use Rattle.c65_genframe.specs.declared.symbols.Numbers.{Numbers}
use Rattle.c65_genframe.specs.Sizes.{bytes_or}
use Rattle.c65_genframe.specs.Symbols.{numbers_of, object_symbol, literal_symbol, function_symbol}
use Rattle.c65_gendata.specs.Cells.{symbol_of, literal_cells}
use Rattle.c65_gendata.specs.Data.{filled, blank, is_const, initialised, object_datum, is_placed, data_of}
use Rattle.c65_agree_store.specs.Stands.{Spot, At, Placing, CellIs}
use Rattle.c65_agree_state.specs.World.{World, unit_in}
use Rattle.c65_agree_state.specs.Fixed.{symbol_at}
use Rattle.c65_agree_numbers.proofs.Tests.{less, not_less}
use Rattle.c65_agree_data.specs.Laws.{IsNamed, Begins}
use Rattle.c65_agree_data.proofs.Listed.{objects_have_data, literals_have_data}
use Rattle.c65_agree_data.proofs.Placed.{objects_begin, literals_begin}
use Rattle.c65_agree_start.specs.First.{object_spot, program_spot}
use Rattle.c65_agree_start.proofs.Sizes.{bytes_are_size}
use Rattle.c65_agree_start.proofs.Data.{value_symbol, none_behind, literal_size, Fills, value_size, constant_kind}
use Rattle.c65_agree_start.proofs.Bodies.{has_a_body}
use Rattle.c65_agree_start.proofs.Given.{length_mapped, item_below, all_at, mapped, Given}

-- ---- both and either

both_first : (a b : Bool) → a && b ≡ true → a ≡ true
both_first true b e = refl
both_first false b e = cc

both_second : (a b : Bool) → a && b ≡ true → b ≡ true
both_second true b e = e
both_second false b e = cc

or_first : (a b : Bool) → a ≡ true → a || b ≡ true
or_first true b e = refl
or_first false b e = cc

or_second : (a b : Bool) → b ≡ true → a || b ≡ true
or_second true b e = refl
or_second false b e = e

all_from : {A : Type 0} (P : A → Type 0) (xs : List A) → ((k : ℕ) (x : A) → slice_get xs k ≡ Some x → P x) → All P xs
all_from P [] f = All-nil P
all_from P (x ∷ xs) f = All-cons P x xs (f 0 x refl) (all_from P xs (λ k y e. f (suc k) y e))

-- ---- classes and qualifiers

record IsLasting (class : Class) : Type 0 where
  placed : is_placed class ≡ true
  free : is_fixed class ≡ false

lasting : (class : Class) → is_automatic class ≡ false → is_defined class ≡ true → IsLasting class
lasting classes.External e d = record { placed = refl; free = refl }
lasting classes.Static e d = record { placed = refl; free = refl }
lasting classes.Tentative e d = cc
lasting classes.Declared e d = cc
lasting classes.Auto e d = cc
lasting classes.Register e d = cc
lasting classes.Fixed e d = cc

-- an object that may not be written is sealed
const_is_sealed : (q : QTy) → is_const q ≡ true → are_const q ≡ true
const_is_sealed (qual (array q n) c v) e = or_second c (are_const q) (const_is_sealed q e)
const_is_sealed (qual void c v) e = or_first c false e
const_is_sealed (qual (int k) c v) e = or_first c false e
const_is_sealed (qual (pointer q) c v) e = or_first c false e
const_is_sealed (qual (tag k) c v) e = or_first c false e
const_is_sealed (qual (function f) c v) e = or_first c false e

-- ---- the blocks of the program

-- what initial pointers name has its place at its symbol, and what they point to lies in memory
abbrev pub AreNamed : World → Placing → Type 0
AreNamed g w = (target : Target) (o : ℕ) → NamesTarget (unit_in g) target → IsOfWholeRun (unit_in g) target → o ≤ initial_size (unit_in g) target
    → (w (target_block (unit_in g) target) ≡ Some (At (g.place.address (symbol_of (numbers_of g.parts) target).0))) × (g.place.address (symbol_of (numbers_of g.parts) target).0 + o < 65536)

module _ (g : World) (t : State) where
  abbrev counts : Numbers
  counts = numbers_of g.parts

  abbrev funcs : ℕ
  funcs = length (unit_in g).funcs

  abbrev literals : ℕ
  literals = length g.parts.literals.items

  abbrev objects : ℕ
  objects = length g.parts.objects.items

  -- which symbol it has
  abbrev pub HasNumber : ℕ → ℕ → Type 0
  HasNumber b s = ((l : ℕ) × (l < literals) × (b ≡ funcs + l) × (s ≡ objects + l)) ⊎ ((i : ℕ) × (i < objects) × (b ≡ funcs + literals + i) × (s ≡ i))

  -- a function, at the address of its symbol
  pub record IsFuncAt (b : ℕ) (x : Block) (at : ℕ) : Type 0 where
    pub number : b < funcs
    pub at_is : at ≡ g.place.address (function_symbol counts b).0
    pub block : x ≡ function_block
    pub is : IsFunction g.code (function_symbol counts b).0
    pub symbol : (function_symbol counts b).0 ≡ objects + literals + b

  -- a literal or an object, at its datum
  pub record IsDatumAt (b : ℕ) (x : Block) (at : ℕ) : Type 0 where
    pub index : ℕ
    pub datum : Datum
    pub is : IsDatumOf g.code index datum
    pub at_is : at ≡ g.place.address datum.sym.0
    pub size : size_of_datum datum ≡ x.size
    pub holds : x.holds ≡ x.size
    pub number : HasNumber b datum.sym.0
    pub constant : datum.kind ≡ Const → x.sealed ≡ true

  pub record IsPlacedAt (b : ℕ) (x : Block) : Type 0 where
    pub at : ℕ
    pub spot : program_spot g b ≡ Some (At at)
    pub live : x.live ≡ true
    pub how : IsFuncAt b x at ⊎ IsDatumAt b x at
    pub cells : (w : Placing) → AreNamed g w → (o : ℕ) → o < x.holds → CellIs w (x.cells o) (t.mem (at + o))

  -- ---- by number

  abbrev pub store_by : Bool → Bool → ℕ → Option Block
  store_by low middle b = if low then Some function_block else (if middle then literal_in (slice_get (unit_in g).literals (b - literal_block (unit_in g) 0)) else static_block (unit_in g) (object_in (unit_in g) (b - object_block (unit_in g) 0)))

  abbrev spot_by : Bool → Bool → ℕ → Option Spot
  spot_by low middle b = if low then Some (At (g.place.address (function_symbol counts b).0))
      else (if middle then Some (At (g.place.address (literal_symbol counts (b - literal_block (unit_in g) 0)).0)) else object_spot g (b - object_block (unit_in g) 0) (object_in (unit_in g) (b - object_block (unit_in g) 0)))

  pub store_is : (b : ℕ) (low middle : Bool) → nat_lt b (literal_block (unit_in g) 0) ≡ low → nat_lt b (object_block (unit_in g) 0) ≡ middle → initial_store (unit_in g) b ≡ store_by low middle b
  store_is b low middle e f = ap (λ x. store_by x (nat_lt b (object_block (unit_in g) 0)) b) e ∙ ap (λ y. store_by low y b) f

  spot_is : (b : ℕ) (low middle : Bool) → nat_lt b (literal_block (unit_in g) 0) ≡ low → nat_lt b (object_block (unit_in g) 0) ≡ middle → program_spot g b ≡ spot_by low middle b
  spot_is b low middle e f = ap (λ x. spot_by x (nat_lt b (object_block (unit_in g) 0)) b) e ∙ ap (λ y. spot_by low y b) f

  pub func_spot : (b : ℕ) → b < funcs → program_spot g b ≡ Some (At (g.place.address (function_symbol counts b).0))
  func_spot b lt = spot_is b true (nat_lt b (object_block (unit_in g) 0)) (less b (literal_block (unit_in g) 0) (omega (arith, lt))) refl

  pub literal_spot : (l : ℕ) → l < literals → program_spot g (literal_block (unit_in g) l) ≡ Some (At (g.place.address (literal_symbol counts l).0))
  literal_spot l lt =
      let b = literal_block (unit_in g) l in
      let back : b - literal_block (unit_in g) 0 ≡ l = omega arith in
      spot_is b false true (not_less b (literal_block (unit_in g) 0) (omega arith)) (less b (object_block (unit_in g) 0) (omega (arith, lt))) ∙ ap (λ i. Some (At (g.place.address (literal_symbol counts i).0))) back

  pub lasting_spot : (i : ℕ) → program_spot g (object_block (unit_in g) i) ≡ object_spot g i (object_in (unit_in g) i)
  lasting_spot i =
      let b = object_block (unit_in g) i in
      let back : b - object_block (unit_in g) 0 ≡ i = omega arith in
      spot_is b false false (not_less b (literal_block (unit_in g) 0) (omega arith)) (not_less b (object_block (unit_in g) 0) (omega arith)) ∙ ap (λ j. object_spot g j (object_in (unit_in g) j)) back

module _ (g : World) (names args : List (List ℕ)) (input : List ℕ) (t : State) (h : Given g names args input t) where
  abbrev n : Numbers
  n = numbers_of g.parts

  few : length g.parts.objects.items + length g.parts.literals.items + length (unit_in g).funcs ≤ 4294967296
  few = let c = h.plain.few in omega (arith, c, length_mapped object_of g.parts.objects.items)

  datum_is : (k : ℕ) (d : Datum) → slice_get (data_of g.parts) k ≡ Some d → IsDatumOf g.code k d
  datum_is k d e = ap (λ ds. slice_get ds k) h.code.datums ∙ e

  pub func_at : (b : ℕ) → b < length (unit_in g).funcs → IsFuncAt g t b function_block (g.place.address (function_symbol n b).0)
  func_at b lt =
      let number : (function_symbol n b).0 ≡ length g.parts.objects.items + length g.parts.literals.items + b = omega (arith, lt, few) in
      let count : (function_symbol n b).0 < length g.code.symbols = omega (arith, number, lt, h.code.symbols, length_mapped func_of g.parts.funcs.items) in
      let none : has_datum g.code.datums (function_symbol n b).0 ≡ false =
      ap (λ ds. has_datum ds (function_symbol n b).0) h.code.datums ∙ none_behind (types_of g.parts.types) n (map object_of g.parts.objects.items) g.parts.literals.items (function_symbol n b).0 (sym (length_mapped object_of g.parts.objects.items)) (omega (arith, number)) in
      record { number = lt; at_is = refl; block = refl; is = function_from g.code (function_symbol n b).0 count none (has_a_body g names args input t h b lt number); symbol = number }

  pub literal_at : (l : ℕ) (text : List ℕ) → slice_get g.parts.literals.items l ≡ Some text → IsDatumAt g t (literal_block (unit_in g) l) (text_block true (text ++ 0 ∷ [])) (g.place.address (literal_symbol n l).0)
  literal_at l text e =
      let lt = item_below g.parts.literals.items l text e in
      let d = literals_have_data g.parts l text e in
      record {
        index = d.0;
        datum = filled (literal_symbol n l) true (literal_cells text);
        is = datum_is d.0 (filled (literal_symbol n l) true (literal_cells text)) d.1;
        at_is = refl;
        size = literal_size (literal_symbol n l) text ∙ length_one text;
        holds = refl;
        number = inl (l, lt, refl, omega (arith, lt, few));
        constant = λ _. refl;
      }
    where
      length_one : (text : List ℕ) → length text + 1 ≡ length (text ++ 0 ∷ [])
      length_one [] = refl
      length_one (b ∷ text) = let deep = length_one text in omega (arith, deep)

  -- an object that lives as long as the program
  module _ (i : ℕ) (o : TObject) (e : slice_get g.parts.objects.items i ≡ Some o) (lives : is_automatic (object_of o).class ≡ false) where
    abbrev item : ObjectTy
    item = object_of o

    abbrev size : ℕ
    size = object_size (unit_in g).types (Some item)

    abbrev block : Block
    block = record { size = size; holds = size; live = true; sealed = object_sealed (Some item); cells = cells_of (unit_in g) item.init }

    in_unit : slice_get (unit_in g).objects i ≡ Some item
    in_unit = map_item g.parts.objects.items i o e
      where
        map_item : (xs : List TObject) (k : ℕ) (x : TObject) → slice_get xs k ≡ Some x → slice_get (map object_of xs) k ≡ Some (object_of x)
        map_item [] k x e = cc
        map_item (y ∷ xs) zero x e = let f : y ≡ x = cc in ap (λ z. Some (object_of z)) f
        map_item (y ∷ xs) (suc k) x e = map_item xs k x e

    typed : IsObject (unit_in g) item
    typed = all_at (IsObject (unit_in g)) (unit_in g).objects i item h.program.unit.objects in_unit

    pub plain_item : IsPlainObject names (unit_in g) item
    plain_item = all_at (IsPlainObject names (unit_in g)) (unit_in g).objects i item h.plain.objects in_unit

    lasts : IsLasting item.class
    lasts = lasting item.class lives (all_at IsDefined (unit_in g).objects i item h.program.objects in_unit)

    bytes : bytes_or (types_of g.parts.types) (type_in item.ty) 65536 ≡ size
    bytes = bytes_are_size (types_of g.parts.types) (type_in item.ty) 65536 plain_item.bytes.some plain_item.bytes.few

    pub fills : Fills size item.init
    fills = go item.init typed.init plain_item.begins
      where
        go : (init : Option (List Cell)) → IsInit (unit_in g) item init → BeginsPlain init → Fills size init
        go None a b = tt
        go (Some cells) a b = (a.0, b.1)

    abbrev d : Datum
    d = initialised n (object_symbol n i) (is_const item.ty) size item.init

    has_datum_there : (k : ℕ) × IsDatumOf g.code k d
    has_datum_there =
        let found = objects_have_data g.parts i o e lasts.placed in
        let same : object_datum n item (object_symbol n i) (bytes_or (types_of g.parts.types) (type_in item.ty) 65536) ≡ d =
        ap (λ (fixed : Bool). if fixed then blank (object_symbol n i) false (bytes_or (types_of g.parts.types) (type_in item.ty) 65536) else initialised n (object_symbol n i) (is_const item.ty) (bytes_or (types_of g.parts.types) (type_in item.ty) 65536) item.init) lasts.free
        ∙ ap (λ size. initialised n (object_symbol n i) (is_const item.ty) size item.init) bytes in
        (found.0, datum_is found.0 d (found.1 ∙ ap Some same))

    pub object_at : IsDatumAt g t (object_block (unit_in g) i) block (symbol_at g i)
    object_at =
        let number : d.sym ≡ object_symbol n i = value_symbol n (object_symbol n i) (is_const item.ty) size item.init in
        record {
          index = has_datum_there.0;
          datum = d;
          is = has_datum_there.1;
          at_is = ap (λ (s : Sym). g.place.address s.0) (sym number);
          size = value_size n (object_symbol n i) (is_const item.ty) size item.init fills;
          holds = refl;
          number = inr (i, item_below g.parts.objects.items i o e, refl, ap (λ (s : Sym). s.0) number);
          constant = λ k. const_is_sealed item.ty (constant_kind n (object_symbol n i) (is_const item.ty) size item.init k);
        }

    -- ---- its initial value

    module _ (w : Placing) (named : AreNamed g w) where
      inside_at : (cells : List Cell) (k : ℕ) (x : Cell) → are_inside (unit_in g) cells ≡ true → slice_get cells k ≡ Some x → is_inside (unit_in g) x ≡ true
      inside_at [] k x a f = cc
      inside_at (y ∷ ys) zero x a f = let same : y ≡ x = cc in subst (λ z. is_inside (unit_in g) z ≡ true) same (both_first (is_inside (unit_in g) y) (are_inside (unit_in g) ys) a)
      inside_at (y ∷ ys) (suc k) x a f = inside_at ys k x (both_second (is_inside (unit_in g) y) (are_inside (unit_in g) ys) a) f

      named_cell : (x : Cell) → IsCell (unit_in g) x → PointsToWholeRun (unit_in g) x → is_inside (unit_in g) x ≡ true → IsNamed (unit_in g) n g.place w x
      named_cell (Byte v) a p i = tt
      named_cell (Piece target (pos m) part) a p i =
          let there = named target m a.0 p (grind (arith, nat_tests)) in
          (m, refl, there.0, there.1)
      named_cell (Piece target (negsuc m) part) a p i = cc

      begins : (init : Option (List Cell)) → item.init ≡ init → IsInit (unit_in g) item init → BeginsPlain init → Begins (unit_in g) n g.place w size init
      begins None f a b = tt
      begins (Some cells) f a b = (
        a.0,
        b.0,
        b.1,
        all_from (IsNamed (unit_in g) n g.place w) cells (λ k x is.
            named_cell x (all_at (IsCell (unit_in g)) cells k x a.1 is) (h.pointers i k item cells x in_unit f is) (inside_at cells k x (inside_value (unit_in g).objects i item h.inside in_unit f) is)),
      )
        where
          inside_value : (os : List ObjectTy) (k : ℕ) (x : ObjectTy) → objects_inside (unit_in g) os ≡ true → slice_get os k ≡ Some x → x.init ≡ Some cells → are_inside (unit_in g) cells ≡ true
          inside_value [] k x a is v = cc
          inside_value (y ∷ ys) zero x a is v =
              let same : y ≡ x = cc in
              let value : y.init ≡ Some cells = ap (λ z. z.init) same ∙ v in
              let one : init_inside (unit_in g) y.init ≡ true = both_first (init_inside (unit_in g) y.init) (objects_inside (unit_in g) ys) a in
              sym (ap (init_inside (unit_in g)) value) ∙ one
          inside_value (y ∷ ys) (suc k) x a is v = inside_value ys k x (both_second (init_inside (unit_in g) y.init) (objects_inside (unit_in g) ys) a) is v

      cells_there : (p : ℕ) → p < size → CellIs w (cells_of (unit_in g) item.init p) (t.mem (symbol_at g i + p))
      cells_there p lt = objects_begin g.code g.place args input t (unit_in g) n w has_datum_there.0 (object_symbol n i) (is_const item.ty) p size item.init h.start has_datum_there.1 (begins item.init refl typed.init plain_item.begins) lt

  -- ---- by number

  of_func : (b : ℕ) → b < length (unit_in g).funcs → IsPlacedAt g t b function_block
  of_func b lt = record { at = g.place.address (function_symbol n b).0; spot = func_spot g t b lt; live = refl; how = inl (func_at b lt); cells = λ w named o few. absurd (omega (arith, few)) }

  of_literal : (l : ℕ) (x : Block) (text : Option (List ℕ)) → slice_get g.parts.literals.items l ≡ text → literal_in text ≡ Some x → IsPlacedAt g t (literal_block (unit_in g) l) x
  of_literal l x None e f = cc
  of_literal l x (Some text) e f =
      let same : text_block true (text ++ 0 ∷ []) ≡ x = cc in
      let d = literals_have_data g.parts l text e in
      let whole : AreBytes text = all_at AreBytes g.parts.literals.items l text h.plain.literals e in
      let one : IsPlacedAt g t (literal_block (unit_in g) l) (text_block true (text ++ 0 ∷ [])) = record {
        at = g.place.address (literal_symbol n l).0;
        spot = literal_spot g t l (item_below g.parts.literals.items l text e);
        live = refl;
        how = inr (literal_at l text e);
        cells = λ w named o lt. literals_begin g.code g.place args input t w d.0 (literal_symbol n l) o text h.start (datum_is d.0 (filled (literal_symbol n l) true (literal_cells text)) d.1) whole lt;
      } in
      subst (λ y. IsPlacedAt g t (literal_block (unit_in g) l) y) same one

  of_item : (i : ℕ) (o : TObject) (x : Block) (lives : Bool) → slice_get g.parts.objects.items i ≡ Some o → is_automatic (object_of o).class ≡ lives
      → (if lives then None else Some (record { size = object_size (unit_in g).types (Some (object_of o)); holds = object_size (unit_in g).types (Some (object_of o)); live = true; sealed = object_sealed (Some (object_of o)); cells = cells_of (unit_in g) (object_of o).init })) ≡ Some x
      → IsPlacedAt g t (object_block (unit_in g) i) x
  of_item i o x true e lives f = cc
  of_item i o x false e lives f =
      let same : block i o e lives ≡ x = cc in
      let spot : program_spot g (object_block (unit_in g) i) ≡ Some (At (symbol_at g i)) =
      lasting_spot g t i ∙ ap (object_spot g i) (in_unit i o e lives) ∙ ap (λ (b : Bool). if b then None else Some (At (symbol_at g i))) lives in
      let one : IsPlacedAt g t (object_block (unit_in g) i) (block i o e lives) = record {
        at = symbol_at g i;
        spot = spot;
        live = refl;
        how = inr (object_at i o e lives);
        cells = λ w named p lt. cells_there i o e lives w named p lt;
      } in
      subst (λ y. IsPlacedAt g t (object_block (unit_in g) i) y) same one

  of_object : (i : ℕ) (x : Block) (y : Option ObjectTy) → object_in (unit_in g) i ≡ y → static_block (unit_in g) y ≡ Some x → IsPlacedAt g t (object_block (unit_in g) i) x
  of_object i x None e f = cc
  of_object i x (Some y) e f =
      let m = mapped object_of g.parts.objects.items i y e in
      of_item i m.item x (is_automatic (object_of m.item).class) m.is refl (ap (λ z. static_block (unit_in g) (Some z)) (sym m.same) ∙ f)

  pub placed_of : (b : ℕ) (x : Block) → initial_store (unit_in g) b ≡ Some x → IsPlacedAt g t b x
  placed_of b x e = go (cases_lt b (literal_block (unit_in g) 0)) (cases_lt b (object_block (unit_in g) 0))
    where
      go : (b < literal_block (unit_in g) 0) ⊎ (literal_block (unit_in g) 0 ≤ b) → (b < object_block (unit_in g) 0) ⊎ (object_block (unit_in g) 0 ≤ b) → IsPlacedAt g t b x
      go (inl low) _ =
          let f : Some function_block ≡ Some x = sym (store_is g t b true (nat_lt b (object_block (unit_in g) 0)) (less b (literal_block (unit_in g) 0) low) refl) ∙ e in
          let same : function_block ≡ x = cc in
          subst (λ y. IsPlacedAt g t b y) same (of_func b (omega (arith, low)))
      go (inr high) (inl low) =
          let l = b - literal_block (unit_in g) 0 in
          let f : literal_in (slice_get (unit_in g).literals l) ≡ Some x = sym (store_is g t b false true (not_less b (literal_block (unit_in g) 0) high) (less b (object_block (unit_in g) 0) low)) ∙ e in
          let back : literal_block (unit_in g) l ≡ b = omega (arith, high) in
          subst (λ c. IsPlacedAt g t c x) back (of_literal l x (slice_get (unit_in g).literals l) refl f)
      go (inr high) (inr higher) =
          let i = b - object_block (unit_in g) 0 in
          let f : static_block (unit_in g) (object_in (unit_in g) i) ≡ Some x = sym (store_is g t b false false (not_less b (literal_block (unit_in g) 0) high) (not_less b (object_block (unit_in g) 0) higher)) ∙ e in
          let back : object_block (unit_in g) i ≡ b = omega (arith, higher) in
          subst (λ c. IsPlacedAt g t c x) back (of_object i x (object_in (unit_in g) i) refl f)
