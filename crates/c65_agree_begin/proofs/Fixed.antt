-- Objects of blocks that have one place for the whole run have data of their own.
use Rattle.std.proofs.Common.{◌≡◌, ℕ, ◌+◌, ◌<◌, List, [], Option, Some, None, Bool, true, false, refl, sym, ap, ◌∙◌, arith}
use Rattle.std.specs.Prelude.{length, slice_get, ◌||◌, if◌then◌else◌}
use Rattle.c65_ctype.specs.Trees.{type_in}
use Rattle.c65_ctype.specs.Views.{types_of}
use Rattle.c65_csem.specs.Trees.{ObjectTy}
use Rattle.c65_csem.specs.Places.{is_fixed, is_fixed_object}
use Rattle.c65_csem.specs.Views.{object_of}
use Rattle.c65_csem_plain.specs.Plain.{IsPlain, IsPlainObject}
use Rattle.c65_meaning.specs.Shapes.{object_in, object_size}
use Rattle.c65_code.specs.declared.code.Datum.{Datum}
use Rattle.c65_code.specs.Placement.{IsDatumOf, size_of_datum}
use Rattle.c65_genframe.specs.Sizes.{bytes_or}
use Rattle.c65_genframe.specs.Symbols.{numbers_of, object_symbol}
use Rattle.c65_gendata.specs.Data.{blank, is_lasting, is_placed, is_const, initialised, object_datum}
use Rattle.c65_agree_state.specs.World.{World, unit_in}
use Rattle.c65_agree_state.specs.Fixed.{symbol_at}
use Rattle.c65_agree_data.proofs.Listed.{objects_have_data}
use Rattle.c65_agree_start.proofs.Sizes.{bytes_are_size}
use Rattle.c65_agree_start.proofs.Given.{IsCode, is_code, item_below, all_at, mapped}
use Rattle.c65_agree_begin.specs.Laws.{FixedObjectsAreLow}

-- the datum of such an object
pub record HasFixedDatum (g : World) (i : ℕ) : Type 0 where
  pub index : ℕ
  pub datum : Datum
  pub is : IsDatumOf g.code index datum
  pub symbol : datum.sym.0 ≡ i
  pub blank : datum.cells ≡ []
  pub size : size_of_datum datum ≡ object_size (unit_in g).types (object_in (unit_in g) i)
  pub below : i < length g.parts.objects.items

none_more : (n : ℕ) → 0 + n ≡ n
none_more n = omega arith

or_second : (a b : Bool) → b ≡ true → a || b ≡ true
or_second true b e = refl
or_second false b e = e

pub fixed_datum : (g : World) (names : List (List ℕ)) (i : ℕ) → IsCode g names → IsPlain names (unit_in g) g.main → is_fixed_object (object_in (unit_in g) i) ≡ true → HasFixedDatum g i
fixed_datum g names i code plain fixed = go (object_in (unit_in g) i) refl fixed
  where
    go : (o : Option ObjectTy) → object_in (unit_in g) i ≡ o → is_fixed_object o ≡ true → HasFixedDatum g i
    go None e f = cc
    go (Some y) e f =
        let m = mapped object_of g.parts.objects.items i y e in
        let item : ObjectTy = object_of m.item in
        let kind : is_fixed item.class ≡ true = sym (ap (λ (z : ObjectTy). is_fixed z.class) m.same) ∙ f in
        let placed : is_placed item.class ≡ true = or_second (is_lasting item.class) (is_fixed item.class) kind in
        let found = objects_have_data g.parts i m.item m.is placed in
        let bytes : ℕ = bytes_or (types_of g.parts.types) (type_in item.ty) 65536 in
        let is_plain : IsPlainObject names (unit_in g) y = all_at (IsPlainObject names (unit_in g)) (unit_in g).objects i y plain.objects e in
        let size : bytes_or (types_of g.parts.types) (type_in y.ty) 65536 ≡ object_size (unit_in g).types (Some y) = bytes_are_size (types_of g.parts.types) (type_in y.ty) 65536 is_plain.bytes.some is_plain.bytes.few in
        let same : object_datum (numbers_of g.parts) item (object_symbol (numbers_of g.parts) i) bytes ≡ blank (object_symbol (numbers_of g.parts) i) false bytes =
        ap (λ (b : Bool). if b then blank (object_symbol (numbers_of g.parts) i) false bytes else initialised (numbers_of g.parts) (object_symbol (numbers_of g.parts) i) (is_const item.ty) bytes item.init) kind in
        record {
          index = found.0;
          datum = blank (object_symbol (numbers_of g.parts) i) false bytes;
          is = ap (λ ds. slice_get ds found.0) code.datums ∙ (found.1 ∙ ap Some same);
          symbol = refl;
          blank = refl;
          size = none_more bytes ∙ sym (ap (λ (z : ObjectTy). bytes_or (types_of g.parts.types) (type_in z.ty) 65536) m.same) ∙ (size ∙ sym (ap (object_size (unit_in g).types) e));
          below = item_below g.parts.objects.items i m.item m.is;
        }

pub fixed_objects_are_low : FixedObjectsAreLow
fixed_objects_are_low g names is placed plain i n fixed lt =
    let d = fixed_datum g names i (is_code g names is) plain fixed in
    let high = placed.high d.index d.datum d.is in
    let there : symbol_at g i ≡ g.place.address d.datum.sym.0 = ap g.place.address (sym d.symbol) in
    omega (arith, high, there, lt, d.size)
