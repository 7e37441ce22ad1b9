-- The symbols of functions, literals and objects lie below the software stack.
use Rattle.std.proofs.Common.{◌≡◌, ℕ, ◌+◌, ◌<◌, ◌≤◌, List, Bool, true, false, Some, Ok, refl, sym, ap, ◌∙◌, arith}
use Rattle.std.specs.Prelude.{length, map, slice_get, if◌then◌else◌}
use Rattle.c65_ctype.specs.Trees.{type_in}
use Rattle.c65_ctype.specs.Views.{types_of}
use Rattle.c65_csem.specs.Places.{is_fixed}
use Rattle.c65_csem.specs.Trees.{ObjectTy}
use Rattle.c65_csem.specs.Units.{IsProgram}
use Rattle.c65_csem.specs.Views.{object_of, func_of}
use Rattle.c65_csem_plain.specs.Plain.{IsPlain}
use Rattle.c65_meaning.specs.Shapes.{object_in}
use Rattle.c65_code.specs.declared.code.Datum.{Datum}
use Rattle.c65_code.specs.declared.line.Sym.{Sym}
use Rattle.c65_code.specs.Placement.{IsPlacement, IsDatumOf, has_datum}
use Rattle.c65_code.proofs.FunctionLaws.{function_from}
use Rattle.c65_genframe.specs.declared.symbols.Numbers.{Numbers}
use Rattle.c65_genframe.specs.Sizes.{bytes_or}
use Rattle.c65_genframe.specs.Symbols.{numbers_of, object_symbol, literal_symbol, function_symbol}
use Rattle.c65_gendata.specs.Cells.{literal_cells}
use Rattle.c65_gendata.specs.Data.{filled, blank, is_const, initialised, is_placed, object_datum, data_of}
use Rattle.c65_genstmt.specs.Programs.{program_of}
use Rattle.c65_gen_law_names.proofs.Bodies.{has_a_body, is_code as code_is}
use Rattle.c65_agree_state.specs.World.{World, unit_in}
use Rattle.c65_agree_data.proofs.Lists.{item_at}
use Rattle.c65_agree_data.proofs.Listed.{objects_have_data, literals_have_data}
use Rattle.c65_agree_start.proofs.Data.{value_symbol, none_behind}
use Rattle.c65_agree_start.proofs.Given.{IsCode, is_code, length_mapped, mapped}
use Rattle.c65_agree_located.specs.Laws.{IsLow, FunctionsAreLow, LiteralsAreLow, ObjectsAreLow}

datum_symbol : (n : Numbers) (o : ObjectTy) (s : Sym) (bytes : ℕ) → (object_datum n o s bytes).sym ≡ s
datum_symbol n o s bytes = go (is_fixed o.class)
  where
    go : (fixed : Bool) → (if fixed then blank s false bytes else initialised n s (is_const o.ty) bytes o.init).sym ≡ s
    go true = refl
    go false = value_symbol n s (is_const o.ty) bytes o.init

module _ (g : World) (names : List (List ℕ)) (is : program_of g.parts g.main names g.modes ≡ Ok g.code) (placed : IsPlacement g.code g.place) where
  code : IsCode g names
  code = is_code g names is

  -- what a datum of the program stands for
  datum_low : (k : ℕ) (d : Datum) (s : Sym) → slice_get (data_of g.parts) k ≡ Some d → d.sym ≡ s → IsLow g s
  datum_low k d s there same =
      let found : IsDatumOf g.code k d = ap (λ (ds : List Datum). slice_get ds k) code.datums ∙ there in
      let here : g.place.address d.sym.0 ≡ g.place.address s.0 = ap (λ (x : Sym). g.place.address x.0) same in
      omega (arith, placed.high k d found, here)

  pub literal_low : (l : ℕ) → l < length g.parts.literals.items → IsLow g (literal_symbol (numbers_of g.parts) l)
  literal_low l lt =
      let text = item_at g.parts.literals.items l lt in
      let d = literals_have_data g.parts l text.item text.is in
      datum_low d.0 (filled (literal_symbol (numbers_of g.parts) l) true (literal_cells text.item)) (literal_symbol (numbers_of g.parts) l) d.1 refl

  pub object_low : (i : ℕ) (o : ObjectTy) → object_in (unit_in g) i ≡ Some o → is_placed o.class ≡ true → IsLow g (object_symbol (numbers_of g.parts) i)
  object_low i o e lasts =
      let m = mapped object_of g.parts.objects.items i o e in
      let item : ObjectTy = object_of m.item in
      let bytes : ℕ = bytes_or (types_of g.parts.types) (type_in item.ty) 65536 in
      let own : is_placed item.class ≡ true = sym (ap (λ (z : ObjectTy). is_placed z.class) m.same) ∙ lasts in
      let d = objects_have_data g.parts i m.item m.is own in
      datum_low d.0 (object_datum (numbers_of g.parts) item (object_symbol (numbers_of g.parts) i) bytes) (object_symbol (numbers_of g.parts) i) d.1 (datum_symbol (numbers_of g.parts) item (object_symbol (numbers_of g.parts) i) bytes)

  module _ (program : IsProgram (unit_in g) g.main) (plain : IsPlain names (unit_in g) g.main) where
    few : length g.parts.objects.items + length g.parts.literals.items + length (unit_in g).funcs ≤ 4294967296
    few = let c = plain.few in omega (arith, c, length_mapped object_of g.parts.objects.items)

    pub function_low : (i : ℕ) → i < length (unit_in g).funcs → IsLow g (function_symbol (numbers_of g.parts) i)
    function_low i lt =
        let s : ℕ = (function_symbol (numbers_of g.parts) i).0 in
        let same = length_mapped func_of g.parts.funcs.items in
        let number : s ≡ length g.parts.objects.items + length g.parts.literals.items + i = omega (arith, lt, few) in
        let count : s < length g.code.symbols = omega (arith, number, lt, code.symbols, same) in
        let none : has_datum g.code.datums s ≡ false =
        ap (λ (ds : List Datum). has_datum ds s) code.datums ∙ none_behind (types_of g.parts.types) (numbers_of g.parts) (map object_of g.parts.objects.items) g.parts.literals.items s (sym (length_mapped object_of g.parts.objects.items)) (omega (arith, number)) in
        let f = item_at g.parts.funcs.items i (omega (arith, lt, same)) in
        let body = has_a_body g.parts g.main names g.modes g.code i f.item (code_is g.parts g.main names g.modes g.code is) program plain f.is number in
        omega (arith, placed.function_high s (function_from g.code s count none body))

pub functions_are_low : FunctionsAreLow
functions_are_low g names i is placed program plain lt = function_low g names is placed program plain i lt

pub literals_are_low : LiteralsAreLow
literals_are_low g names l is placed lt = literal_low g names is placed l lt

pub objects_are_low : ObjectsAreLow
objects_are_low g names i o is placed e lasts = object_low g names is placed i o e lasts
