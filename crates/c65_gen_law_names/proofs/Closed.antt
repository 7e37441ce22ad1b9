-- Whatever the code of a program names has lines, data, or a function of the library for its name.
use Rattle.std.proofs.Common.{◌≡◌, ℕ, ◌+◌, ◌<◌, ◌^◌, ◌||◌, ◌&&◌, not, Bool, true, false, Option, Some, None, List, [], slice_get, inl, inr, refl, sym, ap, ◌∙◌, subst, arith}
use Rattle.std.specs.Prelude.{nat_lt, ◌⊎◌, length, is_some, IsSome, Ok, option_map}
use Rattle.std.proofs.lemmas.Option.{slice_get-map}
use Rattle.c65_base.specs.declared.refusal.Size.TheVariants as sizes
use Rattle.c65_base.specs.Answers.{large}
use Rattle.c65_csem.specs.declared.items.Parts.{Parts}
use Rattle.c65_csem.specs.declared.items.TFunc.{TFunc}
use Rattle.c65_csem.specs.declared.items.Class.{Class}
use Rattle.c65_csem.specs.declared.items.Class.TheVariants.{External, Tentative, Declared, Static, Auto, Register, Fixed}
use Rattle.c65_csem.specs.declared.items.Cell.{Cell}
use Rattle.c65_csem.specs.declared.items.Cell.TheVariants as cells
use Rattle.c65_csem.specs.declared.items.Target.{Target}
use Rattle.c65_csem.specs.declared.items.Target.TheVariants as targets
use Rattle.c65_csem.specs.Trees.{Stmt, ObjectTy, FuncTy}
use Rattle.c65_csem.specs.Places.{is_automatic, is_fixed, is_fixed_object}
use Rattle.c65_csem.specs.Units.{HasBody, IsBody, IsFunc, is_defined, IsDefined, IsProgram, context_of}
use Rattle.c65_csem.specs.Views.{func_of, object_of, unit_of}
use Rattle.c65_meaning.specs.Shapes.{object_in, lives_in_frame}
use Rattle.c65_csem_names.specs.Scopes.{entering, is_variadic, IsScoped, IsScopedBody, HasScopedBody}
use Rattle.c65_csem_names.specs.Initial.{IsOfWholeRun, PointsToWholeRun}
use Rattle.c65_csem_names.specs.Programs.{IsScopedProgram}
use Rattle.c65_csem_plain.specs.Plain.{IsPlain}
use Rattle.c65_code.specs.declared.code.Code.{Code}
use Rattle.c65_code.specs.declared.code.Symbol.{Symbol}
use Rattle.c65_code.specs.declared.code.Datum.{Datum}
use Rattle.c65_code.specs.declared.code.DataCell.{DataCell}
use Rattle.c65_code.specs.declared.code.DataCell.TheVariants as data_cells
use Rattle.c65_code.specs.Named.{CellNames, IsNamed, function, datum, by_line, by_cell}
use Rattle.c65_code.specs.Placement.{has_segment, has_datum, has_body, library_of}
use Rattle.c65_code.proofs.FunctionLaws.{segment_found, either_body}
use Rattle.c65_genframe.specs.declared.modes.Modes.{Modes}
use Rattle.c65_genframe.specs.declared.home.Home.{Home}
use Rattle.c65_genframe.specs.Frames.{Framed, frame_of, home_of, check_of, settled, passed_bytes, placed_in}
use Rattle.c65_genframe.specs.Marks.{lowest}
use Rattle.c65_genframe.specs.Objects.{locals_of, objects_of, objects_in}
use Rattle.c65_genframe.specs.Places.{Places}
use Rattle.c65_genframe.specs.Sizes as sized
use Rattle.c65_genframe.specs.Symbols.{numbers_of, literal_symbol, function_symbol}
use Rattle.c65_gendata.specs.Cells.{symbol_of}
use Rattle.c65_gendata.specs.Data.{is_placed, data_of}
use Rattle.c65_asm_law_names.specs.Numbers as numbers
use Rattle.c65_gen_law_lines.proofs.FrameLaws.{answered}
use Rattle.c65_gen_law_size.specs.Own.{is_among, is_own, has_home, is_framed_in}
use Rattle.c65_gen_law_size.proofs.Owned.{own_objects_have_homes}
use Rattle.c65_gen_law_names.specs.Laws.{ProgramsAreClosed}
use Rattle.c65_gen_law_names.proofs.Known.{AllKnown}
use Rattle.c65_gen_law_names.proofs.Lists.{Every, all_at, every_at, every_from, item_below, length_mapped, mapped}
use Rattle.c65_gen_law_names.proofs.Scoped.{Inside, Knows, inside_entered, scoped_stmt}
use Rattle.c65_gen_law_names.proofs.Bodies.{IsCode, has_a_body, is_code}
use Rattle.c65_gen_law_names.proofs.Functions.{KnownBody, KnownFunction, functions_known}
use Rattle.c65_gen_law_names.proofs.Data.{KnownCell, KnownDatum, KnownInit, KnownPiece, data_known, datum_at, literals_have_data, objects_have_data}
use Rattle.c65_gen_law_names.proofs.Named.{line_there, lines_at}

-- a symbol that a code may name
abbrev pub IsThere : Code → ℕ → Type 0
IsThere code k = (has_body code k ≡ true) ⊎ (has_datum code.datums k ≡ true)

-- ---- frames

frame_parts : (parts : Parts) (modes : Modes) (g : FuncTy) (f : Framed) → frame_of parts modes g ≡ Ok f → f.parts ≡ parts
frame_parts parts modes g f h =
    let p : Places = placed_in parts modes g in
    let made : Framed = settled parts (check_of parts modes g) g (lowest (locals_of g) g.params) (passed_bytes parts g) p in
    sym (ap (λ (z : Framed). z.parts) (answered (nat_lt 1024 p.total) (large sizes.Frame p.total) made f h).1)

framed_own : (parts : Parts) (g : FuncTy) (i : ℕ) → is_fixed_object (sized.object_in parts i) ≡ false → is_framed_in parts g i ≡ is_own g i
framed_own parts g i e = ap (λ (b : Bool). is_among g.params i || (is_among (locals_of g) i && not b)) e ∙ ap (λ (b : Bool). is_among g.params i || b) (by (is_among (locals_of g) i))
  where
    by : (b : Bool) → (b && true) ≡ b
    by true = refl
    by false = refl

no_home : (h : Option Home) → h ≡ None → has_home h ≡ true → ⊥
no_home None e t = absurd cc
no_home (Some home) e t = absurd cc

-- ---- cells

cell_there : (P : ℕ → Type 0) (c : DataCell) (k : ℕ) → KnownCell P c → CellNames c k → P k
cell_there P (data_cells.Byte b) k p e = absurd e
cell_there P (data_cells.Address s offset) k p e = subst P e p

-- ---- the items of a program

module _ (parts : Parts) (main : ℕ) (names : List (List ℕ)) (modes : Modes) (code : Code)
    (is : IsCode parts main names modes code) (program : IsProgram (unit_of parts) main) (scoped : IsScopedProgram (unit_of parts) main) (plain : IsPlain names (unit_of parts) main) where
  function_number : (i : ℕ) (g : FuncTy) → slice_get (unit_of parts).funcs i ≡ Some g → (function_symbol (numbers_of parts) i).0 ≡ length parts.objects.items + length parts.literals.items + i
  function_number i g e =
      let objects : length (unit_of parts).objects ≡ length parts.objects.items = length_mapped object_of parts.objects.items in
      let below : i < length (unit_of parts).funcs = item_below (unit_of parts).funcs i g e in
      let literals : length (unit_of parts).literals ≡ length parts.literals.items = refl in
      omega (arith, plain.few, objects, literals, below)

  function_there : (i : ℕ) (g : FuncTy) → slice_get (unit_of parts).funcs i ≡ Some g → IsThere code (function_symbol (numbers_of parts) i).0
  function_there i g e = let m = mapped func_of parts.funcs.items i g e in inl (has_a_body parts main names modes code i m.item is program plain m.is (function_number i g e))

  literal_there : (i : ℕ) (bytes : List ℕ) → slice_get (unit_of parts).literals i ≡ Some bytes → IsThere code (literal_symbol (numbers_of parts) i).0
  literal_there i bytes e = inr (ap (λ (ds : List Datum). has_datum ds (literal_symbol (numbers_of parts) i).0) is.datums ∙ literals_have_data parts i bytes e)

  object_there : (i : ℕ) (o : ObjectTy) → slice_get (unit_of parts).objects i ≡ Some o → is_placed o.class ≡ true → IsThere code i
  object_there i o e placed = inr (ap (λ (ds : List Datum). has_datum ds i) is.datums ∙ objects_have_data parts i o e placed)

  -- an object is defined: it is automatic, or has one place for the whole run
  placed_or_automatic : (i : ℕ) (o : ObjectTy) (c : Class) → slice_get (unit_of parts).objects i ≡ Some o → o.class ≡ c → (is_placed o.class ≡ true) ⊎ ((is_automatic o.class ≡ true) × (is_fixed o.class ≡ false))
  placed_or_automatic i o External e f = inl (ap is_placed f)
  placed_or_automatic i o Static e f = inl (ap is_placed f)
  placed_or_automatic i o Fixed e f = inl (ap is_placed f)
  placed_or_automatic i o Auto e f = inr (ap is_automatic f, ap is_fixed f)
  placed_or_automatic i o Register e f = inr (ap is_automatic f, ap is_fixed f)
  placed_or_automatic i o Tentative e f = absurd (let d : is_defined o.class ≡ true = all_at IsDefined (unit_of parts).objects i o program.objects e in let n : is_defined o.class ≡ false = ap is_defined f in cc)
  placed_or_automatic i o Declared e f = absurd (let d : is_defined o.class ≡ true = all_at IsDefined (unit_of parts).objects i o program.objects e in let n : is_defined o.class ≡ false = ap is_defined f in cc)

  lives_as : (i : ℕ) (o : ObjectTy) → slice_get (unit_of parts).objects i ≡ Some o → lives_in_frame (object_in (unit_of parts) i) ≡ is_automatic o.class
  lives_as i o e = ap lives_in_frame e

  -- ---- in a function

  own_there : (g : FuncTy) (f : Framed) → frame_of parts modes g ≡ Ok f → (i : ℕ) (o : ObjectTy) → slice_get (unit_of parts).objects i ≡ Some o
      → (lives_in_frame (object_in (unit_of parts) i) ≡ true → is_own g i ≡ true) → home_of f i ≡ None → IsThere code i
  own_there g f framed i o e own none = by (placed_or_automatic i o o.class e refl)
    where
      by : (is_placed o.class ≡ true) ⊎ ((is_automatic o.class ≡ true) × (is_fixed o.class ≡ false)) → IsThere code i
      by (inl placed) = object_there i o e placed
      by (inr automatic) =
          let few : i < 2 ^ 32 = let below : i < length (unit_of parts).objects = item_below (unit_of parts).objects i o e in omega (arith, plain.few, below) in
          let found : sized.object_in parts i ≡ Some o = sym (slice_get-map object_of parts.objects.items i) ∙ e in
          let fixed : is_fixed_object (sized.object_in parts i) ≡ false = ap is_fixed_object found ∙ automatic.1 in
          let home : has_home (home_of f i) ≡ true = own_objects_have_homes parts modes g f i few framed ∙ (framed_own parts g i fixed ∙ own (lives_as i o e ∙ automatic.0)) in
          absurd (no_home (home_of f i) none home)

  known_items : (g : FuncTy) (f : Framed) → frame_of parts modes g ≡ Ok f → Knows (IsThere code) (unit_of parts) f (is_own g)
  known_items g f framed =
      let same : parts ≡ f.parts = sym (frame_parts parts modes g f framed) in
      record {
        literals = λ i bytes e. subst (λ (p : Parts). IsThere code (literal_symbol (numbers_of p) i).0) same (literal_there i bytes e);
        funcs = λ i h e. subst (λ (p : Parts). IsThere code (function_symbol (numbers_of p) i).0) same (function_there i h e);
        objects = λ i o e own none. own_there g f framed i o e own none;
      }

  params_inside : (g : FuncTy) → Inside (is_own g) g.params
  params_inside g i e = ap (λ (b : Bool). b || is_among (locals_of g) i) e

  locals_inside : (g : FuncTy) (body : Stmt) → g.body ≡ Some body → Inside (is_own g) (objects_in body)
  locals_inside g body e i h = by (is_among g.params i) (ap (λ (b : Option Stmt). is_among (objects_of b) i) e ∙ h)
    where
      by : (b : Bool) → is_among (locals_of g) i ≡ true → (b || is_among (locals_of g) i) ≡ true
      by true h = refl
      by false h = h

  body_known : (i : ℕ) (g : FuncTy) → slice_get (unit_of parts).funcs i ≡ Some g → KnownBody (IsThere code) parts modes g
  body_known i g e body f same framed =
      let func : IsFunc (unit_of parts) g = all_at (IsFunc (unit_of parts)) (unit_of parts).funcs i g program.unit.funcs e in
      let typed : IsBody (unit_of parts) g body = subst (HasBody (unit_of parts) g) same func.body in
      let scope : HasScopedBody (unit_of parts) g = all_at (HasScopedBody (unit_of parts)) (unit_of parts).funcs i g scoped.bodies e in
      let here : IsScoped (unit_of parts) (is_variadic g.ty) (entering g.params []) body = subst (IsScopedBody (unit_of parts) (is_variadic g.ty) g.params) same scope in
      scoped_stmt (IsThere code) (unit_of parts) f (is_own g) (is_variadic g.ty) (known_items g f framed) (entering g.params []) (context_of g body) body (locals_inside g body same)
      (inside_entered (is_own g) g.params [] (params_inside g) (λ j h. absurd cc)) typed.typed here

  bodies_known : Every (λ g. KnownBody (IsThere code) parts modes (func_of g)) parts.funcs.items
  bodies_known = every_from (λ (g : TFunc). KnownBody (IsThere code) parts modes (func_of g)) parts.funcs.items
      (λ i g e. body_known i (func_of g) (slice_get-map func_of parts.funcs.items i ∙ ap (option_map func_of) e))

  lines_known : Every (KnownFunction (IsThere code)) code.functions
  lines_known = functions_known (IsThere code) parts main modes 0 parts.funcs.items [] code.functions bodies_known is.functions tt

  -- ---- in data

  target_there : (t : Target) → IsOfWholeRun (unit_of parts) t → IsThere code (symbol_of (numbers_of parts) t).0
  target_there (targets.Object i) h = by (slice_get (unit_of parts).objects i) refl h
    where
      by : (o : Option ObjectTy) → slice_get (unit_of parts).objects i ≡ o → IsSome o × (lives_in_frame o ≡ false) → IsThere code i
      by None e h = absurd (let n : false ≡ true = h.0 in cc)
      by (Some o) e h = among (placed_or_automatic i o o.class e refl)
        where
          among : (is_placed o.class ≡ true) ⊎ ((is_automatic o.class ≡ true) × (is_fixed o.class ≡ false)) → IsThere code i
          among (inl placed) = object_there i o e placed
          among (inr automatic) = absurd (let a : is_automatic o.class ≡ true = automatic.0 in let n : is_automatic o.class ≡ false = h.1 in cc)
  target_there (targets.Literal l) h = by (slice_get (unit_of parts).literals l) refl h
    where
      by : (o : Option (List ℕ)) → slice_get (unit_of parts).literals l ≡ o → IsSome o → IsThere code (literal_symbol (numbers_of parts) l).0
      by None e h = absurd (let n : false ≡ true = h in cc)
      by (Some bytes) e h = literal_there l bytes e
  target_there (targets.Func i) h = by (slice_get (unit_of parts).funcs i) refl h
    where
      by : (o : Option FuncTy) → slice_get (unit_of parts).funcs i ≡ o → IsSome o → IsThere code (function_symbol (numbers_of parts) i).0
      by None e h = absurd (let n : false ≡ true = h in cc)
      by (Some g) e h = function_there i g e

  piece_there : (c : Cell) → PointsToWholeRun (unit_of parts) c → KnownPiece (IsThere code) (numbers_of parts) c
  piece_there (cells.Byte b) h = tt
  piece_there (cells.Piece t o part) h = target_there t h

  init_there : (i : ℕ) (o : ObjectTy) (init : Option (List Cell)) → slice_get (unit_of parts).objects i ≡ Some o → o.init ≡ init → KnownInit (IsThere code) (numbers_of parts) init
  init_there i o None e f = tt
  init_there i o (Some cs) e f = every_from (KnownPiece (IsThere code) (numbers_of parts)) cs (λ k c at. piece_there c (scoped.pointers i k o cs c e f at))

  cells_known : Every (KnownDatum (IsThere code)) (data_of parts)
  cells_known = data_known (IsThere code) parts (every_from (λ (o : ObjectTy). KnownInit (IsThere code) (numbers_of parts) o.init) (unit_of parts).objects (λ i o e. init_there i o o.init e refl))

  -- ---- all

  body_there : (k : ℕ) (symbol : Symbol) → slice_get code.symbols k ≡ Some symbol → IsThere code k → numbers.HasBody code k symbol
  body_there k symbol e (inr d) = inr (inl d)
  body_there k symbol e (inl b) = by (either_body code k b)
    where
      by : (has_segment code.functions k ≡ true) ⊎ (is_some (library_of (slice_get code.symbols k)) ≡ true) → numbers.HasBody code k symbol
      by (inl s) = let found = segment_found code.functions k s in inl (record { at = found.0; unit = found.1; there = found.2; is = found.3 })
      by (inr l) = inr (inr (ap (λ (o : Option Symbol). is_some (library_of o)) (sym e) ∙ l))

  named_there : (k : ℕ) (symbol : Symbol) → slice_get code.symbols k ≡ Some symbol → IsNamed code k → numbers.HasBody code k symbol
  named_there k symbol e (function i g at n) = inl (record { at = i; unit = g; there = at; is = n })
  named_there k symbol e (datum i d at n) = inr (inl (datum_at code.datums i k d at n))
  named_there k symbol e (by_line i j g line at on n) =
      let lines : AllKnown (IsThere code) g.1.lines = every_at (KnownFunction (IsThere code)) code.functions i g lines_known at in
      body_there k symbol e (line_there (IsThere code) line k (lines_at (IsThere code) g.1.lines j line lines.all on) n)
  named_there k symbol e (by_cell i j d c at on n) =
      let all : Every (KnownDatum (IsThere code)) code.datums = subst (Every (KnownDatum (IsThere code))) (sym is.datums) cells_known in
      let own : KnownDatum (IsThere code) d = every_at (KnownDatum (IsThere code)) code.datums i d all at in
      body_there k symbol e (cell_there (IsThere code) c k (every_at (KnownCell (IsThere code)) d.cells j c own on) n)

pub programs_are_closed : ProgramsAreClosed
programs_are_closed parts main names modes code program scoped plain made k symbol e named =
    named_there parts main names modes code (is_code parts main names modes code made) program scoped plain k symbol e named
