-- What a code's parts are asked for is what the whole code is asked for.
use Rattle.std.proofs.Common.{◌≡◌, ◌⊎◌, inl, inr, ℕ, ◌+◌, ◌<◌, true, false, ◌&&◌, List, [], map, Option, Some, None, length, slice_get, option_map, refl, sym, ap, subst, ◌∙◌, arith}
use Rattle.std.specs.Prelude.{◌↔◌, ◌^◌, Bool, IsTrue, All, get_or}
use Rattle.std.specs.List.{list_all}
use Rattle.std.proofs.lemmas.List.{length-map}
use Rattle.std.proofs.lemmas.Option.{slice_get-map, slice_get_within, get_or_from_slice_get, slice_get-get_or, none-some, same_Some}
use Rattle.c65_code.specs.declared.line.Sym.{Sym}
use Rattle.c65_code.specs.declared.line.Line.{Line}
use Rattle.c65_code.specs.declared.code.Code.{Code}
use Rattle.c65_code.specs.declared.code.Symbol.{Symbol}
use Rattle.c65_code.specs.declared.code.Datum.{Datum}
use Rattle.c65_code.specs.declared.code.DataCell.{DataCell}
use Rattle.c65_code.specs.Processors.{is_nmos_line, IsNmos}
use Rattle.c65_code.specs.Segments.{Segment, IsSegment}
use Rattle.c65_code.specs.Writable.{IsSpelling, IsNumbered, IsKnown, IsLineWritable, IsCellKnown, IsShaped, IsLetters, IsWritable}
use Rattle.c65_asm.specs.Renumbered.{IsOfTypes, IsLineOfTypes, IsCellOfTypes}
use Rattle.c65_asm_fit.specs.Fit.{IsSpelled, IsLineFit, IsFunctionFit, IsCellFit, IsDatumFit, function_number, datum_number, spelling_of, defined, ArePartsFit, IsFit}
use Rattle.c65_asm_fit.specs.Once.{IsOnce, comes_once, has_spelling, has_number}
use Rattle.c65_asm_fit.proofs.Once.{in_first, in_second, stands, spellings_yes, spellings_only, numbers_yes, numbers_only}

all_at : {A : Type 0} (P : A → Type 0) (xs : List A) (i : ℕ) (x : A) → All P xs → slice_get xs i ≡ Some x → P x
all_at P xs i x all h = subst P (get_or_from_slice_get xs i x x h) (all i x (slice_get_within xs i x h))

all_from : {A : Type 0} (P : A → Type 0) (xs : List A) → ((i : ℕ) (x : A) → slice_get xs i ≡ Some x → P x) → All P xs
all_from P xs h = λ i d low. h i (get_or xs i d) (slice_get-get_or xs i d low)

to_map : {A B : Type 0} → (g : A → B) (xs : List A) (i : ℕ) (x : A) → slice_get xs i ≡ Some x → slice_get (map g xs) i ≡ Some (g x)
to_map g xs i x h = slice_get-map g xs i ∙ ap (option_map g) h

-- the item that stands where something stands in a mapped list
record IsFrom {A B : Type 0} (g : A → B) (xs : List A) (i : ℕ) (y : B) : Type 0 where
  old : A
  there : slice_get xs i ≡ Some old
  is : g old ≡ y

from_map : {A B : Type 0} → (g : A → B) (xs : List A) (i : ℕ) (y : B) → slice_get (map g xs) i ≡ Some y → IsFrom g xs i y
from_map {A = A} g xs i y e = by (slice_get xs i) refl
  where
    by : (o : Option A) → slice_get xs i ≡ o → IsFrom g xs i y
    by None h = absurd (none-some y (sym (slice_get-map g xs i ∙ ap (option_map g) h) ∙ e))
    by (Some x) h = record { old = x; there = h; is = same_Some (g x) y (sym (slice_get-map g xs i ∙ ap (option_map g) h) ∙ e) }

-- ---- the parts of what an item is asked for

spelling_by : (s : Symbol) → IsSpelled s → IsSpelling s.spelling
spelling_by s (spelled, mark) = spelled

mark_by : (s : Symbol) → IsSpelled s → IsTrue s.literal ↔ IsNumbered 113 s.spelling
mark_by s (spelled, mark) = mark

known_by : (n : ℕ) (f : Sym × Segment) → IsFunctionFit n f → IsKnown n f.0
known_by n f (known, gives, segment, lines) = known

gives_by : (n : ℕ) (f : Sym × Segment) → IsFunctionFit n f → IsLetters f.1.out
gives_by n f (known, gives, segment, lines) = gives

segment_by : (n : ℕ) (f : Sym × Segment) → IsFunctionFit n f → IsSegment f.1.lines
segment_by n f (known, gives, segment, lines) = segment

lines_by : (n : ℕ) (f : Sym × Segment) → IsFunctionFit n f → All (IsLineFit n) f.1.lines
lines_by n f (known, gives, segment, lines) = lines

writable_by : (n : ℕ) (l : Line) → IsLineFit n l → IsLineWritable n l
writable_by n l (writable, typed) = writable

typed_by : (n : ℕ) (l : Line) → IsLineFit n l → IsLineOfTypes l
typed_by n l (writable, typed) = typed

defined_by : (n : ℕ) (d : Datum) → IsDatumFit n d → IsKnown n d.sym
defined_by n d (known, shaped, zeros, cells) = known

shaped_by : (n : ℕ) (d : Datum) → IsDatumFit n d → IsShaped d.kind (length d.cells) d.zeros
shaped_by n d (known, shaped, zeros, cells) = shaped

zeros_by : (n : ℕ) (d : Datum) → IsDatumFit n d → d.zeros < 2 ^ 32
zeros_by n d (known, shaped, zeros, cells) = zeros

cells_by : (n : ℕ) (d : Datum) → IsDatumFit n d → All (IsCellFit n) d.cells
cells_by n d (known, shaped, zeros, cells) = cells

cell_by : (n : ℕ) (c : DataCell) → IsCellFit n c → IsCellKnown n c
cell_by n c (known, typed) = known

cell_typed_by : (n : ℕ) (c : DataCell) → IsCellFit n c → IsCellOfTypes c
cell_typed_by n c (known, typed) = typed

-- ---- from the parts

module _ (code : Code) (fit : IsFit code) where
  symbol_at : (i : ℕ) (s : Symbol) → slice_get code.symbols i ≡ Some s → IsSpelled s
  symbol_at i s h = all_at IsSpelled code.symbols i s fit.symbols h

  function_at : (i : ℕ) (f : Sym × Segment) → slice_get code.functions i ≡ Some f → IsFunctionFit (length code.symbols) f
  function_at i f h = all_at (IsFunctionFit (length code.symbols)) code.functions i f fit.functions h

  line_at : (i k : ℕ) (f : Sym × Segment) (l : Line) → slice_get code.functions i ≡ Some f → slice_get f.1.lines k ≡ Some l → IsLineFit (length code.symbols) l
  line_at i k f l h there = all_at (IsLineFit (length code.symbols)) f.1.lines k l (lines_by (length code.symbols) f (function_at i f h)) there

  datum_at : (i : ℕ) (d : Datum) → slice_get code.datums i ≡ Some d → IsDatumFit (length code.symbols) d
  datum_at i d h = all_at (IsDatumFit (length code.symbols)) code.datums i d fit.datums h

  cell_at : (i k : ℕ) (d : Datum) (c : DataCell) → slice_get code.datums i ≡ Some d → slice_get d.cells k ≡ Some c → IsCellFit (length code.symbols) c
  cell_at i k d c h there = all_at (IsCellFit (length code.symbols)) d.cells k c (cells_by (length code.symbols) d (datum_at i d h)) there

  -- where a function and a datum stand among all that is defined
  function_there : (i : ℕ) (f : Sym × Segment) (n : ℕ) → slice_get code.functions i ≡ Some f → f.0.0 ≡ n → slice_get (defined code.functions code.datums) i ≡ Some n
  function_there i f n h e = in_first (map function_number code.functions) (map datum_number code.datums) i n (to_map function_number code.functions i f h ∙ ap Some e)

  datum_there : (j : ℕ) (d : Datum) (n : ℕ) → slice_get code.datums j ≡ Some d → d.sym.0 ≡ n → slice_get (defined code.functions code.datums) (length (map function_number code.functions) + j) ≡ Some n
  datum_there j d n h e = in_second (map function_number code.functions) (map datum_number code.datums) j n (to_map datum_number code.datums j d h ∙ ap Some e)

  own_datum : (i j : ℕ) (d e : Datum) → slice_get code.datums i ≡ Some d → slice_get code.datums j ≡ Some e → d.sym.0 ≡ e.sym.0 → i ≡ j
  own_datum i j d e p q k =
      let same : length (map function_number code.functions) + i ≡ length (map function_number code.functions) + j = fit.once (length (map function_number code.functions) + i) (length (map function_number code.functions) + j) e.sym.0 (datum_there i d e.sym.0 p k) (datum_there j e e.sym.0 q refl) in
      omega (arith, same)

  apart : (i j : ℕ) (f : Sym × Segment) (d : Datum) → slice_get code.functions i ≡ Some f → slice_get code.datums j ≡ Some d → f.0.0 ≡ d.sym.0 → ⊥
  apart i j f d p q e =
      let same : i ≡ length (map function_number code.functions) + j = fit.once i (length (map function_number code.functions) + j) d.sym.0 (function_there i f d.sym.0 p e) (datum_there j d d.sym.0 q refl) in
      omega (arith, same, length-map code.functions function_number, slice_get_within code.functions i f p)

  pub writable_from : IsWritable code
  writable_from = record {
    spelled = λ i s h. spelling_by s (symbol_at i s h);
    marked = λ i s h. mark_by s (symbol_at i s h);
    own_spelling = λ i j a b p q e. fit.own i j b.spelling (to_map spelling_of code.symbols i a p ∙ ap Some e) (to_map spelling_of code.symbols j b q);
    function_known = λ i f h. known_by (length code.symbols) f (function_at i f h);
    datum_known = λ i d h. defined_by (length code.symbols) d (datum_at i d h);
    own_function = λ i j f g p q e. fit.once i j g.0.0 (function_there i f g.0.0 p e) (function_there j g g.0.0 q refl);
    own_datum = own_datum;
    apart = apart;
    gives = λ i f h. gives_by (length code.symbols) f (function_at i f h);
    line = λ i k f l h there. writable_by (length code.symbols) l (line_at i k f l h there);
    cell = λ i k d c h there. cell_by (length code.symbols) c (cell_at i k d c h there);
    shaped = λ i d h. shaped_by (length code.symbols) d (datum_at i d h);
  }

  pub typed_from : IsOfTypes code
  typed_from = record {
    segment = λ i f h. segment_by (length code.symbols) f (function_at i f h);
    line = λ i k f l h there. typed_by (length code.symbols) l (line_at i k f l h there);
    cell = λ i k d c h there. cell_typed_by (length code.symbols) c (cell_at i k d c h there);
    zeros = λ i d h. zeros_by (length code.symbols) d (datum_at i d h);
  }

-- ---- to the parts

module _ (code : Code) (w : IsWritable code) (t : IsOfTypes code) where
  own_spellings : IsOnce (map spelling_of code.symbols)
  own_spellings i j s p q =
      let a = from_map spelling_of code.symbols i s p in
      let b = from_map spelling_of code.symbols j s q in
      w.own_spelling i j a.old b.old a.there b.there (a.is ∙ sym b.is)

  defined_once : IsOnce (defined code.functions code.datums)
  defined_once i j n p q = by (stands fs ds i n p) (stands fs ds j n q)
    where
      fs : List ℕ
      fs = map function_number code.functions

      ds : List ℕ
      ds = map datum_number code.datums

      both : (a b k m : ℕ) → a ≡ length fs + k → b ≡ length fs + m → k ≡ m → a ≡ b
      both a b k m e g h = omega (arith, e, g, h)

      mixed : (a m : ℕ) → slice_get fs a ≡ Some n → slice_get ds m ≡ Some n → ⊥
      mixed a m x y =
          let f = from_map function_number code.functions a n x in
          let d = from_map datum_number code.datums m n y in
          w.apart a m f.old d.old f.there d.there (f.is ∙ sym d.is)

      by : (slice_get fs i ≡ Some n) ⊎ ((k : ℕ) × (i ≡ length fs + k) × (slice_get ds k ≡ Some n)) → (slice_get fs j ≡ Some n) ⊎ ((k : ℕ) × (j ≡ length fs + k) × (slice_get ds k ≡ Some n)) → i ≡ j
      by (inl x) (inl y) =
          let a = from_map function_number code.functions i n x in
          let b = from_map function_number code.functions j n y in
          w.own_function i j a.old b.old a.there b.there (a.is ∙ sym b.is)
      by (inl x) (inr (m, g, y)) = absurd (mixed i m x y)
      by (inr (k, e, x)) (inl y) = absurd (mixed j k y x)
      by (inr (k, e, x)) (inr (m, g, y)) =
          let a = from_map datum_number code.datums k n x in
          let b = from_map datum_number code.datums m n y in
          both i j k m e g (w.own_datum k m a.old b.old a.there b.there (a.is ∙ sym b.is))

  pub fit_from : IsFit code
  fit_from = record {
    symbols = all_from IsSpelled code.symbols (λ i s h. (w.spelled i s h, w.marked i s h));
    functions = all_from (IsFunctionFit (length code.symbols)) code.functions (λ i f h. (w.function_known i f h, w.gives i f h, t.segment i f h, all_from (IsLineFit (length code.symbols)) f.1.lines (λ k l there. (w.line i k f l h there, t.line i k f l h there))));
    datums = all_from (IsDatumFit (length code.symbols)) code.datums (λ i d h. (w.datum_known i d h, w.shaped i d h, t.zeros i d h, all_from (IsCellFit (length code.symbols)) d.cells (λ k c there. (w.cell i k d c h there, t.cell i k d c h there))));
    own = own_spellings;
    once = defined_once;
  }

-- ---- by the tests

left_of : (a b : Bool) → (a && b) ≡ true → a ≡ true
left_of true b h = refl
left_of false b h = absurd cc

right_of : (a b : Bool) → (a && b) ≡ true → b ≡ true
right_of true b h = h
right_of false b h = absurd cc

all_true : (a b c : Bool) → a ≡ true → b ≡ true → c ≡ true → (a && (b && c)) ≡ true
all_true true true true h k l = refl
all_true true true false h k l = absurd cc
all_true true false c h k l = absurd cc
all_true false b c h k l = absurd cc

pub parts_tested : (code : Code) (a b d so : Bool) → IsTrue a ↔ All IsSpelled code.symbols → IsTrue b ↔ All (IsFunctionFit (length code.symbols)) code.functions → IsTrue d ↔ All (IsDatumFit (length code.symbols)) code.datums
    → so ≡ (a && (b && d)) → IsTrue so ↔ ArePartsFit code
parts_tested code a b d so p q r is = (λ h. forth (sym is ∙ h), back)
  where
    forth : (a && (b && d)) ≡ true → ArePartsFit code
    forth e = (p.0 (left_of a (b && d) e), q.0 (left_of b d (right_of a (b && d) e)), r.0 (right_of b d (right_of a (b && d) e)))

    back : ArePartsFit code → IsTrue so
    back (symbols, functions, datums) = is ∙ all_true a b d (p.1 symbols) (q.1 functions) (r.1 datums)

pub tested : (code : Code) (parts own once so : Bool) → IsTrue parts ↔ ArePartsFit code → own ≡ comes_once has_spelling [] (map spelling_of code.symbols) → once ≡ comes_once has_number [] (defined code.functions code.datums)
    → so ≡ (parts && (own && once)) → IsTrue so ↔ (IsWritable code × IsOfTypes code)
tested code parts own once so p o d is = (λ h. (writable_from code (fit (sym is ∙ h)), typed_from code (fit (sym is ∙ h))), λ w. back (w.0) (w.1))
  where
    parts_fit : ArePartsFit code → IsOnce (map spelling_of code.symbols) → IsOnce (defined code.functions code.datums) → IsFit code
    parts_fit (symbols, functions, datums) spelled defines = record { symbols = symbols; functions = functions; datums = datums; own = spelled; once = defines }

    fit : (parts && (own && once)) ≡ true → IsFit code
    fit h = parts_fit (p.0 (left_of parts (own && once) h)) (spellings_yes (map spelling_of code.symbols) (sym o ∙ left_of own once (right_of parts (own && once) h)))
        (numbers_yes (defined code.functions code.datums) (sym d ∙ right_of own once (right_of parts (own && once) h)))

    back : IsWritable code → IsOfTypes code → so ≡ true
    back w t =
        let f : IsFit code = fit_from code w t in
        is ∙ all_true parts own once (p.1 (f.symbols, f.functions, f.datums)) (o ∙ spellings_only (map spelling_of code.symbols) f.own) (d ∙ numbers_only (defined code.functions code.datums) f.once)

-- ---- rows

pub nmos_is : (code : Code) (b : Bool) → IsTrue b ↔ All (λ (f : Sym × Segment). IsTrue (list_all is_nmos_line f.1.lines)) code.functions → IsTrue b ↔ IsNmos code
nmos_is code b e = (λ h i f there. all_at IsEarly code.functions i f (e.0 h) there, λ n. e.1 (all_from IsEarly code.functions n))
  where
    IsEarly : Sym × Segment → Type 0
    IsEarly f = IsTrue (list_all is_nmos_line f.1.lines)
