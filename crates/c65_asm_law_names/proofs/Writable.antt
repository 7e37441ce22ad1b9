-- A code that can be written can be written with other numbers of its symbols.
use Rattle.std.proofs.Common.{◌≡◌, ℕ, ◌==◌, true, false, List, [], ◌∷◌, Option, Some, None, option_map, map, length, refl, sym, ap, ◌∙◌, subst, arith, IsTrue, get_or}
use Rattle.std.specs.Prelude.{slice_get, ◌↔◌}
use Rattle.std.proofs.Common.{inl, inr}
use Rattle.std.proofs.lemmas.Option.{none-some, same_Some, slice_get-map, slice_get_within, slice_get-get_or}
use Rattle.std.proofs.lemmas.List.{length-map}
use Rattle.std.proofs.lemmas.Bool.{and_parts, eqb-true}
use Rattle.c65_code.specs.declared.line.Sym.{Sym}
use Rattle.c65_code.specs.declared.line.Operand.{Operand}
use Rattle.c65_code.specs.declared.line.Operand.TheVariants as operands
use Rattle.c65_code.specs.declared.line.Callee.{Callee}
use Rattle.c65_code.specs.declared.line.Callee.TheVariants as callees
use Rattle.c65_code.specs.declared.line.Line.{Line}
use Rattle.c65_code.specs.declared.line.Line.TheVariants as lines
use Rattle.c65_code.specs.declared.code.Code.{Code}
use Rattle.c65_code.specs.declared.code.Symbol.{Symbol}
use Rattle.c65_code.specs.declared.code.Datum.{Datum}
use Rattle.c65_code.specs.declared.code.DataCell.{DataCell}
use Rattle.c65_code.specs.declared.code.DataCell.TheVariants.{Byte, Address}
use Rattle.c65_code.specs.Segments.{Segment}
use Rattle.c65_code.specs.Writable.{IsSpelling, IsNumbered, is_external, IsKnown, IsOperandKnown, IsCalleeKnown, IsLineWritable, IsCellKnown, IsShaped, IsLetters, IsWritable, AreCallLetters}
use Rattle.c65_asm.specs.Words.{begins}
use Rattle.c65_asm.specs.Text.{sym_text, spelling_of}
use Rattle.c65_asm.specs.Symbols.{symbol_of, symbols_of}
use Rattle.c65_asm.specs.Renumbered.{names_of, renamed, renamed_operand, renamed_callee, renamed_line, renamed_function, renamed_cell, renamed_datum, renumbered}
use Rattle.c65_link.specs.Symbols.{operand_symbol, callee_symbol, line_symbol, cell_symbol}
use Rattle.c65_asm_law_names.proofs.Naming.{IsPart, function, datum, line, cell, names_of_parts, names_distinct, placed, same_text}

-- ---- where something stands in a list that was changed item by item

pub record IsFrom {A B : Type 0} (g : A → B) (xs : List A) (i : ℕ) (y : B) : Type 0 where
  pub old : A
  pub there : slice_get xs i ≡ Some old
  pub is : y ≡ g old

pub from_map : {A B : Type 0} → (g : A → B) (xs : List A) (i : ℕ) (y : B) → slice_get (map g xs) i ≡ Some y → IsFrom g xs i y
from_map {A = A} g xs i y e = by (slice_get xs i) refl
  where
    by : (o : Option A) → slice_get xs i ≡ o → IsFrom g xs i y
    by None h = absurd (none-some y (sym (slice_get-map g xs i ∙ ap (option_map g) h) ∙ e))
    by (Some x) h = record { old = x; there = h; is = same_Some y (g x) (sym e ∙ slice_get-map g xs i ∙ ap (option_map g) h) }

pub to_map : {A B : Type 0} → (g : A → B) (xs : List A) (i : ℕ) (x : A) → slice_get xs i ≡ Some x → slice_get (map g xs) i ≡ Some (g x)
to_map g xs i x h = slice_get-map g xs i ∙ ap (option_map g) h

-- ---- spellings

numbered_mark : (letter : ℕ) (s : List ℕ) → IsNumbered letter s → begins 113 s ≡ begins 113 (letter ∷ [])
numbered_mark letter s n = ap (begins 113) n.2

first_is : (b : ℕ) (c : ℕ) (cs : List ℕ) → is_external (b ∷ c ∷ cs) ≡ true → (b == 95) ≡ true
first_is b c cs h = (and_parts (b == 95) _ h).0

-- a spelling is a literal's exactly where it begins with q
marked_by : (s : List ℕ) → IsSpelling s → begins 113 s ≡ true → IsNumbered 113 s
marked_by s (inr (inr n)) h = n
marked_by s (inr (inl n)) h = let e : false ≡ true = sym (numbered_mark 115 s n) ∙ h in cc
marked_by [] (inl x) h = cc
marked_by (b ∷ []) (inl x) h = cc
marked_by (b ∷ c ∷ cs) (inl x) h = let e = eqb-true b 95 (first_is b c cs x) in let f = eqb-true b 113 h in absurd (omega (arith, e, f))

-- ---- the symbols of parts

operand_known : (count : ℕ) (o : Operand) (x : Sym) → IsOperandKnown count o → operand_symbol o ≡ Some x → IsKnown count x
operand_known count (operands.Low y offset) x k e = subst (IsKnown count) (same_Some y x e) k
operand_known count (operands.High y offset) x k e = subst (IsKnown count) (same_Some y x e) k
operand_known count (operands.At y offset) x k e = subst (IsKnown count) (same_Some y x e) k
operand_known count operands.Nothing x k e = absurd (none-some x e)
operand_known count (operands.Byte v) x k e = absurd (none-some x e)
operand_known count (operands.Zero v) x k e = absurd (none-some x e)
operand_known count (operands.To l) x k e = absurd (none-some x e)

callee_known : (count : ℕ) (c : Callee) (x : Sym) → IsCalleeKnown count c → callee_symbol c ≡ Some x → IsKnown count x
callee_known count (callees.Routine r) x k e = absurd (none-some x e)
callee_known count (callees.Function f reads gives) x k e = subst (IsKnown count) (same_Some f x e) k
callee_known count (callees.Pointer reads gives) x k e = absurd (none-some x e)

line_known : (count : ℕ) (l : Line) (x : Sym) → IsLineWritable count l → line_symbol l ≡ Some x → IsKnown count x
line_known count (lines.Label l) x k e = absurd (none-some x e)
line_known count (lines.Do op mode o) x k e = operand_known count o x k.1 e
line_known count (lines.Call c) x k e = callee_known count c x k.0 e

cell_known : (count : ℕ) (c : DataCell) (x : Sym) → IsCellKnown count c → cell_symbol c ≡ Some x → IsKnown count x
cell_known count (Byte v) x k e = absurd (none-some x e)
cell_known count (Address y offset) x k e = subst (IsKnown count) (same_Some y x e) k

module _ (symbols : List Symbol) (names : List (List ℕ)) where
  -- a part with other numbers names the new number of what it named

  operand_renamed : (o : Operand) (x : Sym) → operand_symbol o ≡ Some x → operand_symbol (renamed_operand symbols names o) ≡ Some (renamed symbols names x)
  operand_renamed (operands.Low y offset) x e = ap (λ z. Some (renamed symbols names z)) (same_Some y x e)
  operand_renamed (operands.High y offset) x e = ap (λ z. Some (renamed symbols names z)) (same_Some y x e)
  operand_renamed (operands.At y offset) x e = ap (λ z. Some (renamed symbols names z)) (same_Some y x e)
  operand_renamed operands.Nothing x e = absurd (none-some x e)
  operand_renamed (operands.Byte v) x e = absurd (none-some x e)
  operand_renamed (operands.Zero v) x e = absurd (none-some x e)
  operand_renamed (operands.To l) x e = absurd (none-some x e)

  callee_renamed : (c : Callee) (x : Sym) → callee_symbol c ≡ Some x → callee_symbol (renamed_callee symbols names c) ≡ Some (renamed symbols names x)
  callee_renamed (callees.Routine r) x e = absurd (none-some x e)
  callee_renamed (callees.Function f reads gives) x e = ap (λ z. Some (renamed symbols names z)) (same_Some f x e)
  callee_renamed (callees.Pointer reads gives) x e = absurd (none-some x e)

  pub line_renamed : (l : Line) (x : Sym) → line_symbol l ≡ Some x → line_symbol (renamed_line symbols names l) ≡ Some (renamed symbols names x)
  line_renamed (lines.Label l) x e = absurd (none-some x e)
  line_renamed (lines.Do op mode o) x e = operand_renamed o x e
  line_renamed (lines.Call c) x e = callee_renamed c x e

  pub cell_renamed : (c : DataCell) (x : Sym) → cell_symbol c ≡ Some x → cell_symbol (renamed_cell symbols names c) ≡ Some (renamed symbols names x)
  cell_renamed (Byte v) x e = absurd (none-some x e)
  cell_renamed (Address y offset) x e = ap (λ z. Some (renamed symbols names z)) (same_Some y x e)

  -- and is as writable as it was, where that number is one of so many

  module _ (count : ℕ) where
    abbrev AreKnown : Option Sym → Type 0
    AreKnown o = (x : Sym) → o ≡ Some x → IsKnown count (renamed symbols names x)

    operand_writable : (o : Operand) → AreKnown (operand_symbol o) → IsOperandKnown count (renamed_operand symbols names o)
    operand_writable (operands.Low y offset) k = k y refl
    operand_writable (operands.High y offset) k = k y refl
    operand_writable (operands.At y offset) k = k y refl
    operand_writable operands.Nothing k = tt
    operand_writable (operands.Byte v) k = tt
    operand_writable (operands.Zero v) k = tt
    operand_writable (operands.To l) k = tt

    callee_writable : (c : Callee) → AreCallLetters c → AreKnown (callee_symbol c) → IsCalleeKnown count (renamed_callee symbols names c) × AreCallLetters (renamed_callee symbols names c)
    callee_writable (callees.Routine r) a k = (tt, tt)
    callee_writable (callees.Function f reads gives) a k = (k f refl, a)
    callee_writable (callees.Pointer reads gives) a k = (tt, a)

    pub line_writable : (before : ℕ) (l : Line) → IsLineWritable before l → AreKnown (line_symbol l) → IsLineWritable count (renamed_line symbols names l)
    line_writable before (lines.Label l) w k = tt
    line_writable before (lines.Do op mode o) w k = (w.0, operand_writable o k)
    line_writable before (lines.Call c) w k = callee_writable c w.1 k

    pub cell_writable : (c : DataCell) → AreKnown (cell_symbol c) → IsCellKnown count (renamed_cell symbols names c)
    cell_writable (Byte v) k = tt
    cell_writable (Address y offset) k = k y refl

module _ (code : Code) (w : IsWritable code) where
  -- ---- symbols that are named

  pub part_known : (x : Sym) → IsPart code x → IsKnown (length code.symbols) x
  part_known x (function k f at e) = subst (IsKnown (length code.symbols)) e (w.function_known k f at)
  part_known x (datum k d at e) = subst (IsKnown (length code.symbols)) e (w.datum_known k d at)
  part_known x (line k j f l at here e) = line_known (length code.symbols) l x (w.line k j f l at here) e
  part_known x (cell k j d c at here e) = cell_known (length code.symbols) c x (w.cell k j d c at here) e

  pub record IsThere (x : Sym) : Type 0 where
    pub symbol : Symbol
    pub at : slice_get code.symbols x.0 ≡ Some symbol
    pub text : sym_text code.symbols x ≡ symbol.spelling

  pub part_there : (x : Sym) → IsPart code x → IsThere x
  part_there x part =
      let none : Symbol = record { spelling = []; literal = false } in
      let at = slice_get-get_or code.symbols x.0 none (part_known x part) in
      record { symbol = get_or code.symbols x.0 none; at = at; text = ap spelling_of at }

  -- parts of like new numbers name one symbol
  pub part_same : (x y : Sym) → IsPart code x → IsPart code y → (renamed code.symbols (names_of code) x).0 ≡ (renamed code.symbols (names_of code) y).0 → x.0 ≡ y.0
  part_same x y p q e =
      let a = part_there x p in
      let b = part_there y q in
      w.own_spelling x.0 y.0 a.symbol b.symbol a.at b.at (sym a.text ∙ same_text code x y p q e ∙ b.text)

  pub part_numbered : (x : Sym) → IsPart code x → IsKnown (length (symbols_of (names_of code))) (renamed code.symbols (names_of code) x)
  part_numbered x part =
      let inside = slice_get_within (names_of code) (renamed code.symbols (names_of code) x).0 (sym_text code.symbols x) (placed code x part) in
      let same : length (symbols_of (names_of code)) ≡ length (names_of code) = length-map (names_of code) symbol_of in
      omega (arith, inside, same)

  -- ---- names

  name_spelled : (i : ℕ) (s : List ℕ) → slice_get (names_of code) i ≡ Some s → IsSpelling s
  name_spelled i s at =
      let p = names_of_parts code i s at in
      let t = part_there p.0 p.1 in
      subst IsSpelling (sym t.text ∙ p.2) (w.spelled p.0.0 t.symbol t.at)

  -- ---- functions and data

  pub old_function : (i : ℕ) (f : Sym × Segment) → slice_get (renumbered code).functions i ≡ Some f → IsFrom (renamed_function code.symbols (names_of code)) code.functions i f
  old_function i f at = from_map (renamed_function code.symbols (names_of code)) code.functions i f at

  pub old_datum : (i : ℕ) (d : Datum) → slice_get (renumbered code).datums i ≡ Some d → IsFrom (renamed_datum code.symbols (names_of code)) code.datums i d
  old_datum i d at = from_map (renamed_datum code.symbols (names_of code)) code.datums i d at

  pub old_line : (f g : Sym × Segment) → f ≡ renamed_function code.symbols (names_of code) g → (k : ℕ) (l : Line) → slice_get f.1.lines k ≡ Some l → IsFrom (renamed_line code.symbols (names_of code)) g.1.lines k l
  old_line f g e k l at = from_map (renamed_line code.symbols (names_of code)) g.1.lines k l (ap (λ (h : Sym × Segment). slice_get h.1.lines k) (sym e) ∙ at)

  pub old_cell : (d e : Datum) → d ≡ renamed_datum code.symbols (names_of code) e → (k : ℕ) (c : DataCell) → slice_get d.cells k ≡ Some c → IsFrom (renamed_cell code.symbols (names_of code)) e.cells k c
  old_cell d e same k c at = from_map (renamed_cell code.symbols (names_of code)) e.cells k c (ap (λ (h : Datum). slice_get h.cells k) (sym same) ∙ at)

  abbrev number_of : Sym × Segment → ℕ
  number_of f = f.0.0

  abbrev datum_number : Datum → ℕ
  datum_number d = d.sym.0

  pub renumbered_writable : IsWritable (renumbered code)
  renumbered_writable = record {
    spelled = λ i symbol at. let s = from_map symbol_of (names_of code) i symbol at in subst (λ (x : Symbol). IsSpelling x.spelling) (sym s.is) (name_spelled i s.old s.there);
    marked = λ i symbol at.
        let s = from_map symbol_of (names_of code) i symbol at in
        subst (λ (x : Symbol). IsTrue x.literal ↔ IsNumbered 113 x.spelling) (sym s.is) (λ h. marked_by s.old (name_spelled i s.old s.there) h, λ n. numbered_mark 113 s.old n);
    own_spelling = λ i j a b at there e.
        let s = from_map symbol_of (names_of code) i a at in
        let t = from_map symbol_of (names_of code) j b there in
        let same : s.old ≡ t.old = sym (ap (λ (x : Symbol). x.spelling) s.is) ∙ e ∙ ap (λ (x : Symbol). x.spelling) t.is in
        names_distinct code i j t.old (s.there ∙ ap Some same) t.there;
    function_known = λ i f at.
        let g = old_function i f at in
        subst (λ (h : Sym × Segment). IsKnown (length (symbols_of (names_of code))) h.0) (sym g.is) (part_numbered g.old.0 (function i g.old g.there refl));
    datum_known = λ i d at.
        let g = old_datum i d at in
        subst (λ (h : Datum). IsKnown (length (symbols_of (names_of code))) h.sym) (sym g.is) (part_numbered g.old.sym (datum i g.old g.there refl));
    own_function = λ i j f g at there e.
        let a = old_function i f at in
        let b = old_function j g there in
        w.own_function i j a.old b.old a.there b.there (part_same a.old.0 b.old.0 (function i a.old a.there refl) (function j b.old b.there refl) (sym (ap number_of a.is) ∙ e ∙ ap number_of b.is));
    own_datum = λ i j d g at there e.
        let a = old_datum i d at in
        let b = old_datum j g there in
        w.own_datum i j a.old b.old a.there b.there (part_same a.old.sym b.old.sym (datum i a.old a.there refl) (datum j b.old b.there refl) (sym (ap datum_number a.is) ∙ e ∙ ap datum_number b.is));
    apart = λ i j f d at there e.
        let a = old_function i f at in
        let b = old_datum j d there in
        w.apart i j a.old b.old a.there b.there (part_same a.old.0 b.old.sym (function i a.old a.there refl) (datum j b.old b.there refl) (sym (ap number_of a.is) ∙ e ∙ ap datum_number b.is));
    gives = λ i f at. let g = old_function i f at in subst (λ (h : Sym × Segment). IsLetters h.1.out) (sym g.is) (w.gives i g.old g.there);
    line = λ i k f l at here.
        let g = old_function i f at in
        let m = old_line f g.old g.is k l here in
        subst (IsLineWritable (length (symbols_of (names_of code)))) (sym m.is)
        (line_writable code.symbols (names_of code) (length (symbols_of (names_of code))) (length code.symbols) m.old (w.line i k g.old m.old g.there m.there) (λ x e. part_numbered x (line i k g.old m.old g.there m.there e)));
    cell = λ i k d c at here.
        let g = old_datum i d at in
        let m = old_cell d g.old g.is k c here in
        subst (IsCellKnown (length (symbols_of (names_of code)))) (sym m.is)
        (cell_writable code.symbols (names_of code) (length (symbols_of (names_of code))) m.old (λ x e. part_numbered x (cell i k g.old m.old g.there m.there e)));
    shaped = λ i d at.
        let g = old_datum i d at in
        let long : length (map (renamed_cell code.symbols (names_of code)) g.old.cells) ≡ length g.old.cells = length-map g.old.cells (renamed_cell code.symbols (names_of code)) in
        subst (λ (h : Datum). IsShaped h.kind (length h.cells) h.zeros) (sym g.is) (subst (λ (n : ℕ). IsShaped g.old.kind n g.old.zeros) (sym long) (w.shaped i g.old g.there));
  }
