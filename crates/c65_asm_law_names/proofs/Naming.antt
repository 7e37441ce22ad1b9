-- The symbols that a text names: each by a part of the code, each once, and none of the code's is left out.
use Rattle.std.proofs.Common.{◌≡◌, ℕ, zero, suc, List, [], ◌∷◌, ◌++◌, Option, Some, None, refl, sym, ap, ◌∙◌, subst}
use Rattle.std.specs.Prelude.{slice_get, unwrap_or, ◌⊎◌}
use Rattle.std.proofs.Common.{inl, inr}
use Rattle.std.proofs.lemmas.Option.{none-some, same_Some}
use Rattle.c65_base.specs.Names.{name_of, with_spelling, IsDistinct}
use Rattle.c65_base.proofs.NameLaws.{name_of-at, with_known, with_new, distinct_more}
use Rattle.c65_code.specs.declared.line.Sym.{Sym}
use Rattle.c65_code.specs.declared.line.Operand.{Operand}
use Rattle.c65_code.specs.declared.line.Operand.TheVariants as operands
use Rattle.c65_code.specs.declared.line.Callee.{Callee}
use Rattle.c65_code.specs.declared.line.Callee.TheVariants as callees
use Rattle.c65_code.specs.declared.line.Line.{Line}
use Rattle.c65_code.specs.declared.line.Line.TheVariants as lines
use Rattle.c65_code.specs.declared.code.Code.{Code}
use Rattle.c65_code.specs.declared.code.Symbol.{Symbol}
use Rattle.c65_code.specs.declared.code.Datum.{Datum}
use Rattle.c65_code.specs.declared.code.DataCell.{DataCell}
use Rattle.c65_code.specs.declared.code.DataCell.TheVariants.{Byte, Address}
use Rattle.c65_code.specs.Segments.{Segment}
use Rattle.c65_asm.specs.Text.{sym_text}
use Rattle.c65_asm.specs.Renumbered.{naming, naming_operand, naming_callee, naming_line, naming_lines, naming_function, naming_functions, naming_cell, naming_cells, naming_datum, naming_datums, names_of, renamed}
use Rattle.c65_asm.proofs.NumberLaws.{Grows, grows_on, grows_lines, grows_functions, grows_cells, grows_datums, IsNamed, named_now, named_later}
use Rattle.c65_link.specs.Symbols.{operand_symbol, callee_symbol, line_symbol, cell_symbol}

-- ---- what holds of the names behind each part

module _ (symbols : List Symbol) (Uses : Sym → Type 0) (P : List (List ℕ) → Type 0) (step : (sym : Sym) (names : List (List ℕ)) → Uses sym → P names → P (naming symbols sym names)) where
  -- each symbol that a part names is used
  abbrev Used : Option Sym → Type 0
  Used o = (sym : Sym) → o ≡ Some sym → Uses sym

  over_operand : (o : Operand) (names : List (List ℕ)) → Used (operand_symbol o) → P names → P (naming_operand symbols o names)
  over_operand (operands.Low sym offset) names u p = step sym names (u sym refl) p
  over_operand (operands.High sym offset) names u p = step sym names (u sym refl) p
  over_operand (operands.At sym offset) names u p = step sym names (u sym refl) p
  over_operand operands.Nothing names u p = p
  over_operand (operands.Byte v) names u p = p
  over_operand (operands.Zero v) names u p = p
  over_operand (operands.To l) names u p = p

  over_callee : (c : Callee) (names : List (List ℕ)) → Used (callee_symbol c) → P names → P (naming_callee symbols c names)
  over_callee (callees.Routine r) names u p = p
  over_callee (callees.Function f reads gives) names u p = step f names (u f refl) p
  over_callee (callees.Pointer reads gives) names u p = p

  over_line : (line : Line) (names : List (List ℕ)) → Used (line_symbol line) → P names → P (naming_line symbols line names)
  over_line (lines.Label l) names u p = p
  over_line (lines.Do op mode o) names u p = over_operand o names u p
  over_line (lines.Call c) names u p = over_callee c names u p

  over_lines : (ls : List Line) (names : List (List ℕ)) → ((j : ℕ) (line : Line) → slice_get ls j ≡ Some line → Used (line_symbol line)) → P names → P (naming_lines symbols ls names)
  over_lines [] names u p = p
  over_lines (l ∷ ls) names u p = over_lines ls (naming_line symbols l names) (λ j. u (suc j)) (over_line l names (u 0 l refl) p)

  abbrev UsedIn : List (Sym × Segment) → Type 0
  UsedIn fs = (k : ℕ) (f : Sym × Segment) → slice_get fs k ≡ Some f → Uses f.0 × ((j : ℕ) (line : Line) → slice_get f.1.lines j ≡ Some line → Used (line_symbol line))

  over_functions : (fs : List (Sym × Segment)) (names : List (List ℕ)) → UsedIn fs → P names → P (naming_functions symbols fs names)
  over_functions [] names u p = p
  over_functions (f ∷ fs) names u p =
      over_functions fs (naming_function symbols f names) (λ k. u (suc k)) (over_lines f.1.lines (naming symbols f.0 names) (u 0 f refl).1 (step f.0 names (u 0 f refl).0 p))

  over_cell : (c : DataCell) (names : List (List ℕ)) → Used (cell_symbol c) → P names → P (naming_cell symbols c names)
  over_cell (Byte v) names u p = p
  over_cell (Address sym offset) names u p = step sym names (u sym refl) p

  over_cells : (cs : List DataCell) (names : List (List ℕ)) → ((j : ℕ) (cell : DataCell) → slice_get cs j ≡ Some cell → Used (cell_symbol cell)) → P names → P (naming_cells symbols cs names)
  over_cells [] names u p = p
  over_cells (c ∷ cs) names u p = over_cells cs (naming_cell symbols c names) (λ j. u (suc j)) (over_cell c names (u 0 c refl) p)

  abbrev UsedInData : List Datum → Type 0
  UsedInData ds = (k : ℕ) (d : Datum) → slice_get ds k ≡ Some d → Uses d.sym × ((j : ℕ) (cell : DataCell) → slice_get d.cells j ≡ Some cell → Used (cell_symbol cell))

  over_datums : (ds : List Datum) (names : List (List ℕ)) → UsedInData ds → P names → P (naming_datums symbols ds names)
  over_datums [] names u p = p
  over_datums (d ∷ ds) names u p =
      over_datums ds (naming_datum symbols d names) (λ k. u (suc k)) (over_cells d.cells (naming symbols d.sym names) (u 0 d refl).1 (step d.sym names (u 0 d refl).0 p))

  pub over_code : (code : Code) → symbols ≡ code.symbols → UsedIn code.functions → UsedInData code.datums → P [] → P (naming_datums symbols code.datums (naming_functions symbols code.functions []))
  over_code code same fs ds p = over_datums code.datums (naming_functions symbols code.functions []) ds (over_functions code.functions [] fs p)

-- ---- each name once

distinct_step : (names : List (List ℕ)) (s : List ℕ) → IsDistinct names → IsDistinct (with_spelling names s)
distinct_step names s d = by (name_of names s) refl
  where
    by : (o : Option ℕ) → name_of names s ≡ o → IsDistinct (with_spelling names s)
    by (Some i) e = subst (λ (ns : List (List ℕ)). IsDistinct ns) (sym (with_known names s i e)) d
    by None e = subst (λ (ns : List (List ℕ)). IsDistinct ns) (sym (with_new names s e)) (distinct_more names s d e)

pub names_distinct : (code : Code) → IsDistinct (names_of code)
names_distinct code =
    over_code code.symbols (λ (s : Sym). Unit {0}) (λ names. IsDistinct names) (λ s names u d. distinct_step names (sym_text code.symbols s) d) code refl
    (λ k f at. (tt, λ j line here s e. tt)) (λ k d at. (tt, λ j cell here s e. tt)) (λ i j s p q. cc)

-- ---- each name is that of a part

-- some part of the code names the symbol
pub data IsPart (code : Code) (sym : Sym) : Type 0 where
  function : (k : ℕ) (f : Sym × Segment) → slice_get code.functions k ≡ Some f → f.0 ≡ sym → IsPart code sym
  datum : (k : ℕ) (d : Datum) → slice_get code.datums k ≡ Some d → d.sym ≡ sym → IsPart code sym
  line : (k j : ℕ) (f : Sym × Segment) (l : Line) → slice_get code.functions k ≡ Some f → slice_get f.1.lines j ≡ Some l → line_symbol l ≡ Some sym → IsPart code sym
  cell : (k j : ℕ) (d : Datum) (c : DataCell) → slice_get code.datums k ≡ Some d → slice_get d.cells j ≡ Some c → cell_symbol c ≡ Some sym → IsPart code sym

-- each of the names is the spelling of such a symbol
abbrev pub AreOfParts : Code → List (List ℕ) → Type 0
AreOfParts code names = (i : ℕ) (s : List ℕ) → slice_get names i ≡ Some s → (x : Sym) × IsPart code x × (sym_text code.symbols x ≡ s)

-- a place of a list with one more is one of the list, or the last
at_last : (ns : List (List ℕ)) (s t : List ℕ) (i : ℕ) → slice_get (ns ++ s ∷ []) i ≡ Some t → (slice_get ns i ≡ Some t) ⊎ (s ≡ t)
at_last [] s t zero e = inr (same_Some s t e)
at_last [] s t (suc i) e = absurd (none-some t e)
at_last (n ∷ ns) s t zero e = inl e
at_last (n ∷ ns) s t (suc i) e = at_last ns s t i e

of_parts_step : (code : Code) (x : Sym) (names : List (List ℕ)) → IsPart code x → AreOfParts code names → AreOfParts code (naming code.symbols x names)
of_parts_step code x names part p = by (name_of names (sym_text code.symbols x)) refl
  where
    last : (i : ℕ) (s : List ℕ) → (slice_get names i ≡ Some s) ⊎ (sym_text code.symbols x ≡ s) → (y : Sym) × IsPart code y × (sym_text code.symbols y ≡ s)
    last i s (inl at) = p i s at
    last i s (inr e) = (x, part, e)

    by : (o : Option ℕ) → name_of names (sym_text code.symbols x) ≡ o → AreOfParts code (naming code.symbols x names)
    by (Some i) e = subst (AreOfParts code) (sym (with_known names (sym_text code.symbols x) i e)) p
    by None e = subst (AreOfParts code) (sym (with_new names (sym_text code.symbols x) e)) (λ i s at. last i s (at_last names (sym_text code.symbols x) s i at))

pub names_of_parts : (code : Code) → AreOfParts code (names_of code)
names_of_parts code =
    over_code code.symbols (IsPart code) (AreOfParts code) (λ x names part p. of_parts_step code x names part p) code refl
    (λ k f at. (function k f at refl, λ j l here x e. line k j f l at here e)) (λ k d at. (datum k d at refl, λ j c here x e. cell k j d c at here e)) (λ i s e. cc)

-- ---- each part's symbol has a name

named_at : (symbols : List Symbol) (y x : Sym) (names : List (List ℕ)) → y ≡ x → IsNamed (naming symbols y names) (sym_text symbols x)
named_at symbols y x names e = subst (λ (z : Sym). IsNamed (naming symbols y names) (sym_text symbols z)) e (named_now names (sym_text symbols y))

operand_named : (symbols : List Symbol) (o : Operand) (names : List (List ℕ)) (x : Sym) → operand_symbol o ≡ Some x → IsNamed (naming_operand symbols o names) (sym_text symbols x)
operand_named symbols (operands.Low y offset) names x e = named_at symbols y x names (same_Some y x e)
operand_named symbols (operands.High y offset) names x e = named_at symbols y x names (same_Some y x e)
operand_named symbols (operands.At y offset) names x e = named_at symbols y x names (same_Some y x e)
operand_named symbols operands.Nothing names x e = absurd (none-some x e)
operand_named symbols (operands.Byte v) names x e = absurd (none-some x e)
operand_named symbols (operands.Zero v) names x e = absurd (none-some x e)
operand_named symbols (operands.To l) names x e = absurd (none-some x e)

callee_named : (symbols : List Symbol) (c : Callee) (names : List (List ℕ)) (x : Sym) → callee_symbol c ≡ Some x → IsNamed (naming_callee symbols c names) (sym_text symbols x)
callee_named symbols (callees.Routine r) names x e = absurd (none-some x e)
callee_named symbols (callees.Function f reads gives) names x e = named_at symbols f x names (same_Some f x e)
callee_named symbols (callees.Pointer reads gives) names x e = absurd (none-some x e)

line_named : (symbols : List Symbol) (l : Line) (names : List (List ℕ)) (x : Sym) → line_symbol l ≡ Some x → IsNamed (naming_line symbols l names) (sym_text symbols x)
line_named symbols (lines.Label l) names x e = absurd (none-some x e)
line_named symbols (lines.Do op mode o) names x e = operand_named symbols o names x e
line_named symbols (lines.Call c) names x e = callee_named symbols c names x e

lines_named : (symbols : List Symbol) (ls : List Line) (names : List (List ℕ)) (j : ℕ) (l : Line) (x : Sym) → slice_get ls j ≡ Some l → line_symbol l ≡ Some x → IsNamed (naming_lines symbols ls names) (sym_text symbols x)
lines_named symbols [] names j l x here e = absurd (none-some l here)
lines_named symbols (m ∷ ls) names zero l x here e =
    named_later (naming_line symbols m names) (naming_lines symbols (m ∷ ls) names) (sym_text symbols x) (grows_lines symbols ls (naming_line symbols m names))
    (line_named symbols m names x (ap line_symbol (same_Some m l here) ∙ e))
lines_named symbols (m ∷ ls) names (suc j) l x here e = lines_named symbols ls (naming_line symbols m names) j l x here e

functions_named : (symbols : List Symbol) (fs : List (Sym × Segment)) (names : List (List ℕ)) (k : ℕ) (f : Sym × Segment) → slice_get fs k ≡ Some f
    → IsNamed (naming_functions symbols fs names) (sym_text symbols f.0) × ((j : ℕ) (l : Line) (x : Sym) → slice_get f.1.lines j ≡ Some l → line_symbol l ≡ Some x → IsNamed (naming_functions symbols fs names) (sym_text symbols x))
functions_named symbols [] names k f at = absurd (none-some f at)
functions_named symbols (g ∷ fs) names zero f at =
    let same : g ≡ f = same_Some g f at in
    let more : Grows (naming_function symbols g names) (naming_functions symbols (g ∷ fs) names) = grows_functions symbols fs (naming_function symbols g names) in
    let own : Grows (naming symbols g.0 names) (naming_functions symbols (g ∷ fs) names) = grows_on _ _ _ (grows_lines symbols g.1.lines (naming symbols g.0 names)) more in (
      named_later _ _ (sym_text symbols f.0) own (named_at symbols g.0 f.0 names (ap (λ (h : Sym × Segment). h.0) same)),
      λ j l x here e. named_later _ _ (sym_text symbols x) more (lines_named symbols g.1.lines (naming symbols g.0 names) j l x (subst (λ (h : Sym × Segment). slice_get h.1.lines j ≡ Some l) (sym same) here) e),
    )
functions_named symbols (g ∷ fs) names (suc k) f at = functions_named symbols fs (naming_function symbols g names) k f at

cell_named : (symbols : List Symbol) (c : DataCell) (names : List (List ℕ)) (x : Sym) → cell_symbol c ≡ Some x → IsNamed (naming_cell symbols c names) (sym_text symbols x)
cell_named symbols (Byte v) names x e = absurd (none-some x e)
cell_named symbols (Address y offset) names x e = named_at symbols y x names (same_Some y x e)

cells_named : (symbols : List Symbol) (cs : List DataCell) (names : List (List ℕ)) (j : ℕ) (c : DataCell) (x : Sym) → slice_get cs j ≡ Some c → cell_symbol c ≡ Some x → IsNamed (naming_cells symbols cs names) (sym_text symbols x)
cells_named symbols [] names j c x here e = absurd (none-some c here)
cells_named symbols (d ∷ cs) names zero c x here e =
    named_later (naming_cell symbols d names) (naming_cells symbols (d ∷ cs) names) (sym_text symbols x) (grows_cells symbols cs (naming_cell symbols d names))
    (cell_named symbols d names x (ap cell_symbol (same_Some d c here) ∙ e))
cells_named symbols (d ∷ cs) names (suc j) c x here e = cells_named symbols cs (naming_cell symbols d names) j c x here e

datums_named : (symbols : List Symbol) (ds : List Datum) (names : List (List ℕ)) (k : ℕ) (d : Datum) → slice_get ds k ≡ Some d
    → IsNamed (naming_datums symbols ds names) (sym_text symbols d.sym) × ((j : ℕ) (c : DataCell) (x : Sym) → slice_get d.cells j ≡ Some c → cell_symbol c ≡ Some x → IsNamed (naming_datums symbols ds names) (sym_text symbols x))
datums_named symbols [] names k d at = absurd (none-some d at)
datums_named symbols (g ∷ ds) names zero d at =
    let same : g ≡ d = same_Some g d at in
    let more : Grows (naming_datum symbols g names) (naming_datums symbols (g ∷ ds) names) = grows_datums symbols ds (naming_datum symbols g names) in
    let own : Grows (naming symbols g.sym names) (naming_datums symbols (g ∷ ds) names) = grows_on _ _ _ (grows_cells symbols g.cells (naming symbols g.sym names)) more in (
      named_later _ _ (sym_text symbols d.sym) own (named_at symbols g.sym d.sym names (ap (λ (h : Datum). h.sym) same)),
      λ j c x here e. named_later _ _ (sym_text symbols x) more (cells_named symbols g.cells (naming symbols g.sym names) j c x (subst (λ (h : Datum). slice_get h.cells j ≡ Some c) (sym same) here) e),
    )
datums_named symbols (g ∷ ds) names (suc k) d at = datums_named symbols ds (naming_datum symbols g names) k d at

pub part_named : (code : Code) (x : Sym) → IsPart code x → IsNamed (names_of code) (sym_text code.symbols x)
part_named code x part = by part
  where
    first : List (List ℕ)
    first = naming_functions code.symbols code.functions []

    later : (s : List ℕ) → IsNamed first s → IsNamed (names_of code) s
    later s h = named_later first (names_of code) s (grows_datums code.symbols code.datums first) h

    by : IsPart code x → IsNamed (names_of code) (sym_text code.symbols x)
    by (function k f at e) = subst (λ (y : Sym). IsNamed (names_of code) (sym_text code.symbols y)) e (later (sym_text code.symbols f.0) (functions_named code.symbols code.functions [] k f at).0)
    by (datum k d at e) = subst (λ (y : Sym). IsNamed (names_of code) (sym_text code.symbols y)) e (datums_named code.symbols code.datums first k d at).0
    by (line k j f l at here e) = later (sym_text code.symbols x) ((functions_named code.symbols code.functions [] k f at).1 j l x here e)
    by (cell k j d c at here e) = (datums_named code.symbols code.datums first k d at).1 j c x here e

-- ---- numbers

-- the new symbol's number is the place of the spelling
pub number_is : (code : Code) (x : Sym) (i : ℕ) → name_of (names_of code) (sym_text code.symbols x) ≡ Some i → (renamed code.symbols (names_of code) x).0 ≡ i
number_is code x i e = ap (λ (o : Option ℕ). unwrap_or o 0) e

pub placed : (code : Code) (x : Sym) → IsPart code x → slice_get (names_of code) (renamed code.symbols (names_of code) x).0 ≡ Some (sym_text code.symbols x)
placed code x part =
    let n = part_named code x part in
    ap (slice_get (names_of code)) (number_is code x n.0 n.1) ∙ name_of-at (names_of code) (sym_text code.symbols x) n.0 n.1

-- symbols of like numbers have like spellings
pub same_text : (code : Code) (x y : Sym) → IsPart code x → IsPart code y → (renamed code.symbols (names_of code) x).0 ≡ (renamed code.symbols (names_of code) y).0 → sym_text code.symbols x ≡ sym_text code.symbols y
same_text code x y p q e = same_Some _ _ (sym (placed code x p) ∙ ap (slice_get (names_of code)) e ∙ placed code y q)

-- the place of a part's spelling is its number
pub number_at : (code : Code) (x : Sym) (i : ℕ) → IsPart code x → slice_get (names_of code) i ≡ Some (sym_text code.symbols x) → (renamed code.symbols (names_of code) x).0 ≡ i
number_at code x i p e = names_distinct code (renamed code.symbols (names_of code) x).0 i (sym_text code.symbols x) (placed code x p) e
