-- What a code marks.
use Rattle.std.proofs.Common.{◌≡◌, ℕ, zero, suc, true, List, [], ◌∷◌, Option, Some, None, length, slice_get, refl, ap, sym, ◌∙◌, subst}
use Rattle.c65_base.specs.declared.library.Library.{Library}
use Rattle.c65_code.specs.declared.routine.Routine.{Routine}
use Rattle.c65_code.specs.declared.routine.Routine.TheVariants as routines
use Rattle.c65_code.specs.declared.line.Sym.{Sym}
use Rattle.c65_code.specs.declared.line.Line.{Line}
use Rattle.c65_code.specs.declared.code.Code.{Code}
use Rattle.c65_code.specs.declared.code.Datum.{Datum}
use Rattle.c65_code.specs.declared.code.DataCell.{DataCell}
use Rattle.c65_code.specs.Segments.{Segment}
use Rattle.c65_link.specs.declared.symbols.Target.{Target}
use Rattle.c65_link.specs.declared.symbols.Target.TheVariants.{Nowhere, Own, Runtime}
use Rattle.c65_link.specs.Runtime.{Marks, no_marks, is_marked, with_call, with_calls, routine_lines}
use Rattle.c65_link.specs.Symbols.{line_symbol, cell_symbol, targets_of, with_target, with_symbol, with_line_uses, with_function_uses, with_cell_uses, with_datum_uses, with_code_uses}
use Rattle.c65_link.specs.Linked.{entry_of}
use Rattle.c65_link_law.specs.Placed.{routines_in}
use Rattle.c65_link_law_spots.specs.Sound.{IsNamed, by_function, by_datum, by_line, by_cell}
use Rattle.c65_link_law_spots.specs.Laws.{IsChosen, CallsRoutine, UsesAreChosen}
use Rattle.c65_link_law_spots.proofs.Sums.{none_there, same_there}
use Rattle.c65_link_law_spots.proofs.Marks.{More, no_more, more_on, marks_more, mark_here, call_more, calls_more, call_marks, calls_mark}
use Rattle.c65_link_law_spots.proofs.Chosen.{IsOf, IsWhole, whole}

target_more : (a : Marks) (target : Option Target) → length a ≡ 123 → More a (with_target a target)
target_more a None wide = no_more a
target_more a (Some Nowhere) wide = no_more a
target_more a (Some Own) wide = no_more a
target_more a (Some (Runtime f)) wide = marks_more a (routines.Library f) wide

symbol_more : (targets : List Target) (a : Marks) (sym : Option Sym) → length a ≡ 123 → More a (with_symbol targets a sym)
symbol_more targets a None wide = no_more a
symbol_more targets a (Some s) wide = target_more a (slice_get targets s.0) wide

one_more : (targets : List Target) (a : Marks) (line : Line) → length a ≡ 123 → More a (with_call (with_symbol targets a (line_symbol line)) line)
one_more targets a line wide =
    let first : More a (with_symbol targets a (line_symbol line)) = symbol_more targets a (line_symbol line) wide in
    more_on a (with_symbol targets a (line_symbol line)) (with_call (with_symbol targets a (line_symbol line)) line) first (call_more (with_symbol targets a (line_symbol line)) line (first.size ∙ wide))

lines_more : (targets : List Target) (lines : List Line) (a : Marks) → length a ≡ 123 → More a (with_line_uses targets a lines)
lines_more targets [] a wide = no_more a
lines_more targets (line ∷ lines) a wide =
    let first = one_more targets a line wide in
    more_on a _ _ first (lines_more targets lines _ (first.size ∙ wide))

functions_more : (targets : List Target) (fs : List (Sym × Segment)) (a : Marks) → length a ≡ 123 → More a (with_function_uses targets a fs)
functions_more targets [] a wide = no_more a
functions_more targets (f ∷ fs) a wide =
    let first : More a (with_line_uses targets a f.1.lines) = lines_more targets f.1.lines a wide in
    more_on a (with_line_uses targets a f.1.lines) (with_function_uses targets (with_line_uses targets a f.1.lines) fs) first (functions_more targets fs (with_line_uses targets a f.1.lines) (first.size ∙ wide))

cells_more : (targets : List Target) (cells : List DataCell) (a : Marks) → length a ≡ 123 → More a (with_cell_uses targets a cells)
cells_more targets [] a wide = no_more a
cells_more targets (cell ∷ cells) a wide =
    let first : More a (with_symbol targets a (cell_symbol cell)) = symbol_more targets a (cell_symbol cell) wide in
    more_on a (with_symbol targets a (cell_symbol cell)) (with_cell_uses targets (with_symbol targets a (cell_symbol cell)) cells) first (cells_more targets cells (with_symbol targets a (cell_symbol cell)) (first.size ∙ wide))

datums_more : (targets : List Target) (datums : List Datum) (a : Marks) → length a ≡ 123 → More a (with_datum_uses targets a datums)
datums_more targets [] a wide = no_more a
datums_more targets (datum ∷ datums) a wide =
    let first : More a (with_cell_uses targets a datum.cells) = cells_more targets datum.cells a wide in
    more_on a (with_cell_uses targets a datum.cells) (with_datum_uses targets (with_cell_uses targets a datum.cells) datums) first (datums_more targets datums (with_cell_uses targets a datum.cells) (first.size ∙ wide))

-- a symbol that stands for a function of the library marks it

symbol_marks : (targets : List Target) (a : Marks) (o : Option Sym) (s : Sym) (l : Library) → length a ≡ 123 → o ≡ Some s → slice_get targets s.0 ≡ Some (Runtime l) → is_marked (with_symbol targets a o) (routines.Library l) ≡ true
symbol_marks targets a o s l wide e there =
    subst (λ (x : Option Sym). is_marked (with_symbol targets a x) (routines.Library l) ≡ true) (sym e)
    (subst (λ (x : Option Target). is_marked (with_target a x) (routines.Library l) ≡ true) (sym there) (mark_here a (routines.Library l) wide))

lines_mark : (targets : List Target) (lines : List Line) (a : Marks) (j : ℕ) (line : Line) (s : Sym) (l : Library) → length a ≡ 123 → slice_get lines j ≡ Some line → line_symbol line ≡ Some s → slice_get targets s.0 ≡ Some (Runtime l)
    → is_marked (with_line_uses targets a lines) (routines.Library l) ≡ true
lines_mark targets [] a j line s l wide here e there = none_there line here
lines_mark targets (k ∷ lines) a zero line s l wide here e there =
    let first : More a (with_symbol targets a (line_symbol k)) = symbol_more targets a (line_symbol k) wide in
    let wider : length (with_symbol targets a (line_symbol k)) ≡ 123 = first.size ∙ wide in
    let second : More (with_symbol targets a (line_symbol k)) (with_call (with_symbol targets a (line_symbol k)) k) = call_more (with_symbol targets a (line_symbol k)) k wider in
    let mark : is_marked (with_symbol targets a (line_symbol k)) (routines.Library l) ≡ true = symbol_marks targets a (line_symbol k) s l wide (ap line_symbol (same_there k line here) ∙ e) there in
    (lines_more targets lines (with_call (with_symbol targets a (line_symbol k)) k) (second.size ∙ wider)).kept (routines.Library l) (second.kept (routines.Library l) mark)
lines_mark targets (k ∷ lines) a (suc j) line s l wide here e there = lines_mark targets lines _ j line s l ((one_more targets a k wide).size ∙ wide) here e there

pub functions_mark : (targets : List Target) (fs : List (Sym × Segment)) (a : Marks) (k j : ℕ) (f : Sym × Segment) (line : Line) (s : Sym) (l : Library) → length a ≡ 123 → slice_get fs k ≡ Some f → slice_get f.1.lines j ≡ Some line → line_symbol line ≡ Some s → slice_get targets s.0 ≡ Some (Runtime l)
    → is_marked (with_function_uses targets a fs) (routines.Library l) ≡ true
functions_mark targets [] a k j f line s l wide at here e there = none_there f at
functions_mark targets (g ∷ fs) a zero j f line s l wide at here e there =
    let same : g ≡ f = same_there g f at in
    let first : More a (with_line_uses targets a g.1.lines) = lines_more targets g.1.lines a wide in
    (functions_more targets fs (with_line_uses targets a g.1.lines) (first.size ∙ wide)).kept (routines.Library l)
    (lines_mark targets g.1.lines a j line s l wide (subst (λ (x : Sym × Segment). slice_get x.1.lines j ≡ Some line) (sym same) here) e there)
functions_mark targets (g ∷ fs) a (suc k) j f line s l wide at here e there = functions_mark targets fs (with_line_uses targets a g.1.lines) k j f line s l ((lines_more targets g.1.lines a wide).size ∙ wide) at here e there

cells_mark : (targets : List Target) (cells : List DataCell) (a : Marks) (j : ℕ) (cell : DataCell) (s : Sym) (l : Library) → length a ≡ 123 → slice_get cells j ≡ Some cell → cell_symbol cell ≡ Some s → slice_get targets s.0 ≡ Some (Runtime l)
    → is_marked (with_cell_uses targets a cells) (routines.Library l) ≡ true
cells_mark targets [] a j cell s l wide here e there = none_there cell here
cells_mark targets (c ∷ cells) a zero cell s l wide here e there =
    let first : More a (with_symbol targets a (cell_symbol c)) = symbol_more targets a (cell_symbol c) wide in
    (cells_more targets cells (with_symbol targets a (cell_symbol c)) (first.size ∙ wide)).kept (routines.Library l) (symbol_marks targets a (cell_symbol c) s l wide (ap cell_symbol (same_there c cell here) ∙ e) there)
cells_mark targets (c ∷ cells) a (suc j) cell s l wide here e there = cells_mark targets cells (with_symbol targets a (cell_symbol c)) j cell s l ((symbol_more targets a (cell_symbol c) wide).size ∙ wide) here e there

pub datums_mark : (targets : List Target) (datums : List Datum) (a : Marks) (k j : ℕ) (datum : Datum) (cell : DataCell) (s : Sym) (l : Library) → length a ≡ 123 → slice_get datums k ≡ Some datum → slice_get datum.cells j ≡ Some cell → cell_symbol cell ≡ Some s → slice_get targets s.0 ≡ Some (Runtime l)
    → is_marked (with_datum_uses targets a datums) (routines.Library l) ≡ true
datums_mark targets [] a k j datum cell s l wide at here e there = none_there datum at
datums_mark targets (d ∷ datums) a zero j datum cell s l wide at here e there =
    let same : d ≡ datum = same_there d datum at in
    let first : More a (with_cell_uses targets a d.cells) = cells_more targets d.cells a wide in
    (datums_more targets datums (with_cell_uses targets a d.cells) (first.size ∙ wide)).kept (routines.Library l)
    (cells_mark targets d.cells a j cell s l wide (subst (λ (x : Datum). slice_get x.cells j ≡ Some cell) (sym same) here) e there)
datums_mark targets (d ∷ datums) a (suc k) j datum cell s l wide at here e there = datums_mark targets datums (with_cell_uses targets a d.cells) k j datum cell s l ((cells_more targets d.cells a wide).size ∙ wide) at here e there

-- a line's calls are marked

lines_call : (targets : List Target) (lines : List Line) (a : Marks) (j : ℕ) (line : Line) (r : Routine) → length a ≡ 123 → slice_get lines j ≡ Some line → CallsRoutine line r → is_marked (with_line_uses targets a lines) r ≡ true
lines_call targets [] a j line r wide here calls = none_there line here
lines_call targets (k ∷ lines) a zero line r wide here calls =
    let wider : length (with_symbol targets a (line_symbol k)) ≡ 123 = (symbol_more targets a (line_symbol k) wide).size ∙ wide in
    let mark : is_marked (with_call (with_symbol targets a (line_symbol k)) k) r ≡ true = call_marks (with_symbol targets a (line_symbol k)) k r wider (subst (λ (x : Line). CallsRoutine x r) (sym (same_there k line here)) calls) in
    (lines_more targets lines (with_call (with_symbol targets a (line_symbol k)) k) ((one_more targets a k wide).size ∙ wide)).kept r mark
lines_call targets (k ∷ lines) a (suc j) line r wide here calls = lines_call targets lines _ j line r ((one_more targets a k wide).size ∙ wide) here calls

functions_call : (targets : List Target) (fs : List (Sym × Segment)) (a : Marks) (k j : ℕ) (f : Sym × Segment) (line : Line) (r : Routine) → length a ≡ 123 → slice_get fs k ≡ Some f → slice_get f.1.lines j ≡ Some line → CallsRoutine line r → is_marked (with_function_uses targets a fs) r ≡ true
functions_call targets [] a k j f line r wide at here calls = none_there f at
functions_call targets (g ∷ fs) a zero j f line r wide at here calls =
    let same : g ≡ f = same_there g f at in
    let first : More a (with_line_uses targets a g.1.lines) = lines_more targets g.1.lines a wide in
    (functions_more targets fs (with_line_uses targets a g.1.lines) (first.size ∙ wide)).kept r
    (lines_call targets g.1.lines a j line r wide (subst (λ (x : Sym × Segment). slice_get x.1.lines j ≡ Some line) (sym same) here) calls)
functions_call targets (g ∷ fs) a (suc k) j f line r wide at here calls = functions_call targets fs (with_line_uses targets a g.1.lines) k j f line r ((lines_more targets g.1.lines a wide).size ∙ wide) at here calls

-- The marks of a code

abbrev pub entry_marks : Code → Marks
entry_marks code = with_calls no_marks (routine_lines (entry_of code))

abbrev pub first_marks : Code → Marks
first_marks code = with_code_uses code (targets_of code) (entry_marks code)

none_wide : length no_marks ≡ 123
none_wide = refl

pub entry_wide : (code : Code) → length (entry_marks code) ≡ 123
entry_wide code = (calls_more (routine_lines (entry_of code)) no_marks none_wide).size ∙ none_wide

pub first_more : (code : Code) → More (entry_marks code) (first_marks code)
first_more code =
    let one : More (entry_marks code) (with_function_uses (targets_of code) (entry_marks code) code.functions) = functions_more (targets_of code) code.functions (entry_marks code) (entry_wide code) in
    more_on (entry_marks code) (with_function_uses (targets_of code) (entry_marks code) code.functions) (first_marks code) one (datums_more (targets_of code) code.datums (with_function_uses (targets_of code) (entry_marks code) code.functions) (one.size ∙ entry_wide code))

pub functions_first : (code : Code) (r : Routine) → is_marked (with_function_uses (targets_of code) (entry_marks code) code.functions) r ≡ true → is_marked (first_marks code) r ≡ true
functions_first code r h =
    let one : More (entry_marks code) (with_function_uses (targets_of code) (entry_marks code) code.functions) = functions_more (targets_of code) code.functions (entry_marks code) (entry_wide code) in
    (datums_more (targets_of code) code.datums (with_function_uses (targets_of code) (entry_marks code) code.functions) (one.size ∙ entry_wide code)).kept r h

pub functions_wide : (code : Code) → length (with_function_uses (targets_of code) (entry_marks code) code.functions) ≡ 123
functions_wide code = (functions_more (targets_of code) code.functions (entry_marks code) (entry_wide code)).size ∙ entry_wide code

pub whole_in : (code : Code) → IsWhole (first_marks code) (record { marks = []; parts = routines_in code })
whole_in code =
    let w = whole (first_marks code) ((first_more code).size ∙ entry_wide code) in
    record { marked = w.marked; called = w.called; lined = w.lined }

chosen : (code : Code) (r : Routine) → IsOf (routines_in code) r → IsChosen code r
chosen code r h = record { place = h.place; there = h.there }

pub uses_are_chosen : UsesAreChosen
uses_are_chosen code =
    let w : IsWhole (first_marks code) (record { marks = []; parts = routines_in code }) = whole_in code in
    record {
      entry = λ j line r here calls lined. chosen code r (w.marked r ((first_more code).kept r (calls_mark (routine_lines (entry_of code)) no_marks j line r none_wide here calls)) lined);
      function = λ k j f line r at here calls lined. chosen code r (w.marked r (functions_first code r (functions_call (targets_of code) code.functions (entry_marks code) k j f line r (entry_wide code) at here calls)) lined);
      routine = λ k j q line r at here calls lined. chosen code r (w.called q r j line (record { place = k; there = at }) here calls lined);
    }

-- a named symbol that stands for a function of the library marks it
pub not_nowhere_marks : (code : Code) (i : ℕ) (l : Library) → slice_get (targets_of code) i ≡ Some (Runtime l) → IsNamed code i
    → ((k : ℕ) (f : Sym × Segment) → slice_get code.functions k ≡ Some f → f.0.0 ≡ i → ⊥) → ((k : ℕ) (d : Datum) → slice_get code.datums k ≡ Some d → d.sym.0 ≡ i → ⊥)
    → is_marked (first_marks code) (routines.Library l) ≡ true
not_nowhere_marks code i l there named no_function no_datum = by named
  where
    by : IsNamed code i → is_marked (first_marks code) (routines.Library l) ≡ true
    by (by_function k f here e) = absurd (no_function k f here e)
    by (by_datum k d here e) = absurd (no_datum k d here e)
    by (by_line k j f line s at here e is) =
        functions_first code (routines.Library l) (functions_mark (targets_of code) code.functions (entry_marks code) k j f line s l (entry_wide code) at here e (ap (slice_get (targets_of code)) is ∙ there))
    by (by_cell k j d cell s at here e is) =
        datums_mark (targets_of code) code.datums (with_function_uses (targets_of code) (entry_marks code) code.functions) k j d cell s l (functions_wide code) at here e (ap (slice_get (targets_of code)) is ∙ there)
