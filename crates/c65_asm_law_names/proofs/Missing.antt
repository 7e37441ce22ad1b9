-- The linker misses nothing of a renumbered code in which all that was named had a body.
use Rattle.std.proofs.Common.{◌≡◌, ℕ, zero, suc, ◌+◌, ◌<◌, ◌==◌, Bool, true, false, if◌then◌else◌, List, [], ◌∷◌, codes, bytes_eq, Option, Some, None, Ok, Err, length, slice_get, slice_set, refl, ap, sym, ◌∙◌, subst, arith, inl, inr}
use Rattle.std.specs.Prelude.{is_some}
use Rattle.std.proofs.lemmas.Bool.{eqb-true}
use Rattle.std.proofs.lemmas.List.{length-set}
use Rattle.std.proofs.lemmas.Option.{none-some, same_Some}
use Rattle.std.proofs.lemmas.Slice.Eq.{bytes_eq-Decides}
use Rattle.c65_base.specs.declared.library.Library.{Library}
use Rattle.c65_base.specs.Library.{library_functions}
use Rattle.c65_code.specs.declared.line.Sym.{Sym}
use Rattle.c65_code.specs.declared.line.Operand.{Operand}
use Rattle.c65_code.specs.declared.line.Operand.TheVariants as operands
use Rattle.c65_code.specs.declared.line.Callee.{Callee}
use Rattle.c65_code.specs.declared.line.Callee.TheVariants as callees
use Rattle.c65_code.specs.declared.line.Line.{Line}
use Rattle.c65_code.specs.declared.line.Line.TheVariants as lines
use Rattle.c65_code.specs.declared.code.Code.{Code}
use Rattle.c65_code.specs.declared.code.Symbol.{Symbol}
use Rattle.c65_code.specs.declared.code.Datum.{Datum}
use Rattle.c65_code.specs.declared.code.DataCell.{DataCell}
use Rattle.c65_code.specs.declared.code.DataCell.TheVariants.{Byte, Address}
use Rattle.c65_code.specs.Segments.{Segment}
use Rattle.c65_code.specs.Named.{OperandNames, LineNames, CellNames, IsNamed, function as by_function, datum as by_datum, by_line, by_cell}
use Rattle.c65_code.specs.Placement.{library_named, library_of, has_datum}
use Rattle.c65_code.specs.Starts.{IsMain}
use Rattle.c65_code.specs.Writable.{IsWritable}
use Rattle.c65_asm.specs.Text.{sym_text, spelling_of}
use Rattle.c65_asm.specs.Symbols.{symbol_of, symbols_of}
use Rattle.c65_asm.specs.Renumbered.{names_of, renamed, renamed_operand, renamed_callee, renamed_line, renamed_function, renamed_cell, renamed_datum, renumbered}
use Rattle.c65_link.specs.declared.symbols.Target.{Target}
use Rattle.c65_link.specs.declared.symbols.Target.TheVariants.{Own}
use Rattle.c65_link.specs.Symbols.{target_by, named_target, named_targets, with_functions, with_datums, targets_of, operand_symbol, callee_symbol, line_symbol, cell_symbol, is_nowhere, missing, missing_in_lines, missing_in_functions, missing_in_cells, missing_in_datums, missing_in_code, or_else, name_of, missing_of, is_main_missing, main_in}
use Rattle.c65_link.specs.Linked.{undefined, large, parts_of, image_of, placed as placed_code, named_or_placed, linked}
use Rattle.c65_asm_law_names.specs.Numbers.{HasBody, IsClosed, number_in}
use Rattle.c65_asm_law_names.specs.Laws.{NothingIsUndefined}
use Rattle.c65_asm_law_names.proofs.Naming.{IsPart, function, datum, line, cell, placed, number_at}
use Rattle.c65_asm_law_names.proofs.Writable.{from_map, to_map, IsThere, part_there, part_numbered, old_function, old_datum, old_line, old_cell}

-- ---- targets

-- something stands for the symbol
abbrev Stands : List Target → ℕ → Type 0
Stands targets n = is_nowhere (slice_get targets n) ≡ false

set_keeps : (targets : List Target) (m n : ℕ) → Stands targets n → Stands (slice_set targets m Own) n
set_keeps [] m n h = h
set_keeps (t ∷ ts) zero zero h = refl
set_keeps (t ∷ ts) zero (suc n) h = h
set_keeps (t ∷ ts) (suc m) zero h = h
set_keeps (t ∷ ts) (suc m) (suc n) h = set_keeps ts m n h

set_makes : (targets : List Target) (n : ℕ) → n < length targets → Stands (slice_set targets n Own) n
set_makes [] n l = absurd (omega (arith, l))
set_makes (t ∷ ts) zero l = refl
set_makes (t ∷ ts) (suc n) l = set_makes ts n (omega (arith, l))

functions_keep : (fs : List (Sym × Segment)) (targets : List Target) (n : ℕ) → Stands targets n → Stands (with_functions targets fs) n
functions_keep [] targets n h = h
functions_keep (f ∷ fs) targets n h = functions_keep fs (slice_set targets f.0.0 Own) n (set_keeps targets f.0.0 n h)

functions_make : (fs : List (Sym × Segment)) (targets : List Target) (k : ℕ) (f : Sym × Segment) → slice_get fs k ≡ Some f → f.0.0 < length targets → Stands (with_functions targets fs) f.0.0
functions_make [] targets k f at l = absurd (none-some f at)
functions_make (g ∷ fs) targets zero f at l =
    let e : f.0.0 ≡ g.0.0 = ap (λ (h : Sym × Segment). h.0.0) (sym (same_Some g f at)) in
    functions_keep fs (slice_set targets g.0.0 Own) f.0.0 (subst (λ (n : ℕ). Stands (slice_set targets n Own) f.0.0) e (set_makes targets f.0.0 l))
functions_make (g ∷ fs) targets (suc k) f at l = functions_make fs (slice_set targets g.0.0 Own) k f at (omega (arith, l, length-set targets g.0.0 Own))

functions_wide : (fs : List (Sym × Segment)) (targets : List Target) → length (with_functions targets fs) ≡ length targets
functions_wide [] targets = refl
functions_wide (f ∷ fs) targets = functions_wide fs (slice_set targets f.0.0 Own) ∙ length-set targets f.0.0 Own

datums_keep : (ds : List Datum) (targets : List Target) (n : ℕ) → Stands targets n → Stands (with_datums targets ds) n
datums_keep [] targets n h = h
datums_keep (d ∷ ds) targets n h = datums_keep ds (slice_set targets d.sym.0 Own) n (set_keeps targets d.sym.0 n h)

datums_make : (ds : List Datum) (targets : List Target) (k : ℕ) (d : Datum) → slice_get ds k ≡ Some d → d.sym.0 < length targets → Stands (with_datums targets ds) d.sym.0
datums_make [] targets k d at l = absurd (none-some d at)
datums_make (g ∷ ds) targets zero d at l =
    let e : d.sym.0 ≡ g.sym.0 = ap (λ (h : Datum). h.sym.0) (sym (same_Some g d at)) in
    datums_keep ds (slice_set targets g.sym.0 Own) d.sym.0 (subst (λ (n : ℕ). Stands (slice_set targets n Own) d.sym.0) e (set_makes targets d.sym.0 l))
datums_make (g ∷ ds) targets (suc k) d at l = datums_make ds (slice_set targets g.sym.0 Own) k d at (omega (arith, l, length-set targets g.sym.0 Own))

named_wide : (symbols : List Symbol) → length (named_targets symbols) ≡ length symbols
named_wide [] = refl
named_wide (s ∷ symbols) = ap suc (named_wide symbols)

named_there : (symbols : List Symbol) (i : ℕ) (symbol : Symbol) → slice_get symbols i ≡ Some symbol → slice_get (named_targets symbols) i ≡ Some (named_target symbol)
named_there [] i symbol h = absurd (none-some symbol h)
named_there (s ∷ symbols) zero symbol h = ap (λ x. Some (named_target x)) (same_Some s symbol h)
named_there (s ∷ symbols) (suc i) symbol h = named_there symbols i symbol h

library_stands : (o : Option Library) → is_some o ≡ true → is_nowhere (Some (target_by o)) ≡ false
library_stands (Some l) h = refl
library_stands None h = cc

-- ---- what is named

pub found : (ds : List Datum) (n : ℕ) → has_datum ds n ≡ true → (k : ℕ) × (d : Datum) × (slice_get ds k ≡ Some d) × (d.sym.0 ≡ n)
found [] n h = cc
found (d ∷ ds) n h = by (d.sym.0 == n) refl h (λ g. found ds n g)
  where
    by : (b : Bool) → (d.sym.0 == n) ≡ b → (if b then true else has_datum ds n) ≡ true → (has_datum ds n ≡ true → (k : ℕ) × (e : Datum) × (slice_get ds k ≡ Some e) × (e.sym.0 ≡ n)) → (k : ℕ) × (e : Datum) × (slice_get (d ∷ ds) k ≡ Some e) × (e.sym.0 ≡ n)
    by true e g rest = (0, d, refl, eqb-true d.sym.0 n e)
    by false e g rest = let r = rest g in (suc r.0, r.1, r.2, r.3)

operand_names : (o : Operand) (x : Sym) → operand_symbol o ≡ Some x → OperandNames o x.0
operand_names (operands.Low y offset) x e = ap (λ (s : Sym). s.0) (same_Some y x e)
operand_names (operands.High y offset) x e = ap (λ (s : Sym). s.0) (same_Some y x e)
operand_names (operands.At y offset) x e = ap (λ (s : Sym). s.0) (same_Some y x e)
operand_names operands.Nothing x e = absurd (none-some x e)
operand_names (operands.Byte v) x e = absurd (none-some x e)
operand_names (operands.Zero v) x e = absurd (none-some x e)
operand_names (operands.To l) x e = absurd (none-some x e)

line_names : (l : Line) (x : Sym) → line_symbol l ≡ Some x → LineNames l x.0
line_names (lines.Label l) x e = absurd (none-some x e)
line_names (lines.Do op mode o) x e = operand_names o x e
line_names (lines.Call (callees.Routine r)) x e = absurd (none-some x e)
line_names (lines.Call (callees.Function y reads gives)) x e = ap (λ (s : Sym). s.0) (same_Some y x e)
line_names (lines.Call (callees.Pointer reads gives)) x e = absurd (none-some x e)

cell_names : (c : DataCell) (x : Sym) → cell_symbol c ≡ Some x → CellNames c x.0
cell_names (Byte v) x e = absurd (none-some x e)
cell_names (Address y offset) x e = ap (λ (s : Sym). s.0) (same_Some y x e)

mentioned : (code : Code) (x : Sym) → IsPart code x → IsNamed code x.0
mentioned code x (function k f at e) = by_function k f at (ap (λ (s : Sym). s.0) e)
mentioned code x (datum k d at e) = by_datum k d at (ap (λ (s : Sym). s.0) e)
mentioned code x (line k j f l at here e) = by_line k j f l at here (line_names l x e)
mentioned code x (cell k j d c at here e) = by_cell k j d c at here (cell_names c x e)

module _ (code : Code) (w : IsWritable code) (closed : IsClosed code) where
  abbrev new_targets : List Target
  new_targets = targets_of (renumbered code)

  abbrev new : Sym → ℕ
  new x = (renamed code.symbols (names_of code) x).0

  wide : (x : Sym) → IsPart code x → new x < length (named_targets (symbols_of (names_of code)))
  wide x part = omega (arith, part_numbered code w x part, named_wide (symbols_of (names_of code)))

  function_stands : (k : ℕ) (f : Sym × Segment) → slice_get code.functions k ≡ Some f → Stands new_targets (new f.0)
  function_stands k f at =
      datums_keep (renumbered code).datums (with_functions (named_targets (symbols_of (names_of code))) (renumbered code).functions) (new f.0)
      (functions_make (renumbered code).functions (named_targets (symbols_of (names_of code))) k (renamed_function code.symbols (names_of code) f) (to_map (renamed_function code.symbols (names_of code)) code.functions k f at)
      (wide f.0 (function k f at refl)))

  datum_stands : (k : ℕ) (d : Datum) → slice_get code.datums k ≡ Some d → Stands new_targets (new d.sym)
  datum_stands k d at =
      let first = with_functions (named_targets (symbols_of (names_of code))) (renumbered code).functions in
      datums_make (renumbered code).datums first k (renamed_datum code.symbols (names_of code) d) (to_map (renamed_datum code.symbols (names_of code)) code.datums k d at)
      (omega (arith, wide d.sym (datum k d at refl), functions_wide (renumbered code).functions (named_targets (symbols_of (names_of code)))))

  library_stands_there : (x : Sym) → IsPart code x → (symbol : Symbol) → sym_text code.symbols x ≡ symbol.spelling → is_some (library_of (Some symbol)) ≡ true → Stands new_targets (new x)
  library_stands_there x part symbol text h =
      let first = named_targets (symbols_of (names_of code)) in
      let at : slice_get first (new x) ≡ Some (named_target (symbol_of (sym_text code.symbols x))) = named_there (symbols_of (names_of code)) (new x) (symbol_of (sym_text code.symbols x)) (to_map symbol_of (names_of code) (new x) (sym_text code.symbols x) (placed code x part)) in
      let target : is_nowhere (Some (named_target (symbol_of (sym_text code.symbols x)))) ≡ false = library_stands (library_named library_functions (sym_text code.symbols x)) (ap (λ (s : List ℕ). is_some (library_named library_functions s)) text ∙ h) in
      datums_keep (renumbered code).datums (with_functions first (renumbered code).functions) (new x) (functions_keep (renumbered code).functions first (new x) (ap is_nowhere at ∙ target))

  same_number : (x y : Sym) → x.0 ≡ y.0 → new x ≡ new y
  same_number x y e = ap (λ (n : ℕ). new (record { 0 = n })) e

  part_stands : (x : Sym) → IsPart code x → Stands new_targets (new x)
  part_stands x part = by (closed x.0 there.symbol there.at (mentioned code x part))
    where
      there : IsThere code w x
      there = part_there code w x part

      by : HasBody code x.0 there.symbol → Stands new_targets (new x)
      by (inl h) = subst (Stands new_targets) (same_number h.unit.0 x h.is) (function_stands h.at h.unit h.there)
      by (inr (inl h)) = let d = found code.datums x.0 h in subst (Stands new_targets) (same_number d.1.sym x d.3) (datum_stands d.0 d.1 d.2)
      by (inr (inr h)) = library_stands_there x part there.symbol there.text h

-- ---- what a part with other numbers names

module _ (symbols : List Symbol) (names : List (List ℕ)) where
  abbrev Back : Option Sym → Sym → Type 0
  Back o y = (x : Sym) × (o ≡ Some x) × (y ≡ renamed symbols names x)

  operand_back : (o : Operand) (y : Sym) → operand_symbol (renamed_operand symbols names o) ≡ Some y → Back (operand_symbol o) y
  operand_back (operands.Low x offset) y e = (x, refl, sym (same_Some (renamed symbols names x) y e))
  operand_back (operands.High x offset) y e = (x, refl, sym (same_Some (renamed symbols names x) y e))
  operand_back (operands.At x offset) y e = (x, refl, sym (same_Some (renamed symbols names x) y e))
  operand_back operands.Nothing y e = absurd (none-some y e)
  operand_back (operands.Byte v) y e = absurd (none-some y e)
  operand_back (operands.Zero v) y e = absurd (none-some y e)
  operand_back (operands.To l) y e = absurd (none-some y e)

  callee_back : (c : Callee) (y : Sym) → callee_symbol (renamed_callee symbols names c) ≡ Some y → Back (callee_symbol c) y
  callee_back (callees.Routine r) y e = absurd (none-some y e)
  callee_back (callees.Function x reads gives) y e = (x, refl, sym (same_Some (renamed symbols names x) y e))
  callee_back (callees.Pointer reads gives) y e = absurd (none-some y e)

  line_back : (l : Line) (y : Sym) → line_symbol (renamed_line symbols names l) ≡ Some y → Back (line_symbol l) y
  line_back (lines.Label l) y e = absurd (none-some y e)
  line_back (lines.Do op mode o) y e = operand_back o y e
  line_back (lines.Call c) y e = callee_back c y e

  cell_back : (c : DataCell) (y : Sym) → cell_symbol (renamed_cell symbols names c) ≡ Some y → Back (cell_symbol c) y
  cell_back (Byte v) y e = absurd (none-some y e)
  cell_back (Address x offset) y e = (x, refl, sym (same_Some (renamed symbols names x) y e))

-- ---- nothing is missing where all that is named stands

module _ (targets : List Target) where
  abbrev Free : Option Sym → Type 0
  Free o = (y : Sym) → o ≡ Some y → Stands targets y.0

  or_none : (a b : Option Sym) → a ≡ None → b ≡ None → or_else a b ≡ None
  or_none a b e f = ap (λ (o : Option Sym). or_else o b) e ∙ f

  none_here : (o : Option Sym) → Free o → missing targets o ≡ None
  none_here None h = refl
  none_here (Some y) h = ap (λ (b : Bool). if b then Some y else None) (h y refl)

  none_in_lines : (ls : List Line) → ((j : ℕ) (l : Line) → slice_get ls j ≡ Some l → Free (line_symbol l)) → missing_in_lines targets ls ≡ None
  none_in_lines [] h = refl
  none_in_lines (l ∷ ls) h = or_none (missing targets (line_symbol l)) (missing_in_lines targets ls) (none_here (line_symbol l) (h 0 l refl)) (none_in_lines ls (λ j. h (suc j)))

  none_in_functions : (fs : List (Sym × Segment)) → ((k j : ℕ) (f : Sym × Segment) (l : Line) → slice_get fs k ≡ Some f → slice_get f.1.lines j ≡ Some l → Free (line_symbol l)) → missing_in_functions targets fs ≡ None
  none_in_functions [] h = refl
  none_in_functions (f ∷ fs) h = or_none (missing_in_lines targets f.1.lines) (missing_in_functions targets fs) (none_in_lines f.1.lines (λ j l. h 0 j f l refl)) (none_in_functions fs (λ k. h (suc k)))

  none_in_cells : (cs : List DataCell) → ((j : ℕ) (c : DataCell) → slice_get cs j ≡ Some c → Free (cell_symbol c)) → missing_in_cells targets cs ≡ None
  none_in_cells [] h = refl
  none_in_cells (c ∷ cs) h = or_none (missing targets (cell_symbol c)) (missing_in_cells targets cs) (none_here (cell_symbol c) (h 0 c refl)) (none_in_cells cs (λ j. h (suc j)))

  none_in_datums : (ds : List Datum) → ((k j : ℕ) (d : Datum) (c : DataCell) → slice_get ds k ≡ Some d → slice_get d.cells j ≡ Some c → Free (cell_symbol c)) → missing_in_datums targets ds ≡ None
  none_in_datums [] h = refl
  none_in_datums (d ∷ ds) h = or_none (missing_in_cells targets d.cells) (missing_in_datums targets ds) (none_in_cells d.cells (λ j c. h 0 j d c refl)) (none_in_datums ds (λ k. h (suc k)))

module _ (code : Code) (w : IsWritable code) (closed : IsClosed code) where
  lines_stand : (k j : ℕ) (f : Sym × Segment) (l : Line) → slice_get (renumbered code).functions k ≡ Some f → slice_get f.1.lines j ≡ Some l → Free (targets_of (renumbered code)) (line_symbol l)
  lines_stand k j f l at here y e =
      let g = old_function code w k f at in
      let m = old_line code w f g.old g.is j l here in
      let x = line_back code.symbols (names_of code) m.old y (ap line_symbol (sym m.is) ∙ e) in
      subst (λ (s : Sym). Stands (targets_of (renumbered code)) s.0) (sym x.2) (part_stands code w closed x.0 (line k j g.old m.old g.there m.there x.1))

  cells_stand : (k j : ℕ) (d : Datum) (c : DataCell) → slice_get (renumbered code).datums k ≡ Some d → slice_get d.cells j ≡ Some c → Free (targets_of (renumbered code)) (cell_symbol c)
  cells_stand k j d c at here y e =
      let g = old_datum code w k d at in
      let m = old_cell code w d g.old g.is j c here in
      let x = cell_back code.symbols (names_of code) m.old y (ap cell_symbol (sym m.is) ∙ e) in
      subst (λ (s : Sym). Stands (targets_of (renumbered code)) s.0) (sym x.2) (part_stands code w closed x.0 (cell k j g.old m.old g.there m.there x.1))

  none_in_code : missing_in_code (renumbered code) (targets_of (renumbered code)) ≡ None
  none_in_code =
      or_none (targets_of (renumbered code)) (missing_in_functions (targets_of (renumbered code)) (renumbered code).functions) (missing_in_datums (targets_of (renumbered code)) (renumbered code).datums)
      (none_in_functions (targets_of (renumbered code)) (renumbered code).functions lines_stand) (none_in_datums (targets_of (renumbered code)) (renumbered code).datums cells_stand)

-- ---- main

-- the first symbol of that spelling
pub record MainAt (symbols : List Symbol) (at : ℕ) : Type 0 where
  pub place : ℕ
  pub symbol : Symbol
  pub found : main_in symbols at ≡ Some (at + place)
  pub there : slice_get symbols place ≡ Some symbol
  pub spelled : symbol.spelling ≡ codes "_main"

main_there : (symbols : List Symbol) (at i : ℕ) (symbol : Symbol) → slice_get symbols i ≡ Some symbol → symbol.spelling ≡ codes "_main" → MainAt symbols at
main_there [] at i symbol h e = absurd (none-some symbol h)
main_there (s ∷ symbols) at i symbol h e = by (bytes_eq s.spelling (codes "_main")) refl i h (λ j g. main_there symbols (at + 1) j symbol g e)
  where
    by : (b : Bool) → bytes_eq s.spelling (codes "_main") ≡ b → (i : ℕ) → slice_get (s ∷ symbols) i ≡ Some symbol → ((j : ℕ) → slice_get symbols j ≡ Some symbol → MainAt symbols (at + 1)) → MainAt (s ∷ symbols) at
    by true f i g rest =
        let here : at + 0 ≡ at = omega arith in
        record { place = 0; symbol = s; found = ap (λ (b : Bool). if b then Some at else main_in symbols (at + 1)) f ∙ ap Some (sym here); there = refl; spelled = (bytes_eq-Decides s.spelling (codes "_main")).0 f }
    by false f zero g rest =
        let same : s.spelling ≡ codes "_main" = ap (λ (x : Symbol). x.spelling) (same_Some s symbol g) ∙ e in
        let t : bytes_eq s.spelling (codes "_main") ≡ true = (bytes_eq-Decides s.spelling (codes "_main")).1 same in
        cc
    by false f (suc j) g rest =
        let r = rest j g in
        let on : at + 1 + r.place ≡ at + suc r.place = omega arith in
        record { place = suc r.place; symbol = r.symbol; found = ap (λ (b : Bool). if b then Some at else main_in symbols (at + 1)) f ∙ r.found ∙ ap Some on; there = r.there; spelled = r.spelled }

module _ (code : Code) (main : ℕ) (w : IsWritable code) (closed : IsClosed code) (m : IsMain code main) (named : IsNamed code main) where
  abbrev main_symbol : Sym
  main_symbol = record { 0 = main }

  -- main has lines or a datum, since no function of the library has its name
  main_part : IsPart code main_symbol
  main_part = by (closed main m.0 m.1 named)
    where
      as_symbol : (x : Sym) → x.0 ≡ main → x ≡ main_symbol
      as_symbol x e = ap (λ (n : ℕ). let y : Sym = record { 0 = n } in y) e

      by : HasBody code main m.0 → IsPart code main_symbol
      by (inl h) = function h.at h.unit h.there (as_symbol h.unit.0 h.is)
      by (inr (inl h)) = let d = found code.datums main h in datum d.0 d.1 d.2 (as_symbol d.1.sym d.3)
      by (inr (inr h)) = let none : is_some (library_named library_functions m.0.spelling) ≡ false = ap (λ (s : List ℕ). is_some (library_named library_functions s)) m.2 in let yes : is_some (library_named library_functions m.0.spelling) ≡ true = h in cc

  main_stands : is_main_missing (targets_of (renumbered code)) (main_in (renumbered code).symbols 0) ≡ false
  main_stands =
      let text : sym_text code.symbols main_symbol ≡ codes "_main" = ap spelling_of m.1 ∙ m.2 in
      let here = to_map symbol_of (names_of code) (number_in code main) (sym_text code.symbols main_symbol) (placed code main_symbol main_part) in
      let f = main_there (symbols_of (names_of code)) 0 (number_in code main) (symbol_of (sym_text code.symbols main_symbol)) here text in
      let s = from_map symbol_of (names_of code) f.place f.symbol f.there in
      let spelled : s.old ≡ sym_text code.symbols main_symbol = sym (ap (λ (x : Symbol). x.spelling) s.is) ∙ f.spelled ∙ sym text in
      let same : number_in code main ≡ f.place = number_at code main_symbol f.place main_part (s.there ∙ ap Some spelled) in
      let first : 0 + f.place ≡ f.place = omega arith in
      ap (is_main_missing (targets_of (renumbered code))) (f.found ∙ ap Some first) ∙ subst (λ (n : ℕ). Stands (targets_of (renumbered code)) n) same (part_stands code w closed main_symbol main_part)

  pub none_missing : missing_of (renumbered code) (targets_of (renumbered code)) ≡ None
  none_missing =
      ap (λ (b : Bool). if b then Some (codes "_main") else name_of (renumbered code).symbols (missing_in_code (renumbered code) (targets_of (renumbered code)))) main_stands
      ∙ ap (name_of (renumbered code).symbols) (none_in_code code w closed)

-- ---- a code of which nothing is missing is at most too large

fitted_not : (b : Bool) (n : ℕ) (payload : List ℕ) (name : List ℕ) → (if b then Err (large n) else Ok (image_of payload)) ≡ Err (undefined name) → ⊥
fitted_not true n payload name h = cc
fitted_not false n payload name h = cc

pub nothing_is_undefined : NothingIsUndefined
nothing_is_undefined code main name w t closed m named h =
    let r = renumbered code in
    let e : linked r ≡ placed_code r (targets_of r) (parts_of r (targets_of r)) = ap (named_or_placed r (targets_of r)) (none_missing code main w closed m named) in
    fitted_not _ _ _ name (sym e ∙ h)
