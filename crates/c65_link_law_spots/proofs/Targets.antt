-- What stands for a symbol without a body.
use Rattle.std.proofs.Common.{◌≡◌, ℕ, zero, suc, ◌+◌, ◌<◌, Bool, true, false, if◌then◌else◌, List, [], ◌∷◌, ◌++◌, codes, bytes_eq, Option, Some, None, Result, Ok, Err, length, slice_get, slice_set, slice_index, refl, ap, sym, ◌∙◌, subst, arith}
use Rattle.std.proofs.lemmas.List.{get_or-set_same, get_or-set_other, length-set}
use Rattle.std.proofs.lemmas.Slice.Eq.{bytes_eq-Decides}
use Rattle.c65_base.specs.declared.options.Cpu.{Cpu}
use Rattle.c65_base.specs.declared.library.Library.{Library}
use Rattle.c65_base.specs.Library.{library_name, library_functions}
use Rattle.c65_mach.specs.declared.image.Image.{Image}
use Rattle.c65_code.specs.declared.routine.Routine.TheVariants as routines
use Rattle.c65_code.specs.declared.line.Sym.{Sym}
use Rattle.c65_code.specs.declared.line.Line.{Line}
use Rattle.c65_code.specs.declared.code.Code.{Code}
use Rattle.c65_code.specs.declared.code.Symbol.{Symbol}
use Rattle.c65_code.specs.declared.code.Datum.{Datum}
use Rattle.c65_code.specs.declared.code.DataCell.{DataCell}
use Rattle.c65_code.specs.Segments.{Segment}
use Rattle.c65_code.specs.Numbering.{number_of}
use Rattle.c65_code.specs.Placement.{library_named}
use Rattle.c65_link.specs.declared.symbols.Target.{Target}
use Rattle.c65_link.specs.declared.symbols.Target.TheVariants.{Nowhere, Own, Runtime}
use Rattle.c65_link.specs.Layouts.{Layout}
use Rattle.c65_link.specs.Layouts.{with_target as put_target, with_targets as put_targets}
use Rattle.c65_link.specs.Symbols.{target_by, named_target, named_targets, with_functions, with_datums, targets_of, line_symbol, cell_symbol, is_nowhere, missing, missing_in_lines, missing_in_functions, missing_in_cells, missing_in_datums, missing_in_code, or_else, name_of, missing_of, is_main_missing, main_in}
use Rattle.c65_link.specs.Linked.{Fault, named_or_placed, linked, image_for, linked_for}
use Rattle.c65_link_law_spots.specs.Sound.{IsNamed, by_function, by_datum, by_line, by_cell}
use Rattle.c65_link_law_spots.proofs.Sums.{none_there, same_there}
use Rattle.c65_link_law_spots.proofs.Numbers.{get_other}

-- Targets at a symbol without a body

named_there : (symbols : List Symbol) (i : ℕ) (symbol : Symbol) → slice_get symbols i ≡ Some symbol → slice_get (named_targets symbols) i ≡ Some (named_target symbol)
named_there [] i symbol h = none_there symbol h
named_there (s ∷ symbols) zero symbol h = ap (λ x. Some (named_target x)) (same_there s symbol h)
named_there (s ∷ symbols) (suc i) symbol h = named_there symbols i symbol h

functions_leave : (fs : List (Sym × Segment)) (targets : List Target) (n : ℕ) → ((k : ℕ) (f : Sym × Segment) → slice_get fs k ≡ Some f → f.0.0 ≡ n → ⊥) → slice_get (with_functions targets fs) n ≡ slice_get targets n
functions_leave [] targets n h = refl
functions_leave (f ∷ fs) targets n h = functions_leave fs (slice_set targets f.0.0 Own) n (λ k. h (suc k)) ∙ get_other targets n f.0.0 Own (λ e. h 0 f refl (sym e))

datums_leave : (datums : List Datum) (targets : List Target) (n : ℕ) → ((k : ℕ) (d : Datum) → slice_get datums k ≡ Some d → d.sym.0 ≡ n → ⊥) → slice_get (with_datums targets datums) n ≡ slice_get targets n
datums_leave [] targets n h = refl
datums_leave (d ∷ datums) targets n h = datums_leave datums (slice_set targets d.sym.0 Own) n (λ k. h (suc k)) ∙ get_other targets n d.sym.0 Own (λ e. h 0 d refl (sym e))

pub target_there : (code : Code) (i : ℕ) (symbol : Symbol) → slice_get code.symbols i ≡ Some symbol → ((k : ℕ) (f : Sym × Segment) → slice_get code.functions k ≡ Some f → f.0.0 ≡ i → ⊥) → ((k : ℕ) (d : Datum) → slice_get code.datums k ≡ Some d → d.sym.0 ≡ i → ⊥)
    → slice_get (targets_of code) i ≡ Some (named_target symbol)
target_there code i symbol there no_function no_datum =
    datums_leave code.datums (with_functions (named_targets code.symbols) code.functions) i no_datum
    ∙ functions_leave code.functions (named_targets code.symbols) i no_function
    ∙ named_there code.symbols i symbol there

-- Nothing that is named is missing

none_first : (a b : Option Sym) → or_else a b ≡ None → (a ≡ None) × (b ≡ None)
none_first None b h = (refl, h)
none_first (Some s) b h = absurd cc

missing_at : (targets : List Target) (o : Option Sym) (s : Sym) → o ≡ Some s → missing targets o ≡ None → is_nowhere (slice_get targets s.0) ≡ false
missing_at targets o s e h = by (is_nowhere (slice_get targets s.0)) refl
  where
    by : (b : Bool) → is_nowhere (slice_get targets s.0) ≡ b → is_nowhere (slice_get targets s.0) ≡ false
    by false g = g
    by true g =
        let at : (if is_nowhere (slice_get targets s.0) then Some s else None) ≡ None = ap (missing targets) (sym e) ∙ h in
        let some : ◌≡◌ {A = Option Sym} (Some s) None = ap (λ (b : Bool). if b then Some s else None) (sym g) ∙ at in
        absurd cc

in_lines : (targets : List Target) (lines : List Line) (j : ℕ) (line : Line) (s : Sym) → slice_get lines j ≡ Some line → line_symbol line ≡ Some s → missing_in_lines targets lines ≡ None → is_nowhere (slice_get targets s.0) ≡ false
in_lines targets [] j line s here e h = none_there line here
in_lines targets (l ∷ lines) zero line s here e h = missing_at targets (line_symbol l) s (ap line_symbol (same_there l line here) ∙ e) (none_first (missing targets (line_symbol l)) (missing_in_lines targets lines) h).0
in_lines targets (l ∷ lines) (suc j) line s here e h = in_lines targets lines j line s here e (none_first (missing targets (line_symbol l)) (missing_in_lines targets lines) h).1

in_functions : (targets : List Target) (fs : List (Sym × Segment)) (k j : ℕ) (f : Sym × Segment) (line : Line) (s : Sym) → slice_get fs k ≡ Some f → slice_get f.1.lines j ≡ Some line → line_symbol line ≡ Some s → missing_in_functions targets fs ≡ None → is_nowhere (slice_get targets s.0) ≡ false
in_functions targets [] k j f line s at here e h = none_there f at
in_functions targets (g ∷ fs) zero j f line s at here e h =
    in_lines targets g.1.lines j line s (subst (λ (x : Sym × Segment). slice_get x.1.lines j ≡ Some line) (sym (same_there g f at)) here) e (none_first (missing_in_lines targets g.1.lines) (missing_in_functions targets fs) h).0
in_functions targets (g ∷ fs) (suc k) j f line s at here e h = in_functions targets fs k j f line s at here e (none_first (missing_in_lines targets g.1.lines) (missing_in_functions targets fs) h).1

in_cells : (targets : List Target) (cells : List DataCell) (j : ℕ) (cell : DataCell) (s : Sym) → slice_get cells j ≡ Some cell → cell_symbol cell ≡ Some s → missing_in_cells targets cells ≡ None → is_nowhere (slice_get targets s.0) ≡ false
in_cells targets [] j cell s here e h = none_there cell here
in_cells targets (c ∷ cells) zero cell s here e h = missing_at targets (cell_symbol c) s (ap cell_symbol (same_there c cell here) ∙ e) (none_first (missing targets (cell_symbol c)) (missing_in_cells targets cells) h).0
in_cells targets (c ∷ cells) (suc j) cell s here e h = in_cells targets cells j cell s here e (none_first (missing targets (cell_symbol c)) (missing_in_cells targets cells) h).1

in_datums : (targets : List Target) (datums : List Datum) (k j : ℕ) (datum : Datum) (cell : DataCell) (s : Sym) → slice_get datums k ≡ Some datum → slice_get datum.cells j ≡ Some cell → cell_symbol cell ≡ Some s → missing_in_datums targets datums ≡ None → is_nowhere (slice_get targets s.0) ≡ false
in_datums targets [] k j datum cell s at here e h = none_there datum at
in_datums targets (d ∷ datums) zero j datum cell s at here e h =
    in_cells targets d.cells j cell s (subst (λ (x : Datum). slice_get x.cells j ≡ Some cell) (sym (same_there d datum at)) here) e (none_first (missing_in_cells targets d.cells) (missing_in_datums targets datums) h).0
in_datums targets (d ∷ datums) (suc k) j datum cell s at here e h = in_datums targets datums k j datum cell s at here e (none_first (missing_in_cells targets d.cells) (missing_in_datums targets datums) h).1

-- where nothing is missing

pub none_missing : (code : Code) → missing_of code (targets_of code) ≡ None → missing_in_code code (targets_of code) ≡ None
none_missing code h = by (is_main_missing (targets_of code) (main_in code.symbols 0)) h
  where
    name : (o : Option Sym) → name_of code.symbols o ≡ None → o ≡ None
    name None e = refl
    name (Some s) e = absurd cc

    by : (b : Bool) → (if b then Some (codes "_main") else name_of code.symbols (missing_in_code code (targets_of code))) ≡ None → missing_in_code code (targets_of code) ≡ None
    by true e = absurd cc
    by false e = name (missing_in_code code (targets_of code)) e

-- an image was made: nothing is missing, and it is that of the 6502 but for the processor's word
pub record IsMade (code : Code) (image : Image) : Type 0 where
  pub plain : Image
  pub is : linked code ≡ Ok plain
  pub payload : image.payload ≡ plain.payload
  pub missing : missing_of code (targets_of code) ≡ None

pub made : (code : Code) (cpu : Cpu) (image : Image) → linked_for cpu code ≡ Ok image → IsMade code image
made code cpu image h = by (linked code) refl h
  where
    none_by : (o : Option (List ℕ)) (plain : Image) → named_or_placed code (targets_of code) o ≡ Ok plain → o ≡ None
    none_by None plain e = refl
    none_by (Some name) plain e = absurd cc

    by : (r : Result Image Fault) → linked code ≡ r → image_for cpu r ≡ Ok image → IsMade code image
    by (Err fault) e g = absurd cc
    by (Ok plain) e g =
        let same : ◌≡◌ {A = Image} (record plain { cpu = cpu }) image = cc in
        record { plain = plain; is = e; payload = ap (λ (i : Image). i.payload) (sym same); missing = none_by (missing_of code (targets_of code)) plain e }

-- the name of a library function
pub spelled : (fs : List Library) (spelling : List ℕ) (l : Library) → library_named fs spelling ≡ Some l → codes "_" ++ library_name l ≡ spelling
spelled [] spelling l h = none_there l h
spelled (f ∷ fs) spelling l h = by (bytes_eq (codes "_" ++ library_name f) spelling) refl h (spelled fs spelling l)
  where
    by : (b : Bool) → bytes_eq (codes "_" ++ library_name f) spelling ≡ b → (if b then Some f else library_named fs spelling) ≡ Some l → (library_named fs spelling ≡ Some l → codes "_" ++ library_name l ≡ spelling) → codes "_" ++ library_name l ≡ spelling
    by true e g rest = ap (λ (x : Library). codes "_" ++ library_name x) (sym (same_there f l g)) ∙ (bytes_eq-Decides (codes "_" ++ library_name f) spelling).0 e
    by false e g rest = rest g

pub record IsLibrary (symbol : Symbol) (l : Library) : Type 0 where
  pub target : named_target symbol ≡ Runtime l
  pub spelling : symbol.spelling ≡ codes "_" ++ library_name l

library_by : (symbol : Symbol) → is_nowhere (Some (named_target symbol)) ≡ false → (l : Library) × IsLibrary symbol l
library_by symbol h = by (library_named library_functions symbol.spelling) refl h
  where
    by : (o : Option Library) → library_named library_functions symbol.spelling ≡ o → is_nowhere (Some (target_by o)) ≡ false → (l : Library) × IsLibrary symbol l
    by None e g = absurd cc
    by (Some l) e g = (l, record { target = ap target_by e; spelling = sym (spelled library_functions symbol.spelling l e) })

-- a symbol of a function without lines is the library's, and is marked
pub not_nowhere : (code : Code) (i : ℕ) → missing_of code (targets_of code) ≡ None → IsNamed code i → ((k : ℕ) (f : Sym × Segment) → slice_get code.functions k ≡ Some f → f.0.0 ≡ i → ⊥) → ((k : ℕ) (d : Datum) → slice_get code.datums k ≡ Some d → d.sym.0 ≡ i → ⊥)
    → is_nowhere (slice_get (targets_of code) i) ≡ false
not_nowhere code i missing named no_function no_datum = by named
  where
    parts : (missing_in_functions (targets_of code) code.functions ≡ None) × (missing_in_datums (targets_of code) code.datums ≡ None)
    parts = none_first (missing_in_functions (targets_of code) code.functions) (missing_in_datums (targets_of code) code.datums) (none_missing code missing)

    by : IsNamed code i → is_nowhere (slice_get (targets_of code) i) ≡ false
    by (by_function k f here e) = absurd (no_function k f here e)
    by (by_datum k d here e) = absurd (no_datum k d here e)
    by (by_line k j f line s at here e is) = subst (λ (n : ℕ). is_nowhere (slice_get (targets_of code) n) ≡ false) is (in_functions (targets_of code) code.functions k j f line s at here e parts.0)
    by (by_cell k j d cell s at here e is) = subst (λ (n : ℕ). is_nowhere (slice_get (targets_of code) n) ≡ false) is (in_datums (targets_of code) code.datums k j d cell s at here e parts.1)

pub library_there : (code : Code) (i : ℕ) (symbol : Symbol) → slice_get code.symbols i ≡ Some symbol → missing_of code (targets_of code) ≡ None → IsNamed code i
    → ((k : ℕ) (f : Sym × Segment) → slice_get code.functions k ≡ Some f → f.0.0 ≡ i → ⊥) → ((k : ℕ) (d : Datum) → slice_get code.datums k ≡ Some d → d.sym.0 ≡ i → ⊥)
    → (l : Library) × IsLibrary symbol l
library_there code i symbol there missing named no_function no_datum =
    library_by symbol (subst (λ (o : Option Target). is_nowhere o ≡ false) (target_there code i symbol there no_function no_datum) (not_nowhere code i missing named no_function no_datum))

-- The symbol of a library function gets the routine's address

target_routines : (layout : Layout) (i : ℕ) (target : Target) → (put_target layout i target).routines ≡ layout.routines
target_routines layout i Nowhere = refl
target_routines layout i Own = refl
target_routines layout i (Runtime f) = refl

target_wide : (layout : Layout) (i : ℕ) (target : Target) → length (put_target layout i target).symbols ≡ length layout.symbols
target_wide layout i Nowhere = refl
target_wide layout i Own = refl
target_wide layout i (Runtime f) = length-set layout.symbols i _

target_leaves : (layout : Layout) (i n : ℕ) (target : Target) → (n ≡ i → ⊥) → slice_index (put_target layout i target).symbols n ≡ slice_index layout.symbols n
target_leaves layout i n Nowhere h = refl
target_leaves layout i n Own h = refl
target_leaves layout i n (Runtime f) h = get_or-set_other layout.symbols i n _ 0 h

targets_below : (targets : List Target) (layout : Layout) (i n : ℕ) → n < i → slice_index (put_targets layout i targets).symbols n ≡ slice_index layout.symbols n
targets_below [] layout i n l = refl
targets_below (t ∷ targets) layout i n l = targets_below targets (put_target layout i t) (i + 1) n (omega (arith, l)) ∙ target_leaves layout i n t (λ e. omega (arith, l, e))

pub targets_wide : (targets : List Target) (layout : Layout) (i : ℕ) → length (put_targets layout i targets).symbols ≡ length layout.symbols
targets_wide [] layout i = refl
targets_wide (t ∷ targets) layout i = targets_wide targets (put_target layout i t) (i + 1) ∙ target_wide layout i t

pub targets_routines : (targets : List Target) (layout : Layout) (i : ℕ) → (put_targets layout i targets).routines ≡ layout.routines
targets_routines [] layout i = refl
targets_routines (t ∷ targets) layout i = targets_routines targets (put_target layout i t) (i + 1) ∙ target_routines layout i t

pub targets_lead : (targets : List Target) (layout : Layout) (i n : ℕ) (l : Library) → slice_get targets n ≡ Some (Runtime l) → i + n < length layout.symbols → slice_index (put_targets layout i targets).symbols (i + n) ≡ slice_index layout.routines (number_of (routines.Library l))
targets_lead [] layout i n l h inside = none_there (Runtime l) h
targets_lead (t ∷ targets) layout i zero l h inside =
    let e : i + 0 ≡ i = omega arith in
    let there : slice_index (put_targets (put_target layout i t) (i + 1) targets).symbols i ≡ slice_index (put_target layout i t).symbols i = targets_below targets (put_target layout i t) (i + 1) i (omega arith) in
    let here : slice_index (put_target layout i t).symbols i ≡ slice_index layout.routines (number_of (routines.Library l)) =
    subst (λ (x : Target). slice_index (put_target layout i x).symbols i ≡ slice_index layout.routines (number_of (routines.Library l))) (sym (same_there t (Runtime l) h)) (get_or-set_same layout.symbols i _ 0 (omega (arith, inside))) in
    ap (slice_index (put_targets (put_target layout i t) (i + 1) targets).symbols) e ∙ there ∙ here
targets_lead (t ∷ targets) layout i (suc n) l h inside =
    let e : i + suc n ≡ i + 1 + n = omega arith in
    let wide = target_wide layout i t in
    ap (slice_index (put_targets (put_target layout i t) (i + 1) targets).symbols) e
    ∙ targets_lead targets (put_target layout i t) (i + 1) n l h (omega (arith, inside, wide))
    ∙ ap (λ (xs : List ℕ). slice_index xs (number_of (routines.Library l))) (target_routines layout i t)
