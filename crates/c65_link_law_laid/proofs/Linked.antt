-- Each unit of a linked code stands as rows ask for it.
use Rattle.std.proofs.Common.{◌≡◌, ℕ, zero, suc, ◌+◌, ◌-◌, ◌<◌, ◌≤◌, ◌==◌, ◌&&◌, Bool, true, false, nat_le, nat_lt, if◌then◌else◌, IsTrue, List, [], ◌∷◌, ◌++◌, map, replicate, Option, Some, None, unwrap_or, Ok, length, slice_get, slice_index, refl, ap, sym, ◌∙◌, subst, arith, ltb-true, leb-true, eqb-true}
use Rattle.std.specs.List.{list_all}
use Rattle.std.proofs.lemmas.Bool.{and_parts, and_from, lt-ltb, le-ltb, le-leb, eq-eqb, ne_eqb}
use Rattle.std.proofs.lemmas.List.{get_or-set_other}
use Rattle.std.proofs.lemmas.List.Folds.{list_all-append}
use Rattle.c65_base.specs.declared.options.Cpu.{Cpu}
use Rattle.c65_base.specs.declared.options.Cpu.TheVariants.{Nmos, Cmos}
use Rattle.c65_base.specs.declared.library.Library.{Library}
use Rattle.c65_base.specs.Library.{library_functions}
use Rattle.c65_mach.specs.declared.image.Image.{Image}
use Rattle.c65_mach.specs.State.{read, loaded_memory}
use Rattle.c65_code.specs.declared.routine.Routine.{Routine}
use Rattle.c65_code.specs.declared.routine.Routine.TheVariants as routines
use Rattle.c65_code.specs.declared.routine.TheConstants.Routine.{ALL}
use Rattle.c65_code.specs.Numbering.{number_of}
use Rattle.c65_code.proofs.RoutineNumbers.{routines_are_numbered}
use Rattle.c65_code.specs.declared.line.Sym.{Sym}
use Rattle.c65_code.specs.declared.line.Operand.TheVariants as operands
use Rattle.c65_code.specs.declared.line.Callee.TheVariants as callees
use Rattle.c65_code.specs.declared.line.Line.{Line}
use Rattle.c65_code.specs.declared.line.Line.TheVariants.{Label, Do, Call}
use Rattle.c65_code.specs.declared.code.Code.{Code}
use Rattle.c65_code.specs.Placement.{IsPlacement, is_function_of, is_nothing, segment_of, library_named, library_of, program_start, stack_start}
use Rattle.c65_code.proofs.FunctionLaws.{named_library, function_parts}
use Rattle.c65_code.specs.Segments.{Segment, IsSegment, is_fit, labels_of, targets_of, target_of as line_target, is_among}
use Rattle.c65_code.specs.Processors.{RunsOn, is_nmos_line}
use Rattle.c65_code.specs.Moves.{labelled}
use Rattle.c65_code.specs.RawMachine.{target_of, entry_of as entry_place}
use Rattle.c65_link.specs.Bytes.{Spot}
use Rattle.c65_link.specs.Layouts.{Layout, hook_addresses, with_function, with_functions, with_routine, with_routines}
use Rattle.c65_link.specs.Runtime.{has_lines, routine_lines}
use Rattle.c65_link.specs.Linked.{entry_of, linked_for, main_address}
use Rattle.c65_link_law.specs.Coded.{Memory, Stands, IsCoded, AreCoded}
use Rattle.c65_link_law.specs.Placed.{layout_in, routines_in, function_number}
use Rattle.c65_link_law_spots.specs.Places.{address_in, code_end, routine_count, lines_by, runtime_lines, lines_in, runtime_base, base_in, symbols_in, spot_in, place_in}
use Rattle.c65_link_law_spots.specs.Sound.{IsSound}
use Rattle.c65_link_law_spots.specs.Laws.{IsChosen, CallsRoutine, AreUsesChosen, IsUnit, function, routine, start, end_in, IsUnitPlaced}
use Rattle.c65_link_law_spots.proofs.Marks.{numbered}
use Rattle.c65_link_law_spots.proofs.Numbers.{Has, has, found, nowhere}
use Rattle.c65_link_law_spots.proofs.Uses.{whole_in, uses_are_chosen}
use Rattle.c65_link_law_spots.proofs.Targets.{IsMade, made}
use Rattle.c65_link_law_spots.proofs.Spots.{begun, last_routines, Ends, ends, routine_called, Stood, own, library, stood}
use Rattle.c65_link_law_spots.proofs.Places.{places_are_placements, Within, within, lies}
use Rattle.c65_link_law_spots.proofs.Units.{units_stand}
use Rattle.c65_link_law_spots.proofs.Loaded.{data_are_loaded}
use Rattle.c65_link_law_follow.specs.Laid.{IsLineOf, IsLineNumber, IsTargetKnown, LineLeadsWell, hook_address, IsLaid, IsGround}
use Rattle.c65_link_law_laid.specs.Linked.{line_at, with_main, main_number, start_number, unit_lines, raw_in, kept_in, place_at, ground_in}
use Rattle.c65_link_law_laid.specs.Laws.{AreLineNumbers, IsNoStart, LinkedCodesAreLaid}
use Rattle.c65_link_law_laid.proofs.Walk.{same_there, first_at, from_at, upto_at, coded_at, settled_at, labels_at, among, is_start_line, same_lines, main_lines}
use Rattle.c65_link_law_laid.proofs.Tables.{all_there, is_line_number, line_number, numbers_there, nmos_there, is_start, none_named, lined, low_number}

none_there : {A P : Type 0} (x : A) → ◌≡◌ {A = Option A} None (Some x) → P
none_there x h = absurd cc

-- Addresses that are kept

pub kept : (code : Code) (at : ℕ) → program_start ≤ at → at ≤ code_end code → kept_in code at ≡ at
kept code at low high = ap (λ (b : Bool). if b then at else program_start) (and_from (nat_le program_start at) (nat_le at (code_end code)) (le-leb program_start at low) (le-leb at (code_end code) high))

kept_low : (code : Code) (at : ℕ) → program_start ≤ kept_in code at
kept_low code at = by (nat_le program_start at && nat_le at (code_end code)) refl
  where
    by : (b : Bool) → (nat_le program_start at && nat_le at (code_end code)) ≡ b → program_start ≤ (if b then at else program_start)
    by true e = leb-true program_start at (and_parts (nat_le program_start at) (nat_le at (code_end code)) e).0
    by false e = omega arith

kept_high : (code : Code) (at : ℕ) → program_start ≤ code_end code → kept_in code at ≤ code_end code
kept_high code at h = by (nat_le program_start at && nat_le at (code_end code)) refl
  where
    by : (b : Bool) → (nat_le program_start at && nat_le at (code_end code)) ≡ b → (if b then at else program_start) ≤ code_end code
    by true e = leb-true at (code_end code) (and_parts (nat_le program_start at) (nat_le at (code_end code)) e).1
    by false e = h

-- Where calls lead

pub record Leads (code : Code) (m : Memory) (args : List (List ℕ)) : Type 0 where
  pub functions : (f : ℕ) → IsTrue (is_function_of code f) → address_in code f ≡ place_at code m (entry_place (raw_in code args) (target_of (raw_in code args) ((raw_in code args).library f) f))
  pub routines : (r : Routine) → IsChosen code r → slice_index (layout_in code).routines (number_of r) ≡ place_at code m (entry_place (raw_in code args) (length code.symbols + number_of r))
  pub hooks : (r : Routine) (n : ℕ) → hook_address r ≡ Some n → slice_index (layout_in code).routines (number_of r) ≡ n

entry_at : (code : Code) (m : Memory) (args : List (List ℕ)) (f : ℕ) → IsUnitPlaced code m f → place_at code m (entry_place (raw_in code args) f) ≡ base_in code f
entry_at code m args f u =
    let upto = u.to in
    ap (kept_in code) (settled_at (unit_lines code f) m (base_in code f) 0 ∙ first_at (unit_lines code f) m (base_in code f)) ∙ kept code (base_in code f) u.from (omega (arith, upto))

pub routine_base : (code : Code) (r : Routine) → base_in code (length code.symbols + number_of r) ≡ slice_index (layout_in code).routines (number_of r)
routine_base code r =
    let f : ℕ = length code.symbols + number_of r in
    let low = numbered r in
    ap (λ (b : Bool). if b then address_in code f else runtime_base code (f - length code.symbols)) (le-ltb f (length code.symbols) (omega arith))
    ∙ ap (runtime_base code) (let e : f - length code.symbols ≡ number_of r = omega arith in e)
    ∙ ap (λ (b : Bool). if b then program_start else slice_index (layout_in code).routines (number_of r)) (ne_eqb (number_of r) routine_count (λ e. omega (arith, low, e)))

-- hooks

functions_stay : (fs : List (Sym × Segment)) (layout : Layout) → (with_functions layout fs).routines ≡ layout.routines
functions_stay [] layout = refl
functions_stay (f ∷ fs) layout = functions_stay fs (with_function layout f)

routines_leave : (rs : List Routine) (layout : Layout) (n : ℕ) → 117 ≤ n → ((k : ℕ) (r : Routine) → slice_get rs k ≡ Some r → number_of r < 117) → slice_index (with_routines layout rs).routines n ≡ slice_index layout.routines n
routines_leave [] layout n h low = refl
routines_leave (r ∷ rs) layout n h low =
    let small = low 0 r refl in
    routines_leave rs (with_routine layout r) n h (λ k. low (suc k)) ∙ get_or-set_other layout.routines (number_of r) n _ 0 (λ e. omega (arith, e, small, h))

hooks_stay : (code : Code) (n : ℕ) → 117 ≤ n → slice_index (layout_in code).routines n ≡ slice_index (replicate 117 0 ++ hook_addresses) n
hooks_stay code n h =
    ap (λ (xs : List ℕ). slice_index xs n) (last_routines code)
    ∙ routines_leave (routines_in code) (with_functions (begun code) code.functions) n h (λ k r here. low_number r ((whole_in code).lined r (record { place = k; there = here })))
    ∙ ap (λ (xs : List ℕ). slice_index xs n) (functions_stay code.functions (begun code))

hook_there : (code : Code) (r : Routine) (n : ℕ) → hook_address r ≡ Some n → slice_index (layout_in code).routines (number_of r) ≡ n
hook_there code routines.HookOpen n h = hooks_stay code 117 (omega arith) ∙ same_there 0xFFF4 n h
hook_there code routines.HookClose n h = hooks_stay code 118 (omega arith) ∙ same_there 0xFFF5 n h
hook_there code routines.HookRead n h = hooks_stay code 119 (omega arith) ∙ same_there 0xFFF6 n h
hook_there code routines.HookWrite n h = hooks_stay code 120 (omega arith) ∙ same_there 0xFFF7 n h
hook_there code routines.HookArgs n h = hooks_stay code 121 (omega arith) ∙ same_there 0xFFF8 n h
hook_there code routines.HookExit n h = hooks_stay code 122 (omega arith) ∙ same_there 0xFFF9 n h
hook_there code _ n h = absurd cc

-- functions

no_segment : (fs : List (Sym × Segment)) (f : ℕ) → ((k : ℕ) (g : Sym × Segment) → slice_get fs k ≡ Some g → g.0.0 ≡ f → ⊥) → (segment_of fs f).lines ≡ []
no_segment [] f h = refl
no_segment (g ∷ fs) f h = ap (λ (b : Bool). (if b then g.1 else segment_of fs f).lines) (ne_eqb g.0.0 f (h 0 g refl)) ∙ no_segment fs f (λ k. h (suc k))

closed_lines : (lines : List Line) → IsSegment lines → is_nothing lines ≡ false
closed_lines [] s = (let z : false ≡ true = s.closed in absurd cc)
closed_lines (line ∷ lines) s = refl

-- what is asked of the library where a symbol is a function's
chosen_by : Bool → Bool → Option Library → Option Library
chosen_by a b o = if a && b then o else None

pub leads_in : (cpu : Cpu) (code : Code) (image : Image) (m : Memory) (args : List (List ℕ)) → IsSound code → linked_for cpu code ≡ Ok image → Stands m program_start image.payload → Leads code m args
leads_in cpu code image m args s linked_is stands = record { functions = lead; routines = lead_routine; hooks = hook_there code }
  where
    it : IsMade code image
    it = made code cpu image linked_is

    placed : (f : ℕ) → IsUnit code f → IsUnitPlaced code m f
    placed = units_stand code cpu image m s linked_is stands

    lead_routine : (r : Routine) → IsChosen code r → slice_index (layout_in code).routines (number_of r) ≡ place_at code m (entry_place (raw_in code args) (length code.symbols + number_of r))
    lead_routine r chosen =
        let f : ℕ = length code.symbols + number_of r in
        sym (routine_base code r) ∙ sym (entry_at code m args f (placed f (routine r chosen refl)))

    by : (f : ℕ) → IsTrue (is_function_of code f) → Has function_number code.functions f → address_in code f ≡ place_at code m (entry_place (raw_in code args) (target_of (raw_in code args) ((raw_in code args).library f) f))
    by f h (found k g here is) =
        let u : IsUnitPlaced code m f = placed f (function k g here is) in
        let inside : nat_lt f (length code.symbols) ≡ true = (function_parts code f h).inside in
        let lines_is : lines_in code f ≡ (segment_of code.functions f).lines = ap (λ (b : Bool). if b then (segment_of code.functions f).lines else runtime_lines code (f - length code.symbols)) inside in
        let full : is_nothing (segment_of code.functions f).lines ≡ false = closed_lines (segment_of code.functions f).lines (subst IsSegment lines_is u.segment) in
        let none : (raw_in code args).library f ≡ None =
        ap (λ (b : Bool). if b && is_nothing (segment_of code.functions f).lines then library_of (slice_get code.symbols f) else None) h
        ∙ ap (λ (b : Bool). if b then library_of (slice_get code.symbols f) else None) full in
        let base_is : base_in code f ≡ address_in code f = ap (λ (b : Bool). if b then address_in code f else runtime_base code (f - length code.symbols)) inside in
        sym base_is ∙ sym (entry_at code m args f u) ∙ ap (λ (o : Option Library). place_at code m (entry_place (raw_in code args) (target_of (raw_in code args) o f))) (sym none)
    by f h (nowhere no_function) = at (stood code it.plain f s it.is it.missing h)
      where
        at : Stood code f → address_in code f ≡ place_at code m (entry_place (raw_in code args) (target_of (raw_in code args) ((raw_in code args).library f) f))
        at (own k g here is) = absurd (no_function k g here is)
        at (library k l symbol there spelling chosen address) =
            let nothing : is_nothing (segment_of code.functions f).lines ≡ true = ap is_nothing (no_segment code.functions f no_function) in
            let named : library_of (slice_get code.symbols f) ≡ Some l = ap library_of there ∙ ap (library_named library_functions) spelling ∙ named_library l in
            let some : (raw_in code args).library f ≡ Some l =
            ap (λ (b : Bool). if b && is_nothing (segment_of code.functions f).lines then library_of (slice_get code.symbols f) else None) h
            ∙ ap (λ (b : Bool). if b then library_of (slice_get code.symbols f) else None) nothing ∙ named in
            address ∙ sym (routine_called code it.plain k (routines.Library l) it.is chosen) ∙ lead_routine (routines.Library l) (record { place = k; there = chosen })
            ∙ ap (λ (o : Option Library). place_at code m (entry_place (raw_in code args) (target_of (raw_in code args) o f))) (sym some)

    lead : (f : ℕ) → IsTrue (is_function_of code f) → address_in code f ≡ place_at code m (entry_place (raw_in code args) (target_of (raw_in code args) ((raw_in code args).library f) f))
    lead f h = by f h (has function_number code.functions f)

-- a library function that a symbol stands for stands in the image
pub library_chosen : (cpu : Cpu) (code : Code) (image : Image) (args : List (List ℕ)) (f : ℕ) (l : Library) → IsSound code → linked_for cpu code ≡ Ok image → IsTrue (is_function_of code f) → (raw_in code args).library f ≡ Some l → IsChosen code (routines.Library l)
library_chosen cpu code image args f l s linked_is h some = by (has function_number code.functions f)
  where
    it : IsMade code image
    it = made code cpu image linked_is

    lines : List Line
    lines = (segment_of code.functions f).lines

    asked : (b : Bool) → is_nothing lines ≡ b → (if b then library_of (slice_get code.symbols f) else None) ≡ Some l
    asked b e =
        sym (ap (λ (x : Bool). if x && is_nothing lines then library_of (slice_get code.symbols f) else None) h ∙ ap (λ (x : Bool). if x then library_of (slice_get code.symbols f) else None) e) ∙ some

    at : Stood code f → ((k : ℕ) (g : Sym × Segment) → slice_get code.functions k ≡ Some g → g.0.0 ≡ f → ⊥) → IsChosen code (routines.Library l)
    at (own k g here is) no_function = absurd (no_function k g here is)
    at (library k q symbol there spelling chosen address) no_function =
        let named : library_of (slice_get code.symbols f) ≡ Some q = ap library_of there ∙ ap (library_named library_functions) spelling ∙ named_library q in
        let same : q ≡ l = same_there q l (sym named ∙ asked true (ap is_nothing (no_segment code.functions f no_function))) in
        subst (λ (x : Library). IsChosen code (routines.Library x)) same (record { place = k; there = chosen })

    by : Has function_number code.functions f → IsChosen code (routines.Library l)
    by (found k g here is) =
        let u : IsUnitPlaced code (read (loaded_memory image)) f = units_stand code cpu image (read (loaded_memory image)) s linked_is (data_are_loaded code cpu image s linked_is).file f (function k g here is) in
        let inside : nat_lt f (length code.symbols) ≡ true = (function_parts code f h).inside in
        let lines_is : lines_in code f ≡ lines = ap (λ (b : Bool). if b then (segment_of code.functions f).lines else runtime_lines code (f - length code.symbols)) inside in
        absurd (let z : ◌≡◌ {A = Option Library} None (Some l) = asked false (closed_lines lines (subst IsSegment lines_is u.segment)) in cc)
    by (nowhere no_function) = at (stood code it.plain f s it.is it.missing h) no_function

-- A unit by its lines

record Sits (code : Code) (cpu : Cpu) (m : Memory) (base : ℕ) (lines : List Line) : Type 0 where
  spot : Spot
  symbols_are : spot.symbols ≡ (layout_in code).symbols
  routines_are : spot.routines ≡ (layout_in code).routines
  end : ℕ
  coded : AreCoded m spot base lines end
  from : program_start ≤ base
  to : end ≤ code_end code
  fit : list_all is_fit lines ≡ true
  targets : list_all (is_among (labels_of lines)) (targets_of lines) ≡ true
  own : (p : ℕ) (l : Line) → slice_get lines p ≡ Some l → IsLineOf cpu l
  numbers : (p : ℕ) (l : Line) → slice_get lines p ≡ Some l → IsLineNumber l
  calls : (p : ℕ) (l : Line) (r : Routine) → slice_get lines p ≡ Some l → CallsRoutine l r → IsTrue (has_lines r) → IsChosen code r

target_there : (test : ℕ → Bool) (lines : List Line) (p : ℕ) (l : Line) → list_all test (targets_of lines) ≡ true → slice_get lines p ≡ Some l → list_all test (line_target l) ≡ true
target_there test [] p l h here = none_there l here
target_there test (line ∷ lines) zero l h here =
    ap (λ (x : Line). list_all test (line_target x)) (sym (same_there line l here))
    ∙ (and_parts (list_all test (line_target line)) (list_all test (targets_of lines)) (sym (list_all-append test (line_target line) (targets_of lines)) ∙ h)).0
target_there test (line ∷ lines) (suc p) l h here =
    target_there test lines p l (and_parts (list_all test (line_target line)) (list_all test (targets_of lines)) (sym (list_all-append test (line_target line) (targets_of lines)) ∙ h)).1 here

known_target : (ls : List Line) (l : Line) → list_all (is_among (labels_of ls)) (line_target l) ≡ true → IsTargetKnown ls l
known_target ls (Do op mode (operands.To k)) h = (and_parts (is_among (labels_of ls) k) true h).0
known_target ls _ h = tt

leads_line : (cpu : Cpu) (code : Code) (image : Image) (args : List (List ℕ)) (top : ℕ) (last : Option ℕ) (spot : Spot) (line : Line) → Leads code (read (loaded_memory image)) args → spot.symbols ≡ (layout_in code).symbols → spot.routines ≡ (layout_in code).routines
    → ((r : Routine) → CallsRoutine line r → IsTrue (has_lines r) → IsChosen code r) → LineLeadsWell (ground_in cpu code image top last) (raw_in code args) spot line
leads_line cpu code image args top last spot (Label l) leads symbols_are routines_are calls = tt
leads_line cpu code image args top last spot (Do op mode operand) leads symbols_are routines_are calls = tt
leads_line cpu code image args top last spot (Call (callees.Function f reads gives)) leads symbols_are routines_are calls = λ h. ap (λ (xs : List ℕ). slice_index xs f.0) symbols_are ∙ leads.functions f.0 h
leads_line cpu code image args top last spot (Call (callees.Pointer reads gives)) leads symbols_are routines_are calls =
    ap (λ (xs : List ℕ). slice_index xs (number_of routines.CallPtr4)) routines_are ∙ leads.routines routines.CallPtr4 (calls routines.CallPtr4 refl refl)
leads_line cpu code image args top last spot (Call (callees.Routine r)) leads symbols_are routines_are calls = by (hook_address r) refl
  where
    m : Memory
    m = read (loaded_memory image)

    at : ℕ
    at = place_at code m (entry_place (raw_in code args) (length code.symbols + number_of r))

    by : (o : Option ℕ) → hook_address r ≡ o → slice_index spot.routines (number_of r) ≡ unwrap_or (hook_address r) at
    by None e = ap (λ (xs : List ℕ). slice_index xs (number_of r)) routines_are ∙ leads.routines r (calls r refl (lined r e)) ∙ ap (λ (x : Option ℕ). unwrap_or x at) (sym e)
    by (Some n) e = ap (λ (xs : List ℕ). slice_index xs (number_of r)) routines_are ∙ leads.hooks r n e ∙ ap (λ (x : Option ℕ). unwrap_or x at) (sym e)

laid : (cpu : Cpu) (code : Code) (image : Image) (args : List (List ℕ)) (top : ℕ) (last : Option ℕ) (f : ℕ) → Leads code (read (loaded_memory image)) args → Sits code cpu (read (loaded_memory image)) (base_in code f) (unit_lines code f)
    → IsLaid (ground_in cpu code image top last) (raw_in code args) f
laid cpu code image args top last f leads u =
    record {
      spot = u.spot;
      coded = λ p l here. subst (λ (n : ℕ). IsCoded m u.spot n (place_at code m (f, suc p)) l) (sym (kept_at p)) (subst (λ (n : ℕ). IsCoded m u.spot (line_at m (base_in code f) lines p) n l) (sym (kept_at (suc p))) (coded_at lines m u.spot (base_in code f) u.end p l u.fit u.coded here));
      settled = λ p. ap (kept_in code) (settled_at lines m (base_in code f) p);
      labels = λ l h. labels_at lines m u.spot (base_in code f) u.end l u.fit u.coded h ∙ sym (kept_at (labelled lines l));
      symbols = λ p l name here e. ap (λ (xs : List ℕ). slice_index xs name.0) u.symbols_are;
      fit = λ p l here. all_there is_fit lines p l u.fit here;
      own = u.own;
      numbers = u.numbers;
      targets = λ p l here. known_target lines l (target_there (is_among (labels_of lines)) lines p l u.targets here);
      calls = λ p l here. leads_line cpu code image args top last u.spot l leads u.symbols_are u.routines_are (λ r. u.calls p l r here);
    }
  where
    m : Memory
    m = read (loaded_memory image)

    lines : List Line
    lines = unit_lines code f

    kept_at : (p : ℕ) → place_at code m (f, p) ≡ line_at m (base_in code f) lines p
    kept_at p =
        let low = from_at lines m (base_in code f) p in
        let high = upto_at lines m u.spot (base_in code f) u.end p u.fit u.coded in
        let from = u.from in let to = u.to in
        kept code (line_at m (base_in code f) lines p) (omega (arith, low, from)) (omega (arith, high, to))

-- Functions

pub segment_from : (fs : List (Sym × Segment)) (f p : ℕ) (l : Line) → slice_get (segment_of fs f).lines p ≡ Some l → (k : ℕ) × (g : Sym × Segment) × (slice_get fs k ≡ Some g) × (slice_get g.1.lines p ≡ Some l) × (g.0.0 ≡ f)
segment_from [] f p l h = none_there l h
segment_from (g ∷ fs) f p l h = by (g.0.0 == f) refl h (λ e. segment_from fs f p l e)
  where
    by : (b : Bool) → (g.0.0 == f) ≡ b → slice_get (if b then g.1 else segment_of fs f).lines p ≡ Some l → (slice_get (segment_of fs f).lines p ≡ Some l → (k : ℕ) × (x : Sym × Segment) × (slice_get fs k ≡ Some x) × (slice_get x.1.lines p ≡ Some l) × (x.0.0 ≡ f))
        → (k : ℕ) × (x : Sym × Segment) × (slice_get (g ∷ fs) k ≡ Some x) × (slice_get x.1.lines p ≡ Some l) × (x.0.0 ≡ f)
    by true is e rest = (0, g, refl, e, eqb-true g.0.0 f is)
    by false is e rest = let r = rest e in (suc r.0, r.1, r.2, r.3, r.4)

own_line : (cpu : Cpu) (l : Line) → is_nmos_line l ≡ true → IsLineOf cpu l
own_line Nmos l h = h
own_line Cmos l h = tt

own_function : (cpu : Cpu) (code : Code) (k p : ℕ) (g : Sym × Segment) (l : Line) → RunsOn cpu code → slice_get code.functions k ≡ Some g → slice_get g.1.lines p ≡ Some l → IsLineOf cpu l
own_function Nmos code k p g l runs at here = all_there is_nmos_line g.1.lines p l (runs k g at) here
own_function Cmos code k p g l runs at here = tt

function_sits : (cpu : Cpu) (code : Code) (m : Memory) (f : ℕ) → RunsOn cpu code → AreLineNumbers code → nat_lt f (length code.symbols) ≡ true → IsUnitPlaced code m f → Sits code cpu m (base_in code f) (segment_of code.functions f).lines
function_sits cpu code m f runs numbers inside u =
    let lines_is : lines_in code f ≡ (segment_of code.functions f).lines = ap (λ (b : Bool). if b then (segment_of code.functions f).lines else runtime_lines code (f - length code.symbols)) inside in
    let segment : IsSegment (segment_of code.functions f).lines = subst IsSegment lines_is u.segment in
    let uses : AreUsesChosen code = uses_are_chosen code in
    record {
      spot = spot_in code f;
      symbols_are = ap (λ (b : Bool). if b then (layout_in code).symbols else main_address code (layout_in code) ∷ []) inside;
      routines_are = refl;
      end = end_in code f;
      coded = subst (λ (ls : List Line). AreCoded m (spot_in code f) (base_in code f) ls (end_in code f)) lines_is u.coded;
      from = u.from;
      to = u.to;
      fit = segment.fit;
      targets = segment.targets;
      own = λ p l here. (let g = segment_from code.functions f p l here in own_function cpu code g.0 p g.1 l runs g.2 g.3);
      numbers = λ p l here. (let g = segment_from code.functions f p l here in numbers g.0 p g.1 l g.2 g.3);
      calls = λ p l r here calls h. (let g = segment_from code.functions f p l here in uses.function g.0 p g.1 l r g.2 g.3 calls h);
    }

-- Routines

pub routine_there : (code : Code) (r : Routine) → lines_in code (length code.symbols + number_of r) ≡ routine_lines r
routine_there code r =
    let f : ℕ = length code.symbols + number_of r in
    let low = numbered r in
    ap (λ (b : Bool). if b then (segment_of code.functions f).lines else runtime_lines code (f - length code.symbols)) (le-ltb f (length code.symbols) (omega arith))
    ∙ ap (runtime_lines code) (let e : f - length code.symbols ≡ number_of r = omega arith in e)
    ∙ ap (λ (b : Bool). if b then routine_lines (entry_of code) else lines_by (slice_get ALL (number_of r))) (ne_eqb (number_of r) routine_count (λ e. omega (arith, low, e)))
    ∙ ap lines_by (routines_are_numbered r)

routine_sits : (cpu : Cpu) (code : Code) (m : Memory) (r : Routine) → IsChosen code r → is_start r ≡ false → IsUnitPlaced code m (length code.symbols + number_of r) → Sits code cpu m (base_in code (length code.symbols + number_of r)) (routine_lines r)
routine_sits cpu code m r chosen inner u =
    let f : ℕ = length code.symbols + number_of r in
    let segment : IsSegment (routine_lines r) = subst IsSegment (routine_there code r) u.segment in
    let uses : AreUsesChosen code = uses_are_chosen code in
    record {
      spot = among (spot_in code f) (layout_in code).symbols;
      symbols_are = refl;
      routines_are = refl;
      end = end_in code f;
      coded = same_lines (routine_lines r) m (spot_in code f) (layout_in code).symbols (base_in code f) (end_in code f) (none_named r inner) (subst (λ (ls : List Line). AreCoded m (spot_in code f) (base_in code f) ls (end_in code f)) (routine_there code r) u.coded);
      from = u.from;
      to = u.to;
      fit = segment.fit;
      targets = segment.targets;
      own = λ p l here. own_line cpu l (nmos_there r p l here);
      numbers = λ p l here. numbers_there r p l here;
      calls = λ p l q here calls h. uses.routine chosen.place p r l q chosen.there here calls h;
    }

-- The start

main_fit : (b : Bool) (main : ℕ) → list_all is_fit (map (with_main main) (routine_lines (if b then routines.StartArgs else routines.Start))) ≡ true
main_fit true main = refl
main_fit false main = refl

main_targets : (b : Bool) (main : ℕ) → list_all (is_among (labels_of (map (with_main main) (routine_lines (if b then routines.StartArgs else routines.Start))))) (targets_of (map (with_main main) (routine_lines (if b then routines.StartArgs else routines.Start)))) ≡ true
main_targets true main = refl
main_targets false main = refl

main_nmos : (b : Bool) (main : ℕ) → list_all is_nmos_line (map (with_main main) (routine_lines (if b then routines.StartArgs else routines.Start))) ≡ true
main_nmos true main = refl
main_nmos false main = refl

main_numbers : (b : Bool) (main : ℕ) → list_all is_line_number (map (with_main main) (routine_lines (if b then routines.StartArgs else routines.Start))) ≡ true
main_numbers true main = refl
main_numbers false main = refl

main_named : (b : Bool) → list_all is_start_line (routine_lines (if b then routines.StartArgs else routines.Start)) ≡ true
main_named true = refl
main_named false = refl

main_from : (main : ℕ) (lines : List Line) (p : ℕ) (l : Line) → slice_get (map (with_main main) lines) p ≡ Some l → (x : Line) × (slice_get lines p ≡ Some x) × (with_main main x ≡ l)
main_from main [] p l h = none_there l h
main_from main (x ∷ lines) zero l h = (x, refl, same_there (with_main main x) l h)
main_from main (x ∷ lines) (suc p) l h = main_from main lines p l h

main_calls : (main : ℕ) (x : Line) (r : Routine) → CallsRoutine (with_main main x) r → CallsRoutine x r
main_calls main (Label l) r h = h
main_calls main (Do op mode operand) r h = h
main_calls main (Call (callees.Routine q)) r h = h
main_calls main (Call (callees.Function f reads gives)) r h = h
main_calls main (Call (callees.Pointer reads gives)) r h = h

start_there : (code : Code) → lines_in code (start_number code) ≡ routine_lines (entry_of code)
start_there code =
    let f : ℕ = start_number code in
    ap (λ (b : Bool). if b then (segment_of code.functions f).lines else runtime_lines code (f - length code.symbols)) (le-ltb f (length code.symbols) (omega arith))
    ∙ ap (runtime_lines code) (let e : f - length code.symbols ≡ routine_count = omega arith in e)

start_sits : (cpu : Cpu) (code : Code) (m : Memory) → IsUnitPlaced code m (start_number code) → Sits code cpu m (base_in code (start_number code)) (map (with_main (main_number code)) (routine_lines (entry_of code)))
start_sits cpu code m u =
    let f : ℕ = start_number code in
    let main : ℕ = main_number code in
    let uses : AreUsesChosen code = uses_are_chosen code in
    let symbols_is : symbols_in code f ≡ main_address code (layout_in code) ∷ [] = ap (λ (b : Bool). if b then (layout_in code).symbols else main_address code (layout_in code) ∷ []) (le-ltb f (length code.symbols) (omega arith)) in
    record {
      spot = among (spot_in code f) (layout_in code).symbols;
      symbols_are = refl;
      routines_are = refl;
      end = end_in code f;
      coded = main_lines (routine_lines (entry_of code)) m (spot_in code f) (layout_in code).symbols main (base_in code f) (end_in code f) symbols_is (main_named code.main_args)
          (subst (λ (ls : List Line). AreCoded m (spot_in code f) (base_in code f) ls (end_in code f)) (start_there code) u.coded);
      from = u.from;
      to = u.to;
      fit = main_fit code.main_args main;
      targets = main_targets code.main_args main;
      own = λ p l here. own_line cpu l (all_there is_nmos_line (map (with_main main) (routine_lines (entry_of code))) p l (main_nmos code.main_args main) here);
      numbers = λ p l here. line_number l (all_there is_line_number (map (with_main main) (routine_lines (entry_of code))) p l (main_numbers code.main_args main) here);
      calls = λ p l r here calls h. (let x = main_from main (routine_lines (entry_of code)) p l here in uses.entry p x.0 r x.1 (main_calls main x.0 r (subst (λ (k : Line). CallsRoutine k r) (sym x.2) calls)) h);
    }

-- All units

pub not_the_start : (code : Code) (f : ℕ) → (f ≡ start_number code → ⊥) → unit_lines code f ≡ lines_in code f
not_the_start code f h = ap (λ (b : Bool). if b then map (with_main (main_number code)) (lines_in code f) else lines_in code f) (ne_eqb f (start_number code) h)

pub the_start : (code : Code) → unit_lines code (start_number code) ≡ map (with_main (main_number code)) (routine_lines (entry_of code))
the_start code =
    ap (λ (b : Bool). if b then map (with_main (main_number code)) (lines_in code (start_number code)) else lines_in code (start_number code)) (eq-eqb (start_number code) (start_number code) refl)
    ∙ ap (map (with_main (main_number code))) (start_there code)

inner_routine : (code : Code) (r : Routine) → IsNoStart code (length code.symbols + number_of r) → is_start r ≡ false
inner_routine code r h = by (nat_lt (number_of r) 2) refl (number_of r) refl
  where
    by : (b : Bool) → nat_lt (number_of r) 2 ≡ b → (n : ℕ) → number_of r ≡ n → nat_lt (number_of r) 2 ≡ false
    by false e n is = e
    by true e zero is = absurd (h.0 (ap (λ (k : ℕ). length code.symbols + k) is))
    by true e (suc zero) is = absurd (h.1 (ap (λ (k : ℕ). length code.symbols + k) is))
    by true e (suc (suc n)) is = (let low = ltb-true (number_of r) 2 e in absurd (omega (arith, low, is)))

pub linked_codes_are_laid : LinkedCodesAreLaid
linked_codes_are_laid cpu code image args top last runs s numbers linked_is bottom page = (ground, unit)
  where
    m : Memory
    m = read (loaded_memory image)

    stands : Stands m program_start image.payload
    stands = (data_are_loaded code cpu image s linked_is).file

    leads : Leads code m args
    leads = leads_in cpu code image m args s linked_is stands

    it : IsMade code image
    it = made code cpu image linked_is

    e : Ends code
    e = ends code it.plain it.is

    place : IsPlacement code (place_in code)
    place = places_are_placements code cpu image s linked_is

    long : program_start ≤ code_end code
    long = (let a = e.first in let b = e.functions in let c = e.routines in omega (arith, a, b, c))

    data_low : (b : ℕ) → IsTrue ((place_in code).is_data b) → code_end code ≤ b
    data_low b h =
        let d = place.data_of b h in
        let w : Within code d.1 = within code d.0 d.1 e (lies code d.0 d.1 s e d.2) in
        let from = w.from in let at = d.3.from in
        omega (arith, from, at)

    data_high : (b : ℕ) → IsTrue ((place_in code).is_data b) → b < stack_start
    data_high b h =
        let d = place.data_of b h in
        let w : Within code d.1 = within code d.0 d.1 e (lies code d.0 d.1 s e d.2) in
        let to = w.to in let at = d.3.to in
        omega (arith, to, at)

    ground : IsGround (ground_in cpu code image top last) (raw_in code args)
    ground = record {
      from = λ q. kept_low code (line_at m (base_in code q.0) (unit_lines code q.0) q.1);
      to = λ q. kept_high code (line_at m (base_in code q.0) (unit_lines code q.0) q.1) long;
      low = long;
      high = (let a = e.stored in let b = e.zeros in let c = e.all in omega (arith, a, b, c));
      data_from = data_low;
      data_to = data_high;
      bottom = bottom;
      page = page;
      place = refl;
      functions = leads.functions;
    }

    placed : (f : ℕ) → IsUnit code f → IsUnitPlaced code m f
    placed = units_stand code cpu image m s linked_is stands

    sitting : (f : ℕ) (lines : List Line) → unit_lines code f ≡ lines → Sits code cpu m (base_in code f) lines → IsLaid (ground_in cpu code image top last) (raw_in code args) f
    sitting f lines is u = laid cpu code image args top last f leads (subst (λ (ls : List Line). Sits code cpu m (base_in code f) ls) (sym is) u)

    by_function : (f k : ℕ) (g : Sym × Segment) → slice_get code.functions k ≡ Some g → g.0.0 ≡ f → IsLaid (ground_in cpu code image top last) (raw_in code args) f
    by_function f k g here is =
        let known = s.writable.function_known k g here in
        let inside : nat_lt f (length code.symbols) ≡ true = lt-ltb f (length code.symbols) (omega (arith, known, is)) in
        let lines_is : lines_in code f ≡ (segment_of code.functions f).lines = ap (λ (b : Bool). if b then (segment_of code.functions f).lines else runtime_lines code (f - length code.symbols)) inside in
        sitting f (segment_of code.functions f).lines (not_the_start code f (λ h. omega (arith, known, is, h)) ∙ lines_is) (function_sits cpu code m f runs numbers inside (placed f (function k g here is)))

    by_routine : (r : Routine) → IsChosen code r → IsNoStart code (length code.symbols + number_of r) → IsLaid (ground_in cpu code image top last) (raw_in code args) (length code.symbols + number_of r)
    by_routine r chosen inner =
        let f : ℕ = length code.symbols + number_of r in
        let low = numbered r in
        sitting f (routine_lines r) (not_the_start code f (λ h. omega (arith, low, h)) ∙ routine_there code r) (routine_sits cpu code m r chosen (inner_routine code r inner) (placed f (routine r chosen refl)))

    by_start : IsLaid (ground_in cpu code image top last) (raw_in code args) (start_number code)
    by_start = sitting (start_number code) (map (with_main (main_number code)) (routine_lines (entry_of code))) (the_start code) (start_sits cpu code m (placed (start_number code) (start refl)))

    unit : (f : ℕ) → IsUnit code f → IsNoStart code f → IsLaid (ground_in cpu code image top last) (raw_in code args) f
    unit f (function k g here is) inner = by_function f k g here is
    unit f (routine r chosen is) inner = subst (λ (n : ℕ). IsLaid (ground_in cpu code image top last) (raw_in code args) n) (sym is) (by_routine r chosen (subst (IsNoStart code) is inner))
    unit f (start is) inner = subst (λ (n : ℕ). IsLaid (ground_in cpu code image top last) (raw_in code args) n) (sym is) by_start
