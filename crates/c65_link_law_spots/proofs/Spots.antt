-- Where each part of a linked code lies.
use Rattle.std.proofs.Common.{◌≡◌, ℕ, zero, suc, ◌+◌, ◌-◌, ◌<◌, ◌≤◌, ◌^◌, ◌%◌, Bool, true, false, ◌||◌, ◌==◌, if◌then◌else◌, List, [], ◌∷◌, ◌++◌, codes, map, take, Some, None, Result, Ok, length, slice_get, slice_index, refl, ap, sym, ◌∙◌, subst, arith}
use Rattle.std.proofs.lemmas.Bool.{eq-eqb, both_ways}
use Rattle.std.proofs.lemmas.List.{length-set, length-replicate, take-map}
use Rattle.std.proofs.lemmas.Option.{slice_get_within}
use Rattle.c65_base.specs.declared.library.Library.{Library}
use Rattle.c65_base.specs.declared.library.Library.TheVariants.{Putchar, Getchar, Puts, Exit, Memcpy, Memset, Strcmp, Strcpy, Strlen, Printf}
use Rattle.c65_base.specs.Library.{library_name}
use Rattle.c65_mach.specs.declared.image.Image.{Image}
use Rattle.c65_mach.specs.declared.rows.Mode.{Mode}
use Rattle.c65_mach.specs.declared.rows.Mode.TheVariants.{Relative}
use Rattle.c65_code.specs.declared.routine.Routine.{Routine}
use Rattle.c65_code.specs.declared.routine.Routine.TheVariants as routines
use Rattle.c65_code.specs.declared.line.Sym.{Sym}
use Rattle.c65_code.specs.declared.line.Line.{Line}
use Rattle.c65_code.specs.declared.line.Line.TheVariants.{Label, Do, Call}
use Rattle.c65_code.specs.declared.code.Code.{Code}
use Rattle.c65_code.specs.declared.code.Symbol.{Symbol}
use Rattle.c65_code.specs.declared.code.Datum.{Datum}
use Rattle.c65_code.specs.Numbering.{number_of}
use Rattle.c65_code.specs.Placement.{program_start, has_datum, IsFunction}
use Rattle.c65_code.specs.Segments.{Segment, IsSegment, closed_by}
use Rattle.c65_code.specs.Weights.{mode_size}
use Rattle.c65_code.proofs.FunctionLaws.{function_parts}
use Rattle.c65_rtl.specs.Routines.{is_narrow, lines_of}
use Rattle.c65_rtl.proofs.SegmentLaws.{segment_of as narrow_segment}
use Rattle.c65_rtlwide.specs.Wide.{is_wide, lines_of as wide_lines_of}
use Rattle.c65_rtlwide.proofs.SegmentLaws.{segment_of as wide_segment}
use Rattle.c65_va.specs.Printf.{is_printf, printf_lines}
use Rattle.c65_va.proofs.SegmentLaws.{printf_segment}
use Rattle.c65_link.specs.declared.symbols.Target.{Target}
use Rattle.c65_link.specs.declared.symbols.Target.TheVariants.{Nowhere, Own, Runtime}
use Rattle.c65_link.specs.Bodies.{Body, with_line, with_lines, body_of, line_size, far_size, far_labels, plus}
use Rattle.c65_link.specs.Layouts.{Layout, empty_layout, with_targets, with_all_data}
use Rattle.c65_link.specs.Layouts.{with_lines as layout_lines, with_functions as layout_functions, with_function as layout_function, with_routines as layout_routines}
use Rattle.c65_link.specs.Runtime.{routine_lines, has_lines}
use Rattle.c65_link.specs.Symbols.{targets_of, missing_of}
use Rattle.c65_link.specs.Linked.{Fault, entry_of, linked}
use Rattle.c65_link_law.specs.Coded.{Memory, Stands}
use Rattle.c65_link_law.specs.Placed.{behind, first_address, address_of, behind_routines, routine_address, routines_in, layout_in, function_number}
use Rattle.c65_link_law.proofs.Sizes.{IsSized, line_sized, plus_most, grown}
use Rattle.c65_link_law.proofs.Placed.{Grows, more, behind_grows, functions_behind, routines_reach, Given, given, file_of}
use Rattle.c65_link_law.proofs.Symbols.{symbols_are_addresses}
use Rattle.c65_link_law.proofs.Routines.{routines_are_coded}
use Rattle.c65_link_law_spots.specs.Places.{address_in, code_end}
use Rattle.c65_link_law_spots.specs.Sound.{IsSound}
use Rattle.c65_link_law_spots.proofs.Sums.{none_there, same_there, sums, sums_grow, Room, room, ordered, begins_once}
use Rattle.c65_link_law_spots.proofs.Chosen.{IsOf}
use Rattle.c65_link_law_spots.proofs.Uses.{whole_in, not_nowhere_marks}
use Rattle.c65_link_law_spots.proofs.Numbers.{numbers_once, map_there, Has, has, found, nowhere}
use Rattle.c65_link_law_spots.proofs.Targets.{IsLibrary, library_there, target_there, targets_lead, targets_wide, targets_routines}
use Rattle.c65_link_law_spots.proofs.Laid.{file_size, blank_size, all_data_at, all_zeros_at, all_data_wide, all_data_routines, all_zeros_routines, all_data_leave, all_zeros_leave}

-- Lines of a segment take at least a byte

mode_full : (mode : Mode) → 1 ≤ mode_size mode
mode_full Relative = omega arith
mode_full _ = omega arith

closed_full : (lines : List Line) (body : Body) (at : ℕ) → body.size ≤ 2 ^ 64 - 1 → closed_by false lines ≡ true → 1 ≤ (with_lines body at lines).size
closed_full [] body at h c = absurd cc
closed_full (Label l ∷ lines) body at h c = closed_full lines (with_line body at (Label l)) (plus at (far_size (Label l))) (plus_most body.size 0) c
closed_full (Do op mode operand ∷ lines) body at h c =
    let line : Line = Do op mode operand in
    let rest = grown lines (with_line body at line) (plus at (far_size line)) (plus_most body.size (line_size body.far at line)) in
    let s : IsSized (line_size body.far at line) (far_size line) = line_sized body.far at line in
    let full = mode_full mode in
    omega (arith, rest, s.least, full)
closed_full (Call callee ∷ lines) body at h c =
    let line : Line = Call callee in
    let rest = grown lines (with_line body at line) (plus at (far_size line)) (plus_most body.size (line_size body.far at line)) in
    omega (arith, rest)

pub segment_full : (lines : List Line) → IsSegment lines → 1 ≤ (body_of lines).size
segment_full lines s = closed_full lines (record { far = far_labels [] 0 lines; near = []; size = 0 }) 0 (omega arith) s.closed

pub routine_segment : (r : Routine) → has_lines r ≡ true → IsSegment (routine_lines r)
routine_segment r h = by (is_wide r) refl
  where
    rest : (a b : Bool) → a ≡ false → (a || b) ≡ true → b ≡ true
    rest true b e g = absurd cc
    rest false b e g = g

    other : (b : Bool) → is_printf r ≡ b → (is_printf r || is_narrow r) ≡ true → IsSegment (if b then printf_lines else lines_of r)
    other true e g = printf_segment
    other false e g = narrow_segment r (rest (is_printf r) (is_narrow r) e g)

    by : (b : Bool) → is_wide r ≡ b → IsSegment (if b then wide_lines_of r else if is_printf r then printf_lines else lines_of r)
    by true e = wide_segment r e
    by false e = other (is_printf r) refl (rest (is_wide r) (is_printf r || is_narrow r) e h)

-- Sizes of functions and routines

abbrev pub function_size : Sym × Segment → ℕ
function_size f = (body_of f.1.lines).size

abbrev pub routine_size : Routine → ℕ
routine_size r = (body_of (routine_lines r)).size

pub behind_sums : (fs : List (Sym × Segment)) (at : ℕ) → behind at fs ≡ sums at (map function_size fs)
behind_sums [] at = refl
behind_sums (f ∷ fs) at = behind_sums fs (plus at (function_size f))

routines_sums : (rs : List Routine) (at : ℕ) → behind_routines at rs ≡ sums at (map routine_size rs)
routines_sums [] at = refl
routines_sums (r ∷ rs) at = routines_sums rs (plus at (routine_size r))

pub function_at : (code : Code) (k : ℕ) → address_of code k ≡ sums (first_address code) (take k (map function_size code.functions))
function_at code k = behind_sums (take k code.functions) (first_address code) ∙ ap (sums (first_address code)) (sym (take-map function_size k code.functions))

-- the address behind the functions
abbrev pub functions_to : Code → ℕ
functions_to code = behind (first_address code) code.functions

pub routine_at : (code : Code) (k : ℕ) → routine_address code k ≡ sums (functions_to code) (take k (map routine_size (routines_in code)))
routine_at code k = routines_sums (take k (routines_in code)) (functions_to code) ∙ ap (sums (functions_to code)) (sym (take-map routine_size k (routines_in code)))

-- All of it

abbrev pub begun : Code → Layout
begun code = layout_lines (empty_layout (length code.symbols)) (routine_lines (entry_of code))

abbrev pub coded : Code → Layout
coded code = layout_routines (layout_functions (begun code) code.functions) (routines_in code)

abbrev pub named : Code → Layout
named code = with_targets (coded code) 0 (targets_of code)

abbrev pub filled : Code → Layout
filled code = with_all_data (named code) code.datums

abbrev pub files : Code → List ℕ
files code = map file_size code.datums

abbrev pub blanks : Code → List ℕ
blanks code = map blank_size code.datums

abbrev pub data_end : Code → ℕ
data_end code = sums (code_end code) (files code)

routines_behind : (rs : List Routine) (layout : Layout) → (layout_routines layout rs).at ≡ behind_routines layout.at rs
routines_behind [] layout = refl
routines_behind (r ∷ rs) layout = routines_behind rs _

targets_stay : (targets : List Target) (i : ℕ) (layout : Layout) → (with_targets layout i targets).at ≡ layout.at
targets_stay [] i layout = refl
targets_stay (Nowhere ∷ targets) i layout = targets_stay targets (i + 1) _
targets_stay (Own ∷ targets) i layout = targets_stay targets (i + 1) _
targets_stay (Runtime f ∷ targets) i layout = targets_stay targets (i + 1) _

-- the ends of the parts, one behind another
pub record Ends (code : Code) : Type 0 where
  pub first : program_start ≤ first_address code
  pub functions : first_address code ≤ functions_to code
  pub routines : functions_to code ≤ code_end code
  pub stored : code_end code ≤ data_end code
  pub zeros : data_end code ≤ sums (data_end code) (blanks code)
  pub all : sums (data_end code) (blanks code) ≤ 63472
  pub named_at : (named code).at ≡ code_end code
  pub filled_at : (filled code).at ≡ data_end code

pub ends : (code : Code) (image : Image) → linked code ≡ Ok image → Ends code
ends code image linked_is =
    let file : Given (Ok image) (file_of code) (layout_in code).at = subst (λ (r : Result Image Fault). Given r (file_of code) (layout_in code).at) linked_is (given code (missing_of code (targets_of code))) in
    let first : Grows program_start (first_address code) = more program_start (body_of (routine_lines (entry_of code))).size (omega arith) in
    let functions : Grows (first_address code) (functions_to code) = behind_grows code.functions (first_address code) first.most in
    let routines : Grows (functions_to code) (code_end code) = routines_reach (routines_in code) (functions_to code) functions.most in
    let moved : (coded code).at ≡ code_end code = routines_behind (routines_in code) (layout_functions (begun code) code.functions) ∙ ap (λ (n : ℕ). behind_routines n (routines_in code)) (functions_behind code.functions (begun code)) in
    let named_is : (named code).at ≡ code_end code = targets_stay (targets_of code) 0 (coded code) ∙ moved in
    let filled_is : (filled code).at ≡ data_end code = all_data_at code.datums (named code) (omega (arith, named_is, routines.most)) ∙ ap (λ (n : ℕ). sums n (files code)) named_is in
    let stored : Grows (code_end code) (data_end code) = sums_grow (files code) (code_end code) routines.most in
    let zeros : Grows (data_end code) (sums (data_end code) (blanks code)) = sums_grow (blanks code) (data_end code) stored.most in
    let last : (layout_in code).at ≡ sums (data_end code) (blanks code) = all_zeros_at code.datums (filled code) (omega (arith, filled_is, stored.most)) ∙ ap (λ (n : ℕ). sums n (blanks code)) filled_is in
    record {
      first = first.least;
      functions = functions.least;
      routines = routines.least;
      stored = stored.least;
      zeros = zeros.least;
      all = omega (arith, file.1, last);
      named_at = named_is;
      filled_at = filled_is;
    }

functions_wide : (fs : List (Sym × Segment)) (layout : Layout) → length (layout_functions layout fs).symbols ≡ length layout.symbols
functions_wide [] layout = refl
functions_wide (f ∷ fs) layout = functions_wide fs (layout_function layout f) ∙ length-set layout.symbols f.0.0 _

routines_keep : (rs : List Routine) (layout : Layout) → (layout_routines layout rs).symbols ≡ layout.symbols
routines_keep [] layout = refl
routines_keep (r ∷ rs) layout = routines_keep rs _

pub coded_wide : (code : Code) → length (coded code).symbols ≡ length code.symbols
coded_wide code =
    ap length (routines_keep (routines_in code) (layout_functions (begun code) code.functions))
    ∙ functions_wide code.functions (begun code)
    ∙ length-replicate (length code.symbols) 0

pub named_wide : (code : Code) → length (named code).symbols ≡ length code.symbols
named_wide code = targets_wide (targets_of code) (coded code) 0 ∙ coded_wide code

pub filled_wide : (code : Code) → length (filled code).symbols ≡ length code.symbols
filled_wide code = all_data_wide code.datums (named code) ∙ named_wide code

pub last_routines : (code : Code) → (layout_in code).routines ≡ (coded code).routines
last_routines code = all_zeros_routines code.datums (filled code) ∙ all_data_routines code.datums (named code) ∙ targets_routines (targets_of code) (coded code) 0

-- Functions

pub record FunctionAt (code : Code) (k : ℕ) (f : Sym × Segment) : Type 0 where
  pub address : address_in code f.0.0 ≡ address_of code k
  pub from : first_address code ≤ address_of code k
  pub to : address_of code k + function_size f ≤ functions_to code

pub function_stands : (code : Code) (k : ℕ) (f : Sym × Segment) → IsSound code → Ends code → slice_get code.functions k ≡ Some f → FunctionAt code k f
function_stands code k f s e here =
    let there : slice_get (map function_size code.functions) k ≡ Some (function_size f) = map_there function_size code.functions k f here in
    let end : functions_to code ≡ sums (first_address code) (map function_size code.functions) = behind_sums code.functions (first_address code) in
    let first = e.functions in let second = e.routines in let third = e.stored in let fourth = e.zeros in let last = e.all in
    let r : Room (first_address code) (map function_size code.functions) k (function_size f) = room (map function_size code.functions) (first_address code) k (function_size f) (omega (arith, first, second, third, fourth, last)) (omega (arith, end, first, second, third, fourth, last)) there in
    let is = function_at code k in
    let low = r.from in let stop = r.end in let to = r.to in
    let small : address_of code k ≤ 65535 = omega (arith, is, stop, to, end, second, third, fourth, last) in
    let lead : address_in code f.0.0 ≡ address_of code k % 65536 = symbols_are_addresses code k f here (s.writable.function_known k f here) (numbers_once code s.writable) in
    record {
      address = omega (arith, lead, small);
      from = omega (arith, is, low);
      to = omega (arith, is, stop, to, end);
    }

pub function_once : (code : Code) (j k : ℕ) (f g : Sym × Segment) → IsSound code → Ends code → slice_get code.functions j ≡ Some f → slice_get code.functions k ≡ Some g → address_of code j ≡ address_of code k → j ≡ k
function_once code j k f g s e here there same =
    let end : functions_to code ≡ sums (first_address code) (map function_size code.functions) = behind_sums code.functions (first_address code) in
    let first = e.functions in let second = e.routines in let third = e.stored in let fourth = e.zeros in let last = e.all in
    begins_once (map function_size code.functions) (first_address code) j k (function_size f) (function_size g) (omega (arith, first, second, third, fourth, last)) (omega (arith, end, second, third, fourth, last))
    (map_there function_size code.functions j f here) (map_there function_size code.functions k g there) (segment_full f.1.lines (s.segment j f here)) (segment_full g.1.lines (s.segment k g there))
    (sym (function_at code j) ∙ same ∙ function_at code k)

-- a function ends before the next one begins
pub functions_apart : (code : Code) (i j : ℕ) (f : Sym × Segment) → Ends code → slice_get code.functions i ≡ Some f → i < j → address_of code i + function_size f ≤ address_of code j
functions_apart code i j f e here less =
    let end : functions_to code ≡ sums (first_address code) (map function_size code.functions) = behind_sums code.functions (first_address code) in
    let first = e.functions in let second = e.routines in let third = e.stored in let fourth = e.zeros in let last = e.all in
    let r : Room (first_address code) (map function_size code.functions) i (function_size f) = room (map function_size code.functions) (first_address code) i (function_size f) (omega (arith, first, second, third, fourth, last)) (omega (arith, end, first, second, third, fourth, last)) (map_there function_size code.functions i f here) in
    let after_it = ordered (map function_size code.functions) (first_address code) (suc i) j (omega (arith, first, second, third, fourth, last)) (omega (arith, less)) in
    let stop = r.end in let one = function_at code i in let two = function_at code j in
    omega (arith, stop, after_it, one, two)

-- Routines

pub record RoutineAt (code : Code) (k : ℕ) (r : Routine) : Type 0 where
  pub from : functions_to code ≤ routine_address code k
  pub to : routine_address code k + routine_size r ≤ code_end code
  pub full : 1 ≤ routine_size r

pub routine_stands : (code : Code) (k : ℕ) (r : Routine) → Ends code → slice_get (routines_in code) k ≡ Some r → RoutineAt code k r
routine_stands code k r e here =
    let there : slice_get (map routine_size (routines_in code)) k ≡ Some (routine_size r) = map_there routine_size (routines_in code) k r here in
    let end : code_end code ≡ sums (functions_to code) (map routine_size (routines_in code)) = routines_sums (routines_in code) (functions_to code) in
    let second = e.routines in let third = e.stored in let fourth = e.zeros in let last = e.all in
    let m : Room (functions_to code) (map routine_size (routines_in code)) k (routine_size r) = room (map routine_size (routines_in code)) (functions_to code) k (routine_size r) (omega (arith, second, third, fourth, last)) (omega (arith, end, third, fourth, last)) there in
    let is = routine_at code k in
    let low = m.from in let stop = m.end in let to = m.to in
    let lined : has_lines r ≡ true = (whole_in code).lined r (record { place = k; there = here }) in
    record {
      from = omega (arith, is, low);
      to = omega (arith, is, stop, to, end);
      full = segment_full (routine_lines r) (routine_segment r lined);
    }

pub routine_once : (code : Code) (j k : ℕ) (q r : Routine) → Ends code → slice_get (routines_in code) j ≡ Some q → slice_get (routines_in code) k ≡ Some r → routine_address code j ≡ routine_address code k → j ≡ k
routine_once code j k q r e here there same =
    let end : code_end code ≡ sums (functions_to code) (map routine_size (routines_in code)) = routines_sums (routines_in code) (functions_to code) in
    let second = e.routines in let third = e.stored in let fourth = e.zeros in let last = e.all in
    begins_once (map routine_size (routines_in code)) (functions_to code) j k (routine_size q) (routine_size r) (omega (arith, second, third, fourth, last)) (omega (arith, end, third, fourth, last))
    (map_there routine_size (routines_in code) j q here) (map_there routine_size (routines_in code) k r there) (routine_stands code j q e here).full (routine_stands code k r e there).full
    (sym (routine_at code j) ∙ same ∙ routine_at code k)

-- bytes stand where memory has them
stands_at : (xs : List ℕ) (m : Memory) (at : ℕ) → ((k : ℕ) → m (at + k) ≡ slice_index xs k) → Stands m at xs
stands_at [] m at h = tt
stands_at (x ∷ xs) m at h =
    (ap m (let e : at ≡ at + 0 = omega arith in e) ∙ h 0, stands_at xs m (at + 1) (λ k. ap m (let e : at + 1 + k ≡ at + suc k = omega arith in e) ∙ h (suc k)))

pub file_stands : (image : Image) → Stands (λ b. slice_index image.payload (b - program_start)) program_start image.payload
file_stands image = stands_at image.payload (λ b. slice_index image.payload (b - program_start)) program_start (λ k. ap (slice_index image.payload) (let e : program_start + k - program_start ≡ k = omega arith in e))

-- a routine is called where it stands
pub routine_called : (code : Code) (image : Image) (k : ℕ) (r : Routine) → linked code ≡ Ok image → slice_get (routines_in code) k ≡ Some r → slice_index (layout_in code).routines (number_of r) ≡ routine_address code k
routine_called code image k r linked_is here =
    let lined : has_lines r ≡ true = (whole_in code).lined r (record { place = k; there = here }) in
    (routines_are_coded code image (λ b. slice_index image.payload (b - program_start)) k r linked_is (file_stands image) here (routine_segment r lined)).0

-- Symbols of functions

get_within : {A : Type 0} (xs : List A) (i : ℕ) → i < length xs → (x : A) × (slice_get xs i ≡ Some x)
get_within [] i l = absurd (omega (arith, l))
get_within (x ∷ xs) zero l = (x, refl)
get_within (x ∷ xs) (suc i) l = get_within xs i (omega (arith, l))

no_datum : (ds : List Datum) (f : ℕ) → has_datum ds f ≡ false → (k : ℕ) (d : Datum) → slice_get ds k ≡ Some d → d.sym.0 ≡ f → ⊥
no_datum [] f h k d here is = none_there d here
no_datum (e ∷ ds) f h zero d here is =
    let at : (e.sym.0 == f) ≡ true = eq-eqb e.sym.0 f (ap (λ (x : Datum). x.sym.0) (same_there e d here) ∙ is) in
    both_ways (has_datum (e ∷ ds) f) h (ap (λ (b : Bool). if b then true else has_datum ds f) at)
no_datum (e ∷ ds) f h (suc k) d here is = by (e.sym.0 == f) refl h (λ g. no_datum ds f g k d here is)
  where
    by : (b : Bool) → (e.sym.0 == f) ≡ b → (if b then true else has_datum ds f) ≡ false → (has_datum ds f ≡ false → ⊥) → ⊥
    by true at g rest = absurd cc
    by false at g rest = rest g

-- a symbol of a function stands for lines of its own or for a routine of the library
pub data Stood (code : Code) (f : ℕ) : Type 0 where
  own : (k : ℕ) (g : Sym × Segment) → slice_get code.functions k ≡ Some g → g.0.0 ≡ f → Stood code f
  library : (k : ℕ) (l : Library) (symbol : Symbol) → slice_get code.symbols f ≡ Some symbol → symbol.spelling ≡ codes "_" ++ library_name l → slice_get (routines_in code) k ≡ Some (routines.Library l) → address_in code f ≡ routine_address code k → Stood code f

library_lined : (l : Library) → has_lines (routines.Library l) ≡ true
library_lined Putchar = refl
library_lined Getchar = refl
library_lined Puts = refl
library_lined Exit = refl
library_lined Memcpy = refl
library_lined Memset = refl
library_lined Strcmp = refl
library_lined Strcpy = refl
library_lined Strlen = refl
library_lined Printf = refl

stood_library : (code : Code) (image : Image) (f : ℕ) (symbol : Symbol) (l : Library) → linked code ≡ Ok image → slice_get code.symbols f ≡ Some symbol → IsLibrary symbol l
    → ((k : ℕ) (g : Sym × Segment) → slice_get code.functions k ≡ Some g → g.0.0 ≡ f → ⊥) → ((k : ℕ) (d : Datum) → slice_get code.datums k ≡ Some d → d.sym.0 ≡ f → ⊥)
    → IsOf (routines_in code) (routines.Library l) → Stood code f
stood_library code image f symbol l linked_is there is no_function none chosen =
    let target : slice_get (targets_of code) f ≡ Some (Runtime l) = target_there code f symbol there no_function none ∙ ap Some is.target in
    let inside : f < length code.symbols = slice_get_within code.symbols f symbol there in
    let wide = coded_wide code in
    let lead : slice_index (named code).symbols (0 + f) ≡ slice_index (coded code).routines (number_of (routines.Library l)) = targets_lead (targets_of code) (coded code) 0 f l target (omega (arith, inside, wide)) in
    let plain : 0 + f ≡ f = omega arith in
    let kept : slice_index (layout_in code).symbols f ≡ slice_index (named code).symbols f = all_zeros_leave code.datums (filled code) f (λ j e h k. none j e h) ∙ all_data_leave code.datums (named code) f none in
    let called : slice_index (layout_in code).routines (number_of (routines.Library l)) ≡ routine_address code chosen.place = routine_called code image chosen.place (routines.Library l) linked_is chosen.there in
    library chosen.place l symbol there is.spelling chosen.there
    (kept ∙ subst (λ (n : ℕ). slice_index (named code).symbols n ≡ slice_index (coded code).routines (number_of (routines.Library l))) plain lead
    ∙ ap (λ (xs : List ℕ). slice_index xs (number_of (routines.Library l))) (sym (last_routines code)) ∙ called)

pub stood : (code : Code) (image : Image) (f : ℕ) → IsSound code → linked code ≡ Ok image → missing_of code (targets_of code) ≡ None → IsFunction code f → Stood code f
stood code image f s linked_is missing h =
    let parts = function_parts code f h in
    let it = get_within code.symbols f parts.known in
    by it.0 it.1 (no_datum code.datums f parts.bare) (has function_number code.functions f)
  where
    by : (symbol : Symbol) → slice_get code.symbols f ≡ Some symbol → ((k : ℕ) (d : Datum) → slice_get code.datums k ≡ Some d → d.sym.0 ≡ f → ⊥) → Has function_number code.functions f → Stood code f
    by symbol there none (found k g here is) = own k g here is
    by symbol there none (nowhere no_function) =
        let l = library_there code f symbol there missing (s.named f symbol there) no_function none in
        stood_library code image f symbol l.0 linked_is there l.1 no_function none
        ((whole_in code).marked (routines.Library l.0) (not_nowhere_marks code f l.0 (target_there code f symbol there no_function none ∙ ap Some l.1.target) (s.named f symbol there) no_function none) (library_lined l.0))
