-- Each unit's lines stand in the image.
use Rattle.std.proofs.Common.{◌≡◌, ℕ, zero, suc, ◌+◌, ◌-◌, ◌≤◌, ◌==◌, Bool, true, false, nat_lt, if◌then◌else◌, List, [], ◌∷◌, ◌++◌, Some, Result, Ok, length, slice_get, slice_index, refl, ap, sym, ◌∙◌, subst, arith}
use Rattle.std.proofs.lemmas.Bool.{lt-ltb, le-ltb, eq-eqb, ne_eqb}
use Rattle.c65_mach.specs.declared.image.Image.{Image}
use Rattle.c65_code.specs.declared.routine.Routine.{Routine}
use Rattle.c65_code.specs.declared.routine.Routine.TheVariants as routines
use Rattle.c65_code.specs.declared.routine.TheConstants.Routine.{ALL}
use Rattle.c65_code.specs.Numbering.{number_of}
use Rattle.c65_code.proofs.RoutineNumbers.{routines_are_numbered}
use Rattle.c65_code.specs.declared.line.Sym.{Sym}
use Rattle.c65_code.specs.declared.line.Line.{Line}
use Rattle.c65_code.specs.declared.code.Code.{Code}
use Rattle.c65_code.specs.Placement.{program_start, segment_of}
use Rattle.c65_code.specs.Segments.{Segment, IsSegment}
use Rattle.c65_link.specs.Bodies.{body_of}
use Rattle.c65_link.specs.Bytes.{Written, Tables, with_lines, with_functions, with_routines, data_bytes}
use Rattle.c65_link.specs.Runtime.{routine_lines}
use Rattle.c65_link.specs.Symbols.{targets_of, missing_of}
use Rattle.c65_link.specs.Linked.{Fault, entry_of, linked, main_address, tables_of, routine_tables}
use Rattle.c65_link_law.specs.Coded.{Memory, Stands, AreCoded, spot_for}
use Rattle.c65_link_law.specs.Placed.{first_address, routine_address, routines_in, layout_in}
use Rattle.c65_link_law.proofs.Lines.{stands_split}
use Rattle.c65_link_law.proofs.Placed.{Grows, more, Given, given, file_of, Fits, fits, one_bytes, one_stands, functions_bytes, written_functions, functions_are_coded}
use Rattle.c65_link_law.proofs.Routines.{routines_are_coded}
use Rattle.c65_link_law_spots.specs.Places.{address_in, code_end, routine_count, lines_by, runtime_lines, lines_in, runtime_base, base_in, symbols_in}
use Rattle.c65_link_law_spots.specs.Sound.{IsSound}
use Rattle.c65_link_law_spots.specs.Laws.{IsUnit, function, routine, start, IsUnitPlaced, UnitsStand}
use Rattle.c65_link_law_spots.proofs.Sums.{none_there, same_there}
use Rattle.c65_link_law_spots.proofs.Marks.{numbered}
use Rattle.c65_link_law_spots.proofs.Uses.{whole_in}
use Rattle.c65_link_law_spots.proofs.Targets.{IsMade, made}
use Rattle.c65_link_law_spots.proofs.Spots.{Ends, ends, FunctionAt, function_stands, RoutineAt, routine_stands, routine_segment, routine_called}

-- The start

abbrev pub entry_lines : Code → List Line
entry_lines code = routine_lines (entry_of code)

routines_before : (rs : List Routine) (tables : Tables) (w : Written) (m : Memory) (at : ℕ) → Stands m at (with_routines tables w rs).bytes → Stands m at w.bytes
routines_before [] tables w m at h = h
routines_before (r ∷ rs) tables w m at h = (stands_split w.bytes (one_bytes tables w.at (routine_lines r)) m at (routines_before rs tables (with_lines tables w (routine_lines r)) m at h)).0

entry_bytes : (code : Code) (m : Memory) → Stands m program_start (file_of code) → Stands m program_start (one_bytes (routine_tables code (layout_in code)) program_start (entry_lines code))
entry_bytes code m stands =
    let tables : Tables = tables_of (layout_in code) in
    let own : Tables = routine_tables code (layout_in code) in
    let begun : Written = with_lines own (record { bytes = []; at = program_start }) (entry_lines code) in
    let coded : Written = with_functions tables begun code.functions in
    let all : Written = with_routines own coded (routines_in code) in
    let whole = stands_split all.bytes (data_bytes tables.symbols code.datums) m program_start stands in
    let functions : Stands m program_start coded.bytes = routines_before (routines_in code) own coded m program_start whole.0 in
    let is : coded.bytes ≡ begun.bytes ++ functions_bytes tables begun.at code.functions = written_functions code.functions tables begun in
    (stands_split begun.bytes (functions_bytes tables begun.at code.functions) m program_start (subst (λ (bytes : List ℕ). Stands m program_start bytes) is functions)).0

entry_lined : (b : Bool) → IsSegment (routine_lines (if b then routines.StartArgs else routines.Start))
entry_lined true = routine_segment routines.StartArgs refl
entry_lined false = routine_segment routines.Start refl

file_given : (code : Code) (plain : Image) (m : Memory) → linked code ≡ Ok plain → Stands m program_start plain.payload → Stands m program_start (file_of code)
file_given code plain m is stands =
    let file : Given (Ok plain) (file_of code) (layout_in code).at = subst (λ (r : Result Image Fault). Given r (file_of code) (layout_in code).at) is (given code (missing_of code (targets_of code))) in
    subst (λ (bytes : List ℕ). Stands m program_start bytes) file.0 stands

-- a unit by its parts: its lines, its first address, and what its symbols mean
abbrev Coded : Code → Memory → List Line → ℕ → List ℕ → Type 0
Coded code m lines base symbols = AreCoded m (spot_for lines base symbols (layout_in code).routines) base lines (base + (body_of lines).size)

record Unit_ (code : Code) (m : Memory) (lines : List Line) (base : ℕ) (symbols : List ℕ) : Type 0 where
  coded : Coded code m lines base symbols
  segment : IsSegment lines
  from : program_start ≤ base
  to : base + (body_of lines).size ≤ code_end code

-- the start ends where the first function begins
pub start_ends : (code : Code) → Ends code → program_start + (body_of (entry_lines code)).size ≡ first_address code
start_ends code e =
    let first = e.functions in let second = e.routines in let third = e.stored in let fourth = e.zeros in let last = e.all in
    let grown : Grows program_start (first_address code) = more program_start (body_of (entry_lines code)).size (omega arith) in
    let room : Fits program_start (body_of (entry_lines code)).size = fits program_start (body_of (entry_lines code)).size (first_address code) (omega arith) (record { least = omega arith; most = grown.most }) (omega (arith, first, second, third, fourth, last)) in
    sym room.sum

entry_unit : (code : Code) (m : Memory) → Ends code → Stands m program_start (file_of code) → Unit_ code m (entry_lines code) program_start (main_address code (layout_in code) ∷ [])
entry_unit code m e stands =
    let first = e.functions in let second = e.routines in let third = e.stored in let fourth = e.zeros in let last = e.all in
    let grown : Grows program_start (first_address code) = more program_start (body_of (entry_lines code)).size (omega arith) in
    let room : Fits program_start (body_of (entry_lines code)).size = fits program_start (body_of (entry_lines code)).size (first_address code) (omega arith) (record { least = omega arith; most = grown.most }) (omega (arith, first, second, third, fourth, last)) in
    let sum = room.sum in
    record {
      coded = one_stands (entry_lines code) (routine_tables code (layout_in code)) program_start m room (entry_bytes code m stands) (entry_lined code.main_args);
      segment = entry_lined code.main_args;
      from = omega arith;
      to = omega (arith, sum, first, second);
    }

function_unit : (code : Code) (plain : Image) (m : Memory) (k : ℕ) (g : Sym × Segment) → IsSound code → linked code ≡ Ok plain → Ends code → Stands m program_start plain.payload → slice_get code.functions k ≡ Some g → Unit_ code m g.1.lines (address_in code g.0.0) (layout_in code).symbols
function_unit code plain m k g s is e stands here =
    let at : FunctionAt code k g = function_stands code k g s e here in
    let address = at.address in let from = at.from in let to = at.to in let first = e.first in let second = e.routines in
    record {
      coded = subst (λ (n : ℕ). Coded code m g.1.lines n (layout_in code).symbols) (sym address) (functions_are_coded code plain m k g is stands here (s.segment k g here));
      segment = s.segment k g here;
      from = omega (arith, address, from, first);
      to = omega (arith, address, to, second);
    }

routine_unit : (code : Code) (plain : Image) (m : Memory) (k : ℕ) (r : Routine) → linked code ≡ Ok plain → Ends code → Stands m program_start plain.payload → slice_get (routines_in code) k ≡ Some r
    → Unit_ code m (routine_lines r) (slice_index (layout_in code).routines (number_of r)) (main_address code (layout_in code) ∷ [])
routine_unit code plain m k r is e stands here =
    let at : RoutineAt code k r = routine_stands code k r e here in
    let lined : IsSegment (routine_lines r) = routine_segment r ((whole_in code).lined r (record { place = k; there = here })) in
    let address : slice_index (layout_in code).routines (number_of r) ≡ routine_address code k = routine_called code plain k r is here in
    let from = at.from in let to = at.to in let first = e.first in let second = e.functions in
    record {
      coded = subst (λ (n : ℕ). Coded code m (routine_lines r) n (main_address code (layout_in code) ∷ [])) (sym address) (routines_are_coded code plain m k r is stands here lined).1;
      segment = lined;
      from = omega (arith, address, from, first, second);
      to = omega (arith, address, to);
    }

-- Units by number

pub segment_there : (fs : List (Sym × Segment)) (k : ℕ) (g : Sym × Segment) → ((i j : ℕ) (f h : Sym × Segment) → slice_get fs i ≡ Some f → slice_get fs j ≡ Some h → f.0.0 ≡ h.0.0 → i ≡ j) → slice_get fs k ≡ Some g → segment_of fs g.0.0 ≡ g.1
segment_there [] k g once here = none_there g here
segment_there (f ∷ fs) zero g once here =
    let same : f ≡ g = same_there f g here in
    ap (λ (b : Bool). if b then f.1 else segment_of fs g.0.0) (eq-eqb f.0.0 g.0.0 (ap (λ (x : Sym × Segment). x.0.0) same)) ∙ ap (λ (x : Sym × Segment). x.1) same
segment_there (f ∷ fs) (suc k) g once here =
    let other : f.0.0 ≡ g.0.0 → ⊥ = λ e. (let z = once 0 (suc k) f g refl here e in omega (arith, z)) in
    ap (λ (b : Bool). if b then f.1 else segment_of fs g.0.0) (ne_eqb f.0.0 g.0.0 other)
    ∙ segment_there fs k g (λ i j x y a b e. (let z = once (suc i) (suc j) x y a b e in omega (arith, z))) here

-- the parts of a unit by its number
pub record Parts (code : Code) (f : ℕ) (lines : List Line) (base : ℕ) (symbols : List ℕ) : Type 0 where
  pub lines_is : lines_in code f ≡ lines
  pub base_is : base_in code f ≡ base
  pub symbols_is : symbols_in code f ≡ symbols

placed : (code : Code) (m : Memory) (f : ℕ) (lines : List Line) (base : ℕ) (symbols : List ℕ) → Parts code f lines base symbols → Unit_ code m lines base symbols → IsUnitPlaced code m f
placed code m f lines base symbols p u =
    let lines_is : lines ≡ lines_in code f = sym p.lines_is in
    let base_is : base ≡ base_in code f = sym p.base_is in
    let symbols_is : symbols ≡ symbols_in code f = sym p.symbols_is in
    let one : Unit_ code m (lines_in code f) base symbols = subst (λ (x : List Line). Unit_ code m x base symbols) lines_is u in
    let two : Unit_ code m (lines_in code f) (base_in code f) symbols = subst (λ (x : ℕ). Unit_ code m (lines_in code f) x symbols) base_is one in
    let all : Unit_ code m (lines_in code f) (base_in code f) (symbols_in code f) = subst (λ (x : List ℕ). Unit_ code m (lines_in code f) (base_in code f) x) symbols_is two in
    record { coded = all.coded; segment = all.segment; from = all.from; to = all.to }

pub function_parts : (code : Code) (k : ℕ) (g : Sym × Segment) → IsSound code → slice_get code.functions k ≡ Some g → Parts code g.0.0 g.1.lines (address_in code g.0.0) (layout_in code).symbols
function_parts code k g s here =
    let inside : nat_lt g.0.0 (length code.symbols) ≡ true = lt-ltb g.0.0 (length code.symbols) (s.writable.function_known k g here) in
    record {
      lines_is = ap (λ (b : Bool). if b then (segment_of code.functions g.0.0).lines else runtime_lines code (g.0.0 - length code.symbols)) inside ∙ ap (λ (x : Segment). x.lines) (segment_there code.functions k g s.writable.own_function here);
      base_is = ap (λ (b : Bool). if b then address_in code g.0.0 else runtime_base code (g.0.0 - length code.symbols)) inside;
      symbols_is = ap (λ (b : Bool). if b then (layout_in code).symbols else main_address code (layout_in code) ∷ []) inside;
    }

runtime_parts : (code : Code) (n : ℕ) → Parts code (length code.symbols + n) (runtime_lines code n) (runtime_base code n) (main_address code (layout_in code) ∷ [])
runtime_parts code n =
    let f : ℕ = length code.symbols + n in
    let outside : nat_lt f (length code.symbols) ≡ false = le-ltb f (length code.symbols) (omega arith) in
    let back : f - length code.symbols ≡ n = omega arith in
    record {
      lines_is = ap (λ (b : Bool). if b then (segment_of code.functions f).lines else runtime_lines code (f - length code.symbols)) outside ∙ ap (runtime_lines code) back;
      base_is = ap (λ (b : Bool). if b then address_in code f else runtime_base code (f - length code.symbols)) outside ∙ ap (runtime_base code) back;
      symbols_is = ap (λ (b : Bool). if b then (layout_in code).symbols else main_address code (layout_in code) ∷ []) outside;
    }

pub routine_parts : (code : Code) (r : Routine) → Parts code (length code.symbols + number_of r) (routine_lines r) (slice_index (layout_in code).routines (number_of r)) (main_address code (layout_in code) ∷ [])
routine_parts code r =
    let p = runtime_parts code (number_of r) in
    let low = numbered r in
    let other : (number_of r == routine_count) ≡ false = ne_eqb (number_of r) routine_count (λ e. omega (arith, low, e)) in
    record {
      lines_is = p.lines_is ∙ ap (λ (b : Bool). if b then routine_lines (entry_of code) else lines_by (slice_get ALL (number_of r))) other ∙ ap lines_by (routines_are_numbered r);
      base_is = p.base_is ∙ ap (λ (b : Bool). if b then program_start else slice_index (layout_in code).routines (number_of r)) other;
      symbols_is = p.symbols_is;
    }

pub entry_parts : (code : Code) → Parts code (length code.symbols + routine_count) (entry_lines code) program_start (main_address code (layout_in code) ∷ [])
entry_parts code = let p = runtime_parts code routine_count in record { lines_is = p.lines_is; base_is = p.base_is; symbols_is = p.symbols_is }

pub units_stand : UnitsStand
units_stand code cpu image m s linked_is stands f u = by u
  where
    it : IsMade code image
    it = made code cpu image linked_is

    e : Ends code
    e = ends code it.plain it.is

    there : Stands m program_start it.plain.payload
    there = subst (λ (bytes : List ℕ). Stands m program_start bytes) it.payload stands

    by : IsUnit code f → IsUnitPlaced code m f
    by (function k g here is) = subst (λ (n : ℕ). IsUnitPlaced code m n) is (placed code m g.0.0 g.1.lines (address_in code g.0.0) (layout_in code).symbols (function_parts code k g s here) (function_unit code it.plain m k g s it.is e there here))
    by (routine r chosen is) = subst (λ (n : ℕ). IsUnitPlaced code m n) (sym is) (placed code m (length code.symbols + number_of r) (routine_lines r) (slice_index (layout_in code).routines (number_of r)) (main_address code (layout_in code) ∷ []) (routine_parts code r) (routine_unit code it.plain m chosen.place r it.is e there chosen.there))
    by (start is) = subst (λ (n : ℕ). IsUnitPlaced code m n) (sym is) (placed code m (length code.symbols + routine_count) (entry_lines code) program_start (main_address code (layout_in code) ∷ []) (entry_parts code) (entry_unit code m e (file_given code it.plain m it.is there)))
