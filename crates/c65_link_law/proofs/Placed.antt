-- Functions one behind another, from the file's bytes to machine code.
use Rattle.std.proofs.Common.{◌≡◌, ℕ, zero, suc, ◌+◌, ◌≤◌, ◌^◌, ◌-◌, ◌%◌, Bool, true, false, nat_lt, if◌then◌else◌, List, [], ◌∷◌, ◌++◌, take, slice_get, Option, Some, None, Result, Ok, Err, length, refl, ap, sym, ◌∙◌, subst, arith}
use Rattle.std.proofs.lemmas.List.{append_assoc, append-nil}
use Rattle.std.proofs.lemmas.Bool.{ltb-false}
use Rattle.c65_mach.specs.declared.image.Image.{Image}
use Rattle.c65_code.specs.declared.routine.Routine.{Routine}
use Rattle.c65_code.specs.declared.line.Sym.{Sym}
use Rattle.c65_code.specs.declared.line.Line.{Line}
use Rattle.c65_code.specs.declared.code.Code.{Code}
use Rattle.c65_code.specs.declared.code.Datum.{Datum}
use Rattle.c65_code.specs.declared.code.DatumKind.{DatumKind}
use Rattle.c65_code.specs.declared.code.DatumKind.TheVariants.{Data, Const, Zero}
use Rattle.c65_code.specs.Segments.{Segment, IsSegment}
use Rattle.c65_code.specs.Placement.{program_start}
use Rattle.c65_link.specs.declared.symbols.Target.{Target}
use Rattle.c65_link.specs.declared.symbols.Target.TheVariants.{Nowhere, Own, Runtime}
use Rattle.c65_link.specs.Bodies.{Body, body_of, plus}
use Rattle.c65_link.specs.Bytes.{Spot, Written, Tables, lines_bytes, with_lines, with_functions, with_routines, data_bytes}
use Rattle.c65_link.specs.Layouts.{Layout, empty_layout, with_targets, with_data, with_zeros, with_all_data, with_all_zeros, cells_end}
use Rattle.c65_link.specs.Layouts.{with_lines as layout_lines, with_functions as layout_functions, with_routines as layout_routines}
use Rattle.c65_link.specs.Runtime.{routine_lines}
use Rattle.c65_link.specs.Symbols.{targets_of, missing_of}
use Rattle.c65_link.specs.Linked.{Fault, large, entry_of, parts_of, tables_of, routine_tables, payload_of, image_of, named_or_placed}
use Rattle.c65_link_law.specs.Coded.{Memory, Stands, AreCoded, spot_for}
use Rattle.c65_link_law.specs.Placed.{behind, first_address, layout_in, routines_in, behind_routines, FunctionsStand}
use Rattle.c65_link_law.proofs.Sizes.{plus_grows, plus_most}
use Rattle.c65_link_law.proofs.Extents.{sizes_are_lengths}
use Rattle.c65_link_law.proofs.Lines.{stands_split, lines_are_coded}

-- Addresses only grow, up to the greatest that 64 bits hold

pub record Grows (a b : ℕ) : Type 0 where
  pub least : a ≤ b
  pub most : b ≤ 2 ^ 64 - 1

pub stays : (a : ℕ) → a ≤ 2 ^ 64 - 1 → Grows a a
stays a h = record { least = omega arith; most = h }

pub more : (a n : ℕ) → a ≤ 2 ^ 64 - 1 → Grows a (plus a n)
more a n h = record { least = plus_grows a n h; most = plus_most a n }

pub on : (a b c : ℕ) → Grows a b → Grows b c → Grows a c
on a b c f g = record { least = omega (arith, f.least, g.least); most = g.most }

pub behind_grows : (fs : List (Sym × Segment)) (at : ℕ) → at ≤ 2 ^ 64 - 1 → Grows at (behind at fs)
behind_grows [] at h = stays at h
behind_grows (f ∷ fs) at h =
    let n : ℕ = plus at (body_of f.1.lines).size in
    let here : Grows at n = more at (body_of f.1.lines).size h in
    on at n (behind n fs) here (behind_grows fs n here.most)

pub functions_behind : (fs : List (Sym × Segment)) (layout : Layout) → (layout_functions layout fs).at ≡ behind layout.at fs
functions_behind [] layout = refl
functions_behind (f ∷ fs) layout = functions_behind fs _

routines_grow : (rs : List Routine) (layout : Layout) → layout.at ≤ 2 ^ 64 - 1 → Grows layout.at (layout_routines layout rs).at
routines_grow [] layout h = stays layout.at h
routines_grow (r ∷ rs) layout h =
    let n : ℕ = plus layout.at (body_of (routine_lines r)).size in
    let here : Grows layout.at n = more layout.at (body_of (routine_lines r)).size h in
    on layout.at n _ here (routines_grow rs _ here.most)

targets_stay : (targets : List Target) (i : ℕ) (layout : Layout) → (with_targets layout i targets).at ≡ layout.at
targets_stay [] i layout = refl
targets_stay (Nowhere ∷ targets) i layout = targets_stay targets (i + 1) _
targets_stay (Own ∷ targets) i layout = targets_stay targets (i + 1) _
targets_stay (Runtime f ∷ targets) i layout = targets_stay targets (i + 1) _

one_data : (kind : DatumKind) (layout : Layout) (datum : Datum) → layout.at ≤ 2 ^ 64 - 1 → Grows layout.at (with_data kind layout datum).at
one_data Data layout datum h = more layout.at (cells_end 0 datum.cells) h
one_data Const layout datum h = more layout.at (cells_end 0 datum.cells) h
one_data Zero layout datum h = stays layout.at h

data_grow : (datums : List Datum) (layout : Layout) → layout.at ≤ 2 ^ 64 - 1 → Grows layout.at (with_all_data layout datums).at
data_grow [] layout h = stays layout.at h
data_grow (datum ∷ datums) layout h =
    let here : Grows layout.at (with_data datum.kind layout datum).at = one_data datum.kind layout datum h in
    on layout.at (with_data datum.kind layout datum).at (with_all_data (with_data datum.kind layout datum) datums).at here (data_grow datums (with_data datum.kind layout datum) here.most)

one_zeros : (kind : DatumKind) (layout : Layout) (datum : Datum) → layout.at ≤ 2 ^ 64 - 1 → Grows layout.at (with_zeros kind layout datum).at
one_zeros Data layout datum h = stays layout.at h
one_zeros Const layout datum h = stays layout.at h
one_zeros Zero layout datum h = more layout.at datum.zeros h

zeros_grow : (datums : List Datum) (layout : Layout) → layout.at ≤ 2 ^ 64 - 1 → Grows layout.at (with_all_zeros layout datums).at
zeros_grow [] layout h = stays layout.at h
zeros_grow (datum ∷ datums) layout h =
    let here : Grows layout.at (with_zeros datum.kind layout datum).at = one_zeros datum.kind layout datum h in
    on layout.at (with_zeros datum.kind layout datum).at (with_all_zeros (with_zeros datum.kind layout datum) datums).at here (zeros_grow datums (with_zeros datum.kind layout datum) here.most)

routines_behind : (rs : List Routine) (layout : Layout) → (layout_routines layout rs).at ≡ behind_routines layout.at rs
routines_behind [] layout = refl
routines_behind (r ∷ rs) layout = routines_behind rs _

pub routines_end : (code : Code) → Grows (behind_routines (behind (first_address code) code.functions) (routines_in code)) (layout_in code).at
routines_end code =
    let targets : List Target = targets_of code in
    let parts : List Routine = routines_in code in
    let begun : Layout = layout_lines (empty_layout (length code.symbols)) (routine_lines (entry_of code)) in
    let coded : Layout = layout_functions begun code.functions in
    let all : Layout = layout_routines coded parts in
    let named : Layout = with_targets all 0 targets in
    let given : Layout = with_all_data named code.datums in
    let end : ℕ = behind (first_address code) code.functions in
    let first : Grows program_start (first_address code) = more program_start (body_of (routine_lines (entry_of code))).size (omega arith) in
    let functions : Grows (first_address code) end = behind_grows code.functions (first_address code) first.most in
    let at_end : coded.at ≡ end = functions_behind code.functions begun in
    let a : Grows coded.at all.at = routines_grow parts coded (omega (arith, at_end, functions.most)) in
    let is : all.at ≡ behind_routines coded.at parts = routines_behind parts coded in
    let moved : behind_routines coded.at parts ≡ behind_routines end parts = ap (λ (n : ℕ). behind_routines n parts) at_end in
    let same : named.at ≡ all.at = targets_stay targets 0 all in
    let b : Grows named.at given.at = data_grow code.datums named (omega (arith, same, a.most)) in
    let c : Grows given.at (with_all_zeros given code.datums).at = zeros_grow code.datums given b.most in
    record { least = omega (arith, is, moved, same, b.least, c.least); most = c.most }

pub routines_reach : (rs : List Routine) (at : ℕ) → at ≤ 2 ^ 64 - 1 → Grows at (behind_routines at rs)
routines_reach [] at h = stays at h
routines_reach (r ∷ rs) at h =
    let n : ℕ = plus at (body_of (routine_lines r)).size in
    let here : Grows at n = more at (body_of (routine_lines r)).size h in
    on at n (behind_routines n rs) here (routines_reach rs n here.most)

-- behind the functions of a code there is at most what the layout says
pub functions_end : (code : Code) → Grows (behind (first_address code) code.functions) (layout_in code).at
functions_end code =
    let begin : ℕ = behind (first_address code) code.functions in
    let first : Grows program_start (first_address code) = more program_start (body_of (routine_lines (entry_of code))).size (omega arith) in
    let functions : Grows (first_address code) begin = behind_grows code.functions (first_address code) first.most in
    on begin (behind_routines begin (routines_in code)) (layout_in code).at (routines_reach (routines_in code) begin functions.most) (routines_end code)

-- The file of an image that was linked, and where it ends

abbrev pub Given : Result Image Fault → List ℕ → ℕ → Type 0
Given (Ok image) payload at = (image.payload ≡ payload) × (at ≤ 63472)
Given (Err e) payload at = Unit {0}

given_by : (b : Bool) (at : ℕ) (payload : List ℕ) → nat_lt 62960 (at - 512) ≡ b → Given (if b then Err (large (at - 512)) else Ok (image_of payload)) payload at
given_by true at payload e = tt
given_by false at payload e =
    let low : at - 512 ≤ 62960 = ltb-false 62960 (at - 512) e in
    (refl, omega (arith, low))

abbrev pub file_of : Code → List ℕ
file_of code = payload_of code (layout_in code) (entry_of code) (parts_of code (targets_of code))

pub given : (code : Code) (name : Option (List ℕ)) → Given (named_or_placed code (targets_of code) name) (file_of code) (layout_in code).at
given code (Some name) = tt
given code None = given_by (nat_lt 62960 ((layout_in code).at - 512)) (layout_in code).at (file_of code) refl

-- The bytes of functions

abbrev spot_at : Tables → ℕ → Body → Spot
spot_at tables at body = record { body = body; base = at % 65536; symbols = tables.symbols; routines = tables.routines }

abbrev pub one_bytes : Tables → ℕ → List Line → List ℕ
one_bytes tables at lines = lines_bytes (spot_at tables at (body_of lines)) (record { far = 0; near = 0 }) lines

abbrev pub functions_bytes : Tables → ℕ → List (Sym × Segment) → List ℕ
functions_bytes tables at [] = []
functions_bytes tables at (f ∷ fs) = one_bytes tables at f.1.lines ++ functions_bytes tables (plus at (body_of f.1.lines).size) fs

pub written_functions : (fs : List (Sym × Segment)) (tables : Tables) (w : Written) → (with_functions tables w fs).bytes ≡ w.bytes ++ functions_bytes tables w.at fs
written_functions [] tables w = sym (append-nil w.bytes)
written_functions (f ∷ fs) tables w = written_functions fs tables (with_lines tables w f.1.lines) ∙ append_assoc w.bytes (one_bytes tables w.at f.1.lines) (functions_bytes tables (plus w.at (body_of f.1.lines).size) fs)

-- what stands with routines behind it stands
stands_before : (rs : List Routine) (tables : Tables) (w : Written) (m : Memory) (at : ℕ) → Stands m at (with_routines tables w rs).bytes → Stands m at w.bytes
stands_before [] tables w m at h = h
stands_before (r ∷ rs) tables w m at h = (stands_split w.bytes (one_bytes tables w.at (routine_lines r)) m at (stands_before rs tables (with_lines tables w (routine_lines r)) m at h)).0

-- the lines of a function where they fit
pub record Fits (at size : ℕ) : Type 0 where
  pub sum : plus at size ≡ at + size
  pub low : at + size ≤ 65535

pub fits : (at size end : ℕ) → at ≤ 2 ^ 64 - 1 → Grows (plus at size) end → end ≤ 65535 → Fits at size
fits at size end h g low =
    let small : plus at size ≤ 65535 = omega (arith, g.least, low) in
    record { sum = omega (arith, small); low = omega (arith, small) }

pub one_stands : (lines : List Line) (tables : Tables) (at : ℕ) (m : Memory) → Fits at (body_of lines).size → Stands m at (one_bytes tables at lines) → IsSegment lines → AreCoded m (spot_for lines at tables.symbols tables.routines) at lines (at + (body_of lines).size)
one_stands lines tables at m f h segment =
    let low : at + (body_of lines).size ≤ 65535 = f.low in
    let base : at % 65536 ≡ at = omega (arith, low) in
    lines_are_coded lines at tables.symbols tables.routines m segment low (subst (λ (b : ℕ). Stands m at (lines_bytes (record { body = body_of lines; base = b; symbols = tables.symbols; routines = tables.routines }) (record { far = 0; near = 0 }) lines)) base h)

pub one_length : (lines : List Line) (tables : Tables) (at : ℕ) → Fits at (body_of lines).size → at + length (one_bytes tables at lines) ≡ plus at (body_of lines).size
one_length lines tables at f =
    let low : at + (body_of lines).size ≤ 65535 = f.low in
    let n : length (one_bytes tables at lines) ≡ (body_of lines).size = sizes_are_lengths lines (at % 65536) tables.symbols tables.routines (omega (arith, low)) in
    omega (arith, n, f.sum)

pub same_function : (f g : Sym × Segment) → Some g ≡ Some f → g ≡ f
same_function f g h = cc

pub nothing : {P : Type 0} (f : Sym × Segment) → ◌≡◌ {A = Option (Sym × Segment)} None (Some f) → P
nothing f h = absurd cc

abbrev Coded : Memory → Tables → ℕ → Sym × Segment → Type 0
Coded m tables at f = IsSegment f.1.lines → AreCoded m (spot_for f.1.lines at tables.symbols tables.routines) at f.1.lines (at + (body_of f.1.lines).size)

functions_stand : (fs : List (Sym × Segment)) (tables : Tables) (at : ℕ) (m : Memory) (k : ℕ) (f : Sym × Segment) → at ≤ 2 ^ 64 - 1 → behind at fs ≤ 65535 → Stands m at (functions_bytes tables at fs) → slice_get fs k ≡ Some f → Coded m tables (behind at (take k fs)) f
functions_stand [] tables at m k f h low stands here = nothing f here
functions_stand (g ∷ fs) tables at m zero f h low stands here =
    let end : ℕ = plus at (body_of g.1.lines).size in
    let room : Fits at (body_of g.1.lines).size = fits at (body_of g.1.lines).size (behind end fs) h (behind_grows fs end (plus_most at (body_of g.1.lines).size)) low in
    let parts = stands_split (one_bytes tables at g.1.lines) (functions_bytes tables end fs) m at stands in
    subst (λ (x : Sym × Segment). Coded m tables at x) (same_function f g here) (λ segment. one_stands g.1.lines tables at m room parts.0 segment)
functions_stand (g ∷ fs) tables at m (suc k) f h low stands here =
    let end : ℕ = plus at (body_of g.1.lines).size in
    let room : Fits at (body_of g.1.lines).size = fits at (body_of g.1.lines).size (behind end fs) h (behind_grows fs end (plus_most at (body_of g.1.lines).size)) low in
    let parts = stands_split (one_bytes tables at g.1.lines) (functions_bytes tables end fs) m at stands in
    let rest : Stands m end (functions_bytes tables end fs) = subst (λ (n : ℕ). Stands m n (functions_bytes tables end fs)) (one_length g.1.lines tables at room) parts.1 in
    functions_stand fs tables end m k f (plus_most at (body_of g.1.lines).size) low rest here

-- in the file

behind_entry : (code : Code) (m : Memory) → behind (first_address code) code.functions ≤ 65535 → Stands m program_start (file_of code) → Stands m (first_address code) (functions_bytes (tables_of (layout_in code)) (first_address code) code.functions)
behind_entry code m low stands =
    let layout : Layout = layout_in code in
    let tables : Tables = tables_of layout in
    let own : Tables = routine_tables code layout in
    let lines : List Line = routine_lines (entry_of code) in
    let begun : Written = with_lines own (record { bytes = []; at = program_start }) lines in
    let coded : Written = with_functions tables begun code.functions in
    let all : Written = with_routines own coded (parts_of code (targets_of code)) in
    let whole = stands_split all.bytes (data_bytes tables.symbols code.datums) m program_start stands in
    let functions : Stands m program_start coded.bytes = stands_before (parts_of code (targets_of code)) own coded m program_start whole.0 in
    let is : coded.bytes ≡ begun.bytes ++ functions_bytes tables begun.at code.functions = written_functions code.functions tables begun in
    let parts = stands_split begun.bytes (functions_bytes tables begun.at code.functions) m program_start (subst (λ (bytes : List ℕ). Stands m program_start bytes) is functions) in
    let first : Grows program_start (first_address code) = more program_start (body_of lines).size (omega arith) in
    let room : Fits program_start (body_of lines).size = fits program_start (body_of lines).size (behind (first_address code) code.functions) (omega arith) (behind_grows code.functions (first_address code) first.most) low in
    subst (λ (n : ℕ). Stands m n (functions_bytes tables (first_address code) code.functions)) (one_length lines own program_start room) parts.1

pub functions_are_coded : FunctionsStand
functions_are_coded code image m k f linked_is stands here segment =
    let file : Given (Ok image) (file_of code) (layout_in code).at = subst (λ (r : Result Image Fault). Given r (file_of code) (layout_in code).at) linked_is (given code (missing_of code (targets_of code))) in
    let end : Grows (behind (first_address code) code.functions) (layout_in code).at = functions_end code in
    let low : behind (first_address code) code.functions ≤ 65535 = omega (arith, end.least, file.1) in
    let there : Stands m program_start (file_of code) = subst (λ (bytes : List ℕ). Stands m program_start bytes) file.0 stands in
    let first : Grows program_start (first_address code) = more program_start (body_of (routine_lines (entry_of code))).size (omega arith) in
    functions_stand code.functions (tables_of (layout_in code)) (first_address code) m k f first.most low (behind_entry code m low there) here segment
