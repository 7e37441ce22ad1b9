-- What an image takes with the zeros behind its file.
use Rattle.std.proofs.Common.{◌≡◌, ℕ, ◌+◌, ◌-◌, ◌≤◌, ◌<◌, Bool, true, false, nat_lt, if◌then◌else◌, List, [], ◌∷◌, Option, Some, None, Result, Ok, Err, length, refl, subst, ◌∙◌, arith, ltb-true}
use Rattle.std.proofs.Math.Nat.{min-le_left}
use Rattle.c65_base.specs.declared.refusal.Size.TheVariants as limits
use Rattle.c65_base.specs.Limits.{limit_of}
use Rattle.c65_mach.specs.declared.image.Image.{Image}
use Rattle.c65_code.specs.declared.routine.Routine.{Routine}
use Rattle.c65_code.specs.declared.line.Line.{Line}
use Rattle.c65_code.specs.declared.line.Sym.{Sym}
use Rattle.c65_code.specs.declared.code.Code.{Code}
use Rattle.c65_code.specs.declared.code.Datum.{Datum}
use Rattle.c65_code.specs.declared.code.DatumKind.{DatumKind}
use Rattle.c65_code.specs.declared.code.DatumKind.TheVariants.{Data, Const, Zero}
use Rattle.c65_code.specs.declared.code.DataCell.{DataCell}
use Rattle.c65_code.specs.Segments.{Segment}
use Rattle.c65_code.specs.Placement.{cell_size, cells_size, size_of_datum, program_start}
use Rattle.c65_code.specs.Weights.{functions_size, extent_of, lines_size}
use Rattle.c65_link.specs.declared.symbols.Target.{Target}
use Rattle.c65_link.specs.declared.symbols.Target.TheVariants as targets
use Rattle.c65_code.specs.declared.routine.TheConstants.Routine.{ALL}
use Rattle.c65_link.specs.Bodies.{Body, with_line, body_of, far_labels, far_size, line_size, plus}
use Rattle.c65_link.specs.Bodies.{with_lines as body_with}
use Rattle.c65_link.specs.Runtime.{with_calls, routine_lines, no_marks}
use Rattle.c65_link.specs.Layouts.{Layout, empty_layout, with_lines, with_function, with_functions, with_target, with_targets, cells_end, with_data, with_zeros, with_all_data, with_all_zeros, layout_of}
use Rattle.c65_link.specs.Layouts as layouts
use Rattle.c65_link.specs.Symbols.{targets_of, missing_of, with_code_uses}
use Rattle.c65_link.specs.Linked.{Fault, undefined, large, entry_of, parts_of, payload_of, image_of, named_or_placed, linked}
use Rattle.c65_link_law.proofs.Extents.{far_most, routines_size, entries, chosen_by_most, all_are_few, entry_by}
use Rattle.c65_link_law.proofs.Sizes.{IsSized, line_sized}
use Rattle.c65_gen_law_size.specs.Data.{datums_size}

plus_le : (a b : ℕ) → plus a b ≤ a + b
plus_le a b = min-le_left (a + b) 18446744073709551615

-- ---- lines

body_most : (lines : List Line) (body : Body) (at : ℕ) → (body_with body at lines).size ≤ body.size + lines_size lines
body_most [] body at = omega arith
body_most (line ∷ lines) body at =
    let sized : IsSized (line_size body.far at line) (far_size line) = line_sized body.far at line in
    omega (arith, body_most lines (with_line body at line) (plus at (far_size line)), plus_le body.size (line_size body.far at line), sized.most, far_most line)

size_most : (lines : List Line) → (body_of lines).size ≤ lines_size lines
size_most lines = omega (arith, body_most lines (record { far = far_labels [] 0 lines; near = []; size = 0 }) 0)

-- ---- layouts

lines_at : (layout : Layout) (lines : List Line) → (with_lines layout lines).at ≤ layout.at + lines_size lines
lines_at layout lines = omega (arith, plus_le layout.at (body_of lines).size, size_most lines)

functions_at : (layout : Layout) (fs : List (Sym × Segment)) → (with_functions layout fs).at ≤ layout.at + functions_size fs
functions_at layout [] = omega arith
functions_at layout (f ∷ fs) =
    let one : (with_function layout f).at ≤ layout.at + lines_size f.1.lines = omega (arith, plus_le layout.at (body_of f.1.lines).size, size_most f.1.lines) in
    omega (arith, functions_at (with_function layout f) fs, one)

routines_at : (layout : Layout) (rs : List Routine) → (layouts.with_routines layout rs).at ≤ layout.at + routines_size rs
routines_at layout [] = omega arith
routines_at layout (r ∷ rs) =
    let one : (layouts.with_routine layout r).at ≤ layout.at + lines_size (routine_lines r) = omega (arith, plus_le layout.at (body_of (routine_lines r)).size, size_most (routine_lines r)) in
    omega (arith, routines_at (layouts.with_routine layout r) rs, one)

target_at : (layout : Layout) (i : ℕ) (target : Target) → (with_target layout i target).at ≡ layout.at
target_at layout i targets.Nowhere = refl
target_at layout i targets.Own = refl
target_at layout i (targets.Runtime f) = refl

targets_at : (layout : Layout) (i : ℕ) (ts : List Target) → (with_targets layout i ts).at ≡ layout.at
targets_at layout i [] = refl
targets_at layout i (t ∷ ts) = targets_at (with_target layout i t) (i + 1) ts ∙ target_at layout i t

cells_most : (size : ℕ) (cells : List DataCell) → cells_end size cells ≤ size + cells_size cells
cells_most size [] = omega arith
cells_most size (cell ∷ cells) = omega (arith, cells_most (plus size (cell_size cell)) cells, plus_le size (cell_size cell))

-- what a datum takes in the file, and behind it
abbrev in_file : DatumKind → Datum → ℕ
in_file Zero datum = 0
in_file _ datum = cells_size datum.cells

abbrev behind_file : DatumKind → Datum → ℕ
behind_file Zero datum = datum.zeros
behind_file _ datum = 0

abbrev files_size : List Datum → ℕ
files_size [] = 0
files_size (datum ∷ datums) = in_file datum.kind datum + files_size datums

abbrev behind_size : List Datum → ℕ
behind_size [] = 0
behind_size (datum ∷ datums) = behind_file datum.kind datum + behind_size datums

data_at : (kind : DatumKind) (layout : Layout) (datum : Datum) → (with_data kind layout datum).at ≤ layout.at + in_file kind datum
data_at Zero layout datum = omega arith
data_at Data layout datum = omega (arith, plus_le layout.at (cells_end 0 datum.cells), cells_most 0 datum.cells)
data_at Const layout datum = omega (arith, plus_le layout.at (cells_end 0 datum.cells), cells_most 0 datum.cells)

zeros_at : (kind : DatumKind) (layout : Layout) (datum : Datum) → (with_zeros kind layout datum).at ≤ layout.at + behind_file kind datum
zeros_at Zero layout datum = omega (arith, plus_le layout.at datum.zeros)
zeros_at Data layout datum = omega arith
zeros_at Const layout datum = omega arith

all_data_at : (layout : Layout) (ds : List Datum) → (with_all_data layout ds).at ≤ layout.at + files_size ds
all_data_at layout [] = omega arith
all_data_at layout (d ∷ ds) = omega (arith, all_data_at (with_data d.kind layout d) ds, data_at d.kind layout d)

all_zeros_at : (layout : Layout) (ds : List Datum) → (with_all_zeros layout ds).at ≤ layout.at + behind_size ds
all_zeros_at layout [] = omega arith
all_zeros_at layout (d ∷ ds) = omega (arith, all_zeros_at (with_zeros d.kind layout d) ds, zeros_at d.kind layout d)

both_sizes : (kind : DatumKind) (datum : Datum) → in_file kind datum + behind_file kind datum ≤ size_of_datum datum
both_sizes Zero datum = omega arith
both_sizes Data datum = omega arith
both_sizes Const datum = omega arith

all_sizes : (ds : List Datum) → files_size ds + behind_size ds ≤ datums_size ds
all_sizes [] = omega arith
all_sizes (d ∷ ds) = omega (arith, all_sizes ds, both_sizes d.kind d)

layout_most : (code : Code) (ts : List Target) (entry : Routine) (parts : List Routine) → (layout_of code ts entry parts).at ≤ program_start + lines_size (routine_lines entry) + extent_of code + routines_size parts + datums_size code.datums
layout_most code ts entry parts =
    let empty : Layout = empty_layout (length code.symbols) in
    let begun : Layout = with_lines empty (routine_lines entry) in
    let coded : Layout = with_functions begun code.functions in
    let all : Layout = layouts.with_routines coded parts in
    let aimed : Layout = with_targets all 0 ts in
    let filled : Layout = with_all_data aimed code.datums in
    omega (arith, lines_at empty (routine_lines entry), functions_at begun code.functions, routines_at coded parts, targets_at all 0 ts, all_data_at aimed code.datums, all_zeros_at filled code.datums, all_sizes code.datums)

-- ---- refusals

abbrev value_in : Result Image Fault → ℕ
value_in (Ok image) = 0
value_in (Err (undefined name)) = 0
value_in (Err (large n)) = n

fitted_value : (b : Bool) (value most : ℕ) (payload : List ℕ) → value ≤ most → value_in (if b then Err (large value) else Ok (image_of payload)) ≤ most
fitted_value true value most payload h = h
fitted_value false value most payload h = omega arith

placed_value : (code : Code) (name : Option (List ℕ)) → value_in (named_or_placed code (targets_of code) name) ≤ extent_of code + datums_size code.datums + 8192
placed_value code (Some name) = omega arith
placed_value code None =
    let ts : List Target = targets_of code in
    let parts : List Routine = parts_of code ts in
    let layout : Layout = layout_of code ts (entry_of code) parts in
    let few : routines_size parts ≤ 0 + routines_size ALL = chosen_by_most (record { marks = with_code_uses code ts (with_calls no_marks (routine_lines (entry_of code))); parts = [] }) in
    let small : routines_size entries + routines_size ALL < 8193 = ltb-true (routines_size entries + routines_size ALL) 8193 all_are_few in
    fitted_value (nat_lt (limit_of limits.Image) (layout.at - program_start)) (layout.at - program_start) (extent_of code + datums_size code.datums + 8192) (payload_of code layout (entry_of code) parts) (omega (arith, layout_most code ts (entry_of code) parts, few, entry_by code.main_args, small))

-- the bytes for which an image is refused
pub large_most : (code : Code) (size : ℕ) → linked code ≡ Err (large size) → size ≤ extent_of code + datums_size code.datums + 8192
large_most code size h = subst (λ r. value_in r ≤ extent_of code + datums_size code.datums + 8192) h (placed_value code (missing_of code (targets_of code)))
