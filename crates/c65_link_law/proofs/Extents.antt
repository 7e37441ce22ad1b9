-- The bytes of lines, functions, routines and data, counted.
use Rattle.std.proofs.Common.{◌≡◌, ℕ, ◌+◌, ◌≤◌, ◌<◌, ◌^◌, ◌-◌, ◌&&◌, Bool, true, false, nat_lt, if◌then◌else◌, List, [], ◌∷◌, ◌++◌, Option, Some, None, Result, Ok, Err, length, refl, sym, subst, arith, ltb-true}
use Rattle.std.proofs.lemmas.List.{length-append}
use Rattle.c65_base.specs.declared.refusal.Size.TheVariants as limits
use Rattle.c65_base.specs.Limits.{limit_of}
use Rattle.c65_mach.specs.declared.image.Image.{Image}
use Rattle.c65_code.specs.declared.routine.Routine.{Routine}
use Rattle.c65_code.specs.declared.routine.Routine.TheVariants as routines
use Rattle.c65_code.specs.declared.routine.Width.TheVariants.{Ax}
use Rattle.c65_code.specs.declared.routine.UnaryRoutine.TheVariants.{Neg, Compl, Shl1, Shr1, Asr1}
use Rattle.c65_code.specs.declared.line.Callee.TheVariants as callees
use Rattle.c65_code.specs.declared.line.Line.{Line}
use Rattle.c65_code.specs.declared.line.Line.TheVariants.{Label, Do, Call}
use Rattle.c65_code.specs.declared.code.Code.{Code}
use Rattle.c65_code.specs.declared.code.Datum.{Datum}
use Rattle.c65_code.specs.declared.code.DatumKind.{DatumKind}
use Rattle.c65_code.specs.declared.code.DatumKind.TheVariants.{Data, Const, Zero}
use Rattle.c65_code.specs.declared.code.DataCell.{DataCell}
use Rattle.c65_code.specs.declared.code.DataCell.TheVariants.{Byte, Address}
use Rattle.c65_code.specs.Placement.{cells_size, program_start}
use Rattle.c65_code.specs.Weights.{functions_size, extent_of, lines_size, routine_size}
use Rattle.c65_code.specs.Weights.{line_size as extent_of_line}
use Rattle.c65_link.specs.declared.symbols.Target.{Target}
use Rattle.c65_code.specs.declared.routine.TheConstants.Routine.{ALL}
use Rattle.c65_link.specs.Bodies.{Labels, Body, with_line, body_of, far_labels, far_size, line_size, plus}
use Rattle.c65_link.specs.Bodies.{with_lines as body_with}
use Rattle.c65_link.specs.Bytes.{Spot, Written, Tables, spot_of, line_bytes, lines_bytes, with_lines, with_functions, with_routines, cells_bytes, datum_bytes, data_bytes}
use Rattle.c65_link.specs.Runtime.{Chosen, is_marked, has_lines, with_calls, routine_lines, with_routine, chosen_by, no_marks}
use Rattle.c65_link.specs.Runtime.{with_routines as chosen_with}
use Rattle.c65_link.specs.Layouts.{Layout, layout_of}
use Rattle.c65_link.specs.Symbols.{targets_of, missing_of, with_code_uses}
use Rattle.c65_link.specs.Linked.{Fault, large, entry_of, parts_of, tables_of, routine_tables, payload_by, payload_of, image_of, named_or_placed}
use Rattle.c65_link_law.specs.Extents.{CodeIsWithinItsExtent, SizesAreLengths, data_size, runtime_most, ImagesAreBounded}
use Rattle.c65_link_law.proofs.Labels.{far_stays}
use Rattle.c65_link_law.proofs.Sizes.{IsSized, line_sized, line_length, plus_most, IsSmall, Next, next}

-- Lines within their extent

routine_least : (r : Routine) → 3 ≤ routine_size r
routine_least routines.LdAxYSp = omega arith
routine_least routines.LdAx0Sp = omega arith
routine_least routines.StAxYSp = omega arith
routine_least (routines.Library f) = omega arith
routine_least (routines.Unary Neg Ax) = omega arith
routine_least (routines.Unary Compl Ax) = omega arith
routine_least (routines.Unary Shl1 Ax) = omega arith
routine_least (routines.Unary Shr1 Ax) = omega arith
routine_least (routines.Unary Asr1 Ax) = omega arith
routine_least _ = omega arith

pub far_most : (line : Line) → far_size line ≤ extent_of_line line
far_most (Label l) = omega arith
far_most (Do op mode operand) = omega arith
far_most (Call (callees.Routine r)) = routine_least r
far_most (Call (callees.Function f reads gives)) = omega arith
far_most (Call (callees.Pointer reads gives)) = omega arith

lines_most : (spot : Spot) (at near : ℕ) (lines : List Line) → length (lines_bytes spot (record { far = at; near = near }) lines) ≤ lines_size lines
lines_most spot at near [] = omega arith
lines_most spot at near (line ∷ lines) =
    let far : ℕ = plus at (far_size line) in
    let end : ℕ = plus near (line_size spot.body.far at line) in
    let rest : length (lines_bytes spot (record { far = far; near = end }) lines) ≤ lines_size lines = lines_most spot far end lines in
    let both : length (line_bytes spot (record { far = at; near = near }) line ++ lines_bytes spot (record { far = far; near = end }) lines) ≡ length (line_bytes spot (record { far = at; near = near }) line) + length (lines_bytes spot (record { far = far; near = end }) lines) = length-append (line_bytes spot (record { far = at; near = near }) line) (lines_bytes spot (record { far = far; near = end }) lines) in
    let here : length (line_bytes spot (record { far = at; near = near }) line) ≡ line_size spot.body.far at line = line_length spot at near line in
    let sized : IsSized (line_size spot.body.far at line) (far_size line) = line_sized spot.body.far at line in
    omega (arith, both, here, sized.most, far_most line, rest)

written_most : (tables : Tables) (written : Written) (lines : List Line) → length (with_lines tables written lines).bytes ≤ length written.bytes + lines_size lines
written_most tables written lines =
    let here : length (lines_bytes (spot_of tables written (body_of lines)) (record { far = 0; near = 0 }) lines) ≤ lines_size lines = lines_most (spot_of tables written (body_of lines)) 0 0 lines in
    let both : length (written.bytes ++ lines_bytes (spot_of tables written (body_of lines)) (record { far = 0; near = 0 }) lines) ≡ length written.bytes + length (lines_bytes (spot_of tables written (body_of lines)) (record { far = 0; near = 0 }) lines) = length-append written.bytes (lines_bytes (spot_of tables written (body_of lines)) (record { far = 0; near = 0 }) lines) in
    omega (arith, both, here)

pub code_is_within_its_extent : CodeIsWithinItsExtent
code_is_within_its_extent tables written [] = omega arith
code_is_within_its_extent tables written (f ∷ functions) =
    let here : length (with_lines tables written f.1.lines).bytes ≤ length written.bytes + lines_size f.1.lines = written_most tables written f.1.lines in
    let rest : length (with_functions tables (with_lines tables written f.1.lines) functions).bytes ≤ length (with_lines tables written f.1.lines).bytes + functions_size functions = code_is_within_its_extent tables (with_lines tables written f.1.lines) functions in
    omega (arith, here, rest)

-- Routines

abbrev pub routines_size : List Routine → ℕ
routines_size [] = 0
routines_size (r ∷ rs) = lines_size (routine_lines r) + routines_size rs

sizes_append : (xs ys : List Routine) → routines_size (xs ++ ys) ≡ routines_size xs + routines_size ys
sizes_append [] ys = omega arith
sizes_append (x ∷ xs) ys = omega (arith, sizes_append xs ys)

routines_most : (tables : Tables) (written : Written) (rs : List Routine) → length (with_routines tables written rs).bytes ≤ length written.bytes + routines_size rs
routines_most tables written [] = omega arith
routines_most tables written (r ∷ rs) =
    let here : length (with_lines tables written (routine_lines r)).bytes ≤ length written.bytes + lines_size (routine_lines r) = written_most tables written (routine_lines r) in
    let rest : length (with_routines tables (with_lines tables written (routine_lines r)) rs).bytes ≤ length (with_lines tables written (routine_lines r)).bytes + routines_size rs = routines_most tables (with_lines tables written (routine_lines r)) rs in
    omega (arith, here, rest)

-- a routine is taken once at most
taken_by : (b : Bool) (chosen : Chosen) (r : Routine) → routines_size (if b then record { marks = with_calls chosen.marks (routine_lines r); parts = chosen.parts ++ r ∷ [] } else chosen).parts ≤ routines_size chosen.parts + lines_size (routine_lines r)
taken_by true chosen r = omega (arith, sizes_append chosen.parts (r ∷ []))
taken_by false chosen r = omega arith

chosen_most : (chosen : Chosen) (rs : List Routine) → routines_size (chosen_with chosen rs).parts ≤ routines_size chosen.parts + routines_size rs
unfolding chosen_with
chosen_most chosen [] = omega arith
chosen_most chosen (r ∷ rs) =
    let here : routines_size (with_routine chosen r).parts ≤ routines_size chosen.parts + lines_size (routine_lines r) = taken_by (is_marked chosen.marks r && has_lines r) chosen r in
    let rest : routines_size (chosen_with (with_routine chosen r) rs).parts ≤ routines_size (with_routine chosen r).parts + routines_size rs = chosen_most (with_routine chosen r) rs in
    omega (arith, here, rest)

abbrev pub entries : List Routine
entries = routines.Start ∷ routines.StartArgs ∷ []

pub chosen_by_most : (chosen : Chosen) → routines_size (chosen_by chosen).parts ≤ routines_size chosen.parts + routines_size ALL
chosen_by_most chosen = chosen_most chosen ALL

-- by computation
pub all_are_few : nat_lt (routines_size entries + routines_size ALL) 8193 ≡ true
all_are_few = refl

pub entry_by : (b : Bool) → lines_size (routine_lines (if b then routines.StartArgs else routines.Start)) ≤ routines_size entries
entry_by true = omega arith
entry_by false = omega arith

-- Data

cells_length : (symbols : List ℕ) (cells : List DataCell) → length (cells_bytes symbols cells) ≡ cells_size cells
cells_length symbols [] = refl
cells_length symbols (Byte v ∷ cells) = omega (arith, cells_length symbols cells)
cells_length symbols (Address s offset ∷ cells) = omega (arith, cells_length symbols cells)

datum_most : (kind : DatumKind) (symbols : List ℕ) (cells : List DataCell) → length (datum_bytes symbols kind cells) ≤ cells_size cells
datum_most Data symbols cells = omega (arith, cells_length symbols cells)
datum_most Const symbols cells = omega (arith, cells_length symbols cells)
datum_most Zero symbols cells = omega arith

data_most : (symbols : List ℕ) (datums : List Datum) → length (data_bytes symbols datums) ≤ data_size datums
data_most symbols [] = omega arith
data_most symbols (datum ∷ datums) =
    let both : length (datum_bytes symbols datum.kind datum.cells ++ data_bytes symbols datums) ≡ length (datum_bytes symbols datum.kind datum.cells) + length (data_bytes symbols datums) = length-append (datum_bytes symbols datum.kind datum.cells) (data_bytes symbols datums) in
    omega (arith, both, datum_most datum.kind symbols datum.cells, data_most symbols datums)

-- The whole file

payload_most : (code : Code) (tables own : Tables) (entry : Routine) (parts : List Routine) → length (payload_by code tables own entry parts) ≤ lines_size (routine_lines entry) + extent_of code + routines_size parts + data_size code.datums
payload_most code tables own entry parts =
    let none : Written = record { bytes = []; at = program_start } in
    let begun : Written = with_lines own none (routine_lines entry) in
    let coded : Written = with_functions tables begun code.functions in
    let all : Written = with_routines own coded parts in
    let a : length begun.bytes ≤ length none.bytes + lines_size (routine_lines entry) = written_most own none (routine_lines entry) in
    let b : length coded.bytes ≤ length begun.bytes + functions_size code.functions = code_is_within_its_extent tables begun code.functions in
    let c : length all.bytes ≤ length coded.bytes + routines_size parts = routines_most own coded parts in
    let d : length (all.bytes ++ data_bytes tables.symbols code.datums) ≡ length all.bytes + length (data_bytes tables.symbols code.datums) = length-append all.bytes (data_bytes tables.symbols code.datums) in
    omega (arith, a, b, c, d, data_most tables.symbols code.datums)

abbrev file_in : Result Image Fault → List ℕ
file_in (Ok image) = image.payload
file_in (Err e) = []

fitted_most : (b : Bool) (value most : ℕ) (payload : List ℕ) → length payload ≤ most → length (file_in (if b then Err (large value) else Ok (image_of payload))) ≤ most
fitted_most true value most payload h = omega arith
fitted_most false value most payload h = h

placed_most : (code : Code) (name : Option (List ℕ)) → length (file_in (named_or_placed code (targets_of code) name)) ≤ extent_of code + data_size code.datums + runtime_most
placed_most code (Some name) = omega arith
placed_most code None =
    let targets : List Target = targets_of code in
    let parts : List Routine = parts_of code targets in
    let layout : Layout = layout_of code targets (entry_of code) parts in
    let file : length (payload_of code layout (entry_of code) parts) ≤ lines_size (routine_lines (entry_of code)) + extent_of code + routines_size parts + data_size code.datums = payload_most code (tables_of layout) (routine_tables code layout) (entry_of code) parts in
    let few : routines_size parts ≤ 0 + routines_size ALL = chosen_by_most (record { marks = with_code_uses code targets (with_calls no_marks (routine_lines (entry_of code))); parts = [] }) in
    let entry : lines_size (routine_lines (entry_of code)) ≤ routines_size entries = entry_by code.main_args in
    let small : routines_size entries + routines_size ALL < 8193 = ltb-true (routines_size entries + routines_size ALL) 8193 all_are_few in
    fitted_most (nat_lt (limit_of limits.Image) (layout.at - program_start)) (layout.at - program_start) (extent_of code + data_size code.datums + runtime_most) (payload_of code layout (entry_of code) parts) (omega (arith, file, few, entry, small))

pub images_are_bounded : ImagesAreBounded
images_are_bounded code image h =
    subst (λ r. length (file_in r) ≤ extent_of code + data_size code.datums + runtime_most) h (placed_most code (missing_of code (targets_of code)))

-- Lengths are sizes

abbrev over : Labels → Labels → ℕ → ℕ → List ℕ → List ℕ → Spot
over far near size base symbols routines = record { body = record { far = far; near = near; size = size }; base = base; symbols = symbols; routines = routines }

lengths : (lines : List Line) (body : Body) (at : ℕ) (near : Labels) (size base : ℕ) (symbols routines : List ℕ) → body.size ≤ 2 ^ 64 - 1 → IsSmall body at lines → length (lines_bytes (over body.far near size base symbols routines) (record { far = at; near = body.size }) lines) + body.size ≡ (body_with body at lines).size
lengths [] body at near size base symbols routines h small = omega arith
lengths (line ∷ lines) body at near size base symbols routines h small =
    let spot : Spot = over body.far near size base symbols routines in
    let s : Next body at line lines = next body at line lines h small in
    let rest : length (lines_bytes spot (record { far = plus at (far_size line); near = plus body.size (line_size body.far at line) }) lines) + plus body.size (line_size body.far at line) ≡ (body_with (with_line body at line) (plus at (far_size line)) lines).size = lengths lines (with_line body at line) (plus at (far_size line)) near size base symbols routines (plus_most body.size (line_size body.far at line)) s.small in
    let both : length (line_bytes spot (record { far = at; near = body.size }) line ++ lines_bytes spot (record { far = plus at (far_size line); near = plus body.size (line_size body.far at line) }) lines) ≡ length (line_bytes spot (record { far = at; near = body.size }) line) + length (lines_bytes spot (record { far = plus at (far_size line); near = plus body.size (line_size body.far at line) }) lines) = length-append (line_bytes spot (record { far = at; near = body.size }) line) (lines_bytes spot (record { far = plus at (far_size line); near = plus body.size (line_size body.far at line) }) lines) in
    let here : length (line_bytes spot (record { far = at; near = body.size }) line) ≡ line_size body.far at line = line_length spot at body.size line in
    omega (arith, s.near_is, rest, both, here)

pub sizes_are_lengths : SizesAreLengths
sizes_are_lengths lines base symbols routines h =
    let first : Body = record { far = far_labels [] 0 lines; near = []; size = 0 } in
    let all : length (lines_bytes (over (far_labels [] 0 lines) (body_of lines).near (body_of lines).size base symbols routines) (record { far = 0; near = 0 }) lines) + 0 ≡ (body_of lines).size = lengths lines (record { far = far_labels [] 0 lines; near = []; size = 0 }) 0 (body_of lines).near (body_of lines).size base symbols routines (omega arith) (record { size = h; far = omega arith }) in
    let same : (body_of lines).far ≡ far_labels [] 0 lines = far_stays lines (record { far = far_labels [] 0 lines; near = []; size = 0 }) 0 in
    subst (λ (f : Labels). length (lines_bytes (over f (body_of lines).near (body_of lines).size base symbols routines) (record { far = 0; near = 0 }) lines) ≡ (body_of lines).size) (sym same) (omega (arith, all))
