-- The bytes of a whole file.
use Rattle.std.proofs.Common.{◌≡◌, ℕ, zero, suc, ◌+◌, ◌%◌, ◌<◌, List, [], ◌∷◌, Some, Result, Ok, slice_get, refl, sym, ◌∙◌, subst, arith}
use Rattle.std.proofs.lemmas.List.Elements.{All-nil}
use Rattle.c65_mach.specs.declared.image.Image.{Image}
use Rattle.c65_mach.specs.declared.rows.Op.{Op}
use Rattle.c65_mach.specs.declared.rows.Op.TheVariants as ops
use Rattle.c65_mach.specs.declared.rows.Mode.{Mode}
use Rattle.c65_mach.specs.declared.rows.Mode.TheVariants.{Absolute, Relative}
use Rattle.c65_code.specs.declared.routine.Routine.{Routine}
use Rattle.c65_code.specs.declared.routine.Routine.TheVariants as routines
use Rattle.c65_code.specs.declared.line.Sym.{Sym}
use Rattle.c65_code.specs.declared.line.Operand.{Operand}
use Rattle.c65_code.specs.declared.line.Callee.{Callee}
use Rattle.c65_code.specs.declared.line.Callee.TheVariants as callees
use Rattle.c65_code.specs.declared.line.Line.{Line}
use Rattle.c65_code.specs.declared.line.Line.TheVariants.{Label, Do, Call}
use Rattle.c65_code.specs.declared.code.Datum.{Datum}
use Rattle.c65_code.specs.declared.code.DatumKind.{DatumKind}
use Rattle.c65_code.specs.declared.code.DatumKind.TheVariants.{Data, Const, Zero}
use Rattle.c65_code.specs.declared.code.DataCell.{DataCell}
use Rattle.c65_code.specs.declared.code.DataCell.TheVariants.{Byte, Address}
use Rattle.c65_code.specs.Numbering.{number_of}
use Rattle.c65_code.specs.Placement.{program_start}
use Rattle.c65_code.specs.Segments.{Segment}
use Rattle.c65_link.specs.Bodies.{plus, body_of, offset_of, reaches, target_of, far_size, line_size}
use Rattle.c65_link.specs.Bytes.{Spot, Written, Tables, spot_of, located, label_address, word_of, callee_address, do_bytes, line_bytes, lines_bytes, with_lines, with_functions, with_routines, cell_bytes, cells_bytes, datum_bytes, data_bytes}
use Rattle.c65_link.specs.Runtime.{routine_lines}
use Rattle.c65_link.specs.Symbols.{main_in, targets_of, missing_of}
use Rattle.c65_link.specs.Linked.{Fault, entry_of, main_address, or_zero, tables_of, routine_tables}
use Rattle.c65_link_law.specs.Placed.{layout_in, routines_in}
use Rattle.c65_link_law.proofs.Placed.{Given, given, file_of}
use Rattle.c65_link_law_spots.proofs.Targets.{IsMade, made}
use Rattle.c65_link_law_follow.specs.Laid.{IsLineNumber}
use Rattle.c65_link_law_laid.proofs.Tables.{numbers_there}
use Rattle.c65_link_law_bytes.specs.Laws.{FilesAreBytes}
use Rattle.c65_link_law_bytes.proofs.Instructions.{AreBytes, one_byte, both, words_bytes, instruction_bytes, branches_bytes, operand_word}
use Rattle.c65_link_law_bytes.proofs.Tables.{AreWords, HasWords, layout_words}

no_bytes : AreBytes []
no_bytes = All-nil (λ v. v < 256)

-- Lines

dos_bytes : (mode : Mode) (spot : Spot) (far near : ℕ) (op : Op) (operand : Operand) → IsLineNumber (Do op mode operand) → AreBytes (do_bytes spot (record { far = far; near = near }) op mode operand)
dos_bytes Relative spot far near op operand h =
    branches_bytes (reaches far (offset_of spot.body.far (target_of operand))) op ((spot.base + near) % 65536) (label_address spot (target_of operand)) (omega arith)
dos_bytes mode spot far near op operand h = instruction_bytes op mode (word_of spot operand) (operand_word operand spot h)

callee_word : (callee : Callee) (spot : Spot) → AreWords spot.symbols → AreWords spot.routines → callee_address spot callee < 65536
callee_word (callees.Routine r) spot h k = k (number_of r)
callee_word (callees.Function f reads gives) spot h k = h f.0
callee_word (callees.Pointer reads gives) spot h k = k (number_of routines.CallPtr4)

one_line : (line : Line) (spot : Spot) (far near : ℕ) → AreWords spot.symbols → AreWords spot.routines → IsLineNumber line → AreBytes (line_bytes spot (record { far = far; near = near }) line)
one_line (Label l) spot far near h k n = no_bytes
one_line (Do op mode operand) spot far near h k n = dos_bytes mode spot far near op operand n
one_line (Call callee) spot far near h k n = instruction_bytes ops.Jsr Absolute (callee_address spot callee) (callee_word callee spot h k)

abbrev AreNumbers : List Line → Type 0
AreNumbers lines = (j : ℕ) (line : Line) → slice_get lines j ≡ Some line → IsLineNumber line

all_lines : (lines : List Line) (spot : Spot) (far near : ℕ) → AreWords spot.symbols → AreWords spot.routines → AreNumbers lines → AreBytes (lines_bytes spot (record { far = far; near = near }) lines)
all_lines [] spot far near h k n = no_bytes
all_lines (line ∷ lines) spot far near h k n =
    let next : ℕ = plus far (far_size line) in let then_near : ℕ = plus near (line_size spot.body.far far line) in
    both (line_bytes spot (record { far = far; near = near }) line) (lines_bytes spot (record { far = next; near = then_near }) lines) (one_line line spot far near h k (n 0 line refl)) (all_lines lines spot next then_near h k (λ j. n (suc j)))

-- Units

unit_bytes : (tables : Tables) (w : Written) (lines : List Line) → AreWords tables.symbols → AreWords tables.routines → AreNumbers lines → AreBytes w.bytes → AreBytes (with_lines tables w lines).bytes
unit_bytes tables w lines h k n before =
    both w.bytes (lines_bytes (spot_of tables w (body_of lines)) (record { far = 0; near = 0 }) lines) before (all_lines lines (spot_of tables w (body_of lines)) 0 0 h k n)

functions_bytes : (fs : List (Sym × Segment)) (tables : Tables) (w : Written) → AreWords tables.symbols → AreWords tables.routines → ((k : ℕ) (f : Sym × Segment) → slice_get fs k ≡ Some f → AreNumbers f.1.lines) → AreBytes w.bytes → AreBytes (with_functions tables w fs).bytes
functions_bytes [] tables w h k n before = before
functions_bytes (f ∷ fs) tables w h k n before = functions_bytes fs tables (with_lines tables w f.1.lines) h k (λ j. n (suc j)) (unit_bytes tables w f.1.lines h k (n 0 f refl) before)

routines_bytes : (rs : List Routine) (tables : Tables) (w : Written) → AreWords tables.symbols → AreWords tables.routines → AreBytes w.bytes → AreBytes (with_routines tables w rs).bytes
routines_bytes [] tables w h k before = before
routines_bytes (r ∷ rs) tables w h k before = routines_bytes rs tables (with_lines tables w (routine_lines r)) h k (unit_bytes tables w (routine_lines r) h k (λ j line here. numbers_there r j line here) before)

-- Data

abbrev AreCells : List DataCell → Type 0
AreCells cells = (j v : ℕ) → slice_get cells j ≡ Some (Byte v) → v < 256

one_cell : (cell : DataCell) (symbols : List ℕ) → ((v : ℕ) → cell ≡ Byte v → v < 256) → AreBytes (cell_bytes symbols cell)
one_cell (Byte v) symbols h = one_byte v (h v refl)
one_cell (Address sym offset) symbols h = words_bytes (located symbols sym offset) (omega arith)

some_cell : (cell : DataCell) (v : ℕ) → cell ≡ Byte v → Some cell ≡ Some (Byte v)
some_cell cell v h = cc

all_cells : (cells : List DataCell) (symbols : List ℕ) → AreCells cells → AreBytes (cells_bytes symbols cells)
all_cells [] symbols h = no_bytes
all_cells (cell ∷ cells) symbols h = both (cell_bytes symbols cell) (cells_bytes symbols cells) (one_cell cell symbols (λ v e. h 0 v (some_cell cell v e))) (all_cells cells symbols (λ j. h (suc j)))

one_datum : (kind : DatumKind) (symbols : List ℕ) (cells : List DataCell) → AreCells cells → AreBytes (datum_bytes symbols kind cells)
one_datum Zero symbols cells h = no_bytes
one_datum Data symbols cells h = all_cells cells symbols h
one_datum Const symbols cells h = all_cells cells symbols h

all_data : (datums : List Datum) (symbols : List ℕ) → ((k : ℕ) (datum : Datum) → slice_get datums k ≡ Some datum → AreCells datum.cells) → AreBytes (data_bytes symbols datums)
all_data [] symbols h = no_bytes
all_data (datum ∷ datums) symbols h =
    both (datum_bytes symbols datum.kind datum.cells) (data_bytes symbols datums) (one_datum datum.kind symbols datum.cells (h 0 datum refl)) (all_data datums symbols (λ k. h (suc k)))

-- The symbols of the runtime: symbol 0 is main
one_word : (v : ℕ) → v < 65536 → AreWords (v ∷ [])
one_word v h zero = h
one_word v h (suc k) = omega arith

pub files_are_bytes : FilesAreBytes
files_are_bytes cpu code image numbers cells linked_is =
    let words : HasWords (layout_in code) = layout_words code in
    let tables : Tables = tables_of (layout_in code) in
    let own : Tables = routine_tables code (layout_in code) in
    let begun : Written = with_lines own (record { bytes = []; at = program_start }) (routine_lines (entry_of code)) in
    let main : AreWords own.symbols = one_word (main_address code (layout_in code)) (words.symbols (or_zero (main_in code.symbols 0))) in
    let first : AreBytes begun.bytes = unit_bytes own (record { bytes = []; at = program_start }) (routine_lines (entry_of code)) main words.routines (λ j line here. numbers_there (entry_of code) j line here) no_bytes in
    let functions : AreBytes (with_functions tables begun code.functions).bytes = functions_bytes code.functions tables begun words.symbols words.routines (λ k f here j line there. numbers k j f line here there) first in
    let all : AreBytes (with_routines own (with_functions tables begun code.functions) (routines_in code)).bytes = routines_bytes (routines_in code) own (with_functions tables begun code.functions) main words.routines functions in
    let file : AreBytes (file_of code) = both (with_routines own (with_functions tables begun code.functions) (routines_in code)).bytes (data_bytes tables.symbols code.datums) all (all_data code.datums tables.symbols (λ k datum here j v there. cells k j v datum here there)) in
    let it : IsMade code image = made code cpu image linked_is in
    let is : Given (Ok it.plain) (file_of code) (layout_in code).at = subst (λ (r : Result Image Fault). Given r (file_of code) (layout_in code).at) it.is (given code (missing_of code (targets_of code))) in
    subst AreBytes (sym (it.payload ∙ is.0)) file
