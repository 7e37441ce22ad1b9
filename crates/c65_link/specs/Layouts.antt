-- Where the parts of an image stand: one behind another from $0200 on (docs/MACHINE.md, "Images").
use Rattle.std.specs.Prelude.{ℕ, ◌+◌, ◌%◌, List, [], ◌∷◌, ◌++◌, Option, Some, None, length, replicate, slice_index, slice_set}
use Rattle.c65_code.specs.declared.routine.Routine.{Routine}
use Rattle.c65_code.specs.declared.routine.Routine.TheVariants as routines
use Rattle.c65_code.specs.declared.line.Sym.{Sym}
use Rattle.c65_code.specs.declared.line.Line.{Line}
use Rattle.c65_code.specs.declared.code.Code.{Code}
use Rattle.c65_code.specs.declared.code.Datum.{Datum}
use Rattle.c65_code.specs.declared.code.DatumKind.{DatumKind}
use Rattle.c65_code.specs.declared.code.DatumKind.TheVariants.{Data, Const, Zero}
use Rattle.c65_code.specs.declared.code.DataCell.{DataCell}
use Rattle.c65_code.specs.Segments.{Segment}
use Rattle.c65_code.specs.Placement.{program_start, cell_size}
use Rattle.c65_link.specs.declared.symbols.Target.{Target}
use Rattle.c65_link.specs.declared.symbols.Target.TheVariants.{Nowhere, Own, Runtime}
use Rattle.c65_link.specs.Bodies.{plus, Body, body_of}
use Rattle.c65_code.specs.Numbering.{number_of}
use Rattle.c65_link.specs.Runtime.{routine_lines}

-- the next free address, and the addresses of symbols and of routines, each by its number
pub record Layout : Type 0 where
  pub at : ℕ
  pub symbols : List ℕ
  pub routines : List ℕ

-- the hooks of the simulator, in the last six places (docs/MACHINE.md, "Runs")
abbrev pub hook_addresses : List ℕ
hook_addresses = 0xFFF4 ∷ 0xFFF5 ∷ 0xFFF6 ∷ 0xFFF7 ∷ 0xFFF8 ∷ 0xFFF9 ∷ []

abbrev pub empty_layout : ℕ → Layout
empty_layout count = record { at = program_start; symbols = replicate count 0; routines = replicate 117 0 ++ hook_addresses }

abbrev pub with_size : Layout → ℕ → Layout
with_size layout size = record layout { at = plus layout.at size }

abbrev pub with_symbol_at : Layout → ℕ → ℕ → Layout
with_symbol_at layout symbol address = record layout { symbols = slice_set layout.symbols symbol address }

-- lines stand there
abbrev pub with_lines : Layout → List Line → Layout
with_lines layout lines = with_size layout (body_of lines).size

abbrev pub with_function : Layout → Sym × Segment → Layout
with_function layout f = with_lines (with_symbol_at layout f.0.0 (layout.at % 65536)) f.1.lines

abbrev pub with_functions : Layout → List (Sym × Segment) → Layout
with_functions layout [] = layout
with_functions layout (f ∷ functions) = with_functions (with_function layout f) functions

abbrev pub with_routine : Layout → Routine → Layout
with_routine layout r = with_lines (record layout { routines = slice_set layout.routines (number_of r) (layout.at % 65536) }) (routine_lines r)

abbrev pub with_routines : Layout → List Routine → Layout
with_routines layout [] = layout
with_routines layout (r ∷ rs) = with_routines (with_routine layout r) rs

-- the symbol of a library function without a body has the routine's address
abbrev pub with_target : Layout → ℕ → Target → Layout
with_target layout i (Runtime f) = with_symbol_at layout i (slice_index layout.routines (number_of (routines.Library f)))
with_target layout i _ = layout

abbrev pub with_targets : Layout → ℕ → List Target → Layout
with_targets layout i [] = layout
with_targets layout i (target ∷ targets) = with_targets (with_target layout i target) (i + 1) targets

abbrev pub cells_end : ℕ → List DataCell → ℕ
cells_end size [] = size
cells_end size (cell ∷ cells) = cells_end (plus size (cell_size cell)) cells

abbrev pub with_datum : Layout → Datum → ℕ → Layout
with_datum layout datum size = with_size (with_symbol_at layout datum.sym.0 (layout.at % 65536)) size

-- data stand in the file, zero data behind it
abbrev pub with_data : DatumKind → Layout → Datum → Layout
with_data Zero layout datum = layout
with_data _ layout datum = with_datum layout datum (cells_end 0 datum.cells)

abbrev pub with_zeros : DatumKind → Layout → Datum → Layout
with_zeros Zero layout datum = with_datum layout datum datum.zeros
with_zeros _ layout datum = layout

abbrev pub with_all_data : Layout → List Datum → Layout
with_all_data layout [] = layout
with_all_data layout (datum ∷ datums) = with_all_data (with_data datum.kind layout datum) datums

abbrev pub with_all_zeros : Layout → List Datum → Layout
with_all_zeros layout [] = layout
with_all_zeros layout (datum ∷ datums) = with_all_zeros (with_zeros datum.kind layout datum) datums

-- the entry, then functions, then routines
abbrev pub code_layout : Code → Routine → List Routine → Layout
code_layout code entry parts = with_routines (with_functions (with_lines (empty_layout (length code.symbols)) (routine_lines entry)) code.functions) parts

abbrev pub layout_of : Code → List Target → Routine → List Routine → Layout
layout_of code targets entry parts = with_all_zeros (with_all_data (with_targets (code_layout code entry parts) 0 targets) code.datums) code.datums
