-- What stands for each symbol, the first used symbol without a body, and the routines that a code uses.
use Rattle.std.specs.Prelude.{ℕ, ◌+◌, Bool, true, false, if◌then◌else◌, List, [], ◌∷◌, Option, Some, None, slice_get, slice_set, codes, bytes_eq}
use Rattle.c65_base.specs.declared.library.Library.{Library}
use Rattle.c65_code.specs.declared.routine.Routine.{Routine}
use Rattle.c65_code.specs.declared.routine.Routine.TheVariants as routines
use Rattle.c65_code.specs.declared.line.Sym.{Sym}
use Rattle.c65_code.specs.declared.line.Operand.{Operand}
use Rattle.c65_code.specs.declared.line.Operand.TheVariants as operands
use Rattle.c65_code.specs.declared.line.Callee.{Callee}
use Rattle.c65_code.specs.declared.line.Callee.TheVariants as callees
use Rattle.c65_code.specs.declared.line.Line.{Line}
use Rattle.c65_code.specs.declared.line.Line.TheVariants.{Label, Do, Call}
use Rattle.c65_code.specs.declared.code.Code.{Code}
use Rattle.c65_code.specs.declared.code.Symbol.{Symbol}
use Rattle.c65_code.specs.declared.code.Datum.{Datum}
use Rattle.c65_code.specs.declared.code.DataCell.{DataCell}
use Rattle.c65_code.specs.declared.code.DataCell.TheVariants.{Byte, Address}
use Rattle.c65_code.specs.Segments.{Segment}
use Rattle.c65_base.specs.Library.{library_functions}
use Rattle.c65_code.specs.Placement.{library_named}
use Rattle.c65_link.specs.declared.symbols.Target.{Target}
use Rattle.c65_link.specs.declared.symbols.Target.TheVariants.{Nowhere, Own, Runtime}
use Rattle.c65_link.specs.Runtime.{Marks, marked, with_call}

abbrev pub target_by : Option Library → Target
target_by None = Nowhere
target_by (Some f) = Runtime f

-- what a symbol stands for where it has no body: the library's function of its name
abbrev pub named_target : Symbol → Target
named_target symbol = target_by (library_named library_functions symbol.spelling)

abbrev pub named_targets : List Symbol → List Target
named_targets [] = []
named_targets (symbol ∷ symbols) = named_target symbol ∷ named_targets symbols

abbrev pub with_functions : List Target → List (Sym × Segment) → List Target
with_functions targets [] = targets
with_functions targets (f ∷ functions) = with_functions (slice_set targets f.0.0 Own) functions

abbrev pub with_datums : List Target → List Datum → List Target
with_datums targets [] = targets
with_datums targets (datum ∷ datums) = with_datums (slice_set targets datum.sym.0 Own) datums

abbrev pub targets_of : Code → List Target
targets_of code = with_datums (with_functions (named_targets code.symbols) code.functions) code.datums

-- the symbols that are used, each where it stands

abbrev pub operand_symbol : Operand → Option Sym
operand_symbol (operands.Low sym offset) = Some sym
operand_symbol (operands.High sym offset) = Some sym
operand_symbol (operands.At sym offset) = Some sym
operand_symbol _ = None

abbrev pub callee_symbol : Callee → Option Sym
callee_symbol (callees.Function f reads gives) = Some f
callee_symbol _ = None

abbrev pub line_symbol : Line → Option Sym
line_symbol (Label l) = None
line_symbol (Do op mode operand) = operand_symbol operand
line_symbol (Call callee) = callee_symbol callee

abbrev pub cell_symbol : DataCell → Option Sym
cell_symbol (Byte v) = None
cell_symbol (Address sym offset) = Some sym

abbrev pub is_nowhere : Option Target → Bool
is_nowhere (Some Own) = false
is_nowhere (Some (Runtime f)) = false
is_nowhere _ = true

abbrev pub missing : List Target → Option Sym → Option Sym
missing targets None = None
missing targets (Some sym) = if is_nowhere (slice_get targets sym.0) then Some sym else None

abbrev pub or_else : Option Sym → Option Sym → Option Sym
or_else None other = other
or_else (Some sym) other = Some sym

abbrev pub missing_in_lines : List Target → List Line → Option Sym
missing_in_lines targets [] = None
missing_in_lines targets (line ∷ lines) = or_else (missing targets (line_symbol line)) (missing_in_lines targets lines)

abbrev pub missing_in_functions : List Target → List (Sym × Segment) → Option Sym
missing_in_functions targets [] = None
missing_in_functions targets (f ∷ functions) = or_else (missing_in_lines targets f.1.lines) (missing_in_functions targets functions)

abbrev pub missing_in_cells : List Target → List DataCell → Option Sym
missing_in_cells targets [] = None
missing_in_cells targets (cell ∷ cells) = or_else (missing targets (cell_symbol cell)) (missing_in_cells targets cells)

abbrev pub missing_in_datums : List Target → List Datum → Option Sym
missing_in_datums targets [] = None
missing_in_datums targets (datum ∷ datums) = or_else (missing_in_cells targets datum.cells) (missing_in_datums targets datums)

-- the number of main's symbol
abbrev pub main_in : List Symbol → ℕ → Option ℕ
main_in [] at = None
main_in (symbol ∷ symbols) at = if bytes_eq symbol.spelling (codes "_main") then Some at else main_in symbols (at + 1)

abbrev pub is_main_missing : List Target → Option ℕ → Bool
is_main_missing targets None = true
is_main_missing targets (Some main) = is_nowhere (slice_get targets main)

abbrev pub missing_in_code : Code → List Target → Option Sym
missing_in_code code targets = or_else (missing_in_functions targets code.functions) (missing_in_datums targets code.datums)

abbrev pub spelling_of : Option Symbol → List ℕ
spelling_of None = []
spelling_of (Some symbol) = symbol.spelling

abbrev pub name_of : List Symbol → Option Sym → Option (List ℕ)
name_of symbols None = None
name_of symbols (Some sym) = Some (spelling_of (slice_get symbols sym.0))

-- the name of the first used symbol without a body, where main is the first that is used
abbrev pub missing_of : Code → List Target → Option (List ℕ)
missing_of code targets = if is_main_missing targets (main_in code.symbols 0) then Some (codes "_main") else name_of code.symbols (missing_in_code code targets)

-- the routines that a code uses directly, those that stand for symbols included

abbrev pub with_target : Marks → Option Target → Marks
with_target marks (Some (Runtime f)) = marked marks (routines.Library f)
with_target marks _ = marks

abbrev pub with_symbol : List Target → Marks → Option Sym → Marks
with_symbol targets marks None = marks
with_symbol targets marks (Some sym) = with_target marks (slice_get targets sym.0)

abbrev pub with_line_uses : List Target → Marks → List Line → Marks
with_line_uses targets marks [] = marks
with_line_uses targets marks (line ∷ lines) = with_line_uses targets (with_call (with_symbol targets marks (line_symbol line)) line) lines

abbrev pub with_function_uses : List Target → Marks → List (Sym × Segment) → Marks
with_function_uses targets marks [] = marks
with_function_uses targets marks (f ∷ functions) = with_function_uses targets (with_line_uses targets marks f.1.lines) functions

abbrev pub with_cell_uses : List Target → Marks → List DataCell → Marks
with_cell_uses targets marks [] = marks
with_cell_uses targets marks (cell ∷ cells) = with_cell_uses targets (with_symbol targets marks (cell_symbol cell)) cells

abbrev pub with_datum_uses : List Target → Marks → List Datum → Marks
with_datum_uses targets marks [] = marks
with_datum_uses targets marks (datum ∷ datums) = with_datum_uses targets (with_cell_uses targets marks datum.cells) datums

abbrev pub with_code_uses : Code → List Target → Marks → Marks
with_code_uses code targets marks = with_datum_uses targets (with_function_uses targets marks code.functions) code.datums
