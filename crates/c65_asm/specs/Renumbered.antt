-- A code with its symbols numbered in the order in which its text first names them.
use Rattle.std.specs.Prelude.{◌≡◌, ℕ, ◌^◌, ◌<◌, List, [], ◌∷◌, map, Some, slice_get}
use Rattle.c65_base.specs.Names.{with_spelling}
use Rattle.c65_code.specs.declared.line.Sym.{Sym}
use Rattle.c65_code.specs.declared.line.Operand.{Operand}
use Rattle.c65_code.specs.declared.line.Operand.TheVariants as operands
use Rattle.c65_code.specs.declared.line.Callee.{Callee}
use Rattle.c65_code.specs.declared.line.Callee.TheVariants as callees
use Rattle.c65_code.specs.declared.line.Line.{Line}
use Rattle.c65_code.specs.declared.line.Line.TheVariants as lines
use Rattle.c65_code.specs.declared.code.Code.{Code}
use Rattle.c65_code.specs.declared.code.Symbol.{Symbol}
use Rattle.c65_code.specs.declared.code.Datum.{Datum}
use Rattle.c65_code.specs.declared.code.DataCell.{DataCell}
use Rattle.c65_code.specs.declared.code.DataCell.TheVariants.{Byte, Address}
use Rattle.c65_code.specs.Segments.{Segment, IsSegment}
use Rattle.c65_asm.specs.Text.{sym_text}
use Rattle.c65_asm.specs.Symbols.{symbol_in, symbols_of}

-- the spellings that a text has named, once a part of a code is written behind it

abbrev pub naming : List Symbol → Sym → List (List ℕ) → List (List ℕ)
naming symbols sym names = with_spelling names (sym_text symbols sym)

abbrev pub naming_operand : List Symbol → Operand → List (List ℕ) → List (List ℕ)
naming_operand symbols (operands.Low sym offset) names = naming symbols sym names
naming_operand symbols (operands.High sym offset) names = naming symbols sym names
naming_operand symbols (operands.At sym offset) names = naming symbols sym names
naming_operand symbols _ names = names

abbrev pub naming_callee : List Symbol → Callee → List (List ℕ) → List (List ℕ)
naming_callee symbols (callees.Function f reads gives) names = naming symbols f names
naming_callee symbols _ names = names

abbrev pub naming_line : List Symbol → Line → List (List ℕ) → List (List ℕ)
naming_line symbols (lines.Label l) names = names
naming_line symbols (lines.Do op mode operand) names = naming_operand symbols operand names
naming_line symbols (lines.Call callee) names = naming_callee symbols callee names

abbrev pub naming_lines : List Symbol → List Line → List (List ℕ) → List (List ℕ)
naming_lines symbols [] names = names
naming_lines symbols (line ∷ lines) names = naming_lines symbols lines (naming_line symbols line names)

abbrev pub naming_function : List Symbol → Sym × Segment → List (List ℕ) → List (List ℕ)
naming_function symbols f names = naming_lines symbols f.1.lines (naming symbols f.0 names)

abbrev pub naming_functions : List Symbol → List (Sym × Segment) → List (List ℕ) → List (List ℕ)
naming_functions symbols [] names = names
naming_functions symbols (f ∷ fs) names = naming_functions symbols fs (naming_function symbols f names)

abbrev pub naming_cell : List Symbol → DataCell → List (List ℕ) → List (List ℕ)
naming_cell symbols (Byte v) names = names
naming_cell symbols (Address sym offset) names = naming symbols sym names

abbrev pub naming_cells : List Symbol → List DataCell → List (List ℕ) → List (List ℕ)
naming_cells symbols [] names = names
naming_cells symbols (cell ∷ cells) names = naming_cells symbols cells (naming_cell symbols cell names)

abbrev pub naming_datum : List Symbol → Datum → List (List ℕ) → List (List ℕ)
naming_datum symbols datum names = naming_cells symbols datum.cells (naming symbols datum.sym names)

abbrev pub naming_datums : List Symbol → List Datum → List (List ℕ) → List (List ℕ)
naming_datums symbols [] names = names
naming_datums symbols (datum ∷ datums) names = naming_datums symbols datums (naming_datum symbols datum names)

-- the spellings that the text of a code names, each once, in the order in which it first names them
abbrev pub names_of : Code → List (List ℕ)
names_of code = naming_datums code.symbols code.datums (naming_functions code.symbols code.functions [])

-- the parts of a code by new numbers of its symbols

abbrev pub renamed : List Symbol → List (List ℕ) → Sym → Sym
renamed symbols names sym = symbol_in names (sym_text symbols sym)

abbrev pub renamed_operand : List Symbol → List (List ℕ) → Operand → Operand
renamed_operand symbols names (operands.Low sym offset) = operands.Low (renamed symbols names sym) offset
renamed_operand symbols names (operands.High sym offset) = operands.High (renamed symbols names sym) offset
renamed_operand symbols names (operands.At sym offset) = operands.At (renamed symbols names sym) offset
renamed_operand symbols names operand = operand

abbrev pub renamed_callee : List Symbol → List (List ℕ) → Callee → Callee
renamed_callee symbols names (callees.Function f reads gives) = callees.Function (renamed symbols names f) reads gives
renamed_callee symbols names callee = callee

abbrev pub renamed_line : List Symbol → List (List ℕ) → Line → Line
renamed_line symbols names (lines.Label l) = lines.Label l
renamed_line symbols names (lines.Do op mode operand) = lines.Do op mode (renamed_operand symbols names operand)
renamed_line symbols names (lines.Call callee) = lines.Call (renamed_callee symbols names callee)

abbrev pub renamed_function : List Symbol → List (List ℕ) → Sym × Segment → Sym × Segment
renamed_function symbols names f = (renamed symbols names f.0, record { lines = map (renamed_line symbols names) f.1.lines; out = f.1.out })

abbrev pub renamed_cell : List Symbol → List (List ℕ) → DataCell → DataCell
renamed_cell symbols names (Byte v) = Byte v
renamed_cell symbols names (Address sym offset) = Address (renamed symbols names sym) offset

abbrev pub renamed_datum : List Symbol → List (List ℕ) → Datum → Datum
renamed_datum symbols names datum = record { sym = renamed symbols names datum.sym; kind = datum.kind; cells = map (renamed_cell symbols names) datum.cells; zeros = datum.zeros }

abbrev pub renumbered : Code → Code
renumbered code =
    let names = names_of code in
    record {
      symbols = symbols_of names;
      functions = map (renamed_function code.symbols names) code.functions;
      datums = map (renamed_datum code.symbols names) code.datums;
      main_args = code.main_args;
    }

-- what the types of a code's parts keep: numbers of so many bits, and lines that are a segment's

abbrev pub IsOperandOfTypes : Operand → Type 0
IsOperandOfTypes (operands.Byte v) = v < 2 ^ 8
IsOperandOfTypes (operands.Low sym offset) = offset < 2 ^ 16
IsOperandOfTypes (operands.High sym offset) = offset < 2 ^ 16
IsOperandOfTypes (operands.Zero at) = at < 2 ^ 8
IsOperandOfTypes (operands.At sym offset) = offset < 2 ^ 16
IsOperandOfTypes (operands.To label) = label < 2 ^ 32
IsOperandOfTypes operands.Nothing = Unit {0}

abbrev pub IsLineOfTypes : Line → Type 0
IsLineOfTypes (lines.Label l) = l < 2 ^ 32
IsLineOfTypes (lines.Do op mode operand) = IsOperandOfTypes operand
IsLineOfTypes (lines.Call callee) = Unit {0}

abbrev pub IsCellOfTypes : DataCell → Type 0
IsCellOfTypes (Byte v) = v < 2 ^ 8
IsCellOfTypes (Address sym offset) = offset < 2 ^ 16

pub record IsOfTypes (code : Code) : Type 0 where
  pub segment : (i : ℕ) (f : Sym × Segment) → slice_get code.functions i ≡ Some f → IsSegment f.1.lines
  pub line : (i k : ℕ) (f : Sym × Segment) (l : Line) → slice_get code.functions i ≡ Some f → slice_get f.1.lines k ≡ Some l → IsLineOfTypes l
  pub cell : (i k : ℕ) (datum : Datum) (c : DataCell) → slice_get code.datums i ≡ Some datum → slice_get datum.cells k ≡ Some c → IsCellOfTypes c
  pub zeros : (i : ℕ) (datum : Datum) → slice_get code.datums i ≡ Some datum → datum.zeros < 2 ^ 32
