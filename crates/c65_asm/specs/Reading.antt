-- Reading a text line by line (docs/TEXT.md).
use Rattle.std.specs.Prelude.{ℕ, ◌++◌, ◌==◌, ◌&&◌, not, nat_lt, Bool, true, false, if◌then◌else◌, List, [], ◌∷◌, map, length, Option, Some, None, option_map}
use Rattle.std.specs.List.{list_all}
use Rattle.c65_base.specs.Names.{with_spelling}
use Rattle.c65_code.specs.declared.parts.RegSet.{RegSet}
use Rattle.c65_code.specs.declared.line.Sym.{Sym}
use Rattle.c65_code.specs.declared.line.Operand.{Operand}
use Rattle.c65_code.specs.declared.line.Operand.TheVariants as operands
use Rattle.c65_code.specs.declared.line.Callee.{Callee}
use Rattle.c65_code.specs.declared.line.Callee.TheVariants as callees
use Rattle.c65_code.specs.declared.line.Line.{Line}
use Rattle.c65_code.specs.declared.line.Line.TheVariants as lines
use Rattle.c65_code.specs.declared.code.Datum.{Datum}
use Rattle.c65_code.specs.declared.code.DatumKind.{DatumKind}
use Rattle.c65_code.specs.declared.code.DatumKind.TheVariants as kinds
use Rattle.c65_code.specs.declared.code.DataCell.TheVariants as cells
use Rattle.c65_code.specs.Segments.{Segment, is_fit, is_among, labels_of, targets_of, is_closed}
use Rattle.c65_asm.specs.Rows.{Spelled, Nothing, Byte, Low, High, Zero, At, To, Called, Run, Enter, Through, Told, Head, Function, Zeros, Bytes, Address, End, Label, Do, Call, row_in}
use Rattle.c65_asm.specs.Rows as told
use Rattle.c65_asm.specs.Words.{and_read, byte_in}
use Rattle.c65_asm.specs.Symbols.{with_number, symbol_in}
use Rattle.c65_asm.specs.Opened.{OpenedFunction, OpenedDatum}
use Rattle.c65_asm.specs.declared.reader.Open.{Open}
use Rattle.c65_asm.specs.declared.reader.Open.TheVariants as opens

-- what the lines so far say
pub record Reading : Type 0 where
  pub names : List (List ℕ)  -- the spellings so far, in order
  pub bodies : List ℕ  -- the symbols that have a function or data
  pub functions : List (Sym × Segment)
  pub datums : List Datum
  pub args : Bool
  pub opened : Open

abbrev pub start : Reading
start = record { names = []; bodies = []; functions = []; datums = []; args = false; opened = opens.Start }

-- the spellings once the symbol of an operand, of a call or of a line is among them

abbrev pub with_operand : List (List ℕ) → Spelled → List (List ℕ)
with_operand names (Low symbol offset) = with_spelling names symbol
with_operand names (High symbol offset) = with_spelling names symbol
with_operand names (At symbol offset) = with_spelling names symbol
with_operand names _ = names

abbrev pub with_called : List (List ℕ) → Called → List (List ℕ)
with_called names (Enter symbol reads gives) = with_spelling names symbol
with_called names _ = names

abbrev pub with_row : List (List ℕ) → Told → List (List ℕ)
with_row names (Do op mode operand) = with_operand names operand
with_row names (Call called) = with_called names called
with_row names _ = names

-- what they say, by these spellings

abbrev pub operand_of : List (List ℕ) → Spelled → Operand
operand_of names Nothing = operands.Nothing
operand_of names (Byte v) = operands.Byte v
operand_of names (Low symbol offset) = operands.Low (symbol_in names symbol) offset
operand_of names (High symbol offset) = operands.High (symbol_in names symbol) offset
operand_of names (Zero at) = operands.Zero at
operand_of names (At symbol offset) = operands.At (symbol_in names symbol) offset
operand_of names (To label) = operands.To label

abbrev pub callee_of : List (List ℕ) → Called → Callee
callee_of names (Run r) = callees.Routine r
callee_of names (Enter symbol reads gives) = callees.Function (symbol_in names symbol) reads gives
callee_of names (Through reads gives) = callees.Pointer reads gives

-- the line of a function; none where the row says another thing
abbrev pub line_of : List (List ℕ) → Told → Option Line
line_of names (Label l) = Some (lines.Label l)
line_of names (Do op mode operand) = Some (lines.Do op mode (operand_of names operand))
line_of names (Call called) = Some (lines.Call (callee_of names called))
line_of names _ = None

-- functions

-- a label comes once
abbrev pub is_new : List Line → Line → Bool
is_new before (lines.Label l) = not (is_among (labels_of before) l)
is_new before _ = true

abbrev pub with_line : OpenedFunction → Line → Option OpenedFunction
with_line f line = if is_fit line && is_new f.lines line then Some (record f { lines = f.lines ++ line ∷ [] }) else None

-- each label that is named has come, and the last line is RTS or JMP
abbrev pub may_end : List Line → Bool
may_end before = list_all (is_among (labels_of before)) (targets_of before) && is_closed before

abbrev pub closed : OpenedFunction → Option (Sym × Segment)
closed f = if may_end f.lines then Some (f.sym, record { lines = f.lines; out = f.out }) else None

-- data

-- bytes with commas between them
abbrev pub bytes_in : List ℕ → Option (List ℕ)
bytes_in (dollar ∷ high ∷ low ∷ comma ∷ text) = if comma == 44 then and_read (byte_in (dollar ∷ high ∷ low ∷ [])) (λ v. option_map (λ vs. v ∷ vs) (bytes_in text)) else None
bytes_in text = option_map (λ v. v ∷ []) (byte_in text)

-- a line that has room is followed by no other line of bytes
abbrev pub with_values : OpenedDatum → List ℕ → Option OpenedDatum
with_values d values =
    if nat_lt 16 (length values) then None
    else Some (record d { cells = d.cells ++ map (λ v. cells.Byte v) values; has_room = nat_lt (length values) 16 })

abbrev pub with_bytes : OpenedDatum → List ℕ → Option OpenedDatum
with_bytes d text = if d.has_room then None else and_read (bytes_in text) (with_values d)

abbrev pub with_address : OpenedDatum → Sym → ℕ → OpenedDatum
with_address d sym offset = record d { cells = d.cells ++ cells.Address sym offset ∷ []; has_room = false }

abbrev pub datum_of : OpenedDatum → Option Datum
datum_of d = if length d.cells == 0 then None else Some (record { sym = d.sym; kind = d.kind; cells = d.cells; zeros = 0 })

-- steps

-- a body for a symbol that has none
abbrev pub begun : Reading → Sym → Open → Option Reading
begun r sym opened = if is_among r.bodies sym.0 then None else Some (record r { bodies = with_number r.bodies sym.0; opened = opened })

abbrev pub named : Reading → List ℕ → Reading
named r symbol = record r { names = with_spelling r.names symbol }

abbrev pub symbol_now : Reading → List ℕ → Sym
symbol_now r symbol = symbol_in r.names symbol

abbrev pub new_function : Sym → RegSet → Open
new_function sym out = opens.Function (record { sym = sym; out = out; lines = [] })

abbrev pub begin_function : Reading → List ℕ → RegSet → Option Reading
begin_function r symbol out = begun (named r symbol) (symbol_now (named r symbol) symbol) (new_function (symbol_now (named r symbol) symbol) out)

abbrev pub new_datum : DatumKind → Sym → Open
new_datum kind sym = opens.Datum (record { sym = sym; kind = kind; cells = []; has_room = false })

abbrev pub begin_data : Reading → DatumKind → List ℕ → Option Reading
begin_data r kind symbol = begun (named r symbol) (symbol_now (named r symbol) symbol) (new_datum kind (symbol_now (named r symbol) symbol))

abbrev pub zero_datum : Sym → ℕ → Datum
zero_datum sym count = record { sym = sym; kind = kinds.Zero; cells = []; zeros = count }

abbrev pub with_datum : Reading → Datum → Reading
with_datum r datum = record r { datums = r.datums ++ datum ∷ []; opened = opens.Data }

abbrev pub put_zeros : Reading → List ℕ → ℕ → Option Reading
put_zeros r symbol count = option_map (λ s. with_datum s (zero_datum (symbol_now (named r symbol) symbol) count)) (begun (named r symbol) (symbol_now (named r symbol) symbol) opens.Data)

abbrev pub head : Reading → Told → Option Reading
head r (Head args) = Some (record r { args = args; opened = opens.Functions })
head r _ = None

-- where nothing is open: functions may follow only where no data have come
abbrev pub top : Reading → Bool → Told → Option Reading
top r functions_too (Function symbol out) = if functions_too then begin_function r symbol out else None
top r functions_too (told.Datum kind symbol) = begin_data r kind symbol
top r functions_too (Zeros symbol count) = put_zeros r symbol count
top r functions_too _ = None

abbrev pub with_function : Reading → Sym × Segment → Reading
with_function r f = record r { functions = r.functions ++ f ∷ []; opened = opens.Functions }

abbrev pub opened_function : Reading → List (List ℕ) → OpenedFunction → Reading
opened_function r names f = record r { names = names; opened = opens.Function f }

abbrev pub put_row : Reading → OpenedFunction → Told → Option Reading
put_row r f row =
    let names = with_row r.names row in
    option_map (opened_function r names) (and_read (line_of names row) (with_line f))

abbrev pub in_function : Reading → OpenedFunction → Told → Option Reading
in_function r f End = option_map (with_function r) (closed f)
in_function r f (Label l) = put_row r f (Label l)
in_function r f (Do op mode operand) = put_row r f (Do op mode operand)
in_function r f (Call called) = put_row r f (Call called)
in_function r f _ = None

abbrev pub opened_datum : Reading → OpenedDatum → Reading
opened_datum r d = record r { opened = opens.Datum d }

abbrev pub put_address : Reading → OpenedDatum → List ℕ → ℕ → Reading
put_address r d symbol offset = opened_datum (named r symbol) (with_address d (symbol_now (named r symbol) symbol) offset)

abbrev pub in_data : Reading → OpenedDatum → Told → Option Reading
in_data r d End = option_map (with_datum r) (datum_of d)
in_data r d (Bytes text) = option_map (opened_datum r) (with_bytes d text)
in_data r d (Address symbol offset) = Some (put_address r d symbol offset)
in_data r d _ = None

abbrev pub step_in : Reading → Open → Told → Option Reading
step_in r opens.Start row = head r row
step_in r opens.Functions row = top r true row
step_in r opens.Data row = top r false row
step_in r (opens.Function f) row = in_function r f row
step_in r (opens.Datum d) row = in_data r d row

-- one line more, without its line feed; none where no text goes on so
abbrev pub step : Reading → List ℕ → Option Reading
step r line = and_read (row_in line) (step_in r r.opened)
