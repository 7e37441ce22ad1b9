-- What a line of a text says, symbols by their spellings (docs/TEXT.md).
use Rattle.std.specs.Prelude.{ℕ, ◌==◌, Bool, true, false, if◌then◌else◌, nat_lt, List, [], ◌∷◌, Option, Some, None, option_map, codes, bytes_eq, length, take, drop, find}
use Rattle.std.proofs.Common.{Bor}
use Rattle.c65_mach.specs.declared.rows.Op.{Op}
use Rattle.c65_mach.specs.declared.rows.Op.TheVariants as ops
use Rattle.c65_mach.specs.declared.rows.Mode.{Mode}
use Rattle.c65_mach.specs.declared.rows.Mode.TheVariants.{Implied, Accumulator, Immediate, ZeroPage, ZeroPageX, ZeroPageY, Absolute, AbsoluteX, AbsoluteY, IndirectX, IndirectY, Relative, ZeroPageIndirect}
use Rattle.c65_code.specs.declared.parts.RegSet.{RegSet}
use Rattle.c65_code.specs.declared.routine.Routine.{Routine}
use Rattle.c65_code.specs.declared.code.DatumKind.{DatumKind}
use Rattle.c65_code.specs.declared.code.DatumKind.TheVariants as kinds
use Rattle.c65_code.specs.Names.{routine_named}
use Rattle.c65_asm.specs.declared.row.Index.{Index}
use Rattle.c65_asm.specs.declared.row.Index.TheVariants as index
use Rattle.c65_asm.specs.declared.row.Value.{Value}
use Rattle.c65_asm.specs.declared.row.Value.TheVariants as values
use Rattle.c65_asm.specs.declared.row.Call.{Call as CallRow}
use Rattle.c65_asm.specs.declared.row.Call.TheVariants as calls
use Rattle.c65_asm.specs.declared.row.Row.{Row}
use Rattle.c65_asm.specs.declared.row.Row.TheVariants as rows
use Rattle.c65_asm.specs.Text.{mnemonic_of}
use Rattle.c65_asm.specs.Words.{and_read, number_in, byte_in, is_symbol, cut_at, place_in, set_in}

-- an operand
pub data Spelled : Type 0 where
  Nothing : Spelled
  Byte : (value : ℕ) → Spelled
  Low : (symbol : List ℕ) (offset : ℕ) → Spelled
  High : (symbol : List ℕ) (offset : ℕ) → Spelled
  Zero : (at : ℕ) → Spelled
  At : (symbol : List ℕ) (offset : ℕ) → Spelled
  To : (label : ℕ) → Spelled

-- what is called
pub data Called : Type 0 where
  Run : (routine : Routine) → Called
  Enter : (symbol : List ℕ) (reads gives : RegSet) → Called
  Through : (reads gives : RegSet) → Called

pub data Told : Type 0 where
  Head : (args : Bool) → Told
  Function : (symbol : List ℕ) (out : RegSet) → Told
  Datum : (kind : DatumKind) (symbol : List ℕ) → Told
  Zeros : (symbol : List ℕ) (count : ℕ) → Told
  Bytes : (text : List ℕ) → Told
  Address : (symbol : List ℕ) (offset : ℕ) → Told
  End : Told
  Label : (label : ℕ) → Told
  Do : (op : Op) (mode : Mode) (operand : Spelled) → Told
  Call : (called : Called) → Told

-- what the code's types say

abbrev pub spelled : Value → Spelled
spelled values.Nothing = Nothing
spelled (values.Byte v) = Byte v
spelled (values.Low symbol offset) = Low symbol.now offset
spelled (values.High symbol offset) = High symbol.now offset
spelled (values.Zero at) = Zero at
spelled (values.At symbol offset) = At symbol.now offset
spelled (values.To label) = To label

abbrev pub moded : Mode × Value → Mode × Spelled
moded p = (p.0, spelled p.1)

abbrev pub based_on : Bor (List ℕ) × Index → List ℕ × Index
based_on p = (p.0.now, p.1)

abbrev pub called : CallRow → Called
called (calls.Routine r) = Run r
called (calls.Function symbol reads gives) = Enter symbol.now reads gives
called (calls.Pointer reads gives) = Through reads gives

abbrev pub told : Row → Told
told (rows.Head args) = Head args
told (rows.Function symbol out) = Function symbol.now out
told (rows.Data kind symbol) = Datum kind symbol.now
told (rows.Zeros symbol count) = Zeros symbol.now count
told (rows.Bytes text) = Bytes text.now
told (rows.Address symbol offset) = Address symbol.now offset
told rows.End = End
told (rows.Label l) = Label l
told (rows.Do op mode value) = Do op mode (spelled value)
told (rows.Call c) = Call (called c)

-- operands

abbrev pub low_of : List ℕ × ℕ → Mode × Spelled
low_of p = (Immediate, Low p.0 p.1)

abbrev pub high_of : List ℕ × ℕ → Mode × Spelled
high_of p = (Immediate, High p.0 p.1)

abbrev pub literal_of : ℕ → Mode × Spelled
literal_of v = (Immediate, Byte v)

-- behind `#`
abbrev pub immediate_in : List ℕ → Option (Mode × Spelled)
immediate_in [] = None
immediate_in (sign ∷ text) = if sign == 60 then option_map low_of (place_in text) else if sign == 62 then option_map high_of (place_in text) else option_map literal_of (byte_in (sign ∷ text))

abbrev pub bracketed : List ℕ → ℕ → Option (Mode × Spelled)
bracketed text at = if bytes_eq text (codes ",X)") then Some (IndirectX, Zero at) else if bytes_eq text (codes "),Y") then Some (IndirectY, Zero at) else if bytes_eq text (codes ")") then Some (ZeroPageIndirect, Zero at) else None

-- behind `(`
abbrev pub brackets_in : List ℕ → Option (Mode × Spelled)
brackets_in text = if nat_lt (length text) 3 then None else and_read (byte_in (take 3 text)) (bracketed (drop 3 text))

abbrev pub letter_index : List ℕ → Option Index
letter_index text = if bytes_eq text (codes "X") then Some index.X else if bytes_eq text (codes "Y") then Some index.Y else None

-- an address, and how it is indexed
abbrev pub indexed_from : List ℕ → Option (List ℕ × List ℕ) → Option (List ℕ × Index)
indexed_from text None = Some (text, index.Plain)
indexed_from text (Some p) = option_map (λ i. (p.0, i)) (letter_index p.1)

abbrev pub zero_mode : Index → Mode
zero_mode index.Plain = ZeroPage
zero_mode index.X = ZeroPageX
zero_mode index.Y = ZeroPageY

abbrev pub absolute_mode : Index → Mode
absolute_mode index.Plain = Absolute
absolute_mode index.X = AbsoluteX
absolute_mode index.Y = AbsoluteY

abbrev pub at_place : Index → List ℕ × ℕ → Mode × Spelled
at_place i p = (absolute_mode i, At p.0 p.1)

abbrev pub at_byte_or : Index → List ℕ → Option ℕ → Option (Mode × Spelled)
at_byte_or i text (Some at) = Some (zero_mode i, Zero at)
at_byte_or i text None = option_map (at_place i) (place_in text)

abbrev pub based : List ℕ × Index → Option (Mode × Spelled)
based p = at_byte_or p.1 p.0 (byte_in p.0)

abbrev pub address_in : List ℕ → Option (Mode × Spelled)
address_in text = and_read (indexed_from text (cut_at 44 text)) based

abbrev pub target_mode : Op → Mode
target_mode ops.Jmp = Absolute
target_mode _ = Relative

abbrev pub target_of : Op → ℕ → Mode × Spelled
target_of op label = (target_mode op, To label)

abbrev pub operand_by : Op → ℕ → List ℕ → Option (Mode × Spelled)
operand_by op first text =
    if first == 35 then immediate_in text
    else if first == 40 then brackets_in text
    else if first == 76 then option_map (target_of op) (number_in text)
    else address_in (first ∷ text)

abbrev pub operand_in : Op → List ℕ → Option (Mode × Spelled)
operand_in op [] = None
operand_in op (first ∷ text) = if bytes_eq (first ∷ text) (codes "A") then Some (Accumulator, Nothing) else operand_by op first text

-- calls

abbrev pub call_by : List ℕ → RegSet → RegSet → Option Called
call_by name reads gives =
    if bytes_eq name (codes "callptr4") then Some (Through reads gives)
    else if is_symbol name then Some (Enter name reads gives)
    else None

abbrev pub sets_in : List ℕ → Option (RegSet × RegSet)
sets_in text = and_read (cut_at 44 text) (λ p. and_read (set_in p.0) (λ reads. option_map (λ gives. (reads, gives)) (set_in p.1)))

abbrev pub called_from : List ℕ → Option (List ℕ × List ℕ) → Option Called
called_from text None = option_map Run (routine_named text)
called_from text (Some p) = and_read (sets_in p.1) (λ s. call_by p.0 s.0 s.1)

abbrev pub called_in : List ℕ → Option Called
called_in text = called_from text (cut_at 44 text)

-- instructions

abbrev pub operations : List Op
operations = ops.Adc ∷ ops.And ∷ ops.Asl ∷ ops.Bcc ∷ ops.Bcs ∷ ops.Beq ∷ ops.Bit ∷ ops.Bmi ∷ ops.Bne ∷ ops.Bpl ∷ ops.Bra ∷ ops.Brk ∷ ops.Bvc ∷ ops.Bvs ∷ ops.Clc ∷ ops.Cld ∷ ops.Cli ∷ ops.Clv ∷ ops.Cmp ∷ ops.Cpx ∷ ops.Cpy ∷ ops.Dec ∷ ops.Dex ∷ ops.Dey ∷ ops.Eor ∷ ops.Inc ∷ ops.Inx ∷ ops.Iny ∷ ops.Jmp ∷ ops.Jsr ∷ ops.Lda ∷ ops.Ldx ∷ ops.Ldy ∷ ops.Lsr ∷ ops.Nop ∷ ops.Ora ∷ ops.Pha ∷ ops.Php ∷ ops.Phx ∷ ops.Phy ∷ ops.Pla ∷ ops.Plp ∷ ops.Plx ∷ ops.Ply ∷ ops.Rol ∷ ops.Ror ∷ ops.Rti ∷ ops.Rts ∷ ops.Sbc ∷ ops.Sec ∷ ops.Sed ∷ ops.Sei ∷ ops.Sta ∷ ops.Stx ∷ ops.Sty ∷ ops.Stz ∷ ops.Tax ∷ ops.Tay ∷ ops.Trb ∷ ops.Tsb ∷ ops.Tsx ∷ ops.Txa ∷ ops.Txs ∷ ops.Tya ∷ []

abbrev pub op_among : List Op → List ℕ → Option Op
op_among among name = find (λ op. bytes_eq (mnemonic_of op) name) among

abbrev pub op_named : List ℕ → Option Op
op_named name = op_among operations name

abbrev pub is_jsr : Op → Bool
is_jsr ops.Jsr = true
is_jsr _ = false

abbrev pub operation : List ℕ → Op → Option Told
operation text op = if is_jsr op then option_map Call (called_in text) else option_map (λ p. Do op p.0 p.1) (operand_in op text)

abbrev pub instruction_from : List ℕ → Option (List ℕ × List ℕ) → Option Told
instruction_from text None = option_map (λ op. Do op Implied Nothing) (op_named text)
instruction_from text (Some p) = and_read (op_named p.0) (operation p.1)

-- behind a tab
abbrev pub instruction_in : List ℕ → Option Told
instruction_in text = instruction_from text (cut_at 32 text)

-- directives

abbrev pub datum_in : DatumKind → List ℕ → Option Told
datum_in kind text = if is_symbol text then Some (Datum kind text) else None

abbrev pub function_by : List ℕ × List ℕ → Option Told
function_by p = and_read (set_in p.1) (λ out. if is_symbol p.0 then Some (Function p.0 out) else None)

abbrev pub function_in : List ℕ → Option Told
function_in text = and_read (cut_at 44 text) function_by

abbrev pub zeros_by : List ℕ × List ℕ → Option Told
zeros_by p = and_read (number_in p.1) (λ count. if is_symbol p.0 then Some (Zeros p.0 count) else None)

abbrev pub zeros_in : List ℕ → Option Told
zeros_in text = and_read (cut_at 44 text) zeros_by

abbrev pub address_row : List ℕ → Option Told
address_row text = option_map (λ (p : List ℕ × ℕ). Address p.0 p.1) (place_in text)

abbrev pub directive_by : List ℕ → List ℕ → Option Told
directive_by name text =
    if bytes_eq name (codes "code") then function_in text
    else if bytes_eq name (codes "data") then datum_in kinds.Data text
    else if bytes_eq name (codes "const") then datum_in kinds.Const text
    else if bytes_eq name (codes "zero") then zeros_in text
    else if bytes_eq name (codes "byte") then Some (Bytes text)
    else if bytes_eq name (codes "addr") then address_row text
    else None

abbrev pub directive_from : List ℕ → Option (List ℕ × List ℕ) → Option Told
directive_from text None = if bytes_eq text (codes "end") then Some End else None
directive_from text (Some p) = directive_by p.0 p.1

-- behind a point
abbrev pub directive_in : List ℕ → Option Told
directive_in text = directive_from text (cut_at 32 text)

-- behind `L`
abbrev pub label_in : List ℕ → Option Told
label_in text = and_read (cut_at 58 text) (λ p. if length p.1 == 0 then option_map Label (number_in p.0) else None)

-- behind `;`
abbrev pub head_in : List ℕ → Option Told
head_in text =
    if bytes_eq text (codes " c65 text 1") then Some (Head false)
    else if bytes_eq text (codes " c65 text 1 args") then Some (Head true)
    else None

abbrev pub row_by : ℕ → List ℕ → Option Told
row_by first text =
    if first == 9 then instruction_in text
    else if first == 46 then directive_in text
    else if first == 76 then label_in text
    else if first == 59 then head_in text
    else None

-- a line without its line feed
abbrev pub row_in : List ℕ → Option Told
row_in [] = None
row_in (first ∷ text) = row_by first text
