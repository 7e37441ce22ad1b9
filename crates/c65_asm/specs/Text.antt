-- The assembly text of a code (docs/TEXT.md).
use Rattle.std.specs.Prelude.{ℕ, ◌+◌, ◌/◌, ◌%◌, ◌==◌, Bool, if◌then◌else◌, List, [], ◌∷◌, ◌++◌, Option, Some, None, slice_get, codes, decimal}
use Rattle.c65_base.specs.Lines.{hex_digit}
use Rattle.c65_mach.specs.declared.rows.Op.{Op}
use Rattle.c65_mach.specs.declared.rows.Op.TheVariants as ops
use Rattle.c65_mach.specs.declared.rows.Mode.{Mode}
use Rattle.c65_mach.specs.declared.rows.Mode.TheVariants.{Implied, Accumulator, Immediate, ZeroPageX, ZeroPageY, AbsoluteX, AbsoluteY, IndirectX, IndirectY, Indirect, ZeroPageIndirect}
use Rattle.c65_code.specs.declared.parts.Part.{Part}
use Rattle.c65_code.specs.declared.parts.Part.TheVariants.{A, X, Y, Zp}
use Rattle.c65_code.specs.declared.parts.RegSet.{RegSet}
use Rattle.c65_code.specs.declared.line.Sym.{Sym}
use Rattle.c65_code.specs.declared.line.Operand.{Operand}
use Rattle.c65_code.specs.declared.line.Operand.TheVariants as operands
use Rattle.c65_code.specs.declared.line.Callee.{Callee}
use Rattle.c65_code.specs.declared.line.Callee.TheVariants as callees
use Rattle.c65_code.specs.declared.line.Line.{Line}
use Rattle.c65_code.specs.declared.line.Line.TheVariants.{Label, Do, Call}
use Rattle.c65_code.specs.declared.code.Code.{Code}
use Rattle.c65_code.specs.declared.code.Symbol.{Symbol}
use Rattle.c65_code.specs.declared.code.Datum.{Datum}
use Rattle.c65_code.specs.declared.code.DatumKind.{DatumKind}
use Rattle.c65_code.specs.declared.code.DatumKind.TheVariants.{Data, Const, Zero}
use Rattle.c65_code.specs.declared.code.DataCell.{DataCell}
use Rattle.c65_code.specs.declared.code.DataCell.TheVariants.{Byte, Address}
use Rattle.c65_code.specs.Names.{name_of}
use Rattle.c65_code.specs.Parts.{has_part}
use Rattle.c65_code.specs.Segments.{Segment}

abbrev pub mnemonic_of : Op → List ℕ
mnemonic_of ops.Adc = codes "ADC"
mnemonic_of ops.And = codes "AND"
mnemonic_of ops.Asl = codes "ASL"
mnemonic_of ops.Bcc = codes "BCC"
mnemonic_of ops.Bcs = codes "BCS"
mnemonic_of ops.Beq = codes "BEQ"
mnemonic_of ops.Bit = codes "BIT"
mnemonic_of ops.Bmi = codes "BMI"
mnemonic_of ops.Bne = codes "BNE"
mnemonic_of ops.Bpl = codes "BPL"
mnemonic_of ops.Bra = codes "BRA"
mnemonic_of ops.Brk = codes "BRK"
mnemonic_of ops.Bvc = codes "BVC"
mnemonic_of ops.Bvs = codes "BVS"
mnemonic_of ops.Clc = codes "CLC"
mnemonic_of ops.Cld = codes "CLD"
mnemonic_of ops.Cli = codes "CLI"
mnemonic_of ops.Clv = codes "CLV"
mnemonic_of ops.Cmp = codes "CMP"
mnemonic_of ops.Cpx = codes "CPX"
mnemonic_of ops.Cpy = codes "CPY"
mnemonic_of ops.Dec = codes "DEC"
mnemonic_of ops.Dex = codes "DEX"
mnemonic_of ops.Dey = codes "DEY"
mnemonic_of ops.Eor = codes "EOR"
mnemonic_of ops.Inc = codes "INC"
mnemonic_of ops.Inx = codes "INX"
mnemonic_of ops.Iny = codes "INY"
mnemonic_of ops.Jmp = codes "JMP"
mnemonic_of ops.Jsr = codes "JSR"
mnemonic_of ops.Lda = codes "LDA"
mnemonic_of ops.Ldx = codes "LDX"
mnemonic_of ops.Ldy = codes "LDY"
mnemonic_of ops.Lsr = codes "LSR"
mnemonic_of ops.Nop = codes "NOP"
mnemonic_of ops.Ora = codes "ORA"
mnemonic_of ops.Pha = codes "PHA"
mnemonic_of ops.Php = codes "PHP"
mnemonic_of ops.Phx = codes "PHX"
mnemonic_of ops.Phy = codes "PHY"
mnemonic_of ops.Pla = codes "PLA"
mnemonic_of ops.Plp = codes "PLP"
mnemonic_of ops.Plx = codes "PLX"
mnemonic_of ops.Ply = codes "PLY"
mnemonic_of ops.Rol = codes "ROL"
mnemonic_of ops.Ror = codes "ROR"
mnemonic_of ops.Rti = codes "RTI"
mnemonic_of ops.Rts = codes "RTS"
mnemonic_of ops.Sbc = codes "SBC"
mnemonic_of ops.Sec = codes "SEC"
mnemonic_of ops.Sed = codes "SED"
mnemonic_of ops.Sei = codes "SEI"
mnemonic_of ops.Sta = codes "STA"
mnemonic_of ops.Stx = codes "STX"
mnemonic_of ops.Sty = codes "STY"
mnemonic_of ops.Stz = codes "STZ"
mnemonic_of ops.Tax = codes "TAX"
mnemonic_of ops.Tay = codes "TAY"
mnemonic_of ops.Trb = codes "TRB"
mnemonic_of ops.Tsb = codes "TSB"
mnemonic_of ops.Tsx = codes "TSX"
mnemonic_of ops.Txa = codes "TXA"
mnemonic_of ops.Txs = codes "TXS"
mnemonic_of ops.Tya = codes "TYA"

-- $HH
abbrev pub byte_text : ℕ → List ℕ
byte_text v = codes "$" ++ hex_digit (v / 16) ∷ hex_digit (v % 16) ∷ []

abbrev pub spelling_of : Option Symbol → List ℕ
spelling_of None = []
spelling_of (Some symbol) = symbol.spelling

abbrev pub sym_text : List Symbol → Sym → List ℕ
sym_text symbols sym = spelling_of (slice_get symbols sym.0)

-- SYM+NUM
abbrev pub place_text : List Symbol → Sym → ℕ → List ℕ
place_text symbols sym offset = sym_text symbols sym ++ codes "+" ++ decimal offset

-- LNUM
abbrev pub label_text : ℕ → List ℕ
label_text l = codes "L" ++ decimal l

-- what stands before an operand, itself, and behind it

abbrev pub before : Mode → List ℕ
before Implied = []
before Accumulator = codes " A"
before Immediate = codes " #"
before IndirectX = codes " ("
before IndirectY = codes " ("
before Indirect = codes " ("
before ZeroPageIndirect = codes " ("
before _ = codes " "

abbrev pub operand_text : List Symbol → Operand → List ℕ
operand_text symbols operands.Nothing = []
operand_text symbols (operands.Byte v) = byte_text v
operand_text symbols (operands.Low sym offset) = codes "<" ++ place_text symbols sym offset
operand_text symbols (operands.High sym offset) = codes ">" ++ place_text symbols sym offset
operand_text symbols (operands.Zero i) = byte_text i
operand_text symbols (operands.At sym offset) = place_text symbols sym offset
operand_text symbols (operands.To l) = label_text l

abbrev pub behind : Mode → List ℕ
behind ZeroPageX = codes ",X"
behind ZeroPageY = codes ",Y"
behind AbsoluteX = codes ",X"
behind AbsoluteY = codes ",Y"
behind IndirectX = codes ",X)"
behind IndirectY = codes "),Y"
behind Indirect = codes ")"
behind ZeroPageIndirect = codes ")"
behind _ = []

abbrev pub letter : RegSet → Part → List ℕ → List ℕ
letter set part text = if has_part set part then text else []

-- the letters of A, X, Y, and S for sreg
abbrev pub letters_of : RegSet → List ℕ
letters_of set = letter set A (codes "A") ++ letter set X (codes "X") ++ letter set Y (codes "Y") ++ letter set (Zp 2) (codes "S")

abbrev pub or_dash : List ℕ → List ℕ
or_dash [] = codes "-"
or_dash letters = letters

-- of the registers, letters or a dash
abbrev pub set_text : RegSet → List ℕ
set_text set = or_dash (letters_of set)

-- what a call passes and gets
abbrev pub passed_text : RegSet → RegSet → List ℕ
passed_text reads gives = codes "," ++ set_text reads ++ codes "," ++ set_text gives

abbrev pub callee_text : List Symbol → Callee → List ℕ
callee_text symbols (callees.Routine r) = name_of r
callee_text symbols (callees.Function f reads gives) = sym_text symbols f ++ passed_text reads gives
callee_text symbols (callees.Pointer reads gives) = codes "callptr4" ++ passed_text reads gives

abbrev pub line_text : List Symbol → Line → List ℕ
line_text symbols (Label l) = label_text l ++ codes ":\n"
line_text symbols (Do op mode operand) = codes "\t" ++ mnemonic_of op ++ before mode ++ operand_text symbols operand ++ behind mode ++ codes "\n"
line_text symbols (Call callee) = codes "\tJSR " ++ callee_text symbols callee ++ codes "\n"

abbrev pub lines_text : List Symbol → List Line → List ℕ
lines_text symbols [] = []
lines_text symbols (line ∷ lines) = line_text symbols line ++ lines_text symbols lines

-- a function, by what is put of its lines
abbrev pub function_with : (List Symbol → Segment → List ℕ) → List Symbol → Sym × Segment → List ℕ
function_with body symbols f = codes ".code " ++ sym_text symbols f.0 ++ codes "," ++ set_text f.1.out ++ codes "\n" ++ body symbols f.1 ++ codes ".end\n"

abbrev pub functions_with : (List Symbol → Segment → List ℕ) → List Symbol → List (Sym × Segment) → List ℕ
functions_with body symbols [] = []
functions_with body symbols (f ∷ functions) = function_with body symbols f ++ functions_with body symbols functions

-- bytes that follow one another stand on one line, at most 16 of them; `count` is how many stand on the line so far

abbrev pub byte_start : ℕ → List ℕ
byte_start count = if count == 0 then codes ".byte " else if count == 16 then codes "\n.byte " else codes ","

abbrev pub line_end : ℕ → List ℕ
line_end count = if count == 0 then [] else codes "\n"

abbrev pub cell_text : List Symbol → ℕ → DataCell → List ℕ
cell_text symbols count (Byte v) = byte_start count ++ byte_text v
cell_text symbols count (Address sym offset) = line_end count ++ codes ".addr " ++ place_text symbols sym offset ++ codes "\n"

abbrev pub opened : ℕ → DataCell → ℕ
opened count (Byte v) = if count == 16 then 1 else count + 1
opened count (Address sym offset) = 0

abbrev pub cells_text : List Symbol → ℕ → List DataCell → List ℕ
cells_text symbols count [] = line_end count
cells_text symbols count (cell ∷ cells) = cell_text symbols count cell ++ cells_text symbols (opened count cell) cells

abbrev pub datum_by : List Symbol → DatumKind → Datum → List ℕ
datum_by symbols Data datum = codes ".data " ++ sym_text symbols datum.sym ++ codes "\n" ++ cells_text symbols 0 datum.cells ++ codes ".end\n"
datum_by symbols Const datum = codes ".const " ++ sym_text symbols datum.sym ++ codes "\n" ++ cells_text symbols 0 datum.cells ++ codes ".end\n"
datum_by symbols Zero datum = codes ".zero " ++ sym_text symbols datum.sym ++ codes "," ++ decimal datum.zeros ++ codes "\n"

abbrev pub datums_text : List Symbol → List Datum → List ℕ
datums_text symbols [] = []
datums_text symbols (datum ∷ datums) = datum_by symbols datum.kind datum ++ datums_text symbols datums

abbrev pub head_text : Bool → List ℕ
head_text args = if args then codes "; c65 text 1 args\n" else codes "; c65 text 1\n"

abbrev pub text_with : (List Symbol → Segment → List ℕ) → Code → List ℕ
text_with body code = head_text code.main_args ++ functions_with body code.symbols code.functions ++ datums_text code.symbols code.datums

-- the lines alone
abbrev pub body_text : List Symbol → Segment → List ℕ
body_text symbols s = lines_text symbols s.lines

abbrev pub text_of : Code → List ℕ
text_of code = text_with body_text code
