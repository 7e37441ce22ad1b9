-- The lines of a function, and what they keep.
use Rattle.std.specs.Prelude.{ℕ, ◌+◌, ◌&&◌, ◌||◌, not, Bool, true, false, IsTrue, List, [], ◌∷◌, ◌++◌, take, drop, nat_eq}
use Rattle.std.specs.List.{list_all, list_any}
use Rattle.c65_mach.specs.declared.rows.Op.{Op}
use Rattle.c65_mach.specs.declared.rows.Op.TheVariants as ops
use Rattle.c65_mach.specs.declared.rows.Mode.{Mode}
use Rattle.c65_mach.specs.declared.rows.Mode.TheVariants.{Implied, Accumulator, Immediate, ZeroPage, ZeroPageX, ZeroPageY, Absolute, AbsoluteX, AbsoluteY, IndirectX, IndirectY, Indirect, Relative, ZeroPageIndirect, AbsoluteIndirectX}
use Rattle.c65_code.specs.declared.parts.RegSet.{RegSet}
use Rattle.c65_code.specs.declared.line.Operand.{Operand}
use Rattle.c65_code.specs.declared.line.Operand.TheVariants.{Nothing, Byte, Low, High, Zero, At, To}
use Rattle.c65_code.specs.declared.line.Line.{Line}
use Rattle.c65_code.specs.declared.line.Line.TheVariants.{Label, Do, Call}

-- what a draft is seen as: its lines, the number of labels that it gave, and what its function gives
pub record Drafted : Type 0 where
  pub lines : List Line
  pub labels : ℕ
  pub out : RegSet

-- what a segment is seen as
pub record Segment : Type 0 where
  pub lines : List Line
  pub out : RegSet

-- The modes of the operations (MCS6500 Programming Manual, appendix B), by the columns of the table of opcodes.

-- ADC AND CMP EOR LDA ORA SBC
abbrev pub is_common : Mode → Bool
is_common Immediate = true
is_common ZeroPage = true
is_common ZeroPageX = true
is_common Absolute = true
is_common AbsoluteX = true
is_common AbsoluteY = true
is_common IndirectX = true
is_common IndirectY = true
is_common _ = false

-- STA
abbrev pub is_stored : Mode → Bool
is_stored Immediate = false
is_stored mode = is_common mode

-- INC DEC
abbrev pub is_counted : Mode → Bool
is_counted ZeroPage = true
is_counted ZeroPageX = true
is_counted Absolute = true
is_counted AbsoluteX = true
is_counted _ = false

-- ASL LSR ROL ROR
abbrev pub is_shifted : Mode → Bool
is_shifted Accumulator = true
is_shifted mode = is_counted mode

-- LDX
abbrev pub is_loaded_x : Mode → Bool
is_loaded_x Immediate = true
is_loaded_x ZeroPage = true
is_loaded_x ZeroPageY = true
is_loaded_x Absolute = true
is_loaded_x AbsoluteY = true
is_loaded_x _ = false

-- LDY
abbrev pub is_loaded_y : Mode → Bool
is_loaded_y Immediate = true
is_loaded_y ZeroPage = true
is_loaded_y ZeroPageX = true
is_loaded_y Absolute = true
is_loaded_y AbsoluteX = true
is_loaded_y _ = false

-- STX
abbrev pub is_stored_x : Mode → Bool
is_stored_x ZeroPage = true
is_stored_x ZeroPageY = true
is_stored_x Absolute = true
is_stored_x _ = false

-- STY
abbrev pub is_stored_y : Mode → Bool
is_stored_y ZeroPage = true
is_stored_y ZeroPageX = true
is_stored_y Absolute = true
is_stored_y _ = false

-- CPX CPY
abbrev pub is_index_compared : Mode → Bool
is_index_compared Immediate = true
is_index_compared ZeroPage = true
is_index_compared Absolute = true
is_index_compared _ = false

-- BIT, and STZ of the 65C02
abbrev pub is_tested : Mode → Bool
is_tested ZeroPage = true
is_tested Absolute = true
is_tested _ = false

-- JMP
abbrev pub is_jumped : Mode → Bool
is_jumped Absolute = true
is_jumped Indirect = true
is_jumped _ = false

-- JSR
abbrev pub is_called : Mode → Bool
is_called Absolute = true
is_called _ = false

-- the branches
abbrev pub is_branched : Mode → Bool
is_branched Relative = true
is_branched _ = false

-- all others
abbrev pub is_implied : Mode → Bool
is_implied Implied = true
is_implied _ = false

-- operations of the 65C02 alone
abbrev pub is_added_op : Op → Bool
is_added_op ops.Bra = true
is_added_op ops.Phx = true
is_added_op ops.Phy = true
is_added_op ops.Plx = true
is_added_op ops.Ply = true
is_added_op ops.Stz = true
is_added_op ops.Trb = true
is_added_op ops.Tsb = true
is_added_op _ = false

-- whether the table of the 6502 has a row of this operation in this mode
abbrev pub is_nmos_row : Op → Mode → Bool
is_nmos_row ops.Adc mode = is_common mode
is_nmos_row ops.And mode = is_common mode
is_nmos_row ops.Cmp mode = is_common mode
is_nmos_row ops.Eor mode = is_common mode
is_nmos_row ops.Lda mode = is_common mode
is_nmos_row ops.Ora mode = is_common mode
is_nmos_row ops.Sbc mode = is_common mode
is_nmos_row ops.Sta mode = is_stored mode
is_nmos_row ops.Asl mode = is_shifted mode
is_nmos_row ops.Lsr mode = is_shifted mode
is_nmos_row ops.Rol mode = is_shifted mode
is_nmos_row ops.Ror mode = is_shifted mode
is_nmos_row ops.Inc mode = is_counted mode
is_nmos_row ops.Dec mode = is_counted mode
is_nmos_row ops.Ldx mode = is_loaded_x mode
is_nmos_row ops.Ldy mode = is_loaded_y mode
is_nmos_row ops.Stx mode = is_stored_x mode
is_nmos_row ops.Sty mode = is_stored_y mode
is_nmos_row ops.Cpx mode = is_index_compared mode
is_nmos_row ops.Cpy mode = is_index_compared mode
is_nmos_row ops.Bit mode = is_tested mode
is_nmos_row ops.Jmp mode = is_jumped mode
is_nmos_row ops.Jsr mode = is_called mode
is_nmos_row ops.Bcc mode = is_branched mode
is_nmos_row ops.Bcs mode = is_branched mode
is_nmos_row ops.Beq mode = is_branched mode
is_nmos_row ops.Bmi mode = is_branched mode
is_nmos_row ops.Bne mode = is_branched mode
is_nmos_row ops.Bpl mode = is_branched mode
is_nmos_row ops.Bvc mode = is_branched mode
is_nmos_row ops.Bvs mode = is_branched mode
is_nmos_row op mode = not (is_added_op op) && is_implied mode

-- the rows that the 65C02 adds and a line may have
abbrev pub is_added_row : Op → Mode → Bool
is_added_row ops.Stz mode = is_tested mode
is_added_row ops.Inc Accumulator = true
is_added_row ops.Dec Accumulator = true
is_added_row ops.Lda ZeroPageIndirect = true
is_added_row ops.Sta ZeroPageIndirect = true
is_added_row _ mode = false

abbrev pub has_row : Op → Mode → Bool
has_row op mode = is_nmos_row op mode || is_added_row op mode

-- LDX LDY STX STY CPX CPY BIT
abbrev pub is_index_op : Op → Bool
is_index_op ops.Ldx = true
is_index_op ops.Ldy = true
is_index_op ops.Stx = true
is_index_op ops.Sty = true
is_index_op ops.Cpx = true
is_index_op ops.Cpy = true
is_index_op ops.Bit = true
is_index_op _ = false

-- operations that no line has: calls are lines of their own, D and I stay clear, and S moves by pushes and pulls alone
abbrev pub is_barred : Op → Bool
is_barred ops.Jsr = true
is_barred ops.Sed = true
is_barred ops.Cld = true
is_barred ops.Sei = true
is_barred ops.Cli = true
is_barred ops.Plp = true
is_barred ops.Php = true
is_barred ops.Rti = true
is_barred ops.Brk = true
is_barred ops.Txs = true
is_barred _ = false

abbrev pub is_nothing : Operand → Bool
is_nothing Nothing = true
is_nothing _ = false

abbrev pub is_immediate : Operand → Bool
is_immediate (Byte v) = true
is_immediate (Low s o) = true
is_immediate (High s o) = true
is_immediate _ = false

abbrev pub is_zero : Operand → Bool
is_zero (Zero i) = true
is_zero _ = false

abbrev pub is_at : Operand → Bool
is_at (At s o) = true
is_at _ = false

abbrev pub is_to : Operand → Bool
is_to (To l) = true
is_to _ = false

-- an address is that of a symbol, and for JMP a label
abbrev pub is_address : Op → Operand → Bool
is_address ops.Jmp operand = is_to operand
is_address _ operand = is_at operand

-- whether the operand is one of this mode
abbrev pub takes : Op → Mode → Operand → Bool
takes op Implied operand = is_nothing operand
takes op Accumulator operand = is_nothing operand
takes op Immediate operand = is_immediate operand
takes op ZeroPage operand = is_zero operand
takes op ZeroPageX operand = is_zero operand
takes op ZeroPageY operand = is_zero operand
takes op Absolute operand = is_address op operand
takes op AbsoluteX operand = is_at operand
takes op AbsoluteY operand = is_at operand
takes op IndirectX operand = is_zero operand
takes op IndirectY operand = is_zero operand
takes op Indirect operand = is_zero operand
takes op Relative operand = is_to operand
takes op ZeroPageIndirect operand = is_zero operand
takes op AbsoluteIndirectX operand = false

-- a line that may stand in a segment
abbrev pub is_fit : Line → Bool
is_fit (Label l) = true
is_fit (Do op mode operand) = has_row op mode && (takes op mode operand && not (is_barred op))
is_fit (Call callee) = true

abbrev pub labels_of : List Line → List ℕ
labels_of [] = []
labels_of (Label l ∷ lines) = l ∷ labels_of lines
labels_of (_ ∷ lines) = labels_of lines

abbrev pub target_of : Line → List ℕ
target_of (Do op mode (To l)) = l ∷ []
target_of _ = []

-- the labels that lines refer to
abbrev pub targets_of : List Line → List ℕ
targets_of [] = []
targets_of (line ∷ lines) = target_of line ++ targets_of lines

abbrev pub is_among : List ℕ → ℕ → Bool
is_among labels l = list_any (nat_eq l) labels

abbrev pub is_distinct : List ℕ → Bool
is_distinct [] = true
is_distinct (l ∷ labels) = not (is_among labels l) && is_distinct labels

-- after RTS and JMP the next line does not follow
abbrev pub is_closing : Line → Bool
is_closing (Do ops.Rts mode operand) = true
is_closing (Do ops.Jmp mode operand) = true
is_closing _ = false

-- whether the last of the lines is one, and where there is none, what is said
abbrev pub closed_by : Bool → List Line → Bool
closed_by last [] = last
closed_by last (line ∷ lines) = closed_by (is_closing line) lines

abbrev pub is_closed : List Line → Bool
is_closed lines = closed_by false lines

-- what a segment's lines keep: each may stand there, no label stands twice, each target is a label, and the last line is RTS or JMP
pub record IsSegment (lines : List Line) : Type 0 where
  pub fit : IsTrue (list_all is_fit lines)
  pub labels : IsTrue (is_distinct (labels_of lines))
  pub targets : IsTrue (list_all (is_among (labels_of lines)) (targets_of lines))
  pub closed : IsTrue (is_closed lines)

-- the lines with some of them replaced
abbrev pub replaced : List Line → ℕ → ℕ → List Line → List Line
replaced lines at count new = take at lines ++ (new ++ drop (at + count) lines)
