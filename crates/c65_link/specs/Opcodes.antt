-- The opcode of an operation in a mode: the tables of opcodes read the other way (MCS6500 Programming Manual, appendix B), with
-- what the 65C02 adds.
use Rattle.std.specs.Prelude.{ℕ, ◌+◌}
use Rattle.c65_mach.specs.declared.rows.Op.{Op}
use Rattle.c65_mach.specs.declared.rows.Op.TheVariants as ops
use Rattle.c65_mach.specs.declared.rows.Mode.{Mode}
use Rattle.c65_mach.specs.declared.rows.Mode.TheVariants.{Implied, Accumulator, Immediate, ZeroPage, ZeroPageX, ZeroPageY, Absolute, AbsoluteX, AbsoluteY, IndirectX, IndirectY, Indirect, Relative, ZeroPageIndirect, AbsoluteIndirectX}

-- ADC AND CMP EOR LDA ORA SBC STA
abbrev pub common_column : Mode → ℕ
common_column Immediate = 0x09
common_column ZeroPage = 0x05
common_column ZeroPageX = 0x15
common_column Absolute = 0x0D
common_column AbsoluteX = 0x1D
common_column AbsoluteY = 0x19
common_column IndirectX = 0x01
common_column IndirectY = 0x11
common_column ZeroPageIndirect = 0x12
common_column _ = 0

-- ASL LSR ROL ROR INC DEC
abbrev pub shift_column : Mode → ℕ
shift_column Accumulator = 0x0A
shift_column ZeroPage = 0x06
shift_column ZeroPageX = 0x16
shift_column Absolute = 0x0E
shift_column AbsoluteX = 0x1E
shift_column _ = 0

-- INC DEC: those of A stand in another column
abbrev pub counting_opcode : ℕ → ℕ → Mode → ℕ
counting_opcode row in_a Accumulator = in_a
counting_opcode row in_a mode = row + shift_column mode

-- LDX LDY STX STY CPX CPY BIT TSB TRB
abbrev pub index_column : Mode → ℕ
index_column ZeroPage = 0x04
index_column ZeroPageX = 0x14
index_column ZeroPageY = 0x14
index_column Absolute = 0x0C
index_column AbsoluteX = 0x1C
index_column AbsoluteY = 0x1C
index_column _ = 0

-- BIT
abbrev pub bit_opcode : Mode → ℕ
bit_opcode Immediate = 0x89
bit_opcode mode = 0x20 + index_column mode

-- STZ
abbrev pub zero_opcode : Mode → ℕ
zero_opcode ZeroPage = 0x64
zero_opcode ZeroPageX = 0x74
zero_opcode Absolute = 0x9C
zero_opcode _ = 0x9E

-- JMP
abbrev pub jump_opcode : Mode → ℕ
jump_opcode Indirect = 0x6C
jump_opcode AbsoluteIndirectX = 0x7C
jump_opcode _ = 0x4C

-- the operations with one mode
abbrev pub single_opcode : Op → ℕ
single_opcode ops.Jsr = 0x20
single_opcode ops.Bpl = 0x10
single_opcode ops.Bmi = 0x30
single_opcode ops.Bvc = 0x50
single_opcode ops.Bvs = 0x70
single_opcode ops.Bcc = 0x90
single_opcode ops.Bcs = 0xB0
single_opcode ops.Bne = 0xD0
single_opcode ops.Beq = 0xF0
single_opcode ops.Brk = 0x00
single_opcode ops.Rti = 0x40
single_opcode ops.Rts = 0x60
single_opcode ops.Php = 0x08
single_opcode ops.Plp = 0x28
single_opcode ops.Pha = 0x48
single_opcode ops.Pla = 0x68
single_opcode ops.Clc = 0x18
single_opcode ops.Sec = 0x38
single_opcode ops.Cli = 0x58
single_opcode ops.Sei = 0x78
single_opcode ops.Clv = 0xB8
single_opcode ops.Cld = 0xD8
single_opcode ops.Sed = 0xF8
single_opcode ops.Tax = 0xAA
single_opcode ops.Txa = 0x8A
single_opcode ops.Tay = 0xA8
single_opcode ops.Tya = 0x98
single_opcode ops.Tsx = 0xBA
single_opcode ops.Txs = 0x9A
single_opcode ops.Inx = 0xE8
single_opcode ops.Iny = 0xC8
single_opcode ops.Dex = 0xCA
single_opcode ops.Dey = 0x88
single_opcode ops.Nop = 0xEA
single_opcode ops.Bra = 0x80
single_opcode ops.Phx = 0xDA
single_opcode ops.Phy = 0x5A
single_opcode ops.Plx = 0xFA
single_opcode ops.Ply = 0x7A
single_opcode _ = 0

abbrev pub opcode_of : Op → Mode → ℕ
opcode_of ops.Ora mode = common_column mode
opcode_of ops.And mode = 0x20 + common_column mode
opcode_of ops.Eor mode = 0x40 + common_column mode
opcode_of ops.Adc mode = 0x60 + common_column mode
opcode_of ops.Sta mode = 0x80 + common_column mode
opcode_of ops.Lda mode = 0xA0 + common_column mode
opcode_of ops.Cmp mode = 0xC0 + common_column mode
opcode_of ops.Sbc mode = 0xE0 + common_column mode
opcode_of ops.Asl mode = shift_column mode
opcode_of ops.Rol mode = 0x20 + shift_column mode
opcode_of ops.Lsr mode = 0x40 + shift_column mode
opcode_of ops.Ror mode = 0x60 + shift_column mode
opcode_of ops.Dec mode = counting_opcode 0xC0 0x3A mode
opcode_of ops.Inc mode = counting_opcode 0xE0 0x1A mode
opcode_of ops.Bit mode = bit_opcode mode
opcode_of ops.Tsb mode = index_column mode
opcode_of ops.Trb mode = 0x10 + index_column mode
opcode_of ops.Stz mode = zero_opcode mode
opcode_of ops.Sty mode = 0x80 + index_column mode
opcode_of ops.Stx mode = 0x82 + index_column mode
opcode_of ops.Ldy mode = 0xA0 + index_column mode
opcode_of ops.Ldx mode = 0xA2 + index_column mode
opcode_of ops.Cpy mode = 0xC0 + index_column mode
opcode_of ops.Cpx mode = 0xE0 + index_column mode
opcode_of ops.Jmp mode = jump_opcode mode
opcode_of op mode = single_opcode op

-- the branch that is taken exactly where this one is not
abbrev pub opposite_of : Op → Op
opposite_of ops.Bpl = ops.Bmi
opposite_of ops.Bmi = ops.Bpl
opposite_of ops.Bvc = ops.Bvs
opposite_of ops.Bvs = ops.Bvc
opposite_of ops.Bcc = ops.Bcs
opposite_of ops.Bcs = ops.Bcc
opposite_of ops.Bne = ops.Beq
opposite_of ops.Beq = ops.Bne
opposite_of op = op
