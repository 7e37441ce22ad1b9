-- The table of opcodes of the 6502: one row for each of the 151 (MCS6500 Programming Manual, appendices A and B).
-- The 65C02 has these rows and its own; a row of its own stands before that of the 6502.
use Rattle.std.specs.Prelude.{ℕ, Option, Some, None, Bool, true, false, if◌then◌else◌, ◌==◌, List, [], ◌∷◌}
use Rattle.c65_base.specs.declared.options.Cpu.{Cpu}
use Rattle.c65_base.specs.declared.options.Cpu.TheVariants.{Nmos, Cmos}
use Rattle.c65_mach.specs.declared.rows.Row.{Row}
use Rattle.c65_mach.specs.declared.rows.Op.{Op}
use Rattle.c65_mach.specs.declared.rows.Op.TheVariants.{Adc, And, Asl, Bcc, Bcs, Beq, Bit, Bmi, Bne, Bpl, Bra, Brk, Bvc, Bvs, Clc, Cld, Cli, Clv, Cmp, Cpx, Cpy, Dec, Dex, Dey, Eor, Inc, Inx, Iny, Jmp, Jsr, Lda, Ldx, Ldy, Lsr, Nop, Ora, Pha, Php, Phx, Phy, Pla, Plp, Plx, Ply, Rol, Ror, Rti, Rts, Sbc, Sec, Sed, Sei, Sta, Stx, Sty, Stz, Tax, Tay, Trb, Tsb, Tsx, Txa, Txs, Tya}
use Rattle.c65_mach.specs.declared.rows.Mode.{Mode}
use Rattle.c65_mach.specs.declared.rows.Mode.TheVariants.{Implied, Accumulator, Immediate, ZeroPage, ZeroPageX, ZeroPageY, Absolute, AbsoluteX, AbsoluteY, IndirectX, IndirectY, Indirect, Relative, ZeroPageIndirect, AbsoluteIndirectX}

pub record Entry : Type 0 where
  pub byte : ℕ
  pub row : Row

abbrev pub entry : ℕ → Op → Mode → ℕ → Bool → Entry
entry byte op mode cycles page = record { byte = byte; row = record { op = op; mode = mode; cycles = cycles; page = page } }

abbrev pub table : List Entry
table =
    entry 0x00 Brk Implied 7 false ∷
    entry 0x01 Ora IndirectX 6 false ∷
    entry 0x05 Ora ZeroPage 3 false ∷
    entry 0x06 Asl ZeroPage 5 false ∷
    entry 0x08 Php Implied 3 false ∷
    entry 0x09 Ora Immediate 2 false ∷
    entry 0x0A Asl Accumulator 2 false ∷
    entry 0x0D Ora Absolute 4 false ∷
    entry 0x0E Asl Absolute 6 false ∷
    entry 0x10 Bpl Relative 2 true ∷
    entry 0x11 Ora IndirectY 5 true ∷
    entry 0x15 Ora ZeroPageX 4 false ∷
    entry 0x16 Asl ZeroPageX 6 false ∷
    entry 0x18 Clc Implied 2 false ∷
    entry 0x19 Ora AbsoluteY 4 true ∷
    entry 0x1D Ora AbsoluteX 4 true ∷
    entry 0x1E Asl AbsoluteX 7 false ∷
    entry 0x20 Jsr Absolute 6 false ∷
    entry 0x21 And IndirectX 6 false ∷
    entry 0x24 Bit ZeroPage 3 false ∷
    entry 0x25 And ZeroPage 3 false ∷
    entry 0x26 Rol ZeroPage 5 false ∷
    entry 0x28 Plp Implied 4 false ∷
    entry 0x29 And Immediate 2 false ∷
    entry 0x2A Rol Accumulator 2 false ∷
    entry 0x2C Bit Absolute 4 false ∷
    entry 0x2D And Absolute 4 false ∷
    entry 0x2E Rol Absolute 6 false ∷
    entry 0x30 Bmi Relative 2 true ∷
    entry 0x31 And IndirectY 5 true ∷
    entry 0x35 And ZeroPageX 4 false ∷
    entry 0x36 Rol ZeroPageX 6 false ∷
    entry 0x38 Sec Implied 2 false ∷
    entry 0x39 And AbsoluteY 4 true ∷
    entry 0x3D And AbsoluteX 4 true ∷
    entry 0x3E Rol AbsoluteX 7 false ∷
    entry 0x40 Rti Implied 6 false ∷
    entry 0x41 Eor IndirectX 6 false ∷
    entry 0x45 Eor ZeroPage 3 false ∷
    entry 0x46 Lsr ZeroPage 5 false ∷
    entry 0x48 Pha Implied 3 false ∷
    entry 0x49 Eor Immediate 2 false ∷
    entry 0x4A Lsr Accumulator 2 false ∷
    entry 0x4C Jmp Absolute 3 false ∷
    entry 0x4D Eor Absolute 4 false ∷
    entry 0x4E Lsr Absolute 6 false ∷
    entry 0x50 Bvc Relative 2 true ∷
    entry 0x51 Eor IndirectY 5 true ∷
    entry 0x55 Eor ZeroPageX 4 false ∷
    entry 0x56 Lsr ZeroPageX 6 false ∷
    entry 0x58 Cli Implied 2 false ∷
    entry 0x59 Eor AbsoluteY 4 true ∷
    entry 0x5D Eor AbsoluteX 4 true ∷
    entry 0x5E Lsr AbsoluteX 7 false ∷
    entry 0x60 Rts Implied 6 false ∷
    entry 0x61 Adc IndirectX 6 false ∷
    entry 0x65 Adc ZeroPage 3 false ∷
    entry 0x66 Ror ZeroPage 5 false ∷
    entry 0x68 Pla Implied 4 false ∷
    entry 0x69 Adc Immediate 2 false ∷
    entry 0x6A Ror Accumulator 2 false ∷
    entry 0x6C Jmp Indirect 5 false ∷
    entry 0x6D Adc Absolute 4 false ∷
    entry 0x6E Ror Absolute 6 false ∷
    entry 0x70 Bvs Relative 2 true ∷
    entry 0x71 Adc IndirectY 5 true ∷
    entry 0x75 Adc ZeroPageX 4 false ∷
    entry 0x76 Ror ZeroPageX 6 false ∷
    entry 0x78 Sei Implied 2 false ∷
    entry 0x79 Adc AbsoluteY 4 true ∷
    entry 0x7D Adc AbsoluteX 4 true ∷
    entry 0x7E Ror AbsoluteX 7 false ∷
    entry 0x81 Sta IndirectX 6 false ∷
    entry 0x84 Sty ZeroPage 3 false ∷
    entry 0x85 Sta ZeroPage 3 false ∷
    entry 0x86 Stx ZeroPage 3 false ∷
    entry 0x88 Dey Implied 2 false ∷
    entry 0x8A Txa Implied 2 false ∷
    entry 0x8C Sty Absolute 4 false ∷
    entry 0x8D Sta Absolute 4 false ∷
    entry 0x8E Stx Absolute 4 false ∷
    entry 0x90 Bcc Relative 2 true ∷
    entry 0x91 Sta IndirectY 6 false ∷
    entry 0x94 Sty ZeroPageX 4 false ∷
    entry 0x95 Sta ZeroPageX 4 false ∷
    entry 0x96 Stx ZeroPageY 4 false ∷
    entry 0x98 Tya Implied 2 false ∷
    entry 0x99 Sta AbsoluteY 5 false ∷
    entry 0x9A Txs Implied 2 false ∷
    entry 0x9D Sta AbsoluteX 5 false ∷
    entry 0xA0 Ldy Immediate 2 false ∷
    entry 0xA1 Lda IndirectX 6 false ∷
    entry 0xA2 Ldx Immediate 2 false ∷
    entry 0xA4 Ldy ZeroPage 3 false ∷
    entry 0xA5 Lda ZeroPage 3 false ∷
    entry 0xA6 Ldx ZeroPage 3 false ∷
    entry 0xA8 Tay Implied 2 false ∷
    entry 0xA9 Lda Immediate 2 false ∷
    entry 0xAA Tax Implied 2 false ∷
    entry 0xAC Ldy Absolute 4 false ∷
    entry 0xAD Lda Absolute 4 false ∷
    entry 0xAE Ldx Absolute 4 false ∷
    entry 0xB0 Bcs Relative 2 true ∷
    entry 0xB1 Lda IndirectY 5 true ∷
    entry 0xB4 Ldy ZeroPageX 4 false ∷
    entry 0xB5 Lda ZeroPageX 4 false ∷
    entry 0xB6 Ldx ZeroPageY 4 false ∷
    entry 0xB8 Clv Implied 2 false ∷
    entry 0xB9 Lda AbsoluteY 4 true ∷
    entry 0xBA Tsx Implied 2 false ∷
    entry 0xBC Ldy AbsoluteX 4 true ∷
    entry 0xBD Lda AbsoluteX 4 true ∷
    entry 0xBE Ldx AbsoluteY 4 true ∷
    entry 0xC0 Cpy Immediate 2 false ∷
    entry 0xC1 Cmp IndirectX 6 false ∷
    entry 0xC4 Cpy ZeroPage 3 false ∷
    entry 0xC5 Cmp ZeroPage 3 false ∷
    entry 0xC6 Dec ZeroPage 5 false ∷
    entry 0xC8 Iny Implied 2 false ∷
    entry 0xC9 Cmp Immediate 2 false ∷
    entry 0xCA Dex Implied 2 false ∷
    entry 0xCC Cpy Absolute 4 false ∷
    entry 0xCD Cmp Absolute 4 false ∷
    entry 0xCE Dec Absolute 6 false ∷
    entry 0xD0 Bne Relative 2 true ∷
    entry 0xD1 Cmp IndirectY 5 true ∷
    entry 0xD5 Cmp ZeroPageX 4 false ∷
    entry 0xD6 Dec ZeroPageX 6 false ∷
    entry 0xD8 Cld Implied 2 false ∷
    entry 0xD9 Cmp AbsoluteY 4 true ∷
    entry 0xDD Cmp AbsoluteX 4 true ∷
    entry 0xDE Dec AbsoluteX 7 false ∷
    entry 0xE0 Cpx Immediate 2 false ∷
    entry 0xE1 Sbc IndirectX 6 false ∷
    entry 0xE4 Cpx ZeroPage 3 false ∷
    entry 0xE5 Sbc ZeroPage 3 false ∷
    entry 0xE6 Inc ZeroPage 5 false ∷
    entry 0xE8 Inx Implied 2 false ∷
    entry 0xE9 Sbc Immediate 2 false ∷
    entry 0xEA Nop Implied 2 false ∷
    entry 0xEC Cpx Absolute 4 false ∷
    entry 0xED Sbc Absolute 4 false ∷
    entry 0xEE Inc Absolute 6 false ∷
    entry 0xF0 Beq Relative 2 true ∷
    entry 0xF1 Sbc IndirectY 5 true ∷
    entry 0xF5 Sbc ZeroPageX 4 false ∷
    entry 0xF6 Inc ZeroPageX 6 false ∷
    entry 0xF8 Sed Implied 2 false ∷
    entry 0xF9 Sbc AbsoluteY 4 true ∷
    entry 0xFD Sbc AbsoluteX 4 true ∷
    entry 0xFE Inc AbsoluteX 7 false ∷
    []

abbrev pub found : ℕ → List Entry → Option Row
found byte [] = None
found byte (e ∷ es) = if byte == e.byte then Some e.row else found byte es

unfoldable pub row_of : ℕ → Option Row
row_of byte = found byte table

-- the 65C02's own rows: those that it adds, and `JMP (abs)`, which takes 6 cycles there
abbrev pub own_rows : List Entry
own_rows =
    entry 0x04 Tsb ZeroPage 5 false ∷
    entry 0x0C Tsb Absolute 6 false ∷
    entry 0x12 Ora ZeroPageIndirect 5 false ∷
    entry 0x14 Trb ZeroPage 5 false ∷
    entry 0x1A Inc Accumulator 2 false ∷
    entry 0x1C Trb Absolute 6 false ∷
    entry 0x32 And ZeroPageIndirect 5 false ∷
    entry 0x34 Bit ZeroPageX 4 false ∷
    entry 0x3A Dec Accumulator 2 false ∷
    entry 0x3C Bit AbsoluteX 4 true ∷
    entry 0x52 Eor ZeroPageIndirect 5 false ∷
    entry 0x5A Phy Implied 3 false ∷
    entry 0x64 Stz ZeroPage 3 false ∷
    entry 0x6C Jmp Indirect 6 false ∷
    entry 0x72 Adc ZeroPageIndirect 5 false ∷
    entry 0x74 Stz ZeroPageX 4 false ∷
    entry 0x7A Ply Implied 4 false ∷
    entry 0x7C Jmp AbsoluteIndirectX 6 false ∷
    entry 0x80 Bra Relative 3 true ∷
    entry 0x89 Bit Immediate 2 false ∷
    entry 0x92 Sta ZeroPageIndirect 5 false ∷
    entry 0x9C Stz Absolute 4 false ∷
    entry 0x9E Stz AbsoluteX 5 false ∷
    entry 0xB2 Lda ZeroPageIndirect 5 false ∷
    entry 0xD2 Cmp ZeroPageIndirect 5 false ∷
    entry 0xDA Phx Implied 3 false ∷
    entry 0xF2 Sbc ZeroPageIndirect 5 false ∷
    entry 0xFA Plx Implied 4 false ∷
    []

abbrev pub or_row : Option Row → Option Row → Option Row
or_row (Some row) other = Some row
or_row None other = other

-- the row that a processor has for an opcode
unfoldable pub row_for : Cpu → ℕ → Option Row
row_for Nmos byte = row_of byte
row_for Cmos byte = or_row (found byte own_rows) (row_of byte)
