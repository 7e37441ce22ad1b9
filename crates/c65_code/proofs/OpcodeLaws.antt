-- Each operation and mode against the table of opcodes.
use Rattle.std.proofs.Common.{◌≡◌, ◌==◌, ℕ, Bool, true, false, IsTrue, List, [], ◌∷◌, Option, Some, cond, refl, subst}
use Rattle.std.specs.List.{list_all}
use Rattle.std.proofs.lemmas.Bool.{and_parts}
use Rattle.c65_mach.specs.declared.rows.Op.{Op}
use Rattle.c65_mach.specs.declared.rows.Op.TheVariants as ops
use Rattle.c65_mach.specs.declared.rows.Mode.{Mode}
use Rattle.c65_mach.specs.declared.rows.Mode.TheVariants.{Implied, Accumulator, Immediate, ZeroPage, ZeroPageX, ZeroPageY, Absolute, AbsoluteX, AbsoluteY, IndirectX, IndirectY, Indirect, Relative, ZeroPageIndirect}
use Rattle.c65_mach.specs.declared.rows.Row.{Row}
use Rattle.c65_mach.specs.Table.{Entry, table, found, row_of}
use Rattle.c65_code.specs.Segments.{is_nmos_row, is_added_row}
use Rattle.c65_code.specs.Opcodes.{HasOpcode, RowsAreTheTables, HasAddedOpcode, AddedRowsAreTheTables}

opcode : (byte : ℕ) (row : Row) → row_of byte ≡ Some row → HasOpcode row.op row.mode
opcode byte row e = record { byte = byte; row = row; found = e; op_is = refl; mode_is = refl }

none : {P : Type 0} → false ≡ true → P
none e = absurd cc

row_adc : (mode : Mode) → IsTrue (is_nmos_row ops.Adc mode) → HasOpcode ops.Adc mode
unfolding row_of
row_adc Immediate h = opcode 0x69 (record { op = ops.Adc; mode = Immediate; cycles = 2; page = false }) refl
row_adc ZeroPage h = opcode 0x65 (record { op = ops.Adc; mode = ZeroPage; cycles = 3; page = false }) refl
row_adc ZeroPageX h = opcode 0x75 (record { op = ops.Adc; mode = ZeroPageX; cycles = 4; page = false }) refl
row_adc Absolute h = opcode 0x6D (record { op = ops.Adc; mode = Absolute; cycles = 4; page = false }) refl
row_adc AbsoluteX h = opcode 0x7D (record { op = ops.Adc; mode = AbsoluteX; cycles = 4; page = true }) refl
row_adc AbsoluteY h = opcode 0x79 (record { op = ops.Adc; mode = AbsoluteY; cycles = 4; page = true }) refl
row_adc IndirectX h = opcode 0x61 (record { op = ops.Adc; mode = IndirectX; cycles = 6; page = false }) refl
row_adc IndirectY h = opcode 0x71 (record { op = ops.Adc; mode = IndirectY; cycles = 5; page = true }) refl
row_adc mode h = none h

row_and : (mode : Mode) → IsTrue (is_nmos_row ops.And mode) → HasOpcode ops.And mode
unfolding row_of
row_and Immediate h = opcode 0x29 (record { op = ops.And; mode = Immediate; cycles = 2; page = false }) refl
row_and ZeroPage h = opcode 0x25 (record { op = ops.And; mode = ZeroPage; cycles = 3; page = false }) refl
row_and ZeroPageX h = opcode 0x35 (record { op = ops.And; mode = ZeroPageX; cycles = 4; page = false }) refl
row_and Absolute h = opcode 0x2D (record { op = ops.And; mode = Absolute; cycles = 4; page = false }) refl
row_and AbsoluteX h = opcode 0x3D (record { op = ops.And; mode = AbsoluteX; cycles = 4; page = true }) refl
row_and AbsoluteY h = opcode 0x39 (record { op = ops.And; mode = AbsoluteY; cycles = 4; page = true }) refl
row_and IndirectX h = opcode 0x21 (record { op = ops.And; mode = IndirectX; cycles = 6; page = false }) refl
row_and IndirectY h = opcode 0x31 (record { op = ops.And; mode = IndirectY; cycles = 5; page = true }) refl
row_and mode h = none h

row_asl : (mode : Mode) → IsTrue (is_nmos_row ops.Asl mode) → HasOpcode ops.Asl mode
unfolding row_of
row_asl Accumulator h = opcode 0x0A (record { op = ops.Asl; mode = Accumulator; cycles = 2; page = false }) refl
row_asl ZeroPage h = opcode 0x06 (record { op = ops.Asl; mode = ZeroPage; cycles = 5; page = false }) refl
row_asl ZeroPageX h = opcode 0x16 (record { op = ops.Asl; mode = ZeroPageX; cycles = 6; page = false }) refl
row_asl Absolute h = opcode 0x0E (record { op = ops.Asl; mode = Absolute; cycles = 6; page = false }) refl
row_asl AbsoluteX h = opcode 0x1E (record { op = ops.Asl; mode = AbsoluteX; cycles = 7; page = false }) refl
row_asl mode h = none h

row_bcc : (mode : Mode) → IsTrue (is_nmos_row ops.Bcc mode) → HasOpcode ops.Bcc mode
unfolding row_of
row_bcc Relative h = opcode 0x90 (record { op = ops.Bcc; mode = Relative; cycles = 2; page = true }) refl
row_bcc mode h = none h

row_bcs : (mode : Mode) → IsTrue (is_nmos_row ops.Bcs mode) → HasOpcode ops.Bcs mode
unfolding row_of
row_bcs Relative h = opcode 0xB0 (record { op = ops.Bcs; mode = Relative; cycles = 2; page = true }) refl
row_bcs mode h = none h

row_beq : (mode : Mode) → IsTrue (is_nmos_row ops.Beq mode) → HasOpcode ops.Beq mode
unfolding row_of
row_beq Relative h = opcode 0xF0 (record { op = ops.Beq; mode = Relative; cycles = 2; page = true }) refl
row_beq mode h = none h

row_bit : (mode : Mode) → IsTrue (is_nmos_row ops.Bit mode) → HasOpcode ops.Bit mode
unfolding row_of
row_bit ZeroPage h = opcode 0x24 (record { op = ops.Bit; mode = ZeroPage; cycles = 3; page = false }) refl
row_bit Absolute h = opcode 0x2C (record { op = ops.Bit; mode = Absolute; cycles = 4; page = false }) refl
row_bit mode h = none h

row_bmi : (mode : Mode) → IsTrue (is_nmos_row ops.Bmi mode) → HasOpcode ops.Bmi mode
unfolding row_of
row_bmi Relative h = opcode 0x30 (record { op = ops.Bmi; mode = Relative; cycles = 2; page = true }) refl
row_bmi mode h = none h

row_bne : (mode : Mode) → IsTrue (is_nmos_row ops.Bne mode) → HasOpcode ops.Bne mode
unfolding row_of
row_bne Relative h = opcode 0xD0 (record { op = ops.Bne; mode = Relative; cycles = 2; page = true }) refl
row_bne mode h = none h

row_bpl : (mode : Mode) → IsTrue (is_nmos_row ops.Bpl mode) → HasOpcode ops.Bpl mode
unfolding row_of
row_bpl Relative h = opcode 0x10 (record { op = ops.Bpl; mode = Relative; cycles = 2; page = true }) refl
row_bpl mode h = none h

row_brk : (mode : Mode) → IsTrue (is_nmos_row ops.Brk mode) → HasOpcode ops.Brk mode
unfolding row_of
row_brk Implied h = opcode 0x00 (record { op = ops.Brk; mode = Implied; cycles = 7; page = false }) refl
row_brk mode h = none h

row_bvc : (mode : Mode) → IsTrue (is_nmos_row ops.Bvc mode) → HasOpcode ops.Bvc mode
unfolding row_of
row_bvc Relative h = opcode 0x50 (record { op = ops.Bvc; mode = Relative; cycles = 2; page = true }) refl
row_bvc mode h = none h

row_bvs : (mode : Mode) → IsTrue (is_nmos_row ops.Bvs mode) → HasOpcode ops.Bvs mode
unfolding row_of
row_bvs Relative h = opcode 0x70 (record { op = ops.Bvs; mode = Relative; cycles = 2; page = true }) refl
row_bvs mode h = none h

row_clc : (mode : Mode) → IsTrue (is_nmos_row ops.Clc mode) → HasOpcode ops.Clc mode
unfolding row_of
row_clc Implied h = opcode 0x18 (record { op = ops.Clc; mode = Implied; cycles = 2; page = false }) refl
row_clc mode h = none h

row_cld : (mode : Mode) → IsTrue (is_nmos_row ops.Cld mode) → HasOpcode ops.Cld mode
unfolding row_of
row_cld Implied h = opcode 0xD8 (record { op = ops.Cld; mode = Implied; cycles = 2; page = false }) refl
row_cld mode h = none h

row_cli : (mode : Mode) → IsTrue (is_nmos_row ops.Cli mode) → HasOpcode ops.Cli mode
unfolding row_of
row_cli Implied h = opcode 0x58 (record { op = ops.Cli; mode = Implied; cycles = 2; page = false }) refl
row_cli mode h = none h

row_clv : (mode : Mode) → IsTrue (is_nmos_row ops.Clv mode) → HasOpcode ops.Clv mode
unfolding row_of
row_clv Implied h = opcode 0xB8 (record { op = ops.Clv; mode = Implied; cycles = 2; page = false }) refl
row_clv mode h = none h

row_cmp : (mode : Mode) → IsTrue (is_nmos_row ops.Cmp mode) → HasOpcode ops.Cmp mode
unfolding row_of
row_cmp Immediate h = opcode 0xC9 (record { op = ops.Cmp; mode = Immediate; cycles = 2; page = false }) refl
row_cmp ZeroPage h = opcode 0xC5 (record { op = ops.Cmp; mode = ZeroPage; cycles = 3; page = false }) refl
row_cmp ZeroPageX h = opcode 0xD5 (record { op = ops.Cmp; mode = ZeroPageX; cycles = 4; page = false }) refl
row_cmp Absolute h = opcode 0xCD (record { op = ops.Cmp; mode = Absolute; cycles = 4; page = false }) refl
row_cmp AbsoluteX h = opcode 0xDD (record { op = ops.Cmp; mode = AbsoluteX; cycles = 4; page = true }) refl
row_cmp AbsoluteY h = opcode 0xD9 (record { op = ops.Cmp; mode = AbsoluteY; cycles = 4; page = true }) refl
row_cmp IndirectX h = opcode 0xC1 (record { op = ops.Cmp; mode = IndirectX; cycles = 6; page = false }) refl
row_cmp IndirectY h = opcode 0xD1 (record { op = ops.Cmp; mode = IndirectY; cycles = 5; page = true }) refl
row_cmp mode h = none h

row_cpx : (mode : Mode) → IsTrue (is_nmos_row ops.Cpx mode) → HasOpcode ops.Cpx mode
unfolding row_of
row_cpx Immediate h = opcode 0xE0 (record { op = ops.Cpx; mode = Immediate; cycles = 2; page = false }) refl
row_cpx ZeroPage h = opcode 0xE4 (record { op = ops.Cpx; mode = ZeroPage; cycles = 3; page = false }) refl
row_cpx Absolute h = opcode 0xEC (record { op = ops.Cpx; mode = Absolute; cycles = 4; page = false }) refl
row_cpx mode h = none h

row_cpy : (mode : Mode) → IsTrue (is_nmos_row ops.Cpy mode) → HasOpcode ops.Cpy mode
unfolding row_of
row_cpy Immediate h = opcode 0xC0 (record { op = ops.Cpy; mode = Immediate; cycles = 2; page = false }) refl
row_cpy ZeroPage h = opcode 0xC4 (record { op = ops.Cpy; mode = ZeroPage; cycles = 3; page = false }) refl
row_cpy Absolute h = opcode 0xCC (record { op = ops.Cpy; mode = Absolute; cycles = 4; page = false }) refl
row_cpy mode h = none h

row_dec : (mode : Mode) → IsTrue (is_nmos_row ops.Dec mode) → HasOpcode ops.Dec mode
unfolding row_of
row_dec ZeroPage h = opcode 0xC6 (record { op = ops.Dec; mode = ZeroPage; cycles = 5; page = false }) refl
row_dec ZeroPageX h = opcode 0xD6 (record { op = ops.Dec; mode = ZeroPageX; cycles = 6; page = false }) refl
row_dec Absolute h = opcode 0xCE (record { op = ops.Dec; mode = Absolute; cycles = 6; page = false }) refl
row_dec AbsoluteX h = opcode 0xDE (record { op = ops.Dec; mode = AbsoluteX; cycles = 7; page = false }) refl
row_dec mode h = none h

row_dex : (mode : Mode) → IsTrue (is_nmos_row ops.Dex mode) → HasOpcode ops.Dex mode
unfolding row_of
row_dex Implied h = opcode 0xCA (record { op = ops.Dex; mode = Implied; cycles = 2; page = false }) refl
row_dex mode h = none h

row_dey : (mode : Mode) → IsTrue (is_nmos_row ops.Dey mode) → HasOpcode ops.Dey mode
unfolding row_of
row_dey Implied h = opcode 0x88 (record { op = ops.Dey; mode = Implied; cycles = 2; page = false }) refl
row_dey mode h = none h

row_eor : (mode : Mode) → IsTrue (is_nmos_row ops.Eor mode) → HasOpcode ops.Eor mode
unfolding row_of
row_eor Immediate h = opcode 0x49 (record { op = ops.Eor; mode = Immediate; cycles = 2; page = false }) refl
row_eor ZeroPage h = opcode 0x45 (record { op = ops.Eor; mode = ZeroPage; cycles = 3; page = false }) refl
row_eor ZeroPageX h = opcode 0x55 (record { op = ops.Eor; mode = ZeroPageX; cycles = 4; page = false }) refl
row_eor Absolute h = opcode 0x4D (record { op = ops.Eor; mode = Absolute; cycles = 4; page = false }) refl
row_eor AbsoluteX h = opcode 0x5D (record { op = ops.Eor; mode = AbsoluteX; cycles = 4; page = true }) refl
row_eor AbsoluteY h = opcode 0x59 (record { op = ops.Eor; mode = AbsoluteY; cycles = 4; page = true }) refl
row_eor IndirectX h = opcode 0x41 (record { op = ops.Eor; mode = IndirectX; cycles = 6; page = false }) refl
row_eor IndirectY h = opcode 0x51 (record { op = ops.Eor; mode = IndirectY; cycles = 5; page = true }) refl
row_eor mode h = none h

row_inc : (mode : Mode) → IsTrue (is_nmos_row ops.Inc mode) → HasOpcode ops.Inc mode
unfolding row_of
row_inc ZeroPage h = opcode 0xE6 (record { op = ops.Inc; mode = ZeroPage; cycles = 5; page = false }) refl
row_inc ZeroPageX h = opcode 0xF6 (record { op = ops.Inc; mode = ZeroPageX; cycles = 6; page = false }) refl
row_inc Absolute h = opcode 0xEE (record { op = ops.Inc; mode = Absolute; cycles = 6; page = false }) refl
row_inc AbsoluteX h = opcode 0xFE (record { op = ops.Inc; mode = AbsoluteX; cycles = 7; page = false }) refl
row_inc mode h = none h

row_inx : (mode : Mode) → IsTrue (is_nmos_row ops.Inx mode) → HasOpcode ops.Inx mode
unfolding row_of
row_inx Implied h = opcode 0xE8 (record { op = ops.Inx; mode = Implied; cycles = 2; page = false }) refl
row_inx mode h = none h

row_iny : (mode : Mode) → IsTrue (is_nmos_row ops.Iny mode) → HasOpcode ops.Iny mode
unfolding row_of
row_iny Implied h = opcode 0xC8 (record { op = ops.Iny; mode = Implied; cycles = 2; page = false }) refl
row_iny mode h = none h

row_jmp : (mode : Mode) → IsTrue (is_nmos_row ops.Jmp mode) → HasOpcode ops.Jmp mode
unfolding row_of
row_jmp Absolute h = opcode 0x4C (record { op = ops.Jmp; mode = Absolute; cycles = 3; page = false }) refl
row_jmp Indirect h = opcode 0x6C (record { op = ops.Jmp; mode = Indirect; cycles = 5; page = false }) refl
row_jmp mode h = none h

row_jsr : (mode : Mode) → IsTrue (is_nmos_row ops.Jsr mode) → HasOpcode ops.Jsr mode
unfolding row_of
row_jsr Absolute h = opcode 0x20 (record { op = ops.Jsr; mode = Absolute; cycles = 6; page = false }) refl
row_jsr mode h = none h

row_lda : (mode : Mode) → IsTrue (is_nmos_row ops.Lda mode) → HasOpcode ops.Lda mode
unfolding row_of
row_lda Immediate h = opcode 0xA9 (record { op = ops.Lda; mode = Immediate; cycles = 2; page = false }) refl
row_lda ZeroPage h = opcode 0xA5 (record { op = ops.Lda; mode = ZeroPage; cycles = 3; page = false }) refl
row_lda ZeroPageX h = opcode 0xB5 (record { op = ops.Lda; mode = ZeroPageX; cycles = 4; page = false }) refl
row_lda Absolute h = opcode 0xAD (record { op = ops.Lda; mode = Absolute; cycles = 4; page = false }) refl
row_lda AbsoluteX h = opcode 0xBD (record { op = ops.Lda; mode = AbsoluteX; cycles = 4; page = true }) refl
row_lda AbsoluteY h = opcode 0xB9 (record { op = ops.Lda; mode = AbsoluteY; cycles = 4; page = true }) refl
row_lda IndirectX h = opcode 0xA1 (record { op = ops.Lda; mode = IndirectX; cycles = 6; page = false }) refl
row_lda IndirectY h = opcode 0xB1 (record { op = ops.Lda; mode = IndirectY; cycles = 5; page = true }) refl
row_lda mode h = none h

row_ldx : (mode : Mode) → IsTrue (is_nmos_row ops.Ldx mode) → HasOpcode ops.Ldx mode
unfolding row_of
row_ldx Immediate h = opcode 0xA2 (record { op = ops.Ldx; mode = Immediate; cycles = 2; page = false }) refl
row_ldx ZeroPage h = opcode 0xA6 (record { op = ops.Ldx; mode = ZeroPage; cycles = 3; page = false }) refl
row_ldx ZeroPageY h = opcode 0xB6 (record { op = ops.Ldx; mode = ZeroPageY; cycles = 4; page = false }) refl
row_ldx Absolute h = opcode 0xAE (record { op = ops.Ldx; mode = Absolute; cycles = 4; page = false }) refl
row_ldx AbsoluteY h = opcode 0xBE (record { op = ops.Ldx; mode = AbsoluteY; cycles = 4; page = true }) refl
row_ldx mode h = none h

row_ldy : (mode : Mode) → IsTrue (is_nmos_row ops.Ldy mode) → HasOpcode ops.Ldy mode
unfolding row_of
row_ldy Immediate h = opcode 0xA0 (record { op = ops.Ldy; mode = Immediate; cycles = 2; page = false }) refl
row_ldy ZeroPage h = opcode 0xA4 (record { op = ops.Ldy; mode = ZeroPage; cycles = 3; page = false }) refl
row_ldy ZeroPageX h = opcode 0xB4 (record { op = ops.Ldy; mode = ZeroPageX; cycles = 4; page = false }) refl
row_ldy Absolute h = opcode 0xAC (record { op = ops.Ldy; mode = Absolute; cycles = 4; page = false }) refl
row_ldy AbsoluteX h = opcode 0xBC (record { op = ops.Ldy; mode = AbsoluteX; cycles = 4; page = true }) refl
row_ldy mode h = none h

row_lsr : (mode : Mode) → IsTrue (is_nmos_row ops.Lsr mode) → HasOpcode ops.Lsr mode
unfolding row_of
row_lsr Accumulator h = opcode 0x4A (record { op = ops.Lsr; mode = Accumulator; cycles = 2; page = false }) refl
row_lsr ZeroPage h = opcode 0x46 (record { op = ops.Lsr; mode = ZeroPage; cycles = 5; page = false }) refl
row_lsr ZeroPageX h = opcode 0x56 (record { op = ops.Lsr; mode = ZeroPageX; cycles = 6; page = false }) refl
row_lsr Absolute h = opcode 0x4E (record { op = ops.Lsr; mode = Absolute; cycles = 6; page = false }) refl
row_lsr AbsoluteX h = opcode 0x5E (record { op = ops.Lsr; mode = AbsoluteX; cycles = 7; page = false }) refl
row_lsr mode h = none h

row_nop : (mode : Mode) → IsTrue (is_nmos_row ops.Nop mode) → HasOpcode ops.Nop mode
unfolding row_of
row_nop Implied h = opcode 0xEA (record { op = ops.Nop; mode = Implied; cycles = 2; page = false }) refl
row_nop mode h = none h

row_ora : (mode : Mode) → IsTrue (is_nmos_row ops.Ora mode) → HasOpcode ops.Ora mode
unfolding row_of
row_ora Immediate h = opcode 0x09 (record { op = ops.Ora; mode = Immediate; cycles = 2; page = false }) refl
row_ora ZeroPage h = opcode 0x05 (record { op = ops.Ora; mode = ZeroPage; cycles = 3; page = false }) refl
row_ora ZeroPageX h = opcode 0x15 (record { op = ops.Ora; mode = ZeroPageX; cycles = 4; page = false }) refl
row_ora Absolute h = opcode 0x0D (record { op = ops.Ora; mode = Absolute; cycles = 4; page = false }) refl
row_ora AbsoluteX h = opcode 0x1D (record { op = ops.Ora; mode = AbsoluteX; cycles = 4; page = true }) refl
row_ora AbsoluteY h = opcode 0x19 (record { op = ops.Ora; mode = AbsoluteY; cycles = 4; page = true }) refl
row_ora IndirectX h = opcode 0x01 (record { op = ops.Ora; mode = IndirectX; cycles = 6; page = false }) refl
row_ora IndirectY h = opcode 0x11 (record { op = ops.Ora; mode = IndirectY; cycles = 5; page = true }) refl
row_ora mode h = none h

row_pha : (mode : Mode) → IsTrue (is_nmos_row ops.Pha mode) → HasOpcode ops.Pha mode
unfolding row_of
row_pha Implied h = opcode 0x48 (record { op = ops.Pha; mode = Implied; cycles = 3; page = false }) refl
row_pha mode h = none h

row_php : (mode : Mode) → IsTrue (is_nmos_row ops.Php mode) → HasOpcode ops.Php mode
unfolding row_of
row_php Implied h = opcode 0x08 (record { op = ops.Php; mode = Implied; cycles = 3; page = false }) refl
row_php mode h = none h

row_pla : (mode : Mode) → IsTrue (is_nmos_row ops.Pla mode) → HasOpcode ops.Pla mode
unfolding row_of
row_pla Implied h = opcode 0x68 (record { op = ops.Pla; mode = Implied; cycles = 4; page = false }) refl
row_pla mode h = none h

row_plp : (mode : Mode) → IsTrue (is_nmos_row ops.Plp mode) → HasOpcode ops.Plp mode
unfolding row_of
row_plp Implied h = opcode 0x28 (record { op = ops.Plp; mode = Implied; cycles = 4; page = false }) refl
row_plp mode h = none h

row_rol : (mode : Mode) → IsTrue (is_nmos_row ops.Rol mode) → HasOpcode ops.Rol mode
unfolding row_of
row_rol Accumulator h = opcode 0x2A (record { op = ops.Rol; mode = Accumulator; cycles = 2; page = false }) refl
row_rol ZeroPage h = opcode 0x26 (record { op = ops.Rol; mode = ZeroPage; cycles = 5; page = false }) refl
row_rol ZeroPageX h = opcode 0x36 (record { op = ops.Rol; mode = ZeroPageX; cycles = 6; page = false }) refl
row_rol Absolute h = opcode 0x2E (record { op = ops.Rol; mode = Absolute; cycles = 6; page = false }) refl
row_rol AbsoluteX h = opcode 0x3E (record { op = ops.Rol; mode = AbsoluteX; cycles = 7; page = false }) refl
row_rol mode h = none h

row_ror : (mode : Mode) → IsTrue (is_nmos_row ops.Ror mode) → HasOpcode ops.Ror mode
unfolding row_of
row_ror Accumulator h = opcode 0x6A (record { op = ops.Ror; mode = Accumulator; cycles = 2; page = false }) refl
row_ror ZeroPage h = opcode 0x66 (record { op = ops.Ror; mode = ZeroPage; cycles = 5; page = false }) refl
row_ror ZeroPageX h = opcode 0x76 (record { op = ops.Ror; mode = ZeroPageX; cycles = 6; page = false }) refl
row_ror Absolute h = opcode 0x6E (record { op = ops.Ror; mode = Absolute; cycles = 6; page = false }) refl
row_ror AbsoluteX h = opcode 0x7E (record { op = ops.Ror; mode = AbsoluteX; cycles = 7; page = false }) refl
row_ror mode h = none h

row_rti : (mode : Mode) → IsTrue (is_nmos_row ops.Rti mode) → HasOpcode ops.Rti mode
unfolding row_of
row_rti Implied h = opcode 0x40 (record { op = ops.Rti; mode = Implied; cycles = 6; page = false }) refl
row_rti mode h = none h

row_rts : (mode : Mode) → IsTrue (is_nmos_row ops.Rts mode) → HasOpcode ops.Rts mode
unfolding row_of
row_rts Implied h = opcode 0x60 (record { op = ops.Rts; mode = Implied; cycles = 6; page = false }) refl
row_rts mode h = none h

row_sbc : (mode : Mode) → IsTrue (is_nmos_row ops.Sbc mode) → HasOpcode ops.Sbc mode
unfolding row_of
row_sbc Immediate h = opcode 0xE9 (record { op = ops.Sbc; mode = Immediate; cycles = 2; page = false }) refl
row_sbc ZeroPage h = opcode 0xE5 (record { op = ops.Sbc; mode = ZeroPage; cycles = 3; page = false }) refl
row_sbc ZeroPageX h = opcode 0xF5 (record { op = ops.Sbc; mode = ZeroPageX; cycles = 4; page = false }) refl
row_sbc Absolute h = opcode 0xED (record { op = ops.Sbc; mode = Absolute; cycles = 4; page = false }) refl
row_sbc AbsoluteX h = opcode 0xFD (record { op = ops.Sbc; mode = AbsoluteX; cycles = 4; page = true }) refl
row_sbc AbsoluteY h = opcode 0xF9 (record { op = ops.Sbc; mode = AbsoluteY; cycles = 4; page = true }) refl
row_sbc IndirectX h = opcode 0xE1 (record { op = ops.Sbc; mode = IndirectX; cycles = 6; page = false }) refl
row_sbc IndirectY h = opcode 0xF1 (record { op = ops.Sbc; mode = IndirectY; cycles = 5; page = true }) refl
row_sbc mode h = none h

row_sec : (mode : Mode) → IsTrue (is_nmos_row ops.Sec mode) → HasOpcode ops.Sec mode
unfolding row_of
row_sec Implied h = opcode 0x38 (record { op = ops.Sec; mode = Implied; cycles = 2; page = false }) refl
row_sec mode h = none h

row_sed : (mode : Mode) → IsTrue (is_nmos_row ops.Sed mode) → HasOpcode ops.Sed mode
unfolding row_of
row_sed Implied h = opcode 0xF8 (record { op = ops.Sed; mode = Implied; cycles = 2; page = false }) refl
row_sed mode h = none h

row_sei : (mode : Mode) → IsTrue (is_nmos_row ops.Sei mode) → HasOpcode ops.Sei mode
unfolding row_of
row_sei Implied h = opcode 0x78 (record { op = ops.Sei; mode = Implied; cycles = 2; page = false }) refl
row_sei mode h = none h

row_sta : (mode : Mode) → IsTrue (is_nmos_row ops.Sta mode) → HasOpcode ops.Sta mode
unfolding row_of
row_sta ZeroPage h = opcode 0x85 (record { op = ops.Sta; mode = ZeroPage; cycles = 3; page = false }) refl
row_sta ZeroPageX h = opcode 0x95 (record { op = ops.Sta; mode = ZeroPageX; cycles = 4; page = false }) refl
row_sta Absolute h = opcode 0x8D (record { op = ops.Sta; mode = Absolute; cycles = 4; page = false }) refl
row_sta AbsoluteX h = opcode 0x9D (record { op = ops.Sta; mode = AbsoluteX; cycles = 5; page = false }) refl
row_sta AbsoluteY h = opcode 0x99 (record { op = ops.Sta; mode = AbsoluteY; cycles = 5; page = false }) refl
row_sta IndirectX h = opcode 0x81 (record { op = ops.Sta; mode = IndirectX; cycles = 6; page = false }) refl
row_sta IndirectY h = opcode 0x91 (record { op = ops.Sta; mode = IndirectY; cycles = 6; page = false }) refl
row_sta mode h = none h

row_stx : (mode : Mode) → IsTrue (is_nmos_row ops.Stx mode) → HasOpcode ops.Stx mode
unfolding row_of
row_stx ZeroPage h = opcode 0x86 (record { op = ops.Stx; mode = ZeroPage; cycles = 3; page = false }) refl
row_stx ZeroPageY h = opcode 0x96 (record { op = ops.Stx; mode = ZeroPageY; cycles = 4; page = false }) refl
row_stx Absolute h = opcode 0x8E (record { op = ops.Stx; mode = Absolute; cycles = 4; page = false }) refl
row_stx mode h = none h

row_sty : (mode : Mode) → IsTrue (is_nmos_row ops.Sty mode) → HasOpcode ops.Sty mode
unfolding row_of
row_sty ZeroPage h = opcode 0x84 (record { op = ops.Sty; mode = ZeroPage; cycles = 3; page = false }) refl
row_sty ZeroPageX h = opcode 0x94 (record { op = ops.Sty; mode = ZeroPageX; cycles = 4; page = false }) refl
row_sty Absolute h = opcode 0x8C (record { op = ops.Sty; mode = Absolute; cycles = 4; page = false }) refl
row_sty mode h = none h

row_tax : (mode : Mode) → IsTrue (is_nmos_row ops.Tax mode) → HasOpcode ops.Tax mode
unfolding row_of
row_tax Implied h = opcode 0xAA (record { op = ops.Tax; mode = Implied; cycles = 2; page = false }) refl
row_tax mode h = none h

row_tay : (mode : Mode) → IsTrue (is_nmos_row ops.Tay mode) → HasOpcode ops.Tay mode
unfolding row_of
row_tay Implied h = opcode 0xA8 (record { op = ops.Tay; mode = Implied; cycles = 2; page = false }) refl
row_tay mode h = none h

row_tsx : (mode : Mode) → IsTrue (is_nmos_row ops.Tsx mode) → HasOpcode ops.Tsx mode
unfolding row_of
row_tsx Implied h = opcode 0xBA (record { op = ops.Tsx; mode = Implied; cycles = 2; page = false }) refl
row_tsx mode h = none h

row_txa : (mode : Mode) → IsTrue (is_nmos_row ops.Txa mode) → HasOpcode ops.Txa mode
unfolding row_of
row_txa Implied h = opcode 0x8A (record { op = ops.Txa; mode = Implied; cycles = 2; page = false }) refl
row_txa mode h = none h

row_txs : (mode : Mode) → IsTrue (is_nmos_row ops.Txs mode) → HasOpcode ops.Txs mode
unfolding row_of
row_txs Implied h = opcode 0x9A (record { op = ops.Txs; mode = Implied; cycles = 2; page = false }) refl
row_txs mode h = none h

row_tya : (mode : Mode) → IsTrue (is_nmos_row ops.Tya mode) → HasOpcode ops.Tya mode
unfolding row_of
row_tya Implied h = opcode 0x98 (record { op = ops.Tya; mode = Implied; cycles = 2; page = false }) refl
row_tya mode h = none h

has_opcode : (op : Op) (mode : Mode) → IsTrue (is_nmos_row op mode) → HasOpcode op mode
has_opcode ops.Bra mode h = none h
has_opcode ops.Phx mode h = none h
has_opcode ops.Phy mode h = none h
has_opcode ops.Plx mode h = none h
has_opcode ops.Ply mode h = none h
has_opcode ops.Stz mode h = none h
has_opcode ops.Trb mode h = none h
has_opcode ops.Tsb mode h = none h
has_opcode ops.Adc mode h = row_adc mode h
has_opcode ops.And mode h = row_and mode h
has_opcode ops.Asl mode h = row_asl mode h
has_opcode ops.Bcc mode h = row_bcc mode h
has_opcode ops.Bcs mode h = row_bcs mode h
has_opcode ops.Beq mode h = row_beq mode h
has_opcode ops.Bit mode h = row_bit mode h
has_opcode ops.Bmi mode h = row_bmi mode h
has_opcode ops.Bne mode h = row_bne mode h
has_opcode ops.Bpl mode h = row_bpl mode h
has_opcode ops.Brk mode h = row_brk mode h
has_opcode ops.Bvc mode h = row_bvc mode h
has_opcode ops.Bvs mode h = row_bvs mode h
has_opcode ops.Clc mode h = row_clc mode h
has_opcode ops.Cld mode h = row_cld mode h
has_opcode ops.Cli mode h = row_cli mode h
has_opcode ops.Clv mode h = row_clv mode h
has_opcode ops.Cmp mode h = row_cmp mode h
has_opcode ops.Cpx mode h = row_cpx mode h
has_opcode ops.Cpy mode h = row_cpy mode h
has_opcode ops.Dec mode h = row_dec mode h
has_opcode ops.Dex mode h = row_dex mode h
has_opcode ops.Dey mode h = row_dey mode h
has_opcode ops.Eor mode h = row_eor mode h
has_opcode ops.Inc mode h = row_inc mode h
has_opcode ops.Inx mode h = row_inx mode h
has_opcode ops.Iny mode h = row_iny mode h
has_opcode ops.Jmp mode h = row_jmp mode h
has_opcode ops.Jsr mode h = row_jsr mode h
has_opcode ops.Lda mode h = row_lda mode h
has_opcode ops.Ldx mode h = row_ldx mode h
has_opcode ops.Ldy mode h = row_ldy mode h
has_opcode ops.Lsr mode h = row_lsr mode h
has_opcode ops.Nop mode h = row_nop mode h
has_opcode ops.Ora mode h = row_ora mode h
has_opcode ops.Pha mode h = row_pha mode h
has_opcode ops.Php mode h = row_php mode h
has_opcode ops.Pla mode h = row_pla mode h
has_opcode ops.Plp mode h = row_plp mode h
has_opcode ops.Rol mode h = row_rol mode h
has_opcode ops.Ror mode h = row_ror mode h
has_opcode ops.Rti mode h = row_rti mode h
has_opcode ops.Rts mode h = row_rts mode h
has_opcode ops.Sbc mode h = row_sbc mode h
has_opcode ops.Sec mode h = row_sec mode h
has_opcode ops.Sed mode h = row_sed mode h
has_opcode ops.Sei mode h = row_sei mode h
has_opcode ops.Sta mode h = row_sta mode h
has_opcode ops.Stx mode h = row_stx mode h
has_opcode ops.Sty mode h = row_sty mode h
has_opcode ops.Tax mode h = row_tax mode h
has_opcode ops.Tay mode h = row_tay mode h
has_opcode ops.Tsx mode h = row_tsx mode h
has_opcode ops.Txa mode h = row_txa mode h
has_opcode ops.Txs mode h = row_txs mode h
has_opcode ops.Tya mode h = row_tya mode h

-- what is found in entries that all have a property has it
abbrev is_right : Entry → Bool
is_right e = is_nmos_row e.row.op e.row.mode

same_row : (r q : Row) → Some r ≡ Some q → r ≡ q
same_row r q e = cc

picked : (b : Bool) (r : Row) (rest : Option Row) (row : Row) → is_nmos_row r.op r.mode ≡ true → (rest ≡ Some row → is_nmos_row row.op row.mode ≡ true) → cond b (Some r) rest ≡ Some row → is_nmos_row row.op row.mode ≡ true
picked true r rest row here there e = subst (λ (q : Row). is_nmos_row q.op q.mode ≡ true) (same_row r row e) here
picked false r rest row here there e = there e

found_right : (byte : ℕ) (es : List Entry) (row : Row) → list_all is_right es ≡ true → found byte es ≡ Some row → is_nmos_row row.op row.mode ≡ true
found_right byte [] row all e = absurd cc
found_right byte (entry ∷ es) row all e =
    let parts = and_parts (is_right entry) (list_all is_right es) all in
    picked (byte == entry.byte) entry.row (found byte es) row parts.0 (λ f. found_right byte es row parts.1 f) e

all_right : list_all is_right table ≡ true
all_right = refl

opcode_right : (byte : ℕ) (row : Row) → row_of byte ≡ Some row → is_nmos_row row.op row.mode ≡ true
unfolding row_of
opcode_right byte row e = found_right byte table row all_right e

pub rows_are_the_tables : RowsAreTheTables
rows_are_the_tables op mode = (
  has_opcode op mode,
  λ h. subst (λ m. is_nmos_row op m ≡ true) h.mode_is (subst (λ o. is_nmos_row o h.row.mode ≡ true) h.op_is (opcode_right h.byte h.row h.found)),
)

zeroed : (mode : Mode) → IsTrue (is_added_row ops.Stz mode) → HasAddedOpcode ops.Stz mode
zeroed ZeroPage h = record { byte = 0x64; row = record { op = ops.Stz; mode = ZeroPage; cycles = 3; page = false }; found = refl; op_is = refl; mode_is = refl }
zeroed Absolute h = record { byte = 0x9C; row = record { op = ops.Stz; mode = Absolute; cycles = 4; page = false }; found = refl; op_is = refl; mode_is = refl }
zeroed mode h = none h

pub added_rows_are_the_tables : AddedRowsAreTheTables
added_rows_are_the_tables ops.Stz mode h = zeroed mode h
added_rows_are_the_tables ops.Inc Accumulator h = record { byte = 0x1A; row = record { op = ops.Inc; mode = Accumulator; cycles = 2; page = false }; found = refl; op_is = refl; mode_is = refl }
added_rows_are_the_tables ops.Dec Accumulator h = record { byte = 0x3A; row = record { op = ops.Dec; mode = Accumulator; cycles = 2; page = false }; found = refl; op_is = refl; mode_is = refl }
added_rows_are_the_tables ops.Lda ZeroPageIndirect h = record { byte = 0xB2; row = record { op = ops.Lda; mode = ZeroPageIndirect; cycles = 5; page = false }; found = refl; op_is = refl; mode_is = refl }
added_rows_are_the_tables ops.Sta ZeroPageIndirect h = record { byte = 0x92; row = record { op = ops.Sta; mode = ZeroPageIndirect; cycles = 5; page = false }; found = refl; op_is = refl; mode_is = refl }
added_rows_are_the_tables op mode h = none h
