-- What a line reads, and what it sets whatever was there.
use Rattle.std.specs.Prelude.{ℕ, ◌+◌, ◌%◌, Bool, true, false, if◌then◌else◌, nat_lt, List, [], ◌∷◌}
use Rattle.c65_mach.specs.declared.rows.Op.{Op}
use Rattle.c65_mach.specs.declared.rows.Op.TheVariants as ops
use Rattle.c65_mach.specs.declared.rows.Mode.{Mode}
use Rattle.c65_mach.specs.declared.rows.Mode.TheVariants.{Accumulator, ZeroPage, ZeroPageX, ZeroPageY, AbsoluteX, AbsoluteY, IndirectX, IndirectY, Indirect, ZeroPageIndirect}
use Rattle.c65_mach.specs.Step.{Kind, Reads, Stores, Changes, kind_of}
use Rattle.c65_code.specs.declared.parts.Part.{Part}
use Rattle.c65_code.specs.declared.parts.Part.TheVariants.{A, X, Y, Zp, N, V, Z, C}
use Rattle.c65_code.specs.declared.parts.RegSet.{RegSet}
use Rattle.c65_code.specs.declared.line.Operand.{Operand}
use Rattle.c65_code.specs.declared.line.Operand.TheVariants.{Zero}
use Rattle.c65_code.specs.declared.line.Callee.{Callee}
use Rattle.c65_code.specs.declared.line.Callee.TheVariants as callees
use Rattle.c65_code.specs.declared.line.Line.{Line}
use Rattle.c65_code.specs.declared.line.Line.TheVariants.{Label, Do, Call}
use Rattle.c65_code.specs.Parts.{no_parts, all_parts, union_of, minus_of, set_of}
use Rattle.c65_code.specs.Effects.{zero_page, ptr4_bytes, kept_at_calls, routine_reads, routine_sets}

-- a zero-page byte, where it is one of the 26
abbrev pub byte_at : ℕ → RegSet
byte_at i = if nat_lt i 26 then set_of (Zp i ∷ []) else no_parts

-- the two bytes of a pointer in the zero page, whose high byte stays in that page
abbrev pub pointer_at : Operand → RegSet
pointer_at (Zero i) = union_of (byte_at i) (byte_at ((i + 1) % 256))
pointer_at _ = no_parts

-- the registers and flags that an operation works on (MCS6500 Programming Manual, appendix A, and the 65C02's operations)
abbrev pub register_reads : Op → Mode → List Part
register_reads ops.Adc m = A ∷ C ∷ []
register_reads ops.And m = A ∷ []
register_reads ops.Asl Accumulator = A ∷ []
register_reads ops.Bcc m = C ∷ []
register_reads ops.Bcs m = C ∷ []
register_reads ops.Beq m = Z ∷ []
register_reads ops.Bit m = A ∷ []
register_reads ops.Bmi m = N ∷ []
register_reads ops.Bne m = Z ∷ []
register_reads ops.Bpl m = N ∷ []
register_reads ops.Brk m = N ∷ V ∷ Z ∷ C ∷ []
register_reads ops.Bvc m = V ∷ []
register_reads ops.Bvs m = V ∷ []
register_reads ops.Cmp m = A ∷ []
register_reads ops.Cpx m = X ∷ []
register_reads ops.Cpy m = Y ∷ []
register_reads ops.Dec Accumulator = A ∷ []
register_reads ops.Dex m = X ∷ []
register_reads ops.Dey m = Y ∷ []
register_reads ops.Eor m = A ∷ []
register_reads ops.Inc Accumulator = A ∷ []
register_reads ops.Inx m = X ∷ []
register_reads ops.Iny m = Y ∷ []
register_reads ops.Lsr Accumulator = A ∷ []
register_reads ops.Ora m = A ∷ []
register_reads ops.Pha m = A ∷ []
register_reads ops.Php m = N ∷ V ∷ Z ∷ C ∷ []
register_reads ops.Phx m = X ∷ []
register_reads ops.Phy m = Y ∷ []
register_reads ops.Rol Accumulator = A ∷ C ∷ []
register_reads ops.Rol m = C ∷ []
register_reads ops.Ror Accumulator = A ∷ C ∷ []
register_reads ops.Ror m = C ∷ []
register_reads ops.Sbc m = A ∷ C ∷ []
register_reads ops.Sta m = A ∷ []
register_reads ops.Stx m = X ∷ []
register_reads ops.Sty m = Y ∷ []
register_reads ops.Tax m = A ∷ []
register_reads ops.Tay m = A ∷ []
register_reads ops.Trb m = A ∷ []
register_reads ops.Tsb m = A ∷ []
register_reads ops.Txa m = X ∷ []
register_reads ops.Txs m = X ∷ []
register_reads ops.Tya m = Y ∷ []
register_reads _ m = []

-- the registers and flags that it sets
abbrev pub register_sets : Op → Mode → List Part
register_sets ops.Adc m = A ∷ N ∷ V ∷ Z ∷ C ∷ []
register_sets ops.And m = A ∷ N ∷ Z ∷ []
register_sets ops.Asl Accumulator = A ∷ N ∷ Z ∷ C ∷ []
register_sets ops.Asl m = N ∷ Z ∷ C ∷ []
register_sets ops.Bit m = N ∷ V ∷ Z ∷ []
register_sets ops.Clc m = C ∷ []
register_sets ops.Clv m = V ∷ []
register_sets ops.Cmp m = N ∷ Z ∷ C ∷ []
register_sets ops.Cpx m = N ∷ Z ∷ C ∷ []
register_sets ops.Cpy m = N ∷ Z ∷ C ∷ []
register_sets ops.Dec Accumulator = A ∷ N ∷ Z ∷ []
register_sets ops.Dec m = N ∷ Z ∷ []
register_sets ops.Dex m = X ∷ N ∷ Z ∷ []
register_sets ops.Dey m = Y ∷ N ∷ Z ∷ []
register_sets ops.Eor m = A ∷ N ∷ Z ∷ []
register_sets ops.Inc Accumulator = A ∷ N ∷ Z ∷ []
register_sets ops.Inc m = N ∷ Z ∷ []
register_sets ops.Inx m = X ∷ N ∷ Z ∷ []
register_sets ops.Iny m = Y ∷ N ∷ Z ∷ []
register_sets ops.Lda m = A ∷ N ∷ Z ∷ []
register_sets ops.Ldx m = X ∷ N ∷ Z ∷ []
register_sets ops.Ldy m = Y ∷ N ∷ Z ∷ []
register_sets ops.Lsr Accumulator = A ∷ N ∷ Z ∷ C ∷ []
register_sets ops.Lsr m = N ∷ Z ∷ C ∷ []
register_sets ops.Ora m = A ∷ N ∷ Z ∷ []
register_sets ops.Pla m = A ∷ N ∷ Z ∷ []
register_sets ops.Plp m = N ∷ V ∷ Z ∷ C ∷ []
register_sets ops.Plx m = X ∷ N ∷ Z ∷ []
register_sets ops.Ply m = Y ∷ N ∷ Z ∷ []
register_sets ops.Rol Accumulator = A ∷ N ∷ Z ∷ C ∷ []
register_sets ops.Rol m = N ∷ Z ∷ C ∷ []
register_sets ops.Ror Accumulator = A ∷ N ∷ Z ∷ C ∷ []
register_sets ops.Ror m = N ∷ Z ∷ C ∷ []
register_sets ops.Rti m = N ∷ V ∷ Z ∷ C ∷ []
register_sets ops.Sbc m = A ∷ N ∷ V ∷ Z ∷ C ∷ []
register_sets ops.Sec m = C ∷ []
register_sets ops.Tax m = X ∷ N ∷ Z ∷ []
register_sets ops.Tay m = Y ∷ N ∷ Z ∷ []
register_sets ops.Trb m = Z ∷ []
register_sets ops.Tsb m = Z ∷ []
register_sets ops.Tsx m = X ∷ N ∷ Z ∷ []
register_sets ops.Txa m = A ∷ N ∷ Z ∷ []
register_sets ops.Tya m = A ∷ N ∷ Z ∷ []
register_sets _ m = []

-- what a mode reads to find the operand: an index, and where the address stands in the zero page
abbrev pub address_reads : Mode → Operand → RegSet
address_reads ZeroPageX operand = set_of (X ∷ [])
address_reads ZeroPageY operand = set_of (Y ∷ [])
address_reads AbsoluteX operand = set_of (X ∷ [])
address_reads AbsoluteY operand = set_of (Y ∷ [])
address_reads IndirectX operand = union_of (set_of (X ∷ [])) zero_page
address_reads IndirectY operand = union_of (set_of (Y ∷ [])) (pointer_at operand)
address_reads Indirect operand = pointer_at operand
address_reads ZeroPageIndirect operand = pointer_at operand
address_reads _ operand = no_parts

-- the zero-page bytes that the operand may be
abbrev pub operand_bytes : Mode → Operand → RegSet
operand_bytes ZeroPage (Zero i) = byte_at i
operand_bytes ZeroPageX operand = zero_page
operand_bytes ZeroPageY operand = zero_page
operand_bytes _ operand = no_parts

-- the zero-page byte that the operand is
abbrev pub operand_byte : Mode → Operand → RegSet
operand_byte ZeroPage (Zero i) = byte_at i
operand_byte _ operand = no_parts

-- whether an operation reads the operand, and whether it writes it
abbrev pub is_read : Kind → Bool
is_read Reads = true
is_read Changes = true
is_read _ = false

abbrev pub is_written : Kind → Bool
is_written Stores = true
is_written Changes = true
is_written _ = false

-- at RTS what the function gives, sp and regbank are read
abbrev pub return_reads : RegSet → Op → RegSet
return_reads out ops.Rts = union_of out kept_at_calls
return_reads out _ = no_parts

abbrev pub op_reads : RegSet → Op → Mode → Operand → RegSet
op_reads out op mode operand = union_of (union_of (return_reads out op) (set_of (register_reads op mode))) (union_of (address_reads mode operand) (if is_read (kind_of op) then operand_bytes mode operand else no_parts))

abbrev pub op_sets : Op → Mode → Operand → RegSet
op_sets op mode operand = union_of (set_of (register_sets op mode)) (if is_written (kind_of op) then operand_byte mode operand else no_parts)

-- a function finds sp and regbank as its caller left them; a call through a pointer reads ptr4 too
abbrev pub callee_reads : Callee → RegSet
callee_reads (callees.Routine r) = routine_reads r
callee_reads (callees.Function f reads gives) = union_of reads kept_at_calls
callee_reads (callees.Pointer reads gives) = union_of (union_of reads kept_at_calls) ptr4_bytes

-- a function may change all but sp and regbank
abbrev pub callee_sets : Callee → RegSet
callee_sets (callees.Routine r) = routine_sets r
callee_sets (callees.Function f reads gives) = minus_of all_parts kept_at_calls
callee_sets (callees.Pointer reads gives) = minus_of all_parts kept_at_calls

abbrev pub line_reads : RegSet → Line → RegSet
line_reads out (Label l) = no_parts
line_reads out (Do op mode operand) = op_reads out op mode operand
line_reads out (Call callee) = callee_reads callee

abbrev pub line_sets : Line → RegSet
line_sets (Label l) = no_parts
line_sets (Do op mode operand) = op_sets op mode operand
line_sets (Call callee) = callee_sets callee
