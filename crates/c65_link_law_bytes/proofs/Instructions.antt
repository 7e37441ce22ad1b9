-- The bytes of one line.
use Rattle.std.proofs.Common.{ℕ, ◌%◌, ◌/◌, ◌<◌, ◌≤◌, Bool, true, false, List, [], ◌∷◌, ◌++◌, All, arith}
use Rattle.std.proofs.lemmas.List.Elements.{All-nil, All-cons, All-append}
use Rattle.c65_mach.specs.declared.rows.Op.{Op}
use Rattle.c65_mach.specs.declared.rows.Op.TheVariants as ops
use Rattle.c65_mach.specs.declared.rows.Mode.{Mode}
use Rattle.c65_mach.specs.declared.rows.Mode.TheVariants.{Implied, Accumulator, Immediate, ZeroPage, ZeroPageX, ZeroPageY, Absolute, AbsoluteX, AbsoluteY, IndirectX, IndirectY, Indirect, Relative, ZeroPageIndirect, AbsoluteIndirectX}
use Rattle.c65_code.specs.declared.line.Operand.{Operand}
use Rattle.c65_code.specs.declared.line.Operand.TheVariants as operands
use Rattle.c65_link.specs.Opcodes.{common_column, shift_column, counting_opcode, index_column, bit_opcode, zero_opcode, jump_opcode, opcode_of, opposite_of}
use Rattle.c65_link.specs.Bytes.{word_bytes, operand_bytes, instruction, Spot, word_of, distance, branch_bytes}
use Rattle.c65_link_law_follow.specs.Laid.{IsOperandNumber}

abbrev pub AreBytes : List ℕ → Type 0
AreBytes bytes = All (λ v. v < 256) bytes

pub one_byte : (v : ℕ) → v < 256 → AreBytes (v ∷ [])
one_byte v h = All-cons (λ v. v < 256) v [] h (All-nil (λ v. v < 256))

pub both : (xs ys : List ℕ) → AreBytes xs → AreBytes ys → AreBytes (xs ++ ys)
both xs ys h k = All-append (λ v. v < 256) xs ys h k

-- Opcodes

common_low : (mode : Mode) → common_column mode < 32
common_low Immediate = omega arith
common_low ZeroPage = omega arith
common_low ZeroPageX = omega arith
common_low Absolute = omega arith
common_low AbsoluteX = omega arith
common_low AbsoluteY = omega arith
common_low IndirectX = omega arith
common_low IndirectY = omega arith
common_low ZeroPageIndirect = omega arith
common_low _ = omega arith

shift_low : (mode : Mode) → shift_column mode < 32
shift_low Accumulator = omega arith
shift_low ZeroPage = omega arith
shift_low ZeroPageX = omega arith
shift_low Absolute = omega arith
shift_low AbsoluteX = omega arith
shift_low _ = omega arith

index_low : (mode : Mode) → index_column mode < 30
index_low ZeroPage = omega arith
index_low ZeroPageX = omega arith
index_low ZeroPageY = omega arith
index_low Absolute = omega arith
index_low AbsoluteX = omega arith
index_low AbsoluteY = omega arith
index_low _ = omega arith

counting_byte : (mode : Mode) (row in_a : ℕ) → row ≤ 224 → in_a < 256 → counting_opcode row in_a mode < 256
counting_byte Accumulator row in_a h k = k
counting_byte Implied row in_a h k = omega (arith, h)
counting_byte Immediate row in_a h k = omega (arith, h)
counting_byte ZeroPage row in_a h k = omega (arith, h)
counting_byte ZeroPageX row in_a h k = omega (arith, h)
counting_byte ZeroPageY row in_a h k = omega (arith, h)
counting_byte Absolute row in_a h k = omega (arith, h)
counting_byte AbsoluteX row in_a h k = omega (arith, h)
counting_byte AbsoluteY row in_a h k = omega (arith, h)
counting_byte IndirectX row in_a h k = omega (arith, h)
counting_byte IndirectY row in_a h k = omega (arith, h)
counting_byte Indirect row in_a h k = omega (arith, h)
counting_byte Relative row in_a h k = omega (arith, h)
counting_byte ZeroPageIndirect row in_a h k = omega (arith, h)
counting_byte AbsoluteIndirectX row in_a h k = omega (arith, h)

bit_byte : (mode : Mode) → bit_opcode mode < 256
bit_byte Immediate = omega arith
bit_byte ZeroPage = omega arith
bit_byte ZeroPageX = omega arith
bit_byte ZeroPageY = omega arith
bit_byte Absolute = omega arith
bit_byte AbsoluteX = omega arith
bit_byte AbsoluteY = omega arith
bit_byte _ = omega arith

zero_byte : (mode : Mode) → zero_opcode mode < 256
zero_byte ZeroPage = omega arith
zero_byte ZeroPageX = omega arith
zero_byte Absolute = omega arith
zero_byte _ = omega arith

jump_byte : (mode : Mode) → jump_opcode mode < 256
jump_byte Indirect = omega arith
jump_byte AbsoluteIndirectX = omega arith
jump_byte _ = omega arith

pub opcode_byte : (op : Op) (mode : Mode) → opcode_of op mode < 256
opcode_byte ops.Ora mode = let c = common_low mode in omega (arith, c)
opcode_byte ops.And mode = let c = common_low mode in omega (arith, c)
opcode_byte ops.Eor mode = let c = common_low mode in omega (arith, c)
opcode_byte ops.Adc mode = let c = common_low mode in omega (arith, c)
opcode_byte ops.Sta mode = let c = common_low mode in omega (arith, c)
opcode_byte ops.Lda mode = let c = common_low mode in omega (arith, c)
opcode_byte ops.Cmp mode = let c = common_low mode in omega (arith, c)
opcode_byte ops.Sbc mode = let c = common_low mode in omega (arith, c)
opcode_byte ops.Asl mode = let c = shift_low mode in omega (arith, c)
opcode_byte ops.Rol mode = let c = shift_low mode in omega (arith, c)
opcode_byte ops.Lsr mode = let c = shift_low mode in omega (arith, c)
opcode_byte ops.Ror mode = let c = shift_low mode in omega (arith, c)
opcode_byte ops.Dec mode = counting_byte mode 0xC0 0x3A (omega arith) (omega arith)
opcode_byte ops.Inc mode = counting_byte mode 0xE0 0x1A (omega arith) (omega arith)
opcode_byte ops.Bit mode = bit_byte mode
opcode_byte ops.Tsb mode = let c = index_low mode in omega (arith, c)
opcode_byte ops.Trb mode = let c = index_low mode in omega (arith, c)
opcode_byte ops.Stz mode = zero_byte mode
opcode_byte ops.Sty mode = let c = index_low mode in omega (arith, c)
opcode_byte ops.Stx mode = let c = index_low mode in omega (arith, c)
opcode_byte ops.Ldy mode = let c = index_low mode in omega (arith, c)
opcode_byte ops.Ldx mode = let c = index_low mode in omega (arith, c)
opcode_byte ops.Cpy mode = let c = index_low mode in omega (arith, c)
opcode_byte ops.Cpx mode = let c = index_low mode in omega (arith, c)
opcode_byte ops.Jmp mode = jump_byte mode
opcode_byte _ mode = omega arith

-- Operands

pub words_bytes : (w : ℕ) → w < 65536 → AreBytes (word_bytes w)
words_bytes w h = All-cons (λ v. v < 256) (w % 256) (w / 256 ∷ []) (omega arith) (one_byte (w / 256) (omega (arith, h)))

low_byte : (w : ℕ) → AreBytes (w % 256 ∷ [])
low_byte w = one_byte (w % 256) (omega arith)

operands_bytes : (mode : Mode) (w : ℕ) → w < 65536 → AreBytes (operand_bytes mode w)
operands_bytes Implied w h = All-nil (λ v. v < 256)
operands_bytes Accumulator w h = All-nil (λ v. v < 256)
operands_bytes Absolute w h = words_bytes w h
operands_bytes AbsoluteX w h = words_bytes w h
operands_bytes AbsoluteY w h = words_bytes w h
operands_bytes Indirect w h = words_bytes w h
operands_bytes AbsoluteIndirectX w h = words_bytes w h
operands_bytes _ w h = low_byte w

pub instruction_bytes : (op : Op) (mode : Mode) (w : ℕ) → w < 65536 → AreBytes (instruction op mode w)
instruction_bytes op mode w h = All-cons (λ v. v < 256) (opcode_of op mode) (operand_bytes mode w) (opcode_byte op mode) (operands_bytes mode w h)

pub branches_bytes : (b : Bool) (op : Op) (from to : ℕ) → to < 65536 → AreBytes (branch_bytes b op from to)
branches_bytes true op from to h = instruction_bytes op Relative (distance from to) (omega arith)
branches_bytes false op from to h = both (instruction (opposite_of op) Relative 3) (instruction ops.Jmp Absolute to) (instruction_bytes (opposite_of op) Relative 3 (omega arith)) (instruction_bytes ops.Jmp Absolute to h)

pub operand_word : (operand : Operand) (spot : Spot) → IsOperandNumber operand → word_of spot operand < 65536
operand_word operands.Nothing spot h = omega arith
operand_word (operands.Byte v) spot h = omega (arith, h)
operand_word (operands.Low sym offset) spot h = omega arith
operand_word (operands.High sym offset) spot h = omega arith
operand_word (operands.Zero i) spot h = omega (arith, h)
operand_word (operands.At sym offset) spot h = omega arith
operand_word (operands.To l) spot h = omega arith
