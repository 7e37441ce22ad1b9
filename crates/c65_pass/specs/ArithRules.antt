-- The rules on arithmetic, comparisons and flags, each at the line of a place and the lines after it.
use Rattle.std.specs.Prelude.{ℕ, ◌+◌, ◌==◌, ◌&&◌, Bool, true, false, if◌then◌else◌, is_some, bit_and, bit_or, bit_xor, List, [], ◌∷◌, Option, Some, None}
use Rattle.c65_mach.specs.declared.rows.Op.{Op}
use Rattle.c65_mach.specs.declared.rows.Op.TheVariants as ops
use Rattle.c65_mach.specs.declared.rows.Mode.{Mode}
use Rattle.c65_mach.specs.declared.rows.Mode.TheVariants.{Accumulator, Immediate}
use Rattle.c65_code.specs.declared.parts.Part.TheVariants as parts
use Rattle.c65_code.specs.declared.line.Operand.TheVariants.{Byte}
use Rattle.c65_code.specs.declared.line.Line.{Line}
use Rattle.c65_code.specs.declared.line.Line.TheVariants.{Do}
use Rattle.c65_code.specs.Access.{line_sets}
use Rattle.c65_code.specs.Parts.{set_of}
use Rattle.c65_know.specs.declared.note.Note.{Note}
use Rattle.c65_know.specs.declared.note.Flag.TheVariants as flags
use Rattle.c65_live.specs.Tables.{Table, is_dead}
use Rattle.c65_pass.specs.declared.register.Register.{Register}
use Rattle.c65_pass.specs.declared.register.Register.TheVariants.{A, X, Y}
use Rattle.c65_pass.specs.FlowRules.{gone_if, alone_if, shows}
use Rattle.c65_pass.specs.LoadRules.{are_one, are_flags_dead, instead}
use Rattle.c65_pass.specs.Rewriting.{Rewriting}

-- the line and the one after it go
abbrev pub both_gone_if : Bool → ℕ → Option Rewriting
both_gone_if true at = Some (record { at = at; count = 2; lines = [] })
both_gone_if false at = None

-- whether C has a value
abbrev pub has_carry : Option Note → Option Bool → Bool
has_carry known None = false
has_carry known (Some c) = shows (Some flags.C) c known

-- the carry that CLC and SEC leave
abbrev pub carry_of : Op → Option Bool
carry_of ops.Clc = Some false
carry_of ops.Sec = Some true
carry_of _ = None

-- CLC or SEC where C has that value
abbrev pub is_idle_carry : Option Note → Line → Bool
is_idle_carry known (Do op mode operand) = has_carry known (carry_of op)
is_idle_carry known _ = false

-- CLC or SEC where C is not read
abbrev pub is_dead_carry : Table → ℕ → Line → Bool
is_dead_carry table q (Do op mode operand) = is_some (carry_of op) && is_dead table q (set_of (parts.C ∷ []))
is_dead_carry table q _ = false

abbrev pub is_shift_of_a : Op → Mode → Bool
is_shift_of_a ops.Asl Accumulator = true
is_shift_of_a ops.Lsr Accumulator = true
is_shift_of_a ops.Rol Accumulator = true
is_shift_of_a ops.Ror Accumulator = true
is_shift_of_a _ _ = false

-- the register that an operation sets, with N and Z by its value
abbrev pub signed_by : Op → Mode → Option Register
signed_by ops.Lda mode = Some A
signed_by ops.Txa mode = Some A
signed_by ops.Tya mode = Some A
signed_by ops.And mode = Some A
signed_by ops.Ora mode = Some A
signed_by ops.Eor mode = Some A
signed_by ops.Pla mode = Some A
signed_by ops.Ldx mode = Some X
signed_by ops.Tax mode = Some X
signed_by ops.Inx mode = Some X
signed_by ops.Dex mode = Some X
signed_by ops.Ldy mode = Some Y
signed_by ops.Tay mode = Some Y
signed_by ops.Iny mode = Some Y
signed_by ops.Dey mode = Some Y
signed_by op mode = if is_shift_of_a op mode then Some A else None

-- the register that an operation compares
abbrev pub compared_by : Op → Option Register
compared_by ops.Cmp = Some A
compared_by ops.Cpx = Some X
compared_by ops.Cpy = Some Y
compared_by _ = None

-- a comparison with 0 of the register by which N and Z stand already, where C is not read
abbrev pub is_idle_compare : Table → ℕ → Line → Line → Bool
is_idle_compare table q (Do op mode operand) (Do next Immediate (Byte v)) = (v == 0) && (are_one (signed_by op mode) (compared_by next) && is_dead table q (set_of (parts.C ∷ [])))
is_idle_compare table q _ _ = false

-- a comparison of which nothing is read
abbrev pub is_dead_compare : Table → ℕ → Line → Bool
is_dead_compare table q (Do op mode operand) = is_some (compared_by op) && is_dead table q (set_of (parts.N ∷ parts.Z ∷ parts.C ∷ []))
is_dead_compare table q _ = false

-- the byte with which an operation leaves A
abbrev pub neutral_byte : Op → Option ℕ
neutral_byte ops.And = Some 255
neutral_byte ops.Ora = Some 0
neutral_byte ops.Eor = Some 0
neutral_byte _ = None

abbrev pub is_byte : ℕ → Option ℕ → Bool
is_byte v None = false
is_byte v (Some w) = v == w

-- AND #$FF, ORA #0 or EOR #0, where N and Z are not read
abbrev pub is_idle_mask : Table → ℕ → Line → Bool
is_idle_mask table q (Do op Immediate (Byte v)) = is_byte v (neutral_byte op) && are_flags_dead table q
is_idle_mask table q _ = false

-- a step of X or Y and the step back
abbrev pub are_opposite : Op → Op → Bool
are_opposite ops.Inx ops.Dex = true
are_opposite ops.Dex ops.Inx = true
are_opposite ops.Iny ops.Dey = true
are_opposite ops.Dey ops.Iny = true
are_opposite _ _ = false

abbrev pub is_stepped_back : Table → ℕ → Line → Line → Bool
is_stepped_back table q (Do op mode operand) (Do next there other) = are_opposite op next && are_flags_dead table q
is_stepped_back table q _ _ = false

-- the carry with which adding or taking off 0 leaves A, and the carry too
abbrev pub neutral_carry : Op → Option Bool
neutral_carry ops.Adc = Some false
neutral_carry ops.Sbc = Some true
neutral_carry _ = None

-- ADC #0 without carry or SBC #0 without borrow, where N, V and Z are not read
abbrev pub is_idle_sum : Option Note → Table → ℕ → Line → Bool
is_idle_sum known table q (Do op Immediate (Byte v)) = (v == 0) && (has_carry known (neutral_carry op) && is_dead table q (set_of (parts.N ∷ parts.V ∷ parts.Z ∷ [])))
is_idle_sum known table q _ = false

-- whether an operation on A and a second one, each with a byte, are the first one with some byte
abbrev pub may_join : Op → Op → Bool
may_join ops.Lda next = true
may_join ops.And ops.And = true
may_join ops.Ora ops.Ora = true
may_join ops.Eor ops.Eor = true
may_join _ _ = false

-- what the second one makes of the byte of the first
abbrev pub mixed : Op → ℕ → ℕ → Option ℕ
mixed ops.And v w = Some (bit_and v w)
mixed ops.Ora v w = Some (bit_or v w)
mixed ops.Eor v w = Some (bit_xor v w)
mixed _ v w = None

abbrev pub with_byte : Op → Option ℕ → Option Line
with_byte op None = None
with_byte op (Some v) = Some (Do op Immediate (Byte v))

-- one line in place of two masks of a kind, or of a load and a mask
abbrev pub joined_masks : Line → Line → Option Line
joined_masks (Do op Immediate (Byte v)) (Do next Immediate (Byte w)) = if may_join op next then with_byte op (mixed next v w) else None
joined_masks _ _ = None

-- AND, ORA, EOR, ADC, SBC, the shifts of A, and the steps of X and Y
abbrev pub is_arithmetic : Op → Mode → Bool
is_arithmetic ops.And mode = true
is_arithmetic ops.Ora mode = true
is_arithmetic ops.Eor mode = true
is_arithmetic ops.Adc mode = true
is_arithmetic ops.Sbc mode = true
is_arithmetic ops.Inx mode = true
is_arithmetic ops.Iny mode = true
is_arithmetic ops.Dex mode = true
is_arithmetic ops.Dey mode = true
is_arithmetic op mode = is_shift_of_a op mode

-- one of these of which nothing is read, neither the register nor a flag
abbrev pub is_dead_arithmetic : Table → ℕ → Line → Bool
is_dead_arithmetic table q (Do op mode operand) = is_arithmetic op mode && is_dead table q (line_sets (Do op mode operand))
is_dead_arithmetic table q _ = false

-- rules on two lines
abbrev pub idle_compare : Table → ℕ → Line → List Line → Option Rewriting
idle_compare table at line [] = None
idle_compare table at line (next ∷ after) = alone_if (is_idle_compare table (at + 1) line next) at line

abbrev pub stepped_back : Table → ℕ → Line → List Line → Option Rewriting
stepped_back table at line [] = None
stepped_back table at line (next ∷ after) = both_gone_if (is_stepped_back table (at + 1) line next) at

abbrev pub joined : ℕ → Line → List Line → Option Rewriting
joined at line [] = None
joined at line (next ∷ after) = instead 2 at (joined_masks line next)

-- Rules 24 to 32. `known` is the note before the line, `after` the lines after it.
abbrev pub arith_rule : ℕ → Option Note → Table → ℕ → Line → List Line → Option Rewriting
arith_rule rule known table at line after =
    if rule == 24 then gone_if (is_idle_carry known line) at else (
    if rule == 25 then gone_if (is_dead_carry table at line) at else (
    if rule == 26 then idle_compare table at line after else (
    if rule == 27 then gone_if (is_dead_compare table at line) at else (
    if rule == 28 then gone_if (is_idle_mask table at line) at else (
    if rule == 29 then stepped_back table at line after else (
    if rule == 30 then gone_if (is_idle_sum known table at line) at else (
    if rule == 31 then joined at line after else (
    if rule == 32 then gone_if (is_dead_arithmetic table at line) at else None))))))))
