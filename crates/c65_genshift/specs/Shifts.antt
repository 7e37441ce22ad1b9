-- The primary register shifted by a number of bits that is known (C90 6.3.7). Shifts to the left bring in zeros, shifts to the
-- right zeros or the sign: Shl, Shr and Asr.
use Rattle.std.specs.Prelude.{ℕ, zero, suc, ◌+◌, ◌-◌, ◌%◌, nat_lt, nat_le, Bool, false, ◌&&◌, ◌||◌, if◌then◌else◌, List, [], ◌∷◌, ◌++◌, replicate}
use Rattle.c65_mach.specs.declared.rows.Op.TheVariants.{Asl, Bne, Dey, Lda, Ldx, Ldy, Lsr, Rol, Ror, Sta, Stx, Sty, Tax, Txa}
use Rattle.c65_code.specs.declared.line.Line.{Line}
use Rattle.c65_code.specs.declared.line.Line.TheVariants.{Label}
use Rattle.c65_code.specs.declared.routine.TosOp.{TosOp}
use Rattle.c65_code.specs.declared.routine.TosOp.TheVariants as tos
use Rattle.c65_code.specs.declared.routine.UnaryRoutine.{UnaryRoutine}
use Rattle.c65_code.specs.declared.routine.UnaryRoutine.TheVariants.{Shl1, Shr1, Asr1}
use Rattle.c65_code.specs.declared.routine.Width.{Width}
use Rattle.c65_code.specs.declared.routine.Width.TheVariants.{Ax, Eax}
use Rattle.c65_code.specs.declared.routine.Routine.TheVariants.{Unary}
use Rattle.c65_genwide.specs.Lines.{value, call}
use Rattle.c65_genload.specs.Words.{sreg, tmp1, shift_a, implied, zero_page, branch}

-- by one bit
abbrev pub one_of : TosOp → UnaryRoutine
one_of tos.Shl = Shl1
one_of tos.Shr = Shr1
one_of _ = Asr1

-- bit by bit
abbrev pub calls_code : TosOp → Width → ℕ → List Line
calls_code op width n = replicate n (call (Unary (one_of op) width))

-- AX bit by bit, with the high byte in tmp1
abbrev pub turns_code : List Line → ℕ → ℕ → List Line
turns_code turn n label = zero_page Stx tmp1 ∷ value Ldy n ∷ Label label ∷ (turn ++ (implied Dey ∷ branch Bne label ∷ zero_page Ldx tmp1 ∷ []))

abbrev pub left_turn : List Line
left_turn = shift_a Asl ∷ zero_page Rol tmp1 ∷ []

-- n turns, one behind the other
abbrev pub left_turns : ℕ → List Line
left_turns zero = []
left_turns (suc n) = left_turn ++ left_turns n

-- AX bit by bit without a label
abbrev pub left_bits_code : ℕ → List Line
left_bits_code n = zero_page Stx tmp1 ∷ (left_turns n ++ zero_page Ldx tmp1 ∷ [])

abbrev pub right_turn : List Line
right_turn = zero_page Lsr tmp1 ∷ shift_a Ror ∷ []

-- AX by eight bits and n more
abbrev pub left_byte_code : ℕ → List Line
left_byte_code n = replicate n (shift_a Asl) ++ (implied Tax ∷ value Lda 0 ∷ [])

abbrev pub right_byte_code : ℕ → List Line
right_byte_code n = implied Txa ∷ (replicate n (shift_a Lsr) ++ (value Ldx 0 ∷ []))

-- EAX by one byte, two bytes, and three bytes and n bits
abbrev pub left_one_code : List Line
left_one_code = zero_page Ldy sreg ∷ zero_page Sty (sreg + 1) ∷ zero_page Stx sreg ∷ implied Tax ∷ value Lda 0 ∷ []

abbrev pub left_two_code : List Line
left_two_code = zero_page Stx (sreg + 1) ∷ zero_page Sta sreg ∷ value Lda 0 ∷ implied Tax ∷ []

abbrev pub left_three_code : ℕ → List Line
left_three_code n = replicate n (shift_a Asl) ++ (zero_page Sta (sreg + 1) ∷ value Lda 0 ∷ zero_page Sta sreg ∷ implied Tax ∷ [])

abbrev pub right_one_code : List Line
right_one_code = implied Txa ∷ zero_page Ldx sreg ∷ zero_page Ldy (sreg + 1) ∷ zero_page Sty sreg ∷ value Ldy 0 ∷ zero_page Sty (sreg + 1) ∷ []

abbrev pub right_two_code : List Line
right_two_code = zero_page Lda sreg ∷ zero_page Ldx (sreg + 1) ∷ value Ldy 0 ∷ zero_page Sty sreg ∷ zero_page Sty (sreg + 1) ∷ []

abbrev pub right_three_code : ℕ → List Line
right_three_code n = zero_page Lda (sreg + 1) ∷ value Ldx 0 ∷ zero_page Stx sreg ∷ zero_page Stx (sreg + 1) ∷ replicate n (shift_a Lsr)

-- the lines, and behind them a label that they have no need of
abbrev pub labelled : ℕ → List Line → List Line
labelled label lines = lines ++ Label label ∷ []

-- by the number of bits: below 4, below 8, below 16; the label stands in each once
abbrev pub left_word_code : ℕ → ℕ → List Line
left_word_code n label = if nat_lt n 4 then labelled label (calls_code tos.Shl Ax n) else (if nat_lt n 8 then turns_code left_turn n label else labelled label (left_byte_code (n - 8)))

abbrev pub right_word_code : ℕ → ℕ → List Line
right_word_code n label = if nat_lt n 4 then labelled label (calls_code tos.Shr Ax n) else (if nat_lt n 8 then turns_code right_turn n label else labelled label (right_byte_code (n - 8)))

-- by the number of bits: below 8, below 16, below 24, below 32
abbrev pub left_long_code : ℕ → List Line
left_long_code n = if nat_lt n 8 then calls_code tos.Shl Eax n else (if nat_lt n 16 then left_one_code ++ calls_code tos.Shl Eax (n - 8) else (if nat_lt n 24 then left_two_code ++ calls_code tos.Shl Eax (n - 16) else left_three_code (n - 24)))

abbrev pub right_long_code : ℕ → List Line
right_long_code n = if nat_lt n 8 then calls_code tos.Shr Eax n else (if nat_lt n 16 then right_one_code ++ calls_code tos.Shr Eax (n - 8) else (if nat_lt n 24 then right_two_code ++ calls_code tos.Shr Eax (n - 16) else right_three_code (n - 24)))

-- The primary register shifted by n bits. The label is a fresh one, and is placed once.
abbrev pub shift_code : TosOp → Width → ℕ → ℕ → List Line
shift_code tos.Shl Ax n label = left_word_code n label
shift_code tos.Shl Eax n label = labelled label (left_long_code n)
shift_code tos.Shr Ax n label = right_word_code n label
shift_code tos.Shr Eax n label = labelled label (right_long_code n)
shift_code op width n label = labelled label (calls_code op width n)

-- at most three bits behind whole bytes, or a part of the last byte
abbrev pub is_short_long : ℕ → Bool
is_short_long n = nat_lt n 32 && (nat_lt (n % 8) 4 || nat_le 24 n)

-- Whether these lines shift by n bits, and are few. For the others there are the routines that take both operands.
abbrev pub is_short : TosOp → Width → ℕ → Bool
is_short tos.Shl Ax n = nat_lt n 16
is_short tos.Shl Eax n = is_short_long n
is_short tos.Shr Ax n = nat_lt n 16
is_short tos.Shr Eax n = is_short_long n
is_short tos.Asr width n = nat_lt n 4
is_short op width n = false
