-- Numbers that are known: taken, added, multiplied and divided by.
use Rattle.std.specs.Prelude.{ℕ, Bool, ◌+◌, ◌/◌, ◌%◌, ◌==◌, nat_lt, nat_le, ◌&&◌, if◌then◌else◌, List, [], ◌∷◌, ◌++◌}
use Rattle.c65_ints.specs.declared.types.IntType.{IntType}
use Rattle.c65_mach.specs.declared.rows.Op.TheVariants.{Adc, And, Clc, Lda, Ldx, Sta, Tax, Tay, Txa, Tya}
use Rattle.c65_code.specs.declared.line.Line.{Line}
use Rattle.c65_code.specs.declared.routine.TosOp.{TosOp}
use Rattle.c65_code.specs.declared.routine.TosOp.TheVariants as tos
use Rattle.c65_code.specs.declared.routine.UnaryRoutine.TheVariants.{Shl1}
use Rattle.c65_code.specs.declared.routine.Width.{Width}
use Rattle.c65_code.specs.declared.routine.Width.TheVariants.{Ax, Eax}
use Rattle.c65_code.specs.declared.routine.Routine.TheVariants.{PushAx, Tos, Unary}
use Rattle.c65_genwide.specs.Lines.{value, call}
use Rattle.c65_genwide.specs.Wide.{width_of, narrow_code}
use Rattle.c65_genload.specs.Words.{sreg, implied, zero_page}

-- the bytes of a number, from the lowest on
abbrev pub first : ℕ → ℕ
first n = n % 256

abbrev pub second : ℕ → ℕ
second n = n / 256 % 256

abbrev pub third : ℕ → ℕ
third n = n / 65536 % 256

abbrev pub fourth : ℕ → ℕ
fourth n = n / 16777216 % 256

-- the primary register is n
abbrev pub number_code : Width → ℕ → List Line
number_code Ax n = value Ldx (second n) ∷ value Lda (first n) ∷ []
number_code Eax n = value Lda (third n) ∷ zero_page Sta sreg ∷ value Lda (fourth n) ∷ zero_page Sta (sreg + 1) ∷ value Ldx (second n) ∷ value Lda (first n) ∷ []

abbrev pub add_word_code : ℕ → List Line
add_word_code n = implied Clc ∷ value Adc (first n) ∷ implied Tay ∷ implied Txa ∷ value Adc (second n) ∷ implied Tax ∷ implied Tya ∷ []

abbrev pub add_long_code : ℕ → List Line
add_long_code n = implied Clc ∷ value Adc (first n) ∷ implied Tay ∷ implied Txa ∷ value Adc (second n) ∷ implied Tax ∷ zero_page Lda sreg ∷ value Adc (third n) ∷ zero_page Sta sreg ∷ zero_page Lda (sreg + 1) ∷ value Adc (fourth n) ∷ zero_page Sta (sreg + 1) ∷ implied Tya ∷ []

abbrev pub add_by_width : Width → IntType → ℕ → List Line
add_by_width Ax kind n = add_word_code n ++ narrow_code kind
add_by_width Eax kind n = add_long_code n

-- n is added, modulo 2 to the width
abbrev pub add_code : IntType → ℕ → List Line
add_code kind n = add_by_width (width_of kind) kind n

-- the bits of AX that n has
abbrev pub mask_code : ℕ → List Line
mask_code n = value And (first n) ∷ implied Tay ∷ implied Txa ∷ value And (second n) ∷ implied Tax ∷ implied Tya ∷ []

-- AX and n by an operator
abbrev pub by_code : TosOp → ℕ → List Line
by_code op n = call PushAx ∷ (number_code Ax n ++ call (Tos op Ax) ∷ [])

abbrev pub shift_code : TosOp → ℕ → List Line
shift_code op n = if n == 0 then [] else by_code op n

-- elements to bytes
abbrev pub scale_code : ℕ → List Line
scale_code n = if n == 1 then [] else (if n == 2 then call (Unary Shl1 Ax) ∷ [] else by_code tos.Mul n)

-- above 0, and an int
abbrev pub is_divisor : ℕ → Bool
is_divisor n = nat_lt 0 n && nat_le n 32767

-- Bytes to elements, signed. No difference is of more than 32,767 bytes, so one of larger elements is 0; elements of more
-- than 65,535 bytes are told as of none.
abbrev pub divide_code : ℕ → List Line
divide_code n = if n == 1 then [] else (if is_divisor n then by_code tos.Div n else number_code Ax 0)
