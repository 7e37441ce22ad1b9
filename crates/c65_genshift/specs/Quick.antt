-- Operators whose right operand is a constant, by shifts and masks (C90 6.3.5, 6.3.7).
use Rattle.std.specs.Prelude.{ℕ, zero, suc, ◌+◌, ◌-◌, ◌^◌, ◌==◌, nat_lt, if◌then◌else◌, Option, Some, None, List, [], ◌∷◌, ◌++◌}
use Rattle.c65_base.specs.declared.operators.BinaryOp.{BinaryOp}
use Rattle.c65_ints.specs.declared.types.IntType.{IntType}
use Rattle.c65_ints.specs.Ranges.{is_signed_of}
use Rattle.c65_mach.specs.declared.rows.Op.TheVariants.{And, Lda, Ldx, Ldy, Sta, Sty, Tax, Tay, Txa, Tya}
use Rattle.c65_code.specs.declared.line.Line.{Line}
use Rattle.c65_code.specs.declared.routine.TosOp.{TosOp}
use Rattle.c65_code.specs.declared.routine.TosOp.TheVariants as tos
use Rattle.c65_code.specs.declared.routine.Width.{Width}
use Rattle.c65_code.specs.declared.routine.Width.TheVariants.{Ax, Eax}
use Rattle.c65_genwide.specs.Lines.{value}
use Rattle.c65_genwide.specs.Wide.{width_of, tos_of, narrow_code}
use Rattle.c65_genload.specs.Words.{sreg, implied, zero_page}
use Rattle.c65_genload.specs.Numbers.{first, second, third, fourth, mask_code, scale_code}
use Rattle.c65_genshift.specs.declared.quick.Quick.{Quick}
use Rattle.c65_genshift.specs.declared.quick.Quick.TheVariants.{Shift, Mask}
use Rattle.c65_genshift.specs.Shifts.{calls_code, left_bits_code, left_byte_code, labelled, shift_code, is_short}

-- the k below a bound with 2 to the k the number
abbrev pub power_below : ℕ → ℕ → Option ℕ
power_below zero n = None
power_below (suc k) n = if n == 2 ^ k then Some k else power_below k n

-- the exponent of a power of two of 32 bits
abbrev pub power_of : ℕ → Option ℕ
power_of n = power_below 32 n

abbrev pub shift_if : TosOp → Width → ℕ → Option Quick
shift_if op width n = if is_short op width n then Some (Shift op n) else None

abbrev pub scaled_if : TosOp → Width → Option ℕ → Option Quick
scaled_if op width (Some k) = shift_if op width k
scaled_if op width None = None

abbrev pub rest_if : ℕ → Option ℕ → Option Quick
rest_if n (Some k) = Some (Mask (n - 1))
rest_if n None = None

-- a shift, a product with a power of two, and an unsigned quotient or remainder by one
abbrev pub quick_by : TosOp → Width → ℕ → Option Quick
quick_by tos.Shl width n = shift_if tos.Shl width n
quick_by tos.Shr width n = shift_if tos.Shr width n
quick_by tos.Asr width n = shift_if tos.Asr width n
quick_by tos.Mul width n = scaled_if tos.Shl width (power_of n)
quick_by tos.UDiv width n = scaled_if tos.Shr width (power_of n)
quick_by tos.UMod width n = rest_if n (power_of n)
quick_by op width n = None

-- what an operator in a type, with n as its right operand, comes to; n is modulo 2 to the 32
abbrev pub quick_of : BinaryOp → IntType → ℕ → Option Quick
quick_of op kind n = quick_by (tos_of op (is_signed_of kind)) (width_of kind) n

-- ---- the bits that n has

abbrev pub mask_word_code : ℕ → List Line
mask_word_code n = if second n == 0 then value And (first n) ∷ value Ldx 0 ∷ [] else mask_code n

abbrev pub mask_high_code : ℕ → List Line
mask_high_code n = zero_page Lda sreg ∷ value And (third n) ∷ zero_page Sta sreg ∷ zero_page Lda (sreg + 1) ∷ value And (fourth n) ∷ zero_page Sta (sreg + 1) ∷ []

abbrev pub mask_long_code : ℕ → List Line
mask_long_code n =
    if nat_lt n 65536 then mask_word_code n ++ (value Ldy 0 ∷ zero_page Sty sreg ∷ zero_page Sty (sreg + 1) ∷ [])
    else (value And (first n) ∷ implied Tay ∷ implied Txa ∷ value And (second n) ∷ implied Tax ∷ (mask_high_code n ++ (implied Tya ∷ [])))

abbrev pub mask_by_width : Width → ℕ → List Line
mask_by_width Ax n = mask_word_code n
mask_by_width Eax n = mask_long_code n

-- ---- lines

abbrev pub quick_lines : Width → Quick → ℕ → List Line
quick_lines width (Shift op n) label = shift_code op width n label
quick_lines width (Mask n) label = labelled label (mask_by_width width n)

-- Behind the left operand, in the operator's type. The label is a fresh one, and is placed once.
abbrev pub quick_code : IntType → Quick → ℕ → List Line
quick_code kind quick label = quick_lines (width_of kind) quick label ++ narrow_code kind

abbrev pub elements_by : ℕ → Option ℕ → List Line
elements_by size (Some k) = if nat_lt k 4 then calls_code tos.Shl Ax k else if nat_lt k 8 then left_bits_code k else (if nat_lt k 16 then left_byte_code (k - 8) else scale_code size)
elements_by size None = scale_code size

-- a number of elements of so many bytes becomes one of bytes
abbrev pub elements_code : ℕ → List Line
elements_code size = elements_by size (power_of size)
