-- The operators on TOS and the primary register that are no orders and no shifts.
use Rattle.std.specs.Prelude.{ℕ, ◌+◌, List, [], ◌∷◌, ◌++◌}
use Rattle.c65_mach.specs.declared.rows.Op.TheVariants.{Adc, Asl, Bcc, Beq, Bne, Bpl, Clc, Cmp, Dex, Eor, Inc, Iny, Lda, Ldx, Ldy, Lsr, Ora, Rol, Ror, Sbc, Sec, Sta, Stx, Tax, Tay, Txa, Tya}
use Rattle.c65_code.specs.declared.line.Line.{Line}
use Rattle.c65_code.specs.declared.line.Line.TheVariants.{Label}
use Rattle.c65_rtl.specs.Assembly.{sp, sreg, ptr1, ptr2, ptr3, tmp1, tmp2, implied, on_a, value, zero_page, by_y, branch, call}
use Rattle.c65_code.specs.declared.routine.TosOp.{TosOp}
use Rattle.c65_code.specs.declared.routine.TosOp.TheVariants as tos
use Rattle.c65_code.specs.declared.routine.Width.{Width}
use Rattle.c65_code.specs.declared.routine.Width.TheVariants.{Ax, Eax}
use Rattle.c65_mach.specs.declared.rows.Op.{Op}
use Rattle.c65_mach.specs.declared.rows.Op.TheVariants as ops
use Rattle.c65_code.specs.declared.routine.Routine.TheVariants.{PopAx, Tos}
use Rattle.c65_code.specs.declared.routine.Count.TheVariants.{Two, Four}
use Rattle.c65_rtl.specs.Stack.{back, raise_pieces}
use Rattle.c65_rtl.specs.Memory.{point}

-- A from tmp1
abbrev pub low_byte : List Line
low_byte = zero_page Lda tmp1 ∷ []

-- C is 0
abbrev pub no_carry : List Line
no_carry = implied Clc ∷ []

-- the word that is subtracted to tmp1
abbrev pub borrow : List Line
borrow = zero_page Sta tmp1 ∷ zero_page Stx tmp2 ∷ implied Sec ∷ value Ldy 0 ∷ by_y Lda sp ∷ zero_page Sbc tmp1 ∷ zero_page Sta tmp1 ∷ implied Iny ∷ by_y Lda sp ∷ zero_page Sbc tmp2 ∷ implied Tax ∷ []

-- the high half of a difference
abbrev pub borrow_on : List Line
borrow_on = implied Iny ∷ by_y Lda sp ∷ zero_page Sbc sreg ∷ zero_page Sta sreg ∷ implied Iny ∷ by_y Lda sp ∷ zero_page Sbc (sreg + 1) ∷ zero_page Sta (sreg + 1) ∷ []

-- AX to ptr2
abbrev pub point_second : List Line
point_second = zero_page Sta ptr2 ∷ zero_page Stx (ptr2 + 1) ∷ []

-- AX popped
abbrev pub pop_word : List Line
pop_word = call PopAx ∷ []

-- AX = ptr2 times ptr1, by the bits of ptr1 from the lowest on; the sum so far is in Y and X
abbrev pub multiply : List Line
multiply = value Ldy 0 ∷ value Ldx 0 ∷ branch Beq 2 ∷ Label 0 ∷ zero_page Lsr (ptr1 + 1) ∷ zero_page Ror ptr1 ∷ branch Bcc 1 ∷ implied Clc ∷ implied Tya ∷ zero_page Adc ptr2 ∷ implied Tay ∷ implied Txa ∷ zero_page Adc (ptr2 + 1) ∷ implied Tax ∷ Label 1 ∷ zero_page Asl ptr2 ∷ zero_page Rol (ptr2 + 1) ∷ Label 2 ∷ zero_page Lda ptr1 ∷ zero_page Ora (ptr1 + 1) ∷ branch Bne 0 ∷ implied Tya ∷ []

-- the dividend is in AX: the remainder's sign to tmp1, the quotient's to tmp2, and N is the dividend's
abbrev pub signs : List Line
signs = zero_page Stx tmp1 ∷ implied Txa ∷ zero_page Eor (ptr2 + 1) ∷ zero_page Sta tmp2 ∷ implied Txa ∷ []

-- N is the divisor's sign
abbrev pub divisor_sign : List Line
divisor_sign = zero_page Lda (ptr2 + 1) ∷ []

-- ptr1 divided by ptr2, bit by bit: the quotient takes the dividend's place, and the remainder is in A and the high byte of ptr3
abbrev pub divide : List Line
divide = value Lda 0 ∷ zero_page Sta (ptr3 + 1) ∷ value Ldx 16 ∷ Label 2 ∷ zero_page Asl ptr1 ∷ zero_page Rol (ptr1 + 1) ∷ on_a Rol ∷ zero_page Rol (ptr3 + 1) ∷ implied Tay ∷ zero_page Cmp ptr2 ∷ zero_page Lda (ptr3 + 1) ∷ zero_page Sbc (ptr2 + 1) ∷ branch Bcc 3 ∷ zero_page Sta (ptr3 + 1) ∷ implied Tya ∷ zero_page Sbc ptr2 ∷ implied Tay ∷ zero_page Inc ptr1 ∷ Label 3 ∷ implied Tya ∷ implied Dex ∷ branch Bne 2 ∷ []

-- AX is the quotient
abbrev pub quotient : List Line
quotient = zero_page Lda ptr1 ∷ zero_page Ldx (ptr1 + 1) ∷ []

-- AX is the remainder
abbrev pub remainder : List Line
remainder = zero_page Ldx (ptr3 + 1) ∷ []

-- TOS is dropped
abbrev pub drop_pieces : Width → List (List Line)
drop_pieces Ax = raise_pieces Two
drop_pieces Eax = raise_pieces Four

-- ADC, AND, EOR or ORA of the two low bytes
abbrev pub combined : Op → List Line
combined op = value Ldy 0 ∷ by_y op sp ∷ zero_page Sta tmp1 ∷ implied Iny ∷ implied Txa ∷ by_y op sp ∷ implied Tax ∷ []

-- the same of the high halves
abbrev pub combined_on : Op → List Line
combined_on op = implied Iny ∷ zero_page Lda sreg ∷ by_y op sp ∷ zero_page Sta sreg ∷ implied Iny ∷ zero_page Lda (sreg + 1) ∷ by_y op sp ∷ zero_page Sta (sreg + 1) ∷ []

abbrev pub combine_pieces : Op → Width → List (List Line)
combine_pieces op Ax = combined op ∷ low_byte ∷ raise_pieces Two
combine_pieces op Eax = combined op ∷ combined_on op ∷ low_byte ∷ raise_pieces Four

abbrev pub subtract_pieces : Width → List (List Line)
subtract_pieces Ax = borrow ∷ low_byte ∷ raise_pieces Two
subtract_pieces Eax = borrow ∷ borrow_on ∷ low_byte ∷ raise_pieces Four

abbrev pub multiply_pieces : List (List Line)
multiply_pieces = point ∷ pop_word ∷ point_second ∷ multiply ∷ back ∷ []

abbrev pub arithmetic_pieces : TosOp → Width → List (List Line)
arithmetic_pieces tos.Add width = no_carry ∷ combine_pieces ops.Adc width
arithmetic_pieces tos.And width = combine_pieces ops.And width
arithmetic_pieces tos.Or width = combine_pieces ops.Ora width
arithmetic_pieces tos.Xor width = combine_pieces ops.Eor width
arithmetic_pieces tos.Sub width = subtract_pieces width
arithmetic_pieces tos.Mul width = multiply_pieces
arithmetic_pieces _ width = []

-- the word at an address becomes its negative where N is set
abbrev pub negation : ℕ → ℕ → List Line
negation at label = branch Bpl label ∷ implied Sec ∷ value Lda 0 ∷ zero_page Sbc at ∷ zero_page Sta at ∷ value Lda 0 ∷ zero_page Sbc (at + 1) ∷ zero_page Sta (at + 1) ∷ Label label ∷ []

-- AX becomes its negative where the byte of the sign says so
abbrev pub signed : ℕ → List Line
signed sign = zero_page Ldy sign ∷ branch Bpl 4 ∷ value Eor 255 ∷ implied Clc ∷ value Adc 1 ∷ implied Tay ∷ implied Txa ∷ value Eor 255 ∷ value Adc 0 ∷ implied Tax ∷ implied Tya ∷ Label 4 ∷ []

-- AX to ptr2 and TOS to ptr1, which stays in AX
abbrev pub terms_pieces : List (List Line)
terms_pieces = point_second ∷ pop_word ∷ point ∷ []

abbrev pub divide_pieces : List (List Line)
divide_pieces = terms_pieces ++ (divide ∷ [])

-- both without their signs
abbrev pub signed_divide_pieces : List (List Line)
signed_divide_pieces = terms_pieces ++ (signs ∷ negation ptr1 0 ∷ divisor_sign ∷ negation ptr2 1 ∷ divide ∷ [])

-- the routine of the remainder, which leaves the quotient in ptr1 and its sign in tmp2
abbrev pub remainder_first : TosOp → List Line
remainder_first op = call (Tos op Ax) ∷ []

abbrev pub division_pieces : TosOp → List (List Line)
division_pieces tos.UDiv = remainder_first tos.UMod ∷ quotient ∷ back ∷ []
division_pieces tos.UMod = divide_pieces ++ (remainder ∷ back ∷ [])
division_pieces tos.Div = remainder_first tos.Mod ∷ quotient ∷ signed tmp2 ∷ back ∷ []
division_pieces tos.Mod = signed_divide_pieces ++ (remainder ∷ signed tmp1 ∷ back ∷ [])
division_pieces _ = []
