-- The multiplication and the divisions of 32 bits.
use Rattle.std.specs.Prelude.{ℕ, ◌+◌, Bool, true, false, List, [], ◌∷◌, ◌++◌}
use Rattle.c65_mach.specs.declared.rows.Op.TheVariants.{Adc, Asl, Bcc, Bne, Bpl, Clc, Cmp, Dex, Eor, Inc, Lda, Ldx, Ldy, Lsr, Ora, Rol, Ror, Sbc, Sec, Sta, Stx}
use Rattle.c65_code.specs.declared.line.Line.{Line}
use Rattle.c65_code.specs.declared.line.Line.TheVariants.{Label}
use Rattle.c65_rtl.specs.Assembly.{sreg, regsave, ptr1, ptr2, ptr3, ptr4, tmp1, tmp2, implied, value, zero_page, branch, call}
use Rattle.c65_code.specs.declared.routine.TosOp.{TosOp}
use Rattle.c65_code.specs.declared.routine.TosOp.TheVariants as tos
use Rattle.c65_code.specs.declared.routine.Width.TheVariants.{Eax}
use Rattle.c65_code.specs.declared.routine.Routine.{Routine}
use Rattle.c65_code.specs.declared.routine.Routine.TheVariants as routines
use Rattle.c65_code.specs.declared.routine.UnaryRoutine.TheVariants.{Neg}
use Rattle.c65_rtl.specs.Assembly.{with_all}
use Rattle.c65_rtl.specs.Stack.{back}

-- EAX to ptr3 and ptr4, and TOS to ptr1 and ptr2; A is its highest byte
abbrev pub terms : List Line
terms = zero_page Sta ptr3 ∷ zero_page Stx (ptr3 + 1) ∷ zero_page Lda sreg ∷ zero_page Sta ptr4 ∷ zero_page Lda (sreg + 1) ∷ zero_page Sta (ptr4 + 1) ∷ call routines.PopEax ∷ zero_page Sta ptr1 ∷ zero_page Stx (ptr1 + 1) ∷ zero_page Lda sreg ∷ zero_page Sta ptr2 ∷ zero_page Lda (sreg + 1) ∷ zero_page Sta (ptr2 + 1) ∷ []

-- regsave is 0
abbrev pub nothing_yet : List Line
nothing_yet = value Lda 0 ∷ zero_page Sta regsave ∷ zero_page Sta (regsave + 1) ∷ zero_page Sta (regsave + 2) ∷ zero_page Sta (regsave + 3) ∷ []

-- regsave is the product, by the bits of ptr3 and ptr4 from the lowest on
abbrev pub multiply : List Line
multiply = Label 0 ∷ zero_page Lsr (ptr4 + 1) ∷ zero_page Ror ptr4 ∷ zero_page Ror (ptr3 + 1) ∷ zero_page Ror ptr3 ∷ branch Bcc 1 ∷ implied Clc ∷ zero_page Lda regsave ∷ zero_page Adc ptr1 ∷ zero_page Sta regsave ∷ zero_page Lda (regsave + 1) ∷ zero_page Adc (ptr1 + 1) ∷ zero_page Sta (regsave + 1) ∷ zero_page Lda (regsave + 2) ∷ zero_page Adc ptr2 ∷ zero_page Sta (regsave + 2) ∷ zero_page Lda (regsave + 3) ∷ zero_page Adc (ptr2 + 1) ∷ zero_page Sta (regsave + 3) ∷ Label 1 ∷ zero_page Asl ptr1 ∷ zero_page Rol (ptr1 + 1) ∷ zero_page Rol ptr2 ∷ zero_page Rol (ptr2 + 1) ∷ zero_page Lda ptr3 ∷ zero_page Ora (ptr3 + 1) ∷ zero_page Ora ptr4 ∷ zero_page Ora (ptr4 + 1) ∷ branch Bne 0 ∷ []

-- A is the dividend's highest byte: the remainder's sign to tmp1, the quotient's to tmp2, and N is the dividend's
abbrev pub signs : List Line
signs = zero_page Sta tmp1 ∷ zero_page Eor (ptr4 + 1) ∷ zero_page Sta tmp2 ∷ zero_page Lda (ptr2 + 1) ∷ []

-- N is the divisor's sign
abbrev pub divisor_sign : List Line
divisor_sign = zero_page Lda (ptr4 + 1) ∷ []

-- ptr1 and ptr2 divided by ptr3 and ptr4, bit by bit: the quotient takes the dividend's place, and the remainder is regsave
abbrev pub divide : List Line
divide = value Ldx 32 ∷ Label 2 ∷ zero_page Asl ptr1 ∷ zero_page Rol (ptr1 + 1) ∷ zero_page Rol ptr2 ∷ zero_page Rol (ptr2 + 1) ∷ zero_page Rol regsave ∷ zero_page Rol (regsave + 1) ∷ zero_page Rol (regsave + 2) ∷ zero_page Rol (regsave + 3) ∷ zero_page Lda regsave ∷ zero_page Cmp ptr3 ∷ zero_page Lda (regsave + 1) ∷ zero_page Sbc (ptr3 + 1) ∷ zero_page Lda (regsave + 2) ∷ zero_page Sbc ptr4 ∷ zero_page Lda (regsave + 3) ∷ zero_page Sbc (ptr4 + 1) ∷ branch Bcc 3 ∷ zero_page Sta (regsave + 3) ∷ zero_page Lda regsave ∷ zero_page Sbc ptr3 ∷ zero_page Sta regsave ∷ zero_page Lda (regsave + 1) ∷ zero_page Sbc (ptr3 + 1) ∷ zero_page Sta (regsave + 1) ∷ zero_page Lda (regsave + 2) ∷ zero_page Sbc ptr4 ∷ zero_page Sta (regsave + 2) ∷ zero_page Inc ptr1 ∷ Label 3 ∷ implied Dex ∷ branch Bne 2 ∷ []

-- EAX from ptr1 and ptr2
abbrev pub quotient : List Line
quotient = zero_page Lda ptr2 ∷ zero_page Sta sreg ∷ zero_page Lda (ptr2 + 1) ∷ zero_page Sta (sreg + 1) ∷ zero_page Lda ptr1 ∷ zero_page Ldx (ptr1 + 1) ∷ []

-- EAX from regsave
abbrev pub remainder : List Line
remainder = zero_page Lda (regsave + 2) ∷ zero_page Sta sreg ∷ zero_page Lda (regsave + 3) ∷ zero_page Sta (sreg + 1) ∷ zero_page Lda regsave ∷ zero_page Ldx (regsave + 1) ∷ []

-- four bytes become their negative where N is set
abbrev pub negation : ℕ → ℕ → List Line
negation at label = branch Bpl label ∷ implied Sec ∷ value Lda 0 ∷ zero_page Sbc at ∷ zero_page Sta at ∷ value Lda 0 ∷ zero_page Sbc (at + 1) ∷ zero_page Sta (at + 1) ∷ value Lda 0 ∷ zero_page Sbc (at + 2) ∷ zero_page Sta (at + 2) ∷ value Lda 0 ∷ zero_page Sbc (at + 3) ∷ zero_page Sta (at + 3) ∷ Label label ∷ []

-- EAX becomes its negative where the byte of the sign says so
abbrev pub signed : ℕ → List Line
signed sign = zero_page Ldy sign ∷ branch Bpl 4 ∷ call (routines.Unary Neg Eax) ∷ Label 4 ∷ []

abbrev pub multiply_pieces : List (List Line)
multiply_pieces = terms ∷ nothing_yet ∷ multiply ∷ remainder ∷ back ∷ []

abbrev pub divide_pieces : List (List Line)
divide_pieces = terms ∷ nothing_yet ∷ divide ∷ []

-- both without their signs
abbrev pub signed_divide_pieces : List (List Line)
signed_divide_pieces = terms ∷ signs ∷ negation ptr1 0 ∷ divisor_sign ∷ negation ptr3 1 ∷ nothing_yet ∷ divide ∷ []

-- the routine of the remainder, which leaves the quotient in ptr1 and ptr2 and its sign in tmp2
abbrev pub remainder_first : TosOp → List Line
remainder_first op = call (routines.Tos op Eax) ∷ []

abbrev pub division_pieces : TosOp → List (List Line)
division_pieces tos.UDiv = remainder_first tos.UMod ∷ quotient ∷ back ∷ []
division_pieces tos.UMod = divide_pieces ++ (remainder ∷ back ∷ [])
division_pieces tos.Div = remainder_first tos.Mod ∷ quotient ∷ signed tmp2 ∷ back ∷ []
division_pieces tos.Mod = signed_divide_pieces ++ (remainder ∷ signed tmp1 ∷ back ∷ [])
division_pieces _ = []

-- the routines that stand here
abbrev pub is_wide : Routine → Bool
is_wide (routines.Tos tos.Mul Eax) = true
is_wide (routines.Tos tos.Div Eax) = true
is_wide (routines.Tos tos.Mod Eax) = true
is_wide (routines.Tos tos.UDiv Eax) = true
is_wide (routines.Tos tos.UMod Eax) = true
is_wide _ = false

abbrev pub wide_pieces : Routine → List (List Line)
wide_pieces (routines.Tos tos.Mul Eax) = multiply_pieces
wide_pieces (routines.Tos op Eax) = division_pieces op
wide_pieces _ = []

abbrev pub lines_of : Routine → List Line
lines_of which = with_all [] (wide_pieces which)
