-- The operators on the primary register alone, and the widenings.
use Rattle.std.specs.Prelude.{◌+◌, List, [], ◌∷◌}
use Rattle.c65_mach.specs.declared.rows.Op.TheVariants.{Adc, Asl, Bcc, Clc, Cmp, Cpx, Cpy, Dex, Dey, Eor, Lda, Ldx, Ldy, Lsr, Ora, Rol, Ror, Rts, Sta, Stx, Sty, Tax, Tay, Txa, Tya}
use Rattle.c65_code.specs.declared.line.Line.{Line}
use Rattle.c65_code.specs.declared.line.Line.TheVariants.{Label}
use Rattle.c65_rtl.specs.Assembly.{sreg, tmp1, implied, on_a, value, zero_page, branch}
use Rattle.c65_code.specs.declared.routine.Routine.{Routine}
use Rattle.c65_code.specs.declared.routine.Routine.TheVariants as routines
use Rattle.c65_code.specs.declared.routine.UnaryRoutine.{UnaryRoutine}
use Rattle.c65_code.specs.declared.routine.UnaryRoutine.TheVariants.{Neg, Compl, Shl1, Shr1, Asr1, BNeg}

-- the complement and one more; the low byte is in Y
abbrev pub minus_word : List Line
minus_word = implied Clc ∷ value Eor 0xFF ∷ value Adc 1 ∷ implied Tay ∷ implied Txa ∷ value Eor 0xFF ∷ value Adc 0 ∷ implied Tax ∷ []

-- the same of the high half
abbrev pub minus_on : List Line
minus_on = zero_page Lda sreg ∷ value Eor 0xFF ∷ value Adc 0 ∷ zero_page Sta sreg ∷ zero_page Lda (sreg + 1) ∷ value Eor 0xFF ∷ value Adc 0 ∷ zero_page Sta (sreg + 1) ∷ []

-- the complement; the low byte is in Y
abbrev pub complement_word : List Line
complement_word = value Eor 0xFF ∷ implied Tay ∷ implied Txa ∷ value Eor 0xFF ∷ implied Tax ∷ []

-- the same of the high half
abbrev pub complement_on : List Line
complement_on = zero_page Lda sreg ∷ value Eor 0xFF ∷ zero_page Sta sreg ∷ zero_page Lda (sreg + 1) ∷ value Eor 0xFF ∷ zero_page Sta (sreg + 1) ∷ []

-- the low byte is in Y
abbrev pub from_y : List Line
from_y = implied Tya ∷ implied Rts ∷ []

-- one bit up; the high byte is in tmp1
abbrev pub double_word : List Line
double_word = zero_page Stx tmp1 ∷ on_a Asl ∷ zero_page Rol tmp1 ∷ []

-- the same of the high half
abbrev pub double_on : List Line
double_on = zero_page Rol sreg ∷ zero_page Rol (sreg + 1) ∷ []

-- one bit down
abbrev pub half_word : List Line
half_word = zero_page Stx tmp1 ∷ zero_page Lsr tmp1 ∷ on_a Ror ∷ []

-- one bit down
abbrev pub half_long : List Line
half_long = zero_page Stx tmp1 ∷ zero_page Lsr (sreg + 1) ∷ zero_page Ror sreg ∷ zero_page Ror tmp1 ∷ on_a Ror ∷ []

-- one bit down, the sign stays
abbrev pub signed_half_word : List Line
signed_half_word = zero_page Stx tmp1 ∷ value Cpx 0x80 ∷ zero_page Ror tmp1 ∷ on_a Ror ∷ []

-- one bit down, the sign stays
abbrev pub signed_half_long : List Line
signed_half_long = zero_page Stx tmp1 ∷ zero_page Ldy (sreg + 1) ∷ value Cpy 0x80 ∷ zero_page Ror (sreg + 1) ∷ zero_page Ror sreg ∷ zero_page Ror tmp1 ∷ on_a Ror ∷ []

-- the high byte is in tmp1
abbrev pub from_tmp1 : List Line
from_tmp1 = zero_page Ldx tmp1 ∷ implied Rts ∷ []

-- A is 0 where AX is 0
abbrev pub all_bits : List Line
all_bits = zero_page Stx tmp1 ∷ zero_page Ora tmp1 ∷ []

-- the same of the high half
abbrev pub all_bits_on : List Line
all_bits_on = zero_page Ora sreg ∷ zero_page Ora (sreg + 1) ∷ []

-- AX = 1 where A is 0, else 0
abbrev pub is_zero : List Line
is_zero = value Cmp 1 ∷ value Lda 0 ∷ on_a Rol ∷ value Eor 1 ∷ value Ldx 0 ∷ implied Rts ∷ []

-- X by the sign of A
abbrev pub sign_byte : List Line
sign_byte = value Ldx 0 ∷ value Cmp 0x80 ∷ branch Bcc 0 ∷ implied Dex ∷ Label 0 ∷ implied Rts ∷ []

-- sreg by the sign of X
abbrev pub sign_word : List Line
sign_word = value Ldy 0 ∷ value Cpx 0x80 ∷ branch Bcc 0 ∷ implied Dey ∷ Label 0 ∷ zero_page Sty sreg ∷ zero_page Sty (sreg + 1) ∷ implied Rts ∷ []

-- sreg is 0
abbrev pub zero_word : List Line
zero_word = value Ldy 0 ∷ zero_page Sty sreg ∷ zero_page Sty (sreg + 1) ∷ implied Rts ∷ []

abbrev pub word_pieces : UnaryRoutine → List (List Line)
word_pieces Neg = minus_word ∷ from_y ∷ []
word_pieces Compl = complement_word ∷ from_y ∷ []
word_pieces Shl1 = double_word ∷ from_tmp1 ∷ []
word_pieces Shr1 = half_word ∷ from_tmp1 ∷ []
word_pieces Asr1 = signed_half_word ∷ from_tmp1 ∷ []
word_pieces BNeg = all_bits ∷ is_zero ∷ []

abbrev pub long_pieces : UnaryRoutine → List (List Line)
long_pieces Neg = minus_word ∷ minus_on ∷ from_y ∷ []
long_pieces Compl = complement_word ∷ complement_on ∷ from_y ∷ []
long_pieces Shl1 = double_word ∷ double_on ∷ from_tmp1 ∷ []
long_pieces Shr1 = half_long ∷ from_tmp1 ∷ []
long_pieces Asr1 = signed_half_long ∷ from_tmp1 ∷ []
long_pieces BNeg = all_bits ∷ all_bits_on ∷ is_zero ∷ []

abbrev pub widening_pieces : Routine → List (List Line)
widening_pieces routines.SignA = sign_byte ∷ []
widening_pieces routines.LongAx = sign_word ∷ []
widening_pieces routines.ULongAx = zero_word ∷ []
widening_pieces _ = []
