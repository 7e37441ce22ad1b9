-- Shifts of TOS by the primary register.
use Rattle.std.specs.Prelude.{◌+◌, List, [], ◌∷◌, ◌++◌}
use Rattle.c65_mach.specs.declared.rows.Op.TheVariants.{And, Asl, Beq, Bne, Clc, Cmp, Cpx, Dex, Iny, Lda, Ldx, Ldy, Rol, Ror, Sta, Tax}
use Rattle.c65_code.specs.declared.line.Line.{Line}
use Rattle.c65_code.specs.declared.line.Line.TheVariants.{Label}
use Rattle.c65_rtl.specs.Assembly.{sp, sreg, tmp1, tmp2, tmp3, implied, on_a, value, zero_page, by_y, branch}
use Rattle.c65_code.specs.declared.routine.TosOp.{TosOp}
use Rattle.c65_code.specs.declared.routine.TosOp.TheVariants as tos
use Rattle.c65_code.specs.declared.routine.Width.{Width}
use Rattle.c65_code.specs.declared.routine.Width.TheVariants.{Ax, Eax}
use Rattle.c65_rtl.specs.Operators.{drop_pieces}

-- the count to X, the low byte to tmp1, the high byte to A
abbrev pub shift_word : List Line
shift_word = value And 15 ∷ implied Tax ∷ value Ldy 0 ∷ by_y Lda sp ∷ zero_page Sta tmp1 ∷ implied Iny ∷ by_y Lda sp ∷ []

-- the count to X, the three lower bytes to tmp1 to tmp3, the highest to A
abbrev pub shift_long : List Line
shift_long = value And 31 ∷ implied Tax ∷ value Ldy 0 ∷ by_y Lda sp ∷ zero_page Sta tmp1 ∷ implied Iny ∷ by_y Lda sp ∷ zero_page Sta tmp2 ∷ implied Iny ∷ by_y Lda sp ∷ zero_page Sta tmp3 ∷ implied Iny ∷ by_y Lda sp ∷ []

-- so many times, perhaps none
abbrev pub shifts : List Line
shifts = value Cpx 0 ∷ branch Beq 3 ∷ Label 2 ∷ []

-- once more until the count is used up
abbrev pub shifted : List Line
shifted = implied Dex ∷ branch Bne 2 ∷ Label 3 ∷ []

-- AX from its bytes
abbrev pub shifted_word : List Line
shifted_word = implied Tax ∷ zero_page Lda tmp1 ∷ []

-- EAX from its bytes
abbrev pub shifted_long : List Line
shifted_long = zero_page Sta (sreg + 1) ∷ zero_page Lda tmp3 ∷ zero_page Sta sreg ∷ zero_page Ldx tmp2 ∷ zero_page Lda tmp1 ∷ []

-- one bit up
abbrev pub up_word : List Line
up_word = zero_page Asl tmp1 ∷ on_a Rol ∷ []

-- one bit up
abbrev pub up_long : List Line
up_long = zero_page Asl tmp1 ∷ zero_page Rol tmp2 ∷ zero_page Rol tmp3 ∷ on_a Rol ∷ []

-- one bit down, with C as the highest
abbrev pub down_word : List Line
down_word = on_a Ror ∷ zero_page Ror tmp1 ∷ []

-- one bit down, with C as the highest
abbrev pub down_long : List Line
down_long = on_a Ror ∷ zero_page Ror tmp3 ∷ zero_page Ror tmp2 ∷ zero_page Ror tmp1 ∷ []

abbrev pub begin_pieces : Width → List (List Line)
begin_pieces Ax = shift_word ∷ shifts ∷ []
begin_pieces Eax = shift_long ∷ shifts ∷ []

abbrev pub end_pieces : Width → List (List Line)
end_pieces Ax = shifted ∷ shifted_word ∷ drop_pieces Ax
end_pieces Eax = shifted ∷ shifted_long ∷ drop_pieces Eax

abbrev pub up_pieces : Width → List (List Line)
up_pieces Ax = begin_pieces Ax ++ (up_word ∷ end_pieces Ax)
up_pieces Eax = begin_pieces Eax ++ (up_long ∷ end_pieces Eax)

-- the line before each step sets what comes in from above
abbrev pub down_pieces : Line → Width → List (List Line)
down_pieces carry Ax = begin_pieces Ax ++ ((carry ∷ []) ∷ down_word ∷ end_pieces Ax)
down_pieces carry Eax = begin_pieces Eax ++ ((carry ∷ []) ∷ down_long ∷ end_pieces Eax)

abbrev pub shift_pieces : TosOp → Width → List (List Line)
shift_pieces tos.Shl width = up_pieces width
shift_pieces tos.Shr width = down_pieces (implied Clc) width
shift_pieces tos.Asr width = down_pieces (value Cmp 0x80) width
shift_pieces _ width = []
