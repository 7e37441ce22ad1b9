-- Equality and the orders of TOS and the primary register.
use Rattle.std.specs.Prelude.{◌+◌, List, [], ◌∷◌, ◌++◌}
use Rattle.c65_mach.specs.declared.rows.Op.TheVariants.{Bne, Bvc, Eor, Iny, Lda, Ldx, Ldy, Ora, Sbc, Sta, Txa}
use Rattle.c65_code.specs.declared.line.Line.{Line}
use Rattle.c65_code.specs.declared.line.Line.TheVariants.{Label}
use Rattle.c65_rtl.specs.Assembly.{sp, sreg, tmp1, implied, value, zero_page, by_y, branch}
use Rattle.c65_code.specs.declared.routine.TosOp.{TosOp}
use Rattle.c65_code.specs.declared.routine.TosOp.TheVariants as tos
use Rattle.c65_code.specs.declared.routine.Width.{Width}
use Rattle.c65_code.specs.declared.routine.Width.TheVariants.{Ax, Eax}
use Rattle.c65_mach.specs.declared.rows.Op.{Op}
use Rattle.c65_mach.specs.declared.rows.Op.TheVariants as ops
use Rattle.c65_rtl.specs.Operators.{drop_pieces}

-- Z is set where the words are equal
abbrev pub unlike : List Line
unlike = value Ldy 0 ∷ by_y Eor sp ∷ zero_page Sta tmp1 ∷ implied Iny ∷ implied Txa ∷ by_y Eor sp ∷ zero_page Ora tmp1 ∷ []

-- the same of the high halves
abbrev pub unlike_on : List Line
unlike_on = zero_page Sta tmp1 ∷ implied Iny ∷ zero_page Lda sreg ∷ by_y Eor sp ∷ zero_page Ora tmp1 ∷ zero_page Sta tmp1 ∷ implied Iny ∷ zero_page Lda (sreg + 1) ∷ by_y Eor sp ∷ zero_page Ora tmp1 ∷ []

-- AX less the word at sp: C and V tell the order
abbrev pub compare : List Line
compare = value Ldy 0 ∷ by_y Sbc sp ∷ implied Iny ∷ implied Txa ∷ by_y Sbc sp ∷ []

-- the same of the high halves
abbrev pub compare_on : List Line
compare_on = implied Iny ∷ zero_page Lda sreg ∷ by_y Sbc sp ∷ implied Iny ∷ zero_page Lda (sreg + 1) ∷ by_y Sbc sp ∷ []

-- N is the difference's true sign
abbrev pub sign : List Line
sign = branch Bvc 2 ∷ value Eor 0x80 ∷ Label 2 ∷ []

-- AX = 1, or 0 from label 3 on
abbrev pub truth : List Line
truth = value Lda 1 ∷ branch Bne 4 ∷ Label 3 ∷ value Lda 0 ∷ Label 4 ∷ value Ldx 0 ∷ []

-- AX = 0 where the branch is taken, else 1
abbrev pub decide_pieces : Op → Width → List (List Line)
decide_pieces taken width = (branch taken 3 ∷ []) ∷ truth ∷ drop_pieces width

abbrev pub equality_pieces : Op → Width → List (List Line)
equality_pieces taken Ax = unlike ∷ decide_pieces taken Ax
equality_pieces taken Eax = unlike ∷ unlike_on ∷ decide_pieces taken Eax

abbrev pub compared_pieces : Op → Width → List (List Line)
compared_pieces first Ax = (implied first ∷ []) ∷ compare ∷ []
compared_pieces first Eax = (implied first ∷ []) ∷ compare ∷ compare_on ∷ []

abbrev pub signed_pieces : Op → Op → Width → List (List Line)
signed_pieces first taken Ax = compared_pieces first Ax ++ (sign ∷ decide_pieces taken Ax)
signed_pieces first taken Eax = compared_pieces first Eax ++ (sign ∷ decide_pieces taken Eax)

abbrev pub unsigned_pieces : Op → Op → Width → List (List Line)
unsigned_pieces first taken Ax = compared_pieces first Ax ++ decide_pieces taken Ax
unsigned_pieces first taken Eax = compared_pieces first Eax ++ decide_pieces taken Eax

abbrev pub order_pieces : TosOp → Width → List (List Line)
order_pieces tos.Eq width = equality_pieces ops.Bne width
order_pieces tos.Ne width = equality_pieces ops.Beq width
order_pieces tos.Lt width = signed_pieces ops.Clc ops.Bmi width
order_pieces tos.Le width = signed_pieces ops.Sec ops.Bmi width
order_pieces tos.Gt width = signed_pieces ops.Sec ops.Bpl width
order_pieces tos.Ge width = signed_pieces ops.Clc ops.Bpl width
order_pieces tos.ULt width = unsigned_pieces ops.Clc ops.Bcc width
order_pieces tos.ULe width = unsigned_pieces ops.Sec ops.Bcc width
order_pieces tos.UGt width = unsigned_pieces ops.Sec ops.Bcs width
order_pieces tos.UGe width = unsigned_pieces ops.Clc ops.Bcs width
order_pieces _ width = []
