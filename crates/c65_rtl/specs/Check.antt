-- The check of the stacks with which a function begins where it is asked for (docs/MACHINE.md, "Routines").
use Rattle.std.specs.Prelude.{◌+◌, List, [], ◌∷◌}
use Rattle.c65_mach.specs.declared.rows.Op.TheVariants.{Bcc, Cmp, Lda, Ldx, Rts, Sbc, Sec, Sta, Stx, Tsx, Txa}
use Rattle.c65_code.specs.declared.line.Line.{Line}
use Rattle.c65_code.specs.declared.line.Line.TheVariants.{Label}
use Rattle.c65_rtl.specs.Assembly.{sp, tmp1, tmp2, tmp3, tmp4, implied, value, zero_page, branch}
use Rattle.c65_rtl.specs.Library.{end}

-- A waits in tmp1. What is left of the software stack, sp less the number in tmp3 and tmp4, goes there, and is compared with
-- $F830; then S, which is two bytes lower than before the call, with 29. X waits in tmp2.
abbrev pub stack_check : List Line
stack_check = zero_page Sta tmp1 ∷ zero_page Lda sp ∷ implied Sec ∷ zero_page Sbc tmp3 ∷ zero_page Sta tmp3 ∷ zero_page Lda (sp + 1) ∷ zero_page Sbc tmp4 ∷ branch Bcc 0 ∷ zero_page Sta tmp4 ∷ zero_page Lda tmp3 ∷ value Cmp 0x30 ∷ zero_page Lda tmp4 ∷ value Sbc 0xF8 ∷ branch Bcc 0 ∷ zero_page Stx tmp2 ∷ implied Tsx ∷ implied Txa ∷ zero_page Ldx tmp2 ∷ value Cmp 29 ∷ branch Bcc 0 ∷ zero_page Lda tmp1 ∷ implied Rts ∷ Label 0 ∷ value Lda 240 ∷ []

abbrev pub check_pieces : List (List Line)
check_pieces = stack_check ∷ end ∷ []
