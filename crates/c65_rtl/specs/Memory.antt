-- Loads and stores through pointers, copies, and the register variables.
use Rattle.std.specs.Prelude.{◌+◌, List, [], ◌∷◌}
use Rattle.c65_mach.specs.declared.rows.Op.TheVariants.{Bcs, Beq, Bne, Dec, Dex, Dey, Inc, Iny, Jmp, Lda, Ldx, Ldy, Pha, Pla, Rts, Sbc, Sec, Sta, Stx, Tax, Txa}
use Rattle.c65_code.specs.declared.line.Line.{Line}
use Rattle.c65_code.specs.declared.line.Line.TheVariants.{Label}
use Rattle.c65_rtl.specs.Assembly.{sp, sreg, ptr1, ptr2, ptr3, ptr4, tmp1, regbank, implied, value, zero_page, by_y, indirect, branch}
use Rattle.c65_code.specs.declared.routine.Routine.{Routine}
use Rattle.c65_code.specs.declared.routine.Routine.TheVariants as routines
use Rattle.c65_code.specs.declared.routine.Count.TheVariants.{Two, Six}
use Rattle.c65_rtl.specs.Stack.{raise_pieces, top_word_pieces}

-- AX to ptr1
abbrev pub point : List Line
point = zero_page Sta ptr1 ∷ zero_page Stx (ptr1 + 1) ∷ []

-- A from ptr1, and X = 0
abbrev pub byte_from : List Line
byte_from = value Ldy 0 ∷ by_y Lda ptr1 ∷ value Ldx 0 ∷ implied Rts ∷ []

-- the high half of the four bytes whose last one is at ptr1 + Y
abbrev pub sreg_from : List Line
sreg_from = by_y Lda ptr1 ∷ zero_page Sta (sreg + 1) ∷ implied Dey ∷ by_y Lda ptr1 ∷ zero_page Sta sreg ∷ implied Dey ∷ []

-- AX from the word whose high byte is at ptr1 + Y
abbrev pub word_from : List Line
word_from = by_y Lda ptr1 ∷ implied Tax ∷ implied Dey ∷ by_y Lda ptr1 ∷ implied Rts ∷ []

-- A to tmp1
abbrev pub hold : List Line
hold = zero_page Sta tmp1 ∷ []

-- A from tmp1
abbrev pub held : List Line
held = zero_page Lda tmp1 ∷ []

-- the word at sp to ptr1, and Y = 0
abbrev pub top_to_ptr1 : List Line
top_to_ptr1 = value Ldy 1 ∷ by_y Lda sp ∷ zero_page Sta (ptr1 + 1) ∷ implied Dey ∷ by_y Lda sp ∷ zero_page Sta ptr1 ∷ []

-- the word at sp to ptr2, and Y = 0
abbrev pub top_to_ptr2 : List Line
top_to_ptr2 = value Ldy 1 ∷ by_y Lda sp ∷ zero_page Sta (ptr2 + 1) ∷ implied Dey ∷ by_y Lda sp ∷ zero_page Sta ptr2 ∷ []

-- the byte held, to ptr1 + Y
abbrev pub byte_to : List Line
byte_to = zero_page Lda tmp1 ∷ by_y Sta ptr1 ∷ []

-- X to the byte behind
abbrev pub high_byte_to : List Line
high_byte_to = implied Iny ∷ implied Txa ∷ by_y Sta ptr1 ∷ []

-- sreg to the two bytes behind
abbrev pub sreg_to : List Line
sreg_to = implied Iny ∷ zero_page Lda sreg ∷ by_y Sta ptr1 ∷ implied Iny ∷ zero_page Lda (sreg + 1) ∷ by_y Sta ptr1 ∷ []

-- copies ptr3 bytes from ptr1 to ptr2, ascending: whole pages first, then the rest
abbrev pub copy : List Line
copy = value Ldy 0 ∷ zero_page Ldx (ptr3 + 1) ∷ branch Beq 3 ∷ Label 2 ∷ by_y Lda ptr1 ∷ by_y Sta ptr2 ∷ implied Iny ∷ branch Bne 2 ∷ zero_page Inc (ptr1 + 1) ∷ zero_page Inc (ptr2 + 1) ∷ implied Dex ∷ branch Bne 2 ∷ Label 3 ∷ zero_page Ldx ptr3 ∷ branch Beq 5 ∷ Label 4 ∷ by_y Lda ptr1 ∷ by_y Sta ptr2 ∷ implied Iny ∷ implied Dex ∷ branch Bne 4 ∷ Label 5 ∷ []

-- pushes regbank, and keeps EAX
abbrev pub save_bank : List Line
save_bank = implied Pha ∷ zero_page Lda sp ∷ implied Sec ∷ value Sbc 6 ∷ zero_page Sta sp ∷ branch Bcs 2 ∷ zero_page Dec (sp + 1) ∷ Label 2 ∷ value Ldy 0 ∷ zero_page Lda regbank ∷ by_y Sta sp ∷ implied Iny ∷ zero_page Lda (regbank + 1) ∷ by_y Sta sp ∷ implied Iny ∷ zero_page Lda (regbank + 2) ∷ by_y Sta sp ∷ implied Iny ∷ zero_page Lda (regbank + 3) ∷ by_y Sta sp ∷ implied Iny ∷ zero_page Lda (regbank + 4) ∷ by_y Sta sp ∷ implied Iny ∷ zero_page Lda (regbank + 5) ∷ by_y Sta sp ∷ implied Pla ∷ implied Rts ∷ []

-- the six bytes at sp to regbank; A is held
abbrev pub restore_bank : List Line
restore_bank = zero_page Sta tmp1 ∷ value Ldy 0 ∷ by_y Lda sp ∷ zero_page Sta regbank ∷ implied Iny ∷ by_y Lda sp ∷ zero_page Sta (regbank + 1) ∷ implied Iny ∷ by_y Lda sp ∷ zero_page Sta (regbank + 2) ∷ implied Iny ∷ by_y Lda sp ∷ zero_page Sta (regbank + 3) ∷ implied Iny ∷ by_y Lda sp ∷ zero_page Sta (regbank + 4) ∷ implied Iny ∷ by_y Lda sp ∷ zero_page Sta (regbank + 5) ∷ zero_page Lda tmp1 ∷ []

-- to the address in ptr4
abbrev pub jump : List Line
jump = indirect Jmp ptr4 ∷ []

abbrev pub from_pieces : Routine → List (List Line)
from_pieces routines.LdAi = point ∷ byte_from ∷ []
from_pieces routines.LdAxi = point ∷ (value Ldy 1 ∷ []) ∷ word_from ∷ []
from_pieces routines.LdEaxi = point ∷ (value Ldy 3 ∷ []) ∷ sreg_from ∷ word_from ∷ []
from_pieces _ = []

abbrev pub to_pieces : Routine → List (List Line)
to_pieces routines.StATos = hold ∷ top_to_ptr1 ∷ byte_to ∷ raise_pieces Two
to_pieces routines.StAxTos = hold ∷ top_to_ptr1 ∷ byte_to ∷ high_byte_to ∷ held ∷ raise_pieces Two
to_pieces routines.StEaxTos = hold ∷ top_to_ptr1 ∷ byte_to ∷ high_byte_to ∷ sreg_to ∷ held ∷ raise_pieces Two
to_pieces _ = []

abbrev pub bank_pieces : Routine → List (List Line)
bank_pieces routines.CopyTos = point ∷ top_to_ptr2 ∷ copy ∷ top_word_pieces 1 Two
bank_pieces routines.SaveRegs = save_bank ∷ []
bank_pieces routines.RestRegs = restore_bank ∷ raise_pieces Six
bank_pieces routines.CallPtr4 = jump ∷ []
bank_pieces _ = []
