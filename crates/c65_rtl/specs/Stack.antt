-- The software stack: pushes, pops, moves of its pointer, loads and stores.
use Rattle.std.specs.Prelude.{ℕ, ◌+◌, List, [], ◌∷◌}
use Rattle.c65_mach.specs.declared.rows.Op.TheVariants.{Adc, Bcc, Bcs, Beq, Bne, Clc, Cpy, Dec, Dey, Eor, Inc, Iny, Lda, Ldx, Ldy, Pha, Pla, Rts, Sbc, Sec, Sta, Sty, Tax, Tay, Txa, Tya}
use Rattle.c65_code.specs.declared.line.Line.{Line}
use Rattle.c65_code.specs.declared.line.Line.TheVariants.{Label}
use Rattle.c65_rtl.specs.Assembly.{sp, sreg, ptr1, ptr2, implied, value, zero_page, by_y, branch}
use Rattle.c65_code.specs.declared.routine.Routine.{Routine}
use Rattle.c65_code.specs.declared.routine.Routine.TheVariants as routines
use Rattle.c65_code.specs.declared.routine.Count.{Count}
use Rattle.c65_code.specs.declared.routine.Count.TheVariants.{One, Two, Three, Four, Five, Six, Seven, Eight}

-- pushes A
abbrev pub push_byte : List Line
push_byte = zero_page Ldy sp ∷ branch Bne 2 ∷ zero_page Dec (sp + 1) ∷ Label 2 ∷ zero_page Dec sp ∷ value Ldy 0 ∷ by_y Sta sp ∷ implied Rts ∷ []

-- pushes AX
abbrev pub push_word : List Line
push_word = implied Pha ∷ zero_page Lda sp ∷ implied Sec ∷ value Sbc 2 ∷ zero_page Sta sp ∷ branch Bcs 2 ∷ zero_page Dec (sp + 1) ∷ Label 2 ∷ value Ldy 1 ∷ implied Txa ∷ by_y Sta sp ∷ implied Dey ∷ implied Pla ∷ by_y Sta sp ∷ implied Rts ∷ []

-- pushes EAX
abbrev pub push_long : List Line
push_long = implied Pha ∷ zero_page Lda sp ∷ implied Sec ∷ value Sbc 4 ∷ zero_page Sta sp ∷ branch Bcs 2 ∷ zero_page Dec (sp + 1) ∷ Label 2 ∷ value Ldy 3 ∷ zero_page Lda (sreg + 1) ∷ by_y Sta sp ∷ implied Dey ∷ zero_page Lda sreg ∷ by_y Sta sp ∷ implied Dey ∷ implied Txa ∷ by_y Sta sp ∷ implied Dey ∷ implied Pla ∷ by_y Sta sp ∷ implied Rts ∷ []

-- X = 0
abbrev pub no_high_byte : List Line
no_high_byte = value Ldx 0 ∷ []

-- AX = 0
abbrev pub no_word : List Line
no_word = value Lda 0 ∷ implied Tax ∷ []

-- the byte at sp
abbrev pub top_byte : List Line
top_byte = value Ldy 0 ∷ by_y Lda sp ∷ []

-- raises sp by one
abbrev pub raise_one : List Line
raise_one = zero_page Inc sp ∷ branch Bne 0 ∷ zero_page Inc (sp + 1) ∷ Label 0 ∷ implied Rts ∷ []

-- raises sp by two, and keeps A and X
abbrev pub raise_two : List Line
raise_two = zero_page Inc sp ∷ branch Beq 0 ∷ zero_page Inc sp ∷ branch Beq 1 ∷ implied Rts ∷ Label 0 ∷ zero_page Inc sp ∷ Label 1 ∷ zero_page Inc (sp + 1) ∷ implied Rts ∷ []

-- raises sp by Y, and keeps A and X
abbrev pub raise_by_y : List Line
raise_by_y = implied Pha ∷ implied Tya ∷ implied Clc ∷ zero_page Adc sp ∷ zero_page Sta sp ∷ branch Bcc 0 ∷ zero_page Inc (sp + 1) ∷ Label 0 ∷ implied Pla ∷ implied Rts ∷ []

-- raises sp by a number, and keeps A, which waits in Y, and X
abbrev pub raise_by_number : ℕ → List Line
raise_by_number k = implied Tay ∷ zero_page Lda sp ∷ implied Clc ∷ value Adc k ∷ zero_page Sta sp ∷ branch Bcc 0 ∷ zero_page Inc (sp + 1) ∷ Label 0 ∷ implied Tya ∷ implied Rts ∷ []

-- lowers sp by one
abbrev pub lower_one : List Line
lower_one = zero_page Ldy sp ∷ branch Bne 0 ∷ zero_page Dec (sp + 1) ∷ Label 0 ∷ zero_page Dec sp ∷ implied Rts ∷ []

-- lowers sp by two: the low byte borrows where it comes to $FE or $FF
abbrev pub lower_two : List Line
lower_two = zero_page Ldy sp ∷ implied Dey ∷ implied Dey ∷ zero_page Sty sp ∷ value Cpy 0xFE ∷ branch Bcc 0 ∷ zero_page Dec (sp + 1) ∷ Label 0 ∷ implied Rts ∷ []

-- lowers sp by Y, and keeps A and X: the complement and one more are added
abbrev pub lower_by_y : List Line
lower_by_y = implied Pha ∷ implied Tya ∷ value Eor 0xFF ∷ implied Sec ∷ zero_page Adc sp ∷ zero_page Sta sp ∷ branch Bcs 0 ∷ zero_page Dec (sp + 1) ∷ Label 0 ∷ implied Pla ∷ implied Rts ∷ []

-- lowers sp by a number, and keeps A, which waits in Y, and X
abbrev pub lower_by_number : ℕ → List Line
lower_by_number k = implied Tay ∷ zero_page Lda sp ∷ implied Sec ∷ value Sbc k ∷ zero_page Sta sp ∷ branch Bcs 0 ∷ zero_page Dec (sp + 1) ∷ Label 0 ∷ implied Tya ∷ implied Rts ∷ []

-- the high half of four bytes whose last one is at sp + Y
abbrev pub load_sreg : List Line
load_sreg = by_y Lda sp ∷ zero_page Sta (sreg + 1) ∷ implied Dey ∷ by_y Lda sp ∷ zero_page Sta sreg ∷ implied Dey ∷ []

-- AX from the word whose high byte is at sp + Y
abbrev pub load_word : List Line
load_word = by_y Lda sp ∷ implied Tax ∷ implied Dey ∷ by_y Lda sp ∷ []

-- stores AX at sp + Y
abbrev pub store_word : List Line
store_word = by_y Sta sp ∷ implied Iny ∷ implied Pha ∷ implied Txa ∷ by_y Sta sp ∷ implied Pla ∷ implied Rts ∷ []

-- stores EAX at sp + Y
abbrev pub store_long : List Line
store_long = by_y Sta sp ∷ implied Iny ∷ implied Pha ∷ implied Txa ∷ by_y Sta sp ∷ implied Iny ∷ zero_page Lda sreg ∷ by_y Sta sp ∷ implied Iny ∷ zero_page Lda (sreg + 1) ∷ by_y Sta sp ∷ implied Pla ∷ implied Rts ∷ []

-- the words at sp go to ptr1 and ptr2
abbrev pub pointers : List Line
pointers = value Ldy 3 ∷ by_y Lda sp ∷ zero_page Sta (ptr2 + 1) ∷ implied Dey ∷ by_y Lda sp ∷ zero_page Sta ptr2 ∷ implied Dey ∷ by_y Lda sp ∷ zero_page Sta (ptr1 + 1) ∷ implied Dey ∷ by_y Lda sp ∷ zero_page Sta ptr1 ∷ []

-- the way back
abbrev pub back : List Line
back = implied Rts ∷ []

-- the end of every routine that pops
abbrev pub raise_pieces : Count → List (List Line)
raise_pieces One = raise_one ∷ []
raise_pieces Two = raise_two ∷ []
raise_pieces Three = raise_by_number 3 ∷ []
raise_pieces Four = raise_by_number 4 ∷ []
raise_pieces Five = raise_by_number 5 ∷ []
raise_pieces Six = raise_by_number 6 ∷ []
raise_pieces Seven = raise_by_number 7 ∷ []
raise_pieces Eight = raise_by_number 8 ∷ []

abbrev pub lower_pieces : Count → List (List Line)
lower_pieces One = lower_one ∷ []
lower_pieces Two = lower_two ∷ []
lower_pieces Three = lower_by_number 3 ∷ []
lower_pieces Four = lower_by_number 4 ∷ []
lower_pieces Five = lower_by_number 5 ∷ []
lower_pieces Six = lower_by_number 6 ∷ []
lower_pieces Seven = lower_by_number 7 ∷ []
lower_pieces Eight = lower_by_number 8 ∷ []

abbrev pub top_word_pieces : ℕ → Count → List (List Line)
top_word_pieces y count = (value Ldy y ∷ []) ∷ load_word ∷ raise_pieces count

abbrev pub push_pieces : Routine → List (List Line)
push_pieces routines.PushA = push_byte ∷ []
push_pieces routines.PushAx = push_word ∷ []
push_pieces routines.PushA0 = no_high_byte ∷ push_word ∷ []
push_pieces routines.Push0 = no_word ∷ push_word ∷ []
push_pieces routines.PushEax = push_long ∷ []
push_pieces _ = []

abbrev pub pop_pieces : Routine → List (List Line)
pop_pieces routines.PopA = top_byte ∷ raise_pieces One
pop_pieces routines.PopAx = top_word_pieces 1 Two
pop_pieces routines.PopEax = (value Ldy 3 ∷ []) ∷ load_sreg ∷ load_word ∷ raise_pieces Four
pop_pieces routines.PopPtrs = pointers ∷ raise_pieces Four
pop_pieces routines.AddYSp = raise_by_y ∷ []
pop_pieces routines.SubYSp = lower_by_y ∷ []
pop_pieces _ = []

abbrev pub load_pieces : Routine → List (List Line)
load_pieces routines.LdAxYSp = load_word ∷ back ∷ []
load_pieces routines.LdAx0Sp = (value Ldy 1 ∷ []) ∷ load_word ∷ back ∷ []
load_pieces routines.LdEaxYSp = load_sreg ∷ load_word ∷ back ∷ []
load_pieces _ = []

abbrev pub store_pieces : Routine → List (List Line)
store_pieces routines.StAxYSp = store_word ∷ []
store_pieces routines.StAx0Sp = (value Ldy 0 ∷ []) ∷ store_word ∷ []
store_pieces routines.StEaxYSp = store_long ∷ []
store_pieces _ = []
