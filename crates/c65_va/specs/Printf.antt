-- The lines of `printf` (C90 7.9.6.1). All state is in the zero page: ptr1 is in the format, behind the byte that was read, ptr2
-- is the end of the next argument, and ptr3 counts the bytes written. Each part of the format becomes a text at ptr4, with its
-- length in tmp2 and tmp3 and its width in tmp1. sreg is a letter while the text lies on the software stack, and else 0.
use Rattle.std.specs.Prelude.{ℕ, ◌+◌, ◌-◌, Bool, true, false, List, [], ◌∷◌}
use Rattle.c65_base.specs.declared.library.Library.TheVariants.{Printf}
use Rattle.c65_mach.specs.declared.rows.Op.TheVariants.{Adc, Asl, Bcc, Bcs, Beq, Bne, Bpl, Clc, Cmp, Cpy, Dec, Dex, Inc, Inx, Iny, Jmp, Lda, Ldx, Ldy, Ora, Pha, Pla, Rol, Rts, Sbc, Sec, Sta, Stx, Sty, Tay, Tya}
use Rattle.c65_mach.specs.declared.rows.Mode.TheVariants.{Absolute}
use Rattle.c65_code.specs.declared.line.Operand.TheVariants.{To}
use Rattle.c65_code.specs.declared.line.Line.{Line}
use Rattle.c65_code.specs.declared.line.Line.TheVariants.{Label, Do}
use Rattle.c65_code.specs.declared.routine.Routine.{Routine}
use Rattle.c65_code.specs.declared.routine.Routine.TheVariants as routines
use Rattle.c65_code.specs.declared.routine.Count.TheVariants.{One}
use Rattle.c65_rtl.specs.Assembly.{sp, sreg, regsave, ptr1, ptr2, ptr3, ptr4, tmp1, tmp2, tmp3, tmp4, implied, on_a, value, zero_page, by_y, branch, call, with_all}

-- the labels that several pieces name
abbrev pub next : ℕ
next = 0

abbrev pub width : ℕ
width = 1

abbrev pub letter : ℕ
letter = 2

abbrev pub long : ℕ
long = 3

abbrev pub number : ℕ
number = 4

abbrev pub digits : ℕ
digits = 5

abbrev pub character : ℕ
character = 6

abbrev pub string : ℕ
string = 7

abbrev pub pad : ℕ
pad = 8

abbrev pub write : ℕ
write = 9

abbrev pub finish : ℕ
finish = 10

-- `%` less `0`, as a byte
abbrev pub percent : ℕ
percent = 37 + 256 - 48

abbrev pub jump : ℕ → Line
jump label = Do Jmp Absolute (To label)

-- Y waits on the hard stack. ptr2 is the end of the last argument before the format, whose address goes to ptr1; nothing
-- is written yet.
abbrev pub begin : List Line
begin = implied Tya ∷ implied Pha ∷ implied Clc ∷ zero_page Adc sp ∷ zero_page Sta ptr2 ∷ zero_page Lda (sp + 1) ∷ value Adc 0 ∷ zero_page Sta (ptr2 + 1) ∷ implied Sec ∷ zero_page Lda ptr2 ∷ value Sbc 2 ∷ zero_page Sta ptr2 ∷ branch Bcs 11 ∷ zero_page Dec (ptr2 + 1) ∷ Label 11 ∷ value Ldy 0 ∷ by_y Lda ptr2 ∷ zero_page Sta ptr1 ∷ implied Iny ∷ by_y Lda ptr2 ∷ zero_page Sta (ptr1 + 1) ∷ value Lda 0 ∷ zero_page Sta ptr3 ∷ zero_page Sta (ptr3 + 1) ∷ []

-- The format's next byte: the zero leads to the end, and a byte other than `%` is a text of its own, of length 1.
abbrev pub head : List Line
head = Label next ∷ value Ldy 0 ∷ by_y Lda ptr1 ∷ branch Beq finish ∷ zero_page Ldx ptr1 ∷ zero_page Stx ptr4 ∷ zero_page Ldx (ptr1 + 1) ∷ zero_page Stx (ptr4 + 1) ∷ value Ldx 0 ∷ zero_page Stx tmp1 ∷ zero_page Stx tmp3 ∷ zero_page Stx sreg ∷ implied Inx ∷ zero_page Stx tmp2 ∷ zero_page Inc ptr1 ∷ branch Bne 12 ∷ zero_page Inc (ptr1 + 1) ∷ Label 12 ∷ value Cmp 37 ∷ branch Bne pad ∷ []

-- Behind `%`: digits make up the width, and the byte behind them comes less `0`.
abbrev pub read_width : List Line
read_width = Label width ∷ by_y Lda ptr1 ∷ zero_page Inc ptr1 ∷ branch Bne 13 ∷ zero_page Inc (ptr1 + 1) ∷ Label 13 ∷ implied Sec ∷ value Sbc 48 ∷ value Cmp 10 ∷ branch Bcs letter ∷ zero_page Sta (sreg + 1) ∷ zero_page Lda tmp1 ∷ on_a Asl ∷ on_a Asl ∷ zero_page Adc tmp1 ∷ on_a Asl ∷ zero_page Adc (sreg + 1) ∷ zero_page Sta tmp1 ∷ jump width ∷ []

-- By that byte; `%` stands for itself, where ptr4 already is. For d, u and x a word is taken from the arguments, and for
-- d its sign spreads over the upper half.
abbrev pub choose : List Line
choose = Label letter ∷ value Cmp percent ∷ branch Beq pad ∷ value Cmp (99 - 48) ∷ branch Beq character ∷ value Cmp (115 - 48) ∷ branch Beq string ∷ value Ldx 10 ∷ zero_page Stx tmp4 ∷ value Cmp (108 - 48) ∷ branch Beq long ∷ value Cmp (120 - 48) ∷ branch Bne 14 ∷ value Ldx 16 ∷ zero_page Stx tmp4 ∷ Label 14 ∷ zero_page Sta sreg ∷ implied Sec ∷ zero_page Lda ptr2 ∷ value Sbc 2 ∷ zero_page Sta ptr2 ∷ branch Bcs 15 ∷ zero_page Dec (ptr2 + 1) ∷ Label 15 ∷ by_y Lda ptr2 ∷ zero_page Sta regsave ∷ implied Iny ∷ by_y Lda ptr2 ∷ zero_page Sta (regsave + 1) ∷ value Ldx 0 ∷ zero_page Ldy sreg ∷ value Cpy (100 - 48) ∷ branch Bne 16 ∷ value Cmp 128 ∷ branch Bcc 16 ∷ implied Dex ∷ Label 16 ∷ zero_page Stx (regsave + 2) ∷ zero_page Stx (regsave + 3) ∷ jump number ∷ []

-- Behind the letter l: a number of four bytes.
abbrev pub long_number : List Line
long_number = Label long ∷ by_y Lda ptr1 ∷ zero_page Inc ptr1 ∷ branch Bne 17 ∷ zero_page Inc (ptr1 + 1) ∷ Label 17 ∷ implied Sec ∷ value Sbc 48 ∷ zero_page Sta sreg ∷ implied Sec ∷ zero_page Lda ptr2 ∷ value Sbc 4 ∷ zero_page Sta ptr2 ∷ branch Bcs 18 ∷ zero_page Dec (ptr2 + 1) ∷ Label 18 ∷ by_y Lda ptr2 ∷ zero_page Sta regsave ∷ implied Iny ∷ by_y Lda ptr2 ∷ zero_page Sta (regsave + 1) ∷ implied Iny ∷ by_y Lda ptr2 ∷ zero_page Sta (regsave + 2) ∷ implied Iny ∷ by_y Lda ptr2 ∷ zero_page Sta (regsave + 3) ∷ []

-- Of a negative number the minus sign is kept, and the number is turned.
abbrev pub take_sign : List Line
take_sign = Label number ∷ value Lda 0 ∷ zero_page Sta (sreg + 1) ∷ zero_page Lda sreg ∷ value Cmp (100 - 48) ∷ branch Bne digits ∷ zero_page Lda (regsave + 3) ∷ branch Bpl digits ∷ zero_page Inc (sreg + 1) ∷ implied Sec ∷ value Lda 0 ∷ zero_page Sbc regsave ∷ zero_page Sta regsave ∷ value Lda 0 ∷ zero_page Sbc (regsave + 1) ∷ zero_page Sta (regsave + 1) ∷ value Lda 0 ∷ zero_page Sbc (regsave + 2) ∷ zero_page Sta (regsave + 2) ∷ value Lda 0 ∷ zero_page Sbc (regsave + 3) ∷ zero_page Sta (regsave + 3) ∷ []

-- The digits are pushed, the lowest first, so that they stand in order from the sp on; each is the remainder by the base
-- in tmp4. The sign comes last.
abbrev pub push_digits : List Line
push_digits = Label digits ∷ value Lda 0 ∷ zero_page Sta tmp2 ∷ Label 19 ∷ value Lda 0 ∷ value Ldx 32 ∷ Label 20 ∷ zero_page Asl regsave ∷ zero_page Rol (regsave + 1) ∷ zero_page Rol (regsave + 2) ∷ zero_page Rol (regsave + 3) ∷ on_a Rol ∷ zero_page Cmp tmp4 ∷ branch Bcc 21 ∷ zero_page Sbc tmp4 ∷ zero_page Inc regsave ∷ Label 21 ∷ implied Dex ∷ branch Bne 20 ∷ value Cmp 10 ∷ branch Bcc 22 ∷ value Adc 38 ∷ Label 22 ∷ value Adc 48 ∷ call routines.PushA ∷ zero_page Inc tmp2 ∷ zero_page Lda regsave ∷ zero_page Ora (regsave + 1) ∷ zero_page Ora (regsave + 2) ∷ zero_page Ora (regsave + 3) ∷ branch Bne 19 ∷ zero_page Lda (sreg + 1) ∷ branch Beq 23 ∷ value Lda 45 ∷ call routines.PushA ∷ zero_page Inc tmp2 ∷ Label 23 ∷ zero_page Lda sp ∷ zero_page Sta ptr4 ∷ zero_page Lda (sp + 1) ∷ zero_page Sta (ptr4 + 1) ∷ jump pad ∷ []

-- The argument's own low byte is the text.
abbrev pub take_character : List Line
take_character = Label character ∷ implied Sec ∷ zero_page Lda ptr2 ∷ value Sbc 2 ∷ zero_page Sta ptr2 ∷ branch Bcs 24 ∷ zero_page Dec (ptr2 + 1) ∷ Label 24 ∷ zero_page Lda ptr2 ∷ zero_page Sta ptr4 ∷ zero_page Lda (ptr2 + 1) ∷ zero_page Sta (ptr4 + 1) ∷ jump pad ∷ []

-- The text at the argument's address, up to its zero.
abbrev pub take_string : List Line
take_string = Label string ∷ implied Sec ∷ zero_page Lda ptr2 ∷ value Sbc 2 ∷ zero_page Sta ptr2 ∷ branch Bcs 25 ∷ zero_page Dec (ptr2 + 1) ∷ Label 25 ∷ by_y Lda ptr2 ∷ zero_page Sta ptr4 ∷ implied Iny ∷ by_y Lda ptr2 ∷ zero_page Sta (ptr4 + 1) ∷ value Ldx 0 ∷ value Ldy 0 ∷ Label 26 ∷ by_y Lda ptr4 ∷ branch Beq 27 ∷ implied Iny ∷ branch Bne 26 ∷ implied Inx ∷ zero_page Inc (ptr4 + 1) ∷ branch Bne 26 ∷ Label 27 ∷ zero_page Sty tmp2 ∷ zero_page Stx tmp3 ∷ implied Sec ∷ zero_page Lda (ptr4 + 1) ∷ zero_page Sbc tmp3 ∷ zero_page Sta (ptr4 + 1) ∷ []

-- While the text is shorter than the width, a space is written from a place on the stack; then that place is given back.
abbrev pub put_spaces : List Line
put_spaces = Label pad ∷ zero_page Lda tmp3 ∷ branch Bne write ∷ zero_page Lda tmp2 ∷ zero_page Cmp tmp1 ∷ branch Bcs write ∷ value Lda 32 ∷ call routines.PushA ∷ zero_page Lda sp ∷ zero_page Sta regsave ∷ zero_page Lda (sp + 1) ∷ zero_page Sta (regsave + 1) ∷ Label 28 ∷ value Lda 1 ∷ value Ldx 0 ∷ call routines.PushAx ∷ zero_page Lda regsave ∷ zero_page Ldx (regsave + 1) ∷ call routines.PushAx ∷ value Lda 1 ∷ value Ldx 0 ∷ call routines.HookWrite ∷ zero_page Inc ptr3 ∷ branch Bne 29 ∷ zero_page Inc (ptr3 + 1) ∷ Label 29 ∷ zero_page Dec tmp1 ∷ zero_page Lda tmp2 ∷ zero_page Cmp tmp1 ∷ branch Bcc 28 ∷ call (routines.IncSp One) ∷ []

-- The text is written and counted, digits are taken off the stack, and the next byte of the format comes.
abbrev pub put_text : List Line
put_text = Label write ∷ value Lda 1 ∷ value Ldx 0 ∷ call routines.PushAx ∷ zero_page Lda ptr4 ∷ zero_page Ldx (ptr4 + 1) ∷ call routines.PushAx ∷ zero_page Lda tmp2 ∷ zero_page Ldx tmp3 ∷ call routines.HookWrite ∷ implied Clc ∷ zero_page Lda ptr3 ∷ zero_page Adc tmp2 ∷ zero_page Sta ptr3 ∷ zero_page Lda (ptr3 + 1) ∷ zero_page Adc tmp3 ∷ zero_page Sta (ptr3 + 1) ∷ zero_page Lda sreg ∷ branch Beq 30 ∷ zero_page Ldy tmp2 ∷ call routines.AddYSp ∷ Label 30 ∷ jump next ∷ []

-- AX is the number of bytes written, and the arguments are taken off the stack by their number.
abbrev pub end : List Line
end = Label finish ∷ implied Pla ∷ implied Tay ∷ zero_page Lda ptr3 ∷ zero_page Ldx (ptr3 + 1) ∷ call routines.AddYSp ∷ implied Rts ∷ []

-- the routine that stands here
abbrev pub is_printf : Routine → Bool
is_printf (routines.Library Printf) = true
is_printf _ = false

abbrev pub printf_pieces : List (List Line)
printf_pieces = begin ∷ head ∷ read_width ∷ choose ∷ long_number ∷ take_sign ∷ push_digits ∷ take_character ∷ take_string ∷ put_spaces ∷ put_text ∷ end ∷ []

abbrev pub printf_lines : List Line
printf_lines = with_all [] printf_pieces
