-- The start of a program, and the functions of C's library (C90 7.9, 7.10, 7.11) over the simulator's hooks.
use Rattle.std.specs.Prelude.{◌+◌, List, [], ◌∷◌}
use Rattle.c65_mach.specs.declared.rows.Op.TheVariants.{Bcs, Beq, Bne, Cmp, Dex, Dey, Inc, Inx, Iny, Lda, Ldx, Ldy, Rts, Sbc, Sec, Sta, Stx, Tax, Tya}
use Rattle.c65_code.specs.declared.line.Line.{Line}
use Rattle.c65_code.specs.declared.line.Line.TheVariants.{Label, Call}
use Rattle.c65_rtl.specs.Assembly.{sp, ptr1, ptr2, ptr3, implied, value, zero_page, by_y, branch, call}
use Rattle.c65_code.specs.declared.routine.Routine.{Routine}
use Rattle.c65_code.specs.declared.routine.Routine.TheVariants as routines
use Rattle.c65_base.specs.declared.library.Library.{Library}
use Rattle.c65_base.specs.declared.library.Library.TheVariants.{Putchar, Getchar, Puts, Exit, Memcpy, Memset, Strcmp, Strcpy, Strlen, Printf}
use Rattle.c65_code.specs.declared.line.Callee.TheVariants as callees
use Rattle.c65_code.specs.Effects.{ax}
use Rattle.c65_code.specs.declared.routine.Count.TheVariants.{One, Two, Four}
use Rattle.c65_rtl.specs.Stack.{raise_pieces, top_word_pieces}
use Rattle.c65_rtl.specs.Memory.{point, top_to_ptr1, top_to_ptr2, copy}

-- sp = $FFF0
abbrev pub stack_top : List Line
stack_top = value Lda 0xF0 ∷ zero_page Sta sp ∷ value Lda 0xFF ∷ zero_page Sta (sp + 1) ∷ []

-- the list's address goes to the stack's lowest word, which is free; argc is pushed, and AX = argv
abbrev pub arguments : List Line
arguments = value Lda 0xF0 ∷ zero_page Sta ptr1 ∷ value Ldx 0xF7 ∷ zero_page Stx (ptr1 + 1) ∷ call routines.HookArgs ∷ call routines.PushAx ∷ value Ldy 1 ∷ by_y Lda ptr1 ∷ implied Tax ∷ implied Dey ∷ by_y Lda ptr1 ∷ []

-- ends with status A
abbrev pub end : List Line
end = call routines.HookExit ∷ implied Rts ∷ []

-- the word is pushed, and its low byte is written from there
abbrev pub put_char : List Line
put_char = call routines.PushAx ∷ zero_page Lda sp ∷ zero_page Sta ptr1 ∷ zero_page Lda (sp + 1) ∷ zero_page Sta (ptr1 + 1) ∷ value Lda 1 ∷ value Ldx 0 ∷ call routines.PushAx ∷ zero_page Lda ptr1 ∷ zero_page Ldx (ptr1 + 1) ∷ call routines.PushAx ∷ value Lda 1 ∷ value Ldx 0 ∷ call routines.HookWrite ∷ call routines.PopAx ∷ value Ldx 0 ∷ implied Rts ∷ []

-- A byte is read into a place on the stack
abbrev pub get_char : List Line
get_char = call routines.PushA ∷ zero_page Lda sp ∷ zero_page Sta ptr1 ∷ zero_page Lda (sp + 1) ∷ zero_page Sta (ptr1 + 1) ∷ call routines.Push0 ∷ zero_page Lda ptr1 ∷ zero_page Ldx (ptr1 + 1) ∷ call routines.PushAx ∷ value Lda 1 ∷ value Ldx 0 ∷ call routines.HookRead ∷ value Cmp 1 ∷ branch Bne 0 ∷ call routines.PopA ∷ value Ldx 0 ∷ implied Rts ∷ Label 0 ∷ call (routines.IncSp One) ∷ value Lda 0xFF ∷ implied Tax ∷ implied Rts ∷ []

-- the string and its length wait on the stack; after them a line feed is written
abbrev pub put_string : List Line
put_string = call routines.PushAx ∷ call (routines.Library Strlen) ∷ call routines.PushAx ∷ value Lda 1 ∷ value Ldx 0 ∷ call routines.PushAx ∷ value Ldy 5 ∷ call routines.LdAxYSp ∷ call routines.PushAx ∷ value Ldy 5 ∷ call routines.LdAxYSp ∷ call routines.HookWrite ∷ call (routines.IncSp Four) ∷ value Lda 10 ∷ value Ldx 0 ∷ call (routines.Library Putchar) ∷ value Lda 0 ∷ implied Tax ∷ implied Rts ∷ []

-- the source to ptr1, the target to ptr2, the number of bytes to ptr3
abbrev pub copied : List Line
copied = zero_page Sta ptr3 ∷ zero_page Stx (ptr3 + 1) ∷ value Ldy 3 ∷ by_y Lda sp ∷ zero_page Sta (ptr2 + 1) ∷ implied Dey ∷ by_y Lda sp ∷ zero_page Sta ptr2 ∷ implied Dey ∷ by_y Lda sp ∷ zero_page Sta (ptr1 + 1) ∷ implied Dey ∷ by_y Lda sp ∷ zero_page Sta ptr1 ∷ []

-- A to ptr3 bytes from ptr2 on: whole pages first, then the rest
abbrev pub fill : List Line
fill = zero_page Sta ptr3 ∷ zero_page Stx (ptr3 + 1) ∷ value Ldy 3 ∷ by_y Lda sp ∷ zero_page Sta (ptr2 + 1) ∷ implied Dey ∷ by_y Lda sp ∷ zero_page Sta ptr2 ∷ value Ldy 0 ∷ by_y Lda sp ∷ zero_page Ldx (ptr3 + 1) ∷ branch Beq 3 ∷ Label 2 ∷ by_y Sta ptr2 ∷ implied Iny ∷ branch Bne 2 ∷ zero_page Inc (ptr2 + 1) ∷ implied Dex ∷ branch Bne 2 ∷ Label 3 ∷ zero_page Ldx ptr3 ∷ branch Beq 5 ∷ Label 4 ∷ by_y Sta ptr2 ∷ implied Iny ∷ implied Dex ∷ branch Bne 4 ∷ Label 5 ∷ []

-- the number of bytes before a zero
abbrev pub string_length : List Line
string_length = value Ldx 0 ∷ value Ldy 0 ∷ Label 2 ∷ by_y Lda ptr1 ∷ branch Beq 3 ∷ implied Iny ∷ branch Bne 2 ∷ zero_page Inc (ptr1 + 1) ∷ implied Inx ∷ branch Bne 2 ∷ Label 3 ∷ implied Tya ∷ implied Rts ∷ []

-- copies from ptr1 to ptr2, up to a zero byte; Y is 0
abbrev pub copy_string : List Line
copy_string = Label 2 ∷ by_y Lda ptr1 ∷ by_y Sta ptr2 ∷ branch Beq 3 ∷ implied Iny ∷ branch Bne 2 ∷ zero_page Inc (ptr1 + 1) ∷ zero_page Inc (ptr2 + 1) ∷ branch Bne 2 ∷ Label 3 ∷ []

-- the difference of the first unlike bytes of ptr1 and ptr2, or of the zero bytes; Y is 0
abbrev pub compare_strings : List Line
compare_strings = Label 2 ∷ by_y Lda ptr1 ∷ branch Beq 3 ∷ by_y Cmp ptr2 ∷ branch Bne 3 ∷ implied Iny ∷ branch Bne 2 ∷ zero_page Inc (ptr1 + 1) ∷ zero_page Inc (ptr2 + 1) ∷ branch Bne 2 ∷ Label 3 ∷ value Ldx 0 ∷ implied Sec ∷ by_y Lda ptr1 ∷ by_y Sbc ptr2 ∷ branch Bcs 4 ∷ implied Dex ∷ Label 4 ∷ []

-- AX to ptr2
abbrev pub other_string : List Line
other_string = zero_page Sta ptr2 ∷ zero_page Stx (ptr2 + 1) ∷ []

-- symbol 0 stands for main, which takes and gives A and X
abbrev pub main_call : Line
main_call = Call (callees.Function (record { 0 = 0 }) ax ax)

abbrev pub start_pieces : Routine → List (List Line)
start_pieces routines.Start = stack_top ∷ (main_call ∷ []) ∷ end ∷ []
start_pieces routines.StartArgs = stack_top ∷ arguments ∷ (main_call ∷ []) ∷ end ∷ []
start_pieces _ = []

abbrev pub outside_pieces : Library → List (List Line)
outside_pieces Putchar = put_char ∷ []
outside_pieces Getchar = get_char ∷ []
outside_pieces Puts = put_string ∷ []
outside_pieces Exit = end ∷ []
outside_pieces _ = []

abbrev pub memory_pieces : Library → List (List Line)
memory_pieces Memcpy = copied ∷ copy ∷ top_word_pieces 3 Four
memory_pieces Memset = fill ∷ top_word_pieces 3 Four
memory_pieces _ = []

abbrev pub string_pieces : Library → List (List Line)
string_pieces Strcmp = other_string ∷ top_to_ptr1 ∷ compare_strings ∷ raise_pieces Two
string_pieces Strcpy = point ∷ top_to_ptr2 ∷ copy_string ∷ top_word_pieces 1 Two
string_pieces Strlen = point ∷ string_length ∷ []
string_pieces _ = []

abbrev pub library_pieces : Library → List (List Line)
library_pieces Putchar = outside_pieces Putchar
library_pieces Getchar = outside_pieces Getchar
library_pieces Puts = outside_pieces Puts
library_pieces Exit = outside_pieces Exit
library_pieces Memcpy = memory_pieces Memcpy
library_pieces Memset = memory_pieces Memset
library_pieces Strcmp = string_pieces Strcmp
library_pieces Strcpy = string_pieces Strcpy
library_pieces Strlen = string_pieces Strlen
library_pieces Printf = []
