-- Calls of functions of the library with arguments that the lines before show: literals, and numbers of bytes.
use Rattle.std.specs.Prelude.{ℕ, zero, suc, ◌+◌, ◌/◌, ◌%◌, ◌==◌, ◌&&◌, nat_le, if◌then◌else◌, List, [], ◌∷◌, ◌++◌, Option, Some, None}
use Rattle.std.specs.List.{position}
use Rattle.c65_base.specs.declared.library.Library.{Library}
use Rattle.c65_base.specs.declared.library.Library.TheVariants.{Memcpy, Memset, Strcmp, Strcpy, Strlen}
use Rattle.c65_mach.specs.declared.rows.Op.{Op}
use Rattle.c65_mach.specs.declared.rows.Op.TheVariants as ops
use Rattle.c65_mach.specs.declared.rows.Mode.TheVariants.{Immediate, ZeroPage, IndirectY}
use Rattle.c65_code.specs.declared.routine.Routine.TheVariants as routines
use Rattle.c65_code.specs.declared.line.Operand.{Operand}
use Rattle.c65_code.specs.declared.line.Operand.TheVariants.{Byte, Low, High, Zero}
use Rattle.c65_code.specs.declared.line.Callee.TheVariants as callees
use Rattle.c65_code.specs.declared.line.Line.{Line}
use Rattle.c65_code.specs.declared.line.Line.TheVariants.{Do, Call}
use Rattle.c65_code.specs.declared.line.Sym.{Sym}
use Rattle.c65_live.specs.Tables.{Table}
use Rattle.c65_pass.specs.Registers.{alone}
use Rattle.c65_pass.specs.Rewriting.{Rewriting}
use Rattle.c65_pass.specs.StackRules.{is_settled, in_place, word_loaded, call_of}

-- the length of the text of a literal, where the symbol is one: the bytes before its first zero
abbrev pub literal_length : List (Sym × List ℕ) → Sym → Option ℕ
literal_length [] s = None
literal_length (literal ∷ literals) s = if literal.0.0 == s.0 then position (λ byte. byte == 0) literal.1 else literal_length literals s

-- the same of the literal whose address is loaded
abbrev pub text_loaded : List (Sym × List ℕ) → Option (Operand × Operand) → Option ℕ
text_loaded literals (Some (High s o, Low t p)) = if (s.0 == t.0) && ((o == 0) && (p == 0)) then literal_length literals s else None
text_loaded literals _ = None

abbrev pub at_most : ℕ → Option ℕ → Option ℕ
at_most most None = None
at_most most (Some n) = if nat_le n most then Some n else None

-- the number from 1 to 8 that is loaded
abbrev pub count_loaded : Option (Operand × Operand) → Option ℕ
count_loaded (Some (Byte h, Byte l)) = if (h == 0) && (nat_le 1 l && nat_le l 8) then Some l else None
count_loaded _ = None

-- an operation with a byte, with a byte of the zero page, and on the byte at a pointer plus Y
abbrev pub with_value : Op → ℕ → Line
with_value op v = Do op Immediate (Byte v)

abbrev pub on_zero : Op → ℕ → Line
on_zero op i = Do op ZeroPage (Zero i)

abbrev pub through : Op → ℕ → Line
through op i = Do op IndirectY (Zero i)

-- lines once, and so many times more with INY before them
abbrev pub once_and : List Line → ℕ → List Line
once_and lines zero = lines
once_and lines (suc n) = once_and lines n ++ (alone ops.Iny ∷ lines)

-- lines so many times, INY between
abbrev pub times : List Line → ℕ → List Line
times lines zero = []
times lines (suc n) = once_and lines n

-- a byte from ptr1 to ptr2, and A to ptr2, each plus Y
abbrev pub byte_copied : List Line
byte_copied = through ops.Lda 8 ∷ through ops.Sta 10 ∷ []

abbrev pub byte_filled : List Line
byte_filled = through ops.Sta 10 ∷ []

-- ptr2 in AX
abbrev pub given_back : List Line
given_back = on_zero ops.Lda 10 ∷ on_zero ops.Ldx 11 ∷ []

-- the lines of each function
abbrev pub measured : Option ℕ → Option (List Line)
measured None = None
measured (Some n) = Some (with_value ops.Ldx (n / 256) ∷ with_value ops.Lda (n % 256) ∷ [])

abbrev pub copied : Option ℕ → Option (List Line)
copied None = None
copied (Some n) = Some (call_of routines.PopPtrs ∷ with_value ops.Ldy 0 ∷ (times byte_copied n ++ given_back))

abbrev pub filled : Option ℕ → Option (List Line)
filled None = None
filled (Some n) = Some (call_of routines.PopPtrs ∷ with_value ops.Ldy 0 ∷ on_zero ops.Lda 8 ∷ (times byte_filled n ++ given_back))

abbrev pub text_copied : Line → Line → Option ℕ → Option (List Line)
text_copied one other None = None
text_copied one other (Some n) =
    Some (one ∷ other ∷ on_zero ops.Sta 8 ∷ on_zero ops.Stx 9 ∷ call_of routines.PopAx ∷ on_zero ops.Sta 10 ∷ on_zero ops.Stx 11 ∷ with_value ops.Ldy 0
    ∷ (times byte_copied (n + 1) ++ given_back))

abbrev pub compared : Option ℕ → Option (List Line)
compared None = None
compared (Some n) = Some (call_of routines.PopAx ∷ on_zero ops.Sta 8 ∷ on_zero ops.Stx 9 ∷ with_value ops.Ldy 0 ∷ through ops.Lda 8 ∷ with_value ops.Ldx 0 ∷ [])

-- The lines in place of two loads and a call. No literal in memory is longer than 65535 bytes; a text of at most 7 characters is
-- copied in line, and one that is compared is the empty text.
abbrev pub call_known : List (Sym × List ℕ) → Library → Line → Line → Option (Operand × Operand) → Option (List Line)
call_known literals Strlen one other word = measured (at_most 65535 (text_loaded literals word))
call_known literals Memcpy one other word = copied (count_loaded word)
call_known literals Memset one other word = filled (count_loaded word)
call_known literals Strcpy one other word = text_copied one other (at_most 7 (text_loaded literals word))
call_known literals Strcmp one other word = compared (at_most 0 (text_loaded literals word))
call_known literals _ one other word = None

abbrev pub lines_known : List (Sym × List ℕ) → Line → Line → Line → Option (List Line)
lines_known literals one other (Call (callees.Routine (routines.Library function))) = call_known literals function one other (word_loaded one other)
lines_known literals one other _ = None

-- two loads and a call of a function of the library
abbrev pub known_call : List (Sym × List ℕ) → Table → ℕ → Line → List Line → Option Rewriting
known_call literals table at one (other ∷ call ∷ after) = in_place (lines_known literals one other call) (is_settled table (at + 2) call) 3 at
known_call literals table at one _ = None
