-- Conversions, and values that are pushed and tested (C90 6.2.1.2).
use Rattle.std.specs.Prelude.{ℕ, ◌+◌, List, [], ◌∷◌}
use Rattle.c65_ints.specs.declared.types.IntType.{IntType}
use Rattle.c65_ints.specs.declared.types.IntType.TheVariants.{SChar, UChar, Short, UShort, Int, UInt, Long, ULong}
use Rattle.c65_mach.specs.declared.rows.Op.TheVariants.{Ora, Stx}
use Rattle.c65_code.specs.declared.line.Line.{Line}
use Rattle.c65_code.specs.declared.routine.Width.{Width}
use Rattle.c65_code.specs.declared.routine.Width.TheVariants.{Ax, Eax}
use Rattle.c65_code.specs.declared.routine.Routine.TheVariants.{PushAx, PushEax, LongAx, ULongAx}
use Rattle.c65_genwide.specs.Lines.{call}
use Rattle.c65_genwide.specs.Wide.{width_of, narrow_code}
use Rattle.c65_genload.specs.Words.{sreg, tmp1, zero_page}

-- EAX from a value of a type
abbrev pub widen_code : IntType → List Line
widen_code SChar = call LongAx ∷ []
widen_code UChar = call ULongAx ∷ []
widen_code Short = call LongAx ∷ []
widen_code UShort = call ULongAx ∷ []
widen_code Int = call LongAx ∷ []
widen_code UInt = call ULongAx ∷ []
widen_code Long = []
widen_code ULong = []

abbrev pub convert_to : Width → IntType → IntType → List Line
convert_to Ax from to = narrow_code to
convert_to Eax from to = widen_code from

-- AX is the low half of EAX
abbrev pub convert_code : IntType → IntType → List Line
convert_code from to = convert_to (width_of to) from to

-- the bytes of a value that waits
abbrev pub waiting : Width → ℕ
waiting Ax = 2
waiting Eax = 4

-- the bytes of a type
abbrev pub size_of : IntType → ℕ
size_of SChar = 1
size_of UChar = 1
size_of Short = 2
size_of UShort = 2
size_of Int = 2
size_of UInt = 2
size_of Long = 4
size_of ULong = 4

abbrev pub push_code : Width → List Line
push_code Ax = call PushAx ∷ []
push_code Eax = call PushEax ∷ []

-- Z says whether the value is 0; then A is 0
abbrev pub test_code : Width → List Line
test_code Ax = zero_page Stx tmp1 ∷ zero_page Ora tmp1 ∷ []
test_code Eax = zero_page Stx tmp1 ∷ zero_page Ora tmp1 ∷ zero_page Ora sreg ∷ zero_page Ora (sreg + 1) ∷ []
