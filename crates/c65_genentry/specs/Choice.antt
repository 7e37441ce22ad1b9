-- The choice of a case (C90 6.6.4.2).
use Rattle.std.specs.Prelude.{ℕ, ◌/◌, ◌%◌, ◌+◌, nat_lt, ℤ, pos, negsuc, Bool, false, if◌then◌else◌, List, [], ◌∷◌, ◌++◌, length}
use Rattle.std.specs.List.{list_all}
use Rattle.c65_ints.specs.Ranges.{residue}
use Rattle.c65_mach.specs.declared.rows.Op.TheVariants.{Beq, Bne, Cmp, Cpx, Cpy, Ldy}
use Rattle.c65_code.specs.declared.line.Line.{Line}
use Rattle.c65_code.specs.declared.line.Line.TheVariants.{Label}
use Rattle.c65_code.specs.declared.routine.Width.{Width}
use Rattle.c65_code.specs.declared.routine.Width.TheVariants.{Ax, Eax}
use Rattle.c65_genwide.specs.Lines.{value}
use Rattle.c65_genentry.specs.Words.{sreg, zero_page, branch}

-- in two's complement of 32 bits
abbrev pub bits_of : ℤ → ℕ
bits_of z = residue 4294967296 z

abbrev pub byte_of : ℕ → ℕ → ℕ
byte_of bits unit = bits / unit % 256

abbrev pub word_test : ℕ → ℕ → ℕ → List Line
word_test bits other case = value Cpx (byte_of bits 256) ∷ branch Bne other ∷ value Cmp (byte_of bits 1) ∷ branch Beq case ∷ []

abbrev pub long_test : ℕ → ℕ → ℕ → List Line
long_test bits other case = zero_page Ldy sreg ∷ value Cpy (byte_of bits 65536) ∷ branch Bne other ∷ zero_page Ldy (sreg + 1) ∷ value Cpy (byte_of bits 16777216) ∷ branch Bne other ∷ word_test bits other case

-- goes to a case where the primary register has these bits
abbrev pub test_code : Width → ℕ → ℕ → ℕ → List Line
test_code Ax bits other case = word_test bits other case
test_code Eax bits other case = long_test bits other case

abbrev pub case_code : Width → ℤ → ℕ → ℕ → List Line
case_code width z case other = test_code width (bits_of z) other case ++ Label other ∷ []

-- each case by itself: the first of them has the label case, and the first free label is l
abbrev pub case_codes : Width → ℕ → ℕ → List ℤ → List Line
case_codes width case l [] = []
case_codes width case l (z ∷ zs) = case_code width z case l ++ case_codes width ((case + 1) % 4294967296) (l + 1) zs

-- from 0 to 255
abbrev pub is_byte : ℤ → Bool
is_byte (pos n) = nat_lt n 256
is_byte (negsuc n) = false

-- all cases of a switch by 16 bits are such
abbrev pub by_bytes : Width → List ℤ → Bool
by_bytes Ax (z ∷ zs) = list_all is_byte (z ∷ zs)
by_bytes _ _ = false

abbrev pub byte_tests : ℕ → List ℤ → List Line
byte_tests case [] = []
byte_tests case (z ∷ zs) = value Cmp (byte_of (bits_of z) 1) ∷ branch Beq case ∷ byte_tests ((case + 1) % 4294967296) zs

-- The high byte is 0 or the value has no case and goes to the label other; then the low byte tells.
abbrev pub byte_choice : ℕ → ℕ → List ℤ → List Line
byte_choice other case zs = value Cpx 0 ∷ branch Bne other ∷ byte_tests case zs

-- Goes to the case that has the value. No case: it goes on, or to the label other.
abbrev pub choice_code : Width → ℕ → ℕ → ℕ → List ℤ → List Line
choice_code width other case l zs = if by_bytes width zs then byte_choice other case zs else case_codes width case l zs

-- how many labels it gives
abbrev pub choice_labels : Width → List ℤ → ℕ
choice_labels width zs = if by_bytes width zs then 0 else length zs
