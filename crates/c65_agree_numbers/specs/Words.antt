-- Numbers of C as words of the primary register and as bytes.
use Rattle.std.specs.Prelude.{ℕ, ◌+◌, ◌%◌, nat_lt, if◌then◌else◌, ℤ, Bool, true, false}
use Rattle.c65_base.specs.declared.operators.BinaryOp.{BinaryOp}
use Rattle.c65_base.specs.declared.operators.BinaryOp.TheVariants as ops
use Rattle.c65_ints.specs.declared.types.IntType.{IntType}
use Rattle.c65_ints.specs.declared.types.IntType.TheVariants as I
use Rattle.c65_ints.specs.Ranges.{is_signed_of, residue}
use Rattle.c65_code.specs.declared.routine.Width.{Width}
use Rattle.c65_code.specs.declared.routine.Width.TheVariants.{Ax, Eax}
use Rattle.c65_code.specs.Numbers.{words_of}
use Rattle.c65_genwide.specs.Wide.{width_of, is_comparison}

-- the word of a number: modulo 2 to the bits of the register in which its type stands
abbrev pub word_of : IntType → ℤ → ℕ
word_of t z = residue (words_of (width_of t)) z

-- the lowest byte with its sign above it, and a word of 16 bits with its sign above it
abbrev pub signed_byte : ℕ → ℕ
signed_byte n = if nat_lt 127 (n % 256) then n % 256 + 65280 else n % 256

abbrev pub signed_long : ℕ → ℕ
signed_long n = if nat_lt 32767 n then n + 4294901760 else n

-- a word as one of the type: a character is the lowest byte
abbrev pub narrowed : IntType → ℕ → ℕ
narrowed I.SChar n = signed_byte n
narrowed I.UChar n = n % 256
narrowed _ n = n

-- the word of a type from that of another (C90 6.2.1)
abbrev pub long_word : Bool → ℕ → ℕ
long_word true n = signed_long n
long_word false n = n

abbrev pub widened : Width → Bool → ℕ → ℕ
widened Ax sign n = long_word sign n
widened Eax sign n = n

abbrev pub converted_by : Width → IntType → IntType → ℕ → ℕ
converted_by Ax from to n = narrowed to (n % 65536)
converted_by Eax from to n = widened (width_of from) (is_signed_of from) n

abbrev pub converted_word : IntType → IntType → ℕ → ℕ
converted_word from to n = converted_by (width_of to) from to n

-- what an operator gives: an order and an equality an int, and any other the type of its operands, in whose range the word is brought
abbrev pub result_type : BinaryOp → IntType → IntType
result_type op t = if is_comparison op then I.Int else t

abbrev pub result_word : BinaryOp → IntType → ℕ → ℕ
result_word op t n = if is_comparison op then n else narrowed t n

-- the operators whose right side is a count
abbrev pub is_shift : BinaryOp → Bool
is_shift ops.Shl = true
is_shift ops.Shr = true
is_shift _ = false
