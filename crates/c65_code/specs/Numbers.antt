-- The results of the operators of the runtime on words of 16 and 32 bits (C90 6.3; docs/MACHINE.md, "Routines").
use Rattle.std.specs.Prelude.{ℕ, ◌+◌, ◌-◌, ◌*◌, ◌/◌, ◌%◌, ◌^◌, ◌==◌, Bool, not, if◌then◌else◌, nat_lt, nat_le, bit_and, bit_or, bit_xor, Option, Some, None}
use Rattle.std.specs.Bool.{beq}
use Rattle.c65_code.specs.declared.routine.Width.{Width}
use Rattle.c65_code.specs.declared.routine.Width.TheVariants.{Ax, Eax}
use Rattle.c65_code.specs.declared.routine.TosOp.{TosOp}
use Rattle.c65_code.specs.declared.routine.TosOp.TheVariants as tos
use Rattle.c65_code.specs.declared.routine.UnaryRoutine.{UnaryRoutine}
use Rattle.c65_code.specs.declared.routine.UnaryRoutine.TheVariants.{Neg, Compl, Shl1, Shr1, Asr1, BNeg}

abbrev pub bits_of : Width → ℕ
bits_of Ax = 16
bits_of Eax = 32

-- how many words there are of a width, and the first one that is negative as a signed number
abbrev pub words_of : Width → ℕ
words_of Ax = 65536
words_of Eax = 4294967296

abbrev pub sign_of : Width → ℕ
sign_of Ax = 32768
sign_of Eax = 2147483648

abbrev pub is_negative : Width → ℕ → Bool
is_negative width v = nat_le (sign_of width) v

-- how far a signed word is from zero
abbrev pub magnitude : Width → ℕ → ℕ
magnitude width v = if is_negative width v then words_of width - v else v

-- minus a word
abbrev pub minus_word : Width → ℕ → ℕ
minus_word width v = (words_of width - v) % words_of width

-- a word with a sign
abbrev pub with_sign : Width → Bool → ℕ → ℕ
with_sign width negative v = if negative then minus_word width v else v

-- the quotient is cut toward zero (own), and the remainder has the sign of the dividend
abbrev pub signed_quotient : Width → ℕ → ℕ → ℕ
signed_quotient width a b = with_sign width (not (beq (is_negative width a) (is_negative width b))) (magnitude width a / magnitude width b)

abbrev pub signed_remainder : Width → ℕ → ℕ → ℕ
signed_remainder width a b = with_sign width (is_negative width a) (magnitude width a % magnitude width b)

-- words in signed order: with the sign turned they are in the order of numbers
abbrev pub turned : Width → ℕ → ℕ
turned width v = (v + sign_of width) % words_of width

abbrev pub truth : Bool → ℕ
truth b = if b then 1 else 0

-- what a zero divisor or a count out of range gives is not said
abbrev pub divided : ℕ → ℕ → Option ℕ
divided divisor v = if divisor == 0 then None else Some v

abbrev pub counted : Width → ℕ → ℕ → Option ℕ
counted width count v = if nat_lt count (bits_of width) then Some v else None

-- a negative word is shifted to the right with ones coming in
abbrev pub shifted_right : Width → ℕ → ℕ → ℕ
shifted_right width a count = if is_negative width a then a / 2 ^ count + (words_of width - words_of width / 2 ^ count) else a / 2 ^ count

-- the result, from the value on the software stack and the primary register
abbrev pub tos_result : TosOp → Width → ℕ → ℕ → Option ℕ
tos_result tos.Add width a b = Some ((a + b) % words_of width)
tos_result tos.Sub width a b = Some ((a + words_of width - b) % words_of width)
tos_result tos.Mul width a b = Some ((a * b) % words_of width)
tos_result tos.And width a b = Some (bit_and a b)
tos_result tos.Or width a b = Some (bit_or a b)
tos_result tos.Xor width a b = Some (bit_xor a b)
tos_result tos.Div width a b = divided b (signed_quotient width a b)
tos_result tos.Mod width a b = divided b (signed_remainder width a b)
tos_result tos.UDiv width a b = divided b (a / b)
tos_result tos.UMod width a b = divided b (a % b)
tos_result tos.Shl width a b = counted width b ((a * 2 ^ b) % words_of width)
tos_result tos.Shr width a b = counted width b (a / 2 ^ b)
tos_result tos.Asr width a b = counted width b (shifted_right width a b)
tos_result tos.Eq width a b = Some (truth (a == b))
tos_result tos.Ne width a b = Some (truth (not (a == b)))
tos_result tos.Lt width a b = Some (truth (nat_lt (turned width a) (turned width b)))
tos_result tos.Le width a b = Some (truth (nat_le (turned width a) (turned width b)))
tos_result tos.Gt width a b = Some (truth (nat_lt (turned width b) (turned width a)))
tos_result tos.Ge width a b = Some (truth (nat_le (turned width b) (turned width a)))
tos_result tos.ULt width a b = Some (truth (nat_lt a b))
tos_result tos.ULe width a b = Some (truth (nat_le a b))
tos_result tos.UGt width a b = Some (truth (nat_lt b a))
tos_result tos.UGe width a b = Some (truth (nat_le b a))

-- an order gives a word of 16 bits whatever the width of its operands
abbrev pub result_width : TosOp → Width → Width
result_width tos.Eq width = Ax
result_width tos.Ne width = Ax
result_width tos.Lt width = Ax
result_width tos.Le width = Ax
result_width tos.Gt width = Ax
result_width tos.Ge width = Ax
result_width tos.ULt width = Ax
result_width tos.ULe width = Ax
result_width tos.UGt width = Ax
result_width tos.UGe width = Ax
result_width _ width = width

abbrev pub unary_result : UnaryRoutine → Width → ℕ → ℕ
unary_result Neg width v = minus_word width v
unary_result Compl width v = words_of width - 1 - v
unary_result Shl1 width v = (2 * v) % words_of width
unary_result Shr1 width v = v / 2
unary_result Asr1 width v = shifted_right width v 1
unary_result BNeg width v = truth (v == 0)

abbrev pub unary_width : UnaryRoutine → Width → Width
unary_width BNeg width = Ax
unary_width _ width = width
