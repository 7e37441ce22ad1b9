-- The values of #if expressions (C90 6.8.1): of C's types only long and unsigned long are left. A value may have a flaw: a
-- zero divisor, or a shift by less than 0 or by 32 or more, in a part of the expression that counts.
use Rattle.std.specs.Prelude.{ℕ, ◌^◌, ℤ, pos, negsuc, Bool, true, false, ◌||◌, not, int_lt, int_le, bit_and, bit_or, bit_xor, if◌then◌else◌, Option, Some, None}
use Rattle.std.specs.Ordering.{int_eq}
use Rattle.c65_base.specs.declared.operators.BinaryOp.{BinaryOp}
use Rattle.c65_base.specs.declared.operators.BinaryOp.TheVariants as ops
use Rattle.c65_ints.specs.declared.types.IntType.{IntType}
use Rattle.c65_ints.specs.declared.types.IntType.TheVariants as types
use Rattle.c65_ints.specs.Ranges.{residue, wrap_of}
use Rattle.c65_ints.specs.Results.{sum_of, difference_of, product_of, quotient_of, remainder_of, shifted_left_of, shifted_right_of}
use Rattle.c65_ppexpr.specs.declared.value.Flaw.{Flaw}
use Rattle.c65_ppexpr.specs.declared.value.Flaw.TheVariants.{Division, Shift}
use Rattle.c65_ppexpr.specs.declared.value.Value.{Value}
use Rattle.c65_ppexpr.specs.declared.value.Prefix.{Prefix}
use Rattle.c65_ppexpr.specs.declared.value.Prefix.TheVariants as prefixes
use Rattle.c65_ppexpr.specs.declared.value.Infix.{Infix}
use Rattle.c65_ppexpr.specs.declared.value.Infix.TheVariants as infixes

abbrev pub type_of : Bool → IntType
type_of true = types.ULong
type_of false = types.Long

abbrev pub value : Bool → ℤ → Value
value unsigned z = record { is_unsigned = unsigned; number = z; flaw = None }

abbrev pub with_flaw : Option Flaw → Value → Value
with_flaw flaw v = record { is_unsigned = v.is_unsigned; number = v.number; flaw = flaw }

-- results of type int are of type long here
abbrev pub truth : Bool → Value
truth b = value false (if b then pos 1 else pos 0)

abbrev pub is_zero : Value → Bool
is_zero v = int_eq v.number (pos 0)

-- the number in a type (C90 6.2.1.2)
abbrev pub number_in : Bool → Value → ℤ
number_in unsigned v = wrap_of (type_of unsigned) v.number

abbrev pub converted : Bool → Value → Value
converted unsigned v = record { is_unsigned = unsigned; number = number_in unsigned v; flaw = v.flaw }

-- a number less the value, in the value's type
abbrev pub subtracted : ℤ → Value → Value
subtracted z v = record { is_unsigned = v.is_unsigned; number = difference_of (type_of v.is_unsigned) (wrap_of (type_of v.is_unsigned) z) (number_in v.is_unsigned v); flaw = v.flaw }

-- C90 6.3.3.3: with all bits turned over a number is -1 less it
abbrev pub prefixed : Prefix → Value → Value
prefixed prefixes.Neg v = subtracted (pos 0) v
prefixed prefixes.Plus v = v
prefixed prefixes.BitNot v = subtracted (negsuc 0) v
prefixed prefixes.Not v = with_flaw v.flaw (truth (is_zero v))

-- a number as 32 bits, and back
abbrev pub bits : ℤ → ℕ
bits z = residue (2 ^ 32) z

abbrev pub of_bits : Bool → ℕ → Value
of_bits unsigned n = value unsigned (wrap_of (type_of unsigned) (pos n))

abbrev pub unless_none : Bool → Flaw → Option ℤ → Value
unless_none unsigned flaw (Some z) = value unsigned z
unless_none unsigned flaw None = record { is_unsigned = unsigned; number = pos 0; flaw = Some flaw }

-- operators on two numbers of one type (C90 6.3.5 to 6.3.12), and shifts, whose second number has a type of its own
abbrev pub applied : BinaryOp → Bool → ℤ → ℤ → Value
applied ops.Mul u a b = value u (product_of (type_of u) a b)
applied ops.Div u a b = unless_none u Division (quotient_of (type_of u) a b)
applied ops.Rem u a b = unless_none u Division (remainder_of a b)
applied ops.Add u a b = value u (sum_of (type_of u) a b)
applied ops.Sub u a b = value u (difference_of (type_of u) a b)
applied ops.Shl u a b = unless_none u Shift (shifted_left_of (type_of u) a b)
applied ops.Shr u a b = unless_none u Shift (shifted_right_of (type_of u) a b)
applied ops.Lt u a b = truth (int_lt a b)
applied ops.Gt u a b = truth (int_lt b a)
applied ops.Le u a b = truth (int_le a b)
applied ops.Ge u a b = truth (int_le b a)
applied ops.Eq u a b = truth (int_eq a b)
applied ops.Ne u a b = truth (not (int_eq a b))
applied ops.BitAnd u a b = of_bits u (bit_and (bits a) (bits b))
applied ops.BitXor u a b = of_bits u (bit_xor (bits a) (bits b))
applied ops.BitOr u a b = of_bits u (bit_or (bits a) (bits b))

abbrev pub is_shift : BinaryOp → Bool
is_shift ops.Shl = true
is_shift ops.Shr = true
is_shift _ = false

-- the first flaw of two operands stays
abbrev pub keeping : Option Flaw → Option Flaw → Value → Value
keeping (Some f) g v = with_flaw (Some f) v
keeping None (Some g) v = with_flaw (Some g) v
keeping None None v = v

-- C90 6.2.1.5: the common type is unsigned long if either is
abbrev pub is_common_unsigned : Value → Value → Bool
is_common_unsigned a b = a.is_unsigned || b.is_unsigned

-- the operands in the type of the calculation; a shift has the type of its left operand (6.3.7)
abbrev pub calculated : BinaryOp → Value → Value → Value
calculated op a b = if is_shift op then applied op a.is_unsigned (number_in a.is_unsigned a) b.number else applied op (is_common_unsigned a b) (number_in (is_common_unsigned a b) a) (number_in (is_common_unsigned a b) b)

-- C90 6.3.13 and 6.3.14: the right operand counts only where the left one leaves it open
abbrev pub both_true : Value → Value → Value
both_true a b = if is_zero a then truth false else with_flaw b.flaw (truth (not (is_zero b)))

abbrev pub one_true : Value → Value → Value
one_true a b = if is_zero a then with_flaw b.flaw (truth (not (is_zero b))) else truth true

abbrev pub combined : Infix → Value → Value → Value
combined (infixes.Both op) a b = keeping a.flaw b.flaw (calculated op a b)
combined infixes.And a b = keeping a.flaw None (both_true a b)
combined infixes.Or a b = keeping a.flaw None (one_true a b)

-- C90 6.3.15: the operand that is chosen, in the common type
abbrev pub chosen : Value → Value → Value → Value
chosen c a b = keeping c.flaw None (converted (is_common_unsigned a b) (if is_zero c then b else a))
