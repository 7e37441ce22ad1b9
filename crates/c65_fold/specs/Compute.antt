-- What an operator gives on integer constants (C90 6.3.3 to 6.3.15). Each operand is taken as a value of the type in which the
-- operator computes; in a well typed tree it is one already.
use Rattle.std.specs.Prelude.{ℕ, zero, suc, ℤ, pos, negsuc, ◌&&◌, Bool, true, false, not, Option, Some, None, int_lt, int_le, bit_and, bit_or, bit_xor}
use Rattle.c65_base.specs.declared.operators.UnaryOp.{UnaryOp}
use Rattle.c65_base.specs.declared.operators.UnaryOp.TheVariants as ones
use Rattle.c65_base.specs.declared.operators.BinaryOp.{BinaryOp}
use Rattle.c65_base.specs.declared.operators.BinaryOp.TheVariants as ops
use Rattle.c65_ints.specs.declared.types.IntType.{IntType}
use Rattle.c65_ints.specs.Ranges.{modulus_of, residue, wrap_of}
use Rattle.c65_ints.specs.Results.{sum_of, difference_of, product_of, quotient_of, remainder_of, shifted_left_of, shifted_right_of}

abbrev pub is_zero : ℤ → Bool
is_zero (pos zero) = true
is_zero (pos (suc n)) = false
is_zero (negsuc n) = false

-- 1 where it is so, and else 0
abbrev pub truth : Bool → ℤ
truth true = pos 1
truth false = pos 0

-- an operation on the bits of both
abbrev pub on_bits : (ℕ → ℕ → ℕ) → IntType → ℤ → ℤ → ℤ
on_bits f k x y = wrap_of k (pos (f (residue (modulus_of k) x) (residue (modulus_of k) y)))

abbrev pub unary_value : UnaryOp → IntType → ℤ → Option ℤ
unary_value ones.Neg k x = Some (difference_of k (wrap_of k (pos 0)) (wrap_of k x))
unary_value ones.BitNot k x = Some (difference_of k (wrap_of k (negsuc 0)) (wrap_of k x))
unary_value ones.Not k x = Some (truth (is_zero x))
unary_value _ k x = None

-- Of two values of the type in which the operator computes; `x` and `y` are the operands as they are.
abbrev pub computed : BinaryOp → IntType → ℤ → ℤ → ℤ → ℤ → Option ℤ
computed ops.Mul k a b x y = Some (product_of k a b)
computed ops.Div k a b x y = quotient_of k a b
computed ops.Rem k a b x y = remainder_of a b
computed ops.Add k a b x y = Some (sum_of k a b)
computed ops.Sub k a b x y = Some (difference_of k a b)
computed ops.Shl k a b x y = shifted_left_of k a y
computed ops.Shr k a b x y = shifted_right_of k a y
computed ops.Lt k a b x y = Some (truth (int_lt x y))
computed ops.Gt k a b x y = Some (truth (int_lt y x))
computed ops.Le k a b x y = Some (truth (int_le x y))
computed ops.Ge k a b x y = Some (truth (int_le y x))
computed ops.Eq k a b x y = Some (truth (int_le x y && int_le y x))
computed ops.Ne k a b x y = Some (truth (not (int_le x y && int_le y x)))
computed ops.BitAnd k a b x y = Some (on_bits bit_and k x y)
computed ops.BitXor k a b x y = Some (on_bits bit_xor k x y)
computed ops.BitOr k a b x y = Some (on_bits bit_or k x y)

abbrev pub binary_value : BinaryOp → IntType → ℤ → ℤ → Option ℤ
binary_value op k x y = computed op k (wrap_of k x) (wrap_of k y) x y
