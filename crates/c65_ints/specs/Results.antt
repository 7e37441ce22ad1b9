-- What each operator gives (C90 6.3.5 to 6.3.7), where signed results wrap.
use Rattle.std.specs.Prelude.{ℕ, zero, suc, ◌/◌, ◌^◌, ℤ, pos, negsuc, ◌+ℤ◌, ◌-ℤ◌, ◌*ℤ◌, int_div, nat_lt, option_map, Option, Some, None, if◌then◌else◌}
use Rattle.c65_ints.specs.declared.types.IntType.{IntType}
use Rattle.c65_ints.specs.Ranges.{width_of, wrap_of}

abbrev pub sum_of : IntType → ℤ → ℤ → ℤ
sum_of t a b = wrap_of t (a +ℤ b)

abbrev pub difference_of : IntType → ℤ → ℤ → ℤ
difference_of t a b = wrap_of t (a -ℤ b)

abbrev pub product_of : IntType → ℤ → ℤ → ℤ
product_of t a b = wrap_of t (a *ℤ b)

-- the exact quotient, cut toward zero
abbrev pub cut : ℤ → ℤ → ℤ
cut a b = int_div a b

-- a zero divisor gives no value
abbrev pub unless_zero : ℤ → ℤ → Option ℤ
unless_zero (pos zero) z = None
unless_zero (pos (suc n)) z = Some z
unless_zero (negsuc n) z = Some z

abbrev pub quotient_of : IntType → ℤ → ℤ → Option ℤ
quotient_of t a b = unless_zero b (wrap_of t (cut a b))

abbrev pub remainder_of : ℤ → ℤ → Option ℤ
remainder_of a b = unless_zero b (a -ℤ b *ℤ cut a b)

-- the greatest whole number that is not above z / m
abbrev pub floor_of : ℤ → ℕ → ℤ
floor_of (pos n) m = pos (n / m)
floor_of (negsuc n) m = negsuc (n / m)

-- a count below 0, or not below the width, is none
abbrev pub count_of : IntType → ℤ → Option ℕ
count_of t (pos c) = if nat_lt c (width_of t) then Some c else None
count_of t (negsuc c) = None

abbrev pub shifted_left_of : IntType → ℤ → ℤ → Option ℤ
shifted_left_of t a count = option_map (λ c. wrap_of t (a *ℤ pos (2 ^ c))) (count_of t count)

abbrev pub shifted_right_of : IntType → ℤ → ℤ → Option ℤ
shifted_right_of t a count = option_map (λ c. floor_of a (2 ^ c)) (count_of t count)
