-- Digits of octal, decimal and hexadecimal numbers.
use Rattle.std.specs.Prelude.{ℕ, ◌-◌, ◌&&◌, nat_le, if◌then◌else◌, Option, Some, None, Bool}

-- whether a byte lies between two others
abbrev pub is_between : ℕ → ℕ → ℕ → Bool
is_between low high c = nat_le low c && nat_le c high

abbrev pub octal_digit : ℕ → Option ℕ
octal_digit c = if is_between 48 55 c then Some (c - 48) else None

abbrev pub decimal_digit : ℕ → Option ℕ
decimal_digit c = if is_between 48 57 c then Some (c - 48) else None

abbrev pub hexadecimal_digit : ℕ → Option ℕ
hexadecimal_digit c = if is_between 48 57 c then Some (c - 48) else if is_between 65 70 c then Some (c - 55) else if is_between 97 102 c then Some (c - 87) else None
