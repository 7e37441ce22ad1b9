-- The type of an integer constant holds its value.
use Rattle.std.proofs.Common.{◌≡◌, ℕ, pos, ◌≤ℤ◌, Bool, true, false, int_le, find, if◌then◌else◌, List, [], ◌∷◌, Option, Some, None, Result, Ok, Err, refl, arith}
use Rattle.std.proofs.lemmas.Int.{ints}
use Rattle.std.proofs.lemmas.Bool.Decides.{nat_tests}
use Rattle.c65_base.specs.declared.code.Code.{Code}
use Rattle.c65_base.specs.declared.code.Code.TheVariants.{NumberRange, Float, BadNumber}
use Rattle.c65_ints.specs.declared.types.IntType.{IntType}
use Rattle.c65_ints.specs.declared.types.IntType.TheVariants.{SChar, UChar, Short, UShort, Int, UInt, Long, ULong}
use Rattle.c65_ints.specs.Ranges.{InRange, least_of, greatest_of}
use Rattle.c65_scan.specs.declared.number.Base.{Base}
use Rattle.c65_scan.specs.declared.number.Suffix.{Suffix}
use Rattle.c65_scan.specs.Numbers.{row_of, type_of, typed, base_of, digits_of, integer_of, is_float, no_integer, number_of}

not_below : (t : IntType) (v : ℕ) → least_of t ≤ℤ pos v
not_below SChar v = omega (arith, ints)
not_below UChar v = omega (arith, ints)
not_below Short v = omega (arith, ints)
not_below UShort v = omega (arith, ints)
not_below Int v = omega (arith, ints)
not_below UInt v = omega (arith, ints)
not_below Long v = omega (arith, ints)
not_below ULong v = omega (arith, ints)

not_above : (t : IntType) (v : ℕ) → int_le (pos v) (greatest_of t) ≡ true → pos v ≤ℤ greatest_of t
not_above SChar v h = grind (arith, ints, nat_tests)
not_above UChar v h = grind (arith, ints, nat_tests)
not_above Short v h = grind (arith, ints, nat_tests)
not_above UShort v h = grind (arith, ints, nat_tests)
not_above Int v h = grind (arith, ints, nat_tests)
not_above UInt v h = grind (arith, ints, nat_tests)
not_above Long v h = grind (arith, ints, nat_tests)
not_above ULong v h = grind (arith, ints, nat_tests)

abbrev IsHeldBy : ℕ → Option IntType → Type 0
IsHeldBy v (Some t) = InRange t (pos v)
IsHeldBy v None = Unit {0}

first_holds : (v : ℕ) (row : List IntType) → IsHeldBy v (find (λ t. int_le (pos v) (greatest_of t)) row)
first_holds v [] = tt
first_holds v (u ∷ row) = tested (first_holds v row) (int_le (pos v) (greatest_of u)) refl
  where
    tested : IsHeldBy v (find (λ t. int_le (pos v) (greatest_of t)) row) → (b : Bool) → int_le (pos v) (greatest_of u) ≡ b → IsHeldBy v (if b then Some u else find (λ t. int_le (pos v) (greatest_of t)) row)
    tested rest true h = record { low = not_below u v; high = not_above u v h }
    tested rest false h = rest

-- a type and a value in its range, or a fault
abbrev pub IsRangedNumber : Result (IntType × ℕ) Code → Type 0
IsRangedNumber (Ok c) = InRange c.0 (pos c.1)
IsRangedNumber (Err code) = Unit {0}

typed_ranged : (b : Base) (c : ℕ × Suffix) → IsRangedNumber (typed b c)
typed_ranged b c = given (type_of b c.1 c.0) (first_holds c.0 (row_of b c.1))
  where
    given : (o : Option IntType) → IsHeldBy c.0 o → IsRangedNumber (elim o as (λ _. Result (IntType × ℕ) Code) [ Some t ↦ Ok (t, c.0) | None ↦ Err NumberRange ])
    given (Some t) h = h
    given None h = tt

no_integer_ranged : (s : List ℕ) → IsRangedNumber (no_integer s)
no_integer_ranged s = given (is_float s)
  where
    given : (b : Bool) → IsRangedNumber (if b then Err Float else Err BadNumber)
    given true = tt
    given false = tt

pub number_ranged : (s : List ℕ) → IsRangedNumber (number_of s)
number_ranged s = given (integer_of (base_of s) (digits_of (base_of s) s))
  where
    given : (o : Option (ℕ × Suffix)) → IsRangedNumber (elim o as (λ _. Result (IntType × ℕ) Code) [ Some c ↦ typed (base_of s) c | None ↦ no_integer s ])
    given (Some c) = typed_ranged (base_of s) c
    given None = no_integer_ranged s
