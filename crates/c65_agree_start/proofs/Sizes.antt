-- The bytes that the generator gives an object are those of its type.
use Rattle.std.proofs.Common.{◌≡◌, ℕ, zero, suc, ◌*◌, ◌≤◌, Bool, Option, None, Some, refl, ap, ◌∙◌, arith}
use Rattle.std.specs.Prelude.{if◌then◌else◌, option_and_then, unwrap_or}
use Rattle.c65_ctype.specs.Trees.{Ty, void, int, pointer, array, tag, function, qual, TypesTy, LayoutTy}
use Rattle.c65_ctype.specs.Tables.{layout_at}
use Rattle.c65_ctype.specs.Sizes.{size_in, size_of}
use Rattle.c65_genframe.specs.Sizes.{limited, elements, bytes_at, bytes_or}
use Rattle.c65_agree_numbers.proofs.Tests.{not_less}

within : (n : ℕ) → n ≤ 65535 → limited n ≡ Some n
within n le = ap (λ (b : Bool). if b then None else Some n) (not_less 65535 n le)

-- the two factors of a number of bytes
record Factors (m n : ℕ) : Type 0 where
  first : 1 ≤ m
  second : 1 ≤ n
  few : m ≤ 65535

factors : (m n : ℕ) → 1 ≤ m * n → m * n ≤ 65535 → Factors m n
factors zero n least few = absurd (omega (arith, least))
factors (suc m) zero least few = absurd (omega (arith, least))
factors (suc m) (suc n) least few = record { first = omega arith; second = omega arith; few = omega (arith, few) }

of_layout : (l : Option LayoutTy) → 1 ≤ size_in l → size_in l ≤ 65535 → option_and_then (λ x. limited x.size) l ≡ Some (size_in l)
of_layout None least few = absurd (omega (arith, least))
of_layout (Some l) least few = within l.size few

bytes_are : (types : TypesTy) (t : Ty) → 1 ≤ size_of types t → size_of types t ≤ 65535 → bytes_at types t ≡ Some (size_of types t)
bytes_are types void least few = absurd (omega (arith, least))
bytes_are types (int k) least few = refl
bytes_are types (pointer q) least few = refl
bytes_are types (array (qual t c v) None) least few = absurd (omega (arith, least))
bytes_are types (array (qual t c v) (Some m)) least few =
    let f : Factors (size_of types t) m = factors (size_of types t) m least few in
    ap (λ b. elements b m) (bytes_are types t f.first f.few) ∙ within (size_of types t * m) few
bytes_are types (tag n) least few = of_layout (layout_at types n) least few
bytes_are types (function f) least few = absurd (omega (arith, least))

pub bytes_are_size : (types : TypesTy) (t : Ty) (other : ℕ) → 1 ≤ size_of types t → size_of types t ≤ 65535 → bytes_or types t other ≡ size_of types t
bytes_are_size types t other least few = ap (λ b. unwrap_or b other) (bytes_are types t least few)
