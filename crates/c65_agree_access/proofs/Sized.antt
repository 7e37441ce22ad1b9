-- The size of a type for the generator.
use Rattle.std.proofs.Common.{◌≡◌, ℕ, ◌<◌, Bool, true, false, refl, sym, ◌∙◌, subst, arith}
use Rattle.std.specs.Prelude.{nat_lt, if◌then◌else◌}
use Rattle.std.proofs.lemmas.Bool.{ltb-false}
use Rattle.c65_ctype.specs.Trees.{type_in}
use Rattle.c65_ctype.specs.Views.{types_of}
use Rattle.c65_ctype.specs.Sizes.{size_of}
use Rattle.c65_agree_state.specs.World.{unit_in}
use Rattle.c65_agree_pointers.specs.Sums.{told}
use Rattle.c65_agree_pointers.proofs.Lines.{elements_are_told}
use Rattle.c65_agree_access.specs.PointedLaws.{ElementsHaveSizes}

told_is : (n : ℕ) → n < 65536 → told n ≡ n
told_is n few = by (nat_lt n 65536) refl
  where
    by : (b : Bool) → nat_lt n 65536 ≡ b → (if b then n else 0) ≡ n
    by true e = refl
    by false e = absurd (omega (arith, few, ltb-false n 65536 e))

pub elements_have_sizes : ElementsHaveSizes
elements_have_sizes g a q parts few =
    elements_are_told a.frame q ∙ subst (λ z. told (size_of (types_of z.types) (type_in q)) ≡ size_of (unit_in g).types (type_in q)) (sym parts) (told_is (size_of (unit_in g).types (type_in q)) few)
