-- Sets that are written by letters, by two tests of what a set has beside A, X and Y.
use Rattle.std.proofs.Common.{◌≡◌, Bool, true, false, IsTrue, refl, ◌∙◌, sym}
use Rattle.std.specs.Prelude.{◌↔◌}
use Rattle.c65_code.specs.declared.parts.RegSet.{RegSet}
use Rattle.c65_code.specs.Parts.{minus_of, union_of, no_parts}
use Rattle.c65_code.specs.Effects.{ax, only_y, sreg_bytes}
use Rattle.c65_code.specs.Writable.{IsLetters, without_sreg, with_sreg}

pub letters_then : (s rest : RegSet) (a : Bool) → rest ≡ minus_of s (union_of ax only_y) → IsTrue a ↔ (rest ≡ no_parts) → a ≡ true → IsTrue true ↔ IsLetters s
letters_then s rest a e x h = (λ t. without_sreg (sym e ∙ x.0 h), λ l. refl)

pub letters_else : (s rest : RegSet) (a b : Bool) → rest ≡ minus_of s (union_of ax only_y) → IsTrue a ↔ (rest ≡ no_parts) → IsTrue b ↔ (rest ≡ sreg_bytes) → a ≡ false → IsTrue b ↔ IsLetters s
letters_else s rest a b e x y h = (λ t. with_sreg (sym e ∙ y.0 t), back)
  where
    back : IsLetters s → IsTrue b
    back (without_sreg p) = absurd (let k : false ≡ true = sym h ∙ x.1 (e ∙ p) in cc)
    back (with_sreg p) = y.1 (e ∙ p)
