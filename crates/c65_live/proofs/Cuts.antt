-- The sets of two parts.
use Rattle.std.proofs.Common.{◌≡◌, ℕ, zero, suc, ◌-◌, ◌<◌, ◌≤◌, List, [], ◌∷◌, ◌++◌, length, slice_get, refl, ◌∙◌, ap, arith}
use Rattle.c65_code.specs.declared.parts.RegSet.{RegSet}

pub get_front : (front back : List RegSet) (at : ℕ) → at < length front → slice_get (front ++ back) at ≡ slice_get front at
get_front [] back at less = absurd (omega (arith, less))
get_front (x ∷ front) back zero less = refl
get_front (x ∷ front) back (suc at) less = get_front front back at (omega (arith, less))

pub get_back : (front back : List RegSet) (at : ℕ) → length front ≤ at → slice_get (front ++ back) at ≡ slice_get back (at - length front)
get_back [] back at more = let e : at ≡ at - 0 = omega arith in ap (slice_get back) e
get_back (x ∷ front) back zero more = absurd (omega (arith, more))
get_back (x ∷ front) back (suc at) more =
    let e : at - length front ≡ suc at - length (x ∷ front) = omega arith in
    get_back front back at (omega (arith, more)) ∙ ap (slice_get back) e
