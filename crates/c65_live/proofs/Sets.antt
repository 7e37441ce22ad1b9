-- The parts of sets that are joined and taken away.
use Rattle.std.proofs.Common.{◌≡◌, ◌&&◌, ◌||◌, ◌⊎◌, not, Bool, true, false, IsTrue, ℕ, List, get_or, slice_get, refl, sym, ◌∙◌, inl, inr}
use Rattle.std.specs.Option.{unwrap_or}
use Rattle.std.proofs.lemmas.Option.{unwrap_or-slice_get}
use Rattle.c65_code.proofs.PartLaws.{has_part-union, has_part-minus, has_part-empty}
use Rattle.c65_code.specs.declared.parts.Part.{Part}
use Rattle.c65_code.specs.declared.parts.RegSet.{RegSet}
use Rattle.c65_code.specs.Parts.{has_part, no_parts, union_of, minus_of}

either : (a b : Bool) → IsTrue (a || b) → IsTrue a ⊎ IsTrue b
either true b h = inl refl
either false b h = inr h

or_left : (a b : Bool) → IsTrue a → IsTrue (a || b)
or_left true b h = refl
or_left false b h = absurd (let e : false ≡ true = h in cc)

or_right : (a b : Bool) → IsTrue b → IsTrue (a || b)
or_right true b h = refl
or_right false b h = h

without : (a b : Bool) → IsTrue (a && not b) → IsTrue a × (b ≡ false)
without true false h = (refl, refl)
without true true h = absurd (let e : false ≡ true = h in cc)
without false b h = absurd (let e : false ≡ true = h in cc)

with_out : (a b : Bool) → IsTrue a → b ≡ false → IsTrue (a && not b)
with_out true false h e = refl
with_out true true h e = absurd (let f : true ≡ false = e in cc)
with_out false b h e = absurd (let f : false ≡ true = h in cc)

pub in_none : (p : Part) → IsTrue (has_part no_parts p) → ⊥
in_none p h = let e : false ≡ true = sym (has_part-empty p) ∙ h in cc

pub in_union : (s t : RegSet) (p : Part) → IsTrue (has_part (union_of s t) p) → IsTrue (has_part s p) ⊎ IsTrue (has_part t p)
in_union s t p h = either (has_part s p) (has_part t p) (sym (has_part-union s t p) ∙ h)

pub union_left : (s t : RegSet) (p : Part) → IsTrue (has_part s p) → IsTrue (has_part (union_of s t) p)
union_left s t p h = has_part-union s t p ∙ or_left (has_part s p) (has_part t p) h

pub union_right : (s t : RegSet) (p : Part) → IsTrue (has_part t p) → IsTrue (has_part (union_of s t) p)
union_right s t p h = has_part-union s t p ∙ or_right (has_part s p) (has_part t p) h

pub in_minus : (s t : RegSet) (p : Part) → IsTrue (has_part (minus_of s t) p) → IsTrue (has_part s p) × (has_part t p ≡ false)
in_minus s t p h = without (has_part s p) (has_part t p) (sym (has_part-minus s t p) ∙ h)

pub minus_in : (s t : RegSet) (p : Part) → IsTrue (has_part s p) → has_part t p ≡ false → IsTrue (has_part (minus_of s t) p)
minus_in s t p h e = has_part-minus s t p ∙ with_out (has_part s p) (has_part t p) h e

pub yes_or_no : (b : Bool) → IsTrue b ⊎ (b ≡ false)
yes_or_no true = inl refl
yes_or_no false = inr refl

pub set_or_none : (sets : List RegSet) (q : ℕ) → unwrap_or (slice_get sets q) no_parts ≡ get_or sets q no_parts
set_or_none sets q = unwrap_or-slice_get sets q no_parts
