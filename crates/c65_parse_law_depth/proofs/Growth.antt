-- Readings that a greater limit changes only where they are too deep, one after another.
use Rattle.std.proofs.Common.{◌≡◌, ℕ, ◌≤◌, inl, inr, Bool, true, false, refl, sym, ap, subst, arith}
use Rattle.std.proofs.lemmas.Bool.{leb-true, le-leb}
use Rattle.std.specs.Prelude.{nat_le, Result, Ok, Err, if◌then◌else◌}
use Rattle.c65_base.specs.Answers.{Fault, large, ◌>>=◌}
use Rattle.c65_base.specs.declared.refusal.Size.TheVariants.{Depth}
use Rattle.c65_parse_law_depth.specs.Grows.{Grows, Growing}

-- what does not depend on the limit
pub same_grows : {A : Type 0} (r : Result A Fault) → Growing (λ limit. r)
same_grows r limit more fits = inr refl

behind_grows : {A B : Type 0} (r : Result A Fault) (f g : A → Result B Fault) → ((a : A) → Grows (f a) (g a)) → Grows (r >>= f) (r >>= g)
behind_grows (Ok a) f g k = k a
behind_grows (Err e) f g k = inr refl

both_grow : {A B : Type 0} (r s : Result A Fault) (f g : A → Result B Fault) → Grows r s → ((a : A) → Grows (f a) (g a)) → Grows (r >>= f) (s >>= g)
both_grow r s f g (inl low) k = inl (ap (λ x. x >>= f) low)
both_grow r s f g (inr same) k = subst (λ x. Grows (r >>= f) (x >>= g)) same (behind_grows r f g k)

-- one reading behind another
pub then_grows : {A B : Type 0} (r : ℕ → Result A Fault) (f : ℕ → A → Result B Fault) → Growing r → ((a : A) → Growing (λ limit. f limit a)) → Growing (λ limit. r limit >>= f limit)
then_grows r f h k limit more fits = both_grow (r limit) (r more) (f limit) (f more) (h limit more fits) (λ a. k a limit more fits)

-- one reading or another
pub if_grows : {A : Type 0} (b : Bool) (r s : ℕ → Result A Fault) → Growing r → Growing s → Growing (λ limit. if b then r limit else s limit)
if_grows true r s h k = h
if_grows false r s h k = k

fits_grow : {A : Type 0} (need limit more : ℕ) (r s : Result A Fault) → limit ≤ more → Grows r s → (b : Bool) → nat_le need limit ≡ b → Grows (if b then r else Err (large Depth 257)) (if nat_le need more then s else Err (large Depth 257))
fits_grow need limit more r s fits h true e = subst (λ c. Grows r (if c then s else Err (large Depth 257))) (sym (le-leb need more (let low = leb-true need limit e in omega (arith, low, fits)))) h
fits_grow need limit more r s fits h false e = inl refl

-- only within limits from some number on
pub within_grows : {A : Type 0} (need : ℕ) (r : ℕ → Result A Fault) → Growing r → Growing (λ limit. if nat_le need limit then r limit else Err (large Depth 257))
within_grows need r h limit more fits = fits_grow need limit more (r limit) (r more) fits (h limit more fits) (nat_le need limit) refl
