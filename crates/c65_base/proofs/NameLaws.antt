-- Laws of a table of spellings.
use Rattle.std.proofs.Common.{◌≡◌, ◌≢◌, ℕ, zero, suc, ◌+◌, List, [], ◌∷◌, ◌++◌, length, refl, sym, ap, ◌∙◌, arith, Bool, true, false, Option, Some, None, option_map}
use Rattle.std.specs.Prelude.{slice_get, is_some, if◌then◌else◌, bytes_eq, ◌⊎◌}
use Rattle.std.proofs.Common.{inl, inr}
use Rattle.std.proofs.lemmas.Slice.Eq.{bytes_eq-Decides}
use Rattle.c65_base.specs.Names.{name_of, with_spelling, IsDistinct, Lacks}

pub same_bytes : (s t : List ℕ) → bytes_eq s t ≡ true → s ≡ t
same_bytes s t h = (bytes_eq-Decides s t).0 h

pub bytes_eq-refl : (s : List ℕ) → bytes_eq s s ≡ true
bytes_eq-refl s = (bytes_eq-Decides s s).1 refl

pub some_is : {A : Type 0} (a b : A) → Some a ≡ Some b → a ≡ b
some_is a b h = cc

-- the number of a spelling after one more at the front
abbrev pub behind : Bool → Option ℕ → Option ℕ
behind b n = if b then Some 0 else option_map (λ n. n + 1) n

-- the spelling stands at its number
pub name_of-at : (ns : List (List ℕ)) (s : List ℕ) (i : ℕ) → name_of ns s ≡ Some i → slice_get ns i ≡ Some s
name_of-at [] s i h = absurd cc
name_of-at (t ∷ ts) s i h = first (bytes_eq s t) refl (λ k e. name_of-at ts s k e)
  where
    next : ((k : ℕ) → name_of ts s ≡ Some k → slice_get ts k ≡ Some s) → (n : Option ℕ) → name_of ts s ≡ n → behind false n ≡ Some i → slice_get (t ∷ ts) i ≡ Some s
    next more None e g = absurd cc
    next more (Some k) e g =
        let at : i ≡ suc k = omega (arith, some_is (k + 1) i g) in
        ap (λ j. slice_get (t ∷ ts) j) at ∙ more k e

    first : (b : Bool) → bytes_eq s t ≡ b → ((k : ℕ) → name_of ts s ≡ Some k → slice_get ts k ≡ Some s) → slice_get (t ∷ ts) i ≡ Some s
    first true e more =
        let g : behind true (name_of ts s) ≡ Some i = sym (ap (λ b. behind b (name_of ts s)) e) ∙ h in
        ap (λ j. slice_get (t ∷ ts) j) (sym (some_is 0 i g)) ∙ ap Some (sym (same_bytes s t e))
    first false e more =
        let g : behind false (name_of ts s) ≡ Some i = sym (ap (λ b. behind b (name_of ts s)) e) ∙ h in
        next more (name_of ts s) refl g

-- a spelling that stands somewhere has a number
pub has_name : (ns : List (List ℕ)) (s : List ℕ) (i : ℕ) → slice_get ns i ≡ Some s → (j : ℕ) × (name_of ns s ≡ Some j)
has_name [] s i h = absurd cc
has_name (t ∷ ts) s zero h =
    let e : bytes_eq s t ≡ true = ap (bytes_eq s) (some_is t s h) ∙ bytes_eq-refl s in
    (0, ap (λ b. behind b (name_of ts s)) e)
has_name (t ∷ ts) s (suc i) h = first (bytes_eq s t) refl (has_name ts s i h)
  where
    first : (b : Bool) → bytes_eq s t ≡ b → ((k : ℕ) × (name_of ts s ≡ Some k)) → (j : ℕ) × (name_of (t ∷ ts) s ≡ Some j)
    first true e k = (0, ap (λ b. behind b (name_of ts s)) e)
    first false e k =
        (k.0 + 1, ap (λ b. behind b (name_of ts s)) e ∙ ap (behind false) k.1)

-- where no spelling stands twice, the place of a spelling is its number
pub at-name_of : (ns : List (List ℕ)) (s : List ℕ) (i : ℕ) → IsDistinct ns → slice_get ns i ≡ Some s → name_of ns s ≡ Some i
at-name_of ns s i d h =
    let k = has_name ns s i h in
    k.1 ∙ ap Some (d k.0 i s (name_of-at ns s k.0 k.1) h)

-- a spelling without a number stands nowhere
pub lacks-nowhere : (ns : List (List ℕ)) (s : List ℕ) → Lacks ns s → (i : ℕ) → slice_get ns i ≢ Some s
lacks-nowhere ns s l i h =
    let k = has_name ns s i h in
    let e : None ≡ Some k.0 = sym l ∙ k.1 in cc

-- one number is of one spelling
pub one_spelling : (ns : List (List ℕ)) (s t : List ℕ) (i : ℕ) → name_of ns s ≡ Some i → name_of ns t ≡ Some i → s ≡ t
one_spelling ns s t i h g = some_is s t (sym (name_of-at ns s i h) ∙ name_of-at ns t i g)

pub with_known : (ns : List (List ℕ)) (s : List ℕ) (i : ℕ) → name_of ns s ≡ Some i → with_spelling ns s ≡ ns
with_known ns s i h = ap (λ (n : Option ℕ). if is_some n then ns else ns ++ s ∷ []) h

pub with_new : (ns : List (List ℕ)) (s : List ℕ) → Lacks ns s → with_spelling ns s ≡ ns ++ s ∷ []
with_new ns s h = ap (λ (n : Option ℕ). if is_some n then ns else ns ++ s ∷ []) h

-- a number stays as the table grows
pub name_of-append : (ns more : List (List ℕ)) (s : List ℕ) (i : ℕ) → name_of ns s ≡ Some i → name_of (ns ++ more) s ≡ Some i
name_of-append [] more s i h = absurd cc
name_of-append (t ∷ ts) more s i h = first (bytes_eq s t) refl (λ k e. name_of-append ts more s k e)
  where
    next : ((k : ℕ) → name_of ts s ≡ Some k → name_of (ts ++ more) s ≡ Some k) → (n : Option ℕ) → name_of ts s ≡ n → behind false n ≡ Some i → behind false (name_of (ts ++ more) s) ≡ Some i
    next stays None e g = absurd cc
    next stays (Some k) e g = ap (behind false) (stays k e) ∙ g

    first : (b : Bool) → bytes_eq s t ≡ b → ((k : ℕ) → name_of ts s ≡ Some k → name_of (ts ++ more) s ≡ Some k) → name_of ((t ∷ ts) ++ more) s ≡ Some i
    first true e stays =
        ap (λ b. behind b (name_of (ts ++ more) s)) e ∙ sym (ap (λ b. behind b (name_of ts s)) e) ∙ h
    first false e stays =
        ap (λ b. behind b (name_of (ts ++ more) s)) e ∙ next stays (name_of ts s) refl (sym (ap (λ b. behind b (name_of ts s)) e) ∙ h)

pub name_of-with_spelling : (ns : List (List ℕ)) (s t : List ℕ) (i : ℕ) → name_of ns s ≡ Some i → name_of (with_spelling ns t) s ≡ Some i
name_of-with_spelling ns s t i h = known (name_of ns t) refl
  where
    known : (n : Option ℕ) → name_of ns t ≡ n → name_of (with_spelling ns t) s ≡ Some i
    known None e = ap (λ ms. name_of ms s) (with_new ns t e) ∙ name_of-append ns (t ∷ []) s i h
    known (Some k) e = ap (λ ms. name_of ms s) (with_known ns t k e) ∙ h

-- a place of the longer table is one of the old, or the last
last_or : (ns : List (List ℕ)) (s t : List ℕ) (i : ℕ) → slice_get (ns ++ s ∷ []) i ≡ Some t → (slice_get ns i ≡ Some t) ⊎ ((i ≡ length ns) × (s ≡ t))
last_or [] s t zero e = inr (refl, some_is s t e)
last_or [] s t (suc i) e = absurd cc
last_or (n ∷ ns) s t zero e = inl e
last_or (n ∷ ns) s t (suc i) e = elim (last_or ns s t i e) as (λ x. (slice_get ns i ≡ Some t) ⊎ ((suc i ≡ length (n ∷ ns)) × (s ≡ t))) [ inl x ↦ inl x | inr x ↦ inr (omega (arith, x.0), x.1) ]

pub distinct_more : (ns : List (List ℕ)) (s : List ℕ) → IsDistinct ns → Lacks ns s → IsDistinct (ns ++ s ∷ [])
distinct_more ns s d l i j t e f = meet (last_or ns s t i e) (last_or ns s t j f)
  where
    meet : (slice_get ns i ≡ Some t) ⊎ ((i ≡ length ns) × (s ≡ t)) → (slice_get ns j ≡ Some t) ⊎ ((j ≡ length ns) × (s ≡ t)) → i ≡ j
    meet (inl a) (inl b) = d i j t a b
    meet (inl a) (inr b) = absurd (lacks-nowhere ns s l i (a ∙ ap Some (sym b.1)))
    meet (inr a) (inl b) = absurd (lacks-nowhere ns s l j (b ∙ ap Some (sym a.1)))
    meet (inr a) (inr b) = a.0 ∙ sym b.0
