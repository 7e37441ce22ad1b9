-- A table of spellings, seen through the keys that hold them.
use Rattle.std.proofs.Common.{◌≡◌, ℕ, ◌<◌, ◌≤◌, List, [], ◌∷◌, ◌++◌, length, map, Vec, Global, refl, sym, ap, ◌∙◌, arith, Bool, true, false, Some, None, nat_eq, inl, inr, get_or, option_map}
use Rattle.std.specs.Prelude.{slice_get, if◌then◌else◌, ◌||◌, ◌⊎◌}
use Rattle.std.specs.List.{list_any, position}
use Rattle.std.specs.Cmp.Lexicographic.{pointwise}
use Rattle.std.proofs.lemmas.List.Quantifiers.{position-Some}
use Rattle.std.proofs.lemmas.Option.{slice_get-map, slice_get_cases}
use Rattle.std.proofs.lemmas.List.{map_push}
use Rattle.c65_base.specs.Names.{Lacks, name_of}
use Rattle.c65_base.proofs.NameLaws.{same_bytes, behind}

abbrev pub Key : Type 0
Key = Vec ℕ Global

abbrev pub texts : List Key → List (List ℕ)
texts ks = map (λ v. v.items) ks

abbrev pub test : List ℕ → Key → Bool
test s k = pointwise nat_eq s k.items

-- what is found is the spelling
pub found : (ks : List Key) (s : List ℕ) (i : ℕ) → Some i ≡ position (test s) ks → slice_get (texts ks) i ≡ Some s
found ks s i h = at_place (slice_get_cases ks i).1
  where
    at_place : ((x : Key) × (i < length ks) × (slice_get ks i ≡ Some x) × (get_or ks i x ≡ x)) ⊎ ((length ks ≤ i) × (slice_get ks i ≡ None)) → slice_get (texts ks) i ≡ Some s
    at_place (inl (x, lt, e, g)) =
        let p = position-Some (test s) ks i x (sym h) in
        let q : test s x ≡ true = ap (test s) (sym g) ∙ p.1 in
        slice_get-map (λ v. v.items) ks i ∙ ap (option_map (λ (v : Key). v.items)) e ∙ ap Some (sym (same_bytes s x.items q))
    at_place (inr (le, e)) = absurd (one_end ks s i h le)
      where
        one_end : (ks : List Key) (s : List ℕ) (i : ℕ) → Some i ≡ position (test s) ks → length ks ≤ i → ⊥
        one_end [] s i h le = cc
        one_end (k ∷ ks) s i h le = let p = position-Some (test s) (k ∷ ks) i k (sym h) in omega (arith, p.0)

or_false : (a b : Bool) → a || b ≡ false → (a ≡ false) × (b ≡ false)
or_false true b h = absurd cc
or_false false b h = (refl, h)

-- what no key passes has no number
pub lacks : (ks : List Key) (s : List ℕ) → list_any (test s) ks ≡ false → Lacks (texts ks) s
lacks [] s h = refl
lacks (k ∷ ks) s h =
    let e = or_false (test s k) (list_any (test s) ks) h in
    ap (λ b. behind b (name_of (texts ks) s)) e.0 ∙ ap (behind false) (lacks ks s e.1)

-- the keys after an insertion of what they lack
pub pushed : (ks new : List Key) (v : Key) (s : List ℕ) → v.items ≡ s → list_any (test s) ks ≡ false → new ≡ (if list_any (test v.items) ks then ks else ks ++ v ∷ []) → texts new ≡ texts ks ++ s ∷ []
pushed ks new v s e h k =
    let x : list_any (test v.items) ks ≡ false = ap (λ (t : List ℕ). list_any (test t) ks) e ∙ h in
    let y : new ≡ ks ++ v ∷ [] = k ∙ ap (λ (b : Bool). if b then ks else ks ++ v ∷ []) x in
    ap texts y ∙ map_push (λ (v : Key). v.items) ks v ∙ ap (λ (t : List ℕ). texts ks ++ t ∷ []) e

-- the key that an insertion stored is the spelling
pub stored : (ks : List Key) (s : List ℕ) (v k : Key) (i : ℕ) → v.items ≡ s → slice_get ks i ≡ Some k → test v.items k ≡ true → slice_get (texts ks) i ≡ Some s
stored ks s v k i e h t = slice_get-map (λ (v : Key). v.items) ks i ∙ ap (option_map (λ (v : Key). v.items)) h ∙ ap Some (sym (same_bytes v.items k.items t) ∙ e)

pub texts_length : (ks : List Key) → length (texts ks) ≡ length ks
texts_length [] = refl
texts_length (k ∷ ks) = omega (arith, texts_length ks)
