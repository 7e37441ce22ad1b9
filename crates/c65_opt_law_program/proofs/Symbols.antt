-- The symbols of objects, which come first, are not marked as literals.
use Rattle.std.proofs.Common.{◌≡◌, ℕ, zero, suc, ◌+◌, ◌<◌, ◌≤◌, ◌⊎◌, inl, inr, false, List, [], ◌∷◌, ◌++◌, length, length-append, Some, refl, subst, ap, ◌∙◌, arith}
use Rattle.std.specs.Prelude.{slice_get}
use Rattle.std.proofs.lemmas.Bool.{cases_lt}
use Rattle.c65_csem.specs.declared.items.Parts.{Parts}
use Rattle.c65_csem.specs.declared.items.TFunc.{TFunc}
use Rattle.c65_csem.specs.declared.items.TObject.{TObject}
use Rattle.c65_code.specs.declared.code.Symbol.{Symbol}
use Rattle.c65_code.specs.Literals.{is_marked}
use Rattle.c65_gendata.specs.Symbols.{plain_symbol, literal_symbol, is_external, with_objects, with_literals, with_functions, symbols_of}

-- what stands in a list stands there when the list goes on
stays : (a b : List Symbol) (k : ℕ) → k < length a → slice_get (a ++ b) k ≡ slice_get a k
stays [] b k lt = absurd (omega (arith, lt))
stays (s ∷ a) b zero lt = refl
stays (s ∷ a) b (suc k) lt = stays a b k (omega (arith, lt))

-- none of the first ones is marked
record ArePlain (n : ℕ) (ss : List Symbol) : Type 0 where
  long : n < suc (length ss)
  plain : (k : ℕ) → k < n → is_marked (slice_get ss k) ≡ false

plain_on : (n : ℕ) (a b : List Symbol) → ArePlain n a → ArePlain n (a ++ b)
plain_on n a b h = record {
  long = omega (arith, h.long, length-append a b);
  plain = λ k lt. ap is_marked (stays a b k (omega (arith, lt, h.long))) ∙ h.plain k lt;
}

last_there : (a : List Symbol) (s : Symbol) → slice_get (a ++ s ∷ []) (length a) ≡ slice_get (s ∷ []) 0
last_there [] s = refl
last_there (x ∷ a) s = last_there a s

-- one more that is not marked
one_plain : (a : List Symbol) (s : Symbol) → s.literal ≡ false → ArePlain (length a) a → ArePlain (length (a ++ s ∷ [])) (a ++ s ∷ [])
one_plain a s unmarked h = record { long = omega arith; plain = λ k lt. pick k lt (cases_lt k (length a)) }
  where
    pick : (k : ℕ) → k < length (a ++ s ∷ []) → (k < length a) ⊎ (length a ≤ k) → is_marked (slice_get (a ++ s ∷ []) k) ≡ false
    pick k lt (inl less) = ap is_marked (stays a (s ∷ []) k less) ∙ h.plain k less
    pick k lt (inr more) =
        let here : k ≡ length a = omega (arith, lt, more, length-append a (s ∷ [])) in
        ap (λ (i : ℕ). is_marked (slice_get (a ++ s ∷ []) i)) here ∙ (ap is_marked (last_there a s) ∙ unmarked)

objects_plain : (names : List (List ℕ)) (i : ℕ) (os : List TObject) (ss : List Symbol) → ArePlain (length ss) ss → ArePlain (length ss + length os) (with_objects names i os ss)
objects_plain names i [] ss h = record { long = omega arith; plain = λ k lt. h.plain k (omega (arith, lt)) }
objects_plain names i (o ∷ os) ss h =
    let rest = objects_plain names (suc i) os (ss ++ plain_symbol names (is_external o.class) o.name i ∷ []) (one_plain ss (plain_symbol names (is_external o.class) o.name i) refl h) in
    let size = length-append ss (plain_symbol names (is_external o.class) o.name i ∷ []) in
    record { long = omega (arith, rest.long, size); plain = λ k lt. rest.plain k (omega (arith, lt, size)) }

literals_plain : (n i : ℕ) (ls : List (List ℕ)) (ss : List Symbol) → ArePlain n ss → ArePlain n (with_literals i ls ss)
literals_plain n i [] ss h = h
literals_plain n i (bytes ∷ ls) ss h = literals_plain n (suc i) ls (ss ++ literal_symbol i ∷ []) (plain_on n ss (literal_symbol i ∷ []) h)

functions_plain : (names : List (List ℕ)) (n i : ℕ) (fs : List TFunc) (ss : List Symbol) → ArePlain n ss → ArePlain n (with_functions names i fs ss)
functions_plain names n i [] ss h = h
functions_plain names n i (f ∷ fs) ss h = functions_plain names n (suc i) fs (ss ++ plain_symbol names f.external (Some f.name) i ∷ []) (plain_on n ss (plain_symbol names f.external (Some f.name) i ∷ []) h)

none_plain : ArePlain 0 []
none_plain = record { long = omega arith; plain = λ k lt. absurd (omega (arith, lt)) }

pub object_unmarked : (names : List (List ℕ)) (parts : Parts) (i : ℕ) → i < length parts.objects.items → is_marked (slice_get (symbols_of names parts) i) ≡ false
object_unmarked names parts i lt =
    let none : 0 + length parts.objects.items ≡ length parts.objects.items = omega arith in
    let objects = subst (λ (n : ℕ). ArePlain n (with_objects names 0 parts.objects.items [])) none (objects_plain names 0 parts.objects.items [] none_plain) in
    let literals = literals_plain (length parts.objects.items) (length parts.objects.items) parts.literals.items (with_objects names 0 parts.objects.items []) objects in
    (functions_plain names (length parts.objects.items) (length parts.objects.items + length parts.literals.items) parts.funcs.items
    (with_literals (length parts.objects.items) parts.literals.items (with_objects names 0 parts.objects.items [])) literals).plain i lt
