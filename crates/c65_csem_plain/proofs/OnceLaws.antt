-- Numbers of which none comes twice stand at one place each, and the other way round.
use Rattle.std.proofs.Common.{◌≡◌, ℕ, zero, suc, ◌+◌, ◌<◌, ◌≤◌, List, [], ◌∷◌, ◌++◌, length, Bool, true, false, ◌||◌, Option, Some, None, slice_get, nat_eq, refl, sym, ap, ◌∙◌, subst, arith, append_assoc, append-nil}
use Rattle.std.specs.Prelude.{if◌then◌else◌}
use Rattle.std.specs.List.{list_any}
use Rattle.std.proofs.lemmas.Bool.{eqb-true}
use Rattle.std.proofs.lemmas.Bool.Decides.{Decides-eqb}
use Rattle.c65_csem.specs.Statements.{IsDistinct}
use Rattle.c65_csem_plain.specs.Tests.{come_once}

-- a number that is among these stands at one of their places
stands_by : (n s : ℕ) (t : Bool) → nat_eq n s ≡ t → (seen : List ℕ) → (t || list_any (nat_eq n) seen) ≡ true → (list_any (nat_eq n) seen ≡ true → (k : ℕ) × (slice_get seen k ≡ Some n)) → (k : ℕ) × (slice_get (s ∷ seen) k ≡ Some n)
stands_by n s true e seen h rest = (0, ap Some (sym (eqb-true n s e)))
stands_by n s false e seen h rest = let r = rest h in (suc r.0, r.1)

stands : (n : ℕ) (seen : List ℕ) → list_any (nat_eq n) seen ≡ true → (k : ℕ) × (slice_get seen k ≡ Some n)
stands n [] h = cc
stands n (s ∷ seen) h = stands_by n s (nat_eq n s) refl seen h (λ r. stands n seen r)

itself : (n : ℕ) → nat_eq n n ≡ true
itself n = (Decides-eqb n n).1 refl

here : (n s : ℕ) (seen : List ℕ) → s ≡ n → list_any (nat_eq n) (s ∷ seen) ≡ true
here n s seen e = ap (λ (t : Bool). t || list_any (nat_eq n) seen) (subst (λ (m : ℕ). nat_eq n m ≡ true) (sym e) (itself n))

or_true : (a b : Bool) → b ≡ true → (a || b) ≡ true
or_true true b h = refl
or_true false b h = h

stood : (n : ℕ) (seen : List ℕ) (k : ℕ) → slice_get seen k ≡ Some n → list_any (nat_eq n) seen ≡ true
stood n [] k h = cc
stood n (s ∷ seen) zero h = let e : s ≡ n = cc in here n s seen e
stood n (s ∷ seen) (suc k) h = or_true (nat_eq n s) (list_any (nat_eq n) seen) (stood n seen k h)

-- places in two lists one behind the other
in_first : {A : Type 0} → (xs ys : List A) (i : ℕ) (x : A) → slice_get xs i ≡ Some x → slice_get (xs ++ ys) i ≡ Some x
in_first [] ys i x h = cc
in_first (y ∷ xs) ys zero x h = h
in_first (y ∷ xs) ys (suc i) x h = in_first xs ys i x h

behind : {A : Type 0} → (xs ys : List A) (x : A) → slice_get (xs ++ x ∷ ys) (length xs) ≡ Some x
behind [] ys x = refl
behind (y ∷ xs) ys x = behind xs ys x

below : {A : Type 0} → (xs : List A) (i : ℕ) (x : A) → slice_get xs i ≡ Some x → i < length xs
below [] i x h = cc
below (y ∷ xs) zero x h = omega arith
below (y ∷ xs) (suc i) x h = omega (arith, below xs i x h)

-- where an item of a list with one more stands
data Stands {A : Type 0} (xs : List A) (y : A) (i : ℕ) (x : A) : Type 0 where
  Before : slice_get xs i ≡ Some x → Stands xs y i x
  Last : i ≡ length xs → x ≡ y → Stands xs y i x

split : {A : Type 0} → (xs : List A) (y : A) (i : ℕ) (x : A) → slice_get (xs ++ y ∷ []) i ≡ Some x → Stands xs y i x
split [] y zero x h = Last refl (cc)
split [] y (suc i) x h = cc
split (z ∷ xs) y zero x h = Before h
split (z ∷ xs) y (suc i) x h = more (split xs y i x h)
  where
    more : Stands xs y i x → Stands (z ∷ xs) y (suc i) x
    more (Before e) = Before e
    more (Last e f) = Last (ap suc e) f

one_more : (seen : List ℕ) (n : ℕ) → IsDistinct seen → list_any (nat_eq n) seen ≡ false → IsDistinct (seen ++ n ∷ [])
one_more seen n d e = record { once = λ i j x p q. same i j x (split seen n i x p) (split seen n j x q) }
  where
    same : (i j x : ℕ) → Stands seen n i x → Stands seen n j x → i ≡ j
    same i j x (Before p) (Before q) = d.once i j x p q
    same i j x (Before p) (Last q f) = let s = stood n seen i (p ∙ ap Some f) in cc
    same i j x (Last p f) (Before q) = let s = stood n seen j (q ∙ ap Some f) in cc
    same i j x (Last p f) (Last q g) = p ∙ sym q

yes_by : (seen : List ℕ) (n : ℕ) (ns : List ℕ) (t : Bool) → list_any (nat_eq n) seen ≡ t → IsDistinct seen → (if t then false else come_once (seen ++ n ∷ []) ns) ≡ true
    → (IsDistinct (seen ++ n ∷ []) → come_once (seen ++ n ∷ []) ns ≡ true → IsDistinct ((seen ++ n ∷ []) ++ ns)) → IsDistinct (seen ++ n ∷ ns)
yes_by seen n ns true e d h rest = cc
yes_by seen n ns false e d h rest = subst (λ (xs : List ℕ). IsDistinct xs) (append_assoc seen (n ∷ []) ns) (rest (one_more seen n d e) h)

pub once_yes : (seen ns : List ℕ) → IsDistinct seen → come_once seen ns ≡ true → IsDistinct (seen ++ ns)
once_yes seen [] d h = subst (λ (xs : List ℕ). IsDistinct xs) (sym (append-nil seen)) d
once_yes seen (n ∷ ns) d h = yes_by seen n ns (list_any (nat_eq n) seen) refl d h (λ d2 h2. once_yes (seen ++ n ∷ []) ns d2 h2)

only_by : (seen : List ℕ) (n : ℕ) (ns : List ℕ) (t : Bool) → list_any (nat_eq n) seen ≡ t → IsDistinct (seen ++ n ∷ ns)
    → (IsDistinct ((seen ++ n ∷ []) ++ ns) → come_once (seen ++ n ∷ []) ns ≡ true) → (if t then false else come_once (seen ++ n ∷ []) ns) ≡ true
only_by seen n ns true e d rest =
    let s = stands n seen e in
    let at = d.once s.0 (length seen) n (in_first seen (n ∷ ns) s.0 n s.1) (behind seen ns n) in
    absurd (omega (arith, at, below seen s.0 n s.1))
only_by seen n ns false e d rest = rest (subst (λ (xs : List ℕ). IsDistinct xs) (sym (append_assoc seen (n ∷ []) ns)) d)

pub once_only : (seen ns : List ℕ) → IsDistinct (seen ++ ns) → come_once seen ns ≡ true
once_only seen [] d = refl
once_only seen (n ∷ ns) d = only_by seen n ns (list_any (nat_eq n) seen) refl d (λ d2. once_only (seen ++ n ∷ []) ns d2)
