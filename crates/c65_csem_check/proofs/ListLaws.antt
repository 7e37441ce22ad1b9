-- What the tests on lists tell: an item stands in a list, and no item stands at two places.
use Rattle.std.proofs.Common.{◌≡◌, ℕ, zero, suc, ◌+◌, ◌<◌, ℤ, List, [], ◌∷◌, length, get_or, Bool, true, false, Option, Some, None, slice_get, nat_eq, int_le, ◌&&◌, refl, sym, ap, ◌∙◌, subst, arith, Contains}
use Rattle.std.specs.Prelude.{if◌then◌else◌, ◌==◌}
use Rattle.std.proofs.lemmas.Int.{ints}
use Rattle.std.proofs.lemmas.Bool.{eqb-true}
use Rattle.std.proofs.lemmas.Bool.Decides.{Decides-eqb}
use Rattle.c65_csem.specs.Statements.{IsDistinct}
use Rattle.c65_csem_check.specs.Statements as b
use Rattle.c65_csem_check.proofs.Tells.{Tells, like}

no_item : {A : Type 0} → (i : ℕ) (x : A) → slice_get [] i ≡ Some x → ⊥
no_item i x h = cc

true_if : (t r : Bool) → r ≡ true → (if t then true else r) ≡ true
true_if true r h = refl
true_if false r h = h

first_of : {A : Type 0} → (x y : A) → Some x ≡ Some y → x ≡ y
first_of x y h = cc

-- A test `g` whether an item stands in a list, and a test `d` whether none stands at two places, of a test `eq` for equal items.
module _ {A : Type 0} (eq : A → A → Bool) (same : (x y : A) → eq x y ≡ true → x ≡ y) (itself : (x : A) → eq x x ≡ true) (g : List A → A → Bool) (d : List A → Bool) where
  module _ (none : (x : A) → g [] x ≡ false) (more : (y : A) (ys : List A) (x : A) → g (y ∷ ys) x ≡ (if eq y x then true else g ys x)) where
    stands_by : (y : A) (ys : List A) (x : A) (t : Bool) → eq y x ≡ t → (if t then true else g ys x) ≡ true → (g ys x ≡ true → (k : ℕ) × (slice_get ys k ≡ Some x)) → (k : ℕ) × (slice_get (y ∷ ys) k ≡ Some x)
    stands_by y ys x true e h rest = (0, ap Some (same y x e))
    stands_by y ys x false e h rest = let r = rest h in (suc r.0, r.1)

    pub stands : (ys : List A) (x : A) → g ys x ≡ true → (k : ℕ) × (slice_get ys k ≡ Some x)
    stands [] x h = let e = none x in cc
    stands (y ∷ ys) x h = stands_by y ys x (eq y x) refl (sym (more y ys x) ∙ h) (λ r. stands ys x r)

    pub stood : (ys : List A) (x : A) (k : ℕ) → slice_get ys k ≡ Some x → g ys x ≡ true
    stood [] x k h = absurd (no_item k x h)
    stood (y ∷ ys) x zero h =
        let e : eq y x ≡ true = subst (λ (z : A). eq y z ≡ true) (first_of y x h) (itself y) in
        more y ys x ∙ ap (λ (t : Bool). if t then true else g ys x) e
    stood (y ∷ ys) x (suc k) h = more y ys x ∙ true_if (eq y x) (g ys x) (stood ys x k h)

    module _ (single : d [] ≡ true) (next : (y : A) (ys : List A) → d (y ∷ ys) ≡ (if g ys y then false else d ys)) where
      split_by : (y : A) (ys : List A) (t : Bool) → g ys y ≡ t → (if t then false else d ys) ≡ true → (g ys y ≡ false) × (d ys ≡ true)
      split_by y ys true e h = cc
      split_by y ys false e h = (e, h)

      split : (y : A) (ys : List A) → d (y ∷ ys) ≡ true → (g ys y ≡ false) × (d ys ≡ true)
      split y ys h = split_by y ys (g ys y) refl (sym (next y ys) ∙ h)

      once_in : (ys : List A) → d ys ≡ true → (i j : ℕ) (x : A) → slice_get ys i ≡ Some x → slice_get ys j ≡ Some x → i ≡ j
      once_in [] h i j x p q = absurd (no_item i x p)
      once_in (y ∷ ys) h zero zero x p q = refl
      once_in (y ∷ ys) h zero (suc j) x p q = let e = stood ys y j (q ∙ ap Some (sym (first_of y x p))) in let f = (split y ys h).0 in cc
      once_in (y ∷ ys) h (suc i) zero x p q = let e = stood ys y i (p ∙ ap Some (sym (first_of y x q))) in let f = (split y ys h).0 in cc
      once_in (y ∷ ys) h (suc i) (suc j) x p q = ap suc (once_in ys (split y ys h).1 i j x p q)

      only_by : (y : A) (ys : List A) (t : Bool) → g ys y ≡ t → IsDistinct (y ∷ ys) → d ys ≡ true → d (y ∷ ys) ≡ true
      only_by y ys true e w rest = let s = stands ys y e in let f : 0 ≡ suc s.0 = w.once 0 (suc s.0) y refl s.1 in absurd (omega arith)
      only_by y ys false e w rest = next y ys ∙ ap (λ (t : Bool). if t then false else d ys) e ∙ rest

      only_once : (ys : List A) → IsDistinct ys → d ys ≡ true
      only_once [] w = single
      only_once (y ∷ ys) w = only_by y ys (g ys y) refl w (only_once ys (record { once = λ i j x p q. let f : suc i ≡ suc j = w.once (suc i) (suc j) x p q in omega arith }))

      pub tells_distinct_by : {S : Type 0} → (ys : List A) → Tells S (d ys) (IsDistinct ys)
      tells_distinct_by ys = record { yes = λ h. record { once = λ i j x p q. once_in ys h i j x p q }; only = λ s w. only_once ys w }

got : {A : Type 0} → (ys : List A) (k : ℕ) (x : A) → slice_get ys k ≡ Some x → (k < length ys) × (get_or ys k x ≡ x)
got [] k x h = absurd (no_item k x h)
got (y ∷ ys) zero x h = (omega arith, first_of y x h)
got (y ∷ ys) (suc k) x h = let r = got ys k x h in let below = r.0 in (omega arith, r.1)

gotten : {A : Type 0} → (ys : List A) (k : ℕ) (x : A) → k < length ys → get_or ys k x ≡ x → slice_get ys k ≡ Some x
gotten [] k x h e = absurd (omega arith)
gotten (y ∷ ys) zero x h e = ap Some e
gotten (y ∷ ys) (suc k) x h e = gotten ys k x (omega arith) e

same_number : (m n : ℕ) → (m == n) ≡ true → m ≡ n
same_number m n h = eqb-true m n h

number_itself : (n : ℕ) → (n == n) ≡ true
number_itself n = (Decides-eqb n n).1 refl

same_values : (x y : ℤ) → b.same_value x y ≡ true → x ≡ y
same_values x y h = grind (arith, ints)

value_itself : (x : ℤ) → b.same_value x x ≡ true
value_itself x = grind (arith, ints)

pub tells_number : {S : Type 0} → (ns : List ℕ) (n : ℕ) → Tells S (b.has_number ns n) (Contains ns n)
tells_number ns n = record {
  yes = λ h. let s = stands (λ x y. x == y) same_number number_itself b.has_number b.are_distinct (λ x. refl) (λ y ys x. refl) ns n h in let r = got ns s.0 n s.1 in (s.0, r.0, r.1);
  only = λ s w. stood (λ x y. x == y) same_number number_itself b.has_number b.are_distinct (λ x. refl) (λ y ys x. refl) ns n w.0 (gotten ns w.0 n w.1 w.2);
}

pub tells_distinct : {S : Type 0} → (ns : List ℕ) → Tells S (b.are_distinct ns) (IsDistinct ns)
tells_distinct ns = tells_distinct_by (λ x y. x == y) same_number number_itself b.has_number b.are_distinct (λ x. refl) (λ y ys x. refl) refl (λ y ys. refl) ns

pub tells_distinct_values : {S : Type 0} → (xs : List ℤ) → Tells S (b.are_distinct_values xs) (IsDistinct xs)
tells_distinct_values xs = tells_distinct_by b.same_value same_values value_itself b.has_value b.are_distinct_values (λ x. refl) (λ y ys x. refl) refl (λ y ys. refl) xs
