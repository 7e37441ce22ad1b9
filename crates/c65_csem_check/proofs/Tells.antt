-- Tests, what they tell, and what makes them true where a premise holds.
use Rattle.std.proofs.Common.{◌≡◌, ℕ, Bool, true, false, not, ◌&&◌, ◌||◌, ◌⊎◌, inl, inr, Option, Some, None, List, [], ◌∷◌, All, refl, sym, ap, ◌∙◌, subst, IsTrue}
use Rattle.std.specs.List.{AllByRecursion}
use Rattle.std.specs.Bool.{Decides}
use Rattle.std.specs.Prelude.{if◌then◌else◌}
use Rattle.std.proofs.lemmas.List.Elements.{All-from_recursion, recursion_from_All}

pub record Tells (S : Type 0) (b : Bool) (P : Type 0) : Type 0 where
  pub yes : b ≡ true → P
  pub only : S → P → b ≡ true

pub some_same : {A : Type 0} → (P : A → Type 0) (x y : A) → Some x ≡ Some y → P y → P x
some_same P x y h w = let e : y ≡ x = cc in subst P e w

module _ {S : Type 0} where
  pub like : {b : Bool} {P Q : Type 0} → Tells S b P → (P → Q) → (Q → P) → Tells S b Q
  like x f g = record { yes = λ h. f (x.yes h); only = λ s w. x.only s (g w) }

  pub tells_itself : (b : Bool) → Tells S b (b ≡ true)
  tells_itself b = record { yes = λ h. h; only = λ s w. w }

  pub tells_not : (b : Bool) → Tells S (not b) (b ≡ false)
  tells_not true = record { yes = λ h. sym h; only = λ s w. sym w }
  tells_not false = record { yes = λ h. refl; only = λ s w. refl }

  pub tells_unit : Tells S true (Unit {0})
  tells_unit = record { yes = λ h. tt; only = λ s w. refl }

  pub tells_never : Tells S false ⊥
  tells_never = record { yes = λ h. cc; only = λ s w. absurd w }

  pub from_decides : (b : Bool) (P : Type 0) → Decides b P → Tells S b P
  from_decides b P d = record { yes = d.0; only = λ s w. d.1 w }

  both_by : (a b : Bool) (P Q : Type 0) → Tells S a P → Tells S b Q → Tells S (a && b) (P × Q)
  both_by true b P Q x y = record { yes = λ h. (x.yes refl, y.yes h); only = λ s w. y.only s w.1 }
  both_by false b P Q x y = record { yes = λ h. cc; only = λ s w. x.only s w.0 }

  pub both : {a b : Bool} {P Q : Type 0} → Tells S a P → Tells S b Q → Tells S (a && b) (P × Q)
  both x y = both_by _ _ _ _ x y

  pub three : {a b c : Bool} {P Q R : Type 0} → Tells S a P → Tells S b Q → Tells S c R → Tells S (a && b && c) (P × Q × R)
  three x y z = like (both (both x y) z) (λ w. (w.0.0, w.0.1, w.1)) (λ w. ((w.0, w.1), w.2))

  pub four : {a b c d : Bool} {P Q R T : Type 0} → Tells S a P → Tells S b Q → Tells S c R → Tells S d T → Tells S (a && b && c && d) (P × Q × R × T)
  four x y z v = like (both (three x y z) v) (λ w. (w.0.0, w.0.1, w.0.2, w.1)) (λ w. ((w.0, w.1, w.2), w.3))

  behind_by : (a b : Bool) (P Q : Type 0) → Tells S a P → (P → Tells S b Q) → Tells S (a && b) (P × Q)
  behind_by true b P Q x y = record { yes = λ h. (x.yes refl, (y (x.yes refl)).yes h); only = λ s w. (y w.0).only s w.1 }
  behind_by false b P Q x y = record { yes = λ h. cc; only = λ s w. x.only s w.0 }

  -- a test behind one that tells what it needs
  pub behind : {a b : Bool} {P Q : Type 0} → Tells S a P → (P → Tells S b Q) → Tells S (a && b) (P × Q)
  behind x y = behind_by _ _ _ _ x y

  or_by : (a b : Bool) (P Q : Type 0) → Tells S a P → Tells S b Q → Tells S (a || b) (P ⊎ Q)
  or_by true b P Q x y = record { yes = λ h. inl (x.yes refl); only = λ s w. refl }
  or_by false b P Q x y = record { yes = λ h. inr (y.yes h); only = λ s w. other s w }
    where
      other : S → P ⊎ Q → b ≡ true
      other s (inl p) = let h = x.only s p in cc
      other s (inr q) = y.only s q

  pub either : {a b : Bool} {P Q : Type 0} → Tells S a P → Tells S b Q → Tells S (a || b) (P ⊎ Q)
  either x y = or_by _ _ _ _ x y

  -- a test of what an option has
  pub tells_found : {A : Type 0} → (g : Option A → Bool) (P : A → Type 0) → g None ≡ false → ((x : A) → Tells S (g (Some x)) (P x)) → (o : Option A) → Tells S (g o) ((x : A) × (o ≡ Some x) × P x)
  tells_found g P none each None = record { yes = λ h. cc; only = λ s w. let e = w.1 in cc }
  tells_found g P none each (Some x) = record {
    yes = λ h. (x, refl, (each x).yes h);
    only = λ s w. (each x).only s (some_same P x w.0 w.1 w.2);
  }

  if_by : (a b : Bool) (P Q : Type 0) → Tells S a P → Tells S b Q → Tells S (if a then b else false) (P × Q)
  if_by true b P Q x y = record { yes = λ h. (x.yes refl, y.yes h); only = λ s w. y.only s w.1 }
  if_by false b P Q x y = record { yes = λ h. cc; only = λ s w. x.only s w.0 }

  pub tells_if : {a b : Bool} {P Q : Type 0} → Tells S a P → Tells S b Q → Tells S (if a then b else false) (P × Q)
  tells_if x y = if_by _ _ _ _ x y

  -- a test of each item of a list
  by_items : {A : Type 0} → (g : List A → Bool) (f : A → Bool) (P : A → Type 0) → g [] ≡ true → ((x : A) (xs : List A) → g (x ∷ xs) ≡ (if f x then g xs else false)) → ((x : A) → Tells S (f x) (P x)) → (xs : List A) → Tells S (g xs) (AllByRecursion P xs)
  by_items g f P none more each [] = record { yes = λ h. tt; only = λ s w. none }
  by_items g f P none more each (x ∷ xs) =
      let t = tells_if (each x) (by_items g f P none more each xs) in
      record { yes = λ h. t.yes (sym (more x xs) ∙ h); only = λ s w. more x xs ∙ t.only s w }

  pub tells_all : {A : Type 0} → (g : List A → Bool) (f : A → Bool) (P : A → Type 0) → g [] ≡ true → ((x : A) (xs : List A) → g (x ∷ xs) ≡ (if f x then g xs else false)) → ((x : A) → Tells S (f x) (P x)) → (xs : List A) → Tells S (g xs) (All P xs)
  tells_all g f P none more each xs = like (by_items g f P none more each xs) (λ w. All-from_recursion P xs w) (λ w. recursion_from_All P xs w)
