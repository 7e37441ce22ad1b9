-- Tests, and what they tell.
use Rattle.std.proofs.Common.{◌≡◌, ℕ, zero, suc, Bool, true, false, not, ◌&&◌, ◌||◌, ◌⊎◌, inl, inr, Some, List, [], ◌∷◌, slice_get, All, refl, sym, ◌∙◌, subst}
use Rattle.std.specs.List.{AllByRecursion}
use Rattle.std.specs.Bool.{Decides}
use Rattle.std.specs.Prelude.{⊤, if◌then◌else◌}
use Rattle.std.proofs.lemmas.List.Elements.{All-from_recursion, recursion_from_All}

-- a test is true exactly where something holds
pub record Tells (b : Bool) (P : Type 0) : Type 0 where
  pub yes : b ≡ true → P
  pub only : P → b ≡ true

pub like : {b : Bool} {P Q : Type 0} → Tells b P → (P → Q) → (Q → P) → Tells b Q
like x f g = record { yes = λ h. f (x.yes h); only = λ w. x.only (g w) }

pub tells_itself : (b : Bool) → Tells b (b ≡ true)
tells_itself b = record { yes = λ h. h; only = λ w. w }

pub tells_not : (b : Bool) → Tells (not b) (b ≡ false)
tells_not true = record { yes = λ h. sym h; only = λ w. sym w }
tells_not false = record { yes = λ h. refl; only = λ w. refl }

pub tells_unit : Tells true ⊤
tells_unit = record { yes = λ h. tt; only = λ w. refl }

pub tells_never : Tells false ⊥
tells_never = record { yes = λ h. cc; only = λ w. absurd w }

pub from_decides : (b : Bool) (P : Type 0) → Decides b P → Tells b P
from_decides b P d = record { yes = d.0; only = d.1 }

both_by : (a b : Bool) (P Q : Type 0) → Tells a P → Tells b Q → Tells (a && b) (P × Q)
both_by true b P Q x y = record { yes = λ h. (x.yes refl, y.yes h); only = λ w. y.only w.1 }
both_by false b P Q x y = record { yes = λ h. cc; only = λ w. x.only w.0 }

pub both : {a b : Bool} {P Q : Type 0} → Tells a P → Tells b Q → Tells (a && b) (P × Q)
both x y = both_by _ _ _ _ x y

pub three : {a b c : Bool} {P Q R : Type 0} → Tells a P → Tells b Q → Tells c R → Tells (a && b && c) (P × Q × R)
three x y z = like (both (both x y) z) (λ w. (w.0.0, w.0.1, w.1)) (λ w. ((w.0, w.1), w.2))

pub four : {a b c d : Bool} {P Q R S : Type 0} → Tells a P → Tells b Q → Tells c R → Tells d S → Tells (a && b && c && d) (P × Q × R × S)
four x y z v = like (both (three x y z) v) (λ w. (w.0.0, w.0.1, w.0.2, w.1)) (λ w. ((w.0, w.1, w.2), w.3))

if_by : (a b : Bool) (P Q : Type 0) → Tells a P → Tells b Q → Tells (if a then b else false) (P × Q)
if_by true b P Q x y = record { yes = λ h. (x.yes refl, y.yes h); only = λ w. y.only w.1 }
if_by false b P Q x y = record { yes = λ h. cc; only = λ w. x.only w.0 }

pub tells_if : {a b : Bool} {P Q : Type 0} → Tells a P → Tells b Q → Tells (if a then b else false) (P × Q)
tells_if x y = if_by _ _ _ _ x y

or_by : (a b : Bool) (P Q : Type 0) → Tells a P → Tells b Q → Tells (a || b) (P ⊎ Q)
or_by true b P Q x y = record { yes = λ h. inl (x.yes refl); only = λ w. refl }
or_by false b P Q x y = record { yes = λ h. inr (y.yes h); only = λ w. other w }
  where
    other : P ⊎ Q → b ≡ true
    other (inl p) = let h = x.only p in cc
    other (inr q) = y.only q

pub either : {a b : Bool} {P Q : Type 0} → Tells a P → Tells b Q → Tells (a || b) (P ⊎ Q)
either x y = or_by _ _ _ _ x y

-- a test of each item of a list
by_items : {A : Type 0} → (g : List A → Bool) (f : A → Bool) (P : A → Type 0) → g [] ≡ true → ((x : A) (xs : List A) → g (x ∷ xs) ≡ (if f x then g xs else false)) → ((x : A) → Tells (f x) (P x)) → (xs : List A) → Tells (g xs) (AllByRecursion P xs)
by_items g f P none more each [] = record { yes = λ h. tt; only = λ w. none }
by_items g f P none more each (x ∷ xs) =
    let t = tells_if (each x) (by_items g f P none more each xs) in
    record { yes = λ h. t.yes (sym (more x xs) ∙ h); only = λ w. more x xs ∙ t.only w }

pub tells_all : {A : Type 0} → (g : List A → Bool) (f : A → Bool) (P : A → Type 0) → g [] ≡ true → ((x : A) (xs : List A) → g (x ∷ xs) ≡ (if f x then g xs else false)) → ((x : A) → Tells (f x) (P x)) → (xs : List A) → Tells (g xs) (All P xs)
tells_all g f P none more each xs = like (by_items g f P none more each xs) (λ w. All-from_recursion P xs w) (λ w. recursion_from_All P xs w)

-- ---- what holds of each item, by the places of the list

abbrev pub AtEach : {A : Type 0} → (A → Type 0) → List A → Type 0
AtEach {A} P xs = (i : ℕ) (x : A) → slice_get xs i ≡ Some x → P x

first_is : {A : Type 0} (P : A → Type 0) (x y : A) → Some x ≡ Some y → P x → P y
first_is P x y h w = let e : x ≡ y = cc in subst P e w

none_at : {A : Type 0} (i : ℕ) (x : A) → slice_get [] i ≡ Some x → ⊥
none_at i x h = cc

at_each : {A : Type 0} (P : A → Type 0) (xs : List A) → AllByRecursion P xs → AtEach P xs
at_each P [] w i x h = absurd (none_at i x h)
at_each P (y ∷ xs) w zero x h = first_is P y x h w.0
at_each P (y ∷ xs) w (suc i) x h = at_each P xs w.1 i x h

from_each : {A : Type 0} (P : A → Type 0) (xs : List A) → AtEach P xs → AllByRecursion P xs
from_each P [] w = tt
from_each P (x ∷ xs) w = (w 0 x refl, from_each P xs (λ i y h. w (suc i) y h))

pub tells_each : {A : Type 0} → (g : List A → Bool) (f : A → Bool) (P : A → Type 0) → g [] ≡ true → ((x : A) (xs : List A) → g (x ∷ xs) ≡ (if f x then g xs else false)) → ((x : A) → Tells (f x) (P x)) → (xs : List A) → Tells (g xs) (AtEach P xs)
tells_each g f P none more each xs = like (by_items g f P none more each xs) (at_each P xs) (from_each P xs)

pub all_each : {A : Type 0} (P : A → Type 0) (xs : List A) → AtEach P xs → All P xs
all_each P xs w = All-from_recursion P xs (from_each P xs w)

pub each_all : {A : Type 0} (P : A → Type 0) (xs : List A) → All P xs → AtEach P xs
each_all P xs w = at_each P xs (recursion_from_All P xs w)
