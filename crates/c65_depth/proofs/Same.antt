-- Lists that a comparison finds equal are one.
use Rattle.std.proofs.Common.{◌≡◌, ℕ, Bool, true, false, ◌&&◌, List, [], ◌∷◌, refl, ap, ◌∙◌}
use Rattle.std.specs.Prelude.{nat_eq}
use Rattle.std.specs.Cmp.Lexicographic.{pointwise}
use Rattle.std.proofs.Math.Bool.{beq}
use Rattle.std.proofs.lemmas.Bool.{eqb-true}
use Rattle.c65_depth.specs.declared.numbers.Numbers.{Numbers}

both_true : (a b : Bool) → (a && b) ≡ true → (a ≡ true) × (b ≡ true)
both_true true b h = (refl, h)
both_true false b h = cc

pub same_lists : {A : Type 0} (E : A → A → Bool) → ((a b : A) → E a b ≡ true → a ≡ b) → (xs ys : List A) → pointwise E xs ys ≡ true → xs ≡ ys
same_lists E f [] [] h = refl
same_lists E f [] (y ∷ ys) h = cc
same_lists E f (x ∷ xs) [] h = cc
same_lists E f (x ∷ xs) (y ∷ ys) h =
    let parts = both_true (E x y) (pointwise E xs ys) h in
    ap (λ z. z ∷ xs) (f x y parts.0) ∙ ap (λ zs. y ∷ zs) (same_lists E f xs ys parts.1)

pub bools_same : (a b : Bool) → beq a b ≡ true → a ≡ b
bools_same true true h = refl
bools_same true false h = cc
bools_same false true h = cc
bools_same false false h = refl

pub numbers_same : (a b : Numbers) → (nat_eq a.soft b.soft && nat_eq a.hard b.hard) ≡ true → a ≡ b
numbers_same a b h =
    let parts = both_true (nat_eq a.soft b.soft) (nat_eq a.hard b.hard) h in
    let soft : a.soft ≡ b.soft = eqb-true a.soft b.soft parts.0 in
    let hard : a.hard ≡ b.hard = eqb-true a.hard b.hard parts.1 in
    ap (λ (n : ℕ). record { soft = n; hard = a.hard }) soft ∙ ap (λ (n : ℕ). record { soft = b.soft; hard = n }) hard
