-- The greatest number and the sum, one item further.
use Rattle.std.proofs.Common.{◌≡◌, ℕ, ◌+◌, ◌<◌, List, [], ◌∷◌, ◌++◌, length, take, get_or, sym, ap, ◌∙◌, arith}
use Rattle.std.specs.Prelude.{max}
use Rattle.std.proofs.lemmas.List.{take_more}
use Rattle.c65_tree.specs.Lists.{deepest, total}

deepest_push : {A : Type 0} (f : A → ℕ) (xs : List A) (x : A) → deepest f (xs ++ x ∷ []) ≡ max (deepest f xs) (f x)
deepest_push f [] x = omega arith
deepest_push f (y ∷ xs) x = omega (arith, deepest_push f xs x)

total_push : {A : Type 0} (f : A → ℕ) (xs : List A) (x : A) → total f (xs ++ x ∷ []) ≡ total f xs + f x
total_push f [] x = omega arith
total_push f (y ∷ xs) x = omega (arith, total_push f xs x)

pub deepest_next : {A : Type 0} (f : A → ℕ) (xs : List A) (i : ℕ) (x : A) → i < length xs → x ≡ get_or xs i x → deepest f (take (i + 1) xs) ≡ max (deepest f (take i xs)) (f x)
deepest_next f xs i x h k = ap (deepest f) (take_more xs i x h) ∙ deepest_push f (take i xs) (get_or xs i x) ∙ ap (λ y. max (deepest f (take i xs)) (f y)) (sym k)

pub total_next : {A : Type 0} (f : A → ℕ) (xs : List A) (i : ℕ) (x : A) → i < length xs → x ≡ get_or xs i x → total f (take (i + 1) xs) ≡ total f (take i xs) + f x
total_next f xs i x h k = ap (total f) (take_more xs i x h) ∙ total_push f (take i xs) (get_or xs i x) ∙ ap (λ y. total f (take i xs) + f y) (sym k)
