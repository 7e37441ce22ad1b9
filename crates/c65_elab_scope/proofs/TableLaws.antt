-- The list of what names mean grows and is written at one place.
use Rattle.std.proofs.Common.{◌≡◌, ℕ, zero, suc, ◌<◌, ◌≤◌, List, [], ◌∷◌, ◌++◌, length, set, Option, None, refl, ap, arith}
use Rattle.c65_elab_scope.specs.declared.meaning.Bound.{Bound}
use Rattle.c65_elab_scope.specs.Tables.{grown, replaced}

pub grown_push : (xs : List (Option Bound)) (n : ℕ) → length xs ≤ n → grown (xs ++ None ∷ []) n ≡ grown xs n
grown_push [] zero h = refl
grown_push [] (suc n) h = refl
grown_push (x ∷ xs) zero h = absurd (omega arith)
grown_push (x ∷ xs) (suc n) h = ap (λ (ys : List (Option Bound)). x ∷ ys) (grown_push xs n (omega arith))

pub grown_done : (xs : List (Option Bound)) (n : ℕ) → n < length xs → grown xs n ≡ xs
grown_done [] n h = absurd (omega arith)
grown_done (x ∷ xs) zero h = refl
grown_done (x ∷ xs) (suc n) h = ap (λ (ys : List (Option Bound)). x ∷ ys) (grown_done xs n (omega arith))

pub set_replaced : (xs : List (Option Bound)) (n : ℕ) (v : Option Bound) → set xs n v ≡ replaced xs n v
set_replaced [] n v = refl
set_replaced (x ∷ xs) zero v = refl
set_replaced (x ∷ xs) (suc n) v = ap (λ (ys : List (Option Bound)). x ∷ ys) (set_replaced xs n v)

pub replaced_past : (xs : List (Option Bound)) (n : ℕ) (v : Option Bound) → length xs ≤ n → replaced xs n v ≡ xs
replaced_past [] n v h = refl
replaced_past (x ∷ xs) zero v h = absurd (omega arith)
replaced_past (x ∷ xs) (suc n) v h = ap (λ (ys : List (Option Bound)). x ∷ ys) (replaced_past xs n v (omega arith))
