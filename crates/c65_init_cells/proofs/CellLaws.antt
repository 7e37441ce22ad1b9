-- The first bytes of an object grow, and bytes follow bytes.
use Rattle.std.proofs.Common.{◌≡◌, ℕ, zero, suc, ◌+◌, ◌<◌, ◌≤◌, List, [], ◌∷◌, ◌++◌, length, refl, ap, arith}
use Rattle.c65_csem.specs.declared.items.Cell.{Cell}
use Rattle.c65_csem.specs.declared.items.Cell.TheVariants.{Byte}
use Rattle.c65_init_cells.specs.Cells.{grown, placed, written}

pub grown_push : (xs : List Cell) (n : ℕ) → length xs < n → grown (xs ++ Byte 0 ∷ []) n ≡ grown xs n
grown_push [] zero h = absurd (omega arith)
grown_push [] (suc n) h = refl
grown_push (x ∷ xs) zero h = absurd (omega arith)
grown_push (x ∷ xs) (suc n) h = ap (λ (ys : List Cell). x ∷ ys) (grown_push xs n (omega arith))

pub grown_done : (xs : List Cell) (n : ℕ) → n ≤ length xs → grown xs n ≡ xs
grown_done xs zero h = refl
grown_done [] (suc n) h = absurd (omega arith)
grown_done (x ∷ xs) (suc n) h = ap (λ (ys : List Cell). x ∷ ys) (grown_done xs n (omega arith))

pub written_push : (cs : List Cell) (at k : ℕ) (bs : List ℕ) (b : ℕ) → k ≡ at + length bs → written cs at (bs ++ b ∷ []) ≡ placed (written cs at bs) k b
written_push cs at k [] b h = ap (λ (j : ℕ). placed cs j b) (omega (arith, h))
written_push cs at k (x ∷ bs) b h = written_push (placed cs at x) (at + 1) k bs b (omega (arith, h))
