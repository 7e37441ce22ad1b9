-- The table is searched for the name of the main function from its front.
use Rattle.std.proofs.Common.{◌≡◌, ◌∙◌, ℕ, zero, suc, ◌+◌, ◌<◌, ◌≤◌, List, [], ◌∷◌, length, drop, refl, ap, arith}
use Rattle.std.specs.Prelude.{Bool, true, false, Some, None, if◌then◌else◌}
use Rattle.c65_init_join.specs.Known.{is_main_at, main_named}

other_next : (xs : List (List ℕ)) (i n : ℕ) → i < length xs → is_main_at xs i ≡ false → main_named n (drop i xs) ≡ main_named (n + 1) (drop (suc i) xs)
other_next [] i n below other = absurd (omega arith)
other_next (x ∷ xs) zero n below other = ap (λ (b : Bool). if b then Some (record { 0 = n }) else main_named (n + 1) xs) other
other_next (x ∷ xs) (suc i) n below other = other_next xs i n (omega arith) other

-- the next spelling is not that of the main function
pub main_next : (xs : List (List ℕ)) (i n : ℕ) → i < length xs → is_main_at xs i ≡ false → main_named n (drop i xs) ≡ main_named (n + 1) (drop (i + 1) xs)
main_next xs i n below other = let on : suc i ≡ i + 1 = omega arith in other_next xs i n below other ∙ ap (λ (k : ℕ). main_named (n + 1) (drop k xs)) on

-- the next spelling is
pub main_here : (xs : List (List ℕ)) (i n : ℕ) → i < length xs → is_main_at xs i ≡ true → main_named n (drop i xs) ≡ Some (record { 0 = n })
main_here [] i n below is = absurd (omega arith)
main_here (x ∷ xs) zero n below is = ap (λ (b : Bool). if b then Some (record { 0 = n }) else main_named (n + 1) xs) is
main_here (x ∷ xs) (suc i) n below is = main_here xs i n (omega arith) is

pub main_past : (xs : List (List ℕ)) (i n : ℕ) → length xs ≤ i → main_named n (drop i xs) ≡ None
main_past [] zero n h = refl
main_past [] (suc i) n h = refl
main_past (x ∷ xs) zero n h = absurd (omega arith)
main_past (x ∷ xs) (suc i) n h = main_past xs i n (omega arith)
