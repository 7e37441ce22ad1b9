-- Induction on the number of steps that are looked at.
use Rattle.std.proofs.Common.{ℕ, zero, suc, ◌<◌, arith}

below_does : (P : ℕ → Type 0) → ((n : ℕ) → ((j : ℕ) → j < n → P j) → P n) → (bound j : ℕ) → j < bound → P j
below_does P step zero j lt = absurd (omega arith)
below_does P step (suc bound) j lt = step j (λ i lt2. below_does P step bound i (omega (arith, lt, lt2)))

-- what holds of a number where it holds of all smaller ones holds of each
pub all_does : (P : ℕ → Type 0) → ((n : ℕ) → ((j : ℕ) → j < n → P j) → P n) → (n : ℕ) → P n
all_does P step n = below_does P step (suc n) n (omega arith)
