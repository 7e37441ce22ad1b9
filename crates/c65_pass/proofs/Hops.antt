-- Chains of JMPs, step by step.
use Rattle.std.proofs.Common.{◌≡◌, ℕ, zero, suc, ◌-◌, ◌<◌, List, Some, None, refl, arith}
use Rattle.c65_code.specs.declared.line.Line.{Line}
use Rattle.c65_pass.specs.Labels.{hop, chain_from}

pub chain_done : (n : ℕ) (lines : List Line) (l : ℕ) → chain_from n lines l None ≡ Some l
chain_done zero lines l = refl
chain_done (suc n) lines l = refl

pub chain_on : (n : ℕ) (lines : List Line) (l k : ℕ) → 0 < n → chain_from n lines l (Some k) ≡ chain_from (n - 1) lines k (hop lines k)
chain_on zero lines l k h = absurd (omega (arith, h))
chain_on (suc n) lines l k h = let e : suc n - 1 ≡ n = omega arith in rw e refl
