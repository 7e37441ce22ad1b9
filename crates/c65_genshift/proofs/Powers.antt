-- Whether a number is the highest power below a bound, or one below that.
use Rattle.std.proofs.Common.{◌≡◌, ℕ, zero, suc, ◌-◌, ◌^◌, ◌<◌, Some, rules, arith}
use Rattle.c65_genshift.specs.Quick.{power_below}

pub power_here : (b n : ℕ) → 0 < b → n ≡ 2 ^ (b - 1) → power_below b n ≡ Some (b - 1)
power_here zero n l h = absurd (omega arith)
power_here (suc k) n l h = search rules

pub power_lower : (b n : ℕ) → 0 < b → (n ≡ 2 ^ (b - 1) → ⊥) → power_below b n ≡ power_below (b - 1) n
power_lower zero n l h = absurd (omega arith)
power_lower (suc k) n l h = search rules
