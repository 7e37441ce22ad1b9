-- A round that changes nothing is the last.
use Rattle.std.proofs.Common.{◌≡◌, ℕ, zero, suc, ◌+◌, ◌-◌, ◌≤◌, Bool, List, length, Option, ap, ◌∙◌, sym, arith}
use Rattle.c65_depth.specs.declared.facts.Facts.{Facts}
use Rattle.c65_depth.specs.declared.numbers.Numbers.{Numbers}
use Rattle.c65_depth.specs.Reached.{next_leads, leads_after, leads}
use Rattle.c65_depth.specs.Numbers.{next_numbers, numbers_after, all_numbers}

-- n more rounds leave it as it is
pub leads_stay : (g : List Facts) (to k n : ℕ) → leads_after g to (suc k) ≡ leads_after g to k → leads_after g to (n + k) ≡ leads_after g to k
leads_stay g to k zero h = let e : 0 + k ≡ k = omega arith in ap (leads_after g to) e
leads_stay g to k (suc n) h = let e : suc n + k ≡ suc (n + k) = omega arith in ap (leads_after g to) e ∙ (ap (next_leads g to) (leads_stay g to k n h) ∙ h)

pub leads_last : (g : List Facts) (to k : ℕ) (now next : List Bool) → k ≤ length g → now ≡ leads_after g to k → next ≡ next_leads g to now → next ≡ now → now ≡ leads g to
leads_last g to k now next few is made same =
    let stays = leads_stay g to k (length g - k) (ap (next_leads g to) (sym is) ∙ sym made ∙ same ∙ is) in
    let all : length g - k + k ≡ length g = omega arith in
    is ∙ sym stays ∙ ap (leads_after g to) all

pub numbers_stay : (g : List Facts) (costs : List (Option ℕ)) (k n : ℕ) → numbers_after g costs (suc k) ≡ numbers_after g costs k → numbers_after g costs (n + k) ≡ numbers_after g costs k
numbers_stay g costs k zero h = let e : 0 + k ≡ k = omega arith in ap (numbers_after g costs) e
numbers_stay g costs k (suc n) h = let e : suc n + k ≡ suc (n + k) = omega arith in ap (numbers_after g costs) e ∙ (ap (next_numbers g costs) (numbers_stay g costs k n h) ∙ h)

pub numbers_last : (g : List Facts) (costs : List (Option ℕ)) (k : ℕ) (now next : List Numbers) → k ≤ length g → now ≡ numbers_after g costs k → next ≡ next_numbers g costs now → next ≡ now → now ≡ all_numbers g costs
numbers_last g costs k now next few is made same =
    let stays = numbers_stay g costs k (length g - k) (ap (next_numbers g costs) (sym is) ∙ sym made ∙ same ∙ is) in
    let all : length g - k + k ≡ length g = omega arith in
    is ∙ sym stays ∙ ap (numbers_after g costs) all
