-- Numbers that cover the costs of functions, and the least of them.
use Rattle.std.specs.Prelude.{◌≡◌, ℕ, ◌+◌, ◌<◌, ◌≤◌, ◌⊎◌, List, [], ◌∷◌, Option, Some, slice_get, length}
use Rattle.c65_depth.specs.declared.calls.Call.{Call}
use Rattle.c65_depth.specs.declared.facts.Facts.{Facts}
use Rattle.c65_depth.specs.declared.numbers.Numbers.{Numbers}
use Rattle.c65_depth.specs.Facts.{calls_at}
use Rattle.c65_depth.specs.Numbers.{flat, or_zero, next_numbers, numbers_after}
use Rattle.c65_depth.specs.Calls.{most}

-- one of these calls names the function
abbrev pub AnyNames : ℕ → List Call → Type 0
AnyNames h [] = ⊥
AnyNames h (c ∷ calls) = (c.callee ≡ Some h) ⊎ AnyNames h calls

module _ (g : List Facts) (costs : List (Option ℕ)) where
  -- what a call of a function costs, where it has a body
  abbrev pub Costs : ℕ → ℕ → Type 0
  Costs f cost = flat (slice_get costs f) ≡ Some cost

  abbrev pub Calls : ℕ → ℕ → Type 0
  Calls f h = AnyNames h (calls_at g f)

  -- each number is at least the function's own cost and the number of each function that it calls
  pub record AreCovering (numbers : ℕ → Numbers) : Type 0 where
    pub own_soft : (f cost : ℕ) → Costs f cost → cost ≤ (numbers f).soft
    pub own_hard : (f cost : ℕ) → Costs f cost → 2 ≤ (numbers f).hard
    pub soft : (f cost h : ℕ) → Costs f cost → Calls f h → cost + (numbers h).soft ≤ (numbers f).soft
    pub hard : (f cost h : ℕ) → Costs f cost → Calls f h → 2 + (numbers h).hard ≤ (numbers f).hard

pub record IsAtMost (n m : Numbers) : Type 0 where
  pub soft : n.soft ≤ m.soft
  pub hard : n.hard ≤ m.hard

-- After any number of rounds no number is above one of numbers that cover the costs.
abbrev pub RoundsAreLeast : Type 0
RoundsAreLeast = (g : List Facts) (costs : List (Option ℕ)) (numbers : ℕ → Numbers)
    → AreCovering g costs numbers
    → (k f : ℕ) → IsAtMost (or_zero (slice_get (numbers_after g costs k) f)) (numbers f)

-- below the greatest number that is counted
pub record IsCounted (n : Numbers) : Type 0 where
  pub soft : n.soft < most
  pub hard : n.hard < most

abbrev pub number_in : List Numbers → ℕ → Numbers
number_in all f = or_zero (slice_get all f)

-- Where a round changes nothing, the numbers cover the costs.
abbrev pub SettledNumbersCover : Type 0
SettledNumbersCover = (g : List Facts) (costs : List (Option ℕ)) (all : List Numbers)
    → length costs ≡ length g → all ≡ next_numbers g costs all → ((f : ℕ) → IsCounted (number_in all f))
    → AreCovering g costs (number_in all)
