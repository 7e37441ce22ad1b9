-- Which functions can be called from `main`, and which lie on a call cycle, round by round.
use Rattle.std.specs.Prelude.{ℕ, zero, suc, ◌==◌, ◌||◌, ◌&&◌, Bool, false, List, length, Option, Some, None, nat_lt, is_none, slice_get}
use Rattle.std.specs.List.{list_any}
use Rattle.c65_depth.specs.declared.calls.Call.{Call}
use Rattle.c65_depth.specs.declared.facts.Facts.{Facts}
use Rattle.c65_depth.specs.declared.reached.Standing.{Standing}
use Rattle.c65_depth.specs.Facts.{calls_at}
use Rattle.c65_depth.specs.Tables.{each, first_of}

abbrev pub is_marked : Option Bool → Bool
is_marked None = false
is_marked (Some mark) = mark

-- a call of the function `to`, or of one that is marked
abbrev pub leads_by : ℕ → List Bool → Option ℕ → Bool
leads_by to marks None = false
leads_by to marks (Some f) = f == to || is_marked (slice_get marks f)

abbrev pub any_leads : ℕ → List Bool → List Call → Bool
any_leads to marks calls = list_any (λ c. leads_by to marks c.callee) calls

module _ (g : List Facts) where
  abbrev pub next_leads : ℕ → List Bool → List Bool
  next_leads to marks = each (length g) (λ f. any_leads to marks (calls_at g f))

  -- the functions from which at most k calls in a row lead to one
  abbrev pub leads_after : ℕ → ℕ → List Bool
  leads_after to zero = each (length g) (λ f. false)
  leads_after to (suc k) = next_leads to (leads_after to k)

  abbrev pub leads : ℕ → List Bool
  leads to = leads_after to (length g)

  abbrev pub standing_by : ℕ → ℕ → List Bool → Standing
  standing_by main f marks = record { reachable = f == main || is_marked (slice_get marks main); on_cycle = is_marked (slice_get marks f) }

  abbrev pub standing : ℕ → ℕ → Standing
  standing main f = standing_by main f (leads f)

  abbrev pub standings : ℕ → List Standing
  standings main = each (length g) (standing main)

-- ---- what standings say of a function

abbrev pub reachable_in : Option Standing → Bool
reachable_in None = false
reachable_in (Some s) = s.reachable

abbrev pub cycle_in : Option Standing → Bool
cycle_in None = false
cycle_in (Some s) = s.on_cycle

abbrev pub reachable_at : List Standing → ℕ → Bool
reachable_at standings f = reachable_in (slice_get standings f)

abbrev pub cycle_at : List Standing → ℕ → Bool
cycle_at standings f = cycle_in (slice_get standings f)

abbrev pub any_pointer : List Call → Bool
any_pointer calls = list_any (λ c. is_none c.callee) calls

-- one more than the greatest number of a function
abbrev pub numbers : ℕ
numbers = 0x100000000

-- a function that can be called from `main` and lies on a call cycle or calls through a pointer
abbrev pub is_unbounded : List Facts → List Standing → ℕ → Bool
is_unbounded g standings f = reachable_at standings f && (cycle_at standings f || any_pointer (calls_at g f))

abbrev pub is_numbered_unbounded : List Facts → List Standing → ℕ → Bool
is_numbered_unbounded g standings f = nat_lt f numbers && is_unbounded g standings f

abbrev pub first_unbounded : List Facts → List Standing → Option ℕ
first_unbounded g standings = first_of (length g) (is_numbered_unbounded g standings)
