-- The numbers of functions, round by round, and the certificate that is made of them.
use Rattle.std.specs.Prelude.{ℕ, zero, suc, ◌+◌, ◌==◌, ◌&&◌, min, max, Bool, false, List, [], ◌∷◌, length, Option, Some, None, is_some, slice_get, nat_lt, if◌then◌else◌}
use Rattle.c65_csem.specs.Trees.{UnitTy}
use Rattle.c65_depth.specs.declared.calls.Call.{Call}
use Rattle.c65_depth.specs.declared.facts.Facts.{Facts}
use Rattle.c65_depth.specs.declared.reached.Standing.{Standing}
use Rattle.c65_depth.specs.declared.numbers.Numbers.{Numbers}
use Rattle.c65_depth.specs.declared.program.CertRow.{CertRow}
use Rattle.c65_depth.specs.Calls.{most}
use Rattle.c65_depth.specs.Facts.{calls_at, cost_at, graph, first_bytes}
use Rattle.c65_depth.specs.Reached.{reachable_at, standings, first_unbounded, numbers}
use Rattle.c65_depth.specs.Tables.{each, some_of, greatest_of}

-- ---- what a call costs with what it is passed

abbrev pub names : ℕ → Option ℕ → Bool
names f None = false
names f (Some h) = h == f

abbrev pub bytes_to : ℕ → Call → ℕ
bytes_to f c = if names f c.callee then c.bytes else 0

-- the bytes of the largest of these calls to a function
abbrev pub largest_to : ℕ → List Call → ℕ
largest_to f [] = 0
largest_to f (c ∷ cs) = max (bytes_to f c) (largest_to f cs)

abbrev pub with_passed : ℕ → Option ℕ → Option ℕ
with_passed bytes None = None
with_passed bytes (Some cost) = Some (min (bytes + cost) most)

module _ (g : List Facts) (standings : List Standing) where
  abbrev pub largest_from : ℕ → ℕ → ℕ
  largest_from to f = if reachable_at standings f then largest_to to (calls_at g f) else 0

  -- the bytes of the largest call to a function, in functions that can be called from `main`; the start passes `first` to `main`
  abbrev pub passed : ℕ → ℕ → ℕ → ℕ
  passed main first f = max (if f == main then first else 0) (greatest_of (length g) (largest_from f))

  abbrev pub costs : ℕ → ℕ → List (Option ℕ)
  costs main first = each (length g) (λ f. with_passed (passed main first f) (cost_at g f))

-- ---- the numbers of a function: its cost and the greatest number of those that it calls

abbrev pub zero_numbers : Numbers
zero_numbers = record { soft = 0; hard = 0 }

abbrev pub or_zero : Option Numbers → Numbers
or_zero None = zero_numbers
or_zero (Some n) = n

abbrev pub numbers_of : List Numbers → Option ℕ → Numbers
numbers_of all None = zero_numbers
numbers_of all (Some f) = or_zero (slice_get all f)

abbrev pub greatest_soft : List Numbers → List Call → ℕ
greatest_soft all [] = 0
greatest_soft all (c ∷ cs) = max (numbers_of all c.callee).soft (greatest_soft all cs)

abbrev pub greatest_hard : List Numbers → List Call → ℕ
greatest_hard all [] = 0
greatest_hard all (c ∷ cs) = max (numbers_of all c.callee).hard (greatest_hard all cs)

-- a function without a body counts nothing
abbrev pub raised : List Numbers → List Call → Option ℕ → Numbers
raised all calls None = zero_numbers
raised all calls (Some cost) = record { soft = min (cost + greatest_soft all calls) most; hard = min (2 + greatest_hard all calls) most }

abbrev pub flat : Option (Option ℕ) → Option ℕ
flat None = None
flat (Some cost) = cost

module _ (g : List Facts) (costs : List (Option ℕ)) where
  abbrev pub next_numbers : List Numbers → List Numbers
  next_numbers all = each (length g) (λ f. raised all (calls_at g f) (flat (slice_get costs f)))

  -- those of at most k calls in a row
  abbrev pub numbers_after : ℕ → List Numbers
  numbers_after zero = each (length g) (λ f. zero_numbers)
  numbers_after (suc k) = next_numbers (numbers_after k)

  abbrev pub all_numbers : List Numbers
  all_numbers = numbers_after (length g)

-- ---- rows

abbrev pub row_by : ℕ → Numbers → CertRow
row_by f n = record { func = f; soft = n.soft; hard = n.hard }

module _ (g : List Facts) (standings : List Standing) where
  -- a function with a body that can be called from `main`
  abbrev pub has_row : ℕ → Bool
  has_row f = nat_lt f numbers && reachable_at standings f && is_some (cost_at g f)

  abbrev pub row_of : List Numbers → ℕ → Option CertRow
  row_of all f = if has_row f then Some (row_by f (or_zero (slice_get all f))) else None

  abbrev pub rows : List Numbers → List CertRow
  rows all = some_of (length g) (row_of all)

abbrev pub rows_unless : Option ℕ → List CertRow → Option (List CertRow)
rows_unless None rows = Some rows
rows_unless (Some f) rows = None

-- ---- of a program

module _ (u : UnitTy) (main : ℕ) where
  abbrev pub standings_of : List Standing
  standings_of = standings (graph u) main

  abbrev pub costs_of : List (Option ℕ)
  costs_of = costs (graph u) standings_of main (first_bytes u main)

  abbrev pub unbounded_of : Option ℕ
  unbounded_of = first_unbounded (graph u) standings_of

  abbrev pub certificate_of : Option (List CertRow)
  certificate_of = rows_unless unbounded_of (rows (graph u) standings_of (all_numbers (graph u) costs_of))
