-- Whether a certificate covers each function that can be called from `main`, and the stacks have room.
use Rattle.std.specs.Prelude.{ℕ, ◌+◌, ◌==◌, ◌&&◌, ◌||◌, not, Bool, true, false, List, length, find, Option, Some, None, option_map, slice_get, nat_le}
use Rattle.std.specs.List.{list_all}
use Rattle.c65_csem.specs.Trees.{UnitTy}
use Rattle.c65_depth.specs.declared.calls.Call.{Call}
use Rattle.c65_depth.specs.declared.facts.Facts.{Facts}
use Rattle.c65_depth.specs.declared.reached.Standing.{Standing}
use Rattle.c65_depth.specs.declared.numbers.Numbers.{Numbers}
use Rattle.c65_depth.specs.declared.program.CertRow.{CertRow}
use Rattle.c65_depth.specs.Facts.{calls_at, cost_at, graph}
use Rattle.c65_depth.specs.Reached.{reachable_at}
use Rattle.c65_depth.specs.Numbers.{zero_numbers, flat, standings_of, costs_of}
use Rattle.c65_depth.specs.Tables.{each, every}

-- the limits of a run without a premise on the stacks
abbrev pub soft_limit : ℕ
soft_limit = 1984

abbrev pub hard_limit : ℕ
hard_limit = 224

-- ---- the numbers that a certificate gives

abbrev pub numbers_in : CertRow → Numbers
numbers_in r = record { soft = r.soft; hard = r.hard }

-- those of the first row of a function
abbrev pub given_by : List CertRow → ℕ → Option Numbers
given_by rows f = option_map numbers_in (find (λ r. r.func == f) rows)

-- a function without a body counts nothing
abbrev pub given_to : List CertRow → ℕ → Option ℕ → Option Numbers
given_to rows f None = Some zero_numbers
given_to rows f (Some cost) = given_by rows f

abbrev pub given_all : List Facts → List CertRow → List (Option Numbers)
given_all g rows = each (length g) (λ f. given_to rows f (cost_at g f))

abbrev pub flat_numbers : Option (Option Numbers) → Option Numbers
flat_numbers None = None
flat_numbers (Some n) = n

abbrev pub given_at : List (Option Numbers) → Option ℕ → Option Numbers
given_at given None = None
given_at given (Some f) = flat_numbers (slice_get given f)

-- ---- whether the numbers of a function cover its cost and the numbers of those that it calls

abbrev pub covers : ℕ → Numbers → Numbers → Bool
covers cost n m = nat_le (cost + m.soft) n.soft && nat_le (2 + m.hard) n.hard

abbrev pub covers_if : ℕ → Numbers → Option Numbers → Bool
covers_if cost n None = false
covers_if cost n (Some m) = covers cost n m

abbrev pub covers_all : ℕ → Numbers → List (Option Numbers) → List Call → Bool
covers_all cost n given calls = list_all (λ c. covers_if cost n (given_at given c.callee)) calls

abbrev pub is_covered : ℕ → List Call → List (Option Numbers) → Option Numbers → Bool
is_covered cost calls given None = false
is_covered cost calls given (Some n) = nat_le n.soft soft_limit && covers cost n zero_numbers && covers_all cost n given calls

abbrev pub meets : List Call → List (Option Numbers) → Option Numbers → Option ℕ → Bool
meets calls given n None = true
meets calls given n (Some cost) = is_covered cost calls given n

-- `main` and the arguments of the program have room
abbrev pub fits : ℕ → Option Numbers → Bool
fits args None = false
fits args (Some n) = nat_le (n.soft + args) soft_limit && nat_le n.hard hard_limit

module _ (g : List Facts) (costs : List (Option ℕ)) (standings : List Standing) (given : List (Option Numbers)) where
  -- a function that cannot be called from `main` needs no numbers
  abbrev pub is_met : ℕ → Bool
  is_met f = not (reachable_at standings f) || meets (calls_at g f) given (flat_numbers (slice_get given f)) (flat (slice_get costs f))

  abbrev pub are_met : ℕ → ℕ → Bool
  are_met main args = every (length g) is_met && fits args (flat_numbers (slice_get given main))

-- ---- of a program

abbrev pub is_checked : UnitTy → ℕ → List CertRow → ℕ → Bool
is_checked u main rows args = are_met (graph u) (costs_of u main) (standings_of u main) (given_all (graph u) rows) main args
