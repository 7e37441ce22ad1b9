-- What `check` tells of a certificate.
use Rattle.std.specs.Prelude.{◌≡◌, ℕ, ◌+◌, ◌<◌, ◌≤◌, ◌⊎◌, true, List, [], ◌∷◌, Option, Some, None, length, slice_get}
use Rattle.c65_depth.specs.declared.calls.Call.{Call}
use Rattle.c65_depth.specs.declared.facts.Facts.{Facts}
use Rattle.c65_depth.specs.declared.reached.Standing.{Standing}
use Rattle.c65_depth.specs.declared.numbers.Numbers.{Numbers}
use Rattle.c65_depth.specs.Facts.{calls_at}
use Rattle.c65_depth.specs.Reached.{reachable_at}
use Rattle.c65_depth.specs.Checks.{flat_numbers, are_met, soft_limit, hard_limit}
use Rattle.c65_depth_law.specs.Least.{AnyNames, Costs}

-- one of these calls goes through a pointer
abbrev pub AnyPointer : List Call → Type 0
AnyPointer [] = ⊥
AnyPointer (c ∷ calls) = (c.callee ≡ None) ⊎ AnyPointer calls

module _ (g : List Facts) (costs : List (Option ℕ)) (given : List (Option Numbers)) where
  -- the numbers that a function is given
  abbrev pub Given : ℕ → Numbers → Type 0
  Given f n = flat_numbers (slice_get given f) ≡ Some n

  -- those of a function that is called, and what they leave
  pub record CoversCallee (cost : ℕ) (n : Numbers) (h : ℕ) : Type 0 where
    pub callee : Numbers
    pub is_given : Given h callee
    pub soft : cost + callee.soft ≤ n.soft
    pub hard : 2 + callee.hard ≤ n.hard

  -- the numbers of a function have room, and are at least its cost and the number of each function that it calls, all of which it names
  pub record IsCovered (f cost : ℕ) : Type 0 where
    pub numbers : Numbers
    pub is_given : Given f numbers
    pub bounded : numbers.soft ≤ soft_limit
    pub own_soft : cost ≤ numbers.soft
    pub own_hard : 2 ≤ numbers.hard
    pub no_pointer : AnyPointer (calls_at g f) → ⊥
    pub callees : (h : ℕ) → AnyNames h (calls_at g f) → CoversCallee cost numbers h

  -- those of `main` and the arguments of the program have room
  pub record HasRoom (main args : ℕ) : Type 0 where
    pub numbers : Numbers
    pub is_given : Given main numbers
    pub soft : numbers.soft + args ≤ soft_limit
    pub hard : numbers.hard ≤ hard_limit

  pub record IsTold (standings : List Standing) (main args : ℕ) : Type 0 where
    pub covered : (f cost : ℕ) → f < length g → reachable_at standings f ≡ true → Costs g costs f cost → IsCovered f cost
    pub room : HasRoom main args

-- After a yes each function with a body that can be called from `main` has numbers that cover it, and `main` has room.
abbrev pub CheckedIsCovered : Type 0
CheckedIsCovered = (g : List Facts) (costs : List (Option ℕ)) (standings : List Standing) (given : List (Option Numbers)) (main args : ℕ)
    → are_met g costs standings given main args ≡ true → IsTold g costs given standings main args
