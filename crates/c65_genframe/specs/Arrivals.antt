-- How parameters are passed, and where those on the software stack stand.
use Rattle.std.specs.Prelude.{ℕ, ◌+◌, ◌-◌, Bool, true, List, [], ◌∷◌, ◌++◌, Option, Some, slice_get, slice_set}
use Rattle.c65_ctype.specs.Views.{types_of}
use Rattle.c65_csem.specs.declared.items.Parts.{Parts}
use Rattle.c65_genframe.specs.declared.home.Home.{Home}
use Rattle.c65_genframe.specs.declared.home.Home.TheVariants.{Bank, Soft}
use Rattle.c65_genframe.specs.declared.home.Moved.{Moved}
use Rattle.c65_genframe.specs.Places.{more}
use Rattle.c65_genframe.specs.Sizes.{object_in, slot_bytes, bank_bytes}

-- the bytes in which objects are passed, beside those that are known
abbrev pub slots : Parts → Bool → List ℕ → ℕ → ℕ
slots parts prototype [] total = total
slots parts prototype (i ∷ is) total = slots parts prototype is (more total (slot_bytes (types_of parts.types) prototype (object_in parts i)))

-- the homes so far, the parameters that move to regbank, and how many bytes lie below the parameter before
pub record Arrivals : Type 0 where
  pub homes : List (Option Home)
  pub moved : List Moved
  pub left : ℕ

-- one parameter, which lies so many bytes above sp, and whose home is at this place of the list
abbrev pub arrive : ℕ → ℕ → ℕ → Option (Option Home) → ℕ → Arrivals → Arrivals
arrive from at bank (Some (Some (Bank byte))) left a = record { homes = a.homes; moved = a.moved ++ record { bank = byte; from = from; bytes = bank } ∷ []; left = left }
arrive from at bank (Some (Some (Soft offset))) left a = record { homes = slice_set a.homes at (Some (Soft from)); moved = a.moved; left = left }
arrive from at bank _ left a = record a { left = left }

abbrev pub with_slot : ℕ → ℕ → ℕ → ℕ → Arrivals → Arrivals
with_slot base at slot bank a = arrive (base + (a.left - slot)) at bank (slice_get a.homes at) (a.left - slot) a

-- from the first parameter on, which lies highest
abbrev pub arrived : Parts → Bool → ℕ → ℕ → List ℕ → Arrivals → Arrivals
arrived parts prototype low base [] a = a
arrived parts prototype low base (i ∷ is) a = arrived parts prototype low base is (with_slot base (i - low) (slot_bytes (types_of parts.types) prototype (object_in parts i)) (bank_bytes true (object_in parts i)) a)
