-- Each object of a function gets its home, in the order of their numbers.
use Rattle.std.specs.Prelude.{ℕ, ◌+◌, min, ◌&&◌, Bool, nat_lt, nat_le, if◌then◌else◌, List, [], ◌∷◌, ◌++◌, Option, None, Some}
use Rattle.c65_ctype.specs.Views.{types_of}
use Rattle.c65_csem.specs.declared.items.Parts.{Parts}
use Rattle.c65_csem.specs.Places.{is_fixed_object}
use Rattle.c65_genframe.specs.declared.modes.Modes.{Modes}
use Rattle.c65_genframe.specs.declared.home.Home.{Home}
use Rattle.c65_genframe.specs.declared.home.Home.TheVariants.{Bank, Soft}
use Rattle.c65_genframe.specs.declared.mark.Mark.{Mark}
use Rattle.c65_genframe.specs.declared.mark.Mark.TheVariants.{Other, Local, Parameter}
use Rattle.c65_genframe.specs.Sizes.{object_in, object_bytes, bank_bytes}

-- the homes so far, from the lowest number on, how many bytes of regbank are taken, how many above sp, and how many
-- bytes parameters and objects have in all
pub record Places : Type 0 where
  pub homes : List (Option Home)
  pub bank : ℕ
  pub soft : ℕ
  pub total : ℕ

-- a sum that stands still at the greatest u64
abbrev pub more : ℕ → ℕ → ℕ
more total bytes = min (total + bytes) 0xffffffffffffffff

-- the byte at sp may be taken
abbrev pub none_placed : Bool → ℕ → Places
none_placed first total = record { homes = []; bank = 0; soft = if first then 1 else 0; total = total }

-- regbank has six bytes, and the lowest free ones are taken
abbrev pub fits : ℕ → Places → Bool
fits bank p = nat_lt 0 bank && nat_le (p.bank + bank) 6

abbrev pub with_none : ℕ → Places → Places
with_none total p = record { homes = p.homes ++ None ∷ []; bank = p.bank; soft = p.soft; total = total }

abbrev pub with_banked : ℕ → ℕ → Places → Places
with_banked bank total p = record { homes = p.homes ++ Some (Bank p.bank) ∷ []; bank = p.bank + bank; soft = p.soft; total = total }

abbrev pub with_soft : ℕ → ℕ → Places → Places
with_soft bytes total p = record { homes = p.homes ++ Some (Soft p.soft) ∷ []; bank = p.bank; soft = p.soft + bytes; total = total }

abbrev pub placed_local : ℕ → ℕ → ℕ → Places → Places
placed_local bank bytes total p = if nat_lt 1024 total then with_none total p else (if fits bank p then with_banked bank total p else with_soft bytes total p)

abbrev pub with_local : ℕ → ℕ → Places → Places
with_local bank bytes p = placed_local bank bytes (more p.total bytes) p

-- a parameter, whose place above sp comes later
abbrev pub with_later : Places → Places
with_later p = record p { homes = p.homes ++ Some (Soft 0) ∷ [] }

abbrev pub with_parameter : ℕ → Places → Places
with_parameter bank p = if fits bank p then with_banked bank p.total p else with_later p

-- an object of a block that has one place for the whole run has no home
abbrev pub with_object : Parts → Modes → ℕ → Places → Places
with_object parts modes i p =
    if is_fixed_object (object_in parts i) then with_none p.total p
    else with_local (bank_bytes modes.honoured (object_in parts i)) (object_bytes (types_of parts.types) (object_in parts i)) p

abbrev pub with_marked : Parts → Modes → ℕ → Mark → Places → Places
with_marked parts modes i Other p = with_none p.total p
with_marked parts modes i Local p = with_object parts modes i p
with_marked parts modes i Parameter p = with_parameter (bank_bytes modes.honoured (object_in parts i)) p

-- the object with number i has the first mark
abbrev pub placed_all : Parts → Modes → ℕ → List Mark → Places → Places
placed_all parts modes i [] p = p
placed_all parts modes i (mark ∷ marks) p = placed_all parts modes (i + 1) marks (with_marked parts modes i mark p)
