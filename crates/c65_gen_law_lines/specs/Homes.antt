-- Which homes a byte is part of (docs/MACHINE.md, "Calls").
use Rattle.std.specs.Prelude.{ℕ, ◌+◌, Bool, true, Option, Some, List, [], ◌∷◌}
use Rattle.c65_ctype.specs.Views.{types_of}
use Rattle.c65_csem.specs.declared.items.Parts.{Parts}
use Rattle.c65_genframe.specs.declared.home.Home.{Home}
use Rattle.c65_genframe.specs.declared.home.Home.TheVariants.{Bank, Soft}
use Rattle.c65_genframe.specs.declared.mark.Mark.{Mark}
use Rattle.c65_genframe.specs.declared.mark.Mark.TheVariants.{Local}
use Rattle.c65_genframe.specs.Sizes.{object_in, object_bytes, slot_bytes, bank_bytes}
use Rattle.c65_genframe.specs.Frames.{home_at}
use Rattle.c65_gen_law_lines.specs.Labels.{among}

abbrev pub next : ℕ → ℕ
next i = i + 1

-- how many homes in regbank byte x is part of; the first home is that of the object with number i
abbrev pub in_bank : Parts → ℕ → ℕ → List (Option Home) → ℕ
in_bank parts x i [] = 0
in_bank parts x i (Some (Bank b) ∷ hs) = among b (bank_bytes true (object_in parts i)) x + in_bank parts x (next i) hs
in_bank parts x i (_ ∷ hs) = in_bank parts x (next i) hs

-- how many homes of objects of a function's blocks the byte that lies x above sp is part of
abbrev pub in_blocks : Parts → ℕ → ℕ → List Mark → List (Option Home) → ℕ
in_blocks parts x i (Local ∷ ms) (Some (Soft d) ∷ hs) = among d (object_bytes (types_of parts.types) (object_in parts i)) x + in_blocks parts x (next i) ms hs
in_blocks parts x i (m ∷ ms) (h ∷ hs) = in_blocks parts x (next i) ms hs
in_blocks parts x i _ _ = 0

abbrev pub in_home : ℕ → ℕ → Option Home → ℕ
in_home x bytes (Some (Soft d)) = among d bytes x
in_home x bytes _ = 0

-- and of parameters, each as large as it is passed
abbrev pub in_params : Parts → Bool → ℕ → ℕ → List (Option Home) → List ℕ → ℕ
in_params parts prototype x low hs [] = 0
in_params parts prototype x low hs (i ∷ ps) = in_home x (slot_bytes (types_of parts.types) prototype (object_in parts i)) (home_at low hs i) + in_params parts prototype x low hs ps
