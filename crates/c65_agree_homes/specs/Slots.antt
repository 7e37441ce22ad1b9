-- The bytes in which the parameters of a call are passed, one below the other (docs/MACHINE.md, "Calls").
use Rattle.std.specs.Prelude.{ℕ, ◌+◌, ◌==◌, Bool, if◌then◌else◌, List, [], ◌∷◌}
use Rattle.c65_ctype.specs.Views.{types_of}
use Rattle.c65_csem.specs.declared.items.Parts.{Parts}
use Rattle.c65_genframe.specs.Sizes.{object_in, slot_bytes}

abbrev pub all_slots : Parts → Bool → List ℕ → ℕ
all_slots parts prototype [] = 0
all_slots parts prototype (i ∷ ps) = slot_bytes (types_of parts.types) prototype (object_in parts i) + all_slots parts prototype ps

-- those of the parameters behind one of them, which lie below it
abbrev pub behind_slots : Parts → Bool → List ℕ → ℕ → ℕ
behind_slots parts prototype [] i = 0
behind_slots parts prototype (j ∷ ps) i = if j == i then all_slots parts prototype ps else behind_slots parts prototype ps i
