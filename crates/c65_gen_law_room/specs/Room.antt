-- What a function's entry takes of the software stack, read off its source (docs/MACHINE.md, "Calls").
use Rattle.std.specs.Prelude.{◌≡◌, ℕ, ◌+◌, ◌≤◌, if◌then◌else◌, Ok, List, [], ◌∷◌}
use Rattle.c65_csem.specs.declared.items.Parts.{Parts}
use Rattle.c65_csem.specs.Trees.{FuncTy}
use Rattle.c65_genframe.specs.declared.modes.Modes.{Modes}
use Rattle.c65_genframe.specs.declared.home.Arrival.{Arrival}
use Rattle.c65_genframe.specs.declared.home.Arrival.TheVariants.{Kept}
use Rattle.c65_genframe.specs.declared.home.Moved.{Moved}
use Rattle.c65_genframe.specs.Objects.{locals_of}
use Rattle.c65_genframe.specs.Frames.{Framed, all_bytes, saved_bytes, frame_of}

-- the bytes of a parameter that arrives in registers and stands in regbank
abbrev pub kept_bytes : Arrival → ℕ
kept_bytes (Kept bank bytes) = bytes
kept_bytes _ = 0

-- and of those that came on the software stack and stand there
abbrev pub moved_bytes : List Moved → ℕ
moved_bytes [] = 0
moved_bytes (m ∷ ms) = m.bytes + moved_bytes ms

-- beside the parameter that it pushes, an entry takes no more than the objects of the function's blocks have, such parameters, and one
-- byte where calls are variadic
abbrev pub EntriesTakeTheirObjects : Type 0
EntriesTakeTheirObjects = (parts : Parts) (modes : Modes) (g : FuncTy) (f : Framed) → frame_of parts modes g ≡ Ok f
    → saved_bytes f.bank + f.soft ≤ all_bytes parts (locals_of g) + (kept_bytes f.last + moved_bytes f.moved) + (if f.variadic then 1 else 0)
