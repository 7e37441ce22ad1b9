-- Which objects belong to a function, and which have a home in its frame (docs/MACHINE.md, "Calls").
use Rattle.std.specs.Prelude.{◌≡◌, ℕ, ◌<◌, ◌^◌, ◌==◌, ◌&&◌, ◌||◌, not, Bool, true, false, Option, Some, None, List, [], ◌∷◌, Ok}
use Rattle.c65_csem.specs.declared.items.Parts.{Parts}
use Rattle.c65_csem.specs.Places.{is_fixed_object}
use Rattle.c65_csem.specs.Trees.{FuncTy}
use Rattle.c65_genframe.specs.declared.modes.Modes.{Modes}
use Rattle.c65_genframe.specs.declared.home.Home.{Home}
use Rattle.c65_genframe.specs.Sizes.{object_in}
use Rattle.c65_genframe.specs.Objects.{locals_of}
use Rattle.c65_genframe.specs.Frames.{Framed, frame_of, home_of}

abbrev pub is_among : List ℕ → ℕ → Bool
is_among [] i = false
is_among (j ∷ js) i = (j == i) || is_among js i

-- a parameter, or an object of a block of the body
abbrev pub is_own : FuncTy → ℕ → Bool
is_own g i = is_among g.params i || is_among (locals_of g) i

abbrev pub has_home : Option Home → Bool
has_home None = false
has_home (Some home) = true

-- one that has no place for the whole run: a parameter, or such an object of a block
abbrev pub is_framed_in : Parts → FuncTy → ℕ → Bool
is_framed_in parts g i = is_among g.params i || (is_among (locals_of g) i && not (is_fixed_object (object_in parts i)))

-- the objects that have a home are a function's own, but for those of blocks that have one place for the whole run
abbrev pub OwnObjectsHaveHomes : Type 0
OwnObjectsHaveHomes = (parts : Parts) (modes : Modes) (g : FuncTy) (f : Framed) (i : ℕ) → i < 2 ^ 32 → frame_of parts modes g ≡ Ok f → has_home (home_of f i) ≡ is_framed_in parts g i
