-- Objects of a function's blocks may be given their first values (C90 6.1.2.4, 6.5.7).
use Rattle.std.specs.Prelude.{◌≡◌, ℕ, true, List}
use Rattle.c65_csem.specs.Trees.{FuncTy}
use Rattle.c65_meaning.specs.After.{is_among}
use Rattle.c65_meaning.specs.Shapes.{object_in, lives_in_frame}
use Rattle.c65_code.specs.Placement.{IsPlacement}
use Rattle.c65_genframe.specs.Objects.{locals_of}
use Rattle.c65_agree_state.specs.World.{World, unit_in, Active}
use Rattle.c65_agree_homes.specs.Frames.{IsCallIn}
use Rattle.c65_agree_part.specs.Parts.{IsSettable}

-- each automatic object of its blocks: in regbank it has at most two bytes, which the frame takes, and where it has one place for the whole
-- run no byte of it is one of a constant
abbrev pub ObjectsAreSettable : Type 0
ObjectsAreSettable = (g : World) (names : List (List ℕ)) (a : Active) (f : FuncTy) (i : ℕ) → IsCallIn g names a f → IsPlacement g.code g.place
    → is_among (locals_of f) i ≡ true → lives_in_frame (object_in (unit_in g) i) ≡ true → IsSettable g a i
