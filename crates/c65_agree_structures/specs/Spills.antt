-- What a call gives, in the object that takes it (C90 6.3.2.2).
use Rattle.std.specs.Prelude.{◌≡◌, ℕ, true, false, IsTrue, Some}
use Rattle.c65_ctype.specs.Trees.{QTy, type_in}
use Rattle.c65_csem.specs.Trees.{Typed, node, spill, type_of}
use Rattle.c65_csem.specs.Places.{is_small}
use Rattle.c65_meaning.specs.Shapes.{object_in, lives_in_frame}
use Rattle.c65_code.specs.Placement.{IsPlacement}
use Rattle.c65_genframe.specs.declared.home.Home.TheVariants as homes
use Rattle.c65_genframe.specs.Frames.{home_of, is_raised}
use Rattle.c65_agree_state.specs.World.{World, unit_in, Active}
use Rattle.c65_agree_state.specs.Exprs.{Valued, yield_of, ExpressionDoes}

-- an object of the frame, and no parameter of a variadic function
pub record IsTaker (g : World) (a : Active) (i : ℕ) : Type 0 where
  pub lives : lives_in_frame (object_in (unit_in g) i) ≡ true
  pub offset : ℕ
  pub home : home_of a.frame i ≡ Some (homes.Soft offset)
  pub low : is_raised a.frame i ≡ false

-- The bytes of a structure or union that a tree gives go from the primary register to the object, whose place is then the value.
abbrev pub SpillsDo : Type 0
SpillsDo = (g : World) (a : Active) (i : ℕ) (t : QTy) (e : Typed) → IsPlacement g.code g.place → a.frame.parts ≡ g.parts → IsTrue (is_small (unit_in g).types (type_in t)) → IsTaker g a i
    → type_of e ≡ t → yield_of (unit_in g) e ≡ Valued → ExpressionDoes g a e → ExpressionDoes g a (node t (spill i e))
