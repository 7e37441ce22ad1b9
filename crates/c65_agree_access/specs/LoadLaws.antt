-- Loads of numbers and pointers (C90 6.2.2.1).
use Rattle.std.specs.Prelude.{◌≡◌, ℕ, true, false, None}
use Rattle.c65_ctype.specs.Trees.{QTy}
use Rattle.c65_ctype.specs.Views.{types_of}
use Rattle.c65_csem.specs.Trees.{Typed, node, load}
use Rattle.c65_csem.specs.Places.{is_bit_field}
use Rattle.c65_csem.specs.Typed.{IsTyped, IsScalarPlace}
use Rattle.c65_meaning.specs.Shapes.{place_shape}
use Rattle.c65_code.specs.Placement.{IsPlacement}
use Rattle.c65_genload.specs.declared.places.Access.TheVariants.{Whole}
use Rattle.c65_genload.specs.declared.places.Place.TheVariants.{Bank}
use Rattle.c65_genload.specs.Places.{extent_of}
use Rattle.c65_genexpr.specs.Types.{access_of}
use Rattle.c65_genexpr.specs.Places.{place_of, is_plain}
use Rattle.c65_genexpr.specs.Elements.{element_at}
use Rattle.c65_agree_state.specs.World.{World, unit_in, Active}
use Rattle.c65_agree_state.specs.Exprs.{shape_in, ExpressionDoes}
use Rattle.c65_agree_put.specs.Laws.{IsScalar}
use Rattle.c65_agree_assign.specs.Places.{kind_in}
use Rattle.c65_agree_load.specs.Loads.{IsKeptThere}
use Rattle.c65_agree_direct.specs.Laws.{IsFrameOf}
use Rattle.c65_agree_structures.specs.Bases.{BaseDoes}
use Rattle.c65_agree_access.specs.Pointed.{PointedDoes}

-- the place of a number or a pointer, which is no bit-field: so lines and meaning take it as whole
pub record IsWhole (g : World) (a : Active) (e : Typed) : Type 0 where
  pub scalar : IsScalar (shape_in g a e)
  pub shape : place_shape (unit_in g).types e ≡ shape_in g a e
  pub access : access_of (types_of a.frame.parts.types) e ≡ Whole (kind_in (shape_in g a e))

abbrev pub PlacesAreWhole : Type 0
PlacesAreWhole = (g : World) (a : Active) (e : Typed) → a.frame.parts ≡ g.parts → IsScalarPlace e → is_bit_field (unit_in g).types e ≡ false → IsWhole g a e

-- Of one in memory that is no element of a small array, the lines of a load do its work where those of the base do theirs, which bring its
-- address to AX or to ptr1.
abbrev pub LoadsDo : Type 0
LoadsDo = (g : World) (a : Active) (t : QTy) (e : Typed) → IsPlacement g.code g.place → a.frame.parts ≡ g.parts → IsTyped (unit_in g) (node t (load e)) → is_bit_field (unit_in g).types e ≡ false → element_at a.frame e ≡ None
    → BaseDoes g a e → PointedDoes g a e → ExpressionDoes g a (node t (load e))

-- So they do of one in regbank, which has no number of four bytes.
abbrev pub BankedLoadsDo : Type 0
BankedLoadsDo = (g : World) (a : Active) (t : QTy) (e : Typed) (b : ℕ) → IsPlacement g.code g.place → IsFrameOf g a → IsTyped (unit_in g) (node t (load e)) → is_bit_field (unit_in g).types e ≡ false → is_plain e ≡ true
    → ((pushed : ℕ) → place_of a.frame pushed e ≡ Bank b) → IsKeptThere (Bank b) (extent_of (kind_in (shape_in g a e))) → ExpressionDoes g a (node t (load e))
