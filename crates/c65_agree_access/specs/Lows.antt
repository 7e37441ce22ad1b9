-- The low byte of a number that is kept behind a pointer (C90 6.2.2.1).
use Rattle.std.specs.Prelude.{◌≡◌, ℕ, false, Some, None, ◌++◌}
use Rattle.c65_ints.specs.declared.types.IntType.{IntType}
use Rattle.c65_ctype.specs.Trees.{QTy}
use Rattle.c65_ctype.specs.Views.{types_of}
use Rattle.c65_csem.specs.Trees.{Typed, node, load}
use Rattle.c65_csem.specs.Places.{is_bit_field}
use Rattle.c65_csem.specs.Typed.{IsTyped}
use Rattle.c65_csem_need.specs.Needs.{need}
use Rattle.c65_meaning.specs.Store.{Number}
use Rattle.c65_meaning.specs.Items.{plan}
use Rattle.c65_code.specs.Placement.{IsPlacement}
use Rattle.c65_genframe.specs.Frames.{Framed}
use Rattle.c65_genload.specs.declared.places.Extent.TheVariants.{One}
use Rattle.c65_gendirect.specs.Pointed.{behind_pointer_code}
use Rattle.c65_genexpr.specs.declared.destination.Destination.TheVariants.{Pointer}
use Rattle.c65_genexpr.specs.Elements.{element_at}
use Rattle.c65_genexpr.specs.Lows.{byte_in, behind_pointer}
use Rattle.c65_genexpr.specs.Places.{place_of}
use Rattle.c65_genexpr.specs.Types.{access_of}
use Rattle.c65_genexpr.specs.Code.{base_code, low_value_code}
use Rattle.c65_agree_state.specs.World.{World, unit_in, Active}
use Rattle.c65_agree_state.specs.Exprs.{shape_in}
use Rattle.c65_agree_operate.specs.Manners.{usual}
use Rattle.c65_agree_order.specs.Bytes.{Any, LowsIn}
use Rattle.c65_agree_access.specs.Pointed.{PointedDoes}

-- Where ptr1 tells it, its low byte is loaded alone.
abbrev pub LowLoadsDo : Type 0
LowLoadsDo = (g : World) (a : Active) (pushed fresh at : ℕ) (t : QTy) (e : Typed) (kind : IntType) → IsPlacement g.code g.place → a.frame.parts ≡ g.parts → IsTyped (unit_in g) (node t (load e)) → is_bit_field (unit_in g).types e ≡ false
    → shape_in g a e ≡ Number kind → behind_pointer (place_of a.frame pushed e) (access_of (types_of a.frame.parts.types) e) ≡ Some at → PointedDoes g a e
    → LowsIn g a usual Any kind (plan (unit_in g) (node t (load e))) (need (node t (load e))) pushed (base_code a.frame pushed fresh Pointer e ++ behind_pointer_code at One)

-- These are the generator's lines for the low byte.
abbrev pub LowLoadLinesAre : Type 0
LowLoadLinesAre = (f : Framed) (pushed fresh at : ℕ) (t : QTy) (e : Typed) → byte_in f pushed (node t (load e)) ≡ None → element_at f e ≡ None → behind_pointer (place_of f pushed e) (access_of (types_of f.parts.types) e) ≡ Some at
    → low_value_code f pushed fresh (node t (load e)) ≡ base_code f pushed fresh Pointer e ++ behind_pointer_code at One
