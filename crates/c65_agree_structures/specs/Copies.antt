-- Assignment of structures and unions (C90 6.3.16.1).
use Rattle.std.specs.Prelude.{◌≡◌, ℕ, ◌<◌, true}
use Rattle.c65_ctype.specs.Trees.{QTy, type_in}
use Rattle.c65_ctype.specs.Sizes.{size_of}
use Rattle.c65_csem.specs.Trees.{Typed, node, copy}
use Rattle.c65_csem.specs.Places.{is_tag}
use Rattle.c65_csem_need.specs.Needs.{need}
use Rattle.c65_meaning.specs.Items.{plan}
use Rattle.c65_meaning.specs.Shapes.{bare_type}
use Rattle.c65_code.specs.Placement.{IsPlacement}
use Rattle.c65_genexpr.specs.declared.wanted.Wanted.TheVariants as wanted
use Rattle.c65_genexpr.specs.Code.{expr_code}
use Rattle.c65_agree_state.specs.World.{World, unit_in, Active}
use Rattle.c65_agree_state.specs.Exprs.{Placed, yield_of, Does, shape_in, ExpressionDoes}

-- the lines of a structure or union do its work, and leave its address in AX
abbrev pub AddressDoes : World → Active → Typed → Type 0
AddressDoes g a e = (pushed fresh : ℕ) → Does g a Placed (shape_in g a e) (plan (unit_in g) e) (need e) pushed (expr_code a.frame pushed fresh wanted.Value e)

-- as those of each place in memory, and of a structure or union that `,`, `?:`, an assignment or a call gives
abbrev pub PlacesHaveAddresses : Type 0
PlacesHaveAddresses = (g : World) (a : Active) (e : Typed) → yield_of (unit_in g) e ≡ Placed → ExpressionDoes g a e → AddressDoes g a e

-- Where those of both sides do so, as a place or what a call has given, the lines of an assignment do its work.
abbrev pub CopiesDo : Type 0
CopiesDo = (g : World) (a : Active) (t : QTy) (left right : Typed) → IsPlacement g.code g.place → a.frame.parts ≡ g.parts → is_tag (type_in t) ≡ true → bare_type left ≡ type_in t → size_of (unit_in g).types (type_in t) < 65536
    → AddressDoes g a left → AddressDoes g a right → ExpressionDoes g a (node t (copy left right))
