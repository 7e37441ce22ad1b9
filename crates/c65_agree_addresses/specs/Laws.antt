-- What the lines do that bring the address of an object or of a member of it to AX (C90 6.3.1, 6.3.2.3).
use Rattle.std.specs.Prelude.{◌≡◌, ℕ, ◌<◌, ◌≤◌, false, List, ◌∷◌, ◌++◌, None, length}
use Rattle.c65_ctype.specs.Trees.{QTy}
use Rattle.c65_csem.specs.Trees.{Typed, node, object, member}
use Rattle.c65_csem_need.specs.Needs.{need}
use Rattle.c65_meaning.specs.Store.{Shape}
use Rattle.c65_meaning.specs.Items.{Item, Name, Move}
use Rattle.c65_meaning.specs.Shapes.{object_in, lives_in_frame}
use Rattle.c65_code.specs.declared.line.Line.{Line}
use Rattle.c65_code.specs.Placement.{IsPlacement, stack_end}
use Rattle.c65_genframe.specs.Frames.{Framed, home_of}
use Rattle.c65_genload.specs.Addresses.{offset_code}
use Rattle.c65_genexpr.specs.declared.wanted.Wanted.TheVariants.{Value}
use Rattle.c65_genexpr.specs.Types.{bare, offset_at}
use Rattle.c65_genexpr.specs.Places.{object_code}
use Rattle.c65_genexpr.specs.Code.{expr_code}
use Rattle.c65_ctype.specs.Views.{types_of}
use Rattle.c65_agree_store.specs.Stands.{At}
use Rattle.c65_agree_state.specs.World.{World, unit_in, Active}
use Rattle.c65_agree_state.specs.Joins.{spot_of}
use Rattle.c65_agree_state.specs.Exprs.{Placed, Does}
use Rattle.c65_agree_stmts.specs.Calling.{Calling}
use Rattle.c65_agree_part.specs.Laws.{HasAddress}

-- ---- nodes

-- an object that stands in memory, and, where it is none of the frame's, at its symbol
pub record IsAddressed (g : World) (a : Active) (i : ℕ) : Type 0 where
  pub at : ℕ
  pub spot : spot_of g a i ≡ At at
  pub below : at < stack_end
  pub fixed : lives_in_frame (object_in (unit_in g) i) ≡ false → (home_of a.frame i ≡ None) × (i < length g.parts.objects.items)

-- the lines of an object's name leave its address, whatever its class is
abbrev pub ObjectsArePlaced : Type 0
ObjectsArePlaced = (g : World) (a : Active) (shape : Shape) (needs pushed i : ℕ) → IsPlacement g.code g.place → a.frame.parts ≡ g.parts → IsAddressed g a i
    → Does g a Placed shape (λ k. Name i ∷ k) needs pushed (object_code a.frame pushed i)

-- and those of a member its address, behind those of its structure or union
abbrev pub MembersArePlaced : Type 0
MembersArePlaced = (g : World) (a : Active) (f h : Shape) (o needs pushed : ℕ) (work : List Item → List Item) (lines : List Line) → IsPlacement g.code g.place
    → Does g a Placed f work needs pushed lines → Does g a Placed h (λ k. work (Move o ∷ k)) needs pushed (lines ++ offset_code o)

-- ---- trees

-- an object, or a member of one, that is so
abbrev pub IsAddressedTree : World → Active → Typed → Type 0
IsAddressedTree g a (node t (object i)) = IsAddressed g a i
IsAddressedTree g a (node t (member e m)) = IsAddressedTree g a e
IsAddressedTree g a _ = ⊥

-- the lines of a structure or union that stands in memory leave its address in AX, also of one of class register
abbrev pub TreesHaveAddresses : Type 0
TreesHaveAddresses = (x : Calling) (e : Typed) → IsPlacement x.world.code x.world.place → x.active.frame.parts ≡ x.world.parts → IsAddressedTree x.world x.active e → need e ≤ x.needs → HasAddress x e

-- ---- the lines of the generator

abbrev pub ObjectLinesAre : Type 0
ObjectLinesAre = (f : Framed) (pushed fresh i : ℕ) (t : QTy) → expr_code f pushed fresh Value (node t (object i)) ≡ object_code f pushed i

abbrev pub MemberLinesAre : Type 0
MemberLinesAre = (f : Framed) (pushed fresh m : ℕ) (t : QTy) (e : Typed) → expr_code f pushed fresh Value (node t (member e m)) ≡ expr_code f pushed fresh Value e ++ offset_code (offset_at (types_of f.parts.types) (bare e) m)
