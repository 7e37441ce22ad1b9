-- Elements of small arrays that are loaded, and tests of them (C90 6.2.2.1, 6.3.2.1, 6.6.4.1).
use Rattle.std.specs.Prelude.{◌≡◌, ℕ, ◌≤◌, true, false, Some, None, is_some, ◌++◌}
use Rattle.c65_base.specs.declared.operators.BinaryOp.{BinaryOp}
use Rattle.c65_ints.specs.declared.types.IntType.{IntType}
use Rattle.c65_ctype.specs.Trees.{QTy}
use Rattle.c65_ctype.specs.Views.{types_of}
use Rattle.c65_csem.specs.Trees.{Typed, node, load, deref, member, binary}
use Rattle.c65_csem.specs.Places.{is_bit_field}
use Rattle.c65_csem.specs.Typed.{IsTyped}
use Rattle.c65_csem_need.specs.Needs.{need}
use Rattle.c65_meaning.specs.Store.{Number}
use Rattle.c65_meaning.specs.Items.{plan}
use Rattle.c65_code.specs.Placement.{IsPlacement}
use Rattle.c65_genframe.specs.Frames.{Framed}
use Rattle.c65_genexpr.specs.declared.destination.Destination.{Destination}
use Rattle.c65_genexpr.specs.declared.elements.Element.{Element}
use Rattle.c65_genexpr.specs.declared.wanted.Wanted.TheVariants.{Value}
use Rattle.c65_genexpr.specs.Elements.{doublings, element_at, element_or, element_byte_code}
use Rattle.c65_genexpr.specs.Lows.{byte_in}
use Rattle.c65_genexpr.specs.Operating.{is_light_element, is_light_load}
use Rattle.c65_genexpr.specs.Places.{place_of}
use Rattle.c65_genexpr.specs.Types.{access_of}
use Rattle.c65_genexpr.specs.Code.{expr_code, index_code, low_value_code}
use Rattle.c65_agree_state.specs.World.{World, unit_in, Active}
use Rattle.c65_agree_state.specs.Exprs.{Valued, shape_in, ExpressionDoes, TestDoes}
use Rattle.c65_agree_operate.specs.Manners.{Manner, usual, DoesIn}
use Rattle.c65_agree_order.specs.Bytes.{Any, LowsIn}
use Rattle.c65_agree_structures.specs.Bases.{BaseDoes}
use Rattle.c65_agree_loading.specs.Bases.{BaseDoesIn, ValueDoesIn}
use Rattle.c65_agree_loading.specs.LoadLaws.{TestDoesIn}
use Rattle.c65_agree_access.specs.Pointed.{PointedDoes}
use Rattle.c65_agree_access.specs.Elements.{IsOwnArray, LowDoes, ElementDoes}

-- What a sum of a whole array and an index names is an element: the lines bring the low byte of the index.
abbrev pub SumsAreElements : Type 0
SumsAreElements = (g : World) (a : Active) (m : Manner) (t s : QTy) (op : BinaryOp) (x y : Typed) → IsPlacement g.code g.place → a.frame.parts ≡ g.parts
    → IsTyped (unit_in g) (node t (deref (node s (binary op x y)))) → IsOwnArray g x → LowDoes g a m y → ElementDoes g a m (node t (deref (node s (binary op x y))))

-- So is a member of one.
abbrev pub MembersAreElements : Type 0
MembersAreElements = (g : World) (a : Active) (m : Manner) (t : QTy) (e : Typed) (n : ℕ) → a.frame.parts ≡ g.parts → ElementDoes g a m e → ElementDoes g a m (node t (member e n))

-- An element of one byte or two is loaded by Y; light lines make its offset from the index by doubling, and extend no sign.
abbrev pub ElementLoadsDo : Type 0
ElementLoadsDo = (g : World) (a : Active) (m : Manner) (pushed fresh : ℕ) (t : QTy) (e : Typed) (x : Element) (kind : IntType) → IsPlacement g.code g.place → a.frame.parts ≡ g.parts → IsTyped (unit_in g) (node t (load e)) → is_bit_field (unit_in g).types e ≡ false
    → element_at a.frame e ≡ Some (x, kind) → (m.light ≡ true → is_light_element (x, kind) ≡ true) → ElementDoes g a m e
    → DoesIn g a m Valued (shape_in g a (node t (load e))) (plan (unit_in g) (node t (load e))) (need (node t (load e))) pushed (expr_code a.frame pushed fresh Value (node t (load e)))

-- So is its low byte alone.
abbrev pub LowElementLoadsDo : Type 0
LowElementLoadsDo = (g : World) (a : Active) (m : Manner) (pushed fresh : ℕ) (t : QTy) (e : Typed) (x : Element) (kind shape : IntType) → IsPlacement g.code g.place → a.frame.parts ≡ g.parts → IsTyped (unit_in g) (node t (load e)) → is_bit_field (unit_in g).types e ≡ false
    → element_at a.frame e ≡ Some (x, kind) → shape_in g a e ≡ Number shape → (m.light ≡ true → is_some (doublings x.size) ≡ true) → ElementDoes g a m e
    → LowsIn g a m Any shape (plan (unit_in g) (node t (load e))) (need (node t (load e))) pushed (index_code a.frame pushed fresh e ++ element_byte_code x)

-- These are the generator's lines for the low byte.
abbrev pub LowElementLinesAre : Type 0
LowElementLinesAre = (f : Framed) (pushed fresh : ℕ) (t : QTy) (e : Typed) (x : Element) (kind : IntType) → byte_in f pushed (node t (load e)) ≡ None → element_at f e ≡ Some (x, kind)
    → low_value_code f pushed fresh (node t (load e)) ≡ index_code f pushed fresh e ++ element_byte_code x

-- What is kept in memory is loaded, be it an element of a small array or not.
abbrev pub MemoryLoadsDo : Type 0
MemoryLoadsDo = (g : World) (a : Active) (t : QTy) (e : Typed) → IsPlacement g.code g.place → a.frame.parts ≡ g.parts → IsTyped (unit_in g) (node t (load e)) → is_bit_field (unit_in g).types e ≡ false
    → ElementDoes g a usual e → BaseDoes g a e → PointedDoes g a e → ExpressionDoes g a (node t (load e))

-- ---- tests

-- What is loaded from an element is tested by its byte, or by both of them together.
abbrev pub ElementLoadsTest : Type 0
ElementLoadsTest = (g : World) (a : Active) (m : Manner) (t : QTy) (e : Typed) (x : Element) (kind : IntType) → IsPlacement g.code g.place → a.frame.parts ≡ g.parts → IsTyped (unit_in g) (node t (load e)) → is_bit_field (unit_in g).types e ≡ false
    → element_at a.frame e ≡ Some (x, kind) → (m.light ≡ true → is_some (doublings x.size) ≡ true) → ElementDoes g a m e → TestDoesIn g a m (node t (load e))

-- What is kept in memory is tested, be it an element of a small array or not.
abbrev pub MemoryLoadsTest : Type 0
MemoryLoadsTest = (g : World) (a : Active) (t : QTy) (e : Typed) → IsPlacement g.code g.place → a.frame.parts ≡ g.parts → IsTyped (unit_in g) (node t (load e)) → is_bit_field (unit_in g).types e ≡ false
    → ElementDoes g a usual e → BaseDoes g a e → PointedDoes g a e → TestDoes g a (node t (load e))

-- ---- in each manner

-- what the generator asks of light lines of a load, beside those of its index or base
abbrev pub IsLightMemory : Active → Manner → Typed → Type 0
IsLightMemory a m e = (pushed : ℕ) → m.light ≡ true → element_or (element_at a.frame e) is_light_element (is_light_load (place_of a.frame pushed e) (access_of (types_of a.frame.parts.types) e) true) ≡ true

-- a load from memory of a number or a pointer that is no bit-field, whose index and base do their work in a manner
pub record IsMemoryLoad (g : World) (a : Active) (m : Manner) (t : QTy) (e : Typed) : Type 0 where
  pub parts : a.frame.parts ≡ g.parts
  pub typed : IsTyped (unit_in g) (node t (load e))
  pub whole : is_bit_field (unit_in g).types e ≡ false
  pub light : IsLightMemory a m e
  pub element : ElementDoes g a m e
  pub base : (d : Destination) → BaseDoesIn g a m d e

abbrev pub MemoryLoadsDoIn : Type 0
MemoryLoadsDoIn = (g : World) (a : Active) (m : Manner) (t : QTy) (e : Typed) → IsPlacement g.code g.place → m.over ≤ 1000 → IsMemoryLoad g a m t e → ValueDoesIn g a m (node t (load e))

abbrev pub MemoryLoadsTestIn : Type 0
MemoryLoadsTestIn = (g : World) (a : Active) (m : Manner) (t : QTy) (e : Typed) → IsPlacement g.code g.place → m.over ≤ 1000 → IsMemoryLoad g a m t e → TestDoesIn g a m (node t (load e))
