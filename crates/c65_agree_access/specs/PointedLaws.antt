-- Places whose base comes to ptr1.
use Rattle.std.specs.Prelude.{◌≡◌, ℕ, ◌<◌, ℤ, None}
use Rattle.c65_base.specs.declared.operators.BinaryOp.{BinaryOp}
use Rattle.c65_base.specs.declared.operators.BinaryOp.TheVariants.{Add}
use Rattle.c65_ints.specs.declared.types.IntType.{IntType}
use Rattle.c65_ctype.specs.Trees.{QTy, int, pointer, type_in}
use Rattle.c65_ctype.specs.Sizes.{size_of}
use Rattle.c65_csem.specs.Trees.{Typed, node, constant, deref, member, address, decay, binary}
use Rattle.c65_meaning.specs.Store as values
use Rattle.c65_code.specs.Placement.{IsPlacement}
use Rattle.c65_genframe.specs.Frames.{type_bytes}
use Rattle.c65_gendirect.specs.Compare.{relation_of}
use Rattle.c65_genexpr.specs.Types.{bare}
use Rattle.c65_genexpr.specs.declared.operating.Form.{Form}
use Rattle.c65_genexpr.specs.declared.operating.Form.TheVariants as forms
use Rattle.c65_genexpr.specs.declared.operating.Operating.{Operating}
use Rattle.c65_genexpr.specs.declared.operating.Operating.TheVariants.{Left, Right, Held, Stacked}
use Rattle.c65_genexpr.specs.Operands.{operands_of, constant_in}
use Rattle.c65_genexpr.specs.Operating.{operating_of}
use Rattle.c65_genexpr.specs.Places.{added_bytes}
use Rattle.c65_agree_state.specs.World.{World, unit_in, Active}
use Rattle.c65_agree_state.specs.Exprs.{shape_in, ExpressionDoes}
use Rattle.c65_agree_structures.specs.Bases.{BaseDoes}
use Rattle.c65_agree_structures.specs.Copies.{AddressDoes}
use Rattle.c65_agree_structures.specs.Members.{IsPlainPointer, PointerBaseDoes}
use Rattle.c65_agree_access.specs.Pointed.{PointedDoes, TargetPointedDoes}

-- neither a member nor what a pointer names
abbrev pub HasOwnBase : Typed → Type 0
HasOwnBase (node t (deref e)) = ⊥
HasOwnBase (node t (member e m)) = ⊥
HasOwnBase _ = Unit {0}

-- The place of an object, a literal, and what a tree gives that is no place, where the lines of its base tell it: the address of one that is
-- anywhere goes from AX to ptr1.
abbrev pub OwnBasesArePointed : Type 0
OwnBasesArePointed = (g : World) (a : Active) (e : Typed) → IsPlacement g.code g.place → HasOwnBase e → BaseDoes g a e → PointedDoes g a e

-- that of a member, by the base of its structure or union, or by its own address
abbrev pub MembersArePointed : Type 0
MembersArePointed = (g : World) (a : Active) (t : QTy) (e : Typed) (m : ℕ) → IsPlacement g.code g.place → a.frame.parts ≡ g.parts → BaseDoes g a e → AddressDoes g a e → PointedDoes g a e → PointedDoes g a (node t (member e m))

-- what a pointer names, by the pointer's base
abbrev pub TargetsArePointed : Type 0
TargetsArePointed = (g : World) (a : Active) (t : QTy) (e : Typed) → TargetPointedDoes g a e → PointedDoes g a (node t (deref e))

-- a pointer that is neither a sum nor the address of an object
abbrev pub PointersArePointed : Type 0
PointersArePointed = (g : World) (a : Active) (e : Typed) → IsPlacement g.code g.place → IsPlainPointer e → PointerBaseDoes g a e → TargetPointedDoes g a e

-- an address, and an array as a pointer, as its object is
abbrev pub NamesArePointed : Type 0
NamesArePointed = (g : World) (a : Active) (t : QTy) (e : Typed) → PointedDoes g a e → TargetPointedDoes g a (node t (address e)) × TargetPointedDoes g a (node t (decay e))

-- the bytes of an element, where a sum may be made with a constant: so many are in the frame's tables
abbrev pub ElementsHaveSizes : Type 0
ElementsHaveSizes = (g : World) (a : Active) (q : QTy) → a.frame.parts ≡ g.parts → size_of (unit_in g).types (type_in q) < 65536 → type_bytes a.frame (type_in q) ≡ size_of (unit_in g).types (type_in q)

-- a sum with a constant, by the base of the pointer where the generator's place says so, and else by its value
abbrev pub ConstantSumsArePointed : Type 0
ConstantSumsArePointed = (g : World) (a : Active) (size : ℕ) (kind : IntType) (t s q : QTy) (x : Typed) (z : ℤ) → IsPlacement g.code g.place → bare x ≡ pointer q → type_in s ≡ int kind
    → type_bytes a.frame (type_in q) ≡ size_of (unit_in g).types (type_in q) → size_of (unit_in g).types (type_in q) < 65536 → shape_in g a (node t (binary Add x (node s (constant z)))) ≡ values.Pointer size
    → TargetPointedDoes g a x → ExpressionDoes g a (node t (binary Add x (node s (constant z)))) → TargetPointedDoes g a (node t (binary Add x (node s (constant z))))

-- ---- sums

-- a sum that does not go to ptr1 byte by byte
abbrev pub IsThroughAx : Form → Type 0
IsThroughAx (forms.Word Add low high) = ⊥
IsThroughAx (forms.Indexed size low high) = ⊥
IsThroughAx form = Unit {0}

abbrev pub ComesThroughAx : Operating → Type 0
ComesThroughAx (Left form) = IsThroughAx form
ComesThroughAx (Right form) = IsThroughAx form
ComesThroughAx (Held form) = IsThroughAx form
ComesThroughAx Stacked = Unit {0}

-- its value goes from AX to ptr1
abbrev pub SumsArePointed : Type 0
SumsArePointed = (g : World) (a : Active) (size : ℕ) (t : QTy) (op : BinaryOp) (x y : Typed) → IsPlacement g.code g.place → relation_of op ≡ None
    → added_bytes op (operands_of a.frame (bare x) (bare y)) (constant_in y) ≡ None → ((pushed : ℕ) → ComesThroughAx (operating_of a.frame pushed op (operands_of a.frame (bare x) (bare y)) x y))
    → shape_in g a (node t (binary op x y)) ≡ values.Pointer size → ExpressionDoes g a (node t (binary op x y)) → TargetPointedDoes g a (node t (binary op x y))
