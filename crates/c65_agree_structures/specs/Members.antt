-- Members of structures and unions, and what pointers name (C90 6.3.2.3, 6.3.3.2).
use Rattle.std.specs.Prelude.{◌≡◌, ℕ, ◌<◌, ℤ, None}
use Rattle.c65_base.specs.declared.operators.BinaryOp.{BinaryOp}
use Rattle.c65_base.specs.declared.operators.BinaryOp.TheVariants.{Add}
use Rattle.c65_ints.specs.declared.types.IntType.{IntType}
use Rattle.c65_ctype.specs.Trees.{QTy, int, pointer, type_in}
use Rattle.c65_ctype.specs.Sizes.{size_of}
use Rattle.c65_csem.specs.Trees.{Typed, node, constant, deref, member, address, decay, binary}
use Rattle.c65_csem_need.specs.Needs.{need}
use Rattle.c65_meaning.specs.Store.{Pointer}
use Rattle.c65_meaning.specs.Items.{plan}
use Rattle.c65_code.specs.Placement.{IsPlacement}
use Rattle.c65_genframe.specs.Frames.{type_bytes}
use Rattle.c65_gendirect.specs.Compare.{relation_of}
use Rattle.c65_genexpr.specs.declared.destination.Destination.TheVariants.{Registers}
use Rattle.c65_genexpr.specs.Types.{bare}
use Rattle.c65_genexpr.specs.Operands.{operands_of, constant_in}
use Rattle.c65_genexpr.specs.Places.{added_bytes, target_of}
use Rattle.c65_genexpr.specs.Code.{pointer_base_code}
use Rattle.c65_agree_state.specs.World.{World, unit_in, Active}
use Rattle.c65_agree_state.specs.Exprs.{Valued, yield_of, shape_in, ExpressionDoes}
use Rattle.c65_agree_structures.specs.Bases.{TellsPlace, BaseDoes}
use Rattle.c65_agree_structures.specs.Copies.{AddressDoes}

-- The address of a member is so far behind that of its structure or union, which may be what a call has given.
abbrev pub MembersHaveAddresses : Type 0
MembersHaveAddresses = (g : World) (a : Active) (t : QTy) (e : Typed) (m : ℕ) → IsPlacement g.code g.place → a.frame.parts ≡ g.parts → AddressDoes g a e → AddressDoes g a (node t (member e m))

-- What a pointer names has the pointer's value as its address.
abbrev pub TargetsHaveAddresses : Type 0
TargetsHaveAddresses = (g : World) (a : Active) (size : ℕ) (t : QTy) (e : Typed) → yield_of (unit_in g) e ≡ Valued → shape_in g a e ≡ Pointer size → ExpressionDoes g a e → AddressDoes g a (node t (deref e))

-- A member is told by the base of its structure or union, or by its own address.
abbrev pub MembersAreBases : Type 0
MembersAreBases = (g : World) (a : Active) (t : QTy) (e : Typed) (m : ℕ) → IsPlacement g.code g.place → a.frame.parts ≡ g.parts → BaseDoes g a e → AddressDoes g a e → BaseDoes g a (node t (member e m))

-- ---- pointers

-- the lines of a pointer's base do the work of the pointer, and behind them the place that it names is told
abbrev pub PointerBaseDoes : World → Active → Typed → Type 0
PointerBaseDoes g a e = (pushed fresh : ℕ) → TellsPlace g a (plan (unit_in g) e) (need e) pushed (target_of a.frame pushed e) (pointer_base_code a.frame pushed fresh Registers e)

-- what a pointer names is told by the pointer's base
abbrev pub TargetsAreBases : Type 0
TargetsAreBases = (g : World) (a : Active) (t : QTy) (e : Typed) → PointerBaseDoes g a e → BaseDoes g a (node t (deref e))

-- neither a sum nor the address of an object
abbrev pub IsPlainPointer : Typed → Type 0
IsPlainPointer (node t (binary op x y)) = ⊥
IsPlainPointer (node t (address e)) = ⊥
IsPlainPointer (node t (decay e)) = ⊥
IsPlainPointer _ = Unit {0}

-- the value of such a pointer is in AX
abbrev pub PointersAreBases : Type 0
PointersAreBases = (g : World) (a : Active) (size : ℕ) (e : Typed) → IsPlainPointer e → yield_of (unit_in g) e ≡ Valued → shape_in g a e ≡ Pointer size → ExpressionDoes g a e → PointerBaseDoes g a e

-- an address, and an array as a pointer, is told as its object is
abbrev pub NamesAreBases : Type 0
NamesAreBases = (g : World) (a : Active) (t : QTy) (e : Typed) → BaseDoes g a e → PointerBaseDoes g a (node t (address e)) × PointerBaseDoes g a (node t (decay e))

-- So is the value of a sum, but where a constant is added, and of a difference.
abbrev pub SumsAreBases : Type 0
SumsAreBases = (g : World) (a : Active) (size : ℕ) (t : QTy) (op : BinaryOp) (x y : Typed) → relation_of op ≡ None → added_bytes op (operands_of a.frame (bare x) (bare y)) (constant_in y) ≡ None
    → shape_in g a (node t (binary op x y)) ≡ Pointer size → ExpressionDoes g a (node t (binary op x y)) → PointerBaseDoes g a (node t (binary op x y))

-- A sum of a pointer and a constant is told by the base of the pointer where the generator's place says so, and else by its value.
abbrev pub ConstantSumsAreBases : Type 0
ConstantSumsAreBases = (g : World) (a : Active) (size : ℕ) (kind : IntType) (t s q : QTy) (x : Typed) (z : ℤ) → bare x ≡ pointer q → type_in s ≡ int kind
    → type_bytes a.frame (type_in q) ≡ size_of (unit_in g).types (type_in q) → size_of (unit_in g).types (type_in q) < 65536 → shape_in g a (node t (binary Add x (node s (constant z)))) ≡ Pointer size
    → PointerBaseDoes g a x → ExpressionDoes g a (node t (binary Add x (node s (constant z)))) → PointerBaseDoes g a (node t (binary Add x (node s (constant z))))
