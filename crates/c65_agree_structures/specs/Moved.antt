-- What the moved pointers of a plain program point to has bytes (C90 6.3.6).
use Rattle.std.specs.Prelude.{◌≡◌, ℕ, ◌<◌, ℤ}
use Rattle.c65_base.specs.declared.operators.BinaryOp.TheVariants.{Add}
use Rattle.c65_ints.specs.declared.types.IntType.{IntType}
use Rattle.c65_ctype.specs.Trees.{QTy, int, pointer, type_in}
use Rattle.c65_ctype.specs.Sizes.{size_of}
use Rattle.c65_csem.specs.Trees.{Typed, node, constant, binary}
use Rattle.c65_csem_plain.specs.Body.{HasStep, IsPlainIn}
use Rattle.c65_meaning.specs.Store.{Pointer}
use Rattle.c65_genframe.specs.Frames.{type_bytes}
use Rattle.c65_genexpr.specs.Types.{bare}
use Rattle.c65_agree_state.specs.World.{World, unit_in, Active}
use Rattle.c65_agree_state.specs.Exprs.{shape_in, ExpressionDoes}
use Rattle.c65_agree_structures.specs.Members.{PointerBaseDoes}

-- as many as the generator takes, and fewer than 65,536
abbrev pub MovedTypesHaveBytes : Type 0
MovedTypesHaveBytes = (g : World) (a : Active) (q : QTy) → a.frame.parts ≡ g.parts → HasStep (unit_in g).types (pointer q)
    → (type_bytes a.frame (type_in q) ≡ size_of (unit_in g).types (type_in q)) × (size_of (unit_in g).types (type_in q) < 65536)

-- So a constant may be added to each pointer of a plain body that has a base.
abbrev pub PlainSumsAreBases : Type 0
PlainSumsAreBases = (g : World) (a : Active) (size : ℕ) (kind : IntType) (t s q : QTy) (x : Typed) (z : ℤ) → a.frame.parts ≡ g.parts → bare x ≡ pointer q → type_in s ≡ int kind
    → IsPlainIn (unit_in g).types (node t (binary Add x (node s (constant z)))) → shape_in g a (node t (binary Add x (node s (constant z)))) ≡ Pointer size
    → PointerBaseDoes g a x → ExpressionDoes g a (node t (binary Add x (node s (constant z)))) → PointerBaseDoes g a (node t (binary Add x (node s (constant z))))
