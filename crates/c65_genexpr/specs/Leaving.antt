-- Trees that take no lines, as they are read where they lie.
use Rattle.std.specs.Prelude.{◌≡◌, Bool, Option, Some, None}
use Rattle.c65_base.specs.declared.operators.BinaryOp.{BinaryOp}
use Rattle.c65_ints.specs.declared.types.IntType.{IntType}
use Rattle.c65_csem.specs.Trees.{Typed}
use Rattle.c65_gendirect.specs.declared.bytes.OperandByte.{OperandByte}
use Rattle.c65_gendirect.specs.Compare.{relation_of}
use Rattle.c65_genexpr.specs.declared.comparing.Side.{Side}
use Rattle.c65_genexpr.specs.declared.comparing.Side.TheVariants.{Left, Right}
use Rattle.c65_genexpr.specs.declared.comparing.Comparing.{Comparing}
use Rattle.c65_genexpr.specs.declared.comparing.Comparing.TheVariants as comparing
use Rattle.c65_genexpr.specs.declared.elements.Element.{Element}
use Rattle.c65_genexpr.specs.declared.operating.Operating.{Operating}
use Rattle.c65_genexpr.specs.declared.operating.Operating.TheVariants as operating
use Rattle.c65_genexpr.specs.declared.storing.Storing.{Storing}
use Rattle.c65_genexpr.specs.declared.storing.Storing.TheVariants as storing
use Rattle.c65_genexpr.specs.Uses.{uses, index_uses}

-- the side that is left out has no labels
abbrev pub IsFree : Side → Option Bool → Typed → Option Bool → Typed → Type 0
IsFree Left s a r b = uses r b ≡ 0
IsFree Right s a r b = uses s a ≡ 0

-- the sides that a comparison leaves out
abbrev pub ComparesFree : Comparing → Option Bool → Typed → Option Bool → Typed → Type 0
ComparesFree (comparing.Truth side) s a r b = IsFree side s a r b
ComparesFree (comparing.Byte side None q d) s a r b = IsFree side s a r b
ComparesFree (comparing.Byte side (Some low) q d) s a r b = (uses s a ≡ 0) × (uses r b ≡ 0)
ComparesFree (comparing.Whole side q is_signed sides) s a r b = IsFree side s a r b
ComparesFree (comparing.Held q is_signed) s a r b = Unit {0}
ComparesFree (comparing.HeldByte q) s a r b = Unit {0}
ComparesFree comparing.Stacked s a r b = Unit {0}

-- no side is tested of which the low byte alone is had
abbrev pub LowsPlain : Comparing → Option Bool → Option Bool → Type 0
LowsPlain (comparing.Truth side) s r = Unit {0}
LowsPlain (comparing.Byte side low q d) s r = (s ≡ None) × (r ≡ None)
LowsPlain (comparing.Whole side q is_signed sides) s r = Unit {0}
LowsPlain (comparing.Held q is_signed) s r = Unit {0}
LowsPlain (comparing.HeldByte q) s r = (s ≡ None) × (r ≡ None)
LowsPlain comparing.Stacked s r = Unit {0}

-- what is read where it lies
abbrev pub ReadFree : Option OperandByte → Typed → Type 0
ReadFree None e = Unit {0}
ReadFree (Some d) e = uses None e ≡ 0

-- the right operand, of an operator that is no relation
abbrev pub OperandFree : Option OperandByte → BinaryOp → Typed → Type 0
OperandFree None op b = Unit {0}
OperandFree (Some d) op b = (relation_of op ≡ None) × (uses None b ≡ 0)

-- an element of a small array has the labels of its index, and that of its sum
abbrev pub ElementFree : Option (Element × IntType) → Typed → Type 0
ElementFree None e = Unit {0}
ElementFree (Some x) e = index_uses e ≡ uses None e

-- the side that an assignment leaves out
abbrev pub StoresFree : Storing → Typed → Typed → Type 0
StoresFree (storing.Left at stored) a b = uses None b ≡ 0
StoresFree (storing.RightByte at low high) a b = uses None a ≡ 0
StoresFree (storing.RightWord at low high) a b = uses None a ≡ 0
StoresFree (storing.HeldByte at) a b = Unit {0}
StoresFree (storing.HeldWord at) a b = Unit {0}
StoresFree storing.Stacked a b = Unit {0}

-- the operand that an operator leaves out
abbrev pub OperatesFree : Operating → Typed → Typed → Type 0
OperatesFree (operating.Left form) a b = uses None b ≡ 0
OperatesFree (operating.Right form) a b = uses None a ≡ 0
OperatesFree (operating.Held form) a b = Unit {0}
OperatesFree operating.Stacked a b = Unit {0}
