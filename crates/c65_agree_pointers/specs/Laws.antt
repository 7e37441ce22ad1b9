-- What the lines of sums with pointers and of differences of pointers do, where those of their operands do the work of these (C90 6.3.6).
use Rattle.std.specs.Prelude.{◌≡◌, ℕ, ◌+◌, max, Bool, true, false, ℤ, List, ◌∷◌, Some, None}
use Rattle.c65_base.specs.declared.operators.BinaryOp.{BinaryOp}
use Rattle.c65_base.specs.declared.operators.BinaryOp.TheVariants.{Add, Sub}
use Rattle.c65_ints.specs.declared.types.IntType.{IntType}
use Rattle.c65_ints.specs.Ranges.{InRange}
use Rattle.c65_ctype.specs.Trees.{pointer, QTy, type_in}
use Rattle.c65_ctype.specs.Views.{types_of}
use Rattle.c65_ctype.specs.Sizes.{size_of}
use Rattle.c65_csem.specs.Trees.{Typed, node, binary}
use Rattle.c65_meaning.specs.Store.{Whole, Shape, Number, Pointer}
use Rattle.c65_meaning.specs.Items.{Item, Push}
use Rattle.c65_code.specs.declared.line.Line.{Line}
use Rattle.c65_code.specs.declared.routine.Width.TheVariants.{Ax}
use Rattle.c65_code.specs.Placement.{IsPlacement}
use Rattle.c65_genframe.specs.Frames.{Framed}
use Rattle.c65_genload.specs.Conversions.{waiting}
use Rattle.c65_gendirect.specs.declared.bytes.OperandByte.{OperandByte}
use Rattle.c65_gendirect.specs.declared.direct.Direct.{Direct}
use Rattle.c65_gendirect.specs.Compare.{relation_of}
use Rattle.c65_genexpr.specs.declared.destination.Destination.TheVariants.{Registers}
use Rattle.c65_genexpr.specs.declared.operands.Operands.{Operands}
use Rattle.c65_genexpr.specs.declared.operands.Operands.TheVariants.{PointerFirst}
use Rattle.c65_genexpr.specs.declared.operating.Form.{Form}
use Rattle.c65_genexpr.specs.declared.operating.Operating.TheVariants.{Left, Right, Held, Stacked}
use Rattle.c65_genexpr.specs.declared.wanted.Wanted.TheVariants.{Value}
use Rattle.c65_genexpr.specs.Types.{bare, kind_in, target_bytes}
use Rattle.c65_genexpr.specs.Places.{more}
use Rattle.c65_genwide.specs.Wide.{width_of}
use Rattle.c65_genexpr.specs.Operands.{operands_of, computes, residue_of}
use Rattle.c65_genexpr.specs.Operating.{constant_form, right_form, left_form, held_form, is_light_form, word_in, operating_of, below_operand, operator_by}
use Rattle.c65_genexpr.specs.Uses.{uses}
use Rattle.c65_genexpr.specs.Code.{expr_code}
use Rattle.c65_agree_state.specs.World.{World, Active, lines_of, IsPlaced}
use Rattle.c65_agree_state.specs.Exprs.{Valued}
use Rattle.c65_agree_operate.specs.Manners.{Manner, DoesIn}
use Rattle.c65_agree_operate_bytes.specs.Laws.{IsSum, IsAside, IsReadBehind}
use Rattle.c65_agree_pointers.specs.Sums.{told, Summing, on_both}

-- by a routine: the left operand waits on the software stack, and the right one is in AX
abbrev pub StackedSumsDo : Type 0
StackedSumsDo = (g : World) (a : Active) (m : Manner) (op : BinaryOp) (f h r : Shape) (operands : Operands) (right_type : IntType) (label needs more_needs pushed : ℕ) (first second : List Item → List Item) (left right : List Line)
    → IsPlacement g.code g.place → m.light ≡ false → Summing op f h r operands
    → DoesIn g a m Valued f first needs pushed left
    → DoesIn g a m Valued h second more_needs (more pushed (waiting Ax)) right
    → DoesIn g a m Valued r (on_both op f h first second) (max needs (1 + more_needs)) pushed (operator_by Registers Stacked op operands right_type label left right)

-- a constant number of elements is added to a pointer in AX, or taken from it
abbrev pub ConstantElementsDo : Type 0
ConstantElementsDo = (g : World) (a : Active) (m : Manner) (op : BinaryOp) (size : ℕ) (t : IntType) (z : ℤ) (form : Form) (label needs more_needs pushed : ℕ) (first : List Item → List Item) (left right : List Line)
    → IsPlacement g.code g.place → IsPlaced (lines_of g a) → IsSum op → InRange t z → constant_form op (PointerFirst (told size)) (residue_of z) ≡ Some form
    → DoesIn g a m Valued (Pointer size) first needs pushed left
    → DoesIn g a m Valued (Pointer size) (on_both op (Pointer size) (Number t) first (λ k. Push (Whole z) ∷ k)) (max needs (1 + more_needs)) pushed (operator_by Registers (Left form) op (PointerFirst (told size)) t label left right)

-- the left operand is in AX, and the right one is read where it lies, also behind the lines that make bytes of elements
abbrev pub DirectRightSumsDo : Type 0
DirectRightSumsDo = (g : World) (a : Active) (m : Manner) (op : BinaryOp) (f h r : Shape) (operands : Operands) (right_type : IntType) (form : Form) (d : Direct) (low high : OperandByte) (label needs more_needs pushed : ℕ) (first second : List Item → List Item) (left right : List Line)
    → IsPlacement g.code g.place → IsPlaced (lines_of g a) → (m.light ≡ true → is_light_form form ≡ true) → Summing op f h r operands → word_in d ≡ Some (low, high) → right_form op operands low high ≡ Some form
    → DoesIn g a m Valued f first needs pushed left → IsReadBehind g a true pushed h second d
    → DoesIn g a m Valued r (on_both op f h first second) (max needs (1 + more_needs)) pushed (operator_by Registers (Left form) op operands right_type label left right)

-- the right operand is in AX, and the left one is read behind its lines
abbrev pub DirectLeftSumsDo : Type 0
DirectLeftSumsDo = (g : World) (a : Active) (m : Manner) (pure : Bool) (op : BinaryOp) (f h r : Shape) (operands : Operands) (right_type : IntType) (form : Form) (d : Direct) (low high : OperandByte) (label needs more_needs pushed : ℕ) (first second : List Item → List Item) (left right : List Line)
    → IsPlacement g.code g.place → IsPlaced (lines_of g a) → (m.light ≡ true → is_light_form form ≡ true) → Summing op f h r operands → word_in d ≡ Some (low, high) → IsAside low → IsAside high → left_form op operands low high ≡ Some form
    → (m.pure ≡ true → pure ≡ true) → IsReadBehind g a pure pushed f first d
    → DoesIn g a (record m { pure = pure }) Valued h second more_needs pushed right
    → DoesIn g a m Valued r (on_both op f h first second) (max needs (1 + more_needs)) pushed (operator_by Registers (Right form) op operands right_type label left right)

-- the left operand waits in ptr2 while the right one comes, whose lines are light
abbrev pub HeldSumsDo : Type 0
HeldSumsDo = (g : World) (a : Active) (m : Manner) (op : BinaryOp) (f h r : Shape) (operands : Operands) (right_type : IntType) (form : Form) (label needs more_needs pushed : ℕ) (first second : List Item → List Item) (left right : List Line)
    → IsPlacement g.code g.place → IsPlaced (lines_of g a) → m.light ≡ false → Summing op f h r operands → held_form op operands ≡ Some form
    → DoesIn g a m Valued f first needs pushed left
    → DoesIn g a (record m { light = true }) Valued h second more_needs pushed right
    → DoesIn g a m Valued r (on_both op f h first second) (max needs (1 + more_needs)) pushed (operator_by Registers (Held form) op operands right_type label left right)

-- ---- the lines of the generator

-- of an operator that is no comparison, whatever its operands are: they are by the form, from those of its operands
abbrev pub OperatorLinesAre : Type 0
OperatorLinesAre = (f : Framed) (pushed fresh : ℕ) (q : QTy) (op : BinaryOp) (x y : Typed) → relation_of op ≡ None
    → expr_code f pushed fresh Value (node q (binary op x y))
    ≡ operator_by Registers (operating_of f pushed op (operands_of f (bare x) (bare y)) x y) op (operands_of f (bare x) (bare y)) (kind_in y) fresh (expr_code f pushed (fresh + 1) Value x)
    (expr_code f (below_operand (operating_of f pushed op (operands_of f (bare x) (bare y)) x y) pushed (waiting (width_of (computes (operands_of f (bare x) (bare y)))))) (fresh + 1 + uses None x) Value y)

-- the lines are told the bytes of what a pointer names
abbrev pub ElementsAreTold : Type 0
ElementsAreTold = (f : Framed) (q : QTy) → target_bytes f (pointer q) ≡ told (size_of (types_of f.parts.types) (type_in q))
