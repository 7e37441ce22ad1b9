-- Sums that go to ptr1 byte by byte (C90 6.3.6).
use Rattle.std.specs.Prelude.{◌≡◌, ℕ, ◌+◌, max, Bool, true, List, Some}
use Rattle.c65_base.specs.declared.operators.BinaryOp.{BinaryOp}
use Rattle.c65_base.specs.declared.operators.BinaryOp.TheVariants.{Add}
use Rattle.c65_ints.specs.declared.types.IntType.{IntType}
use Rattle.c65_meaning.specs.Store.{Shape}
use Rattle.c65_meaning.specs.Items.{Item}
use Rattle.c65_code.specs.declared.line.Line.{Line}
use Rattle.c65_code.specs.Placement.{IsPlacement}
use Rattle.c65_genload.specs.declared.places.Place.TheVariants.{Far}
use Rattle.c65_gendirect.specs.declared.bytes.OperandByte.{OperandByte}
use Rattle.c65_gendirect.specs.declared.bytes.OperandByte.TheVariants.{Zero}
use Rattle.c65_gendirect.specs.declared.direct.Direct.{Direct}
use Rattle.c65_genexpr.specs.declared.destination.Destination.TheVariants.{Pointer}
use Rattle.c65_genexpr.specs.declared.operands.Operands.{Operands}
use Rattle.c65_genexpr.specs.declared.operating.Form.{Form}
use Rattle.c65_genexpr.specs.declared.operating.Operating.TheVariants.{Left, Right, Held}
use Rattle.c65_genexpr.specs.Operating.{right_form, left_form, held_form, word_in, operator_by}
use Rattle.c65_agree_state.specs.World.{World, Active}
use Rattle.c65_agree_state.specs.Exprs.{Valued, Does}
use Rattle.c65_agree_operate.specs.Manners.{usual, DoesIn}
use Rattle.c65_agree_operate_bytes.specs.Laws.{IsReadBehind}
use Rattle.c65_agree_pointers.specs.Sums.{Summing, on_both}
use Rattle.c65_agree_access.specs.Pointed.{TellsPointed}

-- not the low byte of ptr1, which is there before the high one is read
abbrev pub IsClear : OperandByte → Type 0
IsClear (Zero at) = at ≡ 8 → ⊥
IsClear x = Unit {0}

-- the right operand is read where it lies
abbrev pub DirectRightSumsPoint : Type 0
DirectRightSumsPoint = (g : World) (a : Active) (op : BinaryOp) (f h r : Shape) (operands : Operands) (right_type : IntType) (form : Form) (d : Direct) (low high : OperandByte) (label needs more_needs pushed : ℕ) (first second : List Item → List Item) (left right : List Line)
    → IsPlacement g.code g.place → Summing op f h r operands → op ≡ Add → word_in d ≡ Some (low, high) → IsClear high → right_form op operands low high ≡ Some form
    → Does g a Valued f first needs pushed left → IsReadBehind g a true pushed h second d
    → TellsPointed g a (on_both op f h first second) (max needs (1 + more_needs)) pushed (Far 0) (operator_by Pointer (Left form) op operands right_type label left right)

-- so is the left one, behind the lines of the right one
abbrev pub DirectLeftSumsPoint : Type 0
DirectLeftSumsPoint = (g : World) (a : Active) (pure : Bool) (op : BinaryOp) (f h r : Shape) (operands : Operands) (right_type : IntType) (form : Form) (d : Direct) (low high : OperandByte) (label needs more_needs pushed : ℕ) (first second : List Item → List Item) (left right : List Line)
    → IsPlacement g.code g.place → Summing op f h r operands → op ≡ Add → word_in d ≡ Some (low, high) → IsClear high → left_form op operands low high ≡ Some form
    → IsReadBehind g a pure pushed f first d → DoesIn g a (record usual { pure = pure }) Valued h second more_needs pushed right
    → TellsPointed g a (on_both op f h first second) (max needs (1 + more_needs)) pushed (Far 0) (operator_by Pointer (Right form) op operands right_type label left right)

-- the left operand waits in ptr2 while the right one comes
abbrev pub HeldSumsPoint : Type 0
HeldSumsPoint = (g : World) (a : Active) (op : BinaryOp) (f h r : Shape) (operands : Operands) (right_type : IntType) (form : Form) (label needs more_needs pushed : ℕ) (first second : List Item → List Item) (left right : List Line)
    → IsPlacement g.code g.place → Summing op f h r operands → op ≡ Add → held_form op operands ≡ Some form
    → Does g a Valued f first needs pushed left → DoesIn g a (record usual { light = true }) Valued h second more_needs pushed right
    → TellsPointed g a (on_both op f h first second) (max needs (1 + more_needs)) pushed (Far 0) (operator_by Pointer (Held form) op operands right_type label left right)
