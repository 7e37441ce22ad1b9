-- Operators that have pointers as operands and give no order of them (C90 6.3.6).
use Rattle.std.specs.Prelude.{ℕ, nat_lt, if◌then◌else◌, List, ◌∷◌}
use Rattle.c65_base.specs.declared.operators.BinaryOp.{BinaryOp}
use Rattle.c65_base.specs.declared.operators.BinaryOp.TheVariants.{Add, Sub}
use Rattle.c65_ints.specs.declared.types.IntType.{IntType}
use Rattle.c65_ints.specs.declared.types.IntType.TheVariants.{Int}
use Rattle.c65_meaning.specs.Store.{Shape, Number, Pointer}
use Rattle.c65_meaning.specs.Items.{Item, Apply2}
use Rattle.c65_genexpr.specs.declared.operands.Operands.{Operands}
use Rattle.c65_genexpr.specs.declared.operands.Operands.TheVariants.{PointerFirst, PointerLast, Pointers}
use Rattle.c65_agree_operate_bytes.specs.Laws.{IsSum}

-- the bytes of an element as lines are told them: an element of more than 65,535 bytes is told as of none
abbrev pub told : ℕ → ℕ
told size = if nat_lt size 65536 then size else 0

-- by the shapes of the operands, and of what the operator gives
pub data Summing : BinaryOp → Shape → Shape → Shape → Operands → Type 0 where
  pointer_first : {op : BinaryOp} (size : ℕ) (t : IntType) → IsSum op → Summing op (Pointer size) (Number t) (Pointer size) (PointerFirst (told size))
  pointer_last : (size : ℕ) (t : IntType) → Summing Add (Number t) (Pointer size) (Pointer size) (PointerLast (told size))
  pointers : (size other : ℕ) → Summing Sub (Pointer size) (Pointer other) (Number Int) (Pointers (told size))

-- the work of an operator on two values, from that of its operands
abbrev pub on_both : BinaryOp → Shape → Shape → (List Item → List Item) → (List Item → List Item) → List Item → List Item
on_both op f h first second k = first (second (Apply2 op f h ∷ k))
