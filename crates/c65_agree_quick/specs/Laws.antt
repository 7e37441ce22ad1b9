-- What the lines of operators with a constant do that are shifts and masks (C90 6.3.5, 6.3.7, 6.3.10 to 6.3.12).
use Rattle.std.specs.Prelude.{◌≡◌, ℕ, ◌+◌, ◌*◌, ◌%◌, ◌<◌, ◌≤◌, max, true, false, ℤ, List, ◌∷◌, Some, None}
use Rattle.c65_base.specs.declared.operators.BinaryOp.{BinaryOp}
use Rattle.c65_base.specs.declared.operators.BinaryOp.TheVariants.{Mul, Div, Rem, BitAnd, BitXor, BitOr}
use Rattle.c65_ints.specs.declared.types.IntType.{IntType}
use Rattle.c65_ints.specs.Ranges.{InRange}
use Rattle.c65_csem.specs.Places.{is_promoted}
use Rattle.c65_meaning.specs.Store.{Whole, Number}
use Rattle.c65_meaning.specs.Items.{Item, Push, Apply2}
use Rattle.c65_meaning.specs.State.{Scene, soft_sum}
use Rattle.c65_code.specs.declared.line.Line.{Line}
use Rattle.c65_code.specs.declared.routine.Width.{Width}
use Rattle.c65_code.specs.declared.routine.Width.TheVariants.{Ax}
use Rattle.c65_code.specs.LineState.{State, sp_of, ax_of}
use Rattle.c65_code.specs.Placement.{IsPlacement, stack_end}
use Rattle.c65_code.specs.Rows.{primary_of}
use Rattle.c65_genshift.specs.Quick.{elements_code}
use Rattle.c65_genexpr.specs.declared.destination.Destination.TheVariants.{Registers}
use Rattle.c65_genexpr.specs.declared.operands.Operands.TheVariants.{Numbers}
use Rattle.c65_genexpr.specs.declared.operating.Form.{Form}
use Rattle.c65_genexpr.specs.declared.operating.Operating.TheVariants.{Left}
use Rattle.c65_genexpr.specs.Operands.{residue_of}
use Rattle.c65_genexpr.specs.Operating.{number_form, operator_by}
use Rattle.c65_ctype.specs.Trees.{int, QTy}
use Rattle.c65_csem.specs.Trees.{Typed, node, constant, binary}
use Rattle.c65_genframe.specs.Frames.{Framed}
use Rattle.c65_gendirect.specs.Compare.{relation_of}
use Rattle.c65_genexpr.specs.declared.wanted.Wanted.TheVariants.{Value}
use Rattle.c65_genexpr.specs.Types.{bare}
use Rattle.c65_genexpr.specs.Uses.{uses}
use Rattle.c65_genexpr.specs.Code.{expr_code}
use Rattle.c65_agree_store.specs.Stands.{Placing, Banks}
use Rattle.c65_agree_numbers.specs.Words.{is_shift}
use Rattle.c65_agree_state.specs.World.{World, Active, lines_of, IsPlaced}
use Rattle.c65_agree_state.specs.Exprs.{Ready, Kept, Valued}
use Rattle.c65_agree_frame.specs.Leads.{Leads}
use Rattle.c65_agree_operate.specs.Manners.{Manner, DoesIn}

-- the work of an operator on a number and a constant, each of its own type
abbrev pub with_constant : BinaryOp → IntType → IntType → ℤ → (List Item → List Item) → List Item → List Item
with_constant op t r z first k = first (Push (Whole z) ∷ Apply2 op (Number t) (Number r) ∷ k)

-- shifts by a constant of any type, of words and of long words
abbrev pub ConstantShiftsDo : Type 0
ConstantShiftsDo = (g : World) (a : Active) (m : Manner) (op : BinaryOp) (t r : IntType) (z : ℤ) (form : Form) (label needs more_needs pushed : ℕ) (first : List Item → List Item) (left right : List Line)
    → IsPlacement g.code g.place → IsPlaced (lines_of g a) → m.light ≡ false → m.over ≤ 1000 → is_shift op ≡ true → is_promoted t ≡ true → InRange r z → number_form op t (residue_of z) ≡ Some form
    → DoesIn g a m Valued (Number t) first needs pushed left
    → DoesIn g a m Valued (Number t) (with_constant op t r z first) (max needs (1 + more_needs)) pushed (operator_by Registers (Left form) op (Numbers t) r label left right)

abbrev pub IsBits : BinaryOp → Type 0
IsBits BitAnd = Unit {0}
IsBits BitXor = Unit {0}
IsBits BitOr = Unit {0}
IsBits _ = ⊥

-- `&`, `^` and `|` of a long word and a constant
abbrev pub ConstantBitsDo : Type 0
ConstantBitsDo = (g : World) (a : Active) (m : Manner) (op : BinaryOp) (t : IntType) (z : ℤ) (form : Form) (label needs more_needs pushed : ℕ) (first : List Item → List Item) (left right : List Line)
    → IsPlacement g.code g.place → m.light ≡ false → m.over ≤ 1000 → IsBits op → is_promoted t ≡ true → InRange t z → number_form op t (residue_of z) ≡ Some form
    → DoesIn g a m Valued (Number t) first needs pushed left
    → DoesIn g a m Valued (Number t) (with_constant op t t z first) (max needs (1 + more_needs)) pushed (operator_by Registers (Left form) op (Numbers t) t label left right)

abbrev pub IsProduct : BinaryOp → Type 0
IsProduct Mul = Unit {0}
IsProduct Div = Unit {0}
IsProduct Rem = Unit {0}
IsProduct _ = ⊥

-- products with a power of two, and quotients and remainders by one of numbers without sign, of words and of long words
abbrev pub ConstantProductsDo : Type 0
ConstantProductsDo = (g : World) (a : Active) (m : Manner) (op : BinaryOp) (t : IntType) (z : ℤ) (form : Form) (label needs more_needs pushed : ℕ) (first : List Item → List Item) (left right : List Line)
    → IsPlacement g.code g.place → IsPlaced (lines_of g a) → m.light ≡ false → m.over ≤ 1000 → IsProduct op → is_promoted t ≡ true → InRange t z → number_form op t (residue_of z) ≡ Some form
    → DoesIn g a m Valued (Number t) first needs pushed left
    → DoesIn g a m Valued (Number t) (with_constant op t t z first) (max needs (1 + more_needs)) pushed (operator_by Registers (Left form) op (Numbers t) t label left right)

-- ---- elements

-- all is kept, and the primary register has a word
pub record IsNow (g : World) (a : Active) (c : Scene) (w : Placing) (b : Banks) (width : Width) (n : ℕ) (t u : State) : Type 0 where
  pub kept : Kept g a c w b t c w b u
  pub word : primary_of width u ≡ n

-- two bytes more than so many values may wait
abbrev pub HasTwo : Active → ℕ → Scene → State → Type 0
HasTwo a needs c t = stack_end + 8 * needs + 2 + a.spare ≤ sp_of t + soft_sum c.frames

-- a number of elements in AX becomes the number of their bytes
abbrev pub ElementsAreScaled : Type 0
ElementsAreScaled = (g : World) (a : Active) (pushed needs size : ℕ) (c : Scene) (w : Placing) (b : Banks) (t : State)
    → IsPlacement g.code g.place → size < 65536 → Ready g a pushed needs c w b t → HasTwo a needs c t → Leads g a (elements_code size) 2306 t (IsNow g a c w b Ax ((ax_of t * size) % 65536) t)

-- ---- the lines of the generator

-- of an operator on a number and a constant that has a form
abbrev pub ConstantLinesAre : Type 0
ConstantLinesAre = (f : Framed) (pushed fresh : ℕ) (q y : QTy) (op : BinaryOp) (x : Typed) (z : ℤ) (t r : IntType) (form : Form) → relation_of op ≡ None → bare x ≡ int t → bare (node y (constant z)) ≡ int r → number_form op t (residue_of z) ≡ Some form
    → expr_code f pushed fresh Value (node q (binary op x (node y (constant z)))) ≡ operator_by Registers (Left form) op (Numbers t) r fresh (expr_code f pushed (fresh + 1) Value x) (expr_code f pushed (fresh + 1 + uses None x) Value (node y (constant z)))
