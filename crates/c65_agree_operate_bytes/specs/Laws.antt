-- What the lines of operators on words do that are worked on byte by byte (C90 6.3.6, 6.3.10 to 6.3.12).
use Rattle.std.specs.Prelude.{◌≡◌, ℕ, ◌+◌, ◌<◌, ◌≤◌, max, Bool, true, false, ℤ, List, ◌∷◌, Some}
use Rattle.c65_base.specs.declared.operators.BinaryOp.{BinaryOp}
use Rattle.c65_base.specs.declared.operators.BinaryOp.TheVariants.{Add, Sub}
use Rattle.c65_ints.specs.declared.types.IntType.{IntType}
use Rattle.c65_ints.specs.Ranges.{InRange}
use Rattle.c65_csem.specs.Trees.{Typed}
use Rattle.c65_csem.specs.Places.{is_promoted}
use Rattle.c65_csem.specs.Typed.{IsTyped}
use Rattle.c65_meaning.specs.Store.{Value, Whole, Shape, Number}
use Rattle.c65_meaning.specs.Items.{Item, Push, Apply2, plan}
use Rattle.c65_meaning.specs.Fits.{Fits}
use Rattle.c65_meaning.specs.State.{Scene, Running}
use Rattle.c65_code.specs.declared.line.Line.{Line}
use Rattle.c65_code.specs.declared.routine.Width.TheVariants.{Ax}
use Rattle.c65_code.specs.Placement.{IsPlacement}
use Rattle.c65_code.specs.LineState.{Place as Spot, State}
use Rattle.c65_code.specs.Comes.{Seen}
use Rattle.c65_genwide.specs.Wide.{width_of}
use Rattle.c65_gendirect.specs.declared.bytes.OperandByte.{OperandByte}
use Rattle.c65_gendirect.specs.declared.bytes.OperandByte.TheVariants.{Zero}
use Rattle.c65_gendirect.specs.declared.direct.Direct.{Direct}
use Rattle.c65_genexpr.specs.declared.destination.Destination.TheVariants.{Registers}
use Rattle.c65_genexpr.specs.declared.operands.Operands.TheVariants.{Numbers}
use Rattle.c65_genexpr.specs.declared.operating.Form.{Form}
use Rattle.c65_genexpr.specs.declared.operating.Form.TheVariants.{Word}
use Rattle.c65_genexpr.specs.declared.operating.Operating.TheVariants.{Left, Right, Held}
use Rattle.c65_genexpr.specs.Direct.{direct_of, is_fixed}
use Rattle.c65_genexpr.specs.Operands.{residue_of}
use Rattle.c65_genexpr.specs.Operating.{left_form, held_form, number_form, word_in, takes_bytes, operator_by}
use Rattle.c65_agree_store.specs.Stands.{Placing, Banks, Grows}
use Rattle.c65_agree_state.specs.World.{World, unit_in, Active, lines_of, IsPlaced, HasTurns}
use Rattle.c65_agree_state.specs.Follows.{Follows}
use Rattle.c65_agree_state.specs.Exprs.{Ready, Valued, width_in, shape_in}
use Rattle.c65_agree_direct.specs.Operands.{HasBytes}
use Rattle.c65_agree_direct.specs.Laws.{IsFrameOf, IsReadInPlace}
use Rattle.c65_agree_operate.specs.Manners.{Manner, Where, DoesIn}
use Rattle.c65_agree_operate.specs.Laws.{on_numbers}

-- ---- the right operand is read where it lies

-- AX and a word whose bytes are read where they lie, by bytes: sums, differences and operators on bits
abbrev pub DirectRightsDo : Type 0
DirectRightsDo = (g : World) (a : Active) (m : Manner) (op : BinaryOp) (t : IntType) (label needs more_needs pushed : ℕ) (d : Direct) (low high : OperandByte) (first second : List Item → List Item) (left right : List Line)
    → IsPlacement g.code g.place → IsPlaced (lines_of g a) → m.over ≤ 1000 → takes_bytes op ≡ true → is_promoted t ≡ true → width_of t ≡ Ax → word_in d ≡ Some (low, high)
    → DoesIn g a m Valued (Number t) first needs pushed left → IsReadInPlace g a pushed (Number t) second d
    → DoesIn g a m Valued (Number t) (on_numbers op t t first second) (max needs (1 + more_needs)) pushed (operator_by Registers (Left (Word op low high)) op (Numbers t) t label left right)

-- ---- a constant on the right

abbrev pub IsSum : BinaryOp → Type 0
IsSum Add = Unit {0}
IsSum Sub = Unit {0}
IsSum _ = ⊥

-- the work of an operator on a number and a constant
abbrev pub on_constant : BinaryOp → IntType → ℤ → (List Item → List Item) → List Item → List Item
on_constant op t z first k = first (Push (Whole z) ∷ Apply2 op (Number t) (Number t) ∷ k)

-- sums and differences, of words and of long words
abbrev pub ConstantSumsDo : Type 0
ConstantSumsDo = (g : World) (a : Active) (m : Manner) (op : BinaryOp) (t : IntType) (z : ℤ) (form : Form) (label needs more_needs pushed : ℕ) (first : List Item → List Item) (left right : List Line)
    → IsPlacement g.code g.place → IsPlaced (lines_of g a) → m.over ≤ 1000 → IsSum op → is_promoted t ≡ true → InRange t z → number_form op t (residue_of z) ≡ Some form
    → DoesIn g a m Valued (Number t) first needs pushed left
    → DoesIn g a m Valued (Number t) (on_constant op t z first) (max needs (1 + more_needs)) pushed (operator_by Registers (Left form) op (Numbers t) t label left right)

-- ---- the left operand is read, or waits in ptr2

-- not one of the scratch bytes in which AX waits where it is taken from a word
abbrev pub IsAside : OperandByte → Type 0
IsAside (Zero at) = (at ≡ 16 → ⊥) × (at ≡ 17 → ⊥)
IsAside x = Unit {0}

-- The work of a tree takes no lines, and its value is read there behind the lines of another one too; where that is pure, in the same scene.
abbrev pub IsReadBehind : World → Active → Bool → ℕ → Shape → (List Item → List Item) → Direct → Type 0
IsReadBehind g a pure pushed f work d = (needs n weight : ℕ) (k : List Item) (vs : List Value) (c : Scene) (w : Placing) (b : Banks) (p : Spot) (t : State) (seen : Seen)
    → Ready g a pushed needs c w b t → HasTurns g c.turns p seen
    → ((j : ℕ) (v : Value) → j < n → Fits f v → ((more_needs : ℕ) (c2 : Scene) (w2 : Placing) (b2 : Banks) (u : State) → Where pure (c2 ≡ c) → Grows w w2 → Ready g a pushed more_needs c2 w2 b2 u → HasBytes g c2.store w2 u (width_in f) d v)
    → Follows g j (weight + 4000) (Running k (v ∷ vs) c) p t seen)
    → Follows g n weight (Running (work k) vs c) p t seen

-- constants and addresses are the same in each state
abbrev pub FixedAreReadBehind : Type 0
FixedAreReadBehind = (g : World) (a : Active) (pushed : ℕ) (t : IntType) (work : List Item → List Item) (d : Direct)
    → is_fixed (Some d) ≡ true → IsReadInPlace g a pushed (Number t) work d → IsReadBehind g a false pushed (Number t) work d

-- what is kept at a known place is read behind lines that leave the scene
abbrev pub TreesAreReadBehind : Type 0
TreesAreReadBehind = (g : World) (a : Active) (pushed : ℕ) (e : Typed) (d : Direct) → IsPlacement g.code g.place → IsFrameOf g a → IsTyped (unit_in g) e → direct_of a.frame pushed e ≡ Some d
    → IsReadBehind g a true pushed (shape_in g a e) (plan (unit_in g) e) d

-- the left operand is read behind the lines of the right one
abbrev pub DirectLeftsDo : Type 0
DirectLeftsDo = (g : World) (a : Active) (m : Manner) (pure : Bool) (op : BinaryOp) (t : IntType) (label needs more_needs pushed : ℕ) (d : Direct) (low high : OperandByte) (form : Form) (first second : List Item → List Item) (left right : List Line)
    → IsPlacement g.code g.place → IsPlaced (lines_of g a) → m.over ≤ 1000 → is_promoted t ≡ true → word_in d ≡ Some (low, high) → IsAside low → IsAside high → left_form op (Numbers t) low high ≡ Some form
    → (m.pure ≡ true → pure ≡ true) → IsReadBehind g a pure pushed (Number t) first d
    → DoesIn g a (record m { pure = pure }) Valued (Number t) second more_needs pushed right
    → DoesIn g a m Valued (Number t) (on_numbers op t t first second) (max needs (1 + more_needs)) pushed (operator_by Registers (Right form) op (Numbers t) t label left right)

-- the left operand waits in ptr2 while the right one comes, whose lines are light
abbrev pub HeldOperatorsDo : Type 0
HeldOperatorsDo = (g : World) (a : Active) (m : Manner) (op : BinaryOp) (t : IntType) (label needs more_needs pushed : ℕ) (form : Form) (first second : List Item → List Item) (left right : List Line)
    → IsPlacement g.code g.place → IsPlaced (lines_of g a) → m.light ≡ false → m.over ≤ 1000 → is_promoted t ≡ true → held_form op (Numbers t) ≡ Some form
    → DoesIn g a m Valued (Number t) first needs pushed left
    → DoesIn g a (record m { light = true }) Valued (Number t) second more_needs pushed right
    → DoesIn g a m Valued (Number t) (on_numbers op t t first second) (max needs (1 + more_needs)) pushed (operator_by Registers (Held form) op (Numbers t) t label left right)
