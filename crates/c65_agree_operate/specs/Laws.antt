-- What the lines of an operator on numbers do, where those of its operands do the work of these (C90 6.3.3 to 6.3.12).
use Rattle.std.specs.Prelude.{◌≡◌, ℕ, ◌+◌, ◌≤◌, max, Bool, true, false, not, List, [], ◌∷◌, ◌++◌, None}
use Rattle.c65_base.specs.declared.operators.UnaryOp.{UnaryOp}
use Rattle.c65_base.specs.declared.operators.UnaryOp.TheVariants.{Neg, BitNot, Not}
use Rattle.c65_base.specs.declared.operators.BinaryOp.{BinaryOp}
use Rattle.c65_ints.specs.declared.types.IntType.{IntType}
use Rattle.c65_ints.specs.declared.types.IntType.TheVariants.{Int}
use Rattle.c65_ctype.specs.Trees.{void, int, QTy, type_in}
use Rattle.c65_csem.specs.Trees.{Typed, node, convert, unary, binary}
use Rattle.c65_csem.specs.Places.{is_promoted, is_scalar}
use Rattle.c65_meaning.specs.Store.{Shape, Number, Area}
use Rattle.c65_meaning.specs.Items.{Item, Change, Apply1, Apply2}
use Rattle.c65_code.specs.declared.line.Line.{Line}
use Rattle.c65_code.specs.Placement.{IsPlacement}
use Rattle.c65_genwide.specs.Wide.{width_of, is_comparison}
use Rattle.c65_genload.specs.Conversions.{convert_code, waiting}
use Rattle.c65_gendirect.specs.Tests.{truth_code}
use Rattle.c65_genframe.specs.Frames.{Framed}
use Rattle.c65_gendirect.specs.Compare.{relation_of}
use Rattle.c65_genexpr.specs.declared.wanted.Wanted.TheVariants.{Value, Test}
use Rattle.c65_genexpr.specs.Types as types
use Rattle.c65_genexpr.specs.Types.{kind_of, bare}
use Rattle.c65_genexpr.specs.Uses.{uses}
use Rattle.c65_genexpr.specs.Code.{expr_code}
use Rattle.c65_genexpr.specs.declared.destination.Destination.TheVariants.{Registers}
use Rattle.c65_genexpr.specs.declared.operands.Operands.TheVariants.{Numbers}
use Rattle.c65_genexpr.specs.declared.operating.Operating.TheVariants.{Stacked}
use Rattle.c65_genexpr.specs.Operands.{unary_code}
use Rattle.c65_genexpr.specs.Places.{more}
use Rattle.c65_genexpr.specs.Operating.{operating_of, below_operand, is_light_to, operator_by}
use Rattle.c65_agree_numbers.specs.Words.{is_shift}
use Rattle.c65_agree_state.specs.World.{World, Active, lines_of, IsPlaced}
use Rattle.c65_agree_state.specs.Exprs.{Yield, Valued, Does}
use Rattle.c65_agree_put.specs.Laws.{IsScalar}
use Rattle.c65_agree_assign.specs.Places.{kind_in}
use Rattle.c65_agree_operate.specs.Manners.{Manner, usual, DoesIn, TestsIn, DecidesIn}

-- ---- manners

-- lines that do their work in some manner do it
abbrev pub MannersDo : Type 0
MannersDo = (g : World) (a : Active) (m : Manner) (yield : Yield) (shape : Shape) (work : List Item → List Item) (needs pushed : ℕ) (lines : List Line)
    → DoesIn g a m yield shape work needs pushed lines → Does g a yield shape work needs pushed lines

abbrev pub UsuallyDo : Type 0
UsuallyDo = (g : World) (a : Active) (yield : Yield) (shape : Shape) (work : List Item → List Item) (needs pushed : ℕ) (lines : List Line)
    → Does g a yield shape work needs pushed lines → DoesIn g a usual yield shape work needs pushed lines

-- ---- binary operators

-- the work of an operator on two numbers, from that of its operands
abbrev pub on_numbers : BinaryOp → IntType → IntType → (List Item → List Item) → (List Item → List Item) → List Item → List Item
on_numbers op t r first second k = first (second (Apply2 op (Number t) (Number r) ∷ k))

-- the right operand has the type of the left one, but for the count of a shift
abbrev pub AreOperands : BinaryOp → IntType → IntType → Type 0
AreOperands op t r = (is_promoted t ≡ true) × (is_shift op ≡ false → r ≡ t)

-- by a routine: the left operand waits on the software stack, and the right one is in the primary register
abbrev pub StackedOperatorsDo : Type 0
StackedOperatorsDo = (g : World) (a : Active) (m : Manner) (op : BinaryOp) (t r : IntType) (label needs more_needs pushed : ℕ) (first second : List Item → List Item) (left right : List Line)
    → IsPlacement g.code g.place → m.light ≡ false → m.over ≤ 1000 → is_comparison op ≡ false → AreOperands op t r
    → DoesIn g a m Valued (Number t) first needs pushed left
    → DoesIn g a m Valued (Number r) second more_needs (more pushed (waiting (width_of t))) right
    → DoesIn g a m Valued (Number t) (on_numbers op t r first second) (max needs (1 + more_needs)) pushed (operator_by Registers Stacked op (Numbers t) r label left right)

-- ---- unary operators

-- `-` and `~` (C90 6.3.3.3)
abbrev pub IsOpposite : UnaryOp → Type 0
IsOpposite Neg = Unit {0}
IsOpposite BitNot = Unit {0}
IsOpposite _ = ⊥

abbrev pub OppositesDo : Type 0
OppositesDo = (g : World) (a : Active) (m : Manner) (op : UnaryOp) (t : IntType) (needs pushed : ℕ) (work : List Item → List Item) (lines : List Line)
    → IsPlacement g.code g.place → m.light ≡ false → m.over ≤ 1000 → IsOpposite op → is_promoted t ≡ true
    → DoesIn g a m Valued (Number t) work needs pushed lines
    → DoesIn g a m Valued (Number t) (λ k. work (Apply1 op (Number t) ∷ k)) needs pushed (lines ++ unary_code op (width_of t))

-- ---- conversions

-- between numbers and pointers, behind the lines of the value (C90 6.2.1, 6.3.4)
abbrev pub ConversionsDo : Type 0
ConversionsDo = (g : World) (a : Active) (m : Manner) (f h : Shape) (needs pushed : ℕ) (work : List Item → List Item) (lines : List Line)
    → IsPlacement g.code g.place → m.over ≤ 1000 → IsScalar f → IsScalar h → (m.light ≡ true → is_light_to (width_of (kind_in h)) (kind_in f) (kind_in h) ≡ true)
    → DoesIn g a m Valued f work needs pushed lines
    → DoesIn g a m Valued h (λ k. work (Change h ∷ k)) needs pushed (lines ++ convert_code (kind_in f) (kind_in h))

-- to void, which takes no lines
abbrev pub DiscardsDo : Type 0
DiscardsDo = (g : World) (a : Active) (m : Manner) (yield : Yield) (f : Shape) (size needs pushed : ℕ) (work : List Item → List Item) (lines : List Line)
    → m.over ≤ 1000 → DoesIn g a m yield f work needs pushed lines → DoesIn g a m Valued (Area size) (λ k. work (Change (Area size) ∷ k)) needs pushed (lines ++ [])

-- ---- truth (C90 6.3.3.3)

-- lines that decide test
abbrev pub DecisionsTest : Type 0
DecisionsTest = (g : World) (a : Active) (m : Manner) (s : Bool) (to needs pushed : ℕ) (work : List Item → List Item) (lines : List Line)
    → DecidesIn g a m s to work needs pushed lines → TestsIn g a m (Number Int) s to work needs pushed lines

-- a test of `!` is one of the other sense
abbrev pub NotsDecide : Type 0
NotsDecide = (g : World) (a : Active) (m : Manner) (f : Shape) (s : Bool) (to needs pushed : ℕ) (work : List Item → List Item) (lines : List Line)
    → IsPlacement g.code g.place → m.over ≤ 1000
    → TestsIn g a m f (not s) to work needs pushed lines → DecidesIn g a m s to (λ k. work (Apply1 Not f ∷ k)) needs pushed lines

-- the value of a test: AX is 1, or 0 where the lines have gone to the first of two labels
abbrev pub TruthsDo : Type 0
TruthsDo = (g : World) (a : Active) (m : Manner) (fresh needs pushed : ℕ) (work : List Item → List Item) (lines : List Line)
    → IsPlacement g.code g.place → IsPlaced (lines_of g a)
    → DecidesIn g a m false fresh work needs pushed lines → DoesIn g a m Valued (Number Int) work needs pushed (lines ++ truth_code fresh)

-- ---- the lines of the generator

-- of an operator on numbers that is no comparison: they are by the form, from those of its operands
abbrev pub NumberLinesAre : Type 0
NumberLinesAre = (f : Framed) (pushed fresh : ℕ) (q : QTy) (op : BinaryOp) (x y : Typed) (t r : IntType) → relation_of op ≡ None → bare x ≡ int t → bare y ≡ int r
    → expr_code f pushed fresh Value (node q (binary op x y))
    ≡ operator_by Registers (operating_of f pushed op (Numbers t) x y) op (Numbers t) r fresh (expr_code f pushed (fresh + 1) Value x)
    (expr_code f (below_operand (operating_of f pushed op (Numbers t) x y) pushed (waiting (width_of t))) (fresh + 1 + uses None x) Value y)

abbrev pub OppositeLinesAre : Type 0
OppositeLinesAre = (f : Framed) (pushed fresh : ℕ) (q : QTy) (op : UnaryOp) (e : Typed) → IsOpposite op → expr_code f pushed fresh Value (node q (unary op e)) ≡ expr_code f pushed fresh Value e ++ unary_code op (width_of (types.kind_in e))

-- the value of `!`, and a test of it
abbrev pub NotLinesAre : Type 0
NotLinesAre = (f : Framed) (pushed fresh to : ℕ) (s : Bool) (q : QTy) (e : Typed) → (expr_code f pushed fresh Value (node q (unary Not e)) ≡ expr_code f pushed (fresh + 2) (Test fresh true) e ++ truth_code fresh)
    × (expr_code f pushed fresh (Test to s) (node q (unary Not e)) ≡ expr_code f pushed (fresh + 0) (Test to (not s)) e)

-- to a number or a pointer, and to void
abbrev pub ConversionLinesAre : Type 0
ConversionLinesAre = (f : Framed) (pushed fresh : ℕ) (q : QTy) (e : Typed) → (is_scalar (type_in q) ≡ true → expr_code f pushed fresh Value (node q (convert e)) ≡ expr_code f pushed fresh Value e ++ convert_code (types.kind_in e) (kind_of (type_in q)))
    × (type_in q ≡ void → expr_code f pushed fresh Value (node q (convert e)) ≡ expr_code f pushed fresh Value e ++ [])
