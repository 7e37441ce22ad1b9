-- What the lines of tests do, where those of their parts do the work of these (C90 6.3.3.3, 6.3.8, 6.3.9, 6.3.13 to 6.3.15, 6.3.17).
use Rattle.std.specs.Prelude.{◌≡◌, ℕ, ◌+◌, ◌≤◌, max, Bool, true, false, not, pos, List, [], ◌∷◌, ◌++◌, Some, None}
use Rattle.c65_base.specs.declared.operators.UnaryOp.TheVariants.{Not}
use Rattle.c65_base.specs.declared.operators.BinaryOp.{BinaryOp}
use Rattle.c65_ints.specs.declared.types.IntType.{IntType}
use Rattle.c65_ints.specs.declared.types.IntType.TheVariants.{Int}
use Rattle.c65_ints.specs.Ranges.{is_signed_of}
use Rattle.c65_ctype.specs.Trees.{QTy}
use Rattle.c65_csem.specs.Trees.{Typed, node, binary, both, either, choice, comma}
use Rattle.c65_csem.specs.Places.{is_promoted}
use Rattle.c65_mach.specs.declared.rows.Op.TheVariants.{Jmp}
use Rattle.c65_mach.specs.declared.rows.Mode.TheVariants.{Absolute}
use Rattle.c65_meaning.specs.Store as values
use Rattle.c65_meaning.specs.Store.{Null, Shape, Number, Pointer, Area}
use Rattle.c65_meaning.specs.Items.{Item, Push, Apply1, Apply2, Both, Either, Choose, Drop, plan}
use Rattle.c65_code.specs.declared.line.Operand.TheVariants.{To}
use Rattle.c65_code.specs.declared.line.Line.{Line}
use Rattle.c65_code.specs.declared.line.Line.TheVariants.{Label, Do}
use Rattle.c65_code.specs.Placement.{IsPlacement}
use Rattle.c65_genwide.specs.Wide.{width_of, is_comparison}
use Rattle.c65_genload.specs.Conversions.{waiting}
use Rattle.c65_genframe.specs.Frames.{Framed}
use Rattle.c65_code.specs.declared.routine.Width.TheVariants.{Ax}
use Rattle.c65_gendirect.specs.declared.bytes.OperandByte.{OperandByte}
use Rattle.c65_gendirect.specs.declared.direct.Direct.{Direct}
use Rattle.c65_gendirect.specs.declared.compare.Sides.TheVariants.{Word}
use Rattle.c65_gendirect.specs.declared.relation.Relation.{Relation}
use Rattle.c65_gendirect.specs.declared.relation.Relation.TheVariants.{Equal, Unequal}
use Rattle.c65_gendirect.specs.Compare.{relation_of}
use Rattle.c65_gendirect.specs.Tests.{truth_code}
use Rattle.c65_genexpr.specs.declared.wanted.Wanted.{Wanted}
use Rattle.c65_genexpr.specs.declared.wanted.Wanted.TheVariants.{Value, Test}
use Rattle.c65_genexpr.specs.declared.comparing.Side.TheVariants.{Left, Right}
use Rattle.c65_genexpr.specs.declared.comparing.Comparing.TheVariants.{Truth, Whole, Stacked}
use Rattle.c65_genexpr.specs.declared.operands.Operands.{Operands}
use Rattle.c65_genexpr.specs.declared.operands.Operands.TheVariants.{Numbers}
use Rattle.c65_genexpr.specs.Direct.{sides_of}
use Rattle.c65_genexpr.specs.Places.{more}
use Rattle.c65_genexpr.specs.Comparing.{relation_by, zero_sense, comparison_by}
use Rattle.c65_genexpr.specs.Uses.{uses}
use Rattle.c65_genexpr.specs.Wanted.{value_test_code, is_straight, way, joined}
use Rattle.c65_genexpr.specs.Code.{width_in as width_of_tree, expr_code, comparison_code, joint_code}
use Rattle.c65_agree_state.specs.World.{World, unit_in, Active, lines_of, IsPlaced}
use Rattle.c65_agree_state.specs.Exprs.{Yield, Valued, Placed, Tests, width_in}
use Rattle.c65_agree_put.specs.Laws.{IsScalar}
use Rattle.c65_agree_direct.specs.Laws.{IsReadInPlace}
use Rattle.c65_agree_operate.specs.Manners.{Manner, usual, DoesIn, TestsIn, DecidesIn}
use Rattle.c65_agree_operate.specs.Laws.{on_numbers}
use Rattle.c65_agree_compare.specs.Branches.{BranchesIn, SettlesIn}

-- ---- tests

abbrev pub BranchesTest : Type 0
BranchesTest = (g : World) (a : Active) (m : Manner) (f : Shape) (s : Bool) (to needs pushed : ℕ) (work : List Item → List Item) (lines : List Line)
    → BranchesIn g a m f s to work needs pushed lines → TestsIn g a m f s to work needs pushed lines

abbrev pub SettlementsDecide : Type 0
SettlementsDecide = (g : World) (a : Active) (m : Manner) (s : Bool) (to needs pushed : ℕ) (work : List Item → List Item) (lines : List Line)
    → SettlesIn g a m s to work needs pushed lines → DecidesIn g a m s to work needs pushed lines

abbrev pub SettlementsBranch : Type 0
SettlementsBranch = (g : World) (a : Active) (m : Manner) (s : Bool) (to needs pushed : ℕ) (work : List Item → List Item) (lines : List Line)
    → SettlesIn g a m s to work needs pushed lines → BranchesIn g a m (Number Int) s to work needs pushed lines

-- in any manner they test, and what tests does so in the usual one
abbrev pub BranchesAreTests : Type 0
BranchesAreTests = (g : World) (a : Active) (m : Manner) (f : Shape) (s : Bool) (to needs pushed : ℕ) (work : List Item → List Item) (lines : List Line)
    → (BranchesIn g a m f s to work needs pushed lines → Tests g a f s to work needs pushed lines)
    × (Tests g a f s to work needs pushed lines → BranchesIn g a usual f s to work needs pushed lines)

-- a value in its register is tested by all its bytes, which takes a weight of 6
abbrev pub ValuesAreTested : Type 0
ValuesAreTested = (g : World) (a : Active) (m : Manner) (more : ℕ) (f : Shape) (s : Bool) (to needs pushed : ℕ) (work : List Item → List Item) (lines : List Line)
    → IsPlacement g.code g.place → IsScalar f → m.over + 6 ≤ more
    → DoesIn g a (record m { over = more }) Valued f work needs pushed lines → BranchesIn g a m f s to work needs pushed (lines ++ value_test_code (width_in f) s to)

-- a test of `!` is one of the other sense
abbrev pub NotsSettle : Type 0
NotsSettle = (g : World) (a : Active) (m : Manner) (f : Shape) (s : Bool) (to needs pushed : ℕ) (work : List Item → List Item) (lines : List Line)
    → BranchesIn g a m f (not s) to work needs pushed lines → SettlesIn g a m s to (λ k. work (Apply1 Not f ∷ k)) needs pushed lines

-- ---- `&&` and `||`

-- the step behind the left side, whose truth decides where it is `stop`
abbrev pub joint_item : Bool → Typed → Item
joint_item false b = Both b
joint_item true b = Either b

abbrev pub JointsSettle : Type 0
JointsSettle = (g : World) (a : Active) (m : Manner) (f h : Shape) (stop s : Bool) (to own needs more_needs pushed : ℕ) (first : List Item → List Item) (b : Typed) (left right : List Line)
    → IsPlaced (lines_of g a)
    → BranchesIn g a m f stop (way (is_straight stop s) to own) first needs pushed left
    → BranchesIn g a m h s to (plan (unit_in g) b) more_needs pushed right
    → SettlesIn g a m s to (λ k. first (joint_item stop b ∷ k)) (max needs (1 + more_needs)) pushed (joined (is_straight stop s) own left right)

-- ---- `?:`

-- the lines of the test, which leads to the second arm, and of the arms
abbrev pub chosen : ℕ → List Line → List Line → List Line → List Line
chosen fresh test left right = test ++ (left ++ (Do Jmp Absolute (To (fresh + 1)) ∷ Label fresh ∷ (right ++ Label (fresh + 1) ∷ [])))

abbrev pub ChoicesDo : Type 0
ChoicesDo = (g : World) (a : Active) (m : Manner) (yield : Yield) (f h : Shape) (fresh needs left_needs right_needs pushed : ℕ) (first : List Item → List Item) (x y : Typed) (test left right : List Line)
    → IsPlaced (lines_of g a)
    → BranchesIn g a m f false fresh first needs pushed test
    → DoesIn g a m yield h (plan (unit_in g) x) left_needs pushed left
    → DoesIn g a m yield h (plan (unit_in g) y) right_needs pushed right
    → DoesIn g a m yield h (λ k. first (Choose x y ∷ k)) (max needs (max left_needs right_needs)) pushed (chosen fresh test left right)

-- an arm that is a place of a structure or union gives its address
abbrev pub AreasDo : Type 0
AreasDo = (g : World) (a : Active) (m : Manner) (f : Shape) (size needs pushed : ℕ) (work : List Item → List Item) (lines : List Line)
    → DoesIn g a m Placed f work needs pushed lines → DoesIn g a m Placed (Area size) work needs pushed lines

-- ---- `,`

abbrev pub CommasDoIn : Type 0
CommasDoIn = (g : World) (a : Active) (m : Manner) (before after : Yield) (f h : Shape) (needs more_needs pushed : ℕ) (first second : List Item → List Item) (left right : List Line)
    → DoesIn g a m before f first needs pushed left → DoesIn g a m after h second more_needs pushed right
    → DoesIn g a m after h (λ k. first (Drop ∷ second k)) (max needs (1 + more_needs)) pushed (left ++ right)

abbrev pub CommasBranch : Type 0
CommasBranch = (g : World) (a : Active) (m : Manner) (before : Yield) (f h : Shape) (s : Bool) (to needs more_needs pushed : ℕ) (first second : List Item → List Item) (left right : List Line)
    → DoesIn g a m before f first needs pushed left → BranchesIn g a m h s to second more_needs pushed right
    → BranchesIn g a m h s to (λ k. first (Drop ∷ second k)) (max needs (1 + more_needs)) pushed (left ++ right)

-- ---- comparisons (C90 6.3.8, 6.3.9)

-- by a routine: the left side waits on the software stack, and the right one is in the primary register
abbrev pub StackedComparisonsSettle : Type 0
StackedComparisonsSettle = (g : World) (a : Active) (m : Manner) (op : BinaryOp) (t : IntType) (s : Bool) (to own needs more_needs pushed : ℕ) (first second : List Item → List Item) (left right : List Line)
    → IsPlacement g.code g.place → m.light ≡ false → m.over ≤ 1000 → is_comparison op ≡ true → is_promoted t ≡ true
    → DoesIn g a m Valued (Number t) first needs pushed left
    → DoesIn g a m Valued (Number t) second more_needs (more pushed (waiting (width_of t))) right
    → SettlesIn g a m s to (on_numbers op t t first second) (max needs (1 + more_needs)) pushed (comparison_by Stacked op (Numbers t) t s to own left right)

-- Beside 0 the other side is tested, whatever a label behind it is: 0 is a number or the null pointer.
abbrev pub IsZero : Shape → values.Value → Type 0
IsZero (Number t) v = v ≡ values.Whole (pos 0)
IsZero (Pointer size) v = v ≡ Null
IsZero f v = ⊥

-- of one shape, and of numbers of one type
abbrev pub AreAlike : Shape → Shape → Type 0
AreAlike (Number t) (Number r) = Unit {0}
AreAlike (Pointer size) (Pointer other) = Unit {0}
AreAlike f h = ⊥

-- the left side is tested, in the sense that `comparison_code` asks for
abbrev pub LeftTruthsSettle : Type 0
LeftTruthsSettle = (g : World) (a : Active) (m : Manner) (op : BinaryOp) (r : Relation) (f h : Shape) (zero : values.Value) (operands : Operands) (right_type : IntType) (s sense : Bool) (to own needs pushed : ℕ) (first : List Item → List Item) (left right : List Line)
    → relation_of op ≡ Some r → zero_sense (relation_by s r) ≡ Some sense → AreAlike f h → IsZero h zero
    → BranchesIn g a m f sense to first needs pushed left
    → SettlesIn g a m s to (λ k. first (Push zero ∷ Apply2 op f h ∷ k)) needs pushed (comparison_by (Truth Left) op operands right_type s to own left right)

-- or the right side
abbrev pub RightTruthsSettle : Type 0
RightTruthsSettle = (g : World) (a : Active) (m : Manner) (op : BinaryOp) (r : Relation) (f h : Shape) (zero : values.Value) (operands : Operands) (right_type : IntType) (s sense : Bool) (to own needs pushed : ℕ) (second : List Item → List Item) (left right : List Line)
    → relation_of op ≡ Some r → zero_sense (relation_by s r) ≡ Some sense → AreAlike f h → IsZero f zero
    → BranchesIn g a m h sense to second needs pushed right
    → SettlesIn g a m s to (λ k. Push zero ∷ second (Apply2 op f h ∷ k)) needs pushed (comparison_by (Truth Right) op operands right_type s to own left right)

-- Equality of AX and a word whose bytes are read where they lie: the left side is in AX, and the work of the right one takes no lines.
abbrev pub IsEqual : Relation → Type 0
IsEqual Equal = Unit {0}
IsEqual Unequal = Unit {0}
IsEqual r = ⊥

abbrev pub EqualWordsSettle : Type 0
EqualWordsSettle = (g : World) (a : Active) (m : Manner) (op : BinaryOp) (r : Relation) (t : IntType) (d : Direct) (low high : OperandByte) (is_signed s : Bool) (to own needs more_needs pushed : ℕ) (first second : List Item → List Item) (left right : List Line)
    → IsPlacement g.code g.place → IsPlaced (lines_of g a) → relation_of op ≡ Some r → IsEqual r → width_of t ≡ Ax → sides_of Ax d ≡ Some (Word low high)
    → DoesIn g a m Valued (Number t) first needs pushed left → IsReadInPlace g a pushed (Number t) second d
    → SettlesIn g a m s to (on_numbers op t t first second) (max needs (1 + more_needs)) pushed (comparison_by (Whole Left (relation_by s r) is_signed (Word low high)) op (Numbers t) t s to own left right)

-- An order of such words without sign.
abbrev pub IsOrder : Relation → Type 0
IsOrder Equal = ⊥
IsOrder Unequal = ⊥
IsOrder r = Unit {0}

abbrev pub OrderedWordsSettle : Type 0
OrderedWordsSettle = (g : World) (a : Active) (m : Manner) (op : BinaryOp) (r : Relation) (t : IntType) (d : Direct) (low high : OperandByte) (s : Bool) (to own needs more_needs pushed : ℕ) (first second : List Item → List Item) (left right : List Line)
    → IsPlacement g.code g.place → relation_of op ≡ Some r → IsOrder r → width_of t ≡ Ax → is_signed_of t ≡ false → sides_of Ax d ≡ Some (Word low high)
    → DoesIn g a m Valued (Number t) first needs pushed left → IsReadInPlace g a pushed (Number t) second d
    → SettlesIn g a m s to (on_numbers op t t first second) (max needs (1 + more_needs)) pushed (comparison_by (Whole Left (relation_by s r) false (Word low high)) op (Numbers t) t s to own left right)

-- ---- the lines of the generator

-- of a test, and of the value
abbrev pub JointLinesAre : Type 0
JointLinesAre = (f : Framed) (pushed fresh to : ℕ) (s : Bool) (q : QTy) (x y : Typed)
    → (expr_code f pushed fresh (Test to s) (node q (both x y)) ≡ joint_code f pushed (fresh + 0) to s false x y)
    × (expr_code f pushed fresh Value (node q (both x y)) ≡ joint_code f pushed (fresh + 2) fresh false false x y ++ truth_code fresh)
    × (expr_code f pushed fresh (Test to s) (node q (either x y)) ≡ joint_code f pushed (fresh + 0) to s true x y)
    × (expr_code f pushed fresh Value (node q (either x y)) ≡ joint_code f pushed (fresh + 2) fresh false true x y ++ truth_code fresh)

abbrev pub ChoiceLinesAre : Type 0
ChoiceLinesAre = (f : Framed) (pushed fresh to : ℕ) (s : Bool) (q : QTy) (x y z : Typed)
    → (expr_code f pushed fresh Value (node q (choice x y z)) ≡ chosen fresh (expr_code f pushed (fresh + 2) (Test fresh false) x) (expr_code f pushed (fresh + 2 + uses (Some false) x) Value y) (expr_code f pushed (fresh + 2 + uses (Some false) x + uses None y) Value z))
    × (expr_code f pushed fresh (Test to s) (node q (choice x y z)) ≡ expr_code f pushed fresh Value (node q (choice x y z)) ++ value_test_code (width_of_tree q) s to)

-- whatever is wanted of it
abbrev pub CommaLinesAre : Type 0
CommaLinesAre = (f : Framed) (pushed fresh : ℕ) (w : Wanted) (q : QTy) (x y : Typed)
    → expr_code f pushed fresh w (node q (comma x y)) ≡ expr_code f pushed fresh Value x ++ expr_code f pushed (fresh + uses None x) w y

-- of an order or an equality
abbrev pub ComparisonLinesAre : Type 0
ComparisonLinesAre = (f : Framed) (pushed fresh to : ℕ) (s : Bool) (q : QTy) (op : BinaryOp) (r : Relation) (x y : Typed) → relation_of op ≡ Some r
    → (expr_code f pushed fresh (Test to s) (node q (binary op x y)) ≡ comparison_code f pushed (fresh + 0) to s op r x y)
    × (expr_code f pushed fresh Value (node q (binary op x y)) ≡ comparison_code f pushed (fresh + 2) fresh false op r x y ++ truth_code fresh)
