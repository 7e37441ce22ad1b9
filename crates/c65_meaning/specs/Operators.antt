-- What operators and conversions give on values (C90 6.2, 6.3), or why they give nothing.
use Rattle.std.specs.Prelude.{ℕ, zero, suc, ◌==◌, ◌&&◌, ◌||◌, not, Bool, true, false, ℤ, pos, negsuc, ◌+ℤ◌, ◌-ℤ◌, ◌*ℤ◌, neg_ℤ, Result, Ok, Err, Option, nat_lt, nat_le, int_lt, int_le, int_div, if◌then◌else◌, unsigned_abs}
use Rattle.c65_base.specs.declared.operators.UnaryOp.{UnaryOp}
use Rattle.c65_base.specs.declared.operators.UnaryOp.TheVariants.{Neg, BitNot, Not}
use Rattle.c65_base.specs.declared.operators.BinaryOp.{BinaryOp}
use Rattle.c65_base.specs.declared.operators.BinaryOp.TheVariants.{Mul, Div, Rem, Add, Sub, Shl, Shr, Lt, Gt, Le, Ge, Eq, Ne, BitAnd, BitXor, BitOr}
use Rattle.c65_base.specs.declared.operators.StepKind.{StepKind}
use Rattle.c65_base.specs.declared.operators.StepKind.TheVariants.{PreInc, PreDec, PostInc, PostDec}
use Rattle.c65_ints.specs.declared.types.IntType.{IntType}
use Rattle.c65_ints.specs.Ranges.{wrap_of}
use Rattle.c65_ints.specs.Results.{sum_of, difference_of, product_of, quotient_of, remainder_of, shifted_left_of, shifted_right_of}
use Rattle.c65_meaning.specs.declared.action.Action.{Action}
use Rattle.c65_meaning.specs.declared.action.Action.TheVariants.{DivisionByZero, ShiftCount, OutsideObject, PointersApart, OffsetOutside, UnknownValue, EndOfObject, NoResult, EndedObject}
use Rattle.c65_meaning.specs.Why.{Why, By, Unfit, ◌>>=◌, or_by}
use Rattle.c65_meaning.specs.Integers.{conjunction_of, disjunction_of, exclusion_of, negated_of, complement_of, truth, same_number}
use Rattle.c65_meaning.specs.Store.{Store, Value, Whole, Null, Place, Opaque, Cells, NoValue, Shape, Number, Field, Pointer, Area, is_live, block_size}

abbrev pub number : ℤ → Result Value Why
number z = Ok (Whole z)

abbrev pub test : Bool → Result Value Why
test b = Ok (Whole (truth b))

abbrev pub number_or : Action → Option ℤ → Result Value Why
number_or action z = or_by action z >>= number

-- ---- values that may not be used

-- of a value that is neither a number nor a place
abbrev pub unusable : Value → Why
unusable Opaque = By UnknownValue
unusable NoValue = By NoResult
unusable v = Unfit

abbrev pub unusable_pair : Value → Value → Why
unusable_pair Opaque w = By UnknownValue
unusable_pair NoValue w = By NoResult
unusable_pair v w = unusable w

-- what a use of a place gives, where its block is live
abbrev pub while_live : {A : Type 0} → Store → ℕ → Result A Why → Result A Why
while_live s b v = if is_live s b then v else Err (By EndedObject)

-- ---- truth (C90 6.3.3.3, 6.3.13 to 6.3.15, 6.6.4, 6.6.5)

abbrev pub truth_of : Store → Value → Result Bool Why
truth_of s (Whole (pos zero)) = Ok false
truth_of s (Whole (pos (suc n))) = Ok true
truth_of s (Whole (negsuc n)) = Ok true
truth_of s Null = Ok false
truth_of s (Place b o) = while_live s b (Ok true)
truth_of s v = Err (unusable v)

-- ---- places (C90 6.3.2.3, 6.3.3.2, 6.3.6)

-- the place that a pointer names
abbrev pub named_by : Store → Value → Result Value Why
named_by s (Place b o) = while_live s b (Ok (Place b o))
named_by s Null = Err (By OutsideObject)
named_by s v = Err (unusable v)

-- a place from 0 to its block's size
abbrev pub placed_at : Store → ℕ → ℤ → Result Value Why
placed_at s b (pos o) = if nat_le o (block_size s b) then Ok (Place b o) else Err (By OffsetOutside)
placed_at s b (negsuc n) = Err (By OffsetOutside)

abbrev pub moved : Store → Value → ℤ → Result Value Why
moved s (Place b o) z = while_live s b (placed_at s b (pos o +ℤ z))
moved s Null z = Err (By OffsetOutside)
moved s v z = Err (unusable v)

-- ---- conversions (C90 6.2.1, 6.2.2, 6.3.4)

abbrev pub pointer_of : ℤ → Value
pointer_of (pos zero) = Null
pointer_of (pos (suc n)) = Opaque
pointer_of (negsuc n) = Opaque

-- to a number, to a pointer, and to void; the missing result of a function goes to void alone
abbrev pub converted : Shape → Value → Result Value Why
converted (Number t) (Whole z) = number (wrap_of t z)
converted (Number t) Null = number (pos 0)
converted (Number t) (Place b o) = Ok Opaque
converted (Number t) Opaque = Ok Opaque
converted (Number t) (Cells xs) = Err Unfit
converted (Number t) NoValue = Err (By NoResult)
converted (Pointer size) (Whole z) = Ok (pointer_of z)
converted (Pointer size) (Cells xs) = Err Unfit
converted (Pointer size) NoValue = Err (By NoResult)
converted (Pointer size) v = Ok v
converted (Field t low width) NoValue = Err (By NoResult)
converted (Field t low width) v = Ok v
converted (Area size) v = Ok NoValue

-- ---- operators on numbers (C90 6.3.3, 6.3.5 to 6.3.12)

abbrev pub calculated : BinaryOp → IntType → ℤ → ℤ → Result Value Why
calculated Mul t a b = number (product_of t a b)
calculated Div t a b = number_or DivisionByZero (quotient_of t a b)
calculated Rem t a b = number_or DivisionByZero (remainder_of a b)
calculated Add t a b = number (sum_of t a b)
calculated Sub t a b = number (difference_of t a b)
calculated Shl t a b = number_or ShiftCount (shifted_left_of t a b)
calculated Shr t a b = number_or ShiftCount (shifted_right_of t a b)
calculated Lt t a b = test (int_lt a b)
calculated Gt t a b = test (int_lt b a)
calculated Le t a b = test (int_le a b)
calculated Ge t a b = test (int_le b a)
calculated Eq t a b = test (same_number a b)
calculated Ne t a b = test (not (same_number a b))
calculated BitAnd t a b = number (conjunction_of t a b)
calculated BitXor t a b = number (exclusion_of t a b)
calculated BitOr t a b = number (disjunction_of t a b)

-- ---- operators on pointers (C90 6.3.6, 6.3.8, 6.3.9)

-- the bytes between two places in elements, cut toward zero
abbrev pub elements_between : ℕ → ℤ → Result Value Why
elements_between size d = if nat_le (unsigned_abs d) 32767 then number (int_div d (pos size)) else Err (By PointersApart)

-- within one block: a difference or an order of the two offsets
abbrev pub in_one_block : BinaryOp → ℕ → ℕ → ℕ → Result Value Why
in_one_block Sub size o p = elements_between size (pos o -ℤ pos p)
in_one_block Lt size o p = test (nat_lt o p)
in_one_block Gt size o p = test (nat_lt p o)
in_one_block Le size o p = test (nat_le o p)
in_one_block Ge size o p = test (nat_le p o)
in_one_block Eq size o p = test (o == p)
in_one_block Ne size o p = test (not (o == p))
in_one_block _ size o p = Err Unfit

-- One is the end of its block, and the other lies inside its own. A place behind its block's end, which no operator gives, may meet any.
abbrev pub end_meets : Store → ℕ → ℕ → ℕ → ℕ → Bool
end_meets s b o c p = nat_lt (block_size s b) o || (o == block_size s b && nat_lt p (block_size s c))

-- only a block of further arguments has no bytes
abbrev pub is_empty : Store → ℕ → Bool
is_empty s b = block_size s b == 0

abbrev pub may_meet : Store → ℕ → ℕ → ℕ → ℕ → Bool
may_meet s b o c p = end_meets s b o c p || end_meets s c p b o || (is_empty s b || is_empty s c)

-- not in one block: equality alone has a value
abbrev pub apart : BinaryOp → Result Value Why
apart Sub = Err (By PointersApart)
apart Lt = Err (By PointersApart)
apart Gt = Err (By PointersApart)
apart Le = Err (By PointersApart)
apart Ge = Err (By PointersApart)
apart Eq = test false
apart Ne = test true
apart _ = Err Unfit

abbrev pub in_two_blocks : BinaryOp → Bool → Result Value Why
in_two_blocks Eq true = Err (By EndOfObject)
in_two_blocks Ne true = Err (By EndOfObject)
in_two_blocks op meets = apart op

abbrev pub on_places : Store → BinaryOp → ℕ → ℕ → ℕ → ℕ → ℕ → Result Value Why
on_places s op size b o c p = if b == c then in_one_block op size o p else in_two_blocks op (may_meet s b o c p)

-- two null pointers are equal, and lie in no block
abbrev pub both_null : BinaryOp → Result Value Why
both_null Eq = test true
both_null Ne = test false
both_null op = apart op

abbrev pub on_pointers : Store → BinaryOp → ℕ → Value → Value → Result Value Why
on_pointers s op size (Place b o) (Place c p) = while_live s b (while_live s c (on_places s op size b o c p))
on_pointers s op size (Place b o) Null = while_live s b (apart op)
on_pointers s op size Null (Place b o) = while_live s b (apart op)
on_pointers s op size Null Null = both_null op
on_pointers s op size v w = Err (unusable_pair v w)

abbrev pub on_pointer_and_number : Store → BinaryOp → ℕ → Value → ℤ → Result Value Why
on_pointer_and_number s Add size v z = moved s v (pos size *ℤ z)
on_pointer_and_number s Sub size v z = moved s v (neg_ℤ (pos size *ℤ z))
on_pointer_and_number s _ size v z = Err Unfit

abbrev pub on_number_and_pointer : Store → BinaryOp → ℕ → ℤ → Value → Result Value Why
on_number_and_pointer s Add size z v = moved s v (pos size *ℤ z)
on_number_and_pointer s _ size z v = Err Unfit

-- ---- operators

abbrev pub binary : Store → BinaryOp → Shape → Shape → Value → Value → Result Value Why
binary s op (Number t) (Number r) (Whole a) (Whole b) = calculated op t a b
binary s op (Pointer size) (Number t) v (Whole z) = on_pointer_and_number s op size v z
binary s op (Number t) (Pointer size) (Whole z) v = on_number_and_pointer s op size z v
binary s op (Pointer size) (Pointer other) v w = on_pointers s op size v w
binary s op _ _ v w = Err (unusable_pair v w)

abbrev pub unary : Store → UnaryOp → Shape → Value → Result Value Why
unary s Neg (Number t) (Whole z) = number (negated_of t z)
unary s BitNot (Number t) (Whole z) = number (complement_of t z)
unary s Not shape v = truth_of s v >>= λ b. test (not b)
unary s _ shape v = Err (unusable v)

-- one more or one less (C90 6.3.2.4, 6.3.3.1)
abbrev pub sign_of : StepKind → ℤ
sign_of PreInc = pos 1
sign_of PreDec = negsuc 0
sign_of PostInc = pos 1
sign_of PostDec = negsuc 0

abbrev pub is_post : StepKind → Bool
is_post PreInc = false
is_post PreDec = false
is_post PostInc = true
is_post PostDec = true

abbrev pub bumped : Store → StepKind → Shape → Value → Result Value Why
bumped s kind (Number t) (Whole z) = number (wrap_of t (z +ℤ sign_of kind))
bumped s kind (Field t low width) (Whole z) = number (wrap_of t (z +ℤ sign_of kind))
bumped s kind (Pointer size) v = moved s v (pos size *ℤ sign_of kind)
bumped s kind _ v = Err (unusable v)
