-- Converting and operating give values that fit.
use Rattle.std.proofs.Common.{◌≡◌, ℕ, zero, suc, ◌≤◌, ℤ, pos, negsuc, ◌+ℤ◌, ◌-ℤ◌, ◌*ℤ◌, neg_ℤ, unsigned_abs, int_div, Bool, true, false, refl, subst, arith}
use Rattle.std.specs.Prelude.{Option, Some, None, Result, Ok, Err, nat_le, not, ◌==◌, if◌then◌else◌, bit_and, bit_or, bit_xor}
use Rattle.std.proofs.lemmas.Int.{ints}
use Rattle.c65_base.specs.declared.operators.UnaryOp.TheVariants.{Neg, Plus, BitNot, Not, Deref, Address}
use Rattle.c65_base.specs.declared.operators.BinaryOp.{BinaryOp}
use Rattle.c65_base.specs.declared.operators.BinaryOp.TheVariants.{Mul, Div, Rem, Add, Sub, Shl, Shr, Lt, Gt, Le, Ge, Eq, Ne, BitAnd, BitXor, BitOr}
use Rattle.c65_ints.specs.declared.types.IntType.{IntType}
use Rattle.c65_ints.specs.declared.types.IntType.TheVariants.{Int}
use Rattle.c65_ints.specs.Ranges.{InRange, wrap_of, residue, modulus_of}
use Rattle.c65_ints.specs.Results.{quotient_of, remainder_of, shifted_left_of, shifted_right_of}
use Rattle.c65_meaning.specs.declared.action.Action.{Action}
use Rattle.c65_meaning.specs.declared.action.Action.TheVariants.{DivisionByZero, ShiftCount, EndedObject, OffsetOutside, PointersApart}
use Rattle.c65_meaning.specs.Why.{Why, By, ◌>>=◌}
use Rattle.c65_meaning.specs.Integers.{truth, by_bits}
use Rattle.c65_meaning.specs.Store.{Store, Value, Whole, Null, Place, Opaque, Cells, NoValue, Shape, Number, Field, Pointer, Area, is_live, block_size}
use Rattle.c65_meaning.specs.Operators.{number, test, number_or, while_live, placed_at, moved, pointer_of, calculated, elements_between, in_one_block, may_meet, apart, in_two_blocks, on_places, both_null, on_pointers, on_pointer_and_number, on_number_and_pointer, truth_of, sign_of}
use Rattle.c65_meaning.specs.Fits.{Fits, ConversionsFit, compares, calculated_shape, OperatorsFit, UnaryOperatorsFit, StepsFit}
use Rattle.c65_meaning.proofs.Ranges.{wrap_in, zero_in, quotient_in, remainder_in, left_in, right_in, elements_in}

abbrev pub given : Value → Result Value Why
given v = Ok v

number_fits : (t : IntType) (z : ℤ) (r : Value) → number z ≡ given r → InRange t z → Fits (Number t) r
number_fits t z r e h = let same : Whole z ≡ r = cc in subst (Fits (Number t)) same h

wrap_fits : (t : IntType) (z : ℤ) (r : Value) → number (wrap_of t z) ≡ given r → Fits (Number t) r
wrap_fits t z r e = number_fits t (wrap_of t z) r e (wrap_in t z)

bits_fit : (t : IntType) (f : ℕ → ℕ → ℕ) (a b : ℤ) (r : Value) → number (by_bits t f a b) ≡ given r → Fits (Number t) r
bits_fit t f a b r e = number_fits t (by_bits t f a b) r e (wrap_in t (pos (f (residue (modulus_of t) a) (residue (modulus_of t) b))))

truth_in : (b : Bool) → InRange Int (truth b)
truth_in true = record { low = omega (arith, ints); high = omega (arith, ints) }
truth_in false = record { low = omega (arith, ints); high = omega (arith, ints) }

test_fits : (b : Bool) (r : Value) → test b ≡ given r → Fits (Number Int) r
test_fits b r e = number_fits Int (truth b) r e (truth_in b)

number_or_fits : (t : IntType) (action : Action) (o : Option ℤ) (r : Value) → ((z : ℤ) → o ≡ Some z → InRange t z) → number_or action o ≡ given r → Fits (Number t) r
number_or_fits t action None r h e = absurd (cc)
number_or_fits t action (Some z) r h e = number_fits t z r e (h z refl)

-- ---- numbers

calculated_fits : (op : BinaryOp) (t : IntType) (a b : ℤ) (r : Value) → InRange t a → calculated op t a b ≡ given r → Fits (calculated_shape (compares op) t) r
calculated_fits Mul t a b r h e = wrap_fits t (a *ℤ b) r e
calculated_fits Div t a b r h e = number_or_fits t DivisionByZero (quotient_of t a b) r (λ z. quotient_in t a b z) e
calculated_fits Rem t a b r h e = number_or_fits t DivisionByZero (remainder_of a b) r (λ z. remainder_in t a b z h) e
calculated_fits Add t a b r h e = wrap_fits t (a +ℤ b) r e
calculated_fits Sub t a b r h e = wrap_fits t (a -ℤ b) r e
calculated_fits Shl t a b r h e = number_or_fits t ShiftCount (shifted_left_of t a b) r (λ z. left_in t a b z) e
calculated_fits Shr t a b r h e = number_or_fits t ShiftCount (shifted_right_of t a b) r (λ z. right_in t a b z h) e
calculated_fits Lt t a b r h e = test_fits _ r e
calculated_fits Gt t a b r h e = test_fits _ r e
calculated_fits Le t a b r h e = test_fits _ r e
calculated_fits Ge t a b r h e = test_fits _ r e
calculated_fits Eq t a b r h e = test_fits _ r e
calculated_fits Ne t a b r h e = test_fits _ r e
calculated_fits BitAnd t a b r h e = bits_fit t bit_and a b r e
calculated_fits BitXor t a b r h e = bits_fit t bit_xor a b r e
calculated_fits BitOr t a b r h e = bits_fit t bit_or a b r e

-- ---- pointers

live_ok : (s : Store) (b : ℕ) (o : Result Value Why) (r : Value) → while_live s b o ≡ given r → o ≡ given r
live_ok s b o r e = tested (is_live s b) e
  where
    tested : (l : Bool) → (if l then o else Err (By EndedObject)) ≡ given r → o ≡ given r
    tested true h = h
    tested false h = absurd (cc)

place_fits : (size b o : ℕ) (r : Value) → given (Place b o) ≡ given r → Fits (Pointer size) r
place_fits size b o r e = let same : Place b o ≡ r = cc in subst (Fits (Pointer size)) same tt

placed_fits : (s : Store) (size b : ℕ) (z : ℤ) (r : Value) → placed_at s b z ≡ given r → Fits (Pointer size) r
placed_fits s size b (pos o) r e = tested (nat_le o (block_size s b)) e
  where
    tested : (l : Bool) → (if l then given (Place b o) else Err (By OffsetOutside)) ≡ given r → Fits (Pointer size) r
    tested true h = place_fits size b o r h
    tested false h = absurd (cc)
placed_fits s size b (negsuc n) r e = absurd (cc)

moved_fits : (s : Store) (size : ℕ) (v : Value) (z : ℤ) (r : Value) → moved s v z ≡ given r → Fits (Pointer size) r
moved_fits s size (Place b o) z r e = placed_fits s size b (pos o +ℤ z) r (live_ok s b (placed_at s b (pos o +ℤ z)) r e)
moved_fits s size Null z r e = absurd (cc)
moved_fits s size (Whole y) z r e = absurd (cc)
moved_fits s size Opaque z r e = absurd (cc)
moved_fits s size (Cells xs) z r e = absurd (cc)
moved_fits s size NoValue z r e = absurd (cc)

elements_fit : (size : ℕ) (d : ℤ) (r : Value) → elements_between size d ≡ given r → Fits (Number Int) r
elements_fit size d r e = tested (nat_le (unsigned_abs d) 32767) refl e
  where
    tested : (l : Bool) → nat_le (unsigned_abs d) 32767 ≡ l → (if l then number (int_div d (pos size)) else Err (By PointersApart)) ≡ given r → Fits (Number Int) r
    tested true g h = let small : unsigned_abs d ≤ 32767 = grind arith in number_fits Int (int_div d (pos size)) r h (elements_in d (pos size) small)
    tested false g h = absurd (cc)

one_block_fits : (op : BinaryOp) (size o p : ℕ) (r : Value) → in_one_block op size o p ≡ given r → Fits (Number Int) r
one_block_fits Sub size o p r e = elements_fit size (pos o -ℤ pos p) r e
one_block_fits Lt size o p r e = test_fits _ r e
one_block_fits Gt size o p r e = test_fits _ r e
one_block_fits Le size o p r e = test_fits _ r e
one_block_fits Ge size o p r e = test_fits _ r e
one_block_fits Eq size o p r e = test_fits _ r e
one_block_fits Ne size o p r e = test_fits _ r e
one_block_fits Mul size o p r e = absurd (cc)
one_block_fits Div size o p r e = absurd (cc)
one_block_fits Rem size o p r e = absurd (cc)
one_block_fits Add size o p r e = absurd (cc)
one_block_fits Shl size o p r e = absurd (cc)
one_block_fits Shr size o p r e = absurd (cc)
one_block_fits BitAnd size o p r e = absurd (cc)
one_block_fits BitXor size o p r e = absurd (cc)
one_block_fits BitOr size o p r e = absurd (cc)

apart_fits : (op : BinaryOp) (r : Value) → apart op ≡ given r → Fits (Number Int) r
apart_fits Eq r e = test_fits false r e
apart_fits Ne r e = test_fits true r e
apart_fits Sub r e = absurd (cc)
apart_fits Lt r e = absurd (cc)
apart_fits Gt r e = absurd (cc)
apart_fits Le r e = absurd (cc)
apart_fits Ge r e = absurd (cc)
apart_fits Mul r e = absurd (cc)
apart_fits Div r e = absurd (cc)
apart_fits Rem r e = absurd (cc)
apart_fits Add r e = absurd (cc)
apart_fits Shl r e = absurd (cc)
apart_fits Shr r e = absurd (cc)
apart_fits BitAnd r e = absurd (cc)
apart_fits BitXor r e = absurd (cc)
apart_fits BitOr r e = absurd (cc)

two_blocks_fit : (op : BinaryOp) (meets : Bool) (r : Value) → in_two_blocks op meets ≡ given r → Fits (Number Int) r
two_blocks_fit Eq true r e = absurd (cc)
two_blocks_fit Ne true r e = absurd (cc)
two_blocks_fit Eq false r e = apart_fits Eq r e
two_blocks_fit Ne false r e = apart_fits Ne r e
two_blocks_fit Sub meets r e = apart_fits Sub r e
two_blocks_fit Lt meets r e = apart_fits Lt r e
two_blocks_fit Gt meets r e = apart_fits Gt r e
two_blocks_fit Le meets r e = apart_fits Le r e
two_blocks_fit Ge meets r e = apart_fits Ge r e
two_blocks_fit Mul meets r e = apart_fits Mul r e
two_blocks_fit Div meets r e = apart_fits Div r e
two_blocks_fit Rem meets r e = apart_fits Rem r e
two_blocks_fit Add meets r e = apart_fits Add r e
two_blocks_fit Shl meets r e = apart_fits Shl r e
two_blocks_fit Shr meets r e = apart_fits Shr r e
two_blocks_fit BitAnd meets r e = apart_fits BitAnd r e
two_blocks_fit BitXor meets r e = apart_fits BitXor r e
two_blocks_fit BitOr meets r e = apart_fits BitOr r e

on_places_fit : (s : Store) (op : BinaryOp) (size b o c p : ℕ) (r : Value) → on_places s op size b o c p ≡ given r → Fits (Number Int) r
on_places_fit s op size b o c p r e = tested (b == c) e
  where
    tested : (l : Bool) → (if l then in_one_block op size o p else in_two_blocks op (may_meet s b o c p)) ≡ given r → Fits (Number Int) r
    tested true h = one_block_fits op size o p r h
    tested false h = two_blocks_fit op (may_meet s b o c p) r h

both_null_fits : (op : BinaryOp) (r : Value) → both_null op ≡ given r → Fits (Number Int) r
both_null_fits Eq r e = test_fits true r e
both_null_fits Ne r e = test_fits false r e
both_null_fits Sub r e = apart_fits Sub r e
both_null_fits Lt r e = apart_fits Lt r e
both_null_fits Gt r e = apart_fits Gt r e
both_null_fits Le r e = apart_fits Le r e
both_null_fits Ge r e = apart_fits Ge r e
both_null_fits Mul r e = apart_fits Mul r e
both_null_fits Div r e = apart_fits Div r e
both_null_fits Rem r e = apart_fits Rem r e
both_null_fits Add r e = apart_fits Add r e
both_null_fits Shl r e = apart_fits Shl r e
both_null_fits Shr r e = apart_fits Shr r e
both_null_fits BitAnd r e = apart_fits BitAnd r e
both_null_fits BitXor r e = apart_fits BitXor r e
both_null_fits BitOr r e = apart_fits BitOr r e

on_pointers_fit : (s : Store) (op : BinaryOp) (size : ℕ) (v w r : Value) → on_pointers s op size v w ≡ given r → Fits (Number Int) r
on_pointers_fit s op size (Place b o) (Place c p) r e = on_places_fit s op size b o c p r (live_ok s c (on_places s op size b o c p) r (live_ok s b (while_live s c (on_places s op size b o c p)) r e))
on_pointers_fit s op size (Place b o) Null r e = apart_fits op r (live_ok s b (apart op) r e)
on_pointers_fit s op size (Place b o) (Whole z) r e = absurd (cc)
on_pointers_fit s op size (Place b o) Opaque r e = absurd (cc)
on_pointers_fit s op size (Place b o) (Cells xs) r e = absurd (cc)
on_pointers_fit s op size (Place b o) NoValue r e = absurd (cc)
on_pointers_fit s op size Null (Place b o) r e = apart_fits op r (live_ok s b (apart op) r e)
on_pointers_fit s op size Null Null r e = both_null_fits op r e
on_pointers_fit s op size Null (Whole z) r e = absurd (cc)
on_pointers_fit s op size Null Opaque r e = absurd (cc)
on_pointers_fit s op size Null (Cells xs) r e = absurd (cc)
on_pointers_fit s op size Null NoValue r e = absurd (cc)
on_pointers_fit s op size (Whole z) w r e = absurd (cc)
on_pointers_fit s op size Opaque w r e = absurd (cc)
on_pointers_fit s op size (Cells xs) w r e = absurd (cc)
on_pointers_fit s op size NoValue w r e = absurd (cc)

pointer_and_number_fits : (s : Store) (op : BinaryOp) (size : ℕ) (v : Value) (z : ℤ) (r : Value) → on_pointer_and_number s op size v z ≡ given r → Fits (Pointer size) r
pointer_and_number_fits s Add size v z r e = moved_fits s size v (pos size *ℤ z) r e
pointer_and_number_fits s Sub size v z r e = moved_fits s size v (neg_ℤ (pos size *ℤ z)) r e
pointer_and_number_fits s Mul size v z r e = absurd (cc)
pointer_and_number_fits s Div size v z r e = absurd (cc)
pointer_and_number_fits s Rem size v z r e = absurd (cc)
pointer_and_number_fits s Shl size v z r e = absurd (cc)
pointer_and_number_fits s Shr size v z r e = absurd (cc)
pointer_and_number_fits s Lt size v z r e = absurd (cc)
pointer_and_number_fits s Gt size v z r e = absurd (cc)
pointer_and_number_fits s Le size v z r e = absurd (cc)
pointer_and_number_fits s Ge size v z r e = absurd (cc)
pointer_and_number_fits s Eq size v z r e = absurd (cc)
pointer_and_number_fits s Ne size v z r e = absurd (cc)
pointer_and_number_fits s BitAnd size v z r e = absurd (cc)
pointer_and_number_fits s BitXor size v z r e = absurd (cc)
pointer_and_number_fits s BitOr size v z r e = absurd (cc)

number_and_pointer_fits : (s : Store) (op : BinaryOp) (size : ℕ) (z : ℤ) (v r : Value) → on_number_and_pointer s op size z v ≡ given r → Fits (Pointer size) r
number_and_pointer_fits s Add size z v r e = moved_fits s size v (pos size *ℤ z) r e
number_and_pointer_fits s Sub size z v r e = absurd (cc)
number_and_pointer_fits s Mul size z v r e = absurd (cc)
number_and_pointer_fits s Div size z v r e = absurd (cc)
number_and_pointer_fits s Rem size z v r e = absurd (cc)
number_and_pointer_fits s Shl size z v r e = absurd (cc)
number_and_pointer_fits s Shr size z v r e = absurd (cc)
number_and_pointer_fits s Lt size z v r e = absurd (cc)
number_and_pointer_fits s Gt size z v r e = absurd (cc)
number_and_pointer_fits s Le size z v r e = absurd (cc)
number_and_pointer_fits s Ge size z v r e = absurd (cc)
number_and_pointer_fits s Eq size z v r e = absurd (cc)
number_and_pointer_fits s Ne size z v r e = absurd (cc)
number_and_pointer_fits s BitAnd size z v r e = absurd (cc)
number_and_pointer_fits s BitXor size z v r e = absurd (cc)
number_and_pointer_fits s BitOr size z v r e = absurd (cc)

-- ---- operators

pub operators_fit : OperatorsFit
operators_fit s op (Number t) (Number k) (Whole a) (Whole b) r h e = calculated_fits op t a b r h e
operators_fit s op (Number t) (Number k) (Whole a) Null r h e = absurd (cc)
operators_fit s op (Number t) (Number k) (Whole a) (Place b o) r h e = absurd (cc)
operators_fit s op (Number t) (Number k) (Whole a) Opaque r h e = absurd (cc)
operators_fit s op (Number t) (Number k) (Whole a) (Cells xs) r h e = absurd (cc)
operators_fit s op (Number t) (Number k) (Whole a) NoValue r h e = absurd (cc)
operators_fit s op (Number t) (Number k) Null w r h e = absurd (cc)
operators_fit s op (Number t) (Number k) (Place b o) w r h e = absurd (cc)
operators_fit s op (Number t) (Number k) Opaque w r h e = absurd (cc)
operators_fit s op (Number t) (Number k) (Cells xs) w r h e = absurd (cc)
operators_fit s op (Number t) (Number k) NoValue w r h e = absurd (cc)
operators_fit s op (Number t) (Pointer size) (Whole a) w r h e = number_and_pointer_fits s op size a w r e
operators_fit s op (Number t) (Pointer size) Null w r h e = absurd (cc)
operators_fit s op (Number t) (Pointer size) (Place b o) w r h e = absurd (cc)
operators_fit s op (Number t) (Pointer size) Opaque w r h e = absurd (cc)
operators_fit s op (Number t) (Pointer size) (Cells xs) w r h e = absurd (cc)
operators_fit s op (Number t) (Pointer size) NoValue w r h e = absurd (cc)
operators_fit s op (Number t) (Field k low width) v w r h e = absurd (cc)
operators_fit s op (Number t) (Area size) v w r h e = absurd (cc)
operators_fit s op (Pointer size) (Number k) v (Whole z) r h e = pointer_and_number_fits s op size v z r e
operators_fit s op (Pointer size) (Number k) v Null r h e = absurd (cc)
operators_fit s op (Pointer size) (Number k) v (Place b o) r h e = absurd (cc)
operators_fit s op (Pointer size) (Number k) v Opaque r h e = absurd (cc)
operators_fit s op (Pointer size) (Number k) v (Cells xs) r h e = absurd (cc)
operators_fit s op (Pointer size) (Number k) v NoValue r h e = absurd (cc)
operators_fit s op (Pointer size) (Pointer other) v w r h e = on_pointers_fit s op size v w r e
operators_fit s op (Pointer size) (Field k low width) v w r h e = absurd (cc)
operators_fit s op (Pointer size) (Area other) v w r h e = absurd (cc)
operators_fit s op (Field t low width) g v w r h e = absurd (cc)
operators_fit s op (Area size) g v w r h e = absurd (cc)

turned_fits : (o : Result Bool Why) (r : Value) → (o >>= λ b. test (not b)) ≡ given r → Fits (Number Int) r
turned_fits (Err why) r e = absurd (cc)
turned_fits (Ok b) r e = test_fits (not b) r e

pub unary_operators_fit : UnaryOperatorsFit
unary_operators_fit s Not f v r e = turned_fits (truth_of s v) r e
unary_operators_fit s Neg (Number t) (Whole z) r e = wrap_fits t (neg_ℤ z) r e
unary_operators_fit s Neg (Number t) Null r e = absurd (cc)
unary_operators_fit s Neg (Number t) (Place b o) r e = absurd (cc)
unary_operators_fit s Neg (Number t) Opaque r e = absurd (cc)
unary_operators_fit s Neg (Number t) (Cells xs) r e = absurd (cc)
unary_operators_fit s Neg (Number t) NoValue r e = absurd (cc)
unary_operators_fit s Neg (Field t low width) v r e = absurd (cc)
unary_operators_fit s Neg (Pointer size) v r e = absurd (cc)
unary_operators_fit s Neg (Area size) v r e = absurd (cc)
unary_operators_fit s BitNot (Number t) (Whole z) r e = wrap_fits t (neg_ℤ z -ℤ pos 1) r e
unary_operators_fit s BitNot (Number t) Null r e = absurd (cc)
unary_operators_fit s BitNot (Number t) (Place b o) r e = absurd (cc)
unary_operators_fit s BitNot (Number t) Opaque r e = absurd (cc)
unary_operators_fit s BitNot (Number t) (Cells xs) r e = absurd (cc)
unary_operators_fit s BitNot (Number t) NoValue r e = absurd (cc)
unary_operators_fit s BitNot (Field t low width) v r e = absurd (cc)
unary_operators_fit s BitNot (Pointer size) v r e = absurd (cc)
unary_operators_fit s BitNot (Area size) v r e = absurd (cc)
unary_operators_fit s Plus f v r e = absurd (cc)
unary_operators_fit s Deref f v r e = absurd (cc)
unary_operators_fit s Address f v r e = absurd (cc)

pub steps_fit : StepsFit
steps_fit s kind (Number t) (Whole z) r e = wrap_fits t (z +ℤ sign_of kind) r e
steps_fit s kind (Number t) Null r e = absurd (cc)
steps_fit s kind (Number t) (Place b o) r e = absurd (cc)
steps_fit s kind (Number t) Opaque r e = absurd (cc)
steps_fit s kind (Number t) (Cells xs) r e = absurd (cc)
steps_fit s kind (Number t) NoValue r e = absurd (cc)
steps_fit s kind (Field t low width) (Whole z) r e = let same : Whole (wrap_of t (z +ℤ sign_of kind)) ≡ r = cc in subst (Fits (Field t low width)) same (wrap_in t (z +ℤ sign_of kind))
steps_fit s kind (Field t low width) Null r e = absurd (cc)
steps_fit s kind (Field t low width) (Place b o) r e = absurd (cc)
steps_fit s kind (Field t low width) Opaque r e = absurd (cc)
steps_fit s kind (Field t low width) (Cells xs) r e = absurd (cc)
steps_fit s kind (Field t low width) NoValue r e = absurd (cc)
steps_fit s kind (Pointer size) v r e = moved_fits s size v (pos size *ℤ sign_of kind) r e
steps_fit s kind (Area size) v r e = absurd (cc)

-- ---- conversions

pub fits_as : (f : Shape) (v w : Value) → given v ≡ given w → Fits f v → Fits f w
fits_as f v w e h = let same : v ≡ w = cc in subst (Fits f) same h

pointer_of_fits : (size : ℕ) (z : ℤ) → Fits (Pointer size) (pointer_of z)
pointer_of_fits size (pos zero) = tt
pointer_of_fits size (pos (suc n)) = tt
pointer_of_fits size (negsuc n) = tt

pub conversions_fit : ConversionsFit
conversions_fit (Number t) (Whole z) w g e = wrap_fits t z w e
conversions_fit (Number t) Null w g e = number_fits t (pos 0) w e (zero_in t)
conversions_fit (Number t) (Place b o) w g e = fits_as (Number t) Opaque w e tt
conversions_fit (Number t) Opaque w g e = fits_as (Number t) Opaque w e tt
conversions_fit (Number t) (Cells xs) w g e = absurd (cc)
conversions_fit (Number t) NoValue w g e = absurd (cc)
conversions_fit (Pointer size) (Whole z) w g e = fits_as (Pointer size) (pointer_of z) w e (pointer_of_fits size z)
conversions_fit (Pointer size) Null w g e = fits_as (Pointer size) Null w e tt
conversions_fit (Pointer size) (Place b o) w g e = fits_as (Pointer size) (Place b o) w e tt
conversions_fit (Pointer size) Opaque w g e = fits_as (Pointer size) Opaque w e tt
conversions_fit (Pointer size) (Cells xs) w g e = absurd (cc)
conversions_fit (Pointer size) NoValue w g e = absurd (cc)
conversions_fit (Area size) v w g e = fits_as (Area size) NoValue w e tt
conversions_fit (Field t low width) v w g e = absurd g
