-- Folding and the meaning give the same values of operators on integer constants.
use Rattle.std.proofs.Common.{◌≡◌, ℕ, zero, suc, ◌+◌, ◌-◌, ◌/◌, ◌%◌, ◌<◌, ◌≤◌, ℤ, pos, negsuc, neg_ℤ, ◌-ℤ◌, int_lt, int_le, Bool, true, false, not, ◌&&◌, Some, refl, sym, ap, ◌∙◌, subst, arith}
use Rattle.std.specs.Prelude.{Result, Ok}
use Rattle.std.proofs.lemmas.Int.{ints}
use Rattle.std.proofs.lemmas.Bool.Decides.{nat_tests}
use Rattle.c65_base.specs.declared.operators.UnaryOp.{UnaryOp}
use Rattle.c65_base.specs.declared.operators.UnaryOp.TheVariants as ones
use Rattle.c65_base.specs.declared.operators.BinaryOp.{BinaryOp}
use Rattle.c65_base.specs.declared.operators.BinaryOp.TheVariants as ops
use Rattle.c65_ints.specs.declared.types.IntType.{IntType}
use Rattle.c65_ints.specs.declared.types.IntType.TheVariants.{SChar, UChar, Short, UShort, Int, UInt, Long, ULong}
use Rattle.c65_ints.specs.Ranges.{wrap_of, InRange, placed}
use Rattle.c65_ints.specs.Results.{difference_of}
use Rattle.c65_ctype.specs.Trees.{int, pointer, QTy, type_in, TypesTy}
use Rattle.c65_csem.specs.Trees.{UnitTy}
use Rattle.c65_csem.specs.Typed.{HasInt, IsPointer, AreAlike, AreCompared, AreAdded, AreSubtracted, Operands, Operand}
use Rattle.c65_fold.specs.Constants.{number_type}
use Rattle.c65_fold.specs.Compute as f
use Rattle.c65_fold.proofs.RangeLaws.{some_is}
use Rattle.c65_meaning.specs.Why.{Why}
use Rattle.c65_meaning.specs.Integers as m
use Rattle.c65_meaning.specs.Store.{Store, Value, Whole, Shape, Number}
use Rattle.c65_meaning.specs.Operators.{number, number_or, test, calculated, binary, unary}
use Rattle.c65_meaning.specs.Shapes.{shape_of}

-- ---- a value of a type is its own remainder

small : (m n r : ℕ) → r ≡ n → n < m / 2 → placed true m r ≡ pos n
small m n r e h = grind (arith, nat_tests)

large : (m n r : ℕ) → r + n + 1 ≡ m → n < m / 2 → placed true m r ≡ negsuc n
large m n r e h = grind (arith, nat_tests)

pub wrap_itself : (t : IntType) (z : ℤ) → InRange t z → wrap_of t z ≡ z
wrap_itself UChar (pos n) r = ap pos (omega (arith, ints, r.low, r.high))
wrap_itself UChar (negsuc n) r = absurd (omega (arith, ints, r.low, r.high))
wrap_itself UShort (pos n) r = ap pos (omega (arith, ints, r.low, r.high))
wrap_itself UShort (negsuc n) r = absurd (omega (arith, ints, r.low, r.high))
wrap_itself UInt (pos n) r = ap pos (omega (arith, ints, r.low, r.high))
wrap_itself UInt (negsuc n) r = absurd (omega (arith, ints, r.low, r.high))
wrap_itself ULong (pos n) r = ap pos (omega (arith, ints, r.low, r.high))
wrap_itself ULong (negsuc n) r = absurd (omega (arith, ints, r.low, r.high))
wrap_itself SChar (pos n) r = let h : n < 128 = omega (arith, ints, r.low, r.high) in small 256 n (n % 256) (omega arith) (omega arith)
wrap_itself SChar (negsuc n) r = let h : n < 128 = omega (arith, ints, r.low, r.high) in large 256 n (256 - 1 - n % 256) (omega arith) (omega arith)
wrap_itself Short (pos n) r = let h : n < 32768 = omega (arith, ints, r.low, r.high) in small 65536 n (n % 65536) (omega arith) (omega arith)
wrap_itself Short (negsuc n) r = let h : n < 32768 = omega (arith, ints, r.low, r.high) in large 65536 n (65536 - 1 - n % 65536) (omega arith) (omega arith)
wrap_itself Int (pos n) r = let h : n < 32768 = omega (arith, ints, r.low, r.high) in small 65536 n (n % 65536) (omega arith) (omega arith)
wrap_itself Int (negsuc n) r = let h : n < 32768 = omega (arith, ints, r.low, r.high) in large 65536 n (65536 - 1 - n % 65536) (omega arith) (omega arith)
wrap_itself Long (pos n) r = let h : n < 2147483648 = omega (arith, ints, r.low, r.high) in small 4294967296 n (n % 4294967296) (omega arith) (omega arith)
wrap_itself Long (negsuc n) r = let h : n < 2147483648 = omega (arith, ints, r.low, r.high) in large 4294967296 n (4294967296 - 1 - n % 4294967296) (omega arith) (omega arith)

-- ---- one operand

zero_itself : (t : IntType) → wrap_of t (pos 0) ≡ pos 0
zero_itself SChar = refl
zero_itself UChar = refl
zero_itself Short = refl
zero_itself UShort = refl
zero_itself Int = refl
zero_itself UInt = refl
zero_itself Long = refl
zero_itself ULong = refl

negated_same : (t : IntType) (x : ℤ) → InRange t x → difference_of t (wrap_of t (pos 0)) (wrap_of t x) ≡ m.negated_of t x
negated_same t x r =
    let e : pos 0 -ℤ x ≡ neg_ℤ x = omega (arith, ints) in
    ap (λ y. wrap_of t (y -ℤ wrap_of t x)) (zero_itself t) ∙ ap (λ y. wrap_of t (pos 0 -ℤ y)) (wrap_itself t x r) ∙ ap (wrap_of t) e

-- with the sign, all bits are -1
signed_complement : (t : IntType) (x : ℤ) → wrap_of t (negsuc 0) ≡ negsuc 0 → InRange t x → difference_of t (wrap_of t (negsuc 0)) (wrap_of t x) ≡ m.complement_of t x
signed_complement t x h r =
    let e : negsuc 0 -ℤ x ≡ neg_ℤ x -ℤ pos 1 = omega (arith, ints) in
    ap (λ y. wrap_of t (y -ℤ wrap_of t x)) h ∙ ap (λ y. wrap_of t (negsuc 0 -ℤ y)) (wrap_itself t x r) ∙ ap (wrap_of t) e

taken_off : (g n : ℕ) → n ≤ g → pos g -ℤ pos n ≡ pos (g - n)
taken_off g n h = omega (arith, ints)

below_zero : (n : ℕ) → neg_ℤ (pos n) -ℤ pos 1 ≡ negsuc n
below_zero n = omega (arith, ints)

-- and without it the greatest value
unsigned_complement : (t : IntType) (g n : ℕ) → wrap_of t (negsuc 0) ≡ pos g → n ≤ g → wrap_of t (pos (g - n)) ≡ wrap_of t (negsuc n) → InRange t (pos n) → difference_of t (wrap_of t (negsuc 0)) (wrap_of t (pos n)) ≡ m.complement_of t (pos n)
unsigned_complement t g n h s w r =
    ap (λ y. wrap_of t (y -ℤ wrap_of t (pos n))) h ∙ ap (λ y. wrap_of t (pos g -ℤ y)) (wrap_itself t (pos n) r)
    ∙ ap (wrap_of t) (taken_off g n s) ∙ w ∙ sym (ap (wrap_of t) (below_zero n))

complement_same : (t : IntType) (x : ℤ) → InRange t x → difference_of t (wrap_of t (negsuc 0)) (wrap_of t x) ≡ m.complement_of t x
complement_same SChar x r = signed_complement SChar x refl r
complement_same Short x r = signed_complement Short x refl r
complement_same Int x r = signed_complement Int x refl r
complement_same Long x r = signed_complement Long x refl r
complement_same UChar (pos n) r = let h : n ≤ 255 = omega (arith, ints, r.high) in unsigned_complement UChar 255 n refl h (ap pos (omega arith)) r
complement_same UChar (negsuc n) r = absurd (omega (arith, ints, r.low))
complement_same UShort (pos n) r = let h : n ≤ 65535 = omega (arith, ints, r.high) in unsigned_complement UShort 65535 n refl h (ap pos (omega arith)) r
complement_same UShort (negsuc n) r = absurd (omega (arith, ints, r.low))
complement_same UInt (pos n) r = let h : n ≤ 65535 = omega (arith, ints, r.high) in unsigned_complement UInt 65535 n refl h (ap pos (omega arith)) r
complement_same UInt (negsuc n) r = absurd (omega (arith, ints, r.low))
complement_same ULong (pos n) r = let h : n ≤ 4294967295 = omega (arith, ints, r.high) in unsigned_complement ULong 4294967295 n refl h (ap pos (omega arith)) r
complement_same ULong (negsuc n) r = absurd (omega (arith, ints, r.low))

-- an integer constant of a type
pub record IsConstant (t : QTy) (x : ℤ) : Type 0 where
  pub kind : IntType
  pub typed : HasInt t kind
  pub range : InRange kind x

shape_is : (types : TypesTy) (t : QTy) (k : IntType) → HasInt t k → shape_of types (type_in t) ≡ Number k
shape_is types t k h = ap (λ (q : QTy). shape_of types (type_in q)) h

kind_is : (t : QTy) (j k : IntType) → HasInt t j → number_type (type_in t) ≡ Some k → j ≡ k
kind_is t j k h g = some_is j k (sym (ap (λ (q : QTy). number_type (type_in q)) h) ∙ g)

of_kind : (t : QTy) (x : ℤ) (k : IntType) → IsConstant t x → HasInt t k → InRange k x
of_kind t x k c h = let P : IntType → Type 0 = λ (j : IntType). InRange j x in subst P (kind_is t c.kind k c.typed (ap (λ (q : QTy). number_type (type_in q)) h)) c.range

is_number : ℤ → Result Value Why
is_number z = Ok (Whole z)

truths : (b : Bool) → m.truth b ≡ f.truth b
truths true = refl
truths false = refl

not_same : (s : Store) (shape : Shape) (x z : ℤ) → Some (f.truth (f.is_zero x)) ≡ Some z → unary s ones.Not shape (Whole x) ≡ Ok (Whole z)
not_same s shape (pos zero) z h = ap (λ (y : ℤ). number y) (some_is _ z h)
not_same s shape (pos (suc n)) z h = ap (λ (y : ℤ). number y) (some_is _ z h)
not_same s shape (negsuc n) z h = ap (λ (y : ℤ). number y) (some_is _ z h)

-- the kind of the operand is that of the result
operand_kind : (t a : QTy) (j k : IntType) → HasInt a j → t ≡ a → number_type (type_in t) ≡ Some k → HasInt a k
operand_kind t a j k h e g = let P : IntType → Type 0 = λ (i : IntType). HasInt a i in subst P (kind_is t j k (e ∙ h) g) h

pub unary_same : (types : TypesTy) (s : Store) (op : UnaryOp) (t a : QTy) (k : IntType) (x z : ℤ) → Operand op t a → number_type (type_in t) ≡ Some k → IsConstant a x → f.unary_value op k x ≡ Some z → unary s op (shape_of types (type_in a)) (Whole x) ≡ Ok (Whole z)
unary_same types s ones.Neg t a k x z w g c h =
    let i : HasInt a k = operand_kind t a w.0.0 k w.0.1 w.1 g in
    ap (λ (q : Shape). unary s ones.Neg q (Whole x)) (shape_is types a k i) ∙ ap (λ (y : ℤ). number y) (sym (negated_same k x (of_kind a x k c i)) ∙ some_is _ z h)
unary_same types s ones.BitNot t a k x z w g c h =
    let i : HasInt a k = operand_kind t a w.0.0 k w.0.1 w.1 g in
    ap (λ (q : Shape). unary s ones.BitNot q (Whole x)) (shape_is types a k i) ∙ ap (λ (y : ℤ). number y) (sym (complement_same k x (of_kind a x k c i)) ∙ some_is _ z h)
unary_same types s ones.Not t a k x z w g c h = not_same s (shape_of types (type_in a)) x z h
unary_same types s _ t a k x z w g c h = absurd w

-- ---- two operands

equal_same : (a b : ℤ) → m.same_number a b ≡ (int_le a b && int_le b a)
equal_same a b = grind (arith, ints, nat_tests)

tested : (b : Bool) (z : ℤ) → Some (f.truth b) ≡ Some z → test b ≡ Ok (Whole z)
tested b z h = ap (λ (y : ℤ). number y) (truths b ∙ some_is _ z h)

calculated_same : (op : BinaryOp) (k : IntType) (x y z : ℤ) → f.computed op k x y x y ≡ Some z → calculated op k x y ≡ Ok (Whole z)
calculated_same ops.Mul k x y z h = ap (λ (v : ℤ). number v) (some_is _ z h)
calculated_same ops.Div k x y z h = ap (number_or _) h
calculated_same ops.Rem k x y z h = ap (number_or _) h
calculated_same ops.Add k x y z h = ap (λ (v : ℤ). number v) (some_is _ z h)
calculated_same ops.Sub k x y z h = ap (λ (v : ℤ). number v) (some_is _ z h)
calculated_same ops.Shl k x y z h = ap (number_or _) h
calculated_same ops.Shr k x y z h = ap (number_or _) h
calculated_same ops.Lt k x y z h = tested (int_lt x y) z h
calculated_same ops.Gt k x y z h = tested (int_lt y x) z h
calculated_same ops.Le k x y z h = tested (int_le x y) z h
calculated_same ops.Ge k x y z h = tested (int_le y x) z h
calculated_same ops.Eq k x y z h = ap test (equal_same x y) ∙ tested (int_le x y && int_le y x) z h
calculated_same ops.Ne k x y z h = ap (λ (b : Bool). test (not b)) (equal_same x y) ∙ tested (not (int_le x y && int_le y x)) z h
calculated_same ops.BitAnd k x y z h = ap (λ (v : ℤ). number v) (some_is _ z h)
calculated_same ops.BitXor k x y z h = ap (λ (v : ℤ). number v) (some_is _ z h)
calculated_same ops.BitOr k x y z h = ap (λ (v : ℤ). number v) (some_is _ z h)

-- operands of two integer types
on_numbers : (types : TypesTy) (s : Store) (op : BinaryOp) (a b : QTy) (j i : IntType) (x y z : ℤ) → HasInt a j → HasInt b i → calculated op j x y ≡ Ok (Whole z) → binary s op (shape_of types (type_in a)) (shape_of types (type_in b)) (Whole x) (Whole y) ≡ Ok (Whole z)
on_numbers types s op a b j i x y z h g e =
    ap (λ (q : Shape). binary s op q (shape_of types (type_in b)) (Whole x) (Whole y)) (shape_is types a j h)
    ∙ ap (λ (q : Shape). binary s op (Number j) q (Whole x) (Whole y)) (shape_is types b i g) ∙ e

-- what folding computes, on operands that are values of the type
unwrapped : (op : BinaryOp) (k : IntType) (x y z : ℤ) → InRange k x → InRange k y → f.binary_value op k x y ≡ Some z → f.computed op k x y x y ≡ Some z
unwrapped op k x y z v w h =
    sym (ap (λ (a : ℤ). f.computed op k a (wrap_of k y) x y) (wrap_itself k x v) ∙ ap (λ (b : ℤ). f.computed op k x b x y) (wrap_itself k y w)) ∙ h

alike_same : (types : TypesTy) (s : Store) (op : BinaryOp) (t a b : QTy) (k : IntType) (x y z : ℤ) → AreAlike t a b → number_type (type_in t) ≡ Some k → IsConstant a x → IsConstant b y → f.binary_value op k x y ≡ Some z → binary s op (shape_of types (type_in a)) (shape_of types (type_in b)) (Whole x) (Whole y) ≡ Ok (Whole z)
alike_same types s op t a b k x y z w g c d h =
    let e : w.kind ≡ k = kind_is t w.kind k w.result g in
    let P : QTy → IntType → Type 0 = λ (q : QTy) (i : IntType). HasInt q i in
    let i : HasInt a k = subst (P a) e w.left in
    let j : HasInt b k = subst (P b) e w.right in
    on_numbers types s op a b k k x y z i j (calculated_same op k x y z (unwrapped op k x y z (of_kind a x k c i) (of_kind b y k d j) h))

-- a shift takes its count as it is
left_same : (k : IntType) (x y z : ℤ) → InRange k x → f.binary_value ops.Shl k x y ≡ Some z → calculated ops.Shl k x y ≡ Ok (Whole z)
left_same k x y z v h = calculated_same ops.Shl k x y z (sym (ap (λ (a : ℤ). f.computed ops.Shl k a y x y) (wrap_itself k x v)) ∙ h)

right_same : (k : IntType) (x y z : ℤ) → InRange k x → f.binary_value ops.Shr k x y ≡ Some z → calculated ops.Shr k x y ≡ Ok (Whole z)
right_same k x y z v h = calculated_same ops.Shr k x y z (sym (ap (λ (a : ℤ). f.computed ops.Shr k a y x y) (wrap_itself k x v)) ∙ h)

no_pointer : {A : Type 0} (t : QTy) (x : ℤ) → IsConstant t x → IsPointer t → A
no_pointer t x c p = let e : number_type (int c.kind) ≡ number_type (pointer p.0) = ap (λ (q : QTy). number_type (type_in q)) (sym c.typed ∙ p.1) in cc

compared_same : (types : TypesTy) (s : Store) (op : BinaryOp) (t a b : QTy) (x y z : ℤ) → AreCompared t a b → IsConstant a x → IsConstant b y → ((j : IntType) → calculated op j x y ≡ Ok (Whole z)) → binary s op (shape_of types (type_in a)) (shape_of types (type_in b)) (Whole x) (Whole y) ≡ Ok (Whole z)
compared_same types s op t a b x y z (AreCompared.numbers j i q h g) c d e = on_numbers types s op a b j j x y z h g (e j)
compared_same types s op t a b x y z (AreCompared.pointers q h g) c d e = no_pointer a x c h

added_same : (types : TypesTy) (u : UnitTy) (s : Store) (t a b : QTy) (k : IntType) (x y z : ℤ) → AreAdded u t a b → number_type (type_in t) ≡ Some k → IsConstant a x → IsConstant b y → f.binary_value ops.Add k x y ≡ Some z → binary s ops.Add (shape_of types (type_in a)) (shape_of types (type_in b)) (Whole x) (Whole y) ≡ Ok (Whole z)
added_same types u s t a b k x y z (AreAdded.numbers w) g c d h = alike_same types s ops.Add t a b k x y z w g c d h
added_same types u s t a b k x y z (AreAdded.pointer_first w i e) g c d h = no_pointer a x c w.0
added_same types u s t a b k x y z (AreAdded.pointer_last i w e) g c d h = no_pointer b y d w.0

subtracted_same : (types : TypesTy) (u : UnitTy) (s : Store) (t a b : QTy) (k : IntType) (x y z : ℤ) → AreSubtracted u t a b → number_type (type_in t) ≡ Some k → IsConstant a x → IsConstant b y → f.binary_value ops.Sub k x y ≡ Some z → binary s ops.Sub (shape_of types (type_in a)) (shape_of types (type_in b)) (Whole x) (Whole y) ≡ Ok (Whole z)
subtracted_same types u s t a b k x y z (AreSubtracted.numbers w) g c d h = alike_same types s ops.Sub t a b k x y z w g c d h
subtracted_same types u s t a b k x y z (AreSubtracted.pointer_first w i e) g c d h = no_pointer a x c w.0
subtracted_same types u s t a b k x y z (AreSubtracted.pointers w i e) g c d h = no_pointer a x c w.0

pub binary_same : (types : TypesTy) (u : UnitTy) (s : Store) (op : BinaryOp) (t a b : QTy) (k : IntType) (x y z : ℤ) → Operands u op t a b → number_type (type_in t) ≡ Some k → IsConstant a x → IsConstant b y → f.binary_value op k x y ≡ Some z → binary s op (shape_of types (type_in a)) (shape_of types (type_in b)) (Whole x) (Whole y) ≡ Ok (Whole z)
binary_same types u s ops.Mul t a b k x y z w g c d h = alike_same types s ops.Mul t a b k x y z w g c d h
binary_same types u s ops.Div t a b k x y z w g c d h = alike_same types s ops.Div t a b k x y z w g c d h
binary_same types u s ops.Rem t a b k x y z w g c d h = alike_same types s ops.Rem t a b k x y z w g c d h
binary_same types u s ops.Add t a b k x y z w g c d h = added_same types u s t a b k x y z w g c d h
binary_same types u s ops.Sub t a b k x y z w g c d h = subtracted_same types u s t a b k x y z w g c d h
binary_same types u s ops.Shl t a b k x y z w g c d h =
    let i : HasInt a k = operand_kind t a w.left.0 k w.left.1 w.result g in
    on_numbers types s ops.Shl a b k w.right.0 x y z i w.right.1 (left_same k x y z (of_kind a x k c i) h)
binary_same types u s ops.Shr t a b k x y z w g c d h =
    let i : HasInt a k = operand_kind t a w.left.0 k w.left.1 w.result g in
    on_numbers types s ops.Shr a b k w.right.0 x y z i w.right.1 (right_same k x y z (of_kind a x k c i) h)
binary_same types u s ops.Lt t a b k x y z w g c d h = compared_same types s ops.Lt t a b x y z w c d (λ j. calculated_same ops.Lt j x y z h)
binary_same types u s ops.Gt t a b k x y z w g c d h = compared_same types s ops.Gt t a b x y z w c d (λ j. calculated_same ops.Gt j x y z h)
binary_same types u s ops.Le t a b k x y z w g c d h = compared_same types s ops.Le t a b x y z w c d (λ j. calculated_same ops.Le j x y z h)
binary_same types u s ops.Ge t a b k x y z w g c d h = compared_same types s ops.Ge t a b x y z w c d (λ j. calculated_same ops.Ge j x y z h)
binary_same types u s ops.Eq t a b k x y z w g c d h = compared_same types s ops.Eq t a b x y z w c d (λ j. calculated_same ops.Eq j x y z h)
binary_same types u s ops.Ne t a b k x y z w g c d h = compared_same types s ops.Ne t a b x y z w c d (λ j. calculated_same ops.Ne j x y z h)
binary_same types u s ops.BitAnd t a b k x y z w g c d h = alike_same types s ops.BitAnd t a b k x y z w g c d h
binary_same types u s ops.BitXor t a b k x y z w g c d h = alike_same types s ops.BitXor t a b k x y z w g c d h
binary_same types u s ops.BitOr t a b k x y z w g c d h = alike_same types s ops.BitOr t a b k x y z w g c d h
