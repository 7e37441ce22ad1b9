-- What operators make of well typed operands is well typed.
use Rattle.std.proofs.Common.{◌≡◌, ℕ, Bool, true, false, Option, Some, None, Ok, Err, refl, sym, ap, ◌∙◌, subst}
use Rattle.std.specs.Prelude.{Result, ◌&&◌, not, is_some}
use Rattle.std.proofs.lemmas.Bool.{and_parts}
use Rattle.c65_base.specs.declared.refusal.Pos.{Pos}
use Rattle.c65_base.specs.declared.operators.BinaryOp.{BinaryOp}
use Rattle.c65_base.specs.declared.operators.BinaryOp.TheVariants as ops
use Rattle.c65_base.specs.Answers.{Fault, ◌>>=◌}
use Rattle.c65_ints.specs.declared.types.IntType.{IntType}
use Rattle.c65_ints.specs.declared.types.IntType.TheVariants as ints
use Rattle.c65_ctype.specs.Trees.{Ty, void, int, pointer, array, tag, function, QTy, qual, type_in, TypesTy, LayoutTy}
use Rattle.c65_ctype.specs.Tables.{layout_at}
use Rattle.c65_ctype.specs.Sizes.{size_at, qualified_size_at, elements, finished_size}
use Rattle.c65_csem.specs.Trees.{Typed, type_of, UnitTy}
use Rattle.c65_csem.specs.Places.{is_place, is_scalar, is_void, plain, is_promoted, is_sized, is_sized_in, moves}
use Rattle.c65_csem.specs.Typed.{IsInt, IsValue, IsMoved, AreAlike, AreShifted, AreCompared, AreAdded, AreSubtracted, Operands, IsTyped}
use Rattle.c65_elab_convert.specs.Categories.{category_of}
use Rattle.c65_elab_convert.specs.Values.{value_of, promotion, common_of, as_plain_of, as_int_of}
use Rattle.c65_elab_convert.specs.Pointers.{agree, is_null, meet_in_void, target_size_by, target_size}
use Rattle.c65_elab_convert.specs.Pairs.{match_by}
use Rattle.c65_elab_convert.specs.Numbers.{joined, on_numbers}
use Rattle.c65_elab_convert.specs.Binaries.{moved, moved_by, sum_by, point_alike, apart, difference_by, points_to_function, order, equality_by, on_others, values_by, binary_of}
use Rattle.c65_elab_law.specs.WellTyped.{IsOf}
use Rattle.c65_elab_law.proofs.ValueLaws.{Had, had, had_scalar, value_pointer, as_plain_is, as_int_is, promotion_stays, common_stays}

pub bind_ok : {A B : Type 0} (r : Result A Fault) (f : A → Result B Fault) (z : B) → (r >>= f) ≡ Ok z → (x : A) × (r ≡ Ok x) × (f x ≡ Ok z)
bind_ok (Ok x) f z h = (x, refl, h)
bind_ok (Err e) f z h = cc

pub ok_is : {A : Type 0} (x y : A) → ◌≡◌ {A = Result A Fault} (Ok x) (Ok y) → x ≡ y
ok_is x y h = cc

pub not_ok : {A : Type 0} (f : Fault) (y : A) → ◌≡◌ {A = Result A Fault} (Err f) (Ok y) → ⊥
not_ok f y h = cc

is_finished : (p : Pos) (l : Option LayoutTy) (m : ℕ) → finished_size p l ≡ Ok m → is_some l ≡ true
is_finished p None m h = absurd (not_ok _ _ h)
is_finished p (Some l) m h = refl

-- a type whose size is told has one
mutual
  pub has_size : (types : TypesTy) (p : Pos) (t : Ty) (m : ℕ) → size_at types p t ≡ Ok m → is_sized types t ≡ true
  has_size types p void m h = absurd (not_ok _ _ h)
  has_size types p (int k) m h = refl
  has_size types p (pointer q) m h = refl
  has_size types p (array q None) m h =
      let (x, hx, hy) = bind_ok (qualified_size_at types p q) (elements p None) m h in absurd (not_ok _ _ hy)
  has_size types p (array q (Some k)) m h =
      let (x, hx, hy) = bind_ok (qualified_size_at types p q) (elements p (Some k)) m h in has_size_in types p q x hx
  has_size types p (tag i) m h = is_finished p (layout_at types i) m h
  has_size types p (function f) m h = absurd (not_ok _ _ h)

  pub has_size_in : (types : TypesTy) (p : Pos) (q : QTy) (m : ℕ) → qualified_size_at types p q ≡ Ok m → is_sized_in types q ≡ true
  has_size_in types p (qual t c v) m h = has_size types p t m h

pub target_moves : (types : TypesTy) (p : Pos) (t : Ty) (m : ℕ) → target_size_by types p t ≡ Ok m → moves types t ≡ true
target_moves types p void m h = absurd (not_ok _ _ h)
target_moves types p (int k) m h = absurd (not_ok _ _ h)
target_moves types p (pointer q) m h = has_size_in types p q m h
target_moves types p (array q k) m h = absurd (not_ok _ _ h)
target_moves types p (tag i) m h = absurd (not_ok _ _ h)
target_moves types p (function f) m h = absurd (not_ok _ _ h)

-- an operand that was taken: well typed, and what a value is
pub record IsTaken (u : UnitTy) (v : Typed) : Type 0 where
  pub typed : IsTyped u v
  pub had : Had v

pub taken : (u : UnitTy) (e : Typed) → IsTyped u e → IsTaken u (value_of e)
taken u e w = record { typed = (had u e w).0; had = (had u e w).1 }

pub is_number : (v : Typed) (k : IntType) → Had v → type_in (type_of v) ≡ int k → IsValue v
is_number v k h t = had_scalar v h (ap is_scalar t)

pub is_address : (v : Typed) (q : QTy) → Had v → type_in (type_of v) ≡ pointer q → IsValue v
is_address v q h t = had_scalar v h (ap is_scalar t)

-- an operator on two integers
numbers_are : (u : UnitTy) (op : BinaryOp) (j k : IntType) (a b : Typed) → IsTyped u a → IsValue a → IsTyped u b → IsValue b → is_promoted j ≡ true → is_promoted k ≡ true → IsTyped u (on_numbers op j k a b)
numbers_are u op j k a b wa va wb vb pj pk = by_op op
  where
    x : (i : IntType) → IsOf u (plain (int i)) (as_int_of i a)
    x i = as_int_is u i a wa va

    y : (i : IntType) → IsOf u (plain (int i)) (as_int_of i b)
    y i = as_int_is u i b wb vb

    c : IntType
    c = common_of j k

    alike : AreAlike (plain (int (common_of j k))) (type_of (as_int_of (common_of j k) a)) (type_of (as_int_of (common_of j k) b))
    alike = record { kind = common_of j k; promoted = common_stays j k; result = refl; left = (x (common_of j k)).ty; right = (y (common_of j k)).ty }

    compared : AreCompared (plain (int ints.Int)) (type_of (as_int_of (common_of j k) a)) (type_of (as_int_of (common_of j k) b))
    compared = AreCompared.numbers (common_of j k) (common_stays j k) refl (x (common_of j k)).ty (y (common_of j k)).ty

    shifted : AreShifted (plain (int j)) (type_of (as_int_of j a)) (type_of (as_int_of k b))
    shifted = record { left = (j, (x j).ty, pj); right = (k, (y k).ty, pk); result = sym (x j).ty }

    by_op : (op : BinaryOp) → IsTyped u (on_numbers op j k a b)
    by_op ops.Mul = ((x (common_of j k)).typed, (y (common_of j k)).typed, (x (common_of j k)).value, (y (common_of j k)).value, alike)
    by_op ops.Div = ((x (common_of j k)).typed, (y (common_of j k)).typed, (x (common_of j k)).value, (y (common_of j k)).value, alike)
    by_op ops.Rem = ((x (common_of j k)).typed, (y (common_of j k)).typed, (x (common_of j k)).value, (y (common_of j k)).value, alike)
    by_op ops.Add = ((x (common_of j k)).typed, (y (common_of j k)).typed, (x (common_of j k)).value, (y (common_of j k)).value, AreAdded.numbers alike)
    by_op ops.Sub = ((x (common_of j k)).typed, (y (common_of j k)).typed, (x (common_of j k)).value, (y (common_of j k)).value, AreSubtracted.numbers alike)
    by_op ops.Shl = ((x j).typed, (y k).typed, (x j).value, (y k).value, shifted)
    by_op ops.Shr = ((x j).typed, (y k).typed, (x j).value, (y k).value, shifted)
    by_op ops.Lt = ((x (common_of j k)).typed, (y (common_of j k)).typed, (x (common_of j k)).value, (y (common_of j k)).value, compared)
    by_op ops.Gt = ((x (common_of j k)).typed, (y (common_of j k)).typed, (x (common_of j k)).value, (y (common_of j k)).value, compared)
    by_op ops.Le = ((x (common_of j k)).typed, (y (common_of j k)).typed, (x (common_of j k)).value, (y (common_of j k)).value, compared)
    by_op ops.Ge = ((x (common_of j k)).typed, (y (common_of j k)).typed, (x (common_of j k)).value, (y (common_of j k)).value, compared)
    by_op ops.Eq = ((x (common_of j k)).typed, (y (common_of j k)).typed, (x (common_of j k)).value, (y (common_of j k)).value, compared)
    by_op ops.Ne = ((x (common_of j k)).typed, (y (common_of j k)).typed, (x (common_of j k)).value, (y (common_of j k)).value, compared)
    by_op ops.BitAnd = ((x (common_of j k)).typed, (y (common_of j k)).typed, (x (common_of j k)).value, (y (common_of j k)).value, alike)
    by_op ops.BitXor = ((x (common_of j k)).typed, (y (common_of j k)).typed, (x (common_of j k)).value, (y (common_of j k)).value, alike)
    by_op ops.BitOr = ((x (common_of j k)).typed, (y (common_of j k)).typed, (x (common_of j k)).value, (y (common_of j k)).value, alike)

-- a pointer plus or minus an integer
moved_typed : (u : UnitTy) (p : Pos) (op : BinaryOp) (k : IntType) (a b e : Typed) (q : QTy) → IsTyped u a → IsValue a → IsTyped u b → IsValue b → type_of a ≡ plain (pointer q) → ((t x y : QTy) → IsMoved u x → IsInt y → t ≡ x → Operands u op t x y) → moved u.types p op k a b ≡ Ok e → IsTyped u e
moved_typed u p op k a b e q wa va wb vb ha make h =
    let (m, hm, he) = bind_ok (target_size u.types p a) (λ size. Ok (joined op (type_of a) a (as_int_of (promotion u.types b k) b))) e h in
    let y = as_int_is u (promotion u.types b k) b wb vb in
    subst (IsTyped u) (ok_is _ _ he) (wa, y.typed, va.1, y.value, make (type_of a) (type_of a) (type_of (as_int_of (promotion u.types b k) b)) ((q, ha), target_moves u.types p (type_in (type_of a)) m hm) (promotion u.types b k, y.ty) refl)

-- an integer plus a pointer
moved_by_typed : (u : UnitTy) (p : Pos) (k : IntType) (a b e : Typed) (q : QTy) → IsTyped u a → IsValue a → IsTyped u b → IsValue b → type_of b ≡ plain (pointer q) → moved_by u.types p k a b ≡ Ok e → IsTyped u e
moved_by_typed u p k a b e q wa va wb vb hb h =
    let (m, hm, he) = bind_ok (target_size u.types p b) (λ size. Ok (joined ops.Add (type_of b) (as_int_of (promotion u.types a k) a) b)) e h in
    let x = as_int_is u (promotion u.types a k) a wa va in
    subst (IsTyped u) (ok_is _ _ he) (x.typed, wb, x.value, vb.1, AreAdded.pointer_last (promotion u.types a k, x.ty) ((q, hb), target_moves u.types p (type_in (type_of b)) m hm) refl)

sum_typed : (u : UnitTy) (p : Pos) (a b e : Typed) → IsTaken u a → IsTaken u b → (s t : Ty) → type_in (type_of a) ≡ s → type_in (type_of b) ≡ t → sum_by u.types p (category_of s) (category_of t) a b ≡ Ok e → IsTyped u e
sum_typed u p a b e wa wb void t hs ht h = absurd (not_ok _ _ h)
sum_typed u p a b e wa wb (int k1) void hs ht h = absurd (not_ok _ _ h)
sum_typed u p a b e wa wb (int k1) (int k2) hs ht h = absurd (not_ok _ _ h)
sum_typed u p a b e wa wb (int k1) (pointer q2) hs ht h =
    let vb = is_address b q2 wb.had ht in
    moved_by_typed u p k1 a b e q2 wa.typed (is_number a k1 wa.had hs) wb.typed vb (value_pointer b q2 vb ht) h
sum_typed u p a b e wa wb (int k1) (array q2 m2) hs ht h = absurd (not_ok _ _ h)
sum_typed u p a b e wa wb (int k1) (tag i2) hs ht h = absurd (not_ok _ _ h)
sum_typed u p a b e wa wb (int k1) (function f2) hs ht h = absurd (not_ok _ _ h)
sum_typed u p a b e wa wb (pointer q1) void hs ht h = absurd (not_ok _ _ h)
sum_typed u p a b e wa wb (pointer q1) (int k2) hs ht h =
    let va = is_address a q1 wa.had hs in
    moved_typed u p ops.Add k2 a b e q1 wa.typed va wb.typed (is_number b k2 wb.had ht) (value_pointer a q1 va hs) (λ t x y m i r. AreAdded.pointer_first m i r) h
sum_typed u p a b e wa wb (pointer q1) (pointer q2) hs ht h = absurd (not_ok _ _ h)
sum_typed u p a b e wa wb (pointer q1) (array q2 m2) hs ht h = absurd (not_ok _ _ h)
sum_typed u p a b e wa wb (pointer q1) (tag i2) hs ht h = absurd (not_ok _ _ h)
sum_typed u p a b e wa wb (pointer q1) (function f2) hs ht h = absurd (not_ok _ _ h)
sum_typed u p a b e wa wb (array q1 m1) t hs ht h = absurd (not_ok _ _ h)
sum_typed u p a b e wa wb (tag i1) t hs ht h = absurd (not_ok _ _ h)
sum_typed u p a b e wa wb (function f1) t hs ht h = absurd (not_ok _ _ h)

-- two pointers to compatible types
record AreAddresses (s t : Ty) : Type 0 where
  first : QTy
  is_first : s ≡ pointer first
  second : QTy
  is_second : t ≡ pointer second

both_addresses : (types : TypesTy) (s t : Ty) → point_alike types s t ≡ true → AreAddresses s t
both_addresses types void t h = absurd (let x : false ≡ true = h in cc)
both_addresses types (int k1) t h = absurd (let x : false ≡ true = h in cc)
both_addresses types (pointer q1) void h = absurd (let x : false ≡ true = h in cc)
both_addresses types (pointer q1) (int k2) h = absurd (let x : false ≡ true = h in cc)
both_addresses types (pointer q1) (pointer q2) h = record { first = q1; is_first = refl; second = q2; is_second = refl }
both_addresses types (pointer q1) (array q2 m2) h = absurd (let x : false ≡ true = h in cc)
both_addresses types (pointer q1) (tag i2) h = absurd (let x : false ≡ true = h in cc)
both_addresses types (pointer q1) (function f2) h = absurd (let x : false ≡ true = h in cc)
both_addresses types (array q1 m1) t h = absurd (let x : false ≡ true = h in cc)
both_addresses types (tag i1) t h = absurd (let x : false ≡ true = h in cc)
both_addresses types (function f1) t h = absurd (let x : false ≡ true = h in cc)

apart_typed : (u : UnitTy) (p : Pos) (a b e : Typed) → IsTaken u a → IsTaken u b → apart u.types p a b ≡ Ok e → IsTyped u e
apart_typed u p a b e wa wb h = tested (point_alike u.types (type_in (type_of a)) (type_in (type_of b))) refl
  where
    pair : Typed
    pair = joined ops.Sub (plain (int ints.Int)) a b

    tested : (c : Bool) → point_alike u.types (type_in (type_of a)) (type_in (type_of b)) ≡ c → IsTyped u e
    tested false x = absurd (not_ok _ _ (rw x at h))
    tested true x =
        let two = both_addresses u.types (type_in (type_of a)) (type_in (type_of b)) x in
        let va = is_address a two.first wa.had two.is_first in
        let vb = is_address b two.second wb.had two.is_second in
        let (m, hm, h1) = bind_ok (target_size u.types p a) (λ m. target_size u.types p b >>= λ k. Ok (joined ops.Sub (plain (int ints.Int)) a b)) e (rw x at h) in
        let (k, hk, h2) = bind_ok (target_size u.types p b) (λ k. Ok (joined ops.Sub (plain (int ints.Int)) a b)) e h1 in
        subst (IsTyped u) (ok_is _ _ h2) (wa.typed, wb.typed, va.1, vb.1, AreSubtracted.pointers ((two.first, value_pointer a two.first va two.is_first), target_moves u.types p (type_in (type_of a)) m hm) ((two.second, value_pointer b two.second vb two.is_second), target_moves u.types p (type_in (type_of b)) k hk) refl)

difference_typed : (u : UnitTy) (p : Pos) (a b e : Typed) → IsTaken u a → IsTaken u b → (s t : Ty) → type_in (type_of a) ≡ s → type_in (type_of b) ≡ t → difference_by u.types p (category_of s) (category_of t) a b ≡ Ok e → IsTyped u e
difference_typed u p a b e wa wb void t hs ht h = apart_typed u p a b e wa wb h
difference_typed u p a b e wa wb (int k1) t hs ht h = apart_typed u p a b e wa wb h
difference_typed u p a b e wa wb (pointer q1) void hs ht h = apart_typed u p a b e wa wb h
difference_typed u p a b e wa wb (pointer q1) (int k2) hs ht h =
    let va = is_address a q1 wa.had hs in
    moved_typed u p ops.Sub k2 a b e q1 wa.typed va wb.typed (is_number b k2 wb.had ht) (value_pointer a q1 va hs) (λ t x y m i r. AreSubtracted.pointer_first m i r) h
difference_typed u p a b e wa wb (pointer q1) (pointer q2) hs ht h = apart_typed u p a b e wa wb h
difference_typed u p a b e wa wb (pointer q1) (array q2 m2) hs ht h = apart_typed u p a b e wa wb h
difference_typed u p a b e wa wb (pointer q1) (tag i2) hs ht h = apart_typed u p a b e wa wb h
difference_typed u p a b e wa wb (pointer q1) (function f2) hs ht h = apart_typed u p a b e wa wb h
difference_typed u p a b e wa wb (array q1 m1) t hs ht h = apart_typed u p a b e wa wb h
difference_typed u p a b e wa wb (tag i1) t hs ht h = apart_typed u p a b e wa wb h
difference_typed u p a b e wa wb (function f1) t hs ht h = apart_typed u p a b e wa wb h

-- a comparison of two pointers
compared_typed : (u : UnitTy) (op : BinaryOp) (a b : Typed) (q r : QTy) → IsTyped u a → IsTyped u b → is_place a ≡ false → is_place b ≡ false → type_of a ≡ plain (pointer q) → type_of b ≡ plain (pointer r) → ((t x y : QTy) → AreCompared t x y → Operands u op t x y) → IsTyped u (joined op (plain (int ints.Int)) a b)
compared_typed u op a b q r wa wb pa pb ha hb make = (wa, wb, pa, pb, make (plain (int ints.Int)) (type_of a) (type_of b) (AreCompared.pointers refl (q, ha) (r, hb)))

order_typed : (u : UnitTy) (p : Pos) (op : BinaryOp) (a b e : Typed) → IsTaken u a → IsTaken u b → ((t x y : QTy) → AreCompared t x y → Operands u op t x y) → order u.types p op a b ≡ Ok e → IsTyped u e
order_typed u p op a b e wa wb make h = tested (point_alike u.types (type_in (type_of a)) (type_in (type_of b)) && not (points_to_function (type_in (type_of a)))) refl
  where
    tested : (c : Bool) → (point_alike u.types (type_in (type_of a)) (type_in (type_of b)) && not (points_to_function (type_in (type_of a)))) ≡ c → IsTyped u e
    tested false x = absurd (not_ok _ _ (rw x at h))
    tested true x =
        let alike = and_parts (point_alike u.types (type_in (type_of a)) (type_in (type_of b))) (not (points_to_function (type_in (type_of a)))) x in
        let two = both_addresses u.types (type_in (type_of a)) (type_in (type_of b)) alike.0 in
        let va = is_address a two.first wa.had two.is_first in
        let vb = is_address b two.second wb.had two.is_second in
        subst (IsTyped u) (ok_is _ _ (rw x at h)) (compared_typed u op a b two.first two.second wa.typed wb.typed va.1 vb.1 (value_pointer a two.first va two.is_first) (value_pointer b two.second vb two.is_second) make)

-- the left operand takes the type of the right one
left_typed : (u : UnitTy) (op : BinaryOp) (a b e : Typed) (r : QTy) → IsTyped u a → IsValue a → IsTyped u b → IsValue b → type_in (type_of b) ≡ pointer r → ((t x y : QTy) → AreCompared t x y → Operands u op t x y) → joined op (plain (int ints.Int)) (as_plain_of (type_in (type_of b)) a) b ≡ e → IsTyped u e
left_typed u op a b e r wa va wb vb hb make h =
    let x = as_plain_is u (type_in (type_of b)) a wa va vb.0.0 in
    subst (IsTyped u) h (compared_typed u op (as_plain_of (type_in (type_of b)) a) b r r x.typed wb x.value vb.1 (x.ty ∙ ap plain hb) (value_pointer b r vb hb) make)

right_typed : (u : UnitTy) (op : BinaryOp) (a b e : Typed) (q : QTy) → IsTyped u a → IsValue a → IsTyped u b → IsValue b → type_in (type_of a) ≡ pointer q → ((t x y : QTy) → AreCompared t x y → Operands u op t x y) → joined op (plain (int ints.Int)) a (as_plain_of (type_in (type_of a)) b) ≡ e → IsTyped u e
right_typed u op a b e q wa va wb vb ha make h =
    let y = as_plain_is u (type_in (type_of a)) b wb vb va.0.0 in
    subst (IsTyped u) h (compared_typed u op a (as_plain_of (type_in (type_of a)) b) q q wa y.typed va.1 y.value (value_pointer a q va ha) (y.ty ∙ ap plain ha) make)

-- two pointers, by the tests of their match
matched_typed : (u : UnitTy) (p : Pos) (op : BinaryOp) (a b e : Typed) (q r : QTy) → IsTyped u a → IsValue a → IsTyped u b → IsValue b → type_in (type_of a) ≡ pointer q → type_in (type_of b) ≡ pointer r → ((t x y : QTy) → AreCompared t x y → Operands u op t x y) → equality_by p op (match_by u.types (pointer q) (pointer r) a b) a b ≡ Ok e → IsTyped u e
matched_typed u p op a b e q r wa va wb vb ha hb make h = tested (agree u.types q r) (is_null a) (is_null b) (meet_in_void q r) (is_void (type_in q)) refl refl refl refl refl
  where
    tested : (c d f g i : Bool) → agree u.types q r ≡ c → is_null a ≡ d → is_null b ≡ f → meet_in_void q r ≡ g → is_void (type_in q) ≡ i → IsTyped u e
    tested true d f g i x y z w v = subst (IsTyped u) (ok_is _ _ (rw x at h)) (compared_typed u op a b q r wa wb va.1 vb.1 (value_pointer a q va ha) (value_pointer b r vb hb) make)
    tested false true f g i x y z w v = left_typed u op a b e r wa va wb vb hb make (ok_is _ _ (rw (x, y) at h))
    tested false false true g i x y z w v = right_typed u op a b e q wa va wb vb ha make (ok_is _ _ (rw (x, y, z) at h))
    tested false false false true true x y z w v = right_typed u op a b e q wa va wb vb ha make (ok_is _ _ (rw (x, y, z, w, v) at h))
    tested false false false true false x y z w v = left_typed u op a b e r wa va wb vb hb make (ok_is _ _ (rw (x, y, z, w, v) at h))
    tested false false false false i x y z w v = absurd (not_ok _ _ (rw (x, y, z, w) at h))

equality_typed : (u : UnitTy) (p : Pos) (op : BinaryOp) (a b e : Typed) → IsTaken u a → IsTaken u b → ((t x y : QTy) → AreCompared t x y → Operands u op t x y) → (s t : Ty) → type_in (type_of a) ≡ s → type_in (type_of b) ≡ t → equality_by p op (match_by u.types s t a b) a b ≡ Ok e → IsTyped u e
equality_typed u p op a b e wa wb make void t hs ht h = absurd (not_ok _ _ h)
equality_typed u p op a b e wa wb make (int k1) void hs ht h = absurd (not_ok _ _ h)
equality_typed u p op a b e wa wb make (int k1) (int k2) hs ht h = absurd (not_ok _ _ h)
equality_typed u p op a b e wa wb make (int k1) (pointer q2) hs ht h = tested (is_null a) refl
  where
    tested : (c : Bool) → is_null a ≡ c → IsTyped u e
    tested true x = left_typed u op a b e q2 wa.typed (is_number a k1 wa.had hs) wb.typed (is_address b q2 wb.had ht) ht make (ok_is _ _ (rw x at h))
    tested false x = absurd (not_ok _ _ (rw x at h))
equality_typed u p op a b e wa wb make (int k1) (array q2 m2) hs ht h = absurd (not_ok _ _ h)
equality_typed u p op a b e wa wb make (int k1) (tag i2) hs ht h = absurd (not_ok _ _ h)
equality_typed u p op a b e wa wb make (int k1) (function f2) hs ht h = absurd (not_ok _ _ h)
equality_typed u p op a b e wa wb make (pointer q1) void hs ht h = absurd (not_ok _ _ h)
equality_typed u p op a b e wa wb make (pointer q1) (int k2) hs ht h = tested (is_null b) refl
  where
    tested : (c : Bool) → is_null b ≡ c → IsTyped u e
    tested true x = right_typed u op a b e q1 wa.typed (is_address a q1 wa.had hs) wb.typed (is_number b k2 wb.had ht) hs make (ok_is _ _ (rw x at h))
    tested false x = absurd (not_ok _ _ (rw x at h))
equality_typed u p op a b e wa wb make (pointer q1) (pointer q2) hs ht h = matched_typed u p op a b e q1 q2 wa.typed (is_address a q1 wa.had hs) wb.typed (is_address b q2 wb.had ht) hs ht make h
equality_typed u p op a b e wa wb make (pointer q1) (array q2 m2) hs ht h = absurd (not_ok _ _ h)
equality_typed u p op a b e wa wb make (pointer q1) (tag i2) hs ht h = absurd (not_ok _ _ h)
equality_typed u p op a b e wa wb make (pointer q1) (function f2) hs ht h = absurd (not_ok _ _ h)
equality_typed u p op a b e wa wb make (array q1 m1) t hs ht h = absurd (not_ok _ _ h)
equality_typed u p op a b e wa wb make (tag i1) t hs ht h = absurd (not_ok _ _ h)
equality_typed u p op a b e wa wb make (function f1) t hs ht h = absurd (not_ok _ _ h)

others_typed : (u : UnitTy) (p : Pos) (op : BinaryOp) (a b e : Typed) → IsTaken u a → IsTaken u b → on_others u.types p op a b ≡ Ok e → IsTyped u e
others_typed u p ops.Mul a b e wa wb h = absurd (not_ok _ _ h)
others_typed u p ops.Div a b e wa wb h = absurd (not_ok _ _ h)
others_typed u p ops.Rem a b e wa wb h = absurd (not_ok _ _ h)
others_typed u p ops.Add a b e wa wb h = sum_typed u p a b e wa wb (type_in (type_of a)) (type_in (type_of b)) refl refl h
others_typed u p ops.Sub a b e wa wb h = difference_typed u p a b e wa wb (type_in (type_of a)) (type_in (type_of b)) refl refl h
others_typed u p ops.Shl a b e wa wb h = absurd (not_ok _ _ h)
others_typed u p ops.Shr a b e wa wb h = absurd (not_ok _ _ h)
others_typed u p ops.Lt a b e wa wb h = order_typed u p ops.Lt a b e wa wb (λ t x y c. c) h
others_typed u p ops.Gt a b e wa wb h = order_typed u p ops.Gt a b e wa wb (λ t x y c. c) h
others_typed u p ops.Le a b e wa wb h = order_typed u p ops.Le a b e wa wb (λ t x y c. c) h
others_typed u p ops.Ge a b e wa wb h = order_typed u p ops.Ge a b e wa wb (λ t x y c. c) h
others_typed u p ops.Eq a b e wa wb h = equality_typed u p ops.Eq a b e wa wb (λ t x y c. c) (type_in (type_of a)) (type_in (type_of b)) refl refl h
others_typed u p ops.Ne a b e wa wb h = equality_typed u p ops.Ne a b e wa wb (λ t x y c. c) (type_in (type_of a)) (type_in (type_of b)) refl refl h
others_typed u p ops.BitAnd a b e wa wb h = absurd (not_ok _ _ h)
others_typed u p ops.BitXor a b e wa wb h = absurd (not_ok _ _ h)
others_typed u p ops.BitOr a b e wa wb h = absurd (not_ok _ _ h)

values_typed : (u : UnitTy) (p : Pos) (op : BinaryOp) (a b e : Typed) → IsTaken u a → IsTaken u b → (s t : Ty) → type_in (type_of a) ≡ s → type_in (type_of b) ≡ t → values_by u.types p op (category_of s) (category_of t) a b ≡ Ok e → IsTyped u e
values_typed u p op a b e wa wb void t hs ht h = others_typed u p op a b e wa wb h
values_typed u p op a b e wa wb (int k1) void hs ht h = others_typed u p op a b e wa wb h
values_typed u p op a b e wa wb (int k1) (int k2) hs ht h = subst (IsTyped u) (ok_is _ _ h) (numbers_are u op (promotion u.types a k1) (promotion u.types b k2) a b wa.typed (is_number a k1 wa.had hs) wb.typed (is_number b k2 wb.had ht) (promotion_stays u.types a k1) (promotion_stays u.types b k2))
values_typed u p op a b e wa wb (int k1) (pointer q2) hs ht h = others_typed u p op a b e wa wb h
values_typed u p op a b e wa wb (int k1) (array q2 m2) hs ht h = others_typed u p op a b e wa wb h
values_typed u p op a b e wa wb (int k1) (tag i2) hs ht h = others_typed u p op a b e wa wb h
values_typed u p op a b e wa wb (int k1) (function f2) hs ht h = others_typed u p op a b e wa wb h
values_typed u p op a b e wa wb (pointer q1) t hs ht h = others_typed u p op a b e wa wb h
values_typed u p op a b e wa wb (array q1 m1) t hs ht h = others_typed u p op a b e wa wb h
values_typed u p op a b e wa wb (tag i1) t hs ht h = others_typed u p op a b e wa wb h
values_typed u p op a b e wa wb (function f1) t hs ht h = others_typed u p op a b e wa wb h

pub binary_typed : (u : UnitTy) (p : Pos) (op : BinaryOp) (a b e : Typed) → IsTyped u a → IsTyped u b → binary_of u.types p op a b ≡ Ok e → IsTyped u e
binary_typed u p op a b e wa wb h = values_typed u p op (value_of a) (value_of b) e (taken u a wa) (taken u b wb) (type_in (type_of (value_of a))) (type_in (type_of (value_of b))) refl refl h
