-- What assignments and steps make of well typed operands is well typed.
use Rattle.std.proofs.Common.{◌≡◌, Bool, true, false, Ok, refl, sym, ap, ◌∙◌, subst}
use Rattle.std.specs.Prelude.{◌||◌, not}
use Rattle.std.proofs.lemmas.Bool.{or_parts, not-false}
use Rattle.c65_base.specs.declared.refusal.Pos.{Pos}
use Rattle.c65_base.specs.declared.operators.BinaryOp.{BinaryOp}
use Rattle.c65_base.specs.declared.operators.BinaryOp.TheVariants as ops
use Rattle.c65_base.specs.declared.operators.StepKind.{StepKind}
use Rattle.c65_ints.specs.declared.types.IntType.{IntType}
use Rattle.c65_ctype.specs.Trees.{Ty, void, int, pointer, array, tag, function, QTy, qual, type_in, TypesTy}
use Rattle.c65_csem.specs.Trees as n
use Rattle.c65_csem.specs.Trees.{Typed, node, Node, type_of, UnitTy}
use Rattle.c65_csem.specs.Places.{is_place, is_scalar, is_tag, plain, plain_of, is_promoted, moves}
use Rattle.c65_csem.specs.Typed.{HasInt, IsMoved, IsValue, IsStepped, Computes, Steps, IsTyped}
use Rattle.c65_elab_convert.specs.Categories.{category_of, is_lvalue}
use Rattle.c65_elab_convert.specs.Values.{value_of, promotion, place_promotion, common_of, as_plain_of, as_int_of}
use Rattle.c65_elab_convert.specs.Pointers.{target_size}
use Rattle.c65_elab_convert.specs.Constness.{is_modifiable}
use Rattle.c65_elab_convert.specs.Changes.{takes_by, takes, assigned_value, assigned_of, put, assign_of, computed, on_numbers, moving, on_pointer, changed_by, assign_op_of, stepped, step_by, step_of}
use Rattle.c65_elab_law.specs.WellTyped.{IsAssigned}
use Rattle.c65_elab_law.proofs.ValueLaws.{equal_is, plain_in, type_plain, as_plain_is, as_int_is, promotion_stays, place_promotion_stays, common_stays}
use Rattle.c65_elab_law.proofs.OperatorLaws.{bind_ok, ok_is, not_ok, target_moves, IsTaken, taken, is_number, is_address}
use Rattle.c65_elab_law.proofs.UnaryLaws.{lvalue_is_place}

takes_typed : (u : UnitTy) (v : Typed) → IsTaken u v → (s t : Ty) → type_in (type_of v) ≡ t → takes_by u.types s t v ≡ true → IsAssigned u s (as_plain_of s v)
takes_typed u v w void t ht h = absurd (let x : false ≡ true = h in cc)
takes_typed u v w (int k1) void ht h = absurd (let x : false ≡ true = h in cc)
takes_typed u v w (int k1) (int k2) ht h = IsAssigned.value refl (as_plain_is u (int k1) v w.typed (is_number v k2 w.had ht) refl)
takes_typed u v w (int k1) (pointer q2) ht h = absurd (let x : false ≡ true = h in cc)
takes_typed u v w (int k1) (array q2 m2) ht h = absurd (let x : false ≡ true = h in cc)
takes_typed u v w (int k1) (tag i2) ht h = absurd (let x : false ≡ true = h in cc)
takes_typed u v w (int k1) (function f2) ht h = absurd (let x : false ≡ true = h in cc)
takes_typed u v w (pointer q1) void ht h = absurd (let x : false ≡ true = h in cc)
takes_typed u v w (pointer q1) (int k2) ht h = IsAssigned.value refl (as_plain_is u (pointer q1) v w.typed (is_number v k2 w.had ht) refl)
takes_typed u v w (pointer q1) (pointer q2) ht h = IsAssigned.value refl (as_plain_is u (pointer q1) v w.typed (is_address v q2 w.had ht) refl)
takes_typed u v w (pointer q1) (array q2 m2) ht h = absurd (let x : false ≡ true = h in cc)
takes_typed u v w (pointer q1) (tag i2) ht h = absurd (let x : false ≡ true = h in cc)
takes_typed u v w (pointer q1) (function f2) ht h = absurd (let x : false ≡ true = h in cc)
takes_typed u v w (array q1 m1) t ht h = absurd (let x : false ≡ true = h in cc)
takes_typed u v w (tag i1) void ht h = absurd (let x : false ≡ true = h in cc)
takes_typed u v w (tag i1) (int k2) ht h = absurd (let x : false ≡ true = h in cc)
takes_typed u v w (tag i1) (pointer q2) ht h = absurd (let x : false ≡ true = h in cc)
takes_typed u v w (tag i1) (array q2 m2) ht h = absurd (let x : false ≡ true = h in cc)
takes_typed u v w (tag i1) (tag i2) ht h =
    let x : as_plain_of (tag i1) v ≡ v = rw (ht, h) refl in
    rw x (IsAssigned.whole refl w.typed (ht ∙ sym (ap tag (equal_is i1 i2 h))))
takes_typed u v w (tag i1) (function f2) ht h = absurd (let x : false ≡ true = h in cc)
takes_typed u v w (function f1) t ht h = absurd (let x : false ≡ true = h in cc)

assigned_value_typed : (u : UnitTy) (p : Pos) (t : Ty) (v r : Typed) → IsTaken u v → assigned_value u.types p t v ≡ Ok r → IsAssigned u t r
assigned_value_typed u p t v r w h = tested (takes u.types t v) refl
  where
    tested : (b : Bool) → takes u.types t v ≡ b → IsAssigned u t r
    tested false x = absurd (not_ok _ _ (rw x at h))
    tested true x = subst (IsAssigned u t) (ok_is _ _ (rw x at h)) (takes_typed u v w t (type_in (type_of v)) refl x)

pub assigned_typed : (u : UnitTy) (p : Pos) (t : Ty) (e r : Typed) → IsTyped u e → assigned_of u.types p t e ≡ Ok r → IsAssigned u t r
assigned_typed u p t e r w h = assigned_value_typed u p t (value_of e) r (taken u e w) h

-- a modifiable lvalue is a place
modifiable_is_place : (types : TypesTy) (t : QTy) (e : Node) → is_modifiable types (node t e) ≡ true → is_place (node t e) ≡ true
modifiable_is_place types (qual t c v) e h = tested (c || not (is_lvalue (node (qual t c v) e))) refl
  where
    tested : (b : Bool) → (c || not (is_lvalue (node (qual t c v) e))) ≡ b → is_place (node (qual t c v) e) ≡ true
    tested true x = absurd (let y : false ≡ true = rw x at h in cc)
    tested false x = lvalue_is_place (qual t c v) e (not-false (is_lvalue (node (qual t c v) e)) (or_parts c (not (is_lvalue (node (qual t c v) e))) x).1)

put_typed : (u : UnitTy) (a r : Typed) → IsTyped u a → is_place a ≡ true → IsAssigned u (type_in (type_of a)) r → IsTyped u (put a r)
put_typed u a r wa pa (IsAssigned.value s w) = rw (not_tag (type_in (type_of a)) s) (wa, w.typed, (pa, s), refl, w.value, w.ty ∙ sym (plain_in (type_of a)))
  where
    not_tag : (t : Ty) → is_scalar t ≡ true → is_tag t ≡ false
    not_tag void s = refl
    not_tag (int k) s = refl
    not_tag (pointer q) s = refl
    not_tag (array q m) s = refl
    not_tag (tag i) s = absurd (let x : false ≡ true = s in cc)
    not_tag (function f) s = refl
put_typed u a r wa pa (IsAssigned.whole g w same) = rw g (wa, w, pa, ap is_tag (type_plain (type_of a)) ∙ g, refl, plain_in (type_of a) ∙ ap plain (sym same) ∙ sym (plain_in (type_of r)))

pub assign_typed : (u : UnitTy) (p : Pos) (a b e : Typed) → IsTyped u a → IsTyped u b → assign_of u.types p a b ≡ Ok e → IsTyped u e
assign_typed u p (node t x) b e wa wb h = tested (is_modifiable u.types (node t x)) refl
  where
    tested : (c : Bool) → is_modifiable u.types (node t x) ≡ c → IsTyped u e
    tested false y = absurd (not_ok _ _ (rw y at h))
    tested true y =
        let (r, hr, g) = bind_ok (assigned_of u.types p (type_in t) b) (λ r. Ok (put (node t x) r)) e (rw y at h) in
        subst (IsTyped u) (ok_is _ _ g) (put_typed u (node t x) r wa (modifiable_is_place u.types t x y) (assigned_typed u p (type_in t) b r wb hr))

-- a compound assignment to a number
computed_typed : (u : UnitTy) (op : BinaryOp) (k j i : IntType) (a b : Typed) → IsTyped u a → is_place a ≡ true → type_in (type_of a) ≡ int i → IsTyped u b → IsValue b → is_promoted k ≡ true → ((t : QTy) → HasInt t j → Computes op k t) → IsTyped u (computed op k j a b)
computed_typed u op k j i a b wa pa ha wb vb pk make =
    let y = as_int_is u j b wb vb in
    (wa, y.typed, (pa, ap is_scalar ha), (i, plain_in (type_of a) ∙ ap plain ha), refl, y.value, pk, make (type_of (as_int_of j b)) y.ty)

numbers_typed : (u : UnitTy) (p : Pos) (op : BinaryOp) (j k i : IntType) (a b e : Typed) → IsTyped u a → is_place a ≡ true → type_in (type_of a) ≡ int i → IsTyped u b → IsValue b → is_promoted j ≡ true → is_promoted k ≡ true → on_numbers p op j k a b ≡ Ok e → IsTyped u e
numbers_typed u p ops.Mul j k i a b e wa pa ha wb vb pj pk h = subst (IsTyped u) (ok_is _ _ h) (computed_typed u ops.Mul (common_of j k) (common_of j k) i a b wa pa ha wb vb (common_stays j k) (λ t x. x))
numbers_typed u p ops.Div j k i a b e wa pa ha wb vb pj pk h = subst (IsTyped u) (ok_is _ _ h) (computed_typed u ops.Div (common_of j k) (common_of j k) i a b wa pa ha wb vb (common_stays j k) (λ t x. x))
numbers_typed u p ops.Rem j k i a b e wa pa ha wb vb pj pk h = subst (IsTyped u) (ok_is _ _ h) (computed_typed u ops.Rem (common_of j k) (common_of j k) i a b wa pa ha wb vb (common_stays j k) (λ t x. x))
numbers_typed u p ops.Add j k i a b e wa pa ha wb vb pj pk h = subst (IsTyped u) (ok_is _ _ h) (computed_typed u ops.Add (common_of j k) (common_of j k) i a b wa pa ha wb vb (common_stays j k) (λ t x. x))
numbers_typed u p ops.Sub j k i a b e wa pa ha wb vb pj pk h = subst (IsTyped u) (ok_is _ _ h) (computed_typed u ops.Sub (common_of j k) (common_of j k) i a b wa pa ha wb vb (common_stays j k) (λ t x. x))
numbers_typed u p ops.Shl j k i a b e wa pa ha wb vb pj pk h = subst (IsTyped u) (ok_is _ _ h) (computed_typed u ops.Shl j k i a b wa pa ha wb vb pj (λ t x. (k, x, pk)))
numbers_typed u p ops.Shr j k i a b e wa pa ha wb vb pj pk h = subst (IsTyped u) (ok_is _ _ h) (computed_typed u ops.Shr j k i a b wa pa ha wb vb pj (λ t x. (k, x, pk)))
numbers_typed u p ops.Lt j k i a b e wa pa ha wb vb pj pk h = absurd (not_ok _ _ h)
numbers_typed u p ops.Gt j k i a b e wa pa ha wb vb pj pk h = absurd (not_ok _ _ h)
numbers_typed u p ops.Le j k i a b e wa pa ha wb vb pj pk h = absurd (not_ok _ _ h)
numbers_typed u p ops.Ge j k i a b e wa pa ha wb vb pj pk h = absurd (not_ok _ _ h)
numbers_typed u p ops.Eq j k i a b e wa pa ha wb vb pj pk h = absurd (not_ok _ _ h)
numbers_typed u p ops.Ne j k i a b e wa pa ha wb vb pj pk h = absurd (not_ok _ _ h)
numbers_typed u p ops.BitAnd j k i a b e wa pa ha wb vb pj pk h = subst (IsTyped u) (ok_is _ _ h) (computed_typed u ops.BitAnd (common_of j k) (common_of j k) i a b wa pa ha wb vb (common_stays j k) (λ t x. x))
numbers_typed u p ops.BitXor j k i a b e wa pa ha wb vb pj pk h = subst (IsTyped u) (ok_is _ _ h) (computed_typed u ops.BitXor (common_of j k) (common_of j k) i a b wa pa ha wb vb (common_stays j k) (λ t x. x))
numbers_typed u p ops.BitOr j k i a b e wa pa ha wb vb pj pk h = subst (IsTyped u) (ok_is _ _ h) (computed_typed u ops.BitOr (common_of j k) (common_of j k) i a b wa pa ha wb vb (common_stays j k) (λ t x. x))

moved_place : (types : TypesTy) (q : QTy) (a : Typed) → type_in (type_of a) ≡ pointer q → moves types (type_in (type_of a)) ≡ true → (u : UnitTy) → u.types ≡ types → IsMoved u (plain_of (type_of a))
moved_place types q a ha h u same = ((q, plain_in (type_of a) ∙ ap plain ha), ap (moves u.types) (type_plain (type_of a)) ∙ ap (λ (x : TypesTy). moves x (type_in (type_of a))) same ∙ h)

moving_typed : (u : UnitTy) (p : Pos) (op : BinaryOp) (k : IntType) (q : QTy) (a b e : Typed) → IsTyped u a → is_place a ≡ true → type_in (type_of a) ≡ pointer q → IsTyped u b → IsValue b → Steps op → moving u.types p op k a b ≡ Ok e → IsTyped u e
moving_typed u p op k q a b e wa pa ha wb vb s h =
    let (m, hm, g) = bind_ok (target_size u.types p a) (λ size. Ok (node (plain_of (type_of a)) (n.assign_step op a (as_int_of (promotion u.types b k) b)))) e h in
    let y = as_int_is u (promotion u.types b k) b wb vb in
    subst (IsTyped u) (ok_is _ _ g) (wa, y.typed, (pa, ap is_scalar ha), refl, moved_place u.types q a ha (target_moves u.types p (type_in (type_of a)) m hm) u refl, y.value, (promotion u.types b k, y.ty), s)

pointer_typed : (u : UnitTy) (p : Pos) (op : BinaryOp) (k : IntType) (q : QTy) (a b e : Typed) → IsTyped u a → is_place a ≡ true → type_in (type_of a) ≡ pointer q → IsTyped u b → IsValue b → on_pointer u.types p op k a b ≡ Ok e → IsTyped u e
pointer_typed u p ops.Mul k q a b e wa pa ha wb vb h = absurd (not_ok _ _ h)
pointer_typed u p ops.Div k q a b e wa pa ha wb vb h = absurd (not_ok _ _ h)
pointer_typed u p ops.Rem k q a b e wa pa ha wb vb h = absurd (not_ok _ _ h)
pointer_typed u p ops.Add k q a b e wa pa ha wb vb h = moving_typed u p ops.Add k q a b e wa pa ha wb vb tt h
pointer_typed u p ops.Sub k q a b e wa pa ha wb vb h = moving_typed u p ops.Sub k q a b e wa pa ha wb vb tt h
pointer_typed u p ops.Shl k q a b e wa pa ha wb vb h = absurd (not_ok _ _ h)
pointer_typed u p ops.Shr k q a b e wa pa ha wb vb h = absurd (not_ok _ _ h)
pointer_typed u p ops.Lt k q a b e wa pa ha wb vb h = absurd (not_ok _ _ h)
pointer_typed u p ops.Gt k q a b e wa pa ha wb vb h = absurd (not_ok _ _ h)
pointer_typed u p ops.Le k q a b e wa pa ha wb vb h = absurd (not_ok _ _ h)
pointer_typed u p ops.Ge k q a b e wa pa ha wb vb h = absurd (not_ok _ _ h)
pointer_typed u p ops.Eq k q a b e wa pa ha wb vb h = absurd (not_ok _ _ h)
pointer_typed u p ops.Ne k q a b e wa pa ha wb vb h = absurd (not_ok _ _ h)
pointer_typed u p ops.BitAnd k q a b e wa pa ha wb vb h = absurd (not_ok _ _ h)
pointer_typed u p ops.BitXor k q a b e wa pa ha wb vb h = absurd (not_ok _ _ h)
pointer_typed u p ops.BitOr k q a b e wa pa ha wb vb h = absurd (not_ok _ _ h)

changed_typed : (u : UnitTy) (p : Pos) (op : BinaryOp) (a b e : Typed) → IsTyped u a → is_place a ≡ true → IsTaken u b → (s t : Ty) → type_in (type_of a) ≡ s → type_in (type_of b) ≡ t → changed_by u.types p op (category_of s) (category_of t) a b ≡ Ok e → IsTyped u e
changed_typed u p op a b e wa pa wb void t hs ht h = absurd (not_ok _ _ h)
changed_typed u p op a b e wa pa wb (int k1) void hs ht h = absurd (not_ok _ _ h)
changed_typed u p op a b e wa pa wb (int k1) (int k2) hs ht h = numbers_typed u p op (place_promotion u.types a k1) (promotion u.types b k2) k1 a b e wa pa hs wb.typed (is_number b k2 wb.had ht) (place_promotion_stays u.types a k1) (promotion_stays u.types b k2) h
changed_typed u p op a b e wa pa wb (int k1) (pointer q2) hs ht h = absurd (not_ok _ _ h)
changed_typed u p op a b e wa pa wb (int k1) (array q2 m2) hs ht h = absurd (not_ok _ _ h)
changed_typed u p op a b e wa pa wb (int k1) (tag i2) hs ht h = absurd (not_ok _ _ h)
changed_typed u p op a b e wa pa wb (int k1) (function f2) hs ht h = absurd (not_ok _ _ h)
changed_typed u p op a b e wa pa wb (pointer q1) void hs ht h = absurd (not_ok _ _ h)
changed_typed u p op a b e wa pa wb (pointer q1) (int k2) hs ht h = pointer_typed u p op k2 q1 a b e wa pa hs wb.typed (is_number b k2 wb.had ht) h
changed_typed u p op a b e wa pa wb (pointer q1) (pointer q2) hs ht h = absurd (not_ok _ _ h)
changed_typed u p op a b e wa pa wb (pointer q1) (array q2 m2) hs ht h = absurd (not_ok _ _ h)
changed_typed u p op a b e wa pa wb (pointer q1) (tag i2) hs ht h = absurd (not_ok _ _ h)
changed_typed u p op a b e wa pa wb (pointer q1) (function f2) hs ht h = absurd (not_ok _ _ h)
changed_typed u p op a b e wa pa wb (array q1 m1) t hs ht h = absurd (not_ok _ _ h)
changed_typed u p op a b e wa pa wb (tag i1) t hs ht h = absurd (not_ok _ _ h)
changed_typed u p op a b e wa pa wb (function f1) t hs ht h = absurd (not_ok _ _ h)

pub assign_op_typed : (u : UnitTy) (p : Pos) (op : BinaryOp) (a b e : Typed) → IsTyped u a → IsTyped u b → assign_op_of u.types p op a b ≡ Ok e → IsTyped u e
assign_op_typed u p op (node t x) b e wa wb h = tested (is_modifiable u.types (node t x)) refl
  where
    tested : (c : Bool) → is_modifiable u.types (node t x) ≡ c → IsTyped u e
    tested false y = absurd (not_ok _ _ (rw y at h))
    tested true y = changed_typed u p op (node t x) (value_of b) e wa (modifiable_is_place u.types t x y) (taken u b wb) (type_in t) (type_in (type_of (value_of b))) refl refl (rw y at h)

step_by_typed : (u : UnitTy) (p : Pos) (how : StepKind) (a e : Typed) → IsTyped u a → is_place a ≡ true → (s : Ty) → type_in (type_of a) ≡ s → step_by u.types p how (category_of s) a ≡ Ok e → IsTyped u e
step_by_typed u p how a e wa pa void hs h = absurd (not_ok _ _ h)
step_by_typed u p how a e wa pa (int k1) hs h = subst (IsTyped u) (ok_is _ _ h) (wa, (pa, ap is_scalar hs), refl, IsStepped.number (k1, plain_in (type_of a) ∙ ap plain hs))
step_by_typed u p how a e wa pa (pointer q1) hs h =
    let (m, hm, g) = bind_ok (target_size u.types p a) (λ m. Ok (stepped how a)) e h in
    subst (IsTyped u) (ok_is _ _ g) (wa, (pa, ap is_scalar hs), refl, IsStepped.moved (moved_place u.types q1 a hs (target_moves u.types p (type_in (type_of a)) m hm) u refl))
step_by_typed u p how a e wa pa (array q1 m1) hs h = absurd (not_ok _ _ h)
step_by_typed u p how a e wa pa (tag i1) hs h = absurd (not_ok _ _ h)
step_by_typed u p how a e wa pa (function f1) hs h = absurd (not_ok _ _ h)

pub step_typed : (u : UnitTy) (p : Pos) (how : StepKind) (a e : Typed) → IsTyped u a → step_of u.types p how a ≡ Ok e → IsTyped u e
step_typed u p how (node t x) e wa h = tested (is_modifiable u.types (node t x)) refl
  where
    tested : (c : Bool) → is_modifiable u.types (node t x) ≡ c → IsTyped u e
    tested false y = absurd (not_ok _ _ (rw y at h))
    tested true y = step_by_typed u p how (node t x) e wa (modifiable_is_place u.types t x y) (type_in t) refl (rw y at h)
