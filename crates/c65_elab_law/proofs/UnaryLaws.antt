-- What operators of one operand, casts, conditions and choices make of well typed operands is well typed.
use Rattle.std.proofs.Common.{◌≡◌, Bool, true, false, Ok, refl, sym, ap, ◌∙◌, subst}
use Rattle.std.specs.Prelude.{◌&&◌, not}
use Rattle.std.proofs.lemmas.Bool.{and_parts}
use Rattle.c65_base.specs.declared.refusal.Pos.{Pos}
use Rattle.c65_base.specs.declared.operators.UnaryOp.{UnaryOp}
use Rattle.c65_base.specs.declared.operators.UnaryOp.TheVariants as ones
use Rattle.c65_ints.specs.declared.types.IntType.{IntType}
use Rattle.c65_ctype.specs.Trees.{Ty, void, int, pointer, array, tag, function, QTy, type_in}
use Rattle.c65_csem.specs.Trees as n
use Rattle.c65_csem.specs.Trees.{Typed, node, Node, type_of, UnitTy}
use Rattle.c65_csem.specs.Places.{is_place, is_scalar, is_tag, is_void, plain, plain_of, is_bit_field, is_registered}
use Rattle.c65_csem.specs.Typed.{IsPromoted, IsValue, IsArm, Operand, Converts, IsTyped}
use Rattle.c65_elab_convert.specs.Categories.{category_of, is_scalar_type, is_scalar_category, is_lvalue, is_spilled}
use Rattle.c65_elab_convert.specs.Values.{value_of, is_narrow_value, promotion, as_int_of, voided}
use Rattle.c65_elab_convert.specs.Unaries as unary
use Rattle.c65_elab_convert.specs.Casts as casts
use Rattle.c65_elab_convert.specs.Logic as logic
use Rattle.c65_elab_law.specs.WellTyped.{IsCondition, IsSwitch}
use Rattle.c65_elab_law.proofs.ValueLaws.{type_plain, Had, had_scalar, value_pointer, as_plain_is, as_int_is, promotion_stays}
use Rattle.c65_elab_law.proofs.OperatorLaws.{ok_is, not_ok, IsTaken, taken, is_number, is_address}

-- `-` and `~`
changed_typed : (u : UnitTy) (op : UnaryOp) (k : IntType) (e : Typed) → IsTyped u e → IsValue e → ((t a : QTy) → IsPromoted a → t ≡ a → Operand op t a) → IsTyped u (unary.changed op (promotion u.types e k) e)
changed_typed u op k e w v make =
    let x = as_int_is u (promotion u.types e k) e w v in
    (x.typed, x.value, make (plain (int (promotion u.types e k))) (type_of (as_int_of (promotion u.types e k) e)) (promotion u.types e k, x.ty, promotion_stays u.types e k) (sym x.ty))

on_value_typed : (u : UnitTy) (p : Pos) (op : UnaryOp) (e r : Typed) → IsTaken u e → (t : Ty) → type_in (type_of e) ≡ t → unary.value_by u.types p op (category_of t) e ≡ Ok r → IsTyped u r
on_value_typed u p ones.Neg e r w void ht h = absurd (not_ok _ _ h)
on_value_typed u p ones.Neg e r w (int k) ht h = subst (IsTyped u) (ok_is _ _ h) (changed_typed u ones.Neg k e w.typed (is_number e k w.had ht) (λ t a x y. (x, y)))
on_value_typed u p ones.Neg e r w (pointer q) ht h = absurd (not_ok _ _ h)
on_value_typed u p ones.Neg e r w (array q m) ht h = absurd (not_ok _ _ h)
on_value_typed u p ones.Neg e r w (tag i) ht h = absurd (not_ok _ _ h)
on_value_typed u p ones.Neg e r w (function f) ht h = absurd (not_ok _ _ h)
on_value_typed u p ones.BitNot e r w void ht h = absurd (not_ok _ _ h)
on_value_typed u p ones.BitNot e r w (int k) ht h = subst (IsTyped u) (ok_is _ _ h) (changed_typed u ones.BitNot k e w.typed (is_number e k w.had ht) (λ t a x y. (x, y)))
on_value_typed u p ones.BitNot e r w (pointer q) ht h = absurd (not_ok _ _ h)
on_value_typed u p ones.BitNot e r w (array q m) ht h = absurd (not_ok _ _ h)
on_value_typed u p ones.BitNot e r w (tag i) ht h = absurd (not_ok _ _ h)
on_value_typed u p ones.BitNot e r w (function f) ht h = absurd (not_ok _ _ h)
on_value_typed u p ones.Plus e r w void ht h = absurd (not_ok _ _ h)
on_value_typed u p ones.Plus e r w (int k) ht h = subst (IsTyped u) (ok_is _ _ h) (as_int_is u (promotion u.types e k) e w.typed (is_number e k w.had ht)).typed
on_value_typed u p ones.Plus e r w (pointer q) ht h = absurd (not_ok _ _ h)
on_value_typed u p ones.Plus e r w (array q m) ht h = absurd (not_ok _ _ h)
on_value_typed u p ones.Plus e r w (tag i) ht h = absurd (not_ok _ _ h)
on_value_typed u p ones.Plus e r w (function f) ht h = absurd (not_ok _ _ h)
on_value_typed u p ones.Not e r w void ht h = absurd (not_ok _ _ h)
on_value_typed u p ones.Not e r w (int k) ht h =
    let v = is_number e k w.had ht in
    subst (IsTyped u) (ok_is _ _ h) (w.typed, v.1, (refl, v.0))
on_value_typed u p ones.Not e r w (pointer q) ht h =
    let v = is_address e q w.had ht in
    subst (IsTyped u) (ok_is _ _ h) (w.typed, v.1, (refl, v.0))
on_value_typed u p ones.Not e r w (array q m) ht h = absurd (not_ok _ _ h)
on_value_typed u p ones.Not e r w (tag i) ht h = absurd (not_ok _ _ h)
on_value_typed u p ones.Not e r w (function f) ht h = absurd (not_ok _ _ h)
on_value_typed u p ones.Deref e r w t ht h = absurd (not_ok _ _ h)
on_value_typed u p ones.Address e r w t ht h = absurd (not_ok _ _ h)

pointed_typed : (u : UnitTy) (p : Pos) (e r : Typed) → IsTaken u e → (t : Ty) → type_in (type_of e) ≡ t → unary.pointed_by p (unary.target_of t) e ≡ Ok r → IsTyped u r
pointed_typed u p e r w void ht h = absurd (not_ok _ _ h)
pointed_typed u p e r w (int k) ht h = absurd (not_ok _ _ h)
pointed_typed u p e r w (pointer q) ht h =
    let v = is_address e q w.had ht in
    subst (IsTyped u) (ok_is _ _ h) (w.typed, v.1, value_pointer e q v ht)
pointed_typed u p e r w (array q m) ht h = absurd (not_ok _ _ h)
pointed_typed u p e r w (tag i) ht h = absurd (not_ok _ _ h)
pointed_typed u p e r w (function f) ht h = absurd (not_ok _ _ h)

pub deref_typed : (u : UnitTy) (p : Pos) (e r : Typed) → IsTyped u e → unary.deref_of p e ≡ Ok r → IsTyped u r
deref_typed u p e r w h = pointed_typed u p (value_of e) r (taken u e w) (type_in (type_of (value_of e))) refl h

-- what has an address is a place
pub lvalue_is_place : (t : QTy) (e : Node) → is_lvalue (node t e) ≡ true → is_place (node t e) ≡ true
lvalue_is_place t (n.constant z) h = absurd (let x : false ≡ true = h in cc)
lvalue_is_place t n.null h = absurd (let x : false ≡ true = h in cc)
lvalue_is_place t (n.literal i) h = refl
lvalue_is_place t (n.object i) h = refl
lvalue_is_place t (n.func i) h = absurd (let x : false ≡ true = h in cc)
lvalue_is_place t (n.deref e) h = refl
lvalue_is_place t (n.member e m) h = refl
lvalue_is_place t (n.load e) h = absurd (let x : false ≡ true = h in cc)
lvalue_is_place t (n.address e) h = absurd (let x : false ≡ true = h in cc)
lvalue_is_place t (n.decay e) h = absurd (let x : false ≡ true = h in cc)
lvalue_is_place t (n.convert e) h = absurd (let x : false ≡ true = h in cc)
lvalue_is_place t (n.unary op e) h = absurd (let x : false ≡ true = h in cc)
lvalue_is_place t (n.binary op a b) h = absurd (let x : false ≡ true = h in cc)
lvalue_is_place t (n.both a b) h = absurd (let x : false ≡ true = h in cc)
lvalue_is_place t (n.either a b) h = absurd (let x : false ≡ true = h in cc)
lvalue_is_place t (n.choice x a b) h = absurd (let x : false ≡ true = h in cc)
lvalue_is_place t (n.comma a b) h = absurd (let x : false ≡ true = h in cc)
lvalue_is_place t (n.assign a b) h = absurd (let x : false ≡ true = h in cc)
lvalue_is_place t (n.assign_op op k a b) h = absurd (let x : false ≡ true = h in cc)
lvalue_is_place t (n.assign_step op a b) h = absurd (let x : false ≡ true = h in cc)
lvalue_is_place t (n.step how a) h = absurd (let x : false ≡ true = h in cc)
lvalue_is_place t (n.copy a b) h = absurd (let x : false ≡ true = h in cc)
lvalue_is_place t (n.call f es) h = absurd (let x : false ≡ true = h in cc)
lvalue_is_place t (n.pack e) h = absurd (let x : false ≡ true = h in cc)
lvalue_is_place t (n.spill i e) h = absurd (let x : false ≡ true = h in cc)
lvalue_is_place t n.rest h = absurd (let x : false ≡ true = h in cc)

address_is_place : (t : QTy) (e : Node) → unary.has_address (node t e) ≡ true → is_place (node t e) ≡ true
address_is_place t (n.constant z) h = lvalue_is_place t (n.constant z) (and_parts (is_lvalue (node t (n.constant z))) (not (is_void (type_in t))) h).0
address_is_place t n.null h = lvalue_is_place t n.null (and_parts (is_lvalue (node t n.null)) (not (is_void (type_in t))) h).0
address_is_place t (n.literal i) h = lvalue_is_place t (n.literal i) (and_parts (is_lvalue (node t (n.literal i))) (not (is_void (type_in t))) h).0
address_is_place t (n.object i) h = lvalue_is_place t (n.object i) (and_parts (is_lvalue (node t (n.object i))) (not (is_void (type_in t))) h).0
address_is_place t (n.func i) h = refl
address_is_place t (n.deref e) h = lvalue_is_place t (n.deref e) (and_parts (is_lvalue (node t (n.deref e))) (not (is_void (type_in t))) h).0
address_is_place t (n.member e m) h = lvalue_is_place t (n.member e m) (and_parts (is_lvalue (node t (n.member e m))) (not (is_void (type_in t))) h).0
address_is_place t (n.load e) h = lvalue_is_place t (n.load e) (and_parts (is_lvalue (node t (n.load e))) (not (is_void (type_in t))) h).0
address_is_place t (n.address e) h = lvalue_is_place t (n.address e) (and_parts (is_lvalue (node t (n.address e))) (not (is_void (type_in t))) h).0
address_is_place t (n.decay e) h = lvalue_is_place t (n.decay e) (and_parts (is_lvalue (node t (n.decay e))) (not (is_void (type_in t))) h).0
address_is_place t (n.convert e) h = lvalue_is_place t (n.convert e) (and_parts (is_lvalue (node t (n.convert e))) (not (is_void (type_in t))) h).0
address_is_place t (n.unary op e) h = lvalue_is_place t (n.unary op e) (and_parts (is_lvalue (node t (n.unary op e))) (not (is_void (type_in t))) h).0
address_is_place t (n.binary op a b) h = lvalue_is_place t (n.binary op a b) (and_parts (is_lvalue (node t (n.binary op a b))) (not (is_void (type_in t))) h).0
address_is_place t (n.both a b) h = lvalue_is_place t (n.both a b) (and_parts (is_lvalue (node t (n.both a b))) (not (is_void (type_in t))) h).0
address_is_place t (n.either a b) h = lvalue_is_place t (n.either a b) (and_parts (is_lvalue (node t (n.either a b))) (not (is_void (type_in t))) h).0
address_is_place t (n.choice x a b) h = lvalue_is_place t (n.choice x a b) (and_parts (is_lvalue (node t (n.choice x a b))) (not (is_void (type_in t))) h).0
address_is_place t (n.comma a b) h = lvalue_is_place t (n.comma a b) (and_parts (is_lvalue (node t (n.comma a b))) (not (is_void (type_in t))) h).0
address_is_place t (n.assign a b) h = lvalue_is_place t (n.assign a b) (and_parts (is_lvalue (node t (n.assign a b))) (not (is_void (type_in t))) h).0
address_is_place t (n.assign_op op k a b) h = lvalue_is_place t (n.assign_op op k a b) (and_parts (is_lvalue (node t (n.assign_op op k a b))) (not (is_void (type_in t))) h).0
address_is_place t (n.assign_step op a b) h = lvalue_is_place t (n.assign_step op a b) (and_parts (is_lvalue (node t (n.assign_step op a b))) (not (is_void (type_in t))) h).0
address_is_place t (n.step how a) h = lvalue_is_place t (n.step how a) (and_parts (is_lvalue (node t (n.step how a))) (not (is_void (type_in t))) h).0
address_is_place t (n.copy a b) h = lvalue_is_place t (n.copy a b) (and_parts (is_lvalue (node t (n.copy a b))) (not (is_void (type_in t))) h).0
address_is_place t (n.call f es) h = lvalue_is_place t (n.call f es) (and_parts (is_lvalue (node t (n.call f es))) (not (is_void (type_in t))) h).0
address_is_place t (n.pack e) h = lvalue_is_place t (n.pack e) (and_parts (is_lvalue (node t (n.pack e))) (not (is_void (type_in t))) h).0
address_is_place t (n.spill i e) h = lvalue_is_place t (n.spill i e) (and_parts (is_lvalue (node t (n.spill i e))) (not (is_void (type_in t))) h).0
address_is_place t n.rest h = lvalue_is_place t n.rest (and_parts (is_lvalue (node t n.rest)) (not (is_void (type_in t))) h).0

pub address_typed : (u : UnitTy) (p : Pos) (register : Bool) (t : QTy) (e : Node) (r : Typed) → IsTyped u (node t e) → is_registered u (node t e) ≡ register → unary.address_of u.types p register (node t e) ≡ Ok r → IsTyped u r
address_typed u p register t e r w g h = tested (is_spilled (node t e)) (unary.has_address (node t e)) (is_bit_field u.types (node t e)) register refl refl refl g h
  where
    tested : (s a b c : Bool) → is_spilled (node t e) ≡ s → unary.has_address (node t e) ≡ a → is_bit_field u.types (node t e) ≡ b → is_registered u (node t e) ≡ c → unary.address_of u.types p c (node t e) ≡ Ok r → IsTyped u r
    tested true a b c s x y z h = absurd (not_ok _ _ (rw s at h))
    tested false false b c s x y z h = absurd (not_ok _ _ (rw (s, x) at h))
    tested false true true c s x y z h = absurd (not_ok _ _ (rw (s, x, y) at h))
    tested false true false true s x y z h = absurd (not_ok _ _ (rw (s, x, y) at h))
    tested false true false false s x y z h = subst (IsTyped u) (ok_is _ _ (rw (s, x, y) at h)) (w, record { place = address_is_place t e x; whole = y; memory = z }, refl)

pub unary_typed : (u : UnitTy) (p : Pos) (op : UnaryOp) (register : Bool) (e r : Typed) → IsTyped u e → is_registered u e ≡ register → unary.unary_of u.types p op register e ≡ Ok r → IsTyped u r
unary_typed u p ones.Deref register e r w g h = deref_typed u p e r w h
unary_typed u p ones.Address register (node t e) r w g h = address_typed u p register t e r w g h
unary_typed u p ones.Neg register e r w g h = on_value_typed u p ones.Neg (value_of e) r (taken u e w) (type_in (type_of (value_of e))) refl h
unary_typed u p ones.Plus register e r w g h = on_value_typed u p ones.Plus (value_of e) r (taken u e w) (type_in (type_of (value_of e))) refl h
unary_typed u p ones.BitNot register e r w g h = on_value_typed u p ones.BitNot (value_of e) r (taken u e w) (type_in (type_of (value_of e))) refl h
unary_typed u p ones.Not register e r w g h = on_value_typed u p ones.Not (value_of e) r (taken u e w) (type_in (type_of (value_of e))) refl h

-- casts
whole_typed : (u : UnitTy) (k : IntType) (e : Typed) → IsTyped u e → IsValue e → IsTyped u (casts.as_whole u.types k e)
whole_typed u k e w v = tested (is_narrow_value u.types e) refl
  where
    tested : (b : Bool) → is_narrow_value u.types e ≡ b → IsTyped u (casts.as_whole u.types k e)
    tested true x = rw x (w, Converts.scalar (refl, refl) v)
    tested false x = rw x (as_int_is u k e w v).typed

voided_typed : (u : UnitTy) (e : Typed) → IsTyped u e → IsTyped u (voided e)
voided_typed u e w = (w, Converts.to_void)

cast_value_typed : (u : UnitTy) (p : Pos) (q : QTy) (e r : Typed) → IsTaken u e → (s t : Ty) → type_in q ≡ s → type_in (type_of e) ≡ t → casts.value_by u.types p q (category_of s) (category_of t) e ≡ Ok r → IsTyped u r
cast_value_typed u p q e r w void void hs ht h = subst (IsTyped u) (ok_is _ _ h) w.typed
cast_value_typed u p q e r w void (int k2) hs ht h = subst (IsTyped u) (ok_is _ _ h) (voided_typed u e w.typed)
cast_value_typed u p q e r w void (pointer q2) hs ht h = subst (IsTyped u) (ok_is _ _ h) (voided_typed u e w.typed)
cast_value_typed u p q e r w void (array q2 m2) hs ht h = subst (IsTyped u) (ok_is _ _ h) (voided_typed u e w.typed)
cast_value_typed u p q e r w void (tag i2) hs ht h = subst (IsTyped u) (ok_is _ _ h) (voided_typed u e w.typed)
cast_value_typed u p q e r w void (function f2) hs ht h = subst (IsTyped u) (ok_is _ _ h) (voided_typed u e w.typed)
cast_value_typed u p q e r w (int k1) void hs ht h = absurd (not_ok _ _ h)
cast_value_typed u p q e r w (int k1) (int k2) hs ht h = subst (IsTyped u) (ok_is _ _ h) (whole_typed u k1 e w.typed (is_number e k2 w.had ht))
cast_value_typed u p q e r w (int k1) (pointer q2) hs ht h = subst (IsTyped u) (ok_is _ _ h) (whole_typed u k1 e w.typed (is_address e q2 w.had ht))
cast_value_typed u p q e r w (int k1) (array q2 m2) hs ht h = absurd (not_ok _ _ h)
cast_value_typed u p q e r w (int k1) (tag i2) hs ht h = absurd (not_ok _ _ h)
cast_value_typed u p q e r w (int k1) (function f2) hs ht h = absurd (not_ok _ _ h)
cast_value_typed u p q e r w (pointer q1) void hs ht h = absurd (not_ok _ _ h)
cast_value_typed u p q e r w (pointer q1) (int k2) hs ht h = subst (IsTyped u) (ok_is _ _ h) (as_plain_is u (type_in q) e w.typed (is_number e k2 w.had ht) (ap is_scalar hs)).typed
cast_value_typed u p q e r w (pointer q1) (pointer q2) hs ht h = subst (IsTyped u) (ok_is _ _ h) (as_plain_is u (type_in q) e w.typed (is_address e q2 w.had ht) (ap is_scalar hs)).typed
cast_value_typed u p q e r w (pointer q1) (array q2 m2) hs ht h = absurd (not_ok _ _ h)
cast_value_typed u p q e r w (pointer q1) (tag i2) hs ht h = absurd (not_ok _ _ h)
cast_value_typed u p q e r w (pointer q1) (function f2) hs ht h = absurd (not_ok _ _ h)
cast_value_typed u p q e r w (array q1 m1) t hs ht h = absurd (not_ok _ _ h)
cast_value_typed u p q e r w (tag i1) t hs ht h = absurd (not_ok _ _ h)
cast_value_typed u p q e r w (function f1) t hs ht h = absurd (not_ok _ _ h)

pub cast_typed : (u : UnitTy) (p : Pos) (q : QTy) (e r : Typed) → IsTyped u e → casts.cast_of u.types p q e ≡ Ok r → IsTyped u r
cast_typed u p q e r w h = cast_value_typed u p q (value_of e) r (taken u e w) (type_in q) (type_in (type_of (value_of e))) refl refl h

-- conditions
scalar_category : (t : Ty) → is_scalar_category (category_of t) ≡ is_scalar t
scalar_category void = refl
scalar_category (int k) = refl
scalar_category (pointer q) = refl
scalar_category (array q m) = refl
scalar_category (tag i) = refl
scalar_category (function f) = refl

is_condition : (v : Typed) → Had v → is_scalar_type (type_of v) ≡ true → IsValue v
is_condition v g h = had_scalar v g (sym (scalar_category (type_in (type_of v))) ∙ h)

both_values_typed : (u : UnitTy) (p : Pos) (a b e : Typed) → IsTaken u a → IsTaken u b → logic.both_values p a b ≡ Ok e → IsTyped u e
both_values_typed u p a b e wa wb h = tested (is_scalar_type (type_of a) && is_scalar_type (type_of b)) refl
  where
    tested : (c : Bool) → (is_scalar_type (type_of a) && is_scalar_type (type_of b)) ≡ c → IsTyped u e
    tested false x = absurd (not_ok _ _ (rw x at h))
    tested true x =
        let s = and_parts (is_scalar_type (type_of a)) (is_scalar_type (type_of b)) x in
        subst (IsTyped u) (ok_is _ _ (rw x at h)) (wa.typed, wb.typed, refl, is_condition a wa.had s.0, is_condition b wb.had s.1)

pub both_typed : (u : UnitTy) (p : Pos) (a b e : Typed) → IsTyped u a → IsTyped u b → logic.both_of p a b ≡ Ok e → IsTyped u e
both_typed u p a b e wa wb h = both_values_typed u p (value_of a) (value_of b) e (taken u a wa) (taken u b wb) h

either_values_typed : (u : UnitTy) (p : Pos) (a b e : Typed) → IsTaken u a → IsTaken u b → logic.either_values p a b ≡ Ok e → IsTyped u e
either_values_typed u p a b e wa wb h = tested (is_scalar_type (type_of a) && is_scalar_type (type_of b)) refl
  where
    tested : (c : Bool) → (is_scalar_type (type_of a) && is_scalar_type (type_of b)) ≡ c → IsTyped u e
    tested false x = absurd (not_ok _ _ (rw x at h))
    tested true x =
        let s = and_parts (is_scalar_type (type_of a)) (is_scalar_type (type_of b)) x in
        subst (IsTyped u) (ok_is _ _ (rw x at h)) (wa.typed, wb.typed, refl, is_condition a wa.had s.0, is_condition b wb.had s.1)

pub either_typed : (u : UnitTy) (p : Pos) (a b e : Typed) → IsTyped u a → IsTyped u b → logic.either_of p a b ≡ Ok e → IsTyped u e
either_typed u p a b e wa wb h = either_values_typed u p (value_of a) (value_of b) e (taken u a wa) (taken u b wb) h

arm_of : (v : Typed) → Had v → IsArm (plain_of (type_of v)) v
arm_of v (Had.scalar w) = IsArm.value w w.0.1
arm_of v (Had.whole g) = IsArm.place (ap is_tag (type_plain (type_of v)) ∙ g) refl
arm_of v (Had.nothing h p) = IsArm.nothing (ap plain_of h) (h ∙ sym (ap plain_of h))

pub comma_typed : (u : UnitTy) (a b : Typed) → IsTyped u a → IsTyped u b → IsTyped u (logic.comma_of a b)
comma_typed u a b wa wb = ((taken u a wa).typed, (taken u b wb).typed, arm_of (value_of b) (taken u b wb).had)

condition_by_typed : (u : UnitTy) (p : Pos) (e r : Typed) → IsTaken u e → logic.condition_by p e ≡ Ok r → IsCondition u r
condition_by_typed u p e r w h = tested (is_scalar_type (type_of e)) refl
  where
    tested : (c : Bool) → is_scalar_type (type_of e) ≡ c → IsCondition u r
    tested false x = absurd (not_ok _ _ (rw x at h))
    tested true x = subst (IsCondition u) (ok_is _ _ (rw x at h)) (record { typed = w.typed; value = is_condition e w.had x })

pub condition_typed : (u : UnitTy) (p : Pos) (e r : Typed) → IsTyped u e → logic.condition_of p e ≡ Ok r → IsCondition u r
condition_typed u p e r w h = condition_by_typed u p (value_of e) r (taken u e w) h

switch_by_typed : (u : UnitTy) (p : Pos) (e r : Typed) → IsTaken u e → (t : Ty) → type_in (type_of e) ≡ t → logic.switch_by u.types p (category_of t) e ≡ Ok r → IsSwitch u r
switch_by_typed u p e r w void ht h = absurd (not_ok _ _ h)
switch_by_typed u p e r w (int k) ht h =
    let x = as_int_is u (promotion u.types e k) e w.typed (is_number e k w.had ht) in
    subst (IsSwitch u) (ok_is _ _ h) (record { typed = x.typed; promoted = (promotion u.types e k, x.ty, promotion_stays u.types e k); value = x.value })
switch_by_typed u p e r w (pointer q) ht h = absurd (not_ok _ _ h)
switch_by_typed u p e r w (array q m) ht h = absurd (not_ok _ _ h)
switch_by_typed u p e r w (tag i) ht h = absurd (not_ok _ _ h)
switch_by_typed u p e r w (function f) ht h = absurd (not_ok _ _ h)

pub switch_typed : (u : UnitTy) (p : Pos) (e r : Typed) → IsTyped u e → logic.switch_value_of u.types p e ≡ Ok r → IsSwitch u r
switch_typed u p e r w h = switch_by_typed u p (value_of e) r (taken u e w) (type_in (type_of (value_of e))) refl h
