-- A choice between well typed operands is well typed.
use Rattle.std.proofs.Common.{◌≡◌, Bool, true, false, Option, Some, None, Ok, refl, sym, ap, ◌∙◌, subst}
use Rattle.std.specs.Prelude.{◌==◌}
use Rattle.std.proofs.lemmas.Bool.{eq-eqb}
use Rattle.c65_base.specs.declared.refusal.Pos.{Pos}
use Rattle.c65_ctype.specs.Trees.{Ty, void, int, pointer, array, tag, function, QTy, qual, type_in, TypesTy}
use Rattle.c65_csem.specs.Trees.{Typed, type_of, UnitTy}
use Rattle.c65_csem.specs.Places.{is_scalar, is_tag, plain, plain_of}
use Rattle.c65_csem.specs.Typed.{IsValue, IsArm, IsTyped}
use Rattle.c65_elab_convert.specs.Values.{equal_plain, value_of, promotion, common_of, as_plain_of}
use Rattle.c65_elab_convert.specs.Pointers.{agree, is_null, meet_in_void}
use Rattle.c65_elab_convert.specs.Logic.{condition_of}
use Rattle.c65_elab_convert.specs.Choices.{pointer_with, composite, between_pointers, chosen_by, chosen_type, made, choice_by, choice_of}
use Rattle.c65_elab_law.specs.WellTyped.{IsOf}
use Rattle.c65_elab_law.proofs.ValueLaws.{equal_is, plain_in, Had, as_plain_is}
use Rattle.c65_elab_law.proofs.OperatorLaws.{bind_ok, ok_is, not_ok, IsTaken, taken, is_number, is_address}
use Rattle.c65_elab_law.proofs.UnaryLaws.{condition_typed}

is_value : (u : UnitTy) (t : Ty) (e : Typed) → IsOf u (plain t) e → is_scalar t ≡ true → IsValue e
is_value u t e w s = ((ap (λ (q : QTy). is_scalar (type_in q)) w.ty ∙ s, w.ty ∙ sym (ap plain_of w.ty)), w.value)

-- both arms converted to one scalar type
scalars_typed : (u : UnitTy) (t : Ty) (x a b : Typed) → IsTyped u x → IsValue x → IsTyped u a → IsValue a → IsTyped u b → IsValue b → is_scalar t ≡ true → IsTyped u (made t x a b)
scalars_typed u t x a b wx vx wa va wb vb s =
    let y = as_plain_is u t a wa va s in
    let z = as_plain_is u t b wb vb s in
    (wx, y.typed, z.typed, vx, IsArm.value (is_value u t (as_plain_of t a) y s) y.ty, IsArm.value (is_value u t (as_plain_of t b) z s) z.ty)

stays : (t : Ty) (e : Typed) → equal_plain t (type_in (type_of e)) ≡ true → as_plain_of t e ≡ e
stays t e h = rw h refl

-- what the two pointers give is a pointer
between_scalar : (types : TypesTy) (q r : QTy) (a b : Typed) (x : Ty) → is_scalar (type_in (type_of a)) ≡ true → is_scalar (type_in (type_of b)) ≡ true → between_pointers types q r a b ≡ Some x → is_scalar x ≡ true
between_scalar types (qual t c v) (qual s d w) a b x sa sb h = tested (agree types (qual t c v) (qual s d w)) (is_null a) (is_null b) (meet_in_void (qual t c v) (qual s d w)) refl refl refl refl
  where
    some_scalar : (y : Ty) → is_scalar y ≡ true → ◌≡◌ {A = Option Ty} (Some y) (Some x) → is_scalar x ≡ true
    some_scalar y s e = let same : y ≡ x = cc in sym (ap is_scalar same) ∙ s

    none_scalar : ◌≡◌ {A = Option Ty} None (Some x) → is_scalar x ≡ true
    none_scalar e = cc

    tested : (i j k l : Bool) → agree types (qual t c v) (qual s d w) ≡ i → is_null a ≡ j → is_null b ≡ k → meet_in_void (qual t c v) (qual s d w) ≡ l → is_scalar x ≡ true
    tested true j k l hi hj hk hl = some_scalar (pointer_with (composite types (qual t c v) (qual s d w)) (qual t c v) (qual s d w)) refl (rw hi at h)
    tested false true k l hi hj hk hl = some_scalar (type_in (type_of b)) sb (rw (hi, hj) at h)
    tested false false true l hi hj hk hl = some_scalar (type_in (type_of a)) sa (rw (hi, hj, hk) at h)
    tested false false false true hi hj hk hl = some_scalar (pointer_with void (qual t c v) (qual s d w)) refl (rw (hi, hj, hk, hl) at h)
    tested false false false false hi hj hk hl = none_scalar (rw (hi, hj, hk, hl) at h)

void_is : (v : Typed) → Had v → type_in (type_of v) ≡ void → type_of v ≡ plain void
void_is v (Had.scalar w) h = absurd (let e : true ≡ false = sym w.0.0 ∙ ap is_scalar h in cc)
void_is v (Had.whole g) h = absurd (let e : true ≡ false = sym g ∙ ap is_tag h in cc)
void_is v (Had.nothing g p) h = g

-- by what was chosen
by_type : (u : UnitTy) (p : Pos) (x a b e : Typed) (o : Option Ty) → ((t : Ty) → o ≡ Some t → IsTyped u (made t x a b)) → choice_by p o x a b ≡ Ok e → IsTyped u e
by_type u p x a b e (Some t) each h = subst (IsTyped u) (ok_is _ _ h) (each t refl)
by_type u p x a b e None each h = absurd (not_ok _ _ h)

arms_typed : (u : UnitTy) (p : Pos) (x a b e : Typed) → IsTyped u x → IsValue x → IsTaken u a → IsTaken u b → (s t : Ty) → type_in (type_of a) ≡ s → type_in (type_of b) ≡ t → choice_by p (chosen_by u.types s t a b) x a b ≡ Ok e → IsTyped u e
arms_typed u p x a b e wx vx wa wb void void hs ht h =
    let left = stays void a (ap (equal_plain void) hs) in
    let right = stays void b (ap (equal_plain void) ht) in
    subst (IsTyped u) (ok_is _ _ h) (rw (left, right) (wx, wa.typed, wb.typed, vx, IsArm.nothing refl (void_is a wa.had hs), IsArm.nothing refl (void_is b wb.had ht)))
arms_typed u p x a b e wx vx wa wb void (int k2) hs ht h = absurd (not_ok _ _ h)
arms_typed u p x a b e wx vx wa wb void (pointer q2) hs ht h = absurd (not_ok _ _ h)
arms_typed u p x a b e wx vx wa wb void (array q2 m2) hs ht h = absurd (not_ok _ _ h)
arms_typed u p x a b e wx vx wa wb void (tag i2) hs ht h = absurd (not_ok _ _ h)
arms_typed u p x a b e wx vx wa wb void (function f2) hs ht h = absurd (not_ok _ _ h)
arms_typed u p x a b e wx vx wa wb (int k1) void hs ht h = absurd (not_ok _ _ h)
arms_typed u p x a b e wx vx wa wb (int k1) (int k2) hs ht h =
    let c = int (common_of (promotion u.types a k1) (promotion u.types b k2)) in
    subst (IsTyped u) (ok_is _ _ h) (scalars_typed u (int (common_of (promotion u.types a k1) (promotion u.types b k2))) x a b wx vx wa.typed (is_number a k1 wa.had hs) wb.typed (is_number b k2 wb.had ht) refl)
arms_typed u p x a b e wx vx wa wb (int k1) (pointer q2) hs ht h = tested (is_null a) refl
  where
    tested : (c : Bool) → is_null a ≡ c → IsTyped u e
    tested true y = subst (IsTyped u) (ok_is _ _ (rw y at h)) (scalars_typed u (type_in (type_of b)) x a b wx vx wa.typed (is_number a k1 wa.had hs) wb.typed (is_address b q2 wb.had ht) (ap is_scalar ht))
    tested false y = absurd (not_ok _ _ (rw y at h))
arms_typed u p x a b e wx vx wa wb (int k1) (array q2 m2) hs ht h = absurd (not_ok _ _ h)
arms_typed u p x a b e wx vx wa wb (int k1) (tag i2) hs ht h = absurd (not_ok _ _ h)
arms_typed u p x a b e wx vx wa wb (int k1) (function f2) hs ht h = absurd (not_ok _ _ h)
arms_typed u p x a b e wx vx wa wb (pointer q1) void hs ht h = absurd (not_ok _ _ h)
arms_typed u p x a b e wx vx wa wb (pointer q1) (int k2) hs ht h = tested (is_null b) refl
  where
    tested : (c : Bool) → is_null b ≡ c → IsTyped u e
    tested true y = subst (IsTyped u) (ok_is _ _ (rw y at h)) (scalars_typed u (type_in (type_of a)) x a b wx vx wa.typed (is_address a q1 wa.had hs) wb.typed (is_number b k2 wb.had ht) (ap is_scalar hs))
    tested false y = absurd (not_ok _ _ (rw y at h))
arms_typed u p x a b e wx vx wa wb (pointer q1) (pointer q2) hs ht h =
    let va = is_address a q1 wa.had hs in
    let vb = is_address b q2 wb.had ht in
    by_type u p x a b e (between_pointers u.types q1 q2 a b) (λ t o. scalars_typed u t x a b wx vx wa.typed va wb.typed vb (between_scalar u.types q1 q2 a b t va.0.0 vb.0.0 o)) h
arms_typed u p x a b e wx vx wa wb (pointer q1) (array q2 m2) hs ht h = absurd (not_ok _ _ h)
arms_typed u p x a b e wx vx wa wb (pointer q1) (tag i2) hs ht h = absurd (not_ok _ _ h)
arms_typed u p x a b e wx vx wa wb (pointer q1) (function f2) hs ht h = absurd (not_ok _ _ h)
arms_typed u p x a b e wx vx wa wb (array q1 m1) t hs ht h = absurd (not_ok _ _ h)
arms_typed u p x a b e wx vx wa wb (tag i1) void hs ht h = absurd (not_ok _ _ h)
arms_typed u p x a b e wx vx wa wb (tag i1) (int k2) hs ht h = absurd (not_ok _ _ h)
arms_typed u p x a b e wx vx wa wb (tag i1) (pointer q2) hs ht h = absurd (not_ok _ _ h)
arms_typed u p x a b e wx vx wa wb (tag i1) (array q2 m2) hs ht h = absurd (not_ok _ _ h)
arms_typed u p x a b e wx vx wa wb (tag i1) (tag i2) hs ht h = tested (i1 == i2) refl
  where
    tested : (c : Bool) → (i1 == i2) ≡ c → IsTyped u e
    tested false y = absurd (not_ok _ _ (rw y at h))
    tested true y =
        let left = stays (tag i1) a (ap (equal_plain (tag i1)) hs ∙ eq-eqb i1 i1 refl) in
        let right = stays (tag i1) b (ap (equal_plain (tag i1)) ht ∙ y) in
        let same = ap tag (equal_is i1 i2 y) in
        let arm_a : IsArm (plain (tag i1)) a = IsArm.place refl (sym (plain_in (type_of a) ∙ ap plain hs)) in
        let arm_b : IsArm (plain (tag i1)) b = IsArm.place refl (sym (plain_in (type_of b) ∙ ap plain (ht ∙ sym same))) in
        subst (IsTyped u) (ok_is _ _ (rw y at h)) (rw (left, right) (wx, wa.typed, wb.typed, vx, arm_a, arm_b))
arms_typed u p x a b e wx vx wa wb (tag i1) (function f2) hs ht h = absurd (not_ok _ _ h)
arms_typed u p x a b e wx vx wa wb (function f1) t hs ht h = absurd (not_ok _ _ h)

pub choice_typed : (u : UnitTy) (p : Pos) (x a b e : Typed) → IsTyped u x → IsTyped u a → IsTyped u b → choice_of u.types p x a b ≡ Ok e → IsTyped u e
choice_typed u p x a b e wx wa wb h =
    let (z, hz, g) = bind_ok (condition_of p x) (λ z. choice_by p (chosen_type u.types (value_of a) (value_of b)) z (value_of a) (value_of b)) e h in
    let c = condition_typed u p x z wx hz in
    arms_typed u p z (value_of a) (value_of b) e c.typed c.value (taken u a wa) (taken u b wb) (type_in (type_of (value_of a))) (type_in (type_of (value_of b))) refl refl g
