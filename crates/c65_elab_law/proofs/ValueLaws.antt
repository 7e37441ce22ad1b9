-- What conversions give is well typed.
use Rattle.std.proofs.Common.{◌≡◌, ℕ, zero, suc, Bool, true, false, Option, Some, None, refl, sym, ap, ◌∙◌, subst}
use Rattle.std.specs.Prelude.{◌==◌, ◌&&◌}
use Rattle.std.proofs.lemmas.Bool.{and_parts, not-true, eqb-true}
use Rattle.c65_ints.specs.declared.types.IntType.{IntType}
use Rattle.c65_ints.specs.declared.types.IntType.TheVariants.{SChar, UChar, Short, UShort, Int, UInt, Long, ULong}
use Rattle.c65_base.specs.declared.operators.UnaryOp.{UnaryOp}
use Rattle.c65_base.specs.declared.operators.UnaryOp.TheVariants as ones
use Rattle.c65_base.specs.declared.operators.BinaryOp.{BinaryOp}
use Rattle.c65_base.specs.declared.operators.BinaryOp.TheVariants as ops
use Rattle.c65_ctype.specs.Trees.{Ty, void, int, pointer, array, tag, function, QTy, qual, type_in, TypesTy}
use Rattle.c65_ints.specs.Ranges.{number_of}
use Rattle.c65_ctype.specs.Compatible.{same_int, same_bool}
use Rattle.c65_csem.specs.Trees as n
use Rattle.c65_csem.specs.Trees.{Typed, node, Node, type_of, UnitTy}
use Rattle.c65_csem.specs.Places.{is_place, is_scalar, is_tag, is_void, plain, plain_of, promoted_of, is_promoted}
use Rattle.c65_csem.specs.Typed.{HasInt, IsPromoted, IsPointer, IsScalar, IsValue, IsArm, IsUsual, IsSmall, AreAlike, AreShifted, AreCompared, AreAdded, AreSubtracted, Operands, Operand, Converts, decayed, IsTyped, IsNode, IsCalled}
use Rattle.c65_elab_law.specs.WellTyped.{IsOf}
use Rattle.c65_elab_convert.specs.Values.{equal_count, equal_types, equal_plain, value_of_place, value_by, value_of, is_narrow, is_narrow_value, promotion, place_promotion, is_either, common_of, as_plain_of, as_int_of}

abbrev of_number : ℕ → IntType
of_number zero = SChar
of_number (suc zero) = UChar
of_number (suc (suc zero)) = Short
of_number (suc (suc (suc zero))) = UShort
of_number (suc (suc (suc (suc zero)))) = Int
of_number (suc (suc (suc (suc (suc zero))))) = UInt
of_number (suc (suc (suc (suc (suc (suc zero)))))) = Long
of_number (suc (suc (suc (suc (suc (suc (suc i))))))) = ULong

back : (k : IntType) → of_number (number_of k) ≡ k
back SChar = refl
back UChar = refl
back Short = refl
back UShort = refl
back Int = refl
back UInt = refl
back Long = refl
back ULong = refl

pub equal_is : (m n : ℕ) → (m == n) ≡ true → m ≡ n
equal_is m n h = eqb-true m n h

pub same_kind : (j k : IntType) → same_int j k ≡ true → j ≡ k
same_kind j k h = sym (back j) ∙ ap of_number (equal_is (number_of j) (number_of k) h) ∙ back k

pub same_flag : (b c : Bool) → same_bool b c ≡ true → b ≡ c
same_flag true c h = sym h
same_flag false c h = sym (not-true c h)

same_counts : (m n : Option ℕ) → equal_count m n ≡ true → m ≡ n
same_counts None None h = refl
same_counts None (Some n) h = cc
same_counts (Some m) None h = cc
same_counts (Some m) (Some n) h = ap Some (equal_is m n h)

-- types that are equal by the test are the same
mutual
  pub same_types : (q r : QTy) → equal_types q r ≡ true → q ≡ r
  same_types (qual t c v) (qual u d w) h =
      let p = and_parts (same_bool c d && same_bool v w) (equal_plain t u) h in
      let f = and_parts (same_bool c d) (same_bool v w) p.0 in
      ap (λ (x : Ty). qual x c v) (same_plain t u p.1) ∙ ap (λ (b : Bool). qual u b v) (same_flag c d f.0) ∙ ap (λ (b : Bool). qual u d b) (same_flag v w f.1)

  pub same_plain : (t u : Ty) → equal_plain t u ≡ true → t ≡ u
  same_plain void void h = refl
  same_plain void (int j) h = cc
  same_plain void (pointer r) h = cc
  same_plain void (array r n) h = cc
  same_plain void (tag n) h = cc
  same_plain void (function g) h = cc
  same_plain (int k) void h = cc
  same_plain (int k) (int j) h = ap int (same_kind k j h)
  same_plain (int k) (pointer r) h = cc
  same_plain (int k) (array r n) h = cc
  same_plain (int k) (tag n) h = cc
  same_plain (int k) (function g) h = cc
  same_plain (pointer q) void h = cc
  same_plain (pointer q) (int j) h = cc
  same_plain (pointer q) (pointer r) h = ap pointer (same_types q r h)
  same_plain (pointer q) (array r n) h = cc
  same_plain (pointer q) (tag n) h = cc
  same_plain (pointer q) (function g) h = cc
  same_plain (array q m) void h = cc
  same_plain (array q m) (int j) h = cc
  same_plain (array q m) (pointer r) h = cc
  same_plain (array q m) (array r n) h = let p = and_parts (equal_count m n) (equal_types q r) h in ap (λ (x : QTy). array x m) (same_types q r p.1) ∙ ap (array r) (same_counts m n p.0)
  same_plain (array q m) (tag n) h = cc
  same_plain (array q m) (function g) h = cc
  same_plain (tag m) void h = cc
  same_plain (tag m) (int j) h = cc
  same_plain (tag m) (pointer r) h = cc
  same_plain (tag m) (array r n) h = cc
  same_plain (tag m) (tag n) h = ap tag (equal_is m n h)
  same_plain (tag m) (function g) h = cc
  same_plain (function f) void h = cc
  same_plain (function f) (int j) h = cc
  same_plain (function f) (pointer r) h = cc
  same_plain (function f) (array r n) h = cc
  same_plain (function f) (tag n) h = cc
  same_plain (function f) (function g) h = cc

-- qualifiers

pub plain_is : (t : QTy) (x : Ty) → t ≡ plain x → t ≡ plain_of t
plain_is t x h = h ∙ sym (ap plain_of h)

pub plain_in : (t : QTy) → plain_of t ≡ plain (type_in t)
plain_in (qual t c v) = refl

pub type_plain : (t : QTy) → type_in (plain_of t) ≡ type_in t
type_plain (qual t c v) = refl

pub plain_twice : (t : QTy) → plain_of t ≡ plain_of (plain_of t)
plain_twice (qual t c v) = refl

-- the types of what is no place
pub data ValueType : QTy → Type 0 where
  number : {t : QTy} (k : IntType) → t ≡ plain (int k) → ValueType t
  address : {t : QTy} (q : QTy) → t ≡ plain (pointer q) → ValueType t
  tagged : {t : QTy} (m : ℕ) → t ≡ plain (tag m) → ValueType t
  empty : {t : QTy} → t ≡ plain void → ValueType t

pub scalar_type : (t : QTy) → IsScalar t → ValueType t
scalar_type (qual void c v) (s, p) = absurd (let e : false ≡ true = s in cc)
scalar_type (qual (int k) c v) (s, p) = number k p
scalar_type (qual (pointer q) c v) (s, p) = address q p
scalar_type (qual (array q m) c v) (s, p) = absurd (let e : false ≡ true = s in cc)
scalar_type (qual (tag m) c v) (s, p) = absurd (let e : false ≡ true = s in cc)
scalar_type (qual (function f) c v) (s, p) = absurd (let e : false ≡ true = s in cc)

promoted_type : (t : QTy) → IsPromoted t → ValueType t
promoted_type t (k, h, p) = number k h

pointer_type : (t : QTy) → IsPointer t → ValueType t
pointer_type t (q, h) = address q h

plain_same : (t s : QTy) → t ≡ plain_of s → t ≡ plain (type_in t)
plain_same t (qual x c v) h = h ∙ ap plain (sym (ap type_in h))

tag_type : (t s : QTy) → is_tag (type_in t) ≡ true → t ≡ plain_of s → ValueType t
tag_type (qual void c v) s g h = absurd (let e : false ≡ true = g in cc)
tag_type (qual (int k) c v) s g h = absurd (let e : false ≡ true = g in cc)
tag_type (qual (pointer q) c v) s g h = absurd (let e : false ≡ true = g in cc)
tag_type (qual (array q m) c v) s g h = absurd (let e : false ≡ true = g in cc)
tag_type (qual (tag m) c v) s g h = tagged m (plain_same (qual (tag m) c v) s h)
tag_type (qual (function f) c v) s g h = absurd (let e : false ≡ true = g in cc)

-- the type of what a place of a scalar type holds
place_type : (t s : QTy) → is_scalar (type_in s) ≡ true → t ≡ plain_of s → ValueType t
place_type t (qual void c v) g h = absurd (let e : false ≡ true = g in cc)
place_type t (qual (int k) c v) g h = number k h
place_type t (qual (pointer q) c v) g h = address q h
place_type t (qual (array q m) c v) g h = absurd (let e : false ≡ true = g in cc)
place_type t (qual (tag m) c v) g h = absurd (let e : false ≡ true = g in cc)
place_type t (qual (function f) c v) g h = absurd (let e : false ≡ true = g in cc)

arm_type : (t : QTy) (e : Typed) → IsArm t e → ValueType t
arm_type t e (IsArm.value w same) = subst ValueType same (scalar_type (type_of e) w.0)
arm_type t e (IsArm.place g h) = tag_type t (type_of e) g h
arm_type t e (IsArm.nothing h g) = empty h

alike_type : (t a b : QTy) → AreAlike t a b → ValueType t
alike_type t a b h = number h.kind h.result

compared_type : (t a b : QTy) → AreCompared t a b → ValueType t
compared_type t a b (AreCompared.numbers k p r x y) = number Int r
compared_type t a b (AreCompared.pointers r x y) = number Int r

shifted_type : (t a b : QTy) → AreShifted t a b → ValueType t
shifted_type t a b h = subst ValueType (sym h.result) (promoted_type a h.left)

added_type : (u : UnitTy) (t a b : QTy) → AreAdded u t a b → ValueType t
added_type u t a b (AreAdded.numbers h) = alike_type t a b h
added_type u t a b (AreAdded.pointer_first m i r) = subst ValueType (sym r) (pointer_type a m.0)
added_type u t a b (AreAdded.pointer_last i m r) = subst ValueType (sym r) (pointer_type b m.0)

subtracted_type : (u : UnitTy) (t a b : QTy) → AreSubtracted u t a b → ValueType t
subtracted_type u t a b (AreSubtracted.numbers h) = alike_type t a b h
subtracted_type u t a b (AreSubtracted.pointer_first m i r) = subst ValueType (sym r) (pointer_type a m.0)
subtracted_type u t a b (AreSubtracted.pointers m i r) = number Int r

operands_type : (u : UnitTy) (op : BinaryOp) (t a b : QTy) → Operands u op t a b → ValueType t
operands_type u ops.Mul t a b h = alike_type t a b h
operands_type u ops.Div t a b h = alike_type t a b h
operands_type u ops.Rem t a b h = alike_type t a b h
operands_type u ops.Add t a b h = added_type u t a b h
operands_type u ops.Sub t a b h = subtracted_type u t a b h
operands_type u ops.Shl t a b h = shifted_type t a b h
operands_type u ops.Shr t a b h = shifted_type t a b h
operands_type u ops.Lt t a b h = compared_type t a b h
operands_type u ops.Gt t a b h = compared_type t a b h
operands_type u ops.Le t a b h = compared_type t a b h
operands_type u ops.Ge t a b h = compared_type t a b h
operands_type u ops.Eq t a b h = compared_type t a b h
operands_type u ops.Ne t a b h = compared_type t a b h
operands_type u ops.BitAnd t a b h = alike_type t a b h
operands_type u ops.BitXor t a b h = alike_type t a b h
operands_type u ops.BitOr t a b h = alike_type t a b h

operand_type : (op : UnaryOp) (t a : QTy) → Operand op t a → ValueType t
operand_type ones.Neg t a (p, r) = subst ValueType (sym r) (promoted_type a p)
operand_type ones.BitNot t a (p, r) = subst ValueType (sym r) (promoted_type a p)
operand_type ones.Not t a (h, s) = number Int h
operand_type ones.Plus t a h = absurd h
operand_type ones.Deref t a h = absurd h
operand_type ones.Address t a h = absurd h

some_is : {A : Type 0} (x y : A) → ◌≡◌ {A = Option A} (Some x) (Some y) → x ≡ y
some_is x y h = cc

decayed_type : (s t : QTy) → decayed s ≡ Some t → ValueType t
decayed_type (qual void c v) t h = absurd (let e : None ≡ Some t = h in cc)
decayed_type (qual (int k) c v) t h = absurd (let e : None ≡ Some t = h in cc)
decayed_type (qual (pointer q) c v) t h = absurd (let e : None ≡ Some t = h in cc)
decayed_type (qual (array q m) c v) t h = address q (sym (some_is _ _ h))
decayed_type (qual (tag m) c v) t h = absurd (let e : None ≡ Some t = h in cc)
decayed_type (qual (function f) c v) t h = address (qual (function f) false false) (sym (some_is _ _ h))

convert_type : (t : QTy) (e : Typed) → Converts t e → ValueType t
convert_type t e (Converts.scalar s v) = scalar_type t s
convert_type t e Converts.to_void = empty refl

usual_type : (t : QTy) → IsUsual t → ValueType t
usual_type t IsUsual.nothing = empty refl
usual_type t (IsUsual.scalar s) = scalar_type t s

-- a structure or union that a call gives
small_type : (u : UnitTy) (t : QTy) → IsSmall u t → ValueType t
small_type u (qual void c v) (s, p) = absurd (let e : false ≡ true = s in cc)
small_type u (qual (int k) c v) (s, p) = absurd (let e : false ≡ true = s in cc)
small_type u (qual (pointer q) c v) (s, p) = absurd (let e : false ≡ true = s in cc)
small_type u (qual (array q m) c v) (s, p) = absurd (let e : false ≡ true = s in cc)
small_type u (qual (tag m) c v) (s, p) = tagged m p
small_type u (qual (function f) c v) (s, p) = absurd (let e : false ≡ true = s in cc)

called_type : (u : UnitTy) (t : QTy) (e : Typed) → IsCalled u t e → ValueType t
called_type u t (node s (n.call f es)) w = subst ValueType w.0 (small_type u s w.1)
called_type u t (node s _) w = absurd w

pub value_type : (u : UnitTy) (t : QTy) (e : Node) → IsNode u t e → is_place (node t e) ≡ false → ValueType t
value_type u t (n.constant z) w p = number w.0 w.1
value_type u t n.null w p = pointer_type t w
value_type u t (n.literal i) w p = absurd (let e : true ≡ false = p in cc)
value_type u t (n.object i) w p = absurd (let e : true ≡ false = p in cc)
value_type u t (n.func i) w p = absurd (let e : true ≡ false = p in cc)
value_type u t (n.deref e) w p = absurd (let e : true ≡ false = p in cc)
value_type u t (n.member e m) w p = absurd (let e : true ≡ false = p in cc)
value_type u t (n.load e) w p = place_type t (type_of e) w.1.1 w.2
value_type u t (n.address e) w p = address (type_of e) w.2
value_type u t (n.decay e) w p = decayed_type (type_of e) t w.2
value_type u t (n.convert e) w p = convert_type t e w.1
value_type u t (n.unary op e) w p = operand_type op t (type_of e) w.2
value_type u t (n.binary op a b) w p = operands_type u op t (type_of a) (type_of b) w.4
value_type u t (n.both a b) w p = number Int w.2
value_type u t (n.either a b) w p = number Int w.2
value_type u t (n.choice x a b) w p = arm_type t a w.4
value_type u t (n.comma a b) w p = arm_type t b w.2
value_type u t (n.assign a b) w p = place_type t (type_of a) w.2.1 w.3
value_type u t (n.assign_op op k a b) w p = number w.3.0 w.3.1
value_type u t (n.assign_step op a b) w p = place_type t (type_of a) w.2.1 w.3
value_type u t (n.step how a) w p = place_type t (type_of a) w.1.1 w.2
value_type u t (n.copy a b) w p = tag_type t (type_of a) w.3 w.4
value_type u t (n.call f es) w p = usual_type t w.3
value_type u t (n.pack e) w p = absurd w
value_type u t (n.spill i e) w p = called_type u t e w.0
value_type u t n.rest w p = address (plain (int UChar)) w

value_stays : (t : QTy) → ValueType t → decayed t ≡ None
value_stays t (number k h) = ap decayed h
value_stays t (address q h) = ap decayed h
value_stays t (tagged m h) = ap decayed h
value_stays t (empty h) = ap decayed h

-- What a value is: a number or a pointer, a structure or union, or nothing.
pub data Had : Typed → Type 0 where
  scalar : {v : Typed} → IsValue v → Had v
  whole : {v : Typed} → is_tag (type_in (type_of v)) ≡ true → Had v
  nothing : {v : Typed} → type_of v ≡ plain void → is_place v ≡ false → Had v

had_type : (v : Typed) → is_place v ≡ false → ValueType (type_of v) → Had v
had_type v p (number k h) = scalar ((ap (λ (t : QTy). is_scalar (type_in t)) h, plain_is (type_of v) (int k) h), p)
had_type v p (address q h) = scalar ((ap (λ (t : QTy). is_scalar (type_in t)) h, plain_is (type_of v) (pointer q) h), p)
had_type v p (tagged m h) = whole (ap (λ (t : QTy). is_tag (type_in t)) h)
had_type v p (empty h) = nothing h p

-- a place that is not scalar, not void, no array and no function
rest_is_tag : (t : QTy) → is_scalar (type_in t) ≡ false → is_void (type_in t) ≡ false → decayed t ≡ None → is_tag (type_in t) ≡ true
rest_is_tag (qual void c v) s e d = absurd (let x : true ≡ false = e in cc)
rest_is_tag (qual (int k) c v) s e d = absurd (let x : true ≡ false = s in cc)
rest_is_tag (qual (pointer q) c v) s e d = absurd (let x : true ≡ false = s in cc)
rest_is_tag (qual (array q m) c v) s e d = absurd (let x : Some (plain (pointer q)) ≡ None = d in cc)
rest_is_tag (qual (tag m) c v) s e d = refl
rest_is_tag (qual (function f) c v) s e d = absurd (let x : Some (plain (pointer (qual (function f) false false))) ≡ None = d in cc)

array_is_place : (u : UnitTy) (t s : QTy) (e : Node) → IsNode u s e → decayed s ≡ Some t → is_place (node s e) ≡ true
array_is_place u t s e w h = tested (is_place (node s e)) refl
  where
    tested : (b : Bool) → is_place (node s e) ≡ b → is_place (node s e) ≡ true
    tested true p = p
    tested false p = absurd (let x : Some t ≡ None = sym h ∙ value_stays s (value_type u s e w p) in cc)

pub place_had : (u : UnitTy) (t : QTy) (e : Node) → IsNode u t e → is_place (node t e) ≡ true → decayed t ≡ None → IsTyped u (value_of_place (node t e)) × Had (value_of_place (node t e))
place_had u t e w p d = tested (is_scalar (type_in t)) (is_void (type_in t)) refl refl
  where
    tested : (b c : Bool) → is_scalar (type_in t) ≡ b → is_void (type_in t) ≡ c → IsTyped u (value_of_place (node t e)) × Had (value_of_place (node t e))
    tested true c s x = rw s ((w, (p, s), refl), scalar ((ap is_scalar (type_plain t) ∙ s, plain_twice t), refl))
    tested false true s x = rw (s, x) ((w, Converts.to_void), nothing refl refl)
    tested false false s x = rw (s, x) (w, whole (rest_is_tag t s x d))

pub had_by : (u : UnitTy) (d : Option QTy) (t : QTy) (e : Node) → decayed t ≡ d → IsNode u t e → IsTyped u (value_by d (node t e)) × Had (value_by d (node t e))
had_by u (Some s) t e h w = ((w, array_is_place u s t e w h, h), had_type (node s (n.decay (node t e))) refl (decayed_type t s h))
had_by u None t e h w = tested (is_place (node t e)) refl
  where
    tested : (b : Bool) → is_place (node t e) ≡ b → IsTyped u (value_by None (node t e)) × Had (value_by None (node t e))
    tested true p = rw p (place_had u t e w p h)
    tested false p = rw p (w, had_type (node t e) p (value_type u t e w p))

-- the value of a well typed expression
pub had : (u : UnitTy) (e : Typed) → IsTyped u e → IsTyped u (value_of e) × Had (value_of e)
had u (node t e) w = had_by u (decayed t) t e refl w

-- a value whose type is scalar
no_scalar_tag : (t : Ty) → is_scalar t ≡ true → is_tag t ≡ true → ⊥
no_scalar_tag void s g = cc
no_scalar_tag (int k) s g = cc
no_scalar_tag (pointer q) s g = cc
no_scalar_tag (array q m) s g = cc
no_scalar_tag (tag m) s g = cc
no_scalar_tag (function f) s g = cc

pub had_scalar : (v : Typed) → Had v → is_scalar (type_in (type_of v)) ≡ true → IsValue v
had_scalar v (scalar w) s = w
had_scalar v (whole g) s = absurd (no_scalar_tag (type_in (type_of v)) s g)
had_scalar v (nothing h p) s = absurd (let e : false ≡ true = sym (ap (λ (t : QTy). is_scalar (type_in t)) h) ∙ s in cc)

-- a value of an integer type, of a pointer type
pub value_int : (v : Typed) (k : IntType) → IsValue v → type_in (type_of v) ≡ int k → HasInt (type_of v) k
value_int v k w h = w.0.1 ∙ plain_in (type_of v) ∙ ap plain h

pub value_pointer : (v : Typed) (q : QTy) → IsValue v → type_in (type_of v) ≡ pointer q → type_of v ≡ plain (pointer q)
value_pointer v q w h = w.0.1 ∙ plain_in (type_of v) ∙ ap plain h

pub as_plain_is : (u : UnitTy) (t : Ty) (v : Typed) → IsTyped u v → IsValue v → is_scalar t ≡ true → IsOf u (plain t) (as_plain_of t v)
as_plain_is u t v w h s = tested (equal_plain t (type_in (type_of v))) refl
  where
    tested : (b : Bool) → equal_plain t (type_in (type_of v)) ≡ b → IsOf u (plain t) (as_plain_of t v)
    tested true p = rw p (record { typed = w; ty = h.0.1 ∙ plain_in (type_of v) ∙ ap plain (sym (same_plain t (type_in (type_of v)) p)); value = h.1 })
    tested false p = rw p (record { typed = (w, Converts.scalar (s, refl) h); ty = refl; value = refl })

pub as_int_is : (u : UnitTy) (k : IntType) (v : Typed) → IsTyped u v → IsValue v → IsOf u (plain (int k)) (as_int_of k v)
as_int_is u k v w h = as_plain_is u (int k) v w h refl

-- promoted types
pub promoted_stays : (k : IntType) → is_promoted (promoted_of k) ≡ true
promoted_stays SChar = refl
promoted_stays UChar = refl
promoted_stays Short = refl
promoted_stays UShort = refl
promoted_stays Int = refl
promoted_stays UInt = refl
promoted_stays Long = refl
promoted_stays ULong = refl

pub promotion_stays : (types : TypesTy) (e : Typed) (k : IntType) → is_promoted (promotion types e k) ≡ true
promotion_stays types e k = tested (is_narrow_value types e) refl
  where
    tested : (b : Bool) → is_narrow_value types e ≡ b → is_promoted (promotion types e k) ≡ true
    tested true p = rw p refl
    tested false p = rw p (promoted_stays k)

pub place_promotion_stays : (types : TypesTy) (e : Typed) (k : IntType) → is_promoted (place_promotion types e k) ≡ true
place_promotion_stays types e k = tested (is_narrow types e) refl
  where
    tested : (b : Bool) → is_narrow types e ≡ b → is_promoted (place_promotion types e k) ≡ true
    tested true p = rw p refl
    tested false p = rw p (promoted_stays k)

pub common_stays : (j k : IntType) → is_promoted (common_of j k) ≡ true
common_stays j k = tested (is_either ULong j k) (is_either Long j k) (is_either UInt j k) refl refl refl
  where
    tested : (a b c : Bool) → is_either ULong j k ≡ a → is_either Long j k ≡ b → is_either UInt j k ≡ c → is_promoted (common_of j k) ≡ true
    tested true b c x y z = rw x refl
    tested false true c x y z = rw (x, y) refl
    tested false false true x y z = rw (x, y, z) refl
    tested false false false x y z = rw (x, y, z) refl
