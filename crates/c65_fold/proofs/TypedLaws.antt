-- A well typed tree stays well typed when it is folded.
use Rattle.std.proofs.Common.{◌≡◌, ℕ, ℤ, ◌≤◌, Bool, true, false, Option, Some, None, option_and_then, IsTrue, if◌then◌else◌, refl, sym, ap, ◌∙◌, subst}
use Rattle.c65_base.specs.declared.operators.UnaryOp.{UnaryOp}
use Rattle.c65_base.specs.declared.operators.UnaryOp.TheVariants as ones
use Rattle.c65_base.specs.declared.operators.BinaryOp.{BinaryOp}
use Rattle.c65_base.specs.declared.operators.BinaryOp.TheVariants as ops
use Rattle.c65_ints.specs.declared.types.IntType.{IntType}
use Rattle.c65_ints.specs.Ranges.{InRange, wrap_of}
use Rattle.c65_ctype.specs.Trees.{void, int, pointer, array, tag, function, QTy, qual, type_in, Fn, fn, unknown, known, QTys, end, more}
use Rattle.c65_csem.specs.Trees.{Typed, node, Node, constant, null, literal, object, func, deref, member, load, address, decay, convert, unary, binary, both, either, choice, comma, assign, assign_op, assign_step, step, copy, call, pack, spill, rest, Nodes, none, some, type_of, UnitTy}
use Rattle.c65_csem.specs.Places.{is_place, plain, plain_of, is_tag, is_scalar}
use Rattle.c65_csem.specs.Typed.{IsTyped, IsNode, IsGiven, IsCalled, AreTyped, HasInt, IsInt, IsPointer, IsScalar, IsValue, IsScalarPlace, AreCompared, AreAdded, AreSubtracted, Operands, Operand, Computes, Converts, IsMember, IsAddressed, IsArm, ArePassed, AreGiven, FitsFn, IsCall, decayed, Passes}
use Rattle.c65_fold.specs.Compute.{is_zero, truth, unary_value, binary_value}
use Rattle.c65_fold.specs.Constants.{number_type, and_also, or_else}
use Rattle.c65_fold.specs.Folded
use Rattle.c65_fold.specs.Folded.{from_both, now_value, value_at, by_value, settled, folded, folded_node, folded_nodes}
use Rattle.c65_fold.proofs.FoldLaws.{never, is_some_of, kept_type, kept_place, kept_bits, kept_register, kept_size}
use Rattle.c65_fold.proofs.RangeLaws.{wrap_in_range, truth_in_range, unary_in_range, binary_in_range, in_range_by, some_is}

-- A node that has a value: its type is an integer type, and the value lies in its range.

abbrev IsPlain : QTy → Type 0
IsPlain t = t ≡ plain_of t

int_plain : (t : QTy) (k : IntType) → HasInt t k → IsPlain t
int_plain t k h = h ∙ sym (ap plain_of h)

pointer_plain : (t : QTy) → IsPointer t → IsPlain t
pointer_plain t p = p.1 ∙ sym (ap plain_of p.1)

plain_along : (t a : QTy) → t ≡ a → IsPlain a → IsPlain t
plain_along t a h p = h ∙ p ∙ sym (ap plain_of h)

operand_plain : (op : UnaryOp) (t a : QTy) → Operand op t a → IsPlain t
operand_plain ones.Neg t a w = plain_along t a w.1 (int_plain a w.0.0 w.0.1)
operand_plain ones.BitNot t a w = plain_along t a w.1 (int_plain a w.0.0 w.0.1)
operand_plain ones.Not t a w = int_plain t _ w.0
operand_plain _ t a w = absurd w

compared_plain : (t a b : QTy) → AreCompared t a b → IsPlain t
compared_plain t a b (AreCompared.numbers k p h i j) = int_plain t _ h
compared_plain t a b (AreCompared.pointers h i j) = int_plain t _ h

added_plain : (u : UnitTy) (t a b : QTy) → AreAdded u t a b → IsPlain t
added_plain u t a b (AreAdded.numbers w) = int_plain t w.kind w.result
added_plain u t a b (AreAdded.pointer_first m i h) = plain_along t a h (pointer_plain a m.0)
added_plain u t a b (AreAdded.pointer_last i m h) = plain_along t b h (pointer_plain b m.0)

subtracted_plain : (u : UnitTy) (t a b : QTy) → AreSubtracted u t a b → IsPlain t
subtracted_plain u t a b (AreSubtracted.numbers w) = int_plain t w.kind w.result
subtracted_plain u t a b (AreSubtracted.pointer_first m i h) = plain_along t a h (pointer_plain a m.0)
subtracted_plain u t a b (AreSubtracted.pointers m n h) = int_plain t _ h

operands_plain : (u : UnitTy) (op : BinaryOp) (t a b : QTy) → Operands u op t a b → IsPlain t
operands_plain u ops.Mul t a b w = int_plain t w.kind w.result
operands_plain u ops.Div t a b w = int_plain t w.kind w.result
operands_plain u ops.Rem t a b w = int_plain t w.kind w.result
operands_plain u ops.Add t a b w = added_plain u t a b w
operands_plain u ops.Sub t a b w = subtracted_plain u t a b w
operands_plain u ops.Shl t a b w = plain_along t a w.result (int_plain a w.left.0 w.left.1)
operands_plain u ops.Shr t a b w = plain_along t a w.result (int_plain a w.left.0 w.left.1)
operands_plain u ops.Lt t a b w = compared_plain t a b w
operands_plain u ops.Gt t a b w = compared_plain t a b w
operands_plain u ops.Le t a b w = compared_plain t a b w
operands_plain u ops.Ge t a b w = compared_plain t a b w
operands_plain u ops.Eq t a b w = compared_plain t a b w
operands_plain u ops.Ne t a b w = compared_plain t a b w
operands_plain u ops.BitAnd t a b w = int_plain t w.kind w.result
operands_plain u ops.BitXor t a b w = int_plain t w.kind w.result
operands_plain u ops.BitOr t a b w = int_plain t w.kind w.result

number_int : (t : QTy) (k : IntType) → number_type (type_in t) ≡ Some k → IsPlain t → HasInt t k
number_int (qual void c v) k h p = cc
number_int (qual (int j) c v) k h p = p ∙ ap (λ (i : IntType). plain (int i)) (some_is j k h)
number_int (qual (pointer q) c v) k h p = cc
number_int (qual (array q n) c v) k h p = cc
number_int (qual (tag n) c v) k h p = cc
number_int (qual (function f) c v) k h p = cc

number_of_int : (t : QTy) (j k : IntType) → number_type (type_in t) ≡ Some k → HasInt t j → j ≡ k
number_of_int t j k h p = some_is j k (sym (ap (λ (q : QTy). number_type (type_in q)) p) ∙ h)

bound_some : {A B : Type 0} → (f : A → Option B) (o : Option A) (z : B) → option_and_then f o ≡ Some z → (x : A) × (o ≡ Some x) × (f x ≡ Some z)
bound_some f None z h = cc
bound_some f (Some x) z h = (x, refl, h)

-- a constant that is well typed is in the range of its type
known_in_range : (u : UnitTy) (e : Typed) (k : IntType) (z : ℤ) → IsTyped u e → number_type (type_in (type_of e)) ≡ Some k → Folded.known e ≡ Some z → InRange k z
known_in_range u (node t (constant y)) k z w h g =
    let P : ℤ → Type 0 = InRange k in
    let Q : IntType → Type 0 = λ (j : IntType). InRange j y in
    subst P (some_is y z g) (subst Q (number_of_int t w.0 k h w.1) w.2)
known_in_range u (node t _) k z w h g = cc

arm_type : (t : QTy) (e : Typed) (k : IntType) → number_type (type_in t) ≡ Some k → IsArm t e → (t ≡ type_of e) × IsPlain t
arm_type t e k h (IsArm.value v s) = (sym s, plain_along t (type_of e) (sym s) v.0.1)
arm_type t e k h (IsArm.place s p) = absurd (no_tag t k h s)
  where
    no_tag : (t : QTy) (k : IntType) → number_type (type_in t) ≡ Some k → IsTrue (is_tag (type_in t)) → ⊥
    no_tag (qual void c v) k h s = cc
    no_tag (qual (int j) c v) k h s = cc
    no_tag (qual (pointer q) c v) k h s = cc
    no_tag (qual (array q n) c v) k h s = cc
    no_tag (qual (tag n) c v) k h s = cc
    no_tag (qual (function f) c v) k h s = cc
arm_type t e k h (IsArm.nothing p s) = (sym s, p ∙ sym (ap plain_of p))

arm_in_range : (u : UnitTy) (t : QTy) (e : Typed) (k : IntType) (z : ℤ) → IsTyped u e → IsArm t e → number_type (type_in t) ≡ Some k → Folded.known e ≡ Some z → InRange k z
arm_in_range u t e k z w a h g = known_in_range u e k z w (sym (ap (λ (q : QTy). number_type (type_in q)) (arm_type t e k h a).0) ∙ h) g

both_some : (x y : Option ℤ) (f : ℤ → ℤ → Option ℤ) (z : ℤ) → from_both x y f ≡ Some z → (a b : ℤ) × (x ≡ Some a) × (y ≡ Some b) × (f a b ≡ Some z)
both_some None y f z h = cc
both_some (Some a) None f z h = cc
both_some (Some a) (Some b) f z h = (a, b, refl, refl, h)

and_by : (k : IntType) (b : Bool) (y z : ℤ) → (if b then Some (truth false) else Some (truth (if is_zero y then false else true))) ≡ Some z → InRange k z
and_by k true y z h = in_range_by k _ z h (truth_in_range k false)
and_by k false y z h = in_range_by k _ z h (truth_in_range k (if is_zero y then false else true))

or_by : (k : IntType) (b : Bool) (y z : ℤ) → (if b then Some (truth (if is_zero y then false else true)) else Some (truth true)) ≡ Some z → InRange k z
or_by k true y z h = in_range_by k _ z h (truth_in_range k (if is_zero y then false else true))
or_by k false y z h = in_range_by k _ z h (truth_in_range k true)

chosen_in_range : (k : IntType) (b : Bool) (x y z : ℤ) → InRange k x → InRange k y → Some (if b then y else x) ≡ Some z → InRange k z
chosen_in_range k true x y z v w h = in_range_by k y z h w
chosen_in_range k false x y z v w h = in_range_by k x z h v

converts_plain : (t : QTy) (e : Typed) (k : IntType) → number_type (type_in t) ≡ Some k → Converts t e → IsPlain t
converts_plain t e k h (Converts.scalar s v) = s.1
converts_plain t e k h Converts.to_void = cc

pub value_in_range : (u : UnitTy) (t : QTy) (n : Node) (k : IntType) (z : ℤ) → IsNode u t n → number_type (type_in t) ≡ Some k → now_value n k ≡ Some z → IsPlain t × InRange k z
value_in_range u t (convert e) k z w h g =
    let b = bound_some (λ (x : ℤ). Some (wrap_of k x)) (Folded.known e) z g in
    (converts_plain t e k h w.1, in_range_by k _ z b.2 (wrap_in_range k b.0))
value_in_range u t (unary op e) k z w h g =
    let b = bound_some (λ (x : ℤ). unary_value op k x) (Folded.known e) z g in
    (operand_plain op t (type_of e) w.2, unary_in_range op k b.0 z b.2)
value_in_range u t (binary op a b) k z w h g =
    let v = both_some (Folded.known a) (Folded.known b) (λ (x y : ℤ). binary_value op k x y) z g in
    (operands_plain u op t (type_of a) (type_of b) w.4, binary_in_range op k v.0 v.1 z v.4)
value_in_range u t (both a b) k z w h g =
    let v = both_some (Folded.known a) (Folded.known b) (λ (x y : ℤ). and_also x (Some y)) z g in
    (int_plain t _ w.2, and_by k (is_zero v.0) v.1 z v.4)
value_in_range u t (either a b) k z w h g =
    let v = both_some (Folded.known a) (Folded.known b) (λ (x y : ℤ). or_else x (Some y)) z g in
    (int_plain t _ w.2, or_by k (is_zero v.0) v.1 z v.4)
value_in_range u t (choice x a b) k z w h g =
    let i = bound_some (λ (c : ℤ). from_both (Folded.known a) (Folded.known b) (λ (y n : ℤ). Some (if is_zero c then n else y))) (Folded.known x) z g in
    let v = both_some (Folded.known a) (Folded.known b) (λ (y n : ℤ). Some (if is_zero i.0 then n else y)) z i.2 in
    ((arm_type t a k h w.4).1, chosen_in_range k (is_zero i.0) v.0 v.1 z (arm_in_range u t a k v.0 w.1 w.4 h v.2) (arm_in_range u t b k v.1 w.2 w.5 h v.3) v.4)
value_in_range u t (comma a b) k z w h g =
    let v = both_some (Folded.known a) (Folded.known b) (λ (x y : ℤ). Some y) z g in
    ((arm_type t b k h w.2).1, in_range_by k v.1 z v.4 (arm_in_range u t b k v.1 w.1 w.2 h v.3))
value_in_range u t _ k z w h g = cc

settled_by : (u : UnitTy) (t : QTy) (n : Node) (o : Option ℤ) → value_at t n ≡ o → IsNode u t n → IsTyped u (by_value t n o)
settled_by u t n None h w = w
settled_by u t n (Some z) h w =
    let b = bound_some (λ (k : IntType). now_value n k) (number_type (type_in t)) z h in
    let v = value_in_range u t n b.0 z w b.1 b.2 in
    (b.0, number_int t b.0 b.1 v.0, v.1)

-- The parts of a node keep what their node asks of them.

not_place : (e : Typed) → is_place e ≡ false → is_place (folded e) ≡ false
not_place e h = kept_place e ∙ h

still_place : (e : Typed) → IsTrue (is_place e) → IsTrue (is_place (folded e))
still_place e h = subst IsTrue (sym (kept_place e)) h

by_type : (P : QTy → Type 0) (e : Typed) → P (type_of e) → P (type_of (folded e))
by_type P e h = subst P (sym (kept_type e)) h

still_value : (e : Typed) → IsValue e → IsValue (folded e)
still_value e w = (by_type IsScalar e w.0, not_place e w.1)

still_scalar_place : (e : Typed) → IsScalarPlace e → IsScalarPlace (folded e)
still_scalar_place e w = (still_place e w.0, by_type (λ (t : QTy). IsTrue (is_scalar (type_in t))) e w.1)

still_arm : (t : QTy) (e : Typed) → IsArm t e → IsArm t (folded e)
still_arm t e (IsArm.value v s) = IsArm.value (still_value e v) (kept_type e ∙ s)
still_arm t e (IsArm.place s p) = IsArm.place s (p ∙ sym (ap plain_of (kept_type e)))
still_arm t e (IsArm.nothing p s) = IsArm.nothing p (kept_type e ∙ s)

still_converts : (t : QTy) (e : Typed) → Converts t e → Converts t (folded e)
still_converts t e (Converts.scalar s v) = Converts.scalar s (still_value e v)
still_converts t e Converts.to_void = Converts.to_void

still_addressed : (u : UnitTy) (e : Typed) → IsAddressed u e → IsAddressed u (folded e)
still_addressed u e w = record {
  place = still_place e w.place;
  whole = kept_bits u.types e ∙ w.whole;
  memory = kept_register u e ∙ w.memory;
}

still_passed : (u : UnitTy) (es : Nodes) → ArePassed u es → ArePassed u (folded_nodes es)
still_passed u none w = tt
still_passed u (some e es) w = (by_type (Passes u) e w.0, still_passed u es w.1)

still_given : (u : UnitTy) (qs : QTys) (variadic : Bool) (es : Nodes) → AreGiven u qs variadic es → AreGiven u qs variadic (folded_nodes es)
still_given u end false none w = tt
still_given u end false (some e es) w = w
still_given u end true es w = still_passed u es w
still_given u (more q qs) variadic none w = w
still_given u (more q qs) variadic (some e es) w = (kept_type e ∙ w.0, still_given u qs variadic es w.1)

still_fits : (u : UnitTy) (f : Fn) (es : Nodes) → FitsFn u f es → FitsFn u f (folded_nodes es)
still_fits u (fn q unknown variadic cdecl) es w = still_passed u es w
still_fits u (fn q (known qs) variadic cdecl) es w = still_given u qs variadic es w

still_call : (u : UnitTy) (t f : QTy) (es : Nodes) → IsCall u t f es → IsCall u t f (folded_nodes es)
still_call u t f es w = record {
  callee = w.callee;
  named = w.named;
  result = w.result;
  given = still_fits u w.callee es w.given;
  few = subst (λ (n : ℕ). n ≤ 250) (sym (kept_size u.types es)) w.few;
}

-- a value is an argument
as_given : (u : UnitTy) (e : Typed) → IsTyped u e → IsValue e → IsGiven u e
as_given u (node t (pack e)) w v = absurd w
as_given u (node t n) w v = (w, v)

-- the bytes of a structure or union are no constant, and neither is a call
settled_pack : (u : UnitTy) (t : QTy) (e : Typed) (o : Option ℤ) → value_at t (pack e) ≡ o → IsGiven u (node t (pack e)) → IsGiven u (by_value t (pack e) o)
settled_pack u t e None h w = w
settled_pack u t e (Some z) h w = absurd (is_some_of _ z h (never (number_type (type_in t))))

settled_call : (u : UnitTy) (t s : QTy) (f : Typed) (es : Nodes) (o : Option ℤ) → value_at s (call f es) ≡ o → IsCalled u t (node s (call f es)) → IsCalled u t (by_value s (call f es) o)
settled_call u t s f es None h w = w
settled_call u t s f es (Some z) h w = absurd (is_some_of _ z h (never (number_type (type_in s))))

mutual
  pub typed : (u : UnitTy) (e : Typed) → IsTyped u e → IsTyped u (folded e)
  typed u (node t e) w = settled_by u t (folded_node e) (value_at t (folded_node e)) refl (typed_node u t e w)

  typed_node : (u : UnitTy) (t : QTy) (e : Node) → IsNode u t e → IsNode u t (folded_node e)
  typed_node u t (constant z) w = w
  typed_node u t null w = w
  typed_node u t (literal n) w = w
  typed_node u t (object i) w = w
  typed_node u t (func i) w = w
  typed_node u t (deref e) w = (typed u e w.0, not_place e w.1, kept_type e ∙ w.2)
  typed_node u t (member e m) w = (typed u e w.0, by_type (λ (s : QTy). IsMember u t s m) e w.1)
  typed_node u t (load e) w = (typed u e w.0, still_scalar_place e w.1, w.2 ∙ sym (ap plain_of (kept_type e)))
  typed_node u t (address e) w = (typed u e w.0, still_addressed u e w.1, w.2 ∙ sym (ap (λ (q : QTy). plain (pointer q)) (kept_type e)))
  typed_node u t (decay e) w = (typed u e w.0, still_place e w.1, ap decayed (kept_type e) ∙ w.2)
  typed_node u t (convert e) w = (typed u e w.0, still_converts t e w.1)
  typed_node u t (unary op e) w = (typed u e w.0, not_place e w.1, by_type (Operand op t) e w.2)
  typed_node u t (binary op a b) w = (typed u a w.0, typed u b w.1, not_place a w.2, not_place b w.3, by_type (λ (q : QTy). Operands u op t q (type_of (folded b))) a (by_type (Operands u op t (type_of a)) b w.4))
  typed_node u t (both a b) w = (typed u a w.0, typed u b w.1, w.2, still_value a w.3, still_value b w.4)
  typed_node u t (either a b) w = (typed u a w.0, typed u b w.1, w.2, still_value a w.3, still_value b w.4)
  typed_node u t (choice x a b) w = (typed u x w.0, typed u a w.1, typed u b w.2, still_value x w.3, still_arm t a w.4, still_arm t b w.5)
  typed_node u t (comma a b) w = (typed u a w.0, typed u b w.1, still_arm t b w.2)
  typed_node u t (assign a b) w = (typed u a w.0, typed u b w.1, still_scalar_place a w.2, w.3 ∙ sym (ap plain_of (kept_type a)), not_place b w.4, kept_type b ∙ w.5)
  typed_node u t (assign_op op k a b) w = (typed u a w.0, typed u b w.1, still_scalar_place a w.2, w.3, w.4 ∙ sym (ap plain_of (kept_type a)), not_place b w.5, w.6, by_type (Computes op k) b w.7)
  typed_node u t (assign_step op a b) w = (typed u a w.0, typed u b w.1, still_scalar_place a w.2, w.3 ∙ sym (ap plain_of (kept_type a)), w.4, not_place b w.5, by_type IsInt b w.6, w.7)
  typed_node u t (step how a) w = (typed u a w.0, still_scalar_place a w.1, w.2 ∙ sym (ap plain_of (kept_type a)), w.3)
  typed_node u t (copy a b) w = (typed u a w.0, typed u b w.1, still_place a w.2, w.3, w.4 ∙ sym (ap plain_of (kept_type a)), w.5 ∙ sym (ap plain_of (kept_type b)))
  typed_node u t (call f es) w = (typed u f w.0, not_place f w.1, by_type (λ (q : QTy). IsCall u t q (folded_nodes es)) f (still_call u t (type_of f) es w.2), w.3, typed_nodes u es w.4)
  typed_node u t (pack e) w = w
  typed_node u t (spill i e) w = (called u t e w.0, w.1)
  typed_node u t rest w = w

  pub given : (u : UnitTy) (e : Typed) → IsGiven u e → IsGiven u (folded e)
  given u (node t (pack e)) w = settled_pack u t (folded e) (value_at t (pack (folded e))) refl (typed u e w.0, w.1, w.2 ∙ sym (ap plain_of (kept_type e)))
  given u (node t n) w = as_given u (folded (node t n)) (settled_by u t (folded_node n) (value_at t (folded_node n)) refl (typed_node u t n w.0)) (still_value (node t n) w.1)

  called : (u : UnitTy) (t : QTy) (e : Typed) → IsCalled u t e → IsCalled u t (folded e)
  called u t (node s (call f es)) w = settled_call u t s (folded f) (folded_nodes es) (value_at s (call (folded f) (folded_nodes es))) refl (w.0, w.1, typed u f w.2, not_place f w.3, by_type (λ (q : QTy). IsCall u s q (folded_nodes es)) f (still_call u s (type_of f) es w.4), typed_nodes u es w.5)
  called u t (node s _) w = absurd w

  typed_nodes : (u : UnitTy) (es : Nodes) → AreTyped u es → AreTyped u (folded_nodes es)
  typed_nodes u none w = tt
  typed_nodes u (some e es) w = (given u e w.0, typed_nodes u es w.1)
