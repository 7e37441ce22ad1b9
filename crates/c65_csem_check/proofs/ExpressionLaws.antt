-- What the tests on expressions tell.
use Rattle.std.proofs.Common.{◌≡◌, ℕ, ◌+◌, ◌≤◌, ℤ, ◌≤ℤ◌, List, length, Bool, true, false, not, ◌&&◌, ◌||◌, ◌⊎◌, inl, inr, Option, Some, None, is_some, slice_get, nat_le, int_le, refl, sym, ap, ◌∙◌, subst, IsTrue}
use Rattle.std.specs.Prelude.{if◌then◌else◌, T}
use Rattle.std.specs.Int.Signed.{le_z_yes}
use Rattle.std.proofs.lemmas.Bool.{le-leb, leb-true}
use Rattle.c65_base.specs.declared.operators.UnaryOp.{UnaryOp}
use Rattle.c65_base.specs.declared.operators.UnaryOp.TheVariants as ones
use Rattle.c65_base.specs.declared.operators.BinaryOp.{BinaryOp}
use Rattle.c65_base.specs.declared.operators.BinaryOp.TheVariants as ops
use Rattle.c65_ints.specs.declared.types.IntType.{IntType}
use Rattle.c65_ints.specs.declared.types.IntType.TheVariants.{Int}
use Rattle.c65_ints.specs.Ranges.{InRange, least_of, greatest_of}
use Rattle.c65_ctype.specs.Trees.{Ty, void, int, pointer, array, tag, function, QTy, qual, type_in, Fn, fn, Params, unknown, known, QTys, end, more, MemberTy, TypesTy}
use Rattle.c65_ctype.specs.Sizes.{size_of}
use Rattle.c65_csem.specs.declared.items.Class.{Class}
use Rattle.c65_csem.specs.declared.items.Class.TheVariants as classes
use Rattle.c65_csem.specs.Trees.{Typed, node, Node, constant, null, literal, object, func, deref, member, load, address, decay, convert, unary, binary, both as both_node, either as either_node, choice, comma, assign, assign_op, assign_step, step, copy, call, pack, spill, rest, Nodes, none, some, type_of, ObjectTy, FuncTy, UnitTy}
use Rattle.c65_csem.specs.Places.{is_place, plain, plain_of, qualified, is_promoted, is_scalar, is_tag, member_at, is_bit_field, is_registered, are_alike}
use Rattle.c65_csem.specs.Typed.{IsTyped, IsNode, IsGiven, IsCalled, AreTyped, HasInt, IsInt, IsPromoted, IsPointer, IsScalar, IsValue, IsMoved, IsScalarPlace, AreAlike, AreShifted, AreCompared, AreAdded, AreSubtracted, Operands, Operand, Computes, Steps, Converts, IsLiteral, Passes, IsMember, IsAddressed, IsArm, IsStepped, ArePassed, AreGiven, Fits, FitsFn, IsSmall, IsUsual, IsCall, IsSpot, arguments_size, result_of, rest_type}
use Rattle.c65_csem_check.specs.Kinds as types
use Rattle.c65_csem_check.specs.Expressions as b
use Rattle.c65_csem_check.proofs.Tells.{Tells, like, tells_itself, tells_not, tells_unit, tells_never, tells_found, some_same, from_decides, both, behind, three, four, either}
use Rattle.c65_csem_check.proofs.TypeLaws.{IsFlat, flat_is, small_flat, tells_same, tells_ty, tells_int_of, tells_by_int, tells_int, tells_promoted, tells_void, tells_pointer, tells_plain_of, tells_scalar, tells_pointer_to, tells_moved, tells_small, tells_usual, tells_passes, tells_stepped, tells_decayed, tells_literal, tells_qualified}

true_of : (b : Bool) → T b → b ≡ true
true_of true h = refl
true_of false h = absurd h

passed : (b : Bool) → b ≡ true → T b
passed true h = tt
passed false h = cc

-- the function that a type points to
callee_is : (t : QTy) (f : Fn) → b.callee_of t ≡ Some f → t ≡ plain (pointer (plain (function f)))
callee_is (qual (pointer (qual (function g) false false)) false false) f h = let e : g ≡ f = cc in ap (λ (x : Fn). plain (pointer (plain (function x)))) e
callee_is (qual (pointer (qual (function g) true w)) false false) f h = cc
callee_is (qual (pointer (qual (function g) false true)) false false) f h = cc
callee_is (qual (pointer (qual void d w)) false false) f h = cc
callee_is (qual (pointer (qual (int k) d w)) false false) f h = cc
callee_is (qual (pointer (qual (pointer q) d w)) false false) f h = cc
callee_is (qual (pointer (qual (array q n) d w)) false false) f h = cc
callee_is (qual (pointer (qual (tag n) d w)) false false) f h = cc
callee_is (qual void false false) f h = cc
callee_is (qual (int k) false false) f h = cc
callee_is (qual (array q n) false false) f h = cc
callee_is (qual (tag n) false false) f h = cc
callee_is (qual (function g) false false) f h = cc
callee_is (qual t true v) f h = cc
callee_is (qual t false true) f h = cc

pub given_flat : (u : UnitTy) (e : Typed) → IsGiven u e → IsFlat (type_in (type_of e))
given_flat u (node t (pack e)) w = small_flat u.types (type_in t) w.1.0
given_flat u (node t e) w = inl w.1.0.0

given_bytes : (u : UnitTy) (es : Nodes) → AreTyped u es → b.argument_bytes u.types es ≡ arguments_size u.types es
given_bytes u none w = refl
given_bytes u (some (node t e) es) w =
    ap (λ (k : ℕ). k + b.argument_bytes u.types es) (flat_is u.types (type_in t) (given_flat u (node t e) w.0))
    ∙ ap (λ (k : ℕ). size_of u.types (type_in t) + k) (given_bytes u es w.1)

abbrev OfOne : QTy → QTy → Type 0
OfOne a c = (k : IntType) × HasInt a k × (IsTrue (is_promoted k) × HasInt a k × HasInt c k)

and_false : (x : Bool) → (x && false) ≡ true → ⊥
and_false true h = cc
and_false false h = cc

abbrev Called : UnitTy → QTy → Nodes → Fn → Type 0
Called u t es g = (t ≡ plain_of (result_of g)) × FitsFn u g es × (b.are_few u.types es ≡ true)

made_call : (u : UnitTy) (t f : QTy) (es : Nodes) (g : Fn) → AreTyped u es → b.callee_of f ≡ Some g → Called u t es g → IsCall u t f es
made_call u t f es g typed e w = record {
  callee = g;
  named = callee_is f g e;
  result = w.0;
  given = w.1;
  few = subst (λ (n : ℕ). n ≤ 250) (given_bytes u es typed) (leb-true _ _ w.2);
}

of_call : (u : UnitTy) (t f : QTy) (es : Nodes) (g : Fn) → AreTyped u es → b.callee_of f ≡ Some g → IsCall u t f es → Called u t es g
of_call u t f es g typed e w =
    let P : Fn → Type 0 = Called u t es in
    let named : b.callee_of f ≡ Some w.callee = ap b.callee_of w.named in
    let same : w.callee ≡ g = cc in
    let few : arguments_size u.types es ≤ 250 = w.few in
    subst P same (w.result, w.given, le-leb _ _ (subst (λ (n : ℕ). n ≤ 250) (sym (given_bytes u es typed)) few))

module _ {S : Type 0} where
  -- Operands.

  numbers_of : (a c : QTy) (k : IntType) → Tells S (b.numbers_by (Some k) a c) (IsTrue (is_promoted k) × HasInt a k × HasInt c k)
  numbers_of a c k = three (tells_itself (is_promoted k)) (tells_int_of a k) (tells_int_of c k)

  tells_numbers : (t a c : QTy) → Tells S (b.are_numbers t a c) (AreAlike t a c)
  tells_numbers t a c = like (tells_by_int t (λ (o : Option IntType). b.numbers_by o a c) (λ k. IsTrue (is_promoted k) × HasInt a k × HasInt c k) refl (numbers_of a c))
      (λ w. record { kind = w.0; promoted = w.2.0; result = w.1; left = w.2.1; right = w.2.2 })
      (λ w. (w.kind, w.result, (w.promoted, w.left, w.right)))

  tells_shifted : (t a c : QTy) → Tells S (b.are_shifted t a c) (AreShifted t a c)
  tells_shifted t a c = like (three (tells_promoted a) (tells_promoted c) (tells_same t a))
      (λ w. record { left = w.0; right = w.1; result = w.2 })
      (λ w. (w.left, w.right, w.result))

  tells_compared : (t a c : QTy) → Tells S (b.are_compared t a c) (AreCompared t a c)
  tells_compared t a c = like (both (tells_int_of t Int) (either (tells_by_int a (λ (o : Option IntType). b.numbers_by o a c) (λ k. IsTrue (is_promoted k) × HasInt a k × HasInt c k) refl (numbers_of a c)) (both (tells_pointer a) (tells_pointer c)))) (λ w. to w.0 w.1) (λ w. from w)
    where
      to : HasInt t Int → OfOne a c ⊎ (IsPointer a × IsPointer c) → AreCompared t a c
      to h (inl w) = AreCompared.numbers w.0 w.2.0 h w.2.1 w.2.2
      to h (inr w) = AreCompared.pointers h w.0 w.1

      from : AreCompared t a c → HasInt t Int × (OfOne a c ⊎ (IsPointer a × IsPointer c))
      from (AreCompared.numbers k p h i j) = (h, inl (k, i, (p, i, j)))
      from (AreCompared.pointers h i j) = (h, inr (i, j))

  tells_added : (u : UnitTy) (t a c : QTy) → Tells S (b.are_added u.types t a c) (AreAdded u t a c)
  tells_added u t a c = like (either (either (tells_numbers t a c) (three (tells_moved u a) (tells_int c) (tells_same t a))) (three (tells_int a) (tells_moved u c) (tells_same t c))) (λ w. to w) (λ w. from w)
    where
      to : (AreAlike t a c ⊎ (IsMoved u a × IsInt c × (t ≡ a))) ⊎ (IsInt a × IsMoved u c × (t ≡ c)) → AreAdded u t a c
      to (inl (inl w)) = AreAdded.numbers w
      to (inl (inr w)) = AreAdded.pointer_first w.0 w.1 w.2
      to (inr w) = AreAdded.pointer_last w.0 w.1 w.2

      from : AreAdded u t a c → (AreAlike t a c ⊎ (IsMoved u a × IsInt c × (t ≡ a))) ⊎ (IsInt a × IsMoved u c × (t ≡ c))
      from (AreAdded.numbers w) = inl (inl w)
      from (AreAdded.pointer_first m i h) = inl (inr (m, i, h))
      from (AreAdded.pointer_last i m h) = inr (i, m, h)

  tells_subtracted : (u : UnitTy) (t a c : QTy) → Tells S (b.are_subtracted u.types t a c) (AreSubtracted u t a c)
  tells_subtracted u t a c = like (either (either (tells_numbers t a c) (three (tells_moved u a) (tells_int c) (tells_same t a))) (three (tells_moved u a) (tells_moved u c) (tells_int_of t Int))) (λ w. to w) (λ w. from w)
    where
      to : (AreAlike t a c ⊎ (IsMoved u a × IsInt c × (t ≡ a))) ⊎ (IsMoved u a × IsMoved u c × HasInt t Int) → AreSubtracted u t a c
      to (inl (inl w)) = AreSubtracted.numbers w
      to (inl (inr w)) = AreSubtracted.pointer_first w.0 w.1 w.2
      to (inr w) = AreSubtracted.pointers w.0 w.1 w.2

      from : AreSubtracted u t a c → (AreAlike t a c ⊎ (IsMoved u a × IsInt c × (t ≡ a))) ⊎ (IsMoved u a × IsMoved u c × HasInt t Int)
      from (AreSubtracted.numbers w) = inl (inl w)
      from (AreSubtracted.pointer_first m i h) = inl (inr (m, i, h))
      from (AreSubtracted.pointers m n h) = inr (m, n, h)

  tells_operands : (u : UnitTy) (op : BinaryOp) (t a c : QTy) → Tells S (b.operands u.types op t a c) (Operands u op t a c)
  tells_operands u ops.Mul t a c = tells_numbers t a c
  tells_operands u ops.Div t a c = tells_numbers t a c
  tells_operands u ops.Rem t a c = tells_numbers t a c
  tells_operands u ops.Add t a c = tells_added u t a c
  tells_operands u ops.Sub t a c = tells_subtracted u t a c
  tells_operands u ops.Shl t a c = tells_shifted t a c
  tells_operands u ops.Shr t a c = tells_shifted t a c
  tells_operands u ops.Lt t a c = tells_compared t a c
  tells_operands u ops.Gt t a c = tells_compared t a c
  tells_operands u ops.Le t a c = tells_compared t a c
  tells_operands u ops.Ge t a c = tells_compared t a c
  tells_operands u ops.Eq t a c = tells_compared t a c
  tells_operands u ops.Ne t a c = tells_compared t a c
  tells_operands u ops.BitAnd t a c = tells_numbers t a c
  tells_operands u ops.BitXor t a c = tells_numbers t a c
  tells_operands u ops.BitOr t a c = tells_numbers t a c

  tells_operand : (op : UnaryOp) (t a : QTy) → Tells S (b.operand op t a) (Operand op t a)
  tells_operand ones.Neg t a = both (tells_promoted a) (tells_same t a)
  tells_operand ones.BitNot t a = both (tells_promoted a) (tells_same t a)
  tells_operand ones.Not t a = both (tells_int_of t Int) (tells_scalar a)
  tells_operand _ t a = tells_never

  tells_computes : (op : BinaryOp) (k : IntType) (c : QTy) → Tells S (b.computes op k c) (Computes op k c)
  tells_computes ops.Mul k c = tells_int_of c k
  tells_computes ops.Div k c = tells_int_of c k
  tells_computes ops.Rem k c = tells_int_of c k
  tells_computes ops.Add k c = tells_int_of c k
  tells_computes ops.Sub k c = tells_int_of c k
  tells_computes ops.Shl k c = tells_promoted c
  tells_computes ops.Shr k c = tells_promoted c
  tells_computes ops.BitAnd k c = tells_int_of c k
  tells_computes ops.BitXor k c = tells_int_of c k
  tells_computes ops.BitOr k c = tells_int_of c k
  tells_computes _ k c = tells_never

  tells_steps : (op : BinaryOp) → Tells S (b.steps op) (Steps op)
  tells_steps ops.Add = tells_unit
  tells_steps ops.Sub = tells_unit
  tells_steps _ = tells_never

  -- Values and places.

  pub tells_value : (e : Typed) → Tells S (b.is_value e) (IsValue e)
  tells_value e = both (tells_scalar (type_of e)) (tells_not (is_place e))

  tells_scalar_place : (e : Typed) → Tells S (b.is_scalar_place e) (IsScalarPlace e)
  tells_scalar_place e = both (tells_itself (is_place e)) (tells_itself (is_scalar (type_in (type_of e))))

  tells_converts : (t : QTy) (e : Typed) → Tells S (b.converts t e) (Converts t e)
  tells_converts t e = like (either (both (tells_scalar t) (tells_value e)) (tells_void t)) (λ w. to w) (λ w. from w)
    where
      to : (IsScalar t × IsValue e) ⊎ (t ≡ plain void) → Converts t e
      to (inl w) = Converts.scalar w.0 w.1
      to (inr h) = subst (λ (q : QTy). Converts q e) (sym h) Converts.to_void

      from : {q : QTy} → Converts q e → (IsScalar q × IsValue e) ⊎ (q ≡ plain void)
      from (Converts.scalar s v) = inl (s, v)
      from Converts.to_void = inr refl

  tells_arm : (t : QTy) (e : Typed) → Tells S (b.is_arm t e) (IsArm t e)
  tells_arm t e = like (either (either (both (tells_value e) (tells_same (type_of e) t)) (both (tells_itself (is_tag (type_in t))) (tells_plain_of t (type_of e)))) (both (tells_void t) (tells_same (type_of e) t))) (λ w. to w) (λ w. from w)
    where
      to : ((IsValue e × (type_of e ≡ t)) ⊎ (IsTrue (is_tag (type_in t)) × (t ≡ plain_of (type_of e)))) ⊎ ((t ≡ plain void) × (type_of e ≡ t)) → IsArm t e
      to (inl (inl w)) = IsArm.value w.0 w.1
      to (inl (inr w)) = IsArm.place w.0 w.1
      to (inr w) = IsArm.nothing w.0 w.1

      from : IsArm t e → ((IsValue e × (type_of e ≡ t)) ⊎ (IsTrue (is_tag (type_in t)) × (t ≡ plain_of (type_of e)))) ⊎ ((t ≡ plain void) × (type_of e ≡ t))
      from (IsArm.value v h) = inl (inl (v, h))
      from (IsArm.place s h) = inl (inr (s, h))
      from (IsArm.nothing h i) = inr (h, i)

  tells_addressed : (u : UnitTy) (e : Typed) → Tells S (b.is_addressed u e) (IsAddressed u e)
  tells_addressed u e = like (three (tells_itself (is_place e)) (tells_not (is_bit_field u.types e)) (tells_not (is_registered u e)))
      (λ w. record { place = w.0; whole = w.1; memory = w.2 })
      (λ w. (w.place, w.whole, w.memory))

  -- Leaves.

  tells_le : (x y : ℤ) → Tells S (int_le x y) (x ≤ℤ y)
  tells_le x y = record { yes = λ h. le_z_yes (passed (int_le x y) h); only = λ s w. true_of (int_le x y) w.le }

  pub holds_in : (k : IntType) (z : ℤ) → Tells S (b.holds (Some k) z) (InRange k z)
  holds_in k z = like (both (tells_le (least_of k) z) (tells_le z (greatest_of k))) (λ w. record { low = w.0; high = w.1 }) (λ w. (w.low, w.high))

  tells_constant : (t : QTy) (z : ℤ) → Tells S (b.holds (types.int_of t) z) ((k : IntType) × HasInt t k × InRange k z)
  tells_constant t z = tells_by_int t (λ (o : Option IntType). b.holds o z) (λ k. InRange k z) refl (λ k. holds_in k z)

  tells_text : (t : QTy) (o : Option (List ℕ)) → Tells S (b.text_at t o) ((bytes : List ℕ) × (o ≡ Some bytes) × IsLiteral t (length bytes))
  tells_text t o = tells_found (b.text_at t) (λ bytes. IsLiteral t (length bytes)) refl (λ bytes. tells_literal t (length bytes)) o

  tells_object : (t : QTy) (o : Option ObjectTy) → Tells S (b.object_at t o) ((x : ObjectTy) × (o ≡ Some x) × IsTrue (are_alike t x.ty))
  tells_object t o = tells_found (b.object_at t) (λ x. IsTrue (are_alike t x.ty)) refl (λ x. tells_itself (are_alike t x.ty)) o

  tells_function : (t : QTy) → Tells S (b.is_plain_function t) ((g : Fn) × (t ≡ plain (function g)))
  tells_function (qual (function f) false false) = record { yes = λ h. (f, refl); only = λ s w. refl }
  tells_function (qual (function f) true v) = record { yes = λ h. cc; only = λ s w. let e = w.1 in cc }
  tells_function (qual (function f) false true) = record { yes = λ h. cc; only = λ s w. let e = w.1 in cc }
  tells_function (qual void c v) = record { yes = λ h. absurd (and_false (types.is_bare (qual void c v)) h); only = λ s w. let e = w.1 in cc }
  tells_function (qual (int k) c v) = record { yes = λ h. absurd (and_false (types.is_bare (qual (int k) c v)) h); only = λ s w. let e = w.1 in cc }
  tells_function (qual (pointer q) c v) = record { yes = λ h. absurd (and_false (types.is_bare (qual (pointer q) c v)) h); only = λ s w. let e = w.1 in cc }
  tells_function (qual (array q n) c v) = record { yes = λ h. absurd (and_false (types.is_bare (qual (array q n) c v)) h); only = λ s w. let e = w.1 in cc }
  tells_function (qual (tag n) c v) = record { yes = λ h. absurd (and_false (types.is_bare (qual (tag n) c v)) h); only = λ s w. let e = w.1 in cc }

  tells_func : (t : QTy) (o : Option FuncTy) → Tells S (b.func_at t o) ((f : FuncTy) × (o ≡ Some f) × ((g : Fn) × (t ≡ plain (function g))))
  tells_func t o = tells_found (b.func_at t) (λ f. (g : Fn) × (t ≡ plain (function g))) refl (λ f. tells_function t) o

  -- Calls.

  tells_all_passed : (u : UnitTy) (es : Nodes) → Tells S (b.are_passed u.types es) (ArePassed u es)
  tells_all_passed u none = tells_unit
  tells_all_passed u (some e es) = both (tells_passes u (type_of e)) (tells_all_passed u es)

  tells_all_given : (u : UnitTy) (qs : QTys) (variadic : Bool) (es : Nodes) → Tells S (b.are_given u.types qs variadic es) (AreGiven u qs variadic es)
  tells_all_given u end false none = tells_unit
  tells_all_given u end false (some e es) = tells_never
  tells_all_given u end true es = tells_all_passed u es
  tells_all_given u (more q qs) variadic none = tells_never
  tells_all_given u (more q qs) variadic (some e es) = both (tells_plain_of (type_of e) q) (tells_all_given u qs variadic es)

  tells_fits : (u : UnitTy) (f : Fn) (es : Nodes) → Tells S (b.fits_fn u.types f es) (FitsFn u f es)
  tells_fits u (fn q unknown variadic cdecl) es = tells_all_passed u es
  tells_fits u (fn q (known qs) variadic cdecl) es = tells_all_given u qs variadic es

  tells_calls : (u : UnitTy) (t : QTy) (es : Nodes) (g : Fn) → Tells S (b.calls u.types g t es) (Called u t es g)
  tells_calls u t es g = three (tells_plain_of t (result_of g)) (tells_fits u g es) (tells_itself (b.are_few u.types es))

  by_callee : (u : UnitTy) (t f : QTy) (es : Nodes) (o : Option Fn) → AreTyped u es → b.callee_of f ≡ o → Tells S (b.call_by u.types o t es) (IsCall u t f es)
  by_callee u t f es None typed e = record { yes = λ h. cc; only = λ s w. let named : b.callee_of f ≡ Some w.callee = ap b.callee_of w.named in cc }
  by_callee u t f es (Some g) typed e = like (tells_calls u t es g) (λ w. made_call u t f es g typed e w) (λ w. of_call u t f es g typed e w)

  tells_call : (u : UnitTy) (t : QTy) (f : Typed) (es : Nodes) → AreTyped u es → Tells S (b.is_call u.types t f es) ((is_place f ≡ false) × IsCall u t (type_of f) es)
  tells_call u t f es typed = both (tells_not (is_place f)) (by_callee u t (type_of f) es (b.callee_of (type_of f)) typed refl)

  -- the parts of a call, whatever it gives
  parts_by : (u : UnitTy) (t : QTy) (f : Typed) (es : Nodes) → Tells S (b.is_typed u f) (IsTyped u f) → Tells S (b.are_typed u es) (AreTyped u es) → Tells S (b.is_typed u f && b.are_typed u es && b.is_call u.types t f es) (IsTyped u f × AreTyped u es × (is_place f ≡ false) × IsCall u t (type_of f) es)
  parts_by u t f es callee given = like (behind (both callee given) (λ w. tells_call u t f es w.1)) (λ w. (w.0.0, w.0.1, w.1.0, w.1.1)) (λ w. ((w.0, w.1), (w.2, w.3)))

  -- What a call gives.

  pub tells_auto : (c : Class) → Tells S (b.is_auto c) (c ≡ classes.Auto)
  tells_auto classes.Auto = record { yes = λ h. refl; only = λ s w. refl }
  tells_auto _ = record { yes = λ h. cc; only = λ s w. cc }

  tells_none : {A : Type 0} (o : Option A) → Tells S (not (is_some o)) (o ≡ None)
  tells_none None = record { yes = λ h. refl; only = λ s w. refl }
  tells_none (Some x) = record { yes = λ h. cc; only = λ s w. cc }

  tells_spot : (u : UnitTy) (i : ℕ) (t : QTy) → Tells S (b.spot_at t (slice_get u.objects i)) (IsSpot u i t)
  tells_spot u i t = like (tells_found (b.spot_at t) (λ o. (o.name ≡ None) × (o.class ≡ classes.Auto) × (type_in o.ty ≡ type_in t)) refl (λ o. three (tells_none o.name) (tells_auto o.class) (tells_ty (type_in o.ty) (type_in t))) (slice_get u.objects i))
      (λ w. record { object = w.0; there = w.1; unnamed = w.2.0; class = w.2.1; same = w.2.2 })
      (λ w. (w.object, w.there, (w.unnamed, w.class, w.same)))

  or_by : (x : Bool) (P : Type 0) → Tells S x P → Tells S (x || false) P
  or_by true P w = w
  or_by false P w = w

  or_never : {x : Bool} {P : Type 0} → Tells S x P → Tells S (x || false) P
  or_never w = or_by _ _ w

  tells_pack : (u : UnitTy) (t : QTy) (e : Typed) → Tells S (b.is_pack u.types t e) (IsSmall u t × (t ≡ plain_of (type_of e)))
  tells_pack u t e = both (tells_small u t) (tells_plain_of t (type_of e))

  -- What a node asks beside its parts.

  tells_member : (u : UnitTy) (t s : QTy) (m : ℕ) → Tells S (b.is_member u.types t s m) (IsMember u t s m)
  tells_member u t (qual s c v) m = tells_found (b.member_by t c v) (λ x. t ≡ qualified c v x.ty) refl (λ x. tells_qualified t c v x.ty) (member_at u.types s m)

  tells_load : (t : QTy) (e : Typed) → Tells S (b.is_load t e) (IsScalarPlace e × (t ≡ plain_of (type_of e)))
  tells_load t e = both (tells_scalar_place e) (tells_plain_of t (type_of e))

  tells_binary : (u : UnitTy) (op : BinaryOp) (t : QTy) (a c : Typed) → Tells S (b.is_binary u.types op t a c) ((is_place a ≡ false) × (is_place c ≡ false) × Operands u op t (type_of a) (type_of c))
  tells_binary u op t a c = three (tells_not (is_place a)) (tells_not (is_place c)) (tells_operands u op t (type_of a) (type_of c))

  tells_logical : (t : QTy) (a c : Typed) → Tells S (b.is_logical t a c) (HasInt t Int × IsValue a × IsValue c)
  tells_logical t a c = three (tells_int_of t Int) (tells_value a) (tells_value c)

  tells_choice : (t : QTy) (x a c : Typed) → Tells S (b.is_choice t x a c) (IsValue x × IsArm t a × IsArm t c)
  tells_choice t x a c = three (tells_value x) (tells_arm t a) (tells_arm t c)

  tells_assign : (t : QTy) (a c : Typed) → Tells S (b.is_assign t a c) ((IsScalarPlace a × (t ≡ plain_of (type_of a))) × (is_place c ≡ false) × (type_of c ≡ t))
  tells_assign t a c = three (tells_load t a) (tells_not (is_place c)) (tells_same (type_of c) t)

  tells_assign_op : (op : BinaryOp) (k : IntType) (t : QTy) (a c : Typed) → Tells S (b.is_assign_op op k t a c) (((IsScalarPlace a × (t ≡ plain_of (type_of a))) × IsInt t × (is_place c ≡ false) × IsTrue (is_promoted k)) × Computes op k (type_of c))
  tells_assign_op op k t a c = both (four (tells_load t a) (tells_int t) (tells_not (is_place c)) (tells_itself (is_promoted k))) (tells_computes op k (type_of c))

  tells_assign_step : (u : UnitTy) (op : BinaryOp) (t : QTy) (a c : Typed) → Tells S (b.is_assign_step u.types op t a c) (((IsScalarPlace a × (t ≡ plain_of (type_of a))) × IsMoved u t × (is_place c ≡ false) × IsInt (type_of c)) × Steps op)
  tells_assign_step u op t a c = both (four (tells_load t a) (tells_moved u t) (tells_not (is_place c)) (tells_int (type_of c))) (tells_steps op)

  tells_copy : (t : QTy) (a c : Typed) → Tells S (b.is_copy t a c) (IsTrue (is_place a) × IsTrue (is_tag (type_in t)) × (t ≡ plain_of (type_of a)) × (t ≡ plain_of (type_of c)))
  tells_copy t a c = four (tells_itself (is_place a)) (tells_itself (is_tag (type_in t))) (tells_plain_of t (type_of a)) (tells_plain_of t (type_of c))

  mutual
    pub tells_typed : (u : UnitTy) (e : Typed) → Tells S (b.is_typed u e) (IsTyped u e)
    tells_typed u (node t e) = tells_node u t e

    tells_node : (u : UnitTy) (t : QTy) (e : Node) → Tells S (b.is_node u t e) (IsNode u t e)
    tells_node u t (constant z) = tells_constant t z
    tells_node u t null = tells_pointer t
    tells_node u t (literal n) = tells_text t (slice_get u.literals n)
    tells_node u t (object i) = tells_object t (slice_get u.objects i)
    tells_node u t (func i) = like (tells_func t (slice_get u.funcs i)) (λ w. (w.0, w.1, w.2.0, w.2.1)) (λ w. (w.0, w.1, (w.2, w.3)))
    tells_node u t (deref e) = like (both (tells_typed u e) (both (tells_not (is_place e)) (tells_pointer_to (type_of e) t))) (λ w. (w.0, w.1.0, w.1.1)) (λ w. (w.0, (w.1, w.2)))
    tells_node u t (member e m) = both (tells_typed u e) (tells_member u t (type_of e) m)
    tells_node u t (load e) = like (both (tells_typed u e) (tells_load t e)) (λ w. (w.0, w.1.0, w.1.1)) (λ w. (w.0, (w.1, w.2)))
    tells_node u t (address e) = like (both (tells_typed u e) (both (tells_addressed u e) (tells_pointer_to t (type_of e)))) (λ w. (w.0, w.1.0, w.1.1)) (λ w. (w.0, (w.1, w.2)))
    tells_node u t (decay e) = like (both (tells_typed u e) (both (tells_itself (is_place e)) (tells_decayed t (type_of e)))) (λ w. (w.0, w.1.0, w.1.1)) (λ w. (w.0, (w.1, w.2)))
    tells_node u t (convert e) = both (tells_typed u e) (tells_converts t e)
    tells_node u t (unary op e) = like (both (tells_typed u e) (both (tells_not (is_place e)) (tells_operand op t (type_of e)))) (λ w. (w.0, w.1.0, w.1.1)) (λ w. (w.0, (w.1, w.2)))
    tells_node u t (binary op a c) = like (three (tells_typed u a) (tells_typed u c) (tells_binary u op t a c)) (λ w. (w.0, w.1, w.2.0, w.2.1, w.2.2)) (λ w. (w.0, w.1, (w.2, w.3, w.4)))
    tells_node u t (both_node a c) = like (three (tells_typed u a) (tells_typed u c) (tells_logical t a c)) (λ w. (w.0, w.1, w.2.0, w.2.1, w.2.2)) (λ w. (w.0, w.1, (w.2, w.3, w.4)))
    tells_node u t (either_node a c) = like (three (tells_typed u a) (tells_typed u c) (tells_logical t a c)) (λ w. (w.0, w.1, w.2.0, w.2.1, w.2.2)) (λ w. (w.0, w.1, (w.2, w.3, w.4)))
    tells_node u t (choice x a c) = like (four (tells_typed u x) (tells_typed u a) (tells_typed u c) (tells_choice t x a c)) (λ w. (w.0, w.1, w.2, w.3.0, w.3.1, w.3.2)) (λ w. (w.0, w.1, w.2, (w.3, w.4, w.5)))
    tells_node u t (comma a c) = three (tells_typed u a) (tells_typed u c) (tells_arm t c)
    tells_node u t (assign a c) = like (three (tells_typed u a) (tells_typed u c) (tells_assign t a c)) (λ w. (w.0, w.1, w.2.0.0, w.2.0.1, w.2.1, w.2.2)) (λ w. (w.0, w.1, ((w.2, w.3), w.4, w.5)))
    tells_node u t (assign_op op k a c) = like (three (tells_typed u a) (tells_typed u c) (tells_assign_op op k t a c)) (λ w. (w.0, w.1, w.2.0.0.0, w.2.0.1, w.2.0.0.1, w.2.0.2, w.2.0.3, w.2.1)) (λ w. (w.0, w.1, (((w.2, w.4), w.3, w.5, w.6), w.7)))
    tells_node u t (assign_step op a c) = like (three (tells_typed u a) (tells_typed u c) (tells_assign_step u op t a c)) (λ w. (w.0, w.1, w.2.0.0.0, w.2.0.0.1, w.2.0.1, w.2.0.2, w.2.0.3, w.2.1)) (λ w. (w.0, w.1, (((w.2, w.3), w.4, w.5, w.6), w.7)))
    tells_node u t (step how a) = like (both (tells_typed u a) (both (tells_load t a) (tells_stepped u t))) (λ w. (w.0, w.1.0.0, w.1.0.1, w.1.1)) (λ w. (w.0, ((w.1, w.2), w.3)))
    tells_node u t (copy a c) = like (three (tells_typed u a) (tells_typed u c) (tells_copy t a c)) (λ w. (w.0, w.1, w.2.0, w.2.1, w.2.2, w.2.3)) (λ w. (w.0, w.1, (w.2, w.3, w.4, w.5)))
    tells_node u t (call f es) = like (both (tells_usual t) (parts_by u t f es (tells_typed u f) (tells_nodes u es))) (λ w. (w.1.0, w.1.2, w.1.3, w.0, w.1.1)) (λ w. (w.3, (w.0, w.4, w.1, w.2)))
    tells_node u t (pack e) = tells_never
    tells_node u t (spill i e) = both (tells_called u t e) (tells_spot u i t)
    tells_node u t rest = tells_same t rest_type

    tells_called : (u : UnitTy) (t : QTy) (e : Typed) → Tells S (types.same (type_of e) t && types.is_plain_small u.types (type_of e) && b.is_whole_call u e) (IsCalled u t e)
    tells_called u t (node s (call f es)) = like (three (tells_same s t) (tells_small u s) (parts_by u s f es (tells_typed u f) (tells_nodes u es))) (λ w. (w.0, w.1, w.2.0, w.2.2, w.2.3, w.2.1)) (λ w. (w.0, w.1, (w.2, w.5, w.3, w.4)))
    tells_called u t (node s _) = like (three (tells_same s t) (tells_small u s) tells_never) (λ w. absurd w.2) (λ w. absurd w)

    pub tells_given : (u : UnitTy) (e : Typed) → Tells S (b.is_given u e) (IsGiven u e)
    tells_given u (node t (pack e)) = like (or_never (both (tells_typed u e) (tells_pack u t e))) (λ w. (w.0, w.1.0, w.1.1)) (λ w. (w.0, (w.1, w.2)))
    tells_given u (node t e) = both (tells_node u t e) (tells_value (node t e))

    tells_nodes : (u : UnitTy) (es : Nodes) → Tells S (b.are_typed u es) (AreTyped u es)
    tells_nodes u none = tells_unit
    tells_nodes u (some e es) = both (tells_given u e) (tells_nodes u es)
