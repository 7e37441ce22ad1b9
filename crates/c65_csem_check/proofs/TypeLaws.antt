-- What the tests on types tell.
use Rattle.std.proofs.Common.{◌≡◌, ℕ, zero, suc, ◌+◌, Bool, true, false, not, ◌&&◌, ◌||◌, ◌⊎◌, inl, inr, Option, Some, None, is_some, refl, sym, ap, ◌∙◌, subst, IsTrue, nat_eq}
use Rattle.std.specs.Prelude.{if◌then◌else◌, ◌==◌}
use Rattle.std.proofs.lemmas.Bool.Decides.{Decides-eqb}
use Rattle.c65_ints.specs.declared.types.IntType.{IntType}
use Rattle.c65_ints.specs.declared.types.IntType.TheVariants.{SChar, UChar, Short, UShort, Int, UInt, Long, ULong}
use Rattle.c65_ctype.specs.Trees.{Ty, void, int, pointer, array, tag, function, QTy, qual, type_in, Fn, fn, Params, unknown, known, QTys, end, more, TypesTy}
use Rattle.c65_ints.specs.Ranges.{number_of}
use Rattle.c65_ctype.specs.Compatible.{same_int, same_bool}
use Rattle.c65_ctype.specs.Sizes.{size_of}
use Rattle.c65_csem.specs.Places.{plain, plain_of, qualified, is_promoted, is_scalar, is_small, is_tag, alike, are_alike, moves}
use Rattle.c65_csem.specs.Typed.{HasInt, IsInt, IsPromoted, IsPointer, IsScalar, IsMoved, IsStepped, IsSmall, IsResult, IsUsual, Passes, IsLiteral, decayed}
use Rattle.c65_csem.specs.Trees.{UnitTy}
use Rattle.c65_csem_check.specs.Kinds as b
use Rattle.c65_csem_check.proofs.Tells.{Tells, like, tells_itself, tells_not, tells_never, from_decides, both, three, four, either}

kind_at : ℕ → IntType
kind_at zero = SChar
kind_at (suc zero) = UChar
kind_at (suc (suc zero)) = Short
kind_at (suc (suc (suc zero))) = UShort
kind_at (suc (suc (suc (suc zero)))) = Int
kind_at (suc (suc (suc (suc (suc zero))))) = UInt
kind_at (suc (suc (suc (suc (suc (suc zero)))))) = Long
kind_at (suc (suc (suc (suc (suc (suc (suc n))))))) = ULong

back : (k : IntType) → kind_at (number_of k) ≡ k
unfolding kind_at
back SChar = refl
back UChar = refl
back Short = refl
back UShort = refl
back Int = refl
back UInt = refl
back Long = refl
back ULong = refl

-- the integer type that a type is
pub is_int_of : (t : QTy) (k : IntType) → b.int_of t ≡ Some k → HasInt t k
is_int_of (qual (int j) false false) k h = let e : j ≡ k = cc in ap (λ (i : IntType). plain (int i)) e
is_int_of (qual (int j) true v) k h = cc
is_int_of (qual (int j) false true) k h = cc
is_int_of (qual void c v) k h = cc
is_int_of (qual (pointer q) c v) k h = cc
is_int_of (qual (array q n) c v) k h = cc
is_int_of (qual (tag n) c v) k h = cc
is_int_of (qual (function f) c v) k h = cc

pub int_of_is : (t : QTy) (k : IntType) → HasInt t k → b.int_of t ≡ Some k
int_of_is t k h = ap b.int_of h

and_false : (x : Bool) → (x && false) ≡ true → ⊥
and_false true h = cc
and_false false h = cc

abbrev text_of : IntType → ℕ → QTy
text_of k n = plain (array (plain (int k)) (Some (n + 1)))

-- types whose size is known at once
abbrev pub IsFlat : Ty → Type 0
IsFlat t = (is_scalar t ≡ true) ⊎ (is_tag t ≡ true)

pub flat_is : (types : TypesTy) (t : Ty) → IsFlat t → b.flat_bytes types t ≡ size_of types t
flat_is types (int k) w = refl
flat_is types (pointer q) w = refl
flat_is types (tag n) w = refl
flat_is types void (inl h) = cc
flat_is types void (inr h) = cc
flat_is types (array q n) (inl h) = cc
flat_is types (array q n) (inr h) = cc
flat_is types (function f) (inl h) = cc
flat_is types (function f) (inr h) = cc

flat_alike : (t u : Ty) → alike t u ≡ true → IsFlat t → IsFlat u
flat_alike t (int k) h w = inl refl
flat_alike t (pointer q) h w = inl refl
flat_alike t (tag n) h w = inr refl
flat_alike void void h w = w
flat_alike (array q n) (array r m) h (inl i) = cc
flat_alike (array q n) (array r m) h (inr i) = cc
flat_alike (function f) (function g) h (inl i) = cc
flat_alike (function f) (function g) h (inr i) = cc
flat_alike _ _ h w = cc

flat_pair : (t u : QTy) → are_alike t u ≡ true → IsFlat (type_in t) → IsFlat (type_in u)
flat_pair (qual t c v) (qual u d w) h k = flat_alike t u h k

pub small_flat : (types : TypesTy) (t : Ty) → is_small types t ≡ true → IsFlat t
small_flat types (tag n) h = inr refl
small_flat types void h = cc
small_flat types (int k) h = cc
small_flat types (pointer q) h = cc
small_flat types (array q n) h = cc
small_flat types (function f) h = cc

module _ {S : Type 0} where
  tells_nat : (m n : ℕ) → Tells S (m == n) (m ≡ n)
  tells_nat m n = from_decides (m == n) (m ≡ n) (Decides-eqb m n)

  pub tells_kind : (k j : IntType) → Tells S (same_int k j) (k ≡ j)
  tells_kind k j = like (tells_nat (number_of k) (number_of j)) (λ h. sym (back k) ∙ ap kind_at h ∙ back j) (λ h. ap number_of h)

  tells_bit : (c d : Bool) → Tells S (same_bool c d) (c ≡ d)
  tells_bit true d = like (tells_itself d) (λ h. sym h) (λ h. sym h)
  tells_bit false d = like (tells_not d) (λ h. sym h) (λ h. sym h)

  tells_count : (m n : Option ℕ) → Tells S (b.equal_count m n) (m ≡ n)
  tells_count None None = record { yes = λ h. refl; only = λ s w. refl }
  tells_count None (Some n) = record { yes = λ h. cc; only = λ s w. cc }
  tells_count (Some m) None = record { yes = λ h. cc; only = λ s w. cc }
  tells_count (Some m) (Some n) = like (tells_nat m n) (λ h. ap Some h) (λ h. cc)

  mutual
    pub tells_same : (t q : QTy) → Tells S (b.same t q) (t ≡ q)
    tells_same (qual t c v) (qual u d w) = like (three (tells_bit c d) (tells_bit v w) (tells_ty t u)) (λ h. let x = h.0 in let y = h.1 in let z = h.2 in cc) (λ h. (cc, cc, cc))

    pub tells_ty : (t u : Ty) → Tells S (b.same_ty t u) (t ≡ u)
    tells_ty void void = record { yes = λ h. refl; only = λ s w. refl }
    tells_ty (int k) (int j) = like (tells_kind k j) (λ h. ap int h) (λ h. cc)
    tells_ty (pointer q) (pointer r) = like (tells_same q r) (λ h. ap pointer h) (λ h. cc)
    tells_ty (array q m) (array r n) = like (both (tells_count m n) (tells_same q r)) (λ h. let x = h.0 in let y = h.1 in cc) (λ h. (cc, cc))
    tells_ty (tag m) (tag n) = like (tells_nat m n) (λ h. ap tag h) (λ h. cc)
    tells_ty (function f) (function g) = like (tells_fn f g) (λ h. ap function h) (λ h. cc)
    tells_ty _ _ = record { yes = λ h. cc; only = λ s w. cc }

    pub tells_fn : (f g : Fn) → Tells S (b.same_fn f g) (f ≡ g)
    tells_fn (fn q xs va cd) (fn r ys vb ce) = like (four (tells_bit va vb) (tells_bit cd ce) (tells_same q r) (tells_params xs ys)) (λ h. let x = h.0 in let y = h.1 in let z = h.2 in let v = h.3 in cc) (λ h. (cc, cc, cc, cc))

    tells_params : (xs ys : Params) → Tells S (b.same_params xs ys) (xs ≡ ys)
    tells_params unknown unknown = record { yes = λ h. refl; only = λ s w. refl }
    tells_params (known xs) (known ys) = like (tells_types xs ys) (λ h. ap known h) (λ h. cc)
    tells_params _ _ = record { yes = λ h. cc; only = λ s w. cc }

    tells_types : (xs ys : QTys) → Tells S (b.same_all xs ys) (xs ≡ ys)
    tells_types end end = record { yes = λ h. refl; only = λ s w. refl }
    tells_types (more x xs) (more y ys) = like (both (tells_same x y) (tells_types xs ys)) (λ h. let u = h.0 in let v = h.1 in cc) (λ h. (cc, cc))
    tells_types _ _ = record { yes = λ h. cc; only = λ s w. cc }

  -- a test of the integer type that a type is
  by_option : (t : QTy) (g : Option IntType → Bool) (P : IntType → Type 0) → g None ≡ false → ((k : IntType) → Tells S (g (Some k)) (P k)) → (o : Option IntType) → b.int_of t ≡ o → Tells S (g o) ((k : IntType) × HasInt t k × P k)
  by_option t g P none each None e = record { yes = λ h. cc; only = λ s w. let f = int_of_is t w.0 w.1 in cc }
  by_option t g P none each (Some k) e = record {
    yes = λ h. (k, is_int_of t k e, (each k).yes h);
    only = λ s w. let same : w.0 ≡ k = (let f = int_of_is t w.0 w.1 in cc) in (each k).only s (subst P same w.2);
  }

  pub tells_by_int : (t : QTy) (g : Option IntType → Bool) (P : IntType → Type 0) → g None ≡ false → ((k : IntType) → Tells S (g (Some k)) (P k)) → Tells S (g (b.int_of t)) ((k : IntType) × HasInt t k × P k)
  tells_by_int t g P none each = by_option t g P none each (b.int_of t) refl

  pub tells_int_of : (t : QTy) (k : IntType) → Tells S (b.is_int_of t k) (HasInt t k)
  tells_int_of t k = tells_same t (plain (int k))

  pub tells_int : (t : QTy) → Tells S (b.is_int t) (IsInt t)
  tells_int t = like (tells_by_int t (λ (o : Option IntType). is_some o) (λ k. Unit {0}) refl (λ k. record { yes = λ h. tt; only = λ s w. refl })) (λ w. (w.0, w.1)) (λ w. (w.0, w.1, tt))

  pub tells_promoted : (t : QTy) → Tells S (b.is_promoted_int t) (IsPromoted t)
  tells_promoted t = tells_by_int t b.promotes (λ k. IsTrue (is_promoted k)) refl (λ k. tells_itself (is_promoted k))

  pub tells_void : (t : QTy) → Tells S (b.is_plain_void t) (t ≡ plain void)
  tells_void t = tells_same t (plain void)

  pub tells_pointer : (t : QTy) → Tells S (b.is_plain_pointer t) (IsPointer t)
  tells_pointer (qual (pointer q) false false) = record { yes = λ h. (q, refl); only = λ s w. refl }
  tells_pointer (qual (pointer q) true v) = record { yes = λ h. cc; only = λ s w. let e = w.1 in cc }
  tells_pointer (qual (pointer q) false true) = record { yes = λ h. cc; only = λ s w. let e = w.1 in cc }
  tells_pointer (qual void c v) = record { yes = λ h. absurd (and_false (b.is_bare (qual void c v)) h); only = λ s w. let e = w.1 in cc }
  tells_pointer (qual (int k) c v) = record { yes = λ h. absurd (and_false (b.is_bare (qual (int k) c v)) h); only = λ s w. let e = w.1 in cc }
  tells_pointer (qual (array q n) c v) = record { yes = λ h. absurd (and_false (b.is_bare (qual (array q n) c v)) h); only = λ s w. let e = w.1 in cc }
  tells_pointer (qual (tag n) c v) = record { yes = λ h. absurd (and_false (b.is_bare (qual (tag n) c v)) h); only = λ s w. let e = w.1 in cc }
  tells_pointer (qual (function f) c v) = record { yes = λ h. absurd (and_false (b.is_bare (qual (function f) c v)) h); only = λ s w. let e = w.1 in cc }

  pub tells_plain_of : (t q : QTy) → Tells S (b.is_plain_of t q) (t ≡ plain_of q)
  tells_plain_of t q = tells_same t (plain_of q)

  tells_bare : (t : QTy) → Tells S (b.is_bare t) (t ≡ plain_of t)
  tells_bare (qual t c v) = like (both (tells_bit c false) (tells_bit v false)) (λ h. let x = h.0 in let y = h.1 in cc) (λ h. (cc, cc))

  pub tells_scalar : (t : QTy) → Tells S (b.is_plain_scalar t) (IsScalar t)
  tells_scalar t = like (both (tells_bare t) (tells_itself (is_scalar (type_in t)))) (λ w. (w.1, w.0)) (λ w. (w.1, w.0))

  pub tells_pointer_to : (t q : QTy) → Tells S (b.is_pointer_to t q) (t ≡ plain (pointer q))
  tells_pointer_to t q = tells_same t (plain (pointer q))

  pub tells_moved : (u : UnitTy) (t : QTy) → Tells S (b.is_moved u.types t) (IsMoved u t)
  tells_moved u t = both (tells_pointer t) (tells_itself (moves u.types (type_in t)))

  pub tells_small : (u : UnitTy) (t : QTy) → Tells S (b.is_plain_small u.types t) (IsSmall u t)
  tells_small u t = like (both (tells_bare t) (tells_itself (is_small u.types (type_in t)))) (λ w. (w.1, w.0)) (λ w. (w.1, w.0))

  pub tells_result : (u : UnitTy) (t : QTy) → Tells S (b.is_result u.types t) (IsResult u t)
  tells_result u t = like (either (either (tells_void t) (tells_scalar t)) (tells_small u t)) (λ w. to w) (λ w. from w)
    where
      to : ((t ≡ plain void) ⊎ IsScalar t) ⊎ IsSmall u t → IsResult u t
      to (inl (inl h)) = subst (λ (q : QTy). IsResult u q) (sym h) IsResult.nothing
      to (inl (inr h)) = IsResult.scalar h
      to (inr h) = IsResult.structure h

      from : {q : QTy} → IsResult u q → ((q ≡ plain void) ⊎ IsScalar q) ⊎ IsSmall u q
      from IsResult.nothing = inl (inl refl)
      from (IsResult.scalar h) = inl (inr h)
      from (IsResult.structure h) = inr h

  pub tells_usual : (t : QTy) → Tells S (b.is_usual t) (IsUsual t)
  tells_usual t = like (either (tells_void t) (tells_scalar t)) (λ w. to w) (λ w. from w)
    where
      to : (t ≡ plain void) ⊎ IsScalar t → IsUsual t
      to (inl h) = subst IsUsual (sym h) IsUsual.nothing
      to (inr h) = IsUsual.scalar h

      from : {q : QTy} → IsUsual q → (q ≡ plain void) ⊎ IsScalar q
      from IsUsual.nothing = inl refl
      from (IsUsual.scalar h) = inr h

  pub tells_passes : (u : UnitTy) (t : QTy) → Tells S (b.passes u.types t) (Passes u t)
  tells_passes u t = like (either (either (tells_promoted t) (tells_pointer t)) (tells_small u t)) (λ w. to w) (λ w. from w)
    where
      to : (IsPromoted t ⊎ IsPointer t) ⊎ IsSmall u t → Passes u t
      to (inl (inl h)) = Passes.number h
      to (inl (inr h)) = Passes.pointer_value h
      to (inr h) = Passes.structure h

      from : Passes u t → (IsPromoted t ⊎ IsPointer t) ⊎ IsSmall u t
      from (Passes.number h) = inl (inl h)
      from (Passes.pointer_value h) = inl (inr h)
      from (Passes.structure h) = inr h

  pub tells_same_size : (types : TypesTy) (t q : QTy) → IsFlat (type_in t) → are_alike t q ≡ true → Tells S (b.same_size types t q) (size_of types (type_in t) ≡ size_of types (type_in q))
  tells_same_size types t q w h =
      let x = flat_is types (type_in t) w in
      let y = flat_is types (type_in q) (flat_pair t q h w) in
      like (tells_nat (b.flat_bytes types (type_in t)) (b.flat_bytes types (type_in q))) (λ e. sym x ∙ e ∙ y) (λ e. x ∙ e ∙ sym y)

  pub tells_stepped : (u : UnitTy) (t : QTy) → Tells S (b.is_stepped u.types t) (IsStepped u t)
  tells_stepped u t = like (either (tells_int t) (tells_moved u t)) (λ w. to w) (λ w. from w)
    where
      to : IsInt t ⊎ IsMoved u t → IsStepped u t
      to (inl h) = IsStepped.number h
      to (inr h) = IsStepped.moved h

      from : IsStepped u t → IsInt t ⊎ IsMoved u t
      from (IsStepped.number h) = inl h
      from (IsStepped.moved h) = inr h

  some_type : (t : QTy) (o : Option QTy) → Tells S (b.is_some_type t o) (o ≡ Some t)
  some_type t None = record { yes = λ h. cc; only = λ s w. cc }
  some_type t (Some q) = like (tells_same t q) (λ h. ap Some (sym h)) (λ h. cc)

  pub tells_decayed : (t q : QTy) → Tells S (b.is_decayed t q) (decayed q ≡ Some t)
  tells_decayed t q = some_type t (decayed q)

  pub tells_literal : (t : QTy) (n : ℕ) → Tells S (b.is_literal t n) (IsLiteral t n)
  tells_literal t n = like (either (tells_same t (text_of UChar n)) (tells_same t (text_of SChar n))) (λ w. to w) (λ w. from w)
    where
      to : (t ≡ text_of UChar n) ⊎ (t ≡ text_of SChar n) → IsLiteral t n
      to (inl h) = subst (λ (x : QTy). IsLiteral x n) (sym h) IsLiteral.of_unsigned
      to (inr h) = subst (λ (x : QTy). IsLiteral x n) (sym h) IsLiteral.of_signed

      from : {x : QTy} → IsLiteral x n → (x ≡ text_of UChar n) ⊎ (x ≡ text_of SChar n)
      from IsLiteral.of_unsigned = inl refl
      from IsLiteral.of_signed = inr refl

  pub tells_qualified : (t : QTy) (c v : Bool) (q : QTy) → Tells S (b.is_qualified t c v q) (t ≡ qualified c v q)
  tells_qualified t c v q = tells_same t (qualified c v q)
