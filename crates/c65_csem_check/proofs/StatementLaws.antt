-- What the tests on statements tell.
use Rattle.std.proofs.Common.{◌≡◌, ℕ, ◌+◌, ◌*◌, ◌≤◌, ℤ, List, [], ◌∷◌, length, Bool, true, false, not, ◌&&◌, ◌||◌, ◌⊎◌, inl, inr, Option, Some, None, is_some, option_map, slice_get, nat_le, IsTrue, IsSome, All, refl, sym, ap, ◌∙◌, subst}
use Rattle.std.specs.Prelude.{if◌then◌else◌}
use Rattle.std.proofs.lemmas.Bool.{le-leb, leb-true}
use Rattle.c65_ints.specs.declared.types.IntType.{IntType}
use Rattle.c65_ints.specs.Ranges.{InRange}
use Rattle.c65_ctype.specs.Trees.{Ty, void, int, pointer, array, tag, function, QTy, qual, type_in, TypesTy, LayoutTy}
use Rattle.c65_ctype.specs.Sizes.{size_of, qualified_size_of, size_in}
use Rattle.c65_ctype.specs.Tables.{layout_at}
use Rattle.c65_csem.specs.Trees.{Typed, type_of, MaybeTyped, absent, present, Stmt, empty, eval, set_part, clear, block, if_stmt, while, do_while, for_loop, switch, case, default, label, goto, break, continue, return, Stmts, no_stmts, and_stmts, ObjectTy, UnitTy}
use Rattle.c65_csem.specs.Places.{is_place, is_promoted, is_scalar, is_tag, is_automatic, are_alike}
use Rattle.c65_csem.specs.Typed.{IsTyped, IsValue, HasInt}
use Rattle.c65_csem.specs.Statements.{Context, looping, switching, IsStmt, AreStmts, IsAutomatic, NamesAutomatic, IsInitial, IsSet, IsMaybe, IsCondition, IsMaybeCondition, IsSwitch, IsCase, CanBreak, IsReturn, IsDistinct, cases_of, defaults_of}
use Rattle.c65_csem_check.specs.Kinds as kinds
use Rattle.c65_csem_check.specs.Expressions as exprs
use Rattle.c65_csem_check.specs.Statements as b
use Rattle.c65_csem_check.proofs.Tells.{Tells, like, tells_itself, tells_not, tells_unit, tells_never, tells_found, tells_all, both, behind, three, four, either}
use Rattle.c65_csem_check.proofs.TypeLaws.{IsFlat, flat_is, is_int_of, int_of_is, tells_same_size}
use Rattle.c65_csem_check.proofs.ExpressionLaws.{given_flat, tells_typed, tells_given, tells_value, holds_in}
use Rattle.c65_csem_check.proofs.ListLaws.{tells_number, tells_distinct_values}

-- Sizes.

product_is : (m : ℕ) (o : Option ℕ) (n : ℕ) → b.limited_product m o ≡ Some n → (size : ℕ) × (o ≡ Some size) × (size * m ≡ n)
product_is m None n h = cc
product_is m (Some size) n h = (size, refl, tested (nat_le (size * m) 65535) h)
  where
    tested : (t : Bool) → (if t then Some (size * m) else None) ≡ Some n → size * m ≡ n
    tested true h = cc
    tested false h = cc

layout_size : (o : Option LayoutTy) (n : ℕ) → option_map (λ l. l.size) o ≡ Some n → size_in o ≡ n
layout_size None n h = cc
layout_size (Some l) n h = cc

mutual
  pub measured_is : (types : TypesTy) (t : Ty) (n : ℕ) → b.measured types t ≡ Some n → size_of types t ≡ n
  measured_is types void n h = cc
  measured_is types (int k) n h = cc
  measured_is types (pointer q) n h = cc
  measured_is types (array q None) n h = cc
  measured_is types (array q (Some m)) n h =
      let p = product_is m (b.measured_in types q) n h in
      ap (λ (s : ℕ). s * m) (measured_in_is types q p.0 p.1) ∙ p.2
  measured_is types (tag i) n h = layout_size (layout_at types i) n h
  measured_is types (function f) n h = cc

  measured_in_is : (types : TypesTy) (q : QTy) (n : ℕ) → b.measured_in types q ≡ Some n → qualified_size_of types q ≡ n
  measured_in_is types (qual t c v) n h = measured_is types t n h

initial_kind : (e : Typed) → IsInitial e → IsFlat (type_in (type_of e))
initial_kind e (IsInitial.value v) = inl v.0.0
initial_kind e (IsInitial.place h) = inr h

inside_is : (types : TypesTy) (offset : ℕ) (t : Ty) (q : QTy) (o : Option ℕ) → b.measured_in types q ≡ o → IsFlat t → b.is_inside offset (kinds.flat_bytes types t) o ≡ true → offset + size_of types t ≤ size_of types (type_in q)
inside_is types offset t q None e w h = cc
inside_is types offset t (qual s c v) (Some whole) e w h =
    let P : ℕ → Type 0 = λ n. offset + n ≤ size_of types s in
    let Q : ℕ → Type 0 = λ n. offset + kinds.flat_bytes types t ≤ n in
    subst P (flat_is types t w) (subst Q (sym (measured_is types s whole e)) (leb-true (offset + kinds.flat_bytes types t) whole h))

is_inside : (types : TypesTy) (offset : ℕ) (t : Ty) (q : QTy) (o : Option ℕ) → b.measured_in types q ≡ o → IsFlat t → IsSome o → offset + size_of types t ≤ size_of types (type_in q) → b.is_inside offset (kinds.flat_bytes types t) o ≡ true
is_inside types offset t q None e w some h = cc
is_inside types offset t (qual s c v) (Some whole) e w some h =
    let P : ℕ → Type 0 = λ n. offset + n ≤ whole in
    let Q : ℕ → Type 0 = λ n. offset + size_of types t ≤ n in
    le-leb (offset + kinds.flat_bytes types t) whole (subst P (sym (flat_is types t w)) (subst Q (measured_is types s whole e) h))

-- Automatic objects whose sizes are within the limit.
abbrev pub AreMeasured : UnitTy → Type 0
AreMeasured u = (i : ℕ) (o : ObjectTy) → slice_get u.objects i ≡ Some o → IsTrue (is_automatic o.class) → IsSome (b.measured_in u.types o.ty)

and_false : (x y : Bool) → (x && y && false) ≡ true → ⊥
and_false true true h = cc
and_false true false h = cc
and_false false y h = cc

module _ {S : Type 0} where
  tells_initial : (e : Typed) → Tells S (b.is_initial e) (IsInitial e)
  tells_initial e = like (either (tells_value e) (tells_itself (is_tag (type_in (type_of e))))) (λ w. to w) (λ w. from w)
    where
      to : IsValue e ⊎ IsTrue (is_tag (type_in (type_of e))) → IsInitial e
      to (inl v) = IsInitial.value v
      to (inr h) = IsInitial.place h

      from : IsInitial e → IsValue e ⊎ IsTrue (is_tag (type_in (type_of e)))
      from (IsInitial.value v) = inl v
      from (IsInitial.place h) = inr h

  tells_automatic : (u : UnitTy) (i : ℕ) → Tells S (b.is_automatic_at (slice_get u.objects i)) (NamesAutomatic u i)
  tells_automatic u i = like (tells_found b.is_automatic_at (λ o. IsTrue (is_automatic o.class)) refl (λ o. tells_itself (is_automatic o.class)) (slice_get u.objects i)) (λ w. (w.0, (w.1, w.2))) (λ w. (w.0, w.1.0, w.1.1))

  tells_all_automatic : (u : UnitTy) (os : List ℕ) → Tells S (b.are_automatic u os) (All (NamesAutomatic u) os)
  tells_all_automatic u os = tells_all (b.are_automatic u) (λ i. b.is_automatic_at (slice_get u.objects i)) (NamesAutomatic u) refl (λ i is. refl) (λ i. tells_automatic u i) os

  tells_maybe : (u : UnitTy) (e : MaybeTyped) → Tells S (b.is_maybe u e) (IsMaybe u e)
  tells_maybe u absent = tells_unit
  tells_maybe u (present e) = tells_typed u e

  tells_condition : (u : UnitTy) (e : Typed) → Tells S (b.is_condition u e) (IsCondition u e)
  tells_condition u e = both (tells_typed u e) (tells_value e)

  tells_maybe_condition : (u : UnitTy) (e : MaybeTyped) → Tells S (b.is_maybe_condition u e) (IsMaybeCondition u e)
  tells_maybe_condition u absent = tells_unit
  tells_maybe_condition u (present e) = tells_condition u e

  tells_return : (u : UnitTy) (c : Context) (e : MaybeTyped) → Tells S (b.is_return u c.gives e) (IsReturn u c e)
  tells_return u c absent = tells_unit
  tells_return u c (present e) = like (behind (both (tells_given u e) (tells_itself (are_alike (type_of e) c.gives))) (λ w. tells_same_size u.types (type_of e) c.gives (given_flat u e w.0) w.1))
      (λ w. (w.0.0, w.0.1, w.1))
      (λ w. ((w.0, w.1), w.2))

  tells_le : (m n : ℕ) → Tells S (nat_le m n) (m ≤ n)
  tells_le m n = record { yes = λ h. leb-true m n h; only = λ s w. le-leb m n w }

  case_by : (c : Context) (z : ℤ) (o : Option IntType) → c.in_switch ≡ o → Tells S (exprs.holds o z) (IsCase c z)
  case_by c z None e = record { yes = λ h. cc; only = λ s w. let f = w.belongs in cc }
  case_by c z (Some k) e = like (holds_in k z) (λ w. record { kind = k; belongs = e; value = w }) (λ w. moved w)
    where
      moved : IsCase c z → InRange k z
      moved w = let P : IntType → Type 0 = λ (j : IntType). InRange j z in let f = w.belongs in let same : w.kind ≡ k = cc in subst P same w.value

  tells_break : (c : Context) → Tells S (c.in_loop || is_some c.in_switch) (CanBreak c)
  tells_break c = like (either (tells_itself c.in_loop) (tells_itself (is_some c.in_switch))) (λ w. to w) (λ w. from w)
    where
      to : (c.in_loop ≡ true) ⊎ (is_some c.in_switch ≡ true) → CanBreak c
      to (inl h) = CanBreak.loop h
      to (inr h) = CanBreak.switched h

      from : CanBreak c → (c.in_loop ≡ true) ⊎ (is_some c.in_switch ≡ true)
      from (CanBreak.loop h) = inl h
      from (CanBreak.switched h) = inr h

  tells_cases : (body : Stmt) → Tells S (b.are_cases body) ((length (cases_of body) ≤ 1024) × IsDistinct (cases_of body) × (defaults_of body ≤ 1))
  tells_cases body = three (tells_le (length (cases_of body)) 1024) (tells_distinct_values (cases_of body)) (tells_le (defaults_of body) 1)

  switch_by : (u : UnitTy) (c : Context) (e : Typed) (a : Stmt) (o : Option IntType) → kinds.int_of (type_of e) ≡ o → ((k : IntType) → Tells S (b.is_stmt u (switching k c) a) (IsStmt u (switching k c) a)) → Tells S ((exprs.is_typed u e && not (is_place e) && kinds.promotes o) && b.are_cases a && b.is_stmt u (switching (b.kind_in o) c) a) ((k : IntType) × IsSwitch u e a k × IsStmt u (switching k c) a)
  switch_by u c e a None i each = like (three (three (tells_typed u e) (tells_not (is_place e)) tells_never) (tells_cases a) (each (b.kind_in None))) (λ w. absurd w.0.2) (λ w. absurd (never w.0 w.1))
    where
      never : (k : IntType) → IsSwitch u e a k → ⊥
      never k w = let f = int_of_is (type_of e) k w.number in cc
  switch_by u c e a (Some k) i each = like (three (three (tells_typed u e) (tells_not (is_place e)) (tells_itself (is_promoted k))) (tells_cases a) (each k)) (λ w. (k, record { typed = w.0.0; value = w.0.1; number = is_int_of (type_of e) k i; promoted = w.0.2; distinct = w.1.1; few = w.1.0; one_default = w.1.2 }, w.2)) (λ w. moved w.0 w.1 w.2)
    where
      moved : (j : IntType) → IsSwitch u e a j → IsStmt u (switching j c) a → (IsTyped u e × (is_place e ≡ false) × (is_promoted k ≡ true)) × ((length (cases_of a) ≤ 1024) × IsDistinct (cases_of a) × (defaults_of a ≤ 1)) × IsStmt u (switching k c) a
      moved j w v =
          let f = int_of_is (type_of e) j w.number in
          let same : j ≡ k = cc in
          let P : IntType → Type 0 = λ (x : IntType). is_promoted x ≡ true in
          let Q : IntType → Type 0 = λ (x : IntType). IsStmt u (switching x c) a in
          ((w.typed, w.value, subst P same w.promoted), (w.few, w.distinct, w.one_default), subst Q same v)

set_by : (u : UnitTy) (i offset : ℕ) (e : Typed) (o : Option ObjectTy) → slice_get u.objects i ≡ o → Tells (AreMeasured u) (exprs.is_typed u e && b.set_by u.types o offset e) (IsSet u i offset e)
set_by u i offset e None f = record { yes = λ h. absurd (no (exprs.is_typed u e) h); only = λ s w. let g = w.automatic.0 in cc }
  where
    no : (x : Bool) → (x && false) ≡ true → ⊥
    no true h = cc
    no false h = cc
set_by u i offset e (Some x) f = record { yes = λ h. made h; only = λ s w. told s w }
  where
    all : {S : Type 0} → Tells S (exprs.is_typed u e && b.set_by u.types (Some x) offset e) (IsTyped u e × (IsTrue (is_automatic x.class) × IsInitial e × (b.is_inside offset (kinds.flat_bytes u.types (type_in (type_of e))) (b.measured_in u.types x.ty) ≡ true)))
    all = both (tells_typed u e) (three (tells_itself (is_automatic x.class)) (tells_initial e) (tells_itself (b.is_inside offset (kinds.flat_bytes u.types (type_in (type_of e))) (b.measured_in u.types x.ty))))

    made : (exprs.is_typed u e && b.set_by u.types (Some x) offset e) ≡ true → IsSet u i offset e
    made h =
        let w = (all {S = Unit {0}}).yes h in
        record {
          object = x;
          automatic = (f, w.1.0);
          typed = w.0;
          initial = w.1.1;
          inside = inside_is u.types offset (type_in (type_of e)) x.ty (b.measured_in u.types x.ty) refl (initial_kind e w.1.1) w.1.2;
        }

    told : AreMeasured u → IsSet u i offset e → (exprs.is_typed u e && b.set_by u.types (Some x) offset e) ≡ true
    told s w =
        let g = w.automatic.0 in
        let same : w.object ≡ x = cc in
        let P : ObjectTy → Type 0 = λ (y : ObjectTy). IsTrue (is_automatic y.class) in
        let Q : ObjectTy → Type 0 = λ (y : ObjectTy). offset + size_of u.types (type_in (type_of e)) ≤ size_of u.types (type_in y.ty) in
        let auto = subst P same w.automatic.1 in
        let inside = subst Q same w.inside in
        (all {S = Unit {0}}).only tt (w.typed, (auto, w.initial, is_inside u.types offset (type_in (type_of e)) x.ty (b.measured_in u.types x.ty) refl (initial_kind e w.initial) (s i x f auto) inside))

mutual
  pub tells_stmt : (u : UnitTy) (c : Context) (a : Stmt) → Tells (AreMeasured u) (b.is_stmt u c a) (IsStmt u c a)
  tells_stmt u c empty = tells_unit
  tells_stmt u c (eval e) = tells_typed u e
  tells_stmt u c (set_part i offset e) = set_by u i offset e (slice_get u.objects i) refl
  tells_stmt u c (clear i) = tells_automatic u i
  tells_stmt u c (block os ss) = both (tells_all_automatic u os) (tells_stmts u c ss)
  tells_stmt u c (if_stmt e a d) = three (tells_condition u e) (tells_stmt u c a) (tells_stmt u c d)
  tells_stmt u c (while e a) = both (tells_condition u e) (tells_stmt u (looping c) a)
  tells_stmt u c (do_while a e) = both (tells_stmt u (looping c) a) (tells_condition u e)
  tells_stmt u c (for_loop i t n a) = four (tells_maybe u i) (tells_maybe_condition u t) (tells_maybe u n) (tells_stmt u (looping c) a)
  tells_stmt u c (switch e a) = switch_by u c e a (kinds.int_of (type_of e)) refl (λ k. tells_stmt u (switching k c) a)
  tells_stmt u c (case z a) = both (case_by c z c.in_switch refl) (tells_stmt u c a)
  tells_stmt u c (default a) = both (tells_itself (is_some c.in_switch)) (tells_stmt u c a)
  tells_stmt u c (label l a) = tells_stmt u c a
  tells_stmt u c (goto l) = tells_number c.labels l
  tells_stmt u c break = tells_break c
  tells_stmt u c continue = tells_itself c.in_loop
  tells_stmt u c (return e) = tells_return u c e

  tells_stmts : (u : UnitTy) (c : Context) (ss : Stmts) → Tells (AreMeasured u) (b.are_stmts u c ss) (AreStmts u c ss)
  tells_stmts u c no_stmts = tells_unit
  tells_stmts u c (and_stmts a ss) = both (tells_stmt u c a) (tells_stmts u c ss)
