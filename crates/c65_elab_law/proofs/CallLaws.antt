-- A call of well typed operands is well typed.
use Rattle.std.proofs.Common.{◌≡◌, ℕ, zero, suc, ◌+◌, ◌*◌, ◌≤◌, List, Bool, true, false, Option, Some, None, Ok, Err, refl, sym, ap, ◌∙◌, subst, arith, if◌then◌else◌}
use Rattle.std.specs.Prelude.{nat_le}
use Rattle.std.proofs.lemmas.Bool.{leb-true}
use Rattle.std.proofs.lemmas.Bool.Decides.{nat_tests}
use Rattle.c65_base.specs.declared.code.Code.TheVariants.{StructSize}
use Rattle.c65_base.specs.declared.refusal.Pos.{Pos}
use Rattle.c65_base.specs.declared.refusal.Size.TheVariants.{ArgumentBytes, Object}
use Rattle.c65_base.specs.Limits.{limit_of}
use Rattle.c65_base.specs.Answers.{at, large, ◌>>=◌}
use Rattle.c65_ctype.specs.Trees.{Ty, void, int, pointer, array, tag, function, QTy, qual, type_in, Fn, fn, Params, unknown, known, QTys, end, more, LayoutTy, TypesTy}
use Rattle.c65_ctype.specs.Tables.{layout_at}
use Rattle.c65_ctype.specs.Sizes.{limited, elements, finished_size, size_at, qualified_size_at, size_in, size_of, qualified_size_of}
use Rattle.c65_csem.specs.Trees as n
use Rattle.c65_csem.specs.Trees.{Typed, node, Nodes, none, some, type_of, UnitTy}
use Rattle.c65_csem.specs.Places.{is_place, is_scalar, is_small, is_passed, is_tag, plain, plain_of}
use Rattle.c65_csem.specs.Typed.{IsValue, IsSmall, IsResult, IsUsual, IsCall, Passes, ArePassed, AreGiven, Fits, arguments_size, IsTyped, IsGiven, AreTyped}
use Rattle.c65_elab_convert.specs.Categories.{category_of}
use Rattle.c65_elab_convert.specs.Values.{value_of, promotion, as_int_of}
use Rattle.c65_elab_convert.specs.Changes.{assigned_of}
use Rattle.c65_elab_convert.specs.Calls.{callee_in, callee, passed_by, passed, taken_by, argument, counted, first_type, other_types, first_place, other_places, given, count_of, count_in, is_count, arguments_by, arguments_for, result_by, result_type, parts_for, called, call_of}
use Rattle.c65_elab_convert.specs.Structures.{structure_size, packed_of, packed_in}
use Rattle.c65_elab_law.specs.WellTyped.{AreExpressions, IsCallTree, IsAssigned, IsOf}
use Rattle.c65_elab_law.proofs.ValueLaws.{plain_in, type_plain, plain_twice, value_pointer, as_int_is, promotion_stays}
use Rattle.c65_elab_law.proofs.OperatorLaws.{bind_ok, ok_is, not_ok, IsTaken, taken, is_number, is_address}
use Rattle.c65_elab_law.proofs.ChangeLaws.{assigned_typed}

-- an argument as it is passed where there is no parameter
pub record IsPassed (u : UnitTy) (e : Typed) : Type 0 where
  pub given : IsGiven u e
  pub passes : Passes u (type_of e)

is_value : (u : UnitTy) (t : Ty) (e : Typed) → IsOf u (plain t) e → is_scalar t ≡ true → IsValue e
is_value u t e w s = ((ap (λ (q : QTy). is_scalar (type_in q)) w.ty ∙ s, w.ty ∙ sym (ap plain_of w.ty)), w.value)

-- a value is an argument
as_given : (u : UnitTy) (e : Typed) → IsTyped u e → IsValue e → IsGiven u e
as_given u (node t (n.pack e)) w v = absurd w
as_given u (node t x) w v = (w, v)

size_is_small : (types : TypesTy) (p : Pos) (t : Ty) (m : ℕ) → structure_size types p t ≡ Ok m → is_small types t ≡ true
size_is_small types p t m h =
    let (k, hk, g) = bind_ok (size_at types p t) (λ k. if is_small types t then Ok k else Err (at StructSize p)) m h in
    tested k g (is_small types t) refl
  where
    tested : (k : ℕ) → (if is_small types t then Ok k else Err (at StructSize p)) ≡ Ok m → (b : Bool) → is_small types t ≡ b → is_small types t ≡ true
    tested k g true x = x
    tested k g false x = absurd (not_ok _ _ (rw x at g))

-- the type of a structure or union without qualifiers
small_plain : (u : UnitTy) (q : QTy) → is_small u.types (type_in q) ≡ true → IsSmall u (plain_of q)
small_plain u q h = (ap (is_small u.types) (type_plain q) ∙ h, plain_twice q)

packed_given : (u : UnitTy) (p : Pos) (e x : Typed) → IsTyped u e → is_tag (type_in (type_of e)) ≡ true → packed_in u.types p e ≡ Ok x → IsGiven u x × IsSmall u (type_of x) × (type_of x ≡ plain_of (type_of e))
packed_given u p e x w g h =
    let (m, hm, k) = bind_ok (structure_size u.types p (type_in (type_of e))) (λ m. Ok (packed_of e)) x h in
    let small = small_plain u (type_of e) (size_is_small u.types p (type_in (type_of e)) m hm) in
    let is : packed_of e ≡ node (plain_of (type_of e)) (n.pack e) = rw g refl in
    subst (λ (y : Typed). IsGiven u y × IsSmall u (type_of y) × (type_of y ≡ plain_of (type_of e))) (sym is ∙ ok_is _ _ k) ((w, small, refl), small, refl)

passed_by_typed : (u : UnitTy) (p first : Pos) (v x : Typed) → IsTaken u v → (t : Ty) → type_in (type_of v) ≡ t → passed_by u.types p first (category_of t) v ≡ Ok x → IsPassed u x
passed_by_typed u p first v x w void ht h = absurd (not_ok _ _ h)
passed_by_typed u p first v x w (int k1) ht h =
    let y = as_int_is u (promotion u.types v k1) v w.typed (is_number v k1 w.had ht) in
    subst (IsPassed u) (ok_is _ _ h) (record { given = as_given u (as_int_of (promotion u.types v k1) v) y.typed (is_value u (int (promotion u.types v k1)) (as_int_of (promotion u.types v k1) v) y refl); passes = Passes.number (promotion u.types v k1, y.ty, promotion_stays u.types v k1) })
passed_by_typed u p first v x w (pointer q1) ht h =
    let v1 = is_address v q1 w.had ht in
    subst (IsPassed u) (ok_is _ _ h) (record { given = as_given u v w.typed v1; passes = Passes.pointer_value (q1, value_pointer v q1 v1 ht) })
passed_by_typed u p first v x w (array q1 m1) ht h = absurd (not_ok _ _ h)
passed_by_typed u p first v x w (tag i1) ht h =
    let y = packed_given u first v x w.typed (ap is_tag ht) h in
    record { given = y.0; passes = Passes.structure y.1 }
passed_by_typed u p first v x w (function f1) ht h = absurd (not_ok _ _ h)

passed_typed : (u : UnitTy) (p first : Pos) (e x : Typed) → IsTyped u e → passed u.types p first e ≡ Ok x → IsPassed u x
passed_typed u p first e x w h = passed_by_typed u p first (value_of e) x (taken u e w) (type_in (type_of (value_of e))) refl h

-- an argument of the type of its parameter
pub record IsTakenAs (u : UnitTy) (q : QTy) (e : Typed) : Type 0 where
  pub given : IsGiven u e
  pub same : type_of e ≡ plain_of q

as_parameter : (u : UnitTy) (q : QTy) (x : Typed) → is_tag (type_in q) ≡ false → IsAssigned u (type_in q) x → IsTakenAs u q x
as_parameter u q x g (IsAssigned.value s w) = record { given = as_given u x w.typed (is_value u (type_in q) x w s); same = w.ty ∙ sym (plain_in q) }
as_parameter u q x g (IsAssigned.whole t w same) = absurd (let e : true ≡ false = sym t ∙ g in cc)

-- a structure or union of the type of its parameter
as_whole : (u : UnitTy) (first : Pos) (i : ℕ) (c v : Bool) (y x : Typed) → IsAssigned u (tag i) y → packed_in u.types first y ≡ Ok x → IsTakenAs u (qual (tag i) c v) x
as_whole u first i c v y x (IsAssigned.value s w) h = absurd (let e : false ≡ true = s in cc)
as_whole u first i c v y x (IsAssigned.whole t w same) h =
    let z = packed_given u first y x w (ap is_tag same) h in
    record { given = z.0; same = z.2 ∙ plain_in (type_of y) ∙ ap plain same }

taken_typed : (u : UnitTy) (p first : Pos) (q : QTy) (e x : Typed) → IsTyped u e → taken_by u.types p first (category_of (type_in q)) q e ≡ Ok x → IsTakenAs u q x
taken_typed u p first (qual void c v) e x w h = as_parameter u (qual void c v) x refl (assigned_typed u p void e x w h)
taken_typed u p first (qual (int k1) c v) e x w h = as_parameter u (qual (int k1) c v) x refl (assigned_typed u p (int k1) e x w h)
taken_typed u p first (qual (pointer q1) c v) e x w h = as_parameter u (qual (pointer q1) c v) x refl (assigned_typed u p (pointer q1) e x w h)
taken_typed u p first (qual (array q1 m1) c v) e x w h = as_parameter u (qual (array q1 m1) c v) x refl (assigned_typed u p (array q1 m1) e x w h)
taken_typed u p first (qual (tag i1) c v) e x w h =
    let (y, hy, g) = bind_ok (assigned_of u.types p (tag i1) e) (packed_in u.types first) x h in
    as_whole u first i1 c v y x (assigned_typed u p (tag i1) e y w hy) g
taken_typed u p first (qual (function f1) c v) e x w h = as_parameter u (qual (function f1) c v) x refl (assigned_typed u p (function f1) e x w h)

limited_is : (k m : ℕ) → limited k ≡ Ok m → k ≡ m
limited_is k m h = tested (nat_le k (limit_of Object)) refl
  where
    tested : (b : Bool) → nat_le k (limit_of Object) ≡ b → k ≡ m
    tested false x = absurd (not_ok _ _ (rw x at h))
    tested true x = ok_is _ _ (rw x at h)

finished_told : (p : Pos) (l : Option LayoutTy) (m : ℕ) → finished_size p l ≡ Ok m → size_in l ≡ m
finished_told p None m h = absurd (not_ok _ _ h)
finished_told p (Some l) m h = ok_is _ _ h

-- a size that is told
mutual
  size_told : (types : TypesTy) (p : Pos) (t : Ty) (m : ℕ) → size_at types p t ≡ Ok m → size_of types t ≡ m
  size_told types p void m h = absurd (not_ok _ _ h)
  size_told types p (int k) m h = ok_is _ _ h
  size_told types p (pointer q) m h = ok_is _ _ h
  size_told types p (array q None) m h =
      let (x, hx, g) = bind_ok (qualified_size_at types p q) (elements p None) m h in absurd (not_ok _ _ g)
  size_told types p (array q (Some k)) m h =
      let (x, hx, g) = bind_ok (qualified_size_at types p q) (elements p (Some k)) m h in
      ap (λ (z : ℕ). z * k) (size_told_in types p q x hx) ∙ limited_is (x * k) m g
  size_told types p (tag i) m h = finished_told p (layout_at types i) m h
  size_told types p (function f) m h = absurd (not_ok _ _ h)

  size_told_in : (types : TypesTy) (p : Pos) (q : QTy) (m : ℕ) → qualified_size_at types p q ≡ Ok m → qualified_size_of types q ≡ m
  size_told_in types p (qual t c v) m h = size_told types p t m h

counted_is : (types : TypesTy) (p : Pos) (i m : ℕ) (x : Typed) → counted types p i x ≡ Ok m → (m ≡ i + size_of types (type_in (type_of x))) × (m ≤ 250)
counted_is types p i m x h =
    let (k, hk, g) = bind_ok (size_at types p (type_in (type_of x))) (λ k. if nat_le (i + k) 250 then Ok (i + k) else Err (large ArgumentBytes 251)) m h in
    tested k (size_told types p (type_in (type_of x)) k hk) g (nat_le (i + k) 250) refl
  where
    tested : (k : ℕ) → size_of types (type_in (type_of x)) ≡ k → (if nat_le (i + k) 250 then Ok (i + k) else Err (large ArgumentBytes 251)) ≡ Ok m → (b : Bool) → nat_le (i + k) 250 ≡ b → (m ≡ i + size_of types (type_in (type_of x))) × (m ≤ 250)
    tested k size g false y = absurd (not_ok _ _ (rw y at g))
    tested k size g true y =
        let same : i + k ≡ m = ok_is _ _ (rw y at g) in
        (sym same ∙ ap (λ (z : ℕ). i + z) (sym size), subst (λ (z : ℕ). z ≤ 250) same (leb-true (i + k) 250 y))

size_more : (types : TypesTy) (x : Typed) (xs : Nodes) → arguments_size types (some x xs) ≡ size_of types (type_in (type_of x)) + arguments_size types xs
size_more types (node t e) xs = refl

any_argument : (u : UnitTy) (p first : Pos) (o : Option QTy) (e x : Typed) → IsTyped u e → argument u.types p first o e ≡ Ok x → IsGiven u x
any_argument u p first None e x w h = (passed_typed u p first e x w h).given
any_argument u p first (Some q) e x w h = (taken_typed u p first q e x w h).given

-- all arguments are well typed and have few bytes
pub record AreFew (u : UnitTy) (i : ℕ) (xs : Nodes) : Type 0 where
  pub typed : AreTyped u xs
  pub few : i + arguments_size u.types xs ≤ 250

given_parts : (types : TypesTy) (p : Pos) (firsts : List Pos) (i : ℕ) (qs : QTys) (e : Typed) (es xs : Nodes) → given types p firsts i qs (some e es) ≡ Ok xs → (x : Typed) × (m : ℕ) × (ys : Nodes) × (argument types p (first_place p firsts) (first_type qs) e ≡ Ok x) × (counted types p i x ≡ Ok m) × (given types p (other_places firsts) m (other_types qs) es ≡ Ok ys) × (some x ys ≡ xs)
given_parts types p firsts i qs e es xs h =
    let (x, hx, h1) = bind_ok (argument types p (first_place p firsts) (first_type qs) e) (λ x. counted types p i x >>= λ m. given types p (other_places firsts) m (other_types qs) es >>= λ ys. Ok (some x ys)) xs h in
    let (m, hm, h2) = bind_ok (counted types p i x) (λ m. given types p (other_places firsts) m (other_types qs) es >>= λ ys. Ok (some x ys)) xs h1 in
    let (ys, hy, h3) = bind_ok (given types p (other_places firsts) m (other_types qs) es) (λ ys. Ok (some x ys)) xs h2 in
    (x, m, ys, hx, hm, hy, ok_is _ _ h3)

given_few : (u : UnitTy) (p : Pos) (firsts : List Pos) (i : ℕ) (qs : QTys) (es xs : Nodes) → i ≤ 250 → AreExpressions u es → given u.types p firsts i qs es ≡ Ok xs → AreFew u i xs
given_few u p firsts i qs none xs small w h = subst (AreFew u i) (ok_is _ _ h) (record { typed = tt; few = omega (arith, small) })
given_few u p firsts i qs (some e es) xs small w h =
    let (x, m, ys, hx, hm, hy, same) = given_parts u.types p firsts i qs e es xs h in
    let a = any_argument u p (first_place p firsts) (first_type qs) e x w.0 hx in
    let c = counted_is u.types p i m x hm in
    let rest = given_few u p (other_places firsts) m (other_types qs) es ys c.1 w.1 hy in
    subst (AreFew u i) same (record { typed = (a, rest.typed); few = rw (size_more u.types x ys) (omega (arith, rest.few, c.0)) })

given_passed : (u : UnitTy) (p : Pos) (firsts : List Pos) (i : ℕ) (es xs : Nodes) → AreExpressions u es → given u.types p firsts i end es ≡ Ok xs → ArePassed u xs
given_passed u p firsts i none xs w h = subst (ArePassed u) (ok_is _ _ h) tt
given_passed u p firsts i (some e es) xs w h =
    let (x, m, ys, hx, hm, hy, same) = given_parts u.types p firsts i end e es xs h in
    subst (ArePassed u) same ((passed_typed u p (first_place p firsts) e x w.0 hx).passes, given_passed u p (other_places firsts) m es ys w.1 hy)

one_less : (variadic : Bool) (m k : ℕ) → is_count variadic (suc m) (suc k) ≡ true → is_count variadic m k ≡ true
one_less true m k h = grind (arith, nat_tests)
one_less false m k h = grind (arith, nat_tests)

none_left : (variadic : Bool) (m : ℕ) → is_count variadic (suc m) zero ≡ true → ⊥
none_left true m h = grind (arith, nat_tests)
none_left false m h = grind (arith, nat_tests)

one_too_many : (m : ℕ) → is_count false zero (suc m) ≡ true → ⊥
one_too_many m h = grind (arith, nat_tests)

given_fits : (u : UnitTy) (p : Pos) (firsts : List Pos) (i : ℕ) (qs : QTys) (variadic : Bool) (es xs : Nodes) → AreExpressions u es → is_count variadic (count_of qs) (count_in es) ≡ true → given u.types p firsts i qs es ≡ Ok xs → AreGiven u qs variadic xs
given_fits u p firsts i end true es xs w c h = given_passed u p firsts i es xs w h
given_fits u p firsts i end false none xs w c h = subst (AreGiven u end false) (ok_is _ _ h) tt
given_fits u p firsts i end false (some e es) xs w c h = absurd (one_too_many (count_in es) c)
given_fits u p firsts i (more q qs) variadic none xs w c h = absurd (none_left variadic (count_of qs) c)
given_fits u p firsts i (more q qs) variadic (some e es) xs w c h =
    let (x, m, ys, hx, hm, hy, same) = given_parts u.types p firsts i (more q qs) e es xs h in
    let a = taken_typed u p (first_place p firsts) q e x w.0 hx in
    subst (AreGiven u (more q qs) variadic) same (a.same, given_fits u p (other_places firsts) m qs variadic es ys w.1 (one_less variadic (count_of qs) (count_in es) c) hy)

arguments_fit : (u : UnitTy) (p : Pos) (firsts : List Pos) (ps : Params) (variadic : Bool) (es xs : Nodes) → AreExpressions u es → arguments_by u.types p firsts ps variadic es ≡ Ok xs → AreFew u 0 xs × Fits u ps variadic xs
arguments_fit u p firsts unknown variadic es xs w h = (given_few u p firsts 0 end es xs (omega arith) w h, given_passed u p firsts 0 es xs w h)
arguments_fit u p firsts (known qs) variadic es xs w h = tested (is_count variadic (count_of qs) (count_in es)) refl
  where
    tested : (b : Bool) → is_count variadic (count_of qs) (count_in es) ≡ b → AreFew u 0 xs × Fits u (known qs) variadic xs
    tested false y = absurd (not_ok _ _ (rw y at h))
    tested true y = let g = rw y at h in (given_few u p firsts 0 qs es xs (omega arith) w g, given_fits u p firsts 0 qs variadic es xs w y g)

no_tag : (t : Ty) → is_scalar t ≡ true → is_tag t ≡ false
no_tag void h = refl
no_tag (int k) h = refl
no_tag (pointer q) h = refl
no_tag (array q m) h = refl
no_tag (tag i) h = absurd (let x : false ≡ true = h in cc)
no_tag (function f) h = refl

-- what assignment to a type that is passed gives, as it is passed or returned
small_of : (types : TypesTy) (t : Ty) → is_tag t ≡ true → is_passed types t ≡ true → is_small types t ≡ true
small_of types void g h = absurd (let x : false ≡ true = g in cc)
small_of types (int k) g h = absurd (let x : false ≡ true = g in cc)
small_of types (pointer q) g h = absurd (let x : false ≡ true = g in cc)
small_of types (array q m) g h = absurd (let x : false ≡ true = g in cc)
small_of types (tag i) g h = h
small_of types (function f) g h = absurd (let x : false ≡ true = g in cc)

pub packed_typed : (u : UnitTy) (t : Ty) (e : Typed) → IsAssigned u t e → is_passed u.types t ≡ true → IsGiven u (packed_of e)
packed_typed u t e (IsAssigned.value s w) h =
    let no : is_tag (type_in (type_of e)) ≡ false = ap (λ (q : QTy). is_tag (type_in q)) w.ty ∙ no_tag t s in
    let is : packed_of e ≡ e = rw no refl in
    subst (IsGiven u) (sym is) (as_given u e w.typed (is_value u t e w s))
packed_typed u t e (IsAssigned.whole g w same) h =
    let yes : is_tag (type_in (type_of e)) ≡ true = ap is_tag same ∙ g in
    let is : packed_of e ≡ node (plain_of (type_of e)) (n.pack e) = rw yes refl in
    subst (IsGiven u) (sym is) (w, small_plain u (type_of e) (ap (is_small u.types) same ∙ small_of u.types t g h), refl)

-- the type of the result
result_is : (u : UnitTy) (p : Pos) (q t : QTy) → result_by u.types p (category_of (type_in q)) q ≡ Ok t → (t ≡ plain_of q) × IsResult u t
result_is u p (qual void c v) t h = (sym (ok_is _ _ h), subst (IsResult u) (ok_is _ _ h) IsResult.nothing)
result_is u p (qual (int k) c v) t h = (sym (ok_is _ _ h), subst (IsResult u) (ok_is _ _ h) (IsResult.scalar (refl, refl)))
result_is u p (qual (pointer r) c v) t h = (sym (ok_is _ _ h), subst (IsResult u) (ok_is _ _ h) (IsResult.scalar (refl, refl)))
result_is u p (qual (array r k) c v) t h = absurd (not_ok _ _ h)
result_is u p (qual (tag i) c v) t h =
    let (m, hm, g) = bind_ok (structure_size u.types p (tag i)) (λ m. Ok (plain (tag i))) t h in
    (sym (ok_is _ _ g), subst (IsResult u) (ok_is _ _ g) (IsResult.structure (size_is_small u.types p (tag i) m hm, refl)))
result_is u p (qual (function f) c v) t h = absurd (not_ok _ _ h)

callee_in_is : (q : QTy) (g : Fn) → callee_in q ≡ Some g → q ≡ plain (function g)
callee_in_is (qual void c v) g h = absurd (let e : None ≡ Some g = h in cc)
callee_in_is (qual (int k) c v) g h = absurd (let e : None ≡ Some g = h in cc)
callee_in_is (qual (pointer r) c v) g h = absurd (let e : None ≡ Some g = h in cc)
callee_in_is (qual (array r k) c v) g h = absurd (let e : None ≡ Some g = h in cc)
callee_in_is (qual (tag i) c v) g h = absurd (let e : None ≡ Some g = h in cc)
callee_in_is (qual (function f) true v) g h = absurd (let e : None ≡ Some g = h in cc)
callee_in_is (qual (function f) false true) g h = absurd (let e : None ≡ Some g = h in cc)
callee_in_is (qual (function f) false false) g h = let e : f ≡ g = cc in ap (λ (x : Fn). plain (function x)) e

callee_is : (t : Ty) (g : Fn) → callee t ≡ Some g → t ≡ pointer (plain (function g))
callee_is void g h = absurd (let e : None ≡ Some g = h in cc)
callee_is (int k) g h = absurd (let e : None ≡ Some g = h in cc)
callee_is (pointer q) g h = ap pointer (callee_in_is q g h)
callee_is (array q k) g h = absurd (let e : None ≡ Some g = h in cc)
callee_is (tag i) g h = absurd (let e : None ≡ Some g = h in cc)
callee_is (function f) g h = absurd (let e : None ≡ Some g = h in cc)

few_bytes : (u : UnitTy) (xs : Nodes) → AreFew u 0 xs → arguments_size u.types xs ≤ 250
few_bytes u xs w = omega (arith, w.few)

-- a call by what it gives
call_tree : (u : UnitTy) (t : QTy) (f : Typed) (xs : Nodes) → IsResult u t → IsTyped u f → is_place f ≡ false → IsCall u t (type_of f) xs → AreTyped u xs → IsCallTree u (node t (n.call f xs))
call_tree u t f xs IsResult.nothing w v c ws = IsCallTree.usual refl (w, v, c, IsUsual.nothing, ws)
call_tree u t f xs (IsResult.scalar s) w v c ws = IsCallTree.usual (no_tag (type_in t) s.0) (w, v, c, IsUsual.scalar s, ws)
call_tree u t f xs (IsResult.structure s) w v c ws = IsCallTree.whole (refl, s, w, v, c, ws)

called_typed : (u : UnitTy) (p : Pos) (firsts : List Pos) (o : Option Fn) (f e : Typed) (es : Nodes) → IsTaken u f → AreExpressions u es → callee (type_in (type_of f)) ≡ o → called u.types p firsts o f es ≡ Ok e → IsCallTree u e
called_typed u p firsts None f e es w ws g h = absurd (not_ok _ _ h)
called_typed u p firsts (Some (fn q ps variadic cdecl)) f e es w ws g h =
    let (y, hy, h2) = bind_ok (parts_for u.types p firsts (fn q ps variadic cdecl) es) (λ y. Ok (node y.0 (n.call f y.1))) e h in
    let (t, ht, h1) = bind_ok (result_type u.types p (fn q ps variadic cdecl)) (λ t. arguments_for u.types p firsts (fn q ps variadic cdecl) es >>= λ xs. Ok (t, xs)) y hy in
    let (xs, hx, h3) = bind_ok (arguments_for u.types p firsts (fn q ps variadic cdecl) es) (λ xs. Ok (t, xs)) y h1 in
    let both : (t, xs) ≡ y = ok_is _ _ h3 in
    let r = result_is u p q t ht in
    let a = arguments_fit u p firsts ps variadic es xs ws hx in
    let is = callee_is (type_in (type_of f)) (fn q ps variadic cdecl) g in
    let v = is_address f (plain (function (fn q ps variadic cdecl))) w.had is in
    let c : IsCall u t (type_of f) xs = record { callee = fn q ps variadic cdecl; named = value_pointer f (plain (function (fn q ps variadic cdecl))) v is; result = r.0; given = a.1; few = few_bytes u xs a.0 } in
    subst (IsCallTree u) (ap (λ (z : QTy × Nodes). node z.0 (n.call f z.1)) both ∙ ok_is _ _ h2) (call_tree u t f xs r.1 w.typed v.1 c a.0.typed)

pub call_typed : (u : UnitTy) (p : Pos) (firsts : List Pos) (f e : Typed) (es : Nodes) → IsTyped u f → AreExpressions u es → call_of u.types p firsts f es ≡ Ok e → IsCallTree u e
call_typed u p firsts f e es w ws h = called_typed u p firsts (callee (type_in (type_of (value_of f)))) (value_of f) e es (taken u f w) ws refl h
