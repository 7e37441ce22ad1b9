-- What the tests on units and programs tell.
use Rattle.std.proofs.Common.{◌≡◌, ℕ, zero, suc, ◌+◌, ◌<◌, ◌≤◌, List, [], ◌∷◌, length, Bool, true, false, not, ◌&&◌, ◌||◌, ◌⊎◌, inl, inr, Option, Some, None, is_some, slice_get, nat_le, IsTrue, IsSome, All, refl, sym, ap, ◌∙◌, subst, arith}
use Rattle.std.specs.Prelude.{if◌then◌else◌, ◌==◌, nat_lt}
use Rattle.std.specs.List.{AllByRecursion}
use Rattle.std.proofs.lemmas.List.Elements.{All-from_recursion, recursion_from_All}
use Rattle.std.proofs.lemmas.Bool.{le-leb, leb-true, eqb-true}
use Rattle.std.proofs.lemmas.Bool.Decides.{Decides-eqb, Decides-ltb}
use Rattle.c65_ctype.specs.Trees.{Ty, void, int, pointer, array, tag, function, QTy, qual, type_in, Fn, fn, Params, unknown, known, QTys, end, more, TypesTy}
use Rattle.c65_ctype.specs.Sizes.{size_of}
use Rattle.c65_csem.specs.declared.items.Class.{Class}
use Rattle.c65_csem.specs.declared.items.Class.TheVariants.{External, Tentative, Declared, Static, Auto, Register, Fixed}
use Rattle.c65_csem.specs.declared.items.Cell.{Cell}
use Rattle.c65_csem.specs.declared.items.Cell.TheVariants.{Byte, Piece}
use Rattle.c65_csem.specs.declared.items.Target.{Target}
use Rattle.c65_csem.specs.declared.items.Target.TheVariants as targets
use Rattle.c65_base.specs.declared.library.Library.{Library}
use Rattle.c65_csem.specs.Trees.{Stmt, ObjectTy, FuncTy, UnitTy}
use Rattle.c65_csem.specs.Places.{is_passed, is_sized_in, plain_of, is_framed, is_automatic, are_alike}
use Rattle.c65_csem.specs.Typed.{IsResult, result_of}
use Rattle.c65_csem.specs.Statements.{IsStmt, IsDistinct, IsAutomatic, labels_of}
use Rattle.c65_csem.specs.Units.{NamesTarget, IsCell, IsInit, may_have_init, HasRoomFor, HasSize, IsObject, IsParam, AreParams, MatchParams, context_of, IsBody, HasBody, IsFunc, IsUnit, IsWhole, is_defined, IsDefined, IsLinked, IsProgram}
use Rattle.c65_csem_check.specs.Kinds as kinds
use Rattle.c65_csem_check.specs.Expressions.{is_auto}
use Rattle.c65_csem_check.specs.Statements.{measured_in, are_distinct, is_stmt}
use Rattle.c65_csem_check.specs.Units as b
use Rattle.c65_csem_check.specs.Units.{IsMeasured, IsMeasuredUnit}
use Rattle.c65_csem_check.proofs.Tells.{Tells, like, tells_itself, tells_unit, tells_never, tells_found, tells_all, tells_if, some_same, from_decides, both, behind, three}
use Rattle.c65_csem_check.proofs.TypeLaws.{IsFlat, tells_result, tells_same_size}
use Rattle.c65_csem_check.proofs.ExpressionLaws.{tells_auto}
use Rattle.c65_csem_check.proofs.ListLaws.{tells_distinct}
use Rattle.c65_csem_check.proofs.StatementLaws.{AreMeasured, measured_is, tells_stmt}

module _ {S : Type 0} where
  tells_target : (u : UnitTy) (t : Target) → Tells S (b.names_target u t) (NamesTarget u t)
  tells_target u (targets.Object i) = from_decides _ _ (Decides-ltb i (length u.objects))
  tells_target u (targets.Literal i) = from_decides _ _ (Decides-ltb i (length u.literals))
  tells_target u (targets.Func i) = from_decides _ _ (Decides-ltb i (length u.funcs))

  tells_cell : (u : UnitTy) (x : Cell) → Tells S (b.is_cell u x) (IsCell u x)
  tells_cell u (Byte n) = tells_unit
  tells_cell u (Piece target offset part) = both (tells_target u target) (record { yes = λ h. leb-true part 1 h; only = λ s w. le-leb part 1 w })

  tells_cells : (u : UnitTy) (xs : List Cell) → Tells S (b.are_cells u xs) (All (IsCell u) xs)
  tells_cells u xs = tells_all (b.are_cells u) (b.is_cell u) (IsCell u) refl (λ x xs. refl) (λ x. tells_cell u x) xs

  tells_size : (u : UnitTy) (t : QTy) (c : Class) → Tells S (b.has_size u t c) (HasSize u t c)
  tells_size u t Declared = tells_unit
  tells_size u t External = tells_itself (is_sized_in u.types t)
  tells_size u t Tentative = tells_itself (is_sized_in u.types t)
  tells_size u t Static = tells_itself (is_sized_in u.types t)
  tells_size u t Auto = tells_itself (is_sized_in u.types t)
  tells_size u t Register = tells_itself (is_sized_in u.types t)
  tells_size u t Fixed = tells_itself (is_sized_in u.types t)

length_is : (n : ℕ) (o : Option ℕ) → b.is_length n o ≡ true → o ≡ Some n
length_is n None h = cc
length_is n (Some m) h = ap Some (sym (eqb-true n m h))

is_length : (n : ℕ) (o : Option ℕ) → o ≡ Some n → b.is_length n o ≡ true
is_length n None h = cc
is_length n (Some m) h = (Decides-eqb n m).1 (sym (first_is m n h))
  where
    first_is : (x y : ℕ) → Some x ≡ Some y → x ≡ y
    first_is x y h = cc

size_is : (u : UnitTy) (t : QTy) (n : ℕ) → measured_in u.types t ≡ Some n → size_of u.types (type_in t) ≡ n
size_is u (qual t c v) n h = measured_is u.types t n h

-- an object that may have first bytes has a size
sized_by : (u : UnitTy) (t : QTy) (c : Class) → may_have_init c ≡ true → HasSize u t c → IsTrue (is_sized_in u.types t)
sized_by u t External h w = w
sized_by u t Static h w = w
sized_by u t Tentative h w = w
sized_by u t Auto h w = w
sized_by u t Register h w = w
sized_by u t Fixed h w = w
sized_by u t Declared h w = cc

sized_automatic : (u : UnitTy) (t : QTy) (c : Class) → is_automatic c ≡ true → HasSize u t c → IsTrue (is_sized_in u.types t)
sized_automatic u t External h w = w
sized_automatic u t Static h w = w
sized_automatic u t Tentative h w = w
sized_automatic u t Auto h w = w
sized_automatic u t Register h w = w
sized_automatic u t Fixed h w = w
sized_automatic u t Declared h w = cc

measure_found : (o : Option ℕ) (n : ℕ) → IsSome o → ((m : ℕ) → o ≡ Some m → n ≡ m) → o ≡ Some n
measure_found None n h f = cc
measure_found (Some m) n h f = ap Some (sym (f m refl))

and_true : (x y : Bool) → (x && y) ≡ true → (x ≡ true) × (y ≡ true)
and_true true y h = (refl, h)
and_true false y h = cc

and_made : (x y : Bool) → x ≡ true → y ≡ true → (x && y) ≡ true
and_made true y h k = k
and_made false y h k = cc

if_true : (x y : Bool) → (if x then y else false) ≡ true → (x ≡ true) × (y ≡ true)
if_true true y h = (refl, h)
if_true false y h = cc

if_made : (x y : Bool) → x ≡ true → y ≡ true → (if x then y else false) ≡ true
if_made true y h k = k
if_made false y h k = cc

-- Objects.

init_yes : (u : UnitTy) (o : ObjectTy) (i : Option (List Cell)) → b.is_init u o i ≡ true → IsInit u o i × HasRoomFor o.class i
init_yes u o None h = (tt, tt)
init_yes u o (Some cells) h =
    let w = (three {S = Unit {0}} (tells_itself (may_have_init o.class)) (tells_itself (b.is_length (length cells) (measured_in u.types o.ty))) (tells_cells u cells)).yes h in
    ((sym (size_is u o.ty (length cells) (length_is (length cells) (measured_in u.types o.ty) w.1)), w.2), w.0)

init_only : (u : UnitTy) (o : ObjectTy) (i : Option (List Cell)) → IsMeasured u o → HasSize u o.ty o.class → IsInit u o i → HasRoomFor o.class i → b.is_init u o i ≡ true
init_only u o None m z w r = refl
init_only u o (Some cells) m z w r =
    let found = measure_found (measured_in u.types o.ty) (length cells) (m (sized_by u o.ty o.class r z)) (λ n e. w.0 ∙ size_is u o.ty n e) in
    (three {S = Unit {0}} (tells_itself (may_have_init o.class)) (tells_itself (b.is_length (length cells) (measured_in u.types o.ty))) (tells_cells u cells)).only tt (r, is_length (length cells) (measured_in u.types o.ty) found, w.1)

-- an object has a name, or is automatic
tells_unnamed : {A : Type 0} (name : Option A) (c : Class) → Tells (Unit {0}) (is_some name || is_auto c) (name ≡ None → c ≡ Auto)
tells_unnamed None c = like (tells_auto c) (λ h e. h) (λ w. w refl)
tells_unnamed (Some n) c = record { yes = λ h e. cc; only = λ s w. refl }

object_yes : (u : UnitTy) (o : ObjectTy) → b.is_object u o ≡ true → IsObject u o
object_yes u o h =
    let v = and_true (b.has_size u o.ty o.class && b.is_init u o o.init) (is_some o.name || is_auto o.class) h in
    let w = and_true (b.has_size u o.ty o.class) (b.is_init u o o.init) v.0 in
    let i = init_yes u o o.init w.1 in
    record { size = (tells_size {S = Unit {0}} u o.ty o.class).yes w.0; init = i.0; class = i.1; unnamed = (tells_unnamed o.name o.class).yes v.1 }

object_only : (u : UnitTy) (o : ObjectTy) → IsMeasured u o → IsObject u o → b.is_object u o ≡ true
object_only u o m w =
    let sized = and_made (b.has_size u o.ty o.class) (b.is_init u o o.init) ((tells_size {S = Unit {0}} u o.ty o.class).only tt w.size) (init_only u o o.init m w.size w.init w.class) in
    and_made (b.has_size u o.ty o.class && b.is_init u o o.init) (is_some o.name || is_auto o.class) sized ((tells_unnamed o.name o.class).only tt w.unnamed)

objects_yes : (u : UnitTy) (os : List ObjectTy) → b.are_objects u os ≡ true → AllByRecursion (IsObject u) os
objects_yes u [] h = tt
objects_yes u (o ∷ os) h = let w = if_true (b.is_object u o) (b.are_objects u os) h in (object_yes u o w.0, objects_yes u os w.1)

objects_only : (u : UnitTy) (os : List ObjectTy) → AllByRecursion (IsMeasured u) os → AllByRecursion (IsObject u) os → b.are_objects u os ≡ true
objects_only u [] m w = refl
objects_only u (o ∷ os) m w = if_made (b.is_object u o) (b.are_objects u os) (object_only u o m.0 w.0) (objects_only u os m.1 w.1)

no_object : (i : ℕ) (o : ObjectTy) → slice_get [] i ≡ Some o → ⊥
no_object i o h = cc

measured_at : (u : UnitTy) (os : List ObjectTy) → AllByRecursion (IsMeasured u) os → AllByRecursion (IsObject u) os → (i : ℕ) (o : ObjectTy) → slice_get os i ≡ Some o → IsTrue (is_automatic o.class) → IsSome (measured_in u.types o.ty)
measured_at u [] m w i o h auto = absurd (no_object i o h)
measured_at u (x ∷ os) m w zero o h auto =
    let same : x ≡ o = cc in
    let P : ObjectTy → Type 0 = λ (y : ObjectTy). IsMeasured u y × IsObject u y in
    let both = subst P same (m.0, w.0) in
    both.0 (sized_automatic u o.ty o.class auto both.1.size)
measured_at u (x ∷ os) m w (suc i) o h auto = measured_at u os m.1 w.1 i o h auto

-- Functions.

abbrev IsOfType : UnitTy → QTy → ObjectTy → Type 0
IsOfType u q o = IsTrue (are_alike o.ty q) × (size_of u.types (type_in o.ty) ≡ size_of u.types (type_in q))

passed_flat : (types : TypesTy) (t : Ty) → is_passed types t ≡ true → IsFlat t
passed_flat types (int k) h = inl refl
passed_flat types (pointer q) h = inl refl
passed_flat types (tag n) h = inr refl
passed_flat types void h = cc
passed_flat types (array q n) h = cc
passed_flat types (function f) h = cc

param_flat : (u : UnitTy) (i : ℕ) (o : ObjectTy) → slice_get u.objects i ≡ Some o → IsParam u i → IsFlat (type_in o.ty)
param_flat u i o e p =
    let f = p.framed.0 in
    let same : p.object ≡ o = cc in
    let P : ObjectTy → Type 0 = λ (x : ObjectTy). IsFlat (type_in x.ty) in
    subst P same (passed_flat u.types (type_in p.object.ty) p.passed)

module _ {S : Type 0} where
  tells_param : (u : UnitTy) (i : ℕ) → Tells S (b.param_by u.types (slice_get u.objects i)) (IsParam u i)
  tells_param u i = like (tells_found (b.param_by u.types) (λ o. IsTrue (is_framed o.class) × IsTrue (is_passed u.types (type_in o.ty)) × IsSome o.name) refl (λ o. three (tells_itself (is_framed o.class)) (tells_itself (is_passed u.types (type_in o.ty))) (tells_itself (is_some o.name))) (slice_get u.objects i))
      (λ w. record { object = w.0; framed = (w.1, w.2.0); passed = w.2.1; named = w.2.2 })
      (λ w. (w.object, w.framed.0, (w.framed.1, w.passed, w.named)))

  tells_params : (u : UnitTy) (is : List ℕ) → Tells S (b.are_params u is) (All (IsParam u) is)
  tells_params u is = tells_all (b.are_params u) (λ i. b.param_by u.types (slice_get u.objects i)) (IsParam u) refl (λ i is. refl) (λ i. tells_param u i) is

  type_by : (u : UnitTy) (i : ℕ) (q : QTy) (o : Option ObjectTy) → slice_get u.objects i ≡ o → IsParam u i → Tells S (b.has_type_of u.types o q) ((x : ObjectTy) × (o ≡ Some x) × IsOfType u q x)
  type_by u i q None e p = record { yes = λ h. cc; only = λ s w. let f = w.1 in cc }
  type_by u i q (Some x) e p =
      let flat = param_flat u i x e p in
      like (behind (tells_itself (are_alike x.ty q)) (λ h. tells_same_size u.types x.ty q flat h)) (λ w. (x, refl, w)) (λ w. some_same (IsOfType u q) x w.0 w.1 w.2)

  tells_type_of : (u : UnitTy) (i : ℕ) (q : QTy) → IsParam u i → Tells S (b.has_type_of u.types (slice_get u.objects i) q) ((o : ObjectTy) × (slice_get u.objects i ≡ Some o) × IsOfType u q o)
  tells_type_of u i q p = type_by u i q (slice_get u.objects i) refl p

  tells_match : (u : UnitTy) (qs : QTys) (is : List ℕ) → AllByRecursion (IsParam u) is → Tells S (b.params_match u qs is) (AreParams u qs is)
  tells_match u end [] ps = tells_unit
  tells_match u end (i ∷ is) ps = tells_never
  tells_match u (more q qs) [] ps = tells_never
  tells_match u (more q qs) (i ∷ is) ps = like (tells_if (tells_type_of u i q ps.0) (tells_match u qs is ps.1)) (λ w. (w.0.0, w.0.1, w.0.2.0, w.0.2.1, w.1)) (λ w. ((w.0, w.1, (w.2, w.3)), w.4))

  tells_prototype : (u : UnitTy) (f : Fn) (is : List ℕ) → All (IsParam u) is → Tells S (b.prototype_matches u f is) (MatchParams u f is)
  tells_prototype u (fn q unknown variadic cdecl) is ps = tells_unit
  tells_prototype u (fn q (known qs) variadic cdecl) is ps = tells_match u qs is (recursion_from_All (IsParam u) is ps)

  tells_empty : (ns : List ℕ) → Tells S (b.is_empty ns) (ns ≡ [])
  tells_empty [] = record { yes = λ h. refl; only = λ s w. refl }
  tells_empty (n ∷ ns) = record { yes = λ h. cc; only = λ s w. cc }

tells_body : (u : UnitTy) (f : FuncTy) (body : Stmt) → Tells (AreMeasured u) (b.is_body u f body) (IsBody u f body)
tells_body u f body = like (both (both (three (behind (tells_params u f.params) (λ ps. tells_prototype u f.ty f.params ps)) (tells_distinct f.params) (tells_result u (plain_of (result_of f.ty)))) (tells_distinct (labels_of body))) (tells_stmt u (context_of f body) body))
    (λ w. record { params = w.0.0.0.0; prototype = w.0.0.0.1; distinct_params = w.0.0.1; gives = w.0.0.2; labels = w.0.1; typed = w.1 })
    (λ w. ((((w.params, w.prototype), w.distinct_params, w.gives), w.labels), w.typed))

tells_has_body : (u : UnitTy) (f : FuncTy) (o : Option Stmt) → Tells (AreMeasured u) (b.has_body u f o) (HasBody u f o)
tells_has_body u f None = tells_empty f.params
tells_has_body u f (Some body) = tells_body u f body

tells_func : (u : UnitTy) (f : FuncTy) → Tells (AreMeasured u) (b.is_func u f) (IsFunc u f)
tells_func u f = like (tells_has_body u f f.body) (λ w. record { body = w }) (λ w. w.body)

tells_funcs : (u : UnitTy) (fs : List FuncTy) → Tells (AreMeasured u) (b.are_funcs u fs) (All (IsFunc u) fs)
tells_funcs u fs = tells_all (b.are_funcs u) (b.is_func u) (IsFunc u) refl (λ f fs. refl) (λ f. tells_func u f) fs

pub unit_yes : (u : UnitTy) → b.is_unit u ≡ true → IsUnit u
unit_yes u h =
    let w = and_true (b.are_objects u u.objects) (b.are_funcs u u.funcs) h in
    record { objects = All-from_recursion (IsObject u) u.objects (objects_yes u u.objects w.0); funcs = (tells_funcs u u.funcs).yes w.1 }

pub unit_only : (u : UnitTy) → IsUnit u → IsMeasuredUnit u → b.is_unit u ≡ true
unit_only u w m =
    let os = recursion_from_All (IsObject u) u.objects w.objects in
    let ms = recursion_from_All (IsMeasured u) u.objects m in
    and_made (b.are_objects u u.objects) (b.are_funcs u u.funcs) (objects_only u u.objects ms os) ((tells_funcs u u.funcs).only (λ i o h auto. measured_at u u.objects ms os i o h auto) w.funcs)

-- Programs.

module _ {S : Type 0} where
  tells_defined : (os : List ObjectTy) → Tells S (b.are_defined os) (All IsDefined os)
  tells_defined os = tells_all b.are_defined (λ o. is_defined o.class) IsDefined refl (λ o os. refl) (λ o. tells_itself (is_defined o.class)) os

  tells_whole : (o : Option Stmt) (l : Option Library) → Tells S (b.is_whole o l) (IsWhole o l)
  tells_whole None None = tells_never
  tells_whole None (Some l) = tells_unit
  tells_whole (Some body) None = tells_unit
  tells_whole (Some body) (Some l) = tells_never

  tells_linked : (fs : List FuncTy) → Tells S (b.are_linked fs) (All IsLinked fs)
  tells_linked fs = tells_all b.are_linked (λ f. b.is_whole f.body f.library) IsLinked refl (λ f fs. refl) (λ f. tells_whole f.body f.library) fs

  tells_start : (u : UnitTy) (main : ℕ) → Tells S (b.starts_in (slice_get u.funcs main)) ((f : FuncTy) × (slice_get u.funcs main ≡ Some f) × IsSome f.body)
  tells_start u main = tells_found b.starts_in (λ f. IsSome f.body) refl (λ f. tells_itself (is_some f.body)) (slice_get u.funcs main)

  tells_program : (u : UnitTy) (main : ℕ) → IsUnit u → Tells S (b.is_program u main) (IsProgram u main)
  tells_program u main w = like (three (tells_defined u.objects) (tells_linked u.funcs) (tells_start u main))
      (λ v. record { unit = w; objects = v.0; funcs = v.1; start = v.2.0; main_is = v.2.1; has_body = v.2.2 })
      (λ v. (v.objects, v.funcs, (v.start, v.main_is, v.has_body)))

pub program_yes : (u : UnitTy) (main : ℕ) → IsUnit u → b.is_program u main ≡ true → IsProgram u main
program_yes u main w h = (tells_program {S = Unit {0}} u main w).yes h

pub program_only : (u : UnitTy) (main : ℕ) → IsProgram u main → b.is_program u main ≡ true
program_only u main w = (tells_program {S = Unit {0}} u main w.unit).only tt w
