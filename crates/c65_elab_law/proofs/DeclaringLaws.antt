-- Declarations keep what holds of a scope.
use Rattle.std.proofs.Common.{◌≡◌, ℕ, zero, suc, arith, if◌then◌else◌, Bool, true, false, Option, Some, None, Ok, refl, sym, ap, ◌∙◌, subst, List, [], ◌∷◌, ◌++◌, length, ℤ}
use Rattle.std.specs.Prelude.{◌==◌, ◌&&◌, slice_get, is_some}
use Rattle.c65_base.specs.declared.names.Name.{Name}
use Rattle.c65_base.specs.declared.refusal.Pos.{Pos}
use Rattle.c65_base.specs.Answers.{◌>>=◌}
use Rattle.c65_tree.specs.declared.expr.Storage.{Storage}
use Rattle.c65_tree.specs.declared.expr.Storage.TheVariants as storages
use Rattle.c65_ints.specs.declared.types.IntType.TheVariants.{Int}
use Rattle.c65_ints.specs.Ranges.{InRange}
use Rattle.c65_ctype.specs.Trees.{Ty, void, int, pointer, array, tag, function, QTy, qual, type_in, Fn, TagTy, TypesTy}
use Rattle.c65_ctype.specs.Compatible.{same_bool, each, each_in, agrees, tags_meet, agree_within, are_compatible}
use Rattle.c65_ctype.specs.Composite.{joined_tag, composite_of, composite_ty}
use Rattle.c65_ctype.specs.Tables.{AreTags, layout_at}
use Rattle.c65_csem.specs.declared.items.Class.{Class}
use Rattle.c65_csem.specs.declared.items.Class.TheVariants as c
use Rattle.c65_csem.specs.Trees.{ObjectTy}
use Rattle.c65_csem.specs.Places.{is_sized, is_sized_in, are_alike, alike, is_automatic, is_register}
use Rattle.c65_elab_scope.specs.declared.meaning.Bound.{Bound}
use Rattle.c65_elab_scope.specs.declared.meaning.Entity.{Entity}
use Rattle.c65_elab_scope.specs.declared.meaning.Entity.TheVariants as e
use Rattle.c65_elab_scope.specs.declared.meaning.Meaning.{Meaning}
use Rattle.c65_elab_scope.specs.declared.meaning.Meaning.TheVariants as m
use Rattle.c65_elab_scope.specs.Tables.{found, found_in}
use Rattle.c65_elab_scope.specs.Scopes.{ScopeTy, name_bound}
use Rattle.c65_elab_scope.specs.Parts.{with_objects, with_funcs, new_object, new_func, object_redeclared, func_redeclared}
use Rattle.c65_elab_scope.specs.Declaring.{unless, linked, has_clash, is_shared, meaning_shared, func_linkage, func_type_in, link_bound, func_again, func_linked, func_declared, needs_size, own_declared, merged, object_type_in, object_again, object_linked, needs_size_if, shared_declared, object_declared, typedef_declared, enumerator_declared, entity_declared, is_typedef, declared}
use Rattle.c65_elab_law.specs.Growth.{IsLater}
use Rattle.c65_elab_law.specs.Scoped.{has_elements, HasPlace, ArePlaced, IsScope, Keeps}
use Rattle.c65_elab_law.proofs.GrowthLaws.{same_self, alike_self}
use Rattle.c65_elab_law.proofs.OperatorLaws.{bind_ok, ok_is, not_ok, has_size}
use Rattle.c65_elab_law.proofs.ScopeLaws.{keeps_on, name_keeps, link_keeps, renamed, bound_names, object_added_keeps, func_added_keeps, redeclared_keeps, func_redeclared_keeps}
use Rattle.c65_elab_law.proofs.ValueLaws.{equal_is, same_flag}

-- ---- the composite type of a type and another one

mutual
  composite_alike_in : (types : TypesTy) (q r : QTy) → are_alike q (composite_of types q r) ≡ true
  composite_alike_in types (qual t c v) (qual u d w) = composite_alike types t u

  composite_alike : (types : TypesTy) (t u : Ty) → alike t (composite_ty types t u) ≡ true
  composite_alike types void u = refl
  composite_alike types (int k) u = same_self k
  composite_alike types (pointer q) void = refl
  composite_alike types (pointer q) (int k) = refl
  composite_alike types (pointer q) (pointer r) = refl
  composite_alike types (pointer q) (array r n) = refl
  composite_alike types (pointer q) (tag n) = refl
  composite_alike types (pointer q) (function g) = refl
  composite_alike types (array q l) void = alike_self q
  composite_alike types (array q l) (int k) = alike_self q
  composite_alike types (array q l) (pointer r) = alike_self q
  composite_alike types (array q l) (array r n) = composite_alike_in types q r
  composite_alike types (array q l) (tag n) = alike_self q
  composite_alike types (array q l) (function g) = alike_self q
  composite_alike types (tag i) void = refl
  composite_alike types (tag i) (int k) = refl
  composite_alike types (tag i) (pointer r) = refl
  composite_alike types (tag i) (array r n) = refl
  composite_alike types (tag i) (tag n) = refl
  composite_alike types (tag i) (function g) = refl
  composite_alike types (function f) void = refl
  composite_alike types (function f) (int k) = refl
  composite_alike types (function f) (pointer r) = refl
  composite_alike types (function f) (array r n) = refl
  composite_alike types (function f) (tag n) = refl
  composite_alike types (function f) (function g) = refl

tag_sized : (types : TypesTy) (i n : ℕ) → is_some (layout_at types i) ≡ true → is_some (layout_at types (joined_tag types i n)) ≡ true
tag_sized types i n h = rw h h

mutual
  composite_sized_in : (types : TypesTy) (q r : QTy) → is_sized_in types q ≡ true → is_sized_in types (composite_of types q r) ≡ true
  composite_sized_in types (qual t c v) (qual u d w) h = composite_sized types t u h

  composite_sized : (types : TypesTy) (t u : Ty) → is_sized types t ≡ true → is_sized types (composite_ty types t u) ≡ true
  composite_sized types void u h = absurd (let x : false ≡ true = h in cc)
  composite_sized types (int k) u h = refl
  composite_sized types (pointer q) void h = refl
  composite_sized types (pointer q) (int k) h = refl
  composite_sized types (pointer q) (pointer r) h = refl
  composite_sized types (pointer q) (array r n) h = refl
  composite_sized types (pointer q) (tag n) h = refl
  composite_sized types (pointer q) (function g) h = refl
  composite_sized types (array q None) u h = absurd (let x : false ≡ true = h in cc)
  composite_sized types (array q (Some l)) void h = h
  composite_sized types (array q (Some l)) (int k) h = h
  composite_sized types (array q (Some l)) (pointer r) h = h
  composite_sized types (array q (Some l)) (array r n) h = composite_sized_in types q r h
  composite_sized types (array q (Some l)) (tag n) h = h
  composite_sized types (array q (Some l)) (function g) h = h
  composite_sized types (tag i) void h = h
  composite_sized types (tag i) (int k) h = h
  composite_sized types (tag i) (pointer r) h = h
  composite_sized types (tag i) (array r n) h = h
  composite_sized types (tag i) (tag n) h = tag_sized types i n h
  composite_sized types (tag i) (function g) h = h
  composite_sized types (function f) u h = absurd (let x : false ≡ true = h in cc)

composite_elements : (types : TypesTy) (t u : Ty) → has_elements types t ≡ true → has_elements types (composite_ty types t u) ≡ true
composite_elements types void u h = absurd (let x : false ≡ true = h in cc)
composite_elements types (int k) u h = refl
composite_elements types (pointer q) void h = refl
composite_elements types (pointer q) (int k) h = refl
composite_elements types (pointer q) (pointer r) h = refl
composite_elements types (pointer q) (array r n) h = refl
composite_elements types (pointer q) (tag n) h = refl
composite_elements types (pointer q) (function g) h = refl
composite_elements types (array q l) void h = h
composite_elements types (array q l) (int k) h = h
composite_elements types (array q l) (pointer r) h = h
composite_elements types (array q l) (array r n) h = composite_sized_in types q r h
composite_elements types (array q l) (tag n) h = h
composite_elements types (array q l) (function g) h = h
composite_elements types (tag i) void h = h
composite_elements types (tag i) (int k) h = h
composite_elements types (tag i) (pointer r) h = h
composite_elements types (tag i) (array r n) h = h
composite_elements types (tag i) (tag n) h = tag_sized types i n h
composite_elements types (tag i) (function g) h = h
composite_elements types (function f) u h = absurd (let x : false ≡ true = h in cc)

composite_elements_in : (types : TypesTy) (q r : QTy) → has_elements types (type_in q) ≡ true → has_elements types (type_in (composite_of types q r)) ≡ true
composite_elements_in types (qual t c v) (qual u d w) h = composite_elements types t u h

-- ---- two compatible tags of one unit are one

tag_unit : (ts : List TagTy) (i : ℕ) (t : TagTy) → AreTags 1 ts → slice_get ts i ≡ Some t → t.unit ≡ 0
tag_unit [] i t w h = absurd (let x : None ≡ Some t = h in cc)
tag_unit (x ∷ ts) zero t w h = subst (λ (y : TagTy). y.unit ≡ 0) (let z : x ≡ t = cc in z) (omega (arith, w.0))
tag_unit (x ∷ ts) (suc i) t w h = tag_unit ts i t w.2 h

none_meet : (n : ℕ) (types : TypesTy) (a b : Option TagTy) → ((t : TagTy) → a ≡ Some t → t.unit ≡ 0) → ((t : TagTy) → b ≡ Some t → t.unit ≡ 0) → each_in (agrees types n) (tags_meet [] a b) ≡ true → ⊥
none_meet n types None b f g h = absurd (let x : false ≡ true = h in cc)
none_meet n types (Some a) None f g h = absurd (let x : false ≡ true = h in cc)
none_meet n types (Some a) (Some b) f g h =
    let same : (a.unit == b.unit) ≡ true = rw (f a refl, g b refl) refl in
    absurd (let x : false ≡ true = rw same at h in cc)

tags_same : (types : TypesTy) (n i j : ℕ) → AreTags 1 types.tags → agrees types (suc n) (i, j) ≡ true → i ≡ j
tags_same types n i j w h = tested (i == j) refl
  where
    tested : (b : Bool) → (i == j) ≡ b → i ≡ j
    tested true x = equal_is i j x
    tested false x = absurd (none_meet n types (slice_get types.tags i) (slice_get types.tags j) (λ t g. tag_unit types.tags i t w g) (λ t g. tag_unit types.tags j t w g) (rw x at h))

joined_same : (types : TypesTy) (i : ℕ) → joined_tag types i i ≡ i
joined_same types i = tested (is_some (layout_at types i)) refl
  where
    tested : (b : Bool) → is_some (layout_at types i) ≡ b → joined_tag types i i ≡ i
    tested true x = rw x refl
    tested false x = rw x refl

within_first : (types : TypesTy) (n : ℕ) (p : ℕ × ℕ) → each (agrees types n) (p ∷ []) ≡ true → agrees types n p ≡ true
within_first types n p h = tested (agrees types n p) refl
  where
    tested : (b : Bool) → agrees types n p ≡ b → agrees types n p ≡ true
    tested true x = x
    tested false x = absurd (let y : false ≡ true = rw x at h in cc)

tags_within : (types : TypesTy) (n i j : ℕ) (b : Bool) → AreTags 1 types.tags → each_in (agrees types (suc n)) (if b then Some ((i, j) ∷ []) else None) ≡ true → i ≡ j
tags_within types n i j true w h = tags_same types n i j w (within_first types (suc n) (i, j) h)
tags_within types n i j false w h = absurd (let x : false ≡ true = h in cc)

within_tag : (types : TypesTy) (n : ℕ) (q r : QTy) (k : ℕ) → AreTags 1 types.tags → agree_within types (suc n) q r ≡ true → type_in q ≡ tag k → type_in (composite_of types q r) ≡ tag k
within_tag types n (qual void c v) (qual u d x) k w h g = cc
within_tag types n (qual (int j) c v) (qual u d x) k w h g = cc
within_tag types n (qual (pointer q) c v) (qual u d x) k w h g = cc
within_tag types n (qual (array q m) c v) (qual u d x) k w h g = cc
within_tag types n (qual (function f) c v) (qual u d x) k w h g = cc
within_tag types n (qual (tag i) c v) (qual void d x) k w h g = g
within_tag types n (qual (tag i) c v) (qual (int j) d x) k w h g = g
within_tag types n (qual (tag i) c v) (qual (pointer q) d x) k w h g = g
within_tag types n (qual (tag i) c v) (qual (array q m) d x) k w h g = g
within_tag types n (qual (tag i) c v) (qual (function f) d x) k w h g = g
within_tag types n (qual (tag i) c v) (qual (tag j) d x) k w h g =
    let e : i ≡ j = tags_within types n i j (same_bool c d && same_bool v x) w h in
    subst (λ (m : ℕ). tag (joined_tag types i m) ≡ tag k) e (ap tag (joined_same types i) ∙ g)

composite_tag : (types : TypesTy) (q r : QTy) (k : ℕ) → AreTags 1 types.tags → are_compatible types q r ≡ true → type_in q ≡ tag k → type_in (composite_of types q r) ≡ tag k
composite_tag types q r k w h g = within_tag types 18446744073709551615 q r k w h g

-- ---- functions

func_again_keeps : (s : ScopeTy) (n : Name) (f : Fn) (shared : Bool) (p : Pos) (a : Meaning) (x : Entity × ScopeTy) → IsScope s → func_again s n f shared p a ≡ Ok x → Keeps s x.1
func_again_keeps s n f shared p (m.Func i) x w h =
    let (g, hg, r) = bind_ok (func_type_in s.unit.types f shared p (slice_get s.unit.funcs i)) (λ g. Ok (e.Func i, name_bound (func_redeclared s i g) n (m.Func i))) x h in
    let k = func_redeclared_keeps s i g w in
    subst (λ (y : Entity × ScopeTy). Keeps s y.1) (ok_is _ _ r) (keeps_on s (func_redeclared s i g) (name_bound (func_redeclared s i g) n (m.Func i)) k (name_keeps (func_redeclared s i g) n (m.Func i) k.scope tt))
func_again_keeps s n f shared p (m.Object i) x w h = absurd (not_ok _ _ h)
func_again_keeps s n f shared p (m.Typedef i) x w h = absurd (not_ok _ _ h)
func_again_keeps s n f shared p (m.Enumerator z) x w h = absurd (not_ok _ _ h)
func_again_keeps s n f shared p (m.Tag i) x w h = absurd (not_ok _ _ h)
func_again_keeps s n f shared p m.Enumeration x w h = absurd (not_ok _ _ h)

func_linked_keeps : (s : ScopeTy) (n : Name) (f : Fn) (shared : Bool) (p : Pos) (b : Option Bound) (x : Entity × ScopeTy) → IsScope s → func_linked s n f shared p b ≡ Ok x → Keeps s x.1
func_linked_keeps s n f shared p None x w h =
    let k = func_added_keeps s n f shared w in
    let u = with_funcs s (s.unit.funcs ++ new_func n f shared ∷ []) in
    let i = length s.unit.funcs in
    subst (λ (y : Entity × ScopeTy). Keeps s y.1) (ok_is _ _ h) (keeps_on s u (link_bound u n (m.Func i)) k (link_keeps u n (m.Func i) k.scope tt))
func_linked_keeps s n f shared p (Some b) x w h = func_again_keeps s n f shared p b.meaning x w h

pub func_declared_keeps : (s : ScopeTy) (n : Name) (f : Fn) (storage : Option Storage) (p : Pos) (x : Entity × ScopeTy) → IsScope s → func_declared s n f storage p ≡ Ok x → Keeps s x.1
func_declared_keeps s n f storage p x w h =
    let (shared, hs, h1) = bind_ok (func_linkage storage s.block (meaning_shared s (linked s n)) p) (λ shared. unless (has_clash s n) p >>= λ own. func_linked s n f shared p (found s.links n)) x h in
    let (own, ho, h2) = bind_ok (unless (has_clash s n) p) (λ own. func_linked s n f shared p (found s.links n)) x h1 in
    func_linked_keeps s n f shared p (found s.links n) x w h2

-- ---- objects

size_elements : (types : TypesTy) (p : Pos) (t : Ty) (k : ℕ) → needs_size types p t ≡ Ok k → has_elements types t ≡ true
size_elements types p void k h = has_size types p void k h
size_elements types p (int j) k h = refl
size_elements types p (pointer q) k h = refl
size_elements types p (array (qual t c v) None) k h = has_size types p t k h
size_elements types p (array q (Some n)) k h = has_size types p (array q (Some n)) k h
size_elements types p (tag i) k h = has_size types p (tag i) k h
size_elements types p (function f) k h = has_size types p (function f) k h

-- classes of objects with linkage that a declaration alone gives
abbrev is_linked : Class → Bool
is_linked c.Tentative = true
is_linked c.Declared = true
is_linked c.Static = true
is_linked _ = false

-- a type and a class that are declared
placed_by : (types : TypesTy) (p : Pos) (t : QTy) (class : Class) (k : ℕ) → is_linked class ≡ true → needs_size_if (is_shared class) types p (type_in t) ≡ Ok k → HasPlace types t class
placed_by types p t c.External k l h = absurd (let x : false ≡ true = l in cc)
placed_by types p t c.Tentative k l h = tt
placed_by types p t c.Declared k l h = tt
placed_by types p t c.Static k l h = size_elements types p (type_in t) k h
placed_by types p t c.Auto k l h = absurd (let x : false ≡ true = l in cc)
placed_by types p t c.Register k l h = absurd (let x : false ≡ true = l in cc)
placed_by types p t c.Fixed k l h = absurd (let x : false ≡ true = l in cc)

own_placed : (types : TypesTy) (p : Pos) (t : QTy) (class : Class) (k : ℕ) → needs_size types p (type_in t) ≡ Ok k → HasPlace types t class
own_placed types p t c.External k h = size_elements types p (type_in t) k h
own_placed types p t c.Tentative k h = tt
own_placed types p t c.Declared k h = tt
own_placed types p t c.Static k h = size_elements types p (type_in t) k h
own_placed types p t c.Auto k h = size_elements types p (type_in t) k h
own_placed types p t c.Register k h = size_elements types p (type_in t) k h
own_placed types p t c.Fixed k h = size_elements types p (type_in t) k h

own_declared_keeps : (s : ScopeTy) (n : Name) (t : QTy) (class : Class) (p : Pos) (x : Entity × ScopeTy) → IsScope s → own_declared s n t class p ≡ Ok x → Keeps s x.1
own_declared_keeps s n t class p x w h =
    let u = with_objects s (s.unit.objects ++ new_object (Some n) t class ∷ []) in
    let i = length s.unit.objects in
    let (first, hf, h1) = bind_ok (unless (is_some (found_in s.names n s.block)) p) (λ first. needs_size s.unit.types p (type_in t) >>= λ size. Ok (e.Object i, name_bound u n (m.Object i))) x h in
    let (k, hk, h2) = bind_ok (needs_size s.unit.types p (type_in t)) (λ size. Ok (e.Object i, name_bound u n (m.Object i))) x h1 in
    let g = object_added_keeps s (Some n) t class w (own_placed s.unit.types p t class k hk) in
    subst (λ (y : Entity × ScopeTy). Keeps s y.1) (ok_is _ _ h2) (keeps_on s u (name_bound u n (m.Object i)) g (name_keeps u n (m.Object i) g.scope tt))

-- what a further declaration makes of an object
record IsAgain (types : TypesTy) (t : QTy) (class : Class) (found : Option ObjectTy) (x : QTy × Class) : Type 0 where
  object : ObjectTy
  is_found : found ≡ Some object
  shares : is_shared object.class ≡ is_shared class
  agree : are_compatible types object.ty t ≡ true
  ty : x.0 ≡ composite_of types object.ty t
  kind : x.1 ≡ merged object.class class

again_is : (types : TypesTy) (t : QTy) (class : Class) (p : Pos) (found : Option ObjectTy) (x : QTy × Class) → object_type_in types t class p found ≡ Ok x → IsAgain types t class found x
again_is types t class p None x h = absurd (not_ok _ _ h)
again_is types t class p (Some o) x h = tested (same_bool (is_shared o.class) (is_shared class)) (are_compatible types o.ty t) refl refl
  where
    tested : (a b : Bool) → same_bool (is_shared o.class) (is_shared class) ≡ a → are_compatible types o.ty t ≡ b → IsAgain types t class (Some o) x
    tested false b y z = absurd (not_ok _ _ (rw y at h))
    tested true false y z = absurd (not_ok _ _ (rw (y, z) at h))
    tested true true y z =
        let same : ◌≡◌ {A = QTy × Class} (composite_of types o.ty t, merged o.class class) x = ok_is _ _ (rw (y, z) at h) in
        record { object = o; is_found = refl; shares = same_flag (is_shared o.class) (is_shared class) y; agree = z; ty = ap (λ (v : QTy × Class). v.0) (sym same); kind = ap (λ (v : QTy × Class). v.1) (sym same) }

merged_placed : (types : TypesTy) (o t : QTy) (old class : Class) → is_shared old ≡ is_shared class → is_linked class ≡ true → HasPlace types o old → HasPlace types (composite_of types o t) (merged old class)
merged_placed types o t c.External class s l w = composite_elements_in types o t w
merged_placed types o t c.Tentative class s l w = tt
merged_placed types o t c.Declared c.External s l w = absurd (let x : false ≡ true = l in cc)
merged_placed types o t c.Declared c.Tentative s l w = tt
merged_placed types o t c.Declared c.Declared s l w = tt
merged_placed types o t c.Declared c.Static s l w = absurd (let x : true ≡ false = s in cc)
merged_placed types o t c.Declared c.Auto s l w = absurd (let x : false ≡ true = l in cc)
merged_placed types o t c.Declared c.Register s l w = absurd (let x : false ≡ true = l in cc)
merged_placed types o t c.Declared c.Fixed s l w = absurd (let x : false ≡ true = l in cc)
merged_placed types o t c.Static class s l w = composite_elements_in types o t w
merged_placed types o t c.Auto class s l w = composite_elements_in types o t w
merged_placed types o t c.Register class s l w = composite_elements_in types o t w
merged_placed types o t c.Fixed class s l w = composite_elements_in types o t w

merged_register : (old class : Class) → is_linked class ≡ true → is_register (merged old class) ≡ is_register old
merged_register c.External class l = refl
merged_register c.Tentative class l = refl
merged_register c.Declared c.External l = refl
merged_register c.Declared c.Tentative l = refl
merged_register c.Declared c.Declared l = refl
merged_register c.Declared c.Static l = refl
merged_register c.Declared c.Auto l = refl
merged_register c.Declared c.Register l = absurd (let x : false ≡ true = l in cc)
merged_register c.Declared c.Fixed l = refl
merged_register c.Static class l = refl
merged_register c.Auto class l = refl
merged_register c.Register class l = refl
merged_register c.Fixed class l = refl

merged_automatic : (old class : Class) → is_automatic old ≡ true → merged old class ≡ old
merged_automatic c.External class h = refl
merged_automatic c.Tentative class h = refl
merged_automatic c.Declared class h = absurd (let x : false ≡ true = h in cc)
merged_automatic c.Static class h = refl
merged_automatic c.Auto class h = refl
merged_automatic c.Register class h = refl
merged_automatic c.Fixed class h = refl

-- an object of a scope is placed
placed_at : (types : TypesTy) (os : List ObjectTy) (i : ℕ) (o : ObjectTy) → slice_get os i ≡ Some o → ArePlaced types os → HasPlace types o.ty o.class
placed_at types [] i o h w = absurd (let z : None ≡ Some o = h in cc)
placed_at types (x ∷ os) zero o h w = subst (λ (y : ObjectTy). HasPlace types y.ty y.class) (let z : x ≡ o = cc in z) w.0
placed_at types (x ∷ os) (suc i) o h w = placed_at types os i o h w.1

object_again_keeps : (s : ScopeTy) (n : Name) (t : QTy) (class : Class) (p : Pos) (a : Meaning) (x : Entity × ScopeTy) → IsScope s → is_linked class ≡ true → object_again s n t class p a ≡ Ok x → Keeps s x.1
object_again_keeps s n t class p (m.Object i) x w l h =
    let (y, hy, r) = bind_ok (object_type_in s.unit.types t class p (slice_get s.unit.objects i)) (λ y. Ok (e.Object i, name_bound (object_redeclared s i y.0 y.1) n (m.Object i))) x h in
    let b = again_is s.unit.types t class p (slice_get s.unit.objects i) y hy in
    let o = b.object in
    let placed : HasPlace s.unit.types (composite_of s.unit.types o.ty t) (merged o.class class) = merged_placed s.unit.types o.ty t o.class class b.shares l (placed_at s.unit.types s.unit.objects i o b.is_found w.objects) in
    let v : HasPlace s.unit.types y.0 y.1 = subst (λ (q : QTy). HasPlace s.unit.types q y.1) (sym b.ty) (subst (HasPlace s.unit.types (composite_of s.unit.types o.ty t)) (sym b.kind) placed) in
    let later : IsLater o (record { name = o.name; ty = y.0; class = y.1; init = o.init }) = record { alike = subst (λ (q : QTy). are_alike o.ty q ≡ true) (sym b.ty) (composite_alike_in s.unit.types o.ty t); register = ap is_register b.kind ∙ merged_register o.class class l; tags = λ k g. subst (λ (q : QTy). type_in q ≡ tag k) (sym b.ty) (composite_tag s.unit.types o.ty t k (subst (λ (m : ℕ). AreTags m s.unit.types.tags) w.one_unit w.types.tags) b.agree g); name = refl; automatic = λ a. b.kind ∙ merged_automatic o.class class a } in
    let g = redeclared_keeps s i o y.0 y.1 w b.is_found later v in
    let u = object_redeclared s i y.0 y.1 in
    subst (λ (z : Entity × ScopeTy). Keeps s z.1) (ok_is _ _ r) (keeps_on s u (name_bound u n (m.Object i)) g (name_keeps u n (m.Object i) g.scope tt))
object_again_keeps s n t class p (m.Func i) x w l h = absurd (not_ok _ _ h)
object_again_keeps s n t class p (m.Typedef i) x w l h = absurd (not_ok _ _ h)
object_again_keeps s n t class p (m.Enumerator z) x w l h = absurd (not_ok _ _ h)
object_again_keeps s n t class p (m.Tag i) x w l h = absurd (not_ok _ _ h)
object_again_keeps s n t class p m.Enumeration x w l h = absurd (not_ok _ _ h)

object_linked_keeps : (s : ScopeTy) (n : Name) (t : QTy) (class : Class) (p : Pos) (b : Option Bound) (x : Entity × ScopeTy) → IsScope s → is_linked class ≡ true → HasPlace s.unit.types t class → object_linked s n t class p b ≡ Ok x → Keeps s x.1
object_linked_keeps s n t class p None x w l v h =
    let u = with_objects s (s.unit.objects ++ new_object (Some n) t class ∷ []) in
    let i = length s.unit.objects in
    let g = object_added_keeps s (Some n) t class w v in
    subst (λ (y : Entity × ScopeTy). Keeps s y.1) (ok_is _ _ h) (keeps_on s u (link_bound u n (m.Object i)) g (link_keeps u n (m.Object i) g.scope tt))
object_linked_keeps s n t class p (Some b) x w l v h = object_again_keeps s n t class p b.meaning x w l h

shared_declared_keeps : (s : ScopeTy) (n : Name) (t : QTy) (class : Class) (p : Pos) (x : Entity × ScopeTy) → IsScope s → is_linked class ≡ true → shared_declared s n t class p ≡ Ok x → Keeps s x.1
shared_declared_keeps s n t class p x w l h =
    let (own, ho, h1) = bind_ok (unless (has_clash s n) p) (λ own. needs_size_if (is_shared class) s.unit.types p (type_in t) >>= λ size. object_linked s n t class p (found s.links n)) x h in
    let (k, hk, h2) = bind_ok (needs_size_if (is_shared class) s.unit.types p (type_in t)) (λ size. object_linked s n t class p (found s.links n)) x h1 in
    object_linked_keeps s n t class p (found s.links n) x w l (placed_by s.unit.types p t class k l hk) h2

pub object_declared_keeps : (s : ScopeTy) (n : Name) (t : QTy) (storage : Option Storage) (p : Pos) (x : Entity × ScopeTy) → IsScope s → object_declared s n t storage p ≡ Ok x → Keeps s x.1
object_declared_keeps s n t None p x w h = tested (s.block == 0) refl
  where
    tested : (b : Bool) → (s.block == 0) ≡ b → Keeps s x.1
    tested true y = shared_declared_keeps s n t c.Tentative p x w refl (rw y at h)
    tested false y = own_declared_keeps s n t c.Auto p x w (rw y at h)
object_declared_keeps s n t (Some storages.Extern) p x w h = tested (meaning_shared s (linked s n)) refl
  where
    tested : (b : Bool) → meaning_shared s (linked s n) ≡ b → Keeps s x.1
    tested true y = shared_declared_keeps s n t c.Declared p x w refl (rw y at h)
    tested false y = shared_declared_keeps s n t c.Static p x w refl (rw y at h)
object_declared_keeps s n t (Some storages.Static) p x w h = tested (s.block == 0) refl
  where
    tested : (b : Bool) → (s.block == 0) ≡ b → Keeps s x.1
    tested true y = shared_declared_keeps s n t c.Static p x w refl (rw y at h)
    tested false y = own_declared_keeps s n t c.Static p x w (rw y at h)
object_declared_keeps s n t (Some storages.Auto) p x w h = tested (s.block == 0) refl
  where
    tested : (b : Bool) → (s.block == 0) ≡ b → Keeps s x.1
    tested true y = absurd (not_ok _ _ (rw y at h))
    tested false y = own_declared_keeps s n t c.Auto p x w (rw y at h)
object_declared_keeps s n t (Some storages.Register) p x w h = tested (s.block == 0) refl
  where
    tested : (b : Bool) → (s.block == 0) ≡ b → Keeps s x.1
    tested true y = absurd (not_ok _ _ (rw y at h))
    tested false y = own_declared_keeps s n t c.Register p x w (rw y at h)
object_declared_keeps s n t (Some storages.Typedef) p x w h = absurd (not_ok _ _ h)

-- ---- the other names

pub typedef_declared_keeps : (s : ScopeTy) (n : Name) (t : QTy) (p : Pos) (x : Entity × ScopeTy) → IsScope s → typedef_declared s n t p ≡ Ok x → Keeps s x.1
typedef_declared_keeps s n t p x w h =
    let u : ScopeTy = record s { typedefs = s.typedefs ++ t ∷ [] } in
    let i = length s.typedefs in
    let (first, hf, h1) = bind_ok (unless (is_some (found_in s.names n s.block)) p) (λ first. Ok (e.Typedef, name_bound u n (m.Typedef i))) x h in
    subst (λ (y : Entity × ScopeTy). Keeps s y.1) (ok_is _ _ h1) (renamed s (name_bound u n (m.Typedef i)) refl w (bound_names s.names n (m.Typedef i) s.block w.names tt))

pub enumerator_declared_keeps : (s : ScopeTy) (n : Name) (z : ℤ) (p : Pos) (u : ScopeTy) → IsScope s → InRange Int z → enumerator_declared s n z p ≡ Ok u → Keeps s u
enumerator_declared_keeps s n z p u w v h =
    let (first, hf, h1) = bind_ok (unless (is_some (found_in s.names n s.block)) p) (λ first. Ok (name_bound s n (m.Enumerator z))) u h in
    subst (Keeps s) (ok_is _ _ h1) (name_keeps s n (m.Enumerator z) w v)

entity_declared_keeps : (s : ScopeTy) (n : Name) (t : QTy) (ty : Ty) (storage : Option Storage) (p : Pos) (x : Entity × ScopeTy) → IsScope s → entity_declared s n t ty storage p ≡ Ok x → Keeps s x.1
entity_declared_keeps s n t void storage p x w h = absurd (not_ok _ _ h)
entity_declared_keeps s n t (int k) storage p x w h = object_declared_keeps s n t storage p x w h
entity_declared_keeps s n t (pointer q) storage p x w h = object_declared_keeps s n t storage p x w h
entity_declared_keeps s n t (array q k) storage p x w h = object_declared_keeps s n t storage p x w h
entity_declared_keeps s n t (tag i) storage p x w h = object_declared_keeps s n t storage p x w h
entity_declared_keeps s n t (function f) storage p x w h = func_declared_keeps s n f storage p x w h

pub declared_keeps : (s : ScopeTy) (n : Name) (t : QTy) (storage : Option Storage) (p : Pos) (x : Entity × ScopeTy) → IsScope s → declared s n t storage p ≡ Ok x → Keeps s x.1
declared_keeps s n t storage p x w h = tested (is_typedef storage) refl
  where
    tested : (b : Bool) → is_typedef storage ≡ b → Keeps s x.1
    tested true y = typedef_declared_keeps s n t p x w (rw y at h)
    tested false y = entity_declared_keeps s n t (type_in t) storage p x w (rw y at h)
