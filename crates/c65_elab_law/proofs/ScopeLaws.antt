-- What enters names and items into a scope keeps what holds of it.
use Rattle.std.proofs.Common.{◌≡◌, ℕ, zero, suc, Bool, true, false, Option, Some, None, refl, sym, ap, ◌∙◌, subst, List, [], ◌∷◌, ◌++◌, length, take}
use Rattle.std.specs.Prelude.{◌==◌, slice_get}
use Rattle.c65_base.specs.declared.names.Name.{Name}
use Rattle.c65_ctype.specs.Trees.{Ty, void, int, pointer, array, tag, function, QTy, type_in, Fn, TypesTy, LayoutTy}
use Rattle.c65_ctype.specs.Tables.{IsTable, layout_at}
use Rattle.c65_csem.specs.declared.items.Class.{Class}
use Rattle.c65_csem.specs.declared.items.Class.TheVariants as c
use Rattle.c65_csem.specs.Trees.{UnitTy, ObjectTy, FuncTy}
use Rattle.c65_elab_scope.specs.declared.meaning.Bound.{Bound}
use Rattle.c65_elab_scope.specs.declared.meaning.Meaning.{Meaning}
use Rattle.c65_elab_scope.specs.declared.table.Hidden.{Hidden}
use Rattle.c65_elab_scope.specs.Tables.{TableTy, flat, found, grown, replaced, bound, closed_in, closed_table}
use Rattle.c65_elab_scope.specs.Scopes.{ScopeTy, closed_at, closed, name_bound}
use Rattle.c65_elab_scope.specs.Parts.{with_objects, with_funcs, new_object, new_func, with_object, with_func, object_redeclared, func_redeclared, fewer_objects}
use Rattle.c65_elab_scope.specs.Declaring.{with_types, link_bound}
use Rattle.c65_elab_law.specs.Growth.{IsLater, Grows}
use Rattle.c65_elab_law.specs.Scoped.{IsMeant, IsBound, AreBound, AreHidden, AreNames, has_elements, HasPlace, ArePlaced, AreBare, IsScope, Keeps}
use Rattle.c65_elab_law.proofs.GrowthLaws.{alike_self, grows_self, grows_on, sized_stays, sized_stays_in}

pub keeps_self : (s : ScopeTy) → IsScope s → Keeps s s
keeps_self s w = record { scope = w; grown = grows_self s.unit }

pub keeps_on : (s u v : ScopeTy) → Keeps s u → Keeps u v → Keeps s v
keeps_on s u v g h = record { scope = h.scope; grown = grows_on s.unit u.unit v.unit g.grown h.grown }

-- ---- names

grown_bound : (xs : List (Option Bound)) (n : ℕ) → AreBound xs → AreBound (grown xs n)
grown_bound [] zero w = (tt, tt)
grown_bound [] (suc n) w = (tt, grown_bound [] n tt)
grown_bound (x ∷ xs) zero w = w
grown_bound (x ∷ xs) (suc n) w = (w.0, grown_bound xs n w.1)

replaced_bound : (xs : List (Option Bound)) (n : ℕ) (b : Option Bound) → AreBound xs → IsBound b → AreBound (replaced xs n b)
replaced_bound [] n b w v = tt
replaced_bound (x ∷ xs) zero b w v = (v, w.1)
replaced_bound (x ∷ xs) (suc n) b w v = (w.0, replaced_bound xs n b w.1 v)

got_bound : (xs : List (Option Bound)) (n : ℕ) → AreBound xs → IsBound (flat (slice_get xs n))
got_bound [] n w = tt
got_bound (x ∷ xs) zero w = w.0
got_bound (x ∷ xs) (suc n) w = got_bound xs n w.1

pub found_bound : (t : TableTy) (n : Name) → AreNames t → IsBound (found t n)
found_bound t n w = got_bound t.current n.0 w.current

pub bound_names : (t : TableTy) (n : Name) (a : Meaning) (block : ℕ) → AreNames t → IsMeant a → AreNames (bound t n a block)
bound_names t n a block w v = record { current = replaced_bound (grown t.current n.0) n.0 (Some (record { meaning = a; block = block })) (grown_bound t.current n.0 w.current) v; hidden = (found_bound t n w, w.hidden) }

closed_names : (block : ℕ) (xs : List (Option Bound)) (hs : List Hidden) → AreBound xs → AreHidden hs → AreNames (closed_in block xs hs)
closed_names block xs [] w v = record { current = w; hidden = tt }
closed_names block xs (h ∷ hs) w v = tested (closed_names block (replaced xs h.name.0 h.hides) hs (replaced_bound xs h.name.0 h.hides w v.0) v.1) (h.block == block) refl
  where
    tested : AreNames (closed_in block (replaced xs h.name.0 h.hides) hs) → (b : Bool) → (h.block == block) ≡ b → AreNames (closed_in block xs (h ∷ hs))
    tested rest true x = rw x rest
    tested rest false x = rw x (record { current = w; hidden = v })

pub closed_table_names : (block : ℕ) (t : TableTy) → AreNames t → AreNames (closed_table block t)
closed_table_names block t w = closed_names block t.current t.hidden w.current w.hidden

-- a scope with other names, and the same unit
pub renamed : (s u : ScopeTy) → u.unit ≡ s.unit → IsScope s → AreNames u.names → Keeps s u
renamed s u same w v = record { scope = record { types = subst (λ (x : UnitTy). IsTable x.types) (sym same) w.types; one_unit = ap (λ (x : UnitTy). x.types.units) same ∙ w.one_unit; names = v; objects = subst (λ (x : UnitTy). ArePlaced x.types x.objects) (sym same) w.objects; funcs = subst (λ (x : UnitTy). AreBare x.funcs) (sym same) w.funcs }; grown = subst (λ (x : UnitTy). Grows s.unit x) (sym same) (grows_self s.unit) }

pub name_keeps : (s : ScopeTy) (n : Name) (a : Meaning) → IsScope s → IsMeant a → Keeps s (name_bound s n a)
name_keeps s n a w v = renamed s (name_bound s n a) refl w (bound_names s.names n a s.block w.names v)

pub link_keeps : (s : ScopeTy) (n : Name) (a : Meaning) → IsScope s → IsMeant a → Keeps s (link_bound s n a)
link_keeps s n a w v = renamed s (link_bound s n a) refl w (bound_names s.names n a s.block w.names v)

closed_at_keeps : (n : ℕ) (s : ScopeTy) → IsScope s → Keeps s (closed_at n s)
closed_at_keeps zero s w = keeps_self s w
closed_at_keeps (suc n) s w = renamed s (closed_at (suc n) s) refl w (closed_table_names (suc n) s.names w.names)

pub closed_keeps : (s : ScopeTy) → IsScope s → Keeps s (closed s)
closed_keeps s w = closed_at_keeps s.block s w

-- ---- lists

pub get_more : {A : Type 0} (xs ys : List A) (i : ℕ) (x : A) → slice_get xs i ≡ Some x → slice_get (xs ++ ys) i ≡ Some x
get_more [] ys i x h = absurd (let z : None ≡ Some x = h in cc)
get_more (y ∷ xs) ys zero x h = h
get_more (y ∷ xs) ys (suc i) x h = get_more xs ys i x h

pub get_taken : {A B : Type 0} (xs : List A) (ys : List B) (i : ℕ) (x : A) (y : B) → slice_get xs i ≡ Some x → slice_get ys i ≡ Some y → slice_get (take (length xs) ys) i ≡ Some y
get_taken [] ys i x y h g = absurd (let z : None ≡ Some x = h in cc)
get_taken (a ∷ xs) [] i x y h g = absurd (let z : None ≡ Some y = g in cc)
get_taken (a ∷ xs) (b ∷ ys) zero x y h g = g
get_taken (a ∷ xs) (b ∷ ys) (suc i) x y h g = get_taken xs ys i x y h g

placed_more : (types : TypesTy) (xs ys : List ObjectTy) → ArePlaced types xs → ArePlaced types ys → ArePlaced types (xs ++ ys)
placed_more types [] ys w v = v
placed_more types (x ∷ xs) ys w v = (w.0, placed_more types xs ys w.1 v)

placed_taken : (types : TypesTy) (n : ℕ) (xs : List ObjectTy) → ArePlaced types xs → ArePlaced types (take n xs)
placed_taken types zero xs w = tt
placed_taken types (suc n) [] w = tt
placed_taken types (suc n) (x ∷ xs) w = (w.0, placed_taken types n xs w.1)

bare_more : (xs ys : List FuncTy) → AreBare xs → AreBare ys → AreBare (xs ++ ys)
bare_more [] ys w v = v
bare_more (x ∷ xs) ys w v = (w.0, bare_more xs ys w.1 v)

-- ---- objects

elements_stay : (u v : UnitTy) → Grows u v → (t : Ty) → has_elements u.types t ≡ true → has_elements v.types t ≡ true
elements_stay u v g void h = h
elements_stay u v g (int k) h = refl
elements_stay u v g (pointer q) h = refl
elements_stay u v g (array q n) h = sized_stays_in u v g q h
elements_stay u v g (tag i) h = sized_stays u v g (tag i) h
elements_stay u v g (function f) h = h

place_stays : (u v : UnitTy) → Grows u v → (t : QTy) (class : Class) → HasPlace u.types t class → HasPlace v.types t class
place_stays u v g t c.External w = elements_stay u v g (type_in t) w
place_stays u v g t c.Tentative w = tt
place_stays u v g t c.Declared w = tt
place_stays u v g t c.Static w = elements_stay u v g (type_in t) w
place_stays u v g t c.Auto w = elements_stay u v g (type_in t) w
place_stays u v g t c.Register w = elements_stay u v g (type_in t) w
place_stays u v g t c.Fixed w = elements_stay u v g (type_in t) w

pub placed_stay : (u v : UnitTy) → Grows u v → (os : List ObjectTy) → ArePlaced u.types os → ArePlaced v.types os
placed_stay u v g [] w = tt
placed_stay u v g (o ∷ os) w = (place_stays u v g o.ty o.class w.0, placed_stay u v g os w.1)

pub later_self : (o : ObjectTy) → IsLater o o
later_self o = record { alike = alike_self o.ty; register = refl; tags = λ k x. x; name = refl; automatic = λ x. refl }

pub object_added_keeps : (s : ScopeTy) (n : Option Name) (t : QTy) (class : Class) → IsScope s → HasPlace s.unit.types t class → Keeps s (with_objects s (s.unit.objects ++ new_object n t class ∷ []))
object_added_keeps s n t class w v = record {
  scope = record { types = w.types; one_unit = w.one_unit; names = w.names; objects = placed_more s.unit.types s.unit.objects (new_object n t class ∷ []) w.objects (v, tt); funcs = w.funcs };
  grown = record { types = λ tag l h. h; objects = λ i o h. (o, get_more s.unit.objects (new_object n t class ∷ []) i o h, later_self o); literals = λ i bytes h. h; funcs = λ i f h. (f, h) };
}

pub func_added_keeps : (s : ScopeTy) (n : Name) (f : Fn) (external : Bool) → IsScope s → Keeps s (with_funcs s (s.unit.funcs ++ new_func n f external ∷ []))
func_added_keeps s n f external w = record {
  scope = record { types = w.types; one_unit = w.one_unit; names = w.names; objects = w.objects; funcs = bare_more s.unit.funcs (new_func n f external ∷ []) w.funcs (refl, tt) };
  grown = record { types = λ tag l h. h; objects = λ i o h. (o, h, later_self o); literals = λ i bytes h. h; funcs = λ i g h. (g, get_more s.unit.funcs (new_func n f external ∷ []) i g h) };
}

-- objects behind some that stay are forgotten
pub fewer_keeps : (s u : ScopeTy) → Keeps s u → Keeps s (fewer_objects u (length s.unit.objects))
fewer_keeps s u k = record {
  scope = record { types = k.scope.types; one_unit = k.scope.one_unit; names = k.scope.names; objects = placed_taken u.unit.types (length s.unit.objects) u.unit.objects k.scope.objects; funcs = k.scope.funcs };
  grown = record { types = k.grown.types; objects = λ i o h. let x = k.grown.objects i o h in (x.0, get_taken s.unit.objects u.unit.objects i o x.0 h x.1, x.2); literals = k.grown.literals; funcs = k.grown.funcs };
}

-- one object changed
changed_later : (os : List ObjectTy) (i : ℕ) (t : QTy) (class : Class) → ((o : ObjectTy) → slice_get os i ≡ Some o → IsLater o (record { name = o.name; ty = t; class = class; init = o.init })) → (j : ℕ) (o : ObjectTy) → slice_get os j ≡ Some o → (p : ObjectTy) × (slice_get (with_object os i t class) j ≡ Some p) × IsLater o p
changed_later [] i t class f j o h = absurd (let z : None ≡ Some o = h in cc)
changed_later (x ∷ os) zero t class f zero o h = (record { name = x.name; ty = t; class = class; init = x.init }, refl, subst (λ (y : ObjectTy). IsLater y (record { name = x.name; ty = t; class = class; init = x.init })) (let z : x ≡ o = cc in z) (f x refl))
changed_later (x ∷ os) zero t class f (suc j) o h = (o, h, later_self o)
changed_later (x ∷ os) (suc i) t class f zero o h = (o, h, later_self o)
changed_later (x ∷ os) (suc i) t class f (suc j) o h = changed_later os i t class f j o h

changed_placed : (types : TypesTy) (os : List ObjectTy) (i : ℕ) (t : QTy) (class : Class) → ((o : ObjectTy) → slice_get os i ≡ Some o → HasPlace types t class) → ArePlaced types os → ArePlaced types (with_object os i t class)
changed_placed types [] i t class f w = tt
changed_placed types (x ∷ os) zero t class f w = (f x refl, w.1)
changed_placed types (x ∷ os) (suc i) t class f w = (w.0, changed_placed types os i t class f w.1)

pub redeclared_keeps : (s : ScopeTy) (i : ℕ) (o : ObjectTy) (t : QTy) (class : Class) → IsScope s → slice_get s.unit.objects i ≡ Some o → IsLater o (record { name = o.name; ty = t; class = class; init = o.init }) → HasPlace s.unit.types t class → Keeps s (object_redeclared s i t class)
redeclared_keeps s i o t class w h l v = record {
  scope = record { types = w.types; one_unit = w.one_unit; names = w.names; objects = changed_placed s.unit.types s.unit.objects i t class (λ p g. v) w.objects; funcs = w.funcs };
  grown = record { types = λ tag k g. g; objects = changed_later s.unit.objects i t class (λ p g. subst (λ (y : ObjectTy). IsLater y (record { name = y.name; ty = t; class = class; init = y.init })) (same p g) l); literals = λ k bytes g. g; funcs = λ k f g. (f, g) };
}
  where
    same : (p : ObjectTy) → slice_get s.unit.objects i ≡ Some p → o ≡ p
    same p g = let z : ◌≡◌ {A = Option ObjectTy} (Some o) (Some p) = sym h ∙ g in cc

-- one function changed
changed_func : (fs : List FuncTy) (i : ℕ) (g : Fn) (j : ℕ) (f : FuncTy) → slice_get fs j ≡ Some f → (k : FuncTy) × (slice_get (with_func fs i g) j ≡ Some k)
changed_func [] i g j f h = absurd (let z : None ≡ Some f = h in cc)
changed_func (x ∷ fs) zero g zero f h = (record x { ty = g }, refl)
changed_func (x ∷ fs) zero g (suc j) f h = (f, h)
changed_func (x ∷ fs) (suc i) g zero f h = (f, h)
changed_func (x ∷ fs) (suc i) g (suc j) f h = changed_func fs i g j f h

changed_bare : (fs : List FuncTy) (i : ℕ) (g : Fn) → AreBare fs → AreBare (with_func fs i g)
changed_bare [] i g w = tt
changed_bare (x ∷ fs) zero g w = (w.0, w.1)
changed_bare (x ∷ fs) (suc i) g w = (w.0, changed_bare fs i g w.1)

pub func_redeclared_keeps : (s : ScopeTy) (i : ℕ) (g : Fn) → IsScope s → Keeps s (func_redeclared s i g)
func_redeclared_keeps s i g w = record {
  scope = record { types = w.types; one_unit = w.one_unit; names = w.names; objects = w.objects; funcs = changed_bare s.unit.funcs i g w.funcs };
  grown = record { types = λ tag l h. h; objects = λ k o h. (o, h, later_self o); literals = λ k bytes h. h; funcs = changed_func s.unit.funcs i g };
}

-- ---- tags

pub table_keeps : (s : ScopeTy) (types : TypesTy) → IsScope s → IsTable types → types.units ≡ 1 → ((tag : ℕ) (l : LayoutTy) → layout_at s.unit.types tag ≡ Some l → layout_at types tag ≡ Some l) → Keeps s (with_types s types)
table_keeps s types w v one stay =
    let g : Grows s.unit (with_types s types).unit = record { types = stay; objects = λ i o h. (o, h, later_self o); literals = λ i bytes h. h; funcs = λ i f h. (f, h) } in
    record { scope = record { types = v; one_unit = one; names = w.names; objects = placed_stay s.unit (with_types s types).unit g s.unit.objects w.objects; funcs = w.funcs }; grown = g }
