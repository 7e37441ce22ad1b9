-- Elements, members and calls of well typed operands are well typed.
use Rattle.std.proofs.Common.{◌≡◌, ℕ, Bool, true, false, Option, Some, None, Ok, refl, sym, ap, ◌∙◌, subst, List}
use Rattle.std.specs.Prelude.{option_map, slice_get, ◌&&◌}
use Rattle.c65_base.specs.declared.names.Name.{Name}
use Rattle.c65_base.specs.declared.refusal.Pos.{Pos}
use Rattle.c65_base.specs.declared.operators.BinaryOp.TheVariants as ops
use Rattle.c65_ctype.specs.Trees.{Ty, void, int, pointer, array, tag, function, QTy, qual, type_in, MemberTy, LayoutTy}
use Rattle.c65_ctype.specs.Tables.{layout_at}
use Rattle.c65_csem.specs.Trees.{Typed, type_of, UnitTy}
use Rattle.c65_csem.specs.Places.{qualified}
use Rattle.c65_csem.specs.Typed.{IsMember, IsTyped}
use Rattle.c65_elab_convert.specs.Categories.{category_of, is_array, is_spilled}
use Rattle.c65_elab_convert.specs.Access.{index_of, find_from, typed_member, member_type, member_found, member_in_by, member_in, member_of_name}
use Rattle.c65_elab_convert.specs.Unaries.{deref_of}
use Rattle.c65_elab_convert.specs.Binaries.{binary_of}
use Rattle.c65_elab_law.proofs.OperatorLaws.{bind_ok, ok_is, not_ok, binary_typed}
use Rattle.c65_elab_law.proofs.UnaryLaws.{deref_typed}

pub index_typed : (u : UnitTy) (p : Pos) (a b e : Typed) → IsTyped u a → IsTyped u b → index_of u.types p a b ≡ Ok e → IsTyped u e
index_typed u p a b e wa wb h =
    let (x, hx, g) = bind_ok (binary_of u.types p ops.Add a b) (deref_of p) e h in
    deref_typed u p x e (binary_typed u p ops.Add a b x wa wb hx) g

-- the member that was found is one of the structure or union
found_is : (c v : Bool) (ms : List MemberTy) (i : ℕ) (x : ℕ × QTy) → option_map (typed_member c v i) (slice_get ms i) ≡ Some x → (m : MemberTy) × (slice_get ms x.0 ≡ Some m) × (x.1 ≡ qualified c v m.ty)
found_is c v ms i x h = tested (slice_get ms i) refl
  where
    tested : (o : Option MemberTy) → slice_get ms i ≡ o → (m : MemberTy) × (slice_get ms x.0 ≡ Some m) × (x.1 ≡ qualified c v m.ty)
    tested None y = absurd (let z : None ≡ Some x = rw y at h in cc)
    tested (Some m) y =
        let z : ◌≡◌ {A = Option (ℕ × QTy)} (Some (typed_member c v i m)) (Some x) = rw y at h in
        let same : typed_member c v i m ≡ x = cc in
        (m, ap (λ (w : ℕ × QTy). slice_get ms w.0) (sym same) ∙ y, ap (λ (w : ℕ × QTy). w.1) (sym same))

member_is : (u : UnitTy) (t : QTy) (name : Name) (x : ℕ × QTy) → member_type u.types t name ≡ Some x → IsMember u x.1 t x.0
member_is u (qual void c v) name x h = absurd (let z : None ≡ Some x = h in cc)
member_is u (qual (int k) c v) name x h = absurd (let z : None ≡ Some x = h in cc)
member_is u (qual (pointer q) c v) name x h = absurd (let z : None ≡ Some x = h in cc)
member_is u (qual (array q m) c v) name x h = absurd (let z : None ≡ Some x = h in cc)
member_is u (qual (function f) c v) name x h = absurd (let z : None ≡ Some x = h in cc)
member_is u (qual (tag i) c v) name x h = tested (layout_at u.types i) refl
  where
    tested : (l : Option LayoutTy) → layout_at u.types i ≡ l → IsMember u x.1 (qual (tag i) c v) x.0
    tested None y = absurd (let z : None ≡ Some x = rw y at h in cc)
    tested (Some l) y = found (find_from 0 l.members name) refl
      where
        found : (o : Option ℕ) → find_from 0 l.members name ≡ o → IsMember u x.1 (qual (tag i) c v) x.0
        found None w = absurd (let z : None ≡ Some x = rw (y, w) at h in cc)
        found (Some j) w =
            let (m, hm, ht) = found_is c v l.members j x (rw (y, w) at h) in
            (m, rw y hm, ht)

member_found_typed : (u : UnitTy) (p : Pos) (e r : Typed) (name : Name) (o : Option (ℕ × QTy)) → IsTyped u e → member_type u.types (type_of e) name ≡ o → member_found p e o ≡ Ok r → IsTyped u r
member_found_typed u p e r name None w g h = absurd (not_ok _ _ h)
member_found_typed u p e r name (Some x) w g h = tested (is_spilled e && is_array (type_in x.1)) refl
  where
    tested : (b : Bool) → (is_spilled e && is_array (type_in x.1)) ≡ b → IsTyped u r
    tested true y = absurd (not_ok _ _ (rw y at h))
    tested false y = subst (IsTyped u) (ok_is _ _ (rw y at h)) (w, member_is u (type_of e) name x g)

member_in_typed : (u : UnitTy) (p : Pos) (e r : Typed) (name : Name) (t : Ty) → IsTyped u e → member_in_by u.types p (category_of t) e name ≡ Ok r → IsTyped u r
member_in_typed u p e r name void w h = absurd (not_ok _ _ h)
member_in_typed u p e r name (int k) w h = absurd (not_ok _ _ h)
member_in_typed u p e r name (pointer q) w h = absurd (not_ok _ _ h)
member_in_typed u p e r name (array q m) w h = absurd (not_ok _ _ h)
member_in_typed u p e r name (tag i) w h = member_found_typed u p e r name (member_type u.types (type_of e) name) w refl h
member_in_typed u p e r name (function f) w h = absurd (not_ok _ _ h)

pub member_typed : (u : UnitTy) (p : Pos) (arrow : Bool) (e r : Typed) (name : Name) → IsTyped u e → member_of_name u.types p arrow e name ≡ Ok r → IsTyped u r
member_typed u p false e r name w h = member_in_typed u p e r name (type_in (type_of e)) w h
member_typed u p true e r name w h =
    let (x, hx, g) = bind_ok (deref_of p e) (λ x. member_in u.types p x name) r h in
    member_in_typed u p x r name (type_in (type_of x)) (deref_typed u p e x w hx) g
