-- Structures, unions, enumerations and parameters keep what holds of a scope.
use Rattle.std.proofs.Common.{◌≡◌, ℕ, zero, suc, ◌+◌, ◌-◌, ◌≤◌, Bool, true, false, Option, Some, None, Ok, refl, sym, ap, ◌∙◌, subst, arith, List, [], ◌∷◌, ◌++◌, ℤ, pos, negsuc, if◌then◌else◌}
use Rattle.std.specs.Prelude.{◌==◌, slice_get, is_some, nat_le, int_le, option_and_then, unwrap_or}
use Rattle.std.proofs.lemmas.Bool.{leb-true}
use Rattle.std.proofs.lemmas.Int.{ints}
use Rattle.std.proofs.Math.Nat.{max-le}
use Rattle.c65_base.specs.declared.names.Name.{Name}
use Rattle.c65_base.specs.declared.refusal.Pos.{Pos}
use Rattle.c65_base.specs.Answers.{◌>>=◌}
use Rattle.c65_ints.specs.declared.types.IntType.TheVariants.{Int}
use Rattle.c65_ints.specs.Ranges.{InRange}
use Rattle.c65_ctype.specs.Trees.{type_in, TypesTy, TagTy, LayoutTy, FieldTy, MemberTy}
use Rattle.c65_ctype.specs.Places as places
use Rattle.c65_ctype.specs.Layouts.{own_size, few, member_at, next_member, laid, refused_at, unnamed_at, bits_form, fresh, layout_for}
use Rattle.c65_ctype.specs.Tables.{IsTable, layout_at}
use Rattle.c65_ctype.specs.Tags.{kind_of, with_tag, with_layout, finished}
use Rattle.c65_ctype.proofs.TableLaws.{tags_append, tags_laid}
use Rattle.c65_elab_scope.specs.declared.meaning.Meaning.{Meaning}
use Rattle.c65_elab_scope.specs.Scopes.{ScopeTy, tag_bound}
use Rattle.c65_elab_scope.specs.Declaring.{with_types, tag_opened, is_open, tag_finished}
use Rattle.c65_elab_law.specs.Scoped.{IsScope, Keeps}
use Rattle.c65_elab_law.proofs.OperatorLaws.{bind_ok, ok_is, not_ok}
use Rattle.c65_elab_law.proofs.SizeLaws.{size_small}
use Rattle.c65_elab_law.proofs.ScopeLaws.{renamed, get_more, table_keeps}

-- ---- the bytes of a structure or union

own_small : (types : TypesTy) (f : FieldTy) (width : Option ℕ) (k : ℕ) → IsTable types → own_size types f width ≡ Ok k → k ≤ 65535
own_small types f None k w h = size_small types f.pos (type_in f.ty) k w h
own_small types f (Some b) k w h = subst (λ (z : ℕ). z ≤ 65535) (ok_is _ _ h) (let two : 2 ≤ 65535 = omega arith in two)

room_small : (p : _) (more : ℕ) (unit : _) (spot : _) (x : _) → places.room p more unit spot ≡ Ok x → x.1.end ≤ 65535
room_small p more unit spot x h = tested (nat_le (p.end + more) 65535) refl
  where
    tested : (b : Bool) → nat_le (p.end + more) 65535 ≡ b → x.1.end ≤ 65535
    tested false y = absurd (not_ok _ _ (rw y at h))
    tested true y = subst (λ z. z.1.end ≤ 65535) (ok_is _ _ (rw y at h)) (leb-true (p.end + more) 65535 y)

new_small : (p : _) (w : ℕ) (x : _) → places.new_unit p w ≡ Ok x → x.1.end ≤ 65535
new_small p w x h = room_small p 2 _ _ x h

bits_small : (p : _) (w : ℕ) (o : _) (x : _) → places.bits_in p w o ≡ Ok x → x.1.end ≤ 65535
bits_small p w None x h = new_small p w x h
bits_small p w (Some u) x h = tested (nat_le (u.used + w) 16) refl
  where
    tested : (b : Bool) → nat_le (u.used + w) 16 ≡ b → x.1.end ≤ 65535
    tested true y = room_small p 0 _ _ x (rw y at h)
    tested false y = new_small p w x (rw y at h)

structure_small : (p : _) (size : ℕ) (width : Option ℕ) (x : _) → places.structure_spot p size width ≡ Ok x → x.1.end ≤ 65535
structure_small p size None x h = room_small p size _ _ x h
structure_small p size (Some w) x h = tested (w == 0) refl
  where
    tested : (b : Bool) → (w == 0) ≡ b → x.1.end ≤ 65535
    tested true y = room_small p 0 _ _ x (rw y at h)
    tested false y = bits_small p w p.unit x (rw y at h)

two_small : (b : Bool) → (if b then 0 else 2) ≤ 65535
two_small true = omega arith
two_small false = omega arith

union_small : (p : _) (size : ℕ) (width : Option ℕ) (x : _) → places.union_spot p size width ≡ x → p.end ≤ 65535 → size ≤ 65535 → x.1.end ≤ 65535
union_small p size None x h g k = subst (λ z. z.1.end ≤ 65535) h (max-le g k)
union_small p size (Some w) x h g k = subst (λ z. z.1.end ≤ 65535) h (max-le g (two_small (w == 0)))

spot_small : (is_union : Bool) (p : _) (size : ℕ) (width : Option ℕ) (x : _) → places.spot_for is_union p size width ≡ Ok x → p.end ≤ 65535 → size ≤ 65535 → x.1.end ≤ 65535
spot_small true p size width x h g k = union_small p size width x (ok_is _ _ h) g k
spot_small false p size width x h g k = structure_small p size width x h

member_small : (types : TypesTy) (is_union : Bool) (ms : List MemberTy) (p : _) (f : FieldTy) (x : _) → IsTable types → next_member types is_union ms p f ≡ Ok x → p.end ≤ 65535 → x.1.end ≤ 65535
member_small types is_union ms p f x w h g =
    let (form, h0, h1) = bind_ok (bits_form f f.width) (λ form. fresh ms f.pos f.name >>= λ name. own_size types f f.width >>= λ size. few ms >>= λ number. places.spot_for is_union p size f.width >>= λ x. Ok (member_at f x.0, x.1)) x h in
    let (name, h2, h3) = bind_ok (fresh ms f.pos f.name) (λ name. own_size types f f.width >>= λ size. few ms >>= λ number. places.spot_for is_union p size f.width >>= λ x. Ok (member_at f x.0, x.1)) x h1 in
    let (size, h4, h5) = bind_ok (own_size types f f.width) (λ size. few ms >>= λ number. places.spot_for is_union p size f.width >>= λ x. Ok (member_at f x.0, x.1)) x h3 in
    let (number, h6, h7) = bind_ok (few ms) (λ number. places.spot_for is_union p size f.width >>= λ x. Ok (member_at f x.0, x.1)) x h5 in
    let (spot, h8, h9) = bind_ok (places.spot_for is_union p size f.width) (λ x. Ok (member_at f x.0, x.1)) x h7 in
    subst (λ z. z.1.end ≤ 65535) (ok_is _ _ h9) (spot_small is_union p size f.width spot h8 g (own_small types f f.width size w h4))

laid_small : (types : TypesTy) (is_union : Bool) (ms : List MemberTy) (p : _) (fs : List FieldTy) (x : List MemberTy × ℕ) → IsTable types → laid types is_union ms p fs ≡ Ok x → p.end ≤ 65535 → x.1 ≤ 65535
laid_small types is_union ms p [] x w h g = subst (λ (z : List MemberTy × ℕ). z.1 ≤ 65535) (ok_is _ _ h) g
laid_small types is_union ms p (f ∷ fs) x w h g =
    let (y, hy, h1) = bind_ok (next_member types is_union ms p f) (λ x. laid types is_union (ms ++ x.0 ∷ []) x.1 fs) x h in
    laid_small types is_union (ms ++ y.0 ∷ []) y.1 fs x w h1 (member_small types is_union ms p f y w hy g)

layout_small : (types : TypesTy) (is_union : Bool) (fields : List FieldTy) (l : LayoutTy) → IsTable types → layout_for types is_union fields ≡ Ok l → l.size ≤ 65535
layout_small types is_union fields l w h =
    let (x, hx, h1) = bind_ok (laid types is_union [] places.start fields) (λ x. refused_at (unnamed_at fields) >>= λ named. Ok (record { is_union = is_union; members = x.0; size = x.1 })) l h in
    let (named, hn, h2) = bind_ok (refused_at (unnamed_at fields)) (λ named. Ok (record { is_union = is_union; members = x.0; size = x.1 })) l h1 in
    subst (λ (z : LayoutTy). z.size ≤ 65535) (ok_is _ _ h2) (laid_small types is_union [] places.start fields x w hx (let none : 0 ≤ 65535 = omega arith in none))

-- ---- tags

opened_table : (types : TypesTy) (is_union : Bool) → IsTable types → IsTable (with_tag types is_union None)
opened_table types is_union w = record { tags = tags_append types.units types.tags (record { unit = types.units - 1; is_union = is_union; layout = None } ∷ []) w.tags (omega (arith, w.units), tt, tt); units = w.units }

opened_stays : (types : TypesTy) (is_union : Bool) (tag : ℕ) (l : LayoutTy) → layout_at types tag ≡ Some l → layout_at (with_tag types is_union None) tag ≡ Some l
opened_stays types is_union tag l h = tested (slice_get types.tags tag) refl
  where
    tested : (o : Option TagTy) → slice_get types.tags tag ≡ o → layout_at (with_tag types is_union None) tag ≡ Some l
    tested None x = absurd (let z : None ≡ Some l = rw x at h in cc)
    tested (Some t) x = rw (get_more types.tags (record { unit = types.units - 1; is_union = is_union; layout = None } ∷ []) tag t x) (rw x at h)

pub tag_opened_keeps : (s : ScopeTy) (is_union : Bool) (x : ℕ × ScopeTy) → IsScope s → tag_opened s is_union ≡ Ok x → Keeps s x.1
tag_opened_keeps s is_union x w h = subst (λ (y : ℕ × ScopeTy). Keeps s y.1) (ok_is _ _ h) (table_keeps s (with_tag s.unit.types is_union None) w (opened_table s.unit.types is_union w.types) w.one_unit (opened_stays s.unit.types is_union))

laid_stays : (ts : List TagTy) (i : ℕ) (l : LayoutTy) (j : ℕ) (k : LayoutTy) → is_some (option_and_then (λ (x : TagTy). x.layout) (slice_get ts i)) ≡ false → option_and_then (λ (x : TagTy). x.layout) (slice_get ts j) ≡ Some k → option_and_then (λ (x : TagTy). x.layout) (slice_get (with_layout ts i l) j) ≡ Some k
laid_stays [] i l j k u h = h
laid_stays (t ∷ ts) zero l zero k u h = absurd (let z : true ≡ false = sym (ap is_some h) ∙ u in cc)
laid_stays (t ∷ ts) zero l (suc j) k u h = h
laid_stays (t ∷ ts) (suc i) l zero k u h = h
laid_stays (t ∷ ts) (suc i) l (suc j) k u h = laid_stays ts i l j k u h

open_is : (kind : Option Bool) (b : Bool) → is_open kind b ≡ true → b ≡ false
open_is None b h = absurd (let x : false ≡ true = h in cc)
open_is (Some kind) true h = absurd (let x : false ≡ true = h in cc)
open_is (Some kind) false h = refl

pub tag_finished_keeps : (s : ScopeTy) (tag : ℕ) (fields : List FieldTy) (p : Pos) (u : ScopeTy) → IsScope s → tag_finished s tag fields p ≡ Ok u → Keeps s u
tag_finished_keeps s tag fields p u w h = tested (is_open (kind_of s.unit.types tag) (is_some (layout_at s.unit.types tag))) refl
  where
    laid_out : (l : LayoutTy) → is_some (layout_at s.unit.types tag) ≡ false → layout_for s.unit.types (unwrap_or (kind_of s.unit.types tag) false) fields ≡ Ok l → Keeps s (with_types s (record s.unit.types { tags = with_layout s.unit.types.tags tag l }))
    laid_out l lacks hl = table_keeps s (record s.unit.types { tags = with_layout s.unit.types.tags tag l }) w (record { tags = tags_laid s.unit.types.units s.unit.types.tags tag l (layout_small s.unit.types (unwrap_or (kind_of s.unit.types tag) false) fields l w.types hl) w.types.tags; units = w.types.units }) w.one_unit (λ j k g. laid_stays s.unit.types.tags tag l j k lacks g)

    tested : (b : Bool) → is_open (kind_of s.unit.types tag) (is_some (layout_at s.unit.types tag)) ≡ b → Keeps s u
    tested false y = absurd (not_ok _ _ (rw y at h))
    tested true y =
        let (types, ht, h1) = bind_ok (finished s.unit.types tag fields) (λ types. Ok (with_types s types)) u (rw y at h) in
        let (l, hl, h2) = bind_ok (layout_for s.unit.types (unwrap_or (kind_of s.unit.types tag) false) fields) (λ l. Ok (record s.unit.types { tags = with_layout s.unit.types.tags tag l })) types ht in
        subst (Keeps s) (ok_is _ _ h1) (subst (λ (z : TypesTy). Keeps s (with_types s z)) (ok_is _ _ h2) (laid_out l (open_is (kind_of s.unit.types tag) (is_some (layout_at s.unit.types tag)) y) hl))

pub tag_bound_keeps : (s : ScopeTy) (n : Name) (a : Meaning) (u : ScopeTy) → IsScope s → tag_bound s n a ≡ Ok u → Keeps s u
tag_bound_keeps s n a u w h = subst (Keeps s) (ok_is _ _ h) (renamed s _ refl w w.names)

-- ---- the values of enumeration constants are those of int

pub int_value : (z : ℤ) → int_le (negsuc 32767) z ≡ true → int_le z (pos 32767) ≡ true → InRange Int z
int_value z g h = record { low = grind (arith, ints); high = grind (arith, ints) }
