-- A tag gets its layout.
use Rattle.std.proofs.Common.{◌≡◌, ℕ, zero, suc, ◌-◌, ◌<◌, List, [], ◌∷◌, ◌++◌, Bool, length, map, get_or, set, refl, sym, ap, ◌∙◌, subst, arith, Ok, Some, None}
use Rattle.std.specs.Prelude.{option_map, slice_get}
use Rattle.std.proofs.lemmas.Option.{slice_get-map, slice_get_read}
use Rattle.c65_ctype.specs.declared.types.Tag.{Tag}
use Rattle.c65_ctype.specs.declared.types.Layout.{Layout}
use Rattle.c65_ctype.specs.declared.types.TagTable.{TagTable}
use Rattle.c65_ctype.specs.Trees.{FieldTy, TagTy, TypesTy}
use Rattle.c65_ctype.specs.Layouts.{layout_for}
use Rattle.c65_ctype.specs.Tags.{IsUnfinished, with_tag, with_layout, finished, kind_of}
use Rattle.c65_ctype.specs.Views.{layout_of, tag_of, types_of}

pub layout_set : (ts : List Tag) (i : ℕ) (x : Tag) (l : Layout) → x ≡ get_or ts i x → map tag_of (set ts i (record { unit = x.unit; is_union = x.is_union; layout = Some l })) ≡ with_layout (map tag_of ts) i (layout_of l)
layout_set [] i x l is = refl
layout_set (t ∷ ts) zero x l is = ap (λ (y : Tag). record { unit = y.unit; is_union = y.is_union; layout = Some (layout_of l) } ∷ map tag_of ts) is
layout_set (t ∷ ts) (suc i) x l is = ap (λ (us : List TagTy). tag_of t ∷ us) (layout_set ts i x l is)

within : (ts : List Tag) (i : ℕ) → option_map (λ x. x.layout) (slice_get (map tag_of ts) i) ≡ Some None → i < length ts
within [] i h = absurd (let e : None ≡ Some None = h in cc)
within (t ∷ ts) zero h = omega arith
within (t ∷ ts) (suc i) h = omega (arith, within ts i h)

kind_is : (t : TagTable) (tag : ℕ) (x : Tag) → tag < length t.tags.items → x ≡ get_or t.tags.items tag x → kind_of (types_of t) tag ≡ Some x.is_union
kind_is t tag x below is =
    ap (option_map (λ (y : TagTy). y.is_union)) (slice_get-map tag_of t.tags.items tag ∙ ap (option_map tag_of) (slice_get_read t.tags.items (length t.tags.items) tag x refl below is))

pub finished_is : (t : TagTable) (tag : ℕ) (fields : List FieldTy) (x : Tag) (l : Layout) → IsUnfinished (types_of t) tag → x ≡ get_or t.tags.items tag x → layout_for (types_of t) x.is_union fields ≡ Ok (layout_of l) → finished (types_of t) tag fields ≡ Ok (record { tags = with_layout (map tag_of t.tags.items) tag (layout_of l); units = t.units })
finished_is t tag fields x l unfinished is laid =
    let kind = kind_is t tag x (within t.tags.items tag unfinished) is in
    rw (kind, laid) refl

pub finished_now : (inside now : TagTable) → inside ≡ now → (tag : ℕ) (fields : List FieldTy) (x y : Tag) (l : Layout) → IsUnfinished (types_of now) tag → x ≡ get_or inside.tags.items tag x → y ≡ get_or inside.tags.items tag y → layout_for (types_of now) y.is_union fields ≡ Ok (layout_of l) → finished (types_of now) tag fields ≡ Ok (record { tags = map tag_of (set inside.tags.items tag (record { unit = x.unit; is_union = x.is_union; layout = Some l })); units = inside.units })
finished_now inside now same tag fields x y l unfinished is_x is_y laid =
    let there = subst (λ (t : TagTable). IsUnfinished (types_of t) tag) (sym same) unfinished in
    let exact = subst (λ (t : TagTable). layout_for (types_of t) y.is_union fields ≡ Ok (layout_of l)) (sym same) laid in
    ap (λ (t : TagTable). finished (types_of t) tag fields) (sym same)
    ∙ finished_is inside tag fields y l there is_y exact
    ∙ ap (λ (ts : List TagTy). Ok (record { tags = ts; units = inside.units })) (sym (layout_set inside.tags.items tag x l is_x))

last_layout : (ts : List TagTy) (x : TagTy) → option_map (λ (y : TagTy). y.layout) (slice_get (ts ++ x ∷ []) (length ts)) ≡ Some x.layout
last_layout [] x = refl
last_layout (t ∷ ts) x = last_layout ts x

-- a tag that was just opened is not finished
pub opened : (old new : TypesTy) (is_union : Bool) (tag : ℕ) → new ≡ with_tag old is_union None → tag ≡ length old.tags → IsUnfinished new tag
opened old new is_union tag opens is =
    subst (λ (t : TypesTy). IsUnfinished t tag) (sym opens) (subst (IsUnfinished (with_tag old is_union None)) (sym is) (last_layout old.tags (record { unit = old.units - 1; is_union = is_union; layout = None })))
