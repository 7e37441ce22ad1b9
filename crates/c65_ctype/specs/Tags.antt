-- What happens to a table of tags (C90 6.5.2.3).
use Rattle.std.specs.Prelude.{◌≡◌, ℕ, zero, suc, ◌-◌, List, [], ◌∷◌, ◌++◌, Bool, false, Option, Some, None, option_map, unwrap_or, slice_get, Result, Ok}
use Rattle.c65_base.specs.Answers.{Fault, ◌>>=◌}
use Rattle.c65_ctype.specs.Trees.{FieldTy, LayoutTy, TagTy, TypesTy}
use Rattle.c65_ctype.specs.Layouts.{layout_for}

-- whether a tag that is there is that of a union
abbrev pub kind_of : TypesTy → ℕ → Option Bool
kind_of t tag = option_map (λ x. x.is_union) (slice_get t.tags tag)

-- a tag that is there and has no layout yet
abbrev pub IsUnfinished : TypesTy → ℕ → Type 0
IsUnfinished t tag = option_map (λ x. x.layout) (slice_get t.tags tag) ≡ Some None

-- one more tag, of the newest unit
abbrev pub with_tag : TypesTy → Bool → Option LayoutTy → TypesTy
with_tag t is_union l = record t { tags = t.tags ++ record { unit = t.units - 1; is_union = is_union; layout = l } ∷ [] }

-- the same tags, where one has this layout
abbrev pub with_layout : List TagTy → ℕ → LayoutTy → List TagTy
with_layout [] tag l = []
with_layout (t ∷ ts) zero l = record t { layout = Some l } ∷ ts
with_layout (t ∷ ts) (suc tag) l = t ∷ with_layout ts tag l

-- an unfinished tag gets its layout
abbrev pub finished : TypesTy → ℕ → List FieldTy → Result TypesTy Fault
finished t tag fields = do
  l ← layout_for t (unwrap_or (kind_of t tag) false) fields
  Ok (record t { tags = with_layout t.tags tag l })

-- a new tag with its layout
abbrev pub laid_out : TypesTy → Bool → List FieldTy → Result TypesTy Fault
laid_out t is_union fields = do
  l ← layout_for t is_union fields
  Ok (with_tag t is_union (Some l))
