-- The layout that a loop over the members gives.
use Rattle.std.proofs.Common.{◌≡◌, ℕ, List, [], length, drop, map, refl, sym, ap, ◌∙◌, arith, Ok, Err, Some, None}
use Rattle.std.specs.Prelude.{Bool}
use Rattle.std.proofs.lemmas.List.{drop_all}
use Rattle.c65_base.specs.Answers.{at}
use Rattle.c65_base.specs.declared.code.Code.TheVariants.{BitField}
use Rattle.c65_base.specs.declared.refusal.Pos.{Pos}
use Rattle.c65_ctype.specs.declared.place.Cursor.{Cursor}
use Rattle.c65_ctype.specs.declared.types.Field.{Field}
use Rattle.c65_ctype.specs.Trees.{MemberTy, TypesTy}
use Rattle.c65_ctype.specs.Views.{field_of}
use Rattle.c65_ctype.specs.Places.{start}
use Rattle.c65_ctype.specs.Layouts.{laid, unnamed_at, layout_for}

-- behind the last member
laid_end : (types : TypesTy) (is_union : Bool) (fields : List Field) (ms : List MemberTy) (p : Cursor) (n : ℕ) → n ≡ length fields → laid types is_union ms p (map field_of (drop n fields)) ≡ laid types is_union [] start (map field_of fields) → laid types is_union [] start (map field_of fields) ≡ Ok (ms, p.end)
laid_end types is_union fields ms p n all so_far =
    sym so_far ∙ ap (λ (fs : List Field). laid types is_union ms p (map field_of fs)) (drop_all n fields (omega arith))

pub layout_named : (types : TypesTy) (is_union : Bool) (fields : List Field) (ms : List MemberTy) (p : Cursor) (n : ℕ) → n ≡ length fields → laid types is_union ms p (map field_of (drop n fields)) ≡ laid types is_union [] start (map field_of fields) → unnamed_at (map field_of fields) ≡ None → layout_for types is_union (map field_of fields) ≡ Ok (record { is_union = is_union; members = ms; size = p.end })
layout_named types is_union fields ms p n all so_far named =
    rw (laid_end types is_union fields ms p n all so_far, named) refl

pub layout_unnamed : (types : TypesTy) (is_union : Bool) (fields : List Field) (ms : List MemberTy) (p : Cursor) (n : ℕ) (at_first : Pos) → n ≡ length fields → laid types is_union ms p (map field_of (drop n fields)) ≡ laid types is_union [] start (map field_of fields) → unnamed_at (map field_of fields) ≡ Some at_first → layout_for types is_union (map field_of fields) ≡ Err (at BitField at_first)
layout_unnamed types is_union fields ms p n at_first all so_far named =
    rw (laid_end types is_union fields ms p n all so_far, named) refl
