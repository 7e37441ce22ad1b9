-- What holds of tables of tags.
use Rattle.std.proofs.Common.{◌≡◌, ℕ, zero, suc, ◌+◌, ◌≤◌, List, [], ◌∷◌, ◌++◌, Option, Some, None, arith, sym, ap, ◌∙◌, subst}
use Rattle.std.proofs.lemmas.List.{map-append}
use Rattle.std.specs.Prelude.{slice_get, option_and_then, option_map, map}
use Rattle.c65_base.specs.declared.refusal.Size.TheVariants.{Object}
use Rattle.c65_base.specs.Limits.{limit_of}
use Rattle.c65_ctype.specs.Trees.{LayoutTy, TagTy, TypesTy}
use Rattle.c65_ctype.specs.Tables.{IsLaid, AreTags, IsTable, layout_at}
use Rattle.c65_ctype.specs.declared.types.Tag.{Tag}
use Rattle.c65_ctype.specs.Views.{tag_of}
use Rattle.c65_ctype.specs.Tags.{with_layout}
use Rattle.c65_ctype.specs.Raised.{raised_tag, raised_layout}

tag_laid : (n : ℕ) (ts : List TagTy) (i : ℕ) → AreTags n ts → IsLaid (option_and_then (λ x. x.layout) (slice_get ts i))
tag_laid n [] i w = tt
tag_laid n (t ∷ ts) zero w = w.1
tag_laid n (t ∷ ts) (suc i) w = tag_laid n ts i w.2

pub laid_at : (t : TypesTy) (tag : ℕ) → IsTable t → IsLaid (layout_at t tag)
laid_at t tag w = tag_laid t.units t.tags tag w.tags

pub tags_more : (m n : ℕ) (ts : List TagTy) → m ≤ n → AreTags m ts → AreTags n ts
tags_more m n [] le w = tt
tags_more m n (t ∷ ts) le w = (omega (arith, w.0), w.1, tags_more m n ts le w.2)

pub tags_append : (n : ℕ) (ts us : List TagTy) → AreTags n ts → AreTags n us → AreTags n (ts ++ us)
tags_append n [] us w v = v
tags_append n (t ∷ ts) us w v = (w.0, w.1, tags_append n ts us w.2 v)

raised_laid : (by : ℕ) (l : Option LayoutTy) → IsLaid l → IsLaid (option_map (raised_layout by) l)
raised_laid by None w = tt
raised_laid by (Some l) w = w

pub tags_raised : (by m n : ℕ) (ts : List TagTy) → AreTags n ts → AreTags (m + n) (map (raised_tag by m) ts)
tags_raised by m n [] w = tt
tags_raised by m n (t ∷ ts) w = (omega (arith, w.0), raised_laid by t.layout w.1, tags_raised by m n ts w.2)

pub tags_laid : (n : ℕ) (ts : List TagTy) (i : ℕ) (l : LayoutTy) → l.size ≤ limit_of Object → AreTags n ts → AreTags n (with_layout ts i l)
tags_laid n [] i l h w = tt
tags_laid n (t ∷ ts) zero l h w = (w.0, h, w.2)
tags_laid n (t ∷ ts) (suc i) l h w = (w.0, w.1, tags_laid n ts i l h w.2)

pub tags_appended : (m n u by : ℕ) (xs ys ls zs : List Tag) → zs ≡ xs ++ ys → map tag_of ys ≡ map (raised_tag by m) (map tag_of ls) → AreTags m (map tag_of xs) → AreTags n (map tag_of ls) → u ≡ m + n → AreTags u (map tag_of zs)
tags_appended m n u by xs ys ls zs is raised early later sum =
    let all = tags_append (m + n) (map tag_of xs) (map tag_of ys) (tags_more m (m + n) (map tag_of xs) (omega arith) early) (subst (AreTags (m + n)) (sym raised) (tags_raised by m n (map tag_of ls) later)) in
    let joined : map tag_of zs ≡ map tag_of xs ++ map tag_of ys = ap (map tag_of) is ∙ map-append tag_of xs ys in
    subst (λ (k : ℕ). AreTags k (map tag_of zs)) (sym sum) (subst (AreTags (m + n)) (sym joined) all)
