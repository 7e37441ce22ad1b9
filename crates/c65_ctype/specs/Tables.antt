-- Tables of tags: what holds of each of them, and what a tag's number names.
use Rattle.std.specs.Prelude.{ℕ, ◌<◌, ◌≤◌, List, [], ◌∷◌, Option, Some, None, option_and_then, slice_get}
use Rattle.c65_base.specs.declared.refusal.Size.TheVariants.{Object}
use Rattle.c65_base.specs.Limits.{limit_of}
use Rattle.c65_ctype.specs.Trees.{LayoutTy, TagTy, TypesTy}

-- a finished structure or union has at most as many bytes as an object
abbrev pub IsLaid : Option LayoutTy → Type 0
IsLaid None = Unit {0}
IsLaid (Some l) = l.size ≤ limit_of Object

-- each tag comes from one of so many units
abbrev pub AreTags : ℕ → List TagTy → Type 0
AreTags n [] = Unit {0}
AreTags n (t ∷ ts) = (t.unit < n) × IsLaid t.layout × AreTags n ts

pub record IsTable (t : TypesTy) : Type 0 where
  pub tags : AreTags t.units t.tags
  pub units : 1 ≤ t.units

-- the layout of a tag that is there and finished
abbrev pub layout_at : TypesTy → ℕ → Option LayoutTy
layout_at t tag = option_and_then (λ x. x.layout) (slice_get t.tags tag)

-- no tags, of the first unit
abbrev pub no_tags : TypesTy
no_tags = record { tags = []; units = 1 }
