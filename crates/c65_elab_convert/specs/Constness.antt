-- Which expressions may be assigned to (C90 6.2.2.1).
use Rattle.std.specs.Prelude.{ℕ, zero, suc, List, [], ◌∷◌, ◌++◌, Bool, true, false, ◌||◌, ◌&&◌, not, ◌==◌, Option, Some, None, is_some, if◌then◌else◌}
use Rattle.c65_ctype.specs.Trees.{Ty, void, int, pointer, array, tag, function, QTy, qual, type_in, MemberTy, LayoutTy, TypesTy}
use Rattle.c65_ctype.specs.Tables.{layout_at}
use Rattle.c65_csem.specs.Trees.{Typed, node}
use Rattle.c65_elab_convert.specs.Categories.{is_lvalue}

-- a const type, or an array of const elements
abbrev mutual
  pub is_const_type : QTy → Bool
  is_const_type (qual t c v) = is_const_ty c t

  pub is_const_ty : Bool → Ty → Bool
  is_const_ty c (array q n) = c || is_const_type q
  is_const_ty c void = c
  is_const_ty c (int k) = c
  is_const_ty c (pointer q) = c
  is_const_ty c (tag n) = c
  is_const_ty c (function f) = c

-- the tag of a structure or union, or of the elements of an array
abbrev mutual
  pub tag_in : Ty → Option ℕ
  tag_in (tag n) = Some n
  tag_in (array q n) = tag_inside q
  tag_in void = None
  tag_in (int k) = None
  tag_in (pointer q) = None
  tag_in (function f) = None

  pub tag_inside : QTy → Option ℕ
  tag_inside (qual t c v) = tag_in t

abbrev pub any_const : List MemberTy → Bool
any_const [] = false
any_const (m ∷ ms) = if is_const_type m.ty then true else any_const ms

abbrev pub has_number : List ℕ → ℕ → Bool
has_number [] n = false
has_number (m ∷ ms) n = if m == n then true else has_number ms n

-- each tag once
abbrev pub with_tag : List ℕ → Option ℕ → List ℕ
with_tag tags None = tags
with_tag tags (Some n) = if has_number tags n then tags else tags ++ n ∷ []

abbrev pub with_tags : List ℕ → List MemberTy → List ℕ
with_tags tags [] = tags
with_tags tags (m ∷ ms) = with_tags (with_tag tags (tag_in (type_in m.ty))) ms

abbrev pub members_in : Option LayoutTy → List MemberTy
members_in None = []
members_in (Some l) = l.members

abbrev pub members_at : TypesTy → ℕ → List MemberTy
members_at types n = members_in (layout_at types n)

-- one of these structures and unions has a const member of its own
abbrev pub any_sealed : TypesTy → List ℕ → Bool
any_sealed types [] = false
any_sealed types (n ∷ ns) = if any_const (members_at types n) then true else any_sealed types ns

-- the structures and unions that are members of these, behind others
abbrev pub inner_tags : TypesTy → List ℕ → List ℕ → List ℕ
inner_tags types found [] = found
inner_tags types found (n ∷ ns) = inner_tags types (with_tags found (members_at types n)) ns

-- one of these has a const member, also inside of members, so many levels deep
abbrev pub is_sealed : TypesTy → ℕ → List ℕ → Bool
is_sealed types zero tags = false
is_sealed types (suc n) tags = if any_sealed types tags then true else is_sealed types n (inner_tags types [] tags)

-- numbers, pointers, and complete structures and unions without const members
abbrev pub may_change : TypesTy → Ty → Bool
may_change types (int k) = true
may_change types (pointer q) = true
may_change types (tag n) = if is_some (layout_at types n) then not (is_sealed types 256 (n ∷ [])) else false
may_change types void = false
may_change types (array q n) = false
may_change types (function f) = false

-- a modifiable lvalue
abbrev pub is_modifiable : TypesTy → Typed → Bool
is_modifiable types (node (qual t c v) e) = if c || not (is_lvalue (node (qual t c v) e)) then false else may_change types t
