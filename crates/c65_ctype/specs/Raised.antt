-- Types whose tags are renumbered, each by the same number, where tables are put together.
use Rattle.std.specs.Prelude.{ℕ, ◌+◌, ◌++◌, map, length, option_map}
use Rattle.c65_ctype.specs.Trees.{Ty, void, int, pointer, array, tag, function, QTy, qual, Fn, fn, Params, unknown, known, QTys, end, more, MemberTy, LayoutTy, TagTy, TypesTy}

abbrev mutual
  pub raised_ty : ℕ → Ty → Ty
  raised_ty by void = void
  raised_ty by (int t) = int t
  raised_ty by (pointer q) = pointer (raised by q)
  raised_ty by (array q n) = array (raised by q) n
  raised_ty by (tag n) = tag (n + by)
  raised_ty by (function f) = function (raised_fn by f)

  pub raised : ℕ → QTy → QTy
  raised by (qual t c v) = qual (raised_ty by t) c v

  pub raised_fn : ℕ → Fn → Fn
  raised_fn by (fn q ps variadic cdecl) = fn (raised by q) (raised_params by ps) variadic cdecl

  pub raised_params : ℕ → Params → Params
  raised_params by unknown = unknown
  raised_params by (known qs) = known (raised_all by qs)

  pub raised_all : ℕ → QTys → QTys
  raised_all by end = end
  raised_all by (more q qs) = more (raised by q) (raised_all by qs)

abbrev pub raised_member : ℕ → MemberTy → MemberTy
raised_member by m = record m { ty = raised by m.ty }

abbrev pub raised_layout : ℕ → LayoutTy → LayoutTy
raised_layout by l = record l { members = map (raised_member by) l.members }

-- a tag of a later unit
abbrev pub raised_tag : ℕ → ℕ → TagTy → TagTy
raised_tag by units t = record t { unit = t.unit + units; layout = option_map (raised_layout by) t.layout }

-- the tags of a later table behind those of an earlier one
abbrev pub appended : TypesTy → TypesTy → TypesTy
appended t later = record { tags = t.tags ++ map (raised_tag (length t.tags) t.units) later.tags; units = t.units + later.units }
