-- The types of the code, as trees without Box and Vec.
use Rattle.std.specs.Prelude.{List, [], ◌∷◌, map, Option, Some, None, option_map}
use Rattle.std.specs.Global.{Vec}
use Rattle.c65_ctype.specs.declared.types.QType.{QType}
use Rattle.c65_ctype.specs.declared.types.CType.{CType, Void, Int, Pointer', Array', Struct, Function'}
use Rattle.c65_ctype.specs.declared.types.FnType.{FnType, FnType', Held-FnType-params, None', Some', Row_of-QType, end_of-QType, more_of-QType}
use Rattle.c65_ctype.specs.declared.types.Member.{Member}
use Rattle.c65_ctype.specs.declared.types.Field.{Field}
use Rattle.c65_ctype.specs.declared.types.Layout.{Layout}
use Rattle.c65_ctype.specs.declared.types.Tag.{Tag}
use Rattle.c65_ctype.specs.declared.types.TagTable.{TagTable}
use Rattle.c65_ctype.specs.Trees

abbrev mutual
  pub ty_of : CType → Trees.Ty
  ty_of Void = Trees.void
  ty_of (Int t) = Trees.int t
  ty_of (Pointer' p t c v) = Trees.pointer (Trees.qual (ty_of t) c v)
  ty_of (Array' p t c v n) = Trees.array (Trees.qual (ty_of t) c v) n
  ty_of (Struct n) = Trees.tag n
  ty_of (Function' p f) = Trees.function (fn_of f)

  pub fn_of : FnType → Trees.Fn
  fn_of (FnType' t c v ps variadic cdecl) = Trees.fn (Trees.qual (ty_of t) c v) (params_of ps) variadic cdecl

  pub params_of : Held-FnType-params → Trees.Params
  params_of None' = Trees.unknown
  params_of (Some' shape row) = Trees.known (row_tys row)

  pub row_tys : {m : _} → Row_of-QType m → Trees.QTys
  row_tys end_of-QType = Trees.end
  row_tys (more_of-QType t c v rest) = Trees.more (Trees.qual (ty_of t) c v) (row_tys rest)

abbrev pub qty_of : QType → Trees.QTy
qty_of q = Trees.qual (ty_of q.ty) q.is_const q.is_volatile

abbrev pub qtys_of : List QType → Trees.QTys
qtys_of [] = Trees.end
qtys_of (q ∷ qs) = Trees.more (qty_of q) (qtys_of qs)

abbrev pub params_in : Option (Vec QType) → Trees.Params
params_in None = Trees.unknown
params_in (Some v) = Trees.known (qtys_of v.items)

abbrev pub member_of : Member → Trees.MemberTy
member_of m = record { name = m.name; ty = qty_of m.ty; offset = m.offset; bits = m.bits }

abbrev pub layout_of : Layout → Trees.LayoutTy
layout_of l = record { is_union = l.is_union; members = map member_of l.members.items; size = l.size }

abbrev pub tag_of : Tag → Trees.TagTy
tag_of t = record { unit = t.unit; is_union = t.is_union; layout = option_map layout_of t.layout }

abbrev pub types_of : TagTable → Trees.TypesTy
types_of t = record { tags = map tag_of t.tags.items; units = t.units }

abbrev pub field_of : Field → Trees.FieldTy
field_of f = record { name = f.name; ty = qty_of f.ty; width = f.width; pos = f.pos }
