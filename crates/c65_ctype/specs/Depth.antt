-- The depth of types: 1 for what is not derived from another type, and else one more than the
-- deepest part (C90 6.1.2.5).
use Rattle.std.specs.Prelude.{ℕ, ◌+◌, max}
use Rattle.c65_ctype.specs.Trees.{Ty, void, int, pointer, array, tag, function, QTy, qual, Fn, fn, Params, unknown, known, QTys, end, more}

abbrev mutual
  pub ty_depth : Ty → ℕ
  ty_depth void = 1
  ty_depth (int t) = 1
  ty_depth (pointer q) = qty_depth q + 1
  ty_depth (array q n) = qty_depth q + 1
  ty_depth (tag n) = 1
  ty_depth (function f) = fn_depth f + 1

  pub qty_depth : QTy → ℕ
  qty_depth (qual t c v) = ty_depth t

  pub fn_depth : Fn → ℕ
  fn_depth (fn q ps variadic cdecl) = max (qty_depth q) (params_depth ps)

  pub params_depth : Params → ℕ
  params_depth unknown = 0
  params_depth (known qs) = qtys_depth qs

  pub qtys_depth : QTys → ℕ
  qtys_depth end = 0
  qtys_depth (more q qs) = max (qty_depth q) (qtys_depth qs)
