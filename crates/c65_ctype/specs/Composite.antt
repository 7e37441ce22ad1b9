-- The composite type of two compatible types (C90 6.1.2.6).
use Rattle.std.specs.Prelude.{ℕ, false, Option, Some, None, is_some, if◌then◌else◌}
use Rattle.c65_ctype.specs.Trees.{Ty, pointer, array, tag, function, QTy, qual, Fn, fn, Params, unknown, known, QTys, end, more, TypesTy}
use Rattle.c65_ctype.specs.Tables.{layout_at}

-- the number of elements that is known
abbrev pub joined_count : Option ℕ → Option ℕ → Option ℕ
joined_count (Some m) n = Some m
joined_count None n = n

-- of two compatible tags the first one that is finished, and else the second
abbrev pub joined_tag : TypesTy → ℕ → ℕ → ℕ
joined_tag types s t = if is_some (layout_at types s) then s else t

-- Types that hold no array, function or tag of another unit are their own composite types.
abbrev mutual
  pub composite_of : TypesTy → QTy → QTy → QTy
  composite_of types (qual t c v) (qual u d w) = qual (composite_ty types t u) c v

  pub composite_ty : TypesTy → Ty → Ty → Ty
  composite_ty types (pointer q) (pointer r) = pointer (composite_of types q r)
  composite_ty types (array q m) (array r n) = array (composite_of types q r) (joined_count m n)
  composite_ty types (tag s) (tag t) = tag (joined_tag types s t)
  composite_ty types (function f) (function g) = function (composite_fn types f g)
  composite_ty types t u = t

  pub composite_fn : TypesTy → Fn → Fn → Fn
  composite_fn types (fn q xs variadic cdecl) (fn r ys other stack) = fn (composite_of types q r) (composite_params types xs ys) variadic cdecl

  -- the one prototype, or each parameter of both
  pub composite_params : TypesTy → Params → Params → Params
  composite_params types unknown ys = ys
  composite_params types (known xs) unknown = known xs
  composite_params types (known xs) (known ys) = known (composite_all types xs ys)

  pub composite_all : TypesTy → QTys → QTys → QTys
  composite_all types end ys = end
  composite_all types (more x xs) end = end
  composite_all types (more x xs) (more y ys) = more (composite_param types x y) (composite_all types xs ys)

  -- a parameter is taken without its own qualifiers
  pub composite_param : TypesTy → QTy → QTy → QTy
  composite_param types (qual t c v) (qual u d w) = qual (composite_ty types t u) false false
