-- Tests on units and programs (C90 6.7).
use Rattle.std.specs.Prelude.{◌≡◌, ℕ, List, [], ◌∷◌, length, Bool, true, false, not, ◌||◌, ◌&&◌, ◌==◌, Option, Some, None, is_some, IsSome, IsTrue, All, slice_get, nat_le, nat_lt, if◌then◌else◌}
use Rattle.c65_ctype.specs.Trees.{QTy, type_in, Fn, fn, Params, unknown, known, QTys, end, more, TypesTy}
use Rattle.c65_csem.specs.declared.items.Class.{Class}
use Rattle.c65_csem.specs.declared.items.Class.TheVariants.{Declared}
use Rattle.c65_csem.specs.declared.items.Cell.{Cell}
use Rattle.c65_csem.specs.declared.items.Cell.TheVariants.{Byte, Piece}
use Rattle.c65_csem.specs.declared.items.Target.{Target}
use Rattle.c65_csem.specs.declared.items.Target.TheVariants as targets
use Rattle.c65_base.specs.declared.library.Library.{Library}
use Rattle.c65_csem.specs.Trees.{Stmt, ObjectTy, FuncTy, UnitTy}
use Rattle.c65_csem.specs.Places.{is_passed, is_sized_in, plain_of, is_framed, are_alike}
use Rattle.c65_csem.specs.Typed.{result_of}
use Rattle.c65_csem.specs.Statements.{labels_of}
use Rattle.c65_csem.specs.Units.{context_of, may_have_init, is_defined}
use Rattle.c65_csem_check.specs.Kinds.{is_result, same_size}
use Rattle.c65_csem_check.specs.Expressions.{is_auto}
use Rattle.c65_csem_check.specs.Statements.{are_distinct, measured_in, is_stmt}

abbrev pub names_target : UnitTy → Target → Bool
names_target u (targets.Object i) = nat_lt i (length u.objects)
names_target u (targets.Literal i) = nat_lt i (length u.literals)
names_target u (targets.Func i) = nat_lt i (length u.funcs)

abbrev pub is_cell : UnitTy → Cell → Bool
is_cell u (Byte b) = true
is_cell u (Piece target offset part) = names_target u target && nat_le part 1

abbrev pub are_cells : UnitTy → List Cell → Bool
are_cells u [] = true
are_cells u (x ∷ xs) = if is_cell u x then are_cells u xs else false

abbrev pub is_length : ℕ → Option ℕ → Bool
is_length n None = false
is_length n (Some m) = n == m

abbrev pub is_init : UnitTy → ObjectTy → Option (List Cell) → Bool
is_init u o None = true
is_init u o (Some cells) = may_have_init o.class && is_length (length cells) (measured_in u.types o.ty) && are_cells u cells

abbrev pub has_size : UnitTy → QTy → Class → Bool
has_size u t Declared = true
has_size u t _ = is_sized_in u.types t

abbrev pub is_object : UnitTy → ObjectTy → Bool
is_object u o = has_size u o.ty o.class && is_init u o o.init && (is_some o.name || is_auto o.class)

abbrev pub are_objects : UnitTy → List ObjectTy → Bool
are_objects u [] = true
are_objects u (o ∷ os) = if is_object u o then are_objects u os else false

abbrev pub param_by : TypesTy → Option ObjectTy → Bool
param_by types None = false
param_by types (Some o) = is_framed o.class && is_passed types (type_in o.ty) && is_some o.name

abbrev pub are_params : UnitTy → List ℕ → Bool
are_params u [] = true
are_params u (i ∷ is) = if param_by u.types (slice_get u.objects i) then are_params u is else false

abbrev pub has_type_of : TypesTy → Option ObjectTy → QTy → Bool
has_type_of types None q = false
has_type_of types (Some o) q = are_alike o.ty q && same_size types o.ty q

-- each parameter has the type that the prototype gives it, down to pointers and tags, and its size
abbrev pub params_match : UnitTy → QTys → List ℕ → Bool
params_match u end [] = true
params_match u end (i ∷ is) = false
params_match u (more q qs) [] = false
params_match u (more q qs) (i ∷ is) = if has_type_of u.types (slice_get u.objects i) q then params_match u qs is else false

abbrev pub prototype_matches : UnitTy → Fn → List ℕ → Bool
prototype_matches u (fn q unknown variadic cdecl) is = true
prototype_matches u (fn q (known qs) variadic cdecl) is = params_match u qs is

abbrev pub is_body : UnitTy → FuncTy → Stmt → Bool
is_body u f body = are_params u f.params && prototype_matches u f.ty f.params && are_distinct f.params && is_result u.types (plain_of (result_of f.ty)) && are_distinct (labels_of body) && is_stmt u (context_of f body) body

abbrev pub is_empty : List ℕ → Bool
is_empty [] = true
is_empty (n ∷ ns) = false

abbrev pub has_body : UnitTy → FuncTy → Option Stmt → Bool
has_body u f None = is_empty f.params
has_body u f (Some body) = is_body u f body

abbrev pub is_func : UnitTy → FuncTy → Bool
is_func u f = has_body u f f.body

abbrev pub are_funcs : UnitTy → List FuncTy → Bool
are_funcs u [] = true
are_funcs u (f ∷ fs) = if is_func u f then are_funcs u fs else false

abbrev pub is_unit : UnitTy → Bool
is_unit u = are_objects u u.objects && are_funcs u u.funcs

-- Programs.

abbrev pub are_defined : List ObjectTy → Bool
are_defined [] = true
are_defined (o ∷ os) = if is_defined o.class then are_defined os else false

abbrev pub is_whole : Option Stmt → Option Library → Bool
is_whole None None = false
is_whole None (Some l) = true
is_whole (Some body) None = true
is_whole (Some body) (Some l) = false

abbrev pub are_linked : List FuncTy → Bool
are_linked [] = true
are_linked (f ∷ fs) = if is_whole f.body f.library then are_linked fs else false

abbrev pub starts_in : Option FuncTy → Bool
starts_in None = false
starts_in (Some f) = is_some f.body

abbrev pub is_program : UnitTy → ℕ → Bool
is_program u main = are_defined u.objects && are_linked u.funcs && starts_in (slice_get u.funcs main)

-- each object that has a size is within the limit of 65,535 bytes
abbrev pub IsMeasured : UnitTy → ObjectTy → Type 0
IsMeasured u o = IsTrue (is_sized_in u.types o.ty) → IsSome (measured_in u.types o.ty)

abbrev pub IsMeasuredUnit : UnitTy → Type 0
IsMeasuredUnit u = All (IsMeasured u) u.objects
