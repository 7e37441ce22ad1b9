-- What a call passes, and which functions may be called so (C90 6.3.2.2).
use Rattle.std.specs.Prelude.{ℕ, zero, suc, ◌&&◌, Bool, true, false, List, [], ◌∷◌, Option, Some, None}
use Rattle.c65_ctype.specs.Trees.{Ty, void, int, pointer, function, qual, Fn, fn, unknown, known, QTys, end, more, TypesTy, type_in}
use Rattle.c65_csem.specs.Trees.{ObjectTy, FuncTy, UnitTy}
use Rattle.c65_ctype.specs.Compatible.{are_compatible}
use Rattle.c65_csem.specs.Places.{plain, promoted_of}
use Rattle.c65_meaning.specs.Shapes.{object_in}

-- the integer promotions (C90 6.2.1.1)
abbrev pub promoted : Ty → Ty
promoted (int t) = int (promoted_of t)
promoted t = t

-- the function type of a function, or of a pointer to one
abbrev pub function_type : Ty → Option Fn
function_type (function f) = Some f
function_type (pointer (qual (function f) c v)) = Some f
function_type _ = None

-- a function that takes further arguments
abbrev pub is_variadic : Fn → Bool
is_variadic (fn result params variadic cdecl) = variadic

-- how many arguments a function's prototype names
abbrev pub count_of : QTys → ℕ
count_of end = zero
count_of (more q rest) = suc (count_of rest)

abbrev pub named_count : Fn → ℕ
named_count (fn result unknown variadic cdecl) = zero
named_count (fn result (known params) variadic cdecl) = count_of params

-- what a call passes: by its own prototype, and further arguments and those without a prototype as they are
abbrev pub passed_by : QTys → List Ty → List Ty
passed_by end args = args
passed_by (more q rest) [] = []
passed_by (more q rest) (t ∷ args) = type_in q ∷ passed_by rest args

abbrev pub passed_to : Option Fn → List Ty → List Ty
passed_to (Some (fn result (known params) variadic cdecl)) args = passed_by params args
passed_to _ args = args

module _ (types : TypesTy) where
  -- arguments of these types for the parameters of a prototype
  abbrev pub fit : List Ty → Bool → QTys → Bool
  fit [] variadic end = true
  fit (t ∷ args) variadic end = variadic
  fit [] variadic (more q rest) = false
  fit (t ∷ args) variadic (more q rest) = are_compatible types (plain t) (plain (type_in q)) && fit args variadic rest

module _ (u : UnitTy) where
  abbrev pub parameter_type : Option ObjectTy → Ty
  parameter_type None = void
  parameter_type (Some x) = type_in x.ty

  -- and for those of a definition without a prototype
  abbrev pub fit_objects : List Ty → List ℕ → Bool
  fit_objects [] [] = true
  fit_objects (t ∷ args) (i ∷ objects) = are_compatible u.types (plain t) (plain (promoted (parameter_type (object_in u i)))) && fit_objects args objects
  fit_objects _ _ = false

  abbrev pub fit_definition : List Ty → List ℕ → Fn → Bool
  fit_definition args objects (fn result unknown variadic cdecl) = fit_objects args objects
  fit_definition args objects (fn result (known params) variadic cdecl) = fit u.types args variadic params

  abbrev pub agree : Option Fn → Fn → Bool
  agree None g = false
  agree (Some f) g = are_compatible u.types (plain (function f)) (plain (function g))

  -- the type of the callee is compatible with the call
  abbrev pub accepts : Ty → List Ty → FuncTy → Bool
  accepts callee args g = agree (function_type callee) g.ty && fit_definition (passed_to (function_type callee) args) g.params g.ty
