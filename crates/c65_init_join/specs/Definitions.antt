-- The prototype of a function definition (C90 6.7.1): one in the old style has none, and its parameters give it one.
use Rattle.std.specs.Prelude.{ℕ, List, [], ◌∷◌, map, Option, Some, None, slice_get}
use Rattle.c65_ctype.specs.Trees.{Ty, int, QTy, qual, Fn, fn, unknown, known, QTys, end, more}
use Rattle.c65_csem.specs.Library.{nothing}
use Rattle.c65_csem.specs.Places.{promoted_of}
use Rattle.c65_csem.specs.Trees.{Stmt, ObjectTy, FuncTy}

abbrev pub parameter_type : Option ObjectTy → QTy
parameter_type None = nothing
parameter_type (Some o) = o.ty

-- the types of parameters, by the numbers of their objects
abbrev pub parameter_types : List ObjectTy → List ℕ → List QTy
parameter_types os is = map (λ i. parameter_type (slice_get os i)) is

abbrev pub row_of : List QTy → QTys
row_of [] = end
row_of (q ∷ qs) = more q (row_of qs)

abbrev pub with_row : List QTy → Fn → Fn
with_row qs (fn q ps variadic cdecl) = fn q (known (row_of qs)) variadic cdecl

abbrev pub own_prototype : List ObjectTy → List ℕ → Fn → Fn
own_prototype os is (fn q unknown variadic cdecl) = with_row (parameter_types os is) (fn q unknown variadic cdecl)
own_prototype os is (fn q (known qs) variadic cdecl) = fn q (known qs) variadic cdecl

-- the type in which an argument comes to a parameter where there is no prototype (C90 6.3.2.2)
abbrev pub promoted_ty : Ty → Ty
promoted_ty (int k) = int (promoted_of k)
promoted_ty t = t

abbrev pub promoted : QTy → QTy
promoted (qual t c v) = qual (promoted_ty t) c v

-- A prototype agrees with a definition in the old style where it agrees with the prototype of the promoted types of the
-- definition's parameters (C90 6.5.4.3).
abbrev pub defined_as : List ObjectTy → List ℕ → Fn → Fn
defined_as os is (fn q unknown variadic cdecl) = with_row (map promoted (parameter_types os is)) (fn q unknown variadic cdecl)
defined_as os is (fn q (known qs) variadic cdecl) = fn q (known qs) variadic cdecl

-- the type with which the other declarations of a function have to agree
abbrev pub agreeing_by : List ObjectTy → FuncTy → Option Stmt → Fn
agreeing_by os f None = f.ty
agreeing_by os f (Some body) = defined_as os f.params f.ty

abbrev pub agreeing : List ObjectTy → FuncTy → Fn
agreeing os f = agreeing_by os f f.body
