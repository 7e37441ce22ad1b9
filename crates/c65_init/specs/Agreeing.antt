-- Whether a prototype and an old-style definition agree (C90 6.5.4.3): they have as many parameters, and each type of
-- the prototype is compatible with the promoted type of its parameter.
use Rattle.std.specs.Prelude.{ℕ, List, [], ◌∷◌, Bool, true, false, Option, Some, None, is_some, slice_get, Result, Ok, Err, if◌then◌else◌}
use Rattle.c65_base.specs.declared.code.Code.TheVariants.{Redeclared}
use Rattle.c65_base.specs.declared.refusal.Pos.{Pos}
use Rattle.c65_base.specs.Answers.{Fault, at}
use Rattle.c65_ctype.specs.Trees.{Ty, int, QTy, qual, Fn, fn, unknown, known, QTys, end, more, TypesTy}
use Rattle.c65_ctype.specs.Compatible.{are_compatible, stays}
use Rattle.c65_csem.specs.Places.{plain, plain_of, promoted_of}
use Rattle.c65_csem.specs.Trees.{ObjectTy, FuncTy, UnitTy}

-- the type in which an argument without a prototype comes to an object of this type (6.3.2.2)
abbrev pub promoted_ty : Ty → Ty
promoted_ty (int k) = int (promoted_of k)
promoted_ty t = t

abbrev pub passed_as : QTy → QTy
passed_as (qual t c v) = plain (promoted_ty t)

-- Beside a narrow type of a prototype the definition has a prototype too: one without is not compatible with it, and so
-- was refused before. There the parameter's type is its own.
abbrev pub taken_as : Bool → QTy → QTy
taken_as true own = passed_as own
taken_as false own = plain_of own

abbrev pub fits : TypesTy → QTy → QTy → Bool
fits types q own = are_compatible types (taken_as (stays q) own) (plain_of q)

abbrev pub takes : TypesTy → QTy → Option ObjectTy → Bool
takes types q None = false
takes types q (Some o) = fits types q o.ty

abbrev pub all_take : UnitTy → QTys → List ℕ → Bool
all_take u end [] = true
all_take u end (i ∷ is) = false
all_take u (more q qs) [] = false
all_take u (more q qs) (i ∷ is) = if takes u.types q (slice_get u.objects i) then all_take u qs is else false

abbrev pub agree : UnitTy → Fn → List ℕ → Bool
agree u (fn q unknown variadic cdecl) is = true
agree u (fn q (known qs) variadic cdecl) is = all_take u qs is

-- a definition behind prototypes, where its function stands in the unit, and its parameters
abbrev pub as_declared : UnitTy → List ℕ → Pos → Option FuncTy → Result (Unit {0}) Fault
as_declared u is p None = Ok tt
as_declared u is p (Some f) = if agree u f.ty is then Ok tt else Err (at Redeclared p)

-- a declaration behind the definition
abbrev pub as_defined : UnitTy → Pos → Option FuncTy → Result (Unit {0}) Fault
as_defined u p None = Ok tt
as_defined u p (Some f) = if is_some f.body then as_declared u f.params p (Some f) else Ok tt
