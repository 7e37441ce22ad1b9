-- Functions whose definition has no prototype (C90 6.5.4.3, 6.7.1): a prototype that stands elsewhere in the
-- unit is that of calls. Where it differs from the types of the parameters, as the promoted type does
-- from a narrow one, the function has the type of its definition.
use Rattle.std.specs.Prelude.{ℕ, zero, suc, ◌+◌, min, length, ◌&&◌, not, false, Option, Some, None, is_some, slice_get, if◌then◌else◌}
use Rattle.c65_ctype.specs.Trees.{Fn, fn, unknown}
use Rattle.c65_csem.specs.Trees.{FuncTy, UnitTy}
use Rattle.c65_csem_check.specs.Units.{prototype_matches}
use Rattle.c65_elab_scope.specs.Scopes.{ScopeTy}
use Rattle.c65_elab_scope.specs.Parts.{func_redeclared}

abbrev pub unprototyped : Fn → Fn
unprototyped (fn t ps variadic cdecl) = fn t unknown false cdecl

-- the type that a function gets, if it gets another one
abbrev pub type_settled : UnitTy → Option FuncTy → Option Fn
type_settled u None = None
type_settled u (Some f) = if is_some f.body && not (prototype_matches u f.ty f.params) then Some (unprototyped f.ty) else None

abbrev pub with_type : ScopeTy → ℕ → Option Fn → ScopeTy
with_type s n None = s
with_type s n (Some t) = func_redeclared s n t

abbrev pub function_settled : ScopeTy → ℕ → ScopeTy
function_settled s n = with_type s n (type_settled s.unit (slice_get s.unit.funcs n))

-- so many functions from one on
abbrev pub functions_from : ℕ → ℕ → ScopeTy → ScopeTy
functions_from zero n s = s
functions_from (suc turns) n s = functions_from turns (n + 1) (function_settled s (min n 4294967295))

abbrev pub functions_settled : ScopeTy → ScopeTy
functions_settled s = functions_from (length s.unit.funcs) 0 s
