-- Names and string literals as expressions (C90 6.3.1).
use Rattle.std.specs.Prelude.{ℕ, ◌+◌, ℤ, List, length, Bool, true, false, ◌&&◌, ◌==◌, Option, Some, None, is_some, slice_get, Result, Ok, Err, if◌then◌else◌}
use Rattle.c65_base.specs.declared.code.Code.TheVariants.{Undeclared}
use Rattle.c65_base.specs.declared.names.Name.{Name}
use Rattle.c65_base.specs.declared.refusal.Pos.{Pos}
use Rattle.c65_base.specs.Answers.{Fault, at, ◌>>=◌}
use Rattle.c65_ints.specs.declared.types.IntType.{IntType}
use Rattle.c65_ints.specs.declared.types.IntType.TheVariants.{Int}
use Rattle.c65_ctype.specs.Trees.{int, array, function, QTy, Fn, fn, unknown}
use Rattle.c65_csem.specs.Places.{plain}
use Rattle.c65_csem.specs.Trees.{Typed, node, constant, literal, object, func, rest, ObjectTy, FuncTy}
use Rattle.c65_csem.specs.Typed.{rest_type}
use Rattle.c65_elab_scope.specs.declared.meaning.Bound.{Bound}
use Rattle.c65_elab_scope.specs.declared.meaning.Meaning.{Meaning}
use Rattle.c65_elab_scope.specs.declared.meaning.Meaning.TheVariants as m
use Rattle.c65_elab_scope.specs.Tables.{found}
use Rattle.c65_elab_scope.specs.Scopes.{ScopeTy, char_of}
use Rattle.c65_elab_scope.specs.Parts.{literal_added}
use Rattle.c65_elab_scope.specs.Declaring.{func_declared}
use Rattle.c65_tree.specs.Trees as t

abbrev pub object_named : ℕ → Pos → Option ObjectTy → Result Typed Fault
object_named i p None = Err (at Undeclared p)
object_named i p (Some o) = Ok (node o.ty (object i))

abbrev pub func_named : ℕ → Pos → Option FuncTy → Result Typed Fault
func_named i p None = Err (at Undeclared p)
func_named i p (Some f) = Ok (node (plain (function f.ty)) (func i))

-- an enumeration constant has type int (C90 6.5.2.2)
abbrev pub meaning_named : ScopeTy → Pos → Meaning → Result Typed Fault
meaning_named s p (m.Object i) = object_named i p (slice_get s.unit.objects i)
meaning_named s p (m.Func i) = func_named i p (slice_get s.unit.funcs i)
meaning_named s p (m.Enumerator z) = Ok (node (plain (int Int)) (constant z))
meaning_named s p _ = Err (at Undeclared p)

-- the name of the place behind the further arguments, in the body of a variadic function
abbrev pub is_rest : ScopeTy → Name → Bool
is_rest s n = s.rest.0 == n.0 && is_some s.variadic

abbrev pub bound_named : ScopeTy → Name → Pos → Option Bound → Result Typed Fault
bound_named s n p None = if is_rest s n then Ok (node rest_type rest) else Err (at Undeclared p)
bound_named s n p (Some b) = meaning_named s p b.meaning

abbrev pub named : ScopeTy → Name → Pos → Result Typed Fault
named s n p = bound_named s n p (found s.names n)

-- a function of which no more is known than that it gives int (C90 6.3.2.2)
abbrev pub implicit : Fn
implicit = fn (plain (int Int)) unknown false false

abbrev pub called_unless : ScopeTy → Name → Pos → Option Bound → Result ScopeTy Fault
called_unless s n p None = if is_rest s n then Ok s else func_declared s n implicit None p >>= (λ x. Ok x.1)
called_unless s n p (Some b) = Ok s

abbrev pub called_name : ScopeTy → Name → Pos → Result ScopeTy Fault
called_name s n p = called_unless s n p (found s.names n)

-- a name alone that is called is declared where it was not (C90 6.3.2.2)
abbrev pub called_first : t.ExprTree → ScopeTy → Result ScopeTy Fault
called_first (t.name p n) s = called_name s n p
called_first _ s = Ok s

abbrev pub typedef_at : Pos → Option QTy → Result QTy Fault
typedef_at p None = Err (at Undeclared p)
typedef_at p (Some t) = Ok t

abbrev pub meaning_type : ScopeTy → Pos → Meaning → Result QTy Fault
meaning_type s p (m.Typedef i) = typedef_at p (slice_get s.typedefs i)
meaning_type s p _ = Err (at Undeclared p)

abbrev pub bound_type : ScopeTy → Pos → Option Bound → Result QTy Fault
bound_type s p None = Err (at Undeclared p)
bound_type s p (Some b) = meaning_type s p b.meaning

abbrev pub typedef_type : ScopeTy → Name → Pos → Result QTy Fault
typedef_type s n p = bound_type s p (found s.names n)

-- an array of plain char, with its last zero (C90 6.1.4)
abbrev pub literal_type : IntType → ℕ → QTy
literal_type char n = plain (array (plain (int char)) (Some (n + 1)))

abbrev pub literal_typed : ScopeTy → List ℕ → Result (Typed × ScopeTy) Fault
literal_typed s bytes = literal_added s bytes >>= (λ x. Ok (node (literal_type (char_of s.signed_chars) (length bytes)) (literal x.0), x.1))
