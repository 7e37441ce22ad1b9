-- Function definitions (C90 6.7.1).
use Rattle.std.specs.Prelude.{ℕ, zero, suc, List, [], ◌∷◌, ◌++◌, Bool, false, Option, Some, None, is_some, slice_get, Result, Ok, Err, if◌then◌else◌}
use Rattle.c65_base.specs.declared.code.Code.TheVariants.{TypeForm, Redeclared}
use Rattle.c65_base.specs.declared.names.Name.{Name}
use Rattle.c65_base.specs.declared.refusal.Pos.{Pos}
use Rattle.c65_base.specs.Answers.{Fault, at, ◌>>=◌}
use Rattle.c65_ints.specs.declared.types.IntType.TheVariants.{Int}
use Rattle.c65_ctype.specs.Trees.{Ty, int, function, QTy, type_in, Fn, fn}
use Rattle.c65_csem.specs.Places.{plain, plain_of}
use Rattle.c65_csem.specs.Trees.{Stmt, empty, block, FuncTy}
use Rattle.c65_elab_scope.specs.declared.meaning.Entity.{Entity}
use Rattle.c65_elab_scope.specs.declared.meaning.Entity.TheVariants as e
use Rattle.c65_elab_scope.specs.Scopes.{ScopeTy, opened, closed}
use Rattle.c65_elab_scope.specs.Parts.{with_funcs, without_spills}
use Rattle.c65_elab_scope.specs.Declaring.{declared, enumerator_declared}
use Rattle.c65_tree.specs.declared.expr.Storage.{Storage}
use Rattle.c65_tree.specs.Trees as t
use Rattle.c65_tree.specs.Trees.{StmtTree, FunctionTree}
use Rattle.c65_elab_declare.specs.Calling.{name_place}
use Rattle.c65_elab_declare.specs.declared.heading.Enumerator.{Enumerator}
use Rattle.c65_elab_declare.specs.Headings.{HeadingTy}
use Rattle.c65_elab.specs.Headings.{headed}
use Rattle.c65_elab.specs.Typing.{specified}
use Rattle.c65_init.specs.Agreeing.{as_declared}
use Rattle.c65_init.specs.Bodies.{BodyTy, new_body}
use Rattle.c65_init.specs.Labels.{labels_of}
use Rattle.c65_init.specs.Parameters.{parameters_of}
use Rattle.c65_init.specs.Statements.{block_in}

abbrev pub function_name : Option Name → Pos → Result Name Fault
function_name None p = Err (at TypeForm p)
function_name (Some m) p = Ok m

abbrev pub function_number : Entity → Pos → Result ℕ Fault
function_number (e.Func n) p = Ok n
function_number _ p = Err (at TypeForm p)

-- no function is defined twice
abbrev pub without_body : Option FuncTy → Pos → Result (Unit {0}) Fault
without_body None p = Ok tt
without_body (Some f) p = if is_some f.body then Err (at Redeclared p) else Ok tt

abbrev pub function_declared : HeadingTy → Option Storage → Pos → ScopeTy → Result (ℕ × ScopeTy) Fault
function_declared h storage p s = do
  m ← function_name h.name p
  u ← declared s m h.ty storage p
  n ← function_number u.0 p
  first ← without_body (slice_get u.1.unit.funcs n) p
  Ok (n, u.1)

abbrev pub result_in : Fn → QTy
result_in (fn t ps variadic cdecl) = t

-- what a function gives, without qualifiers
abbrev pub gives_in : Option FuncTy → QTy
gives_in None = plain (int Int)
gives_in (Some f) = plain_of (result_in f.ty)

-- the outermost block of a function is that of its parameters
abbrev pub body_in : StmtTree → BodyTy → ScopeTy → Result ((Stmt × BodyTy) × ScopeTy) Fault
body_in (t.block p ds ss) k s = block_in ds ss k s
body_in _ k s = Ok ((empty, k), s)

-- the objects without names live in the outermost block too, behind the others
abbrev pub with_unnamed : List ℕ → Stmt → Stmt
with_unnamed unnamed (block objects ss) = block (objects ++ unnamed) ss
with_unnamed unnamed body = body

abbrev pub with_body : List FuncTy → ℕ → List ℕ → Stmt → List FuncTy
with_body [] n params body = []
with_body (f ∷ fs) zero params body = record f { params = params; body = Some body } ∷ fs
with_body (f ∷ fs) (suc n) params body = f ∷ with_body fs n params body

abbrev pub function_finished : ScopeTy → ℕ → List ℕ → Stmt → ScopeTy
function_finished s n params body = with_funcs s (with_body s.unit.funcs n params body)

-- the enumeration constants of the parameters are of the function's block too (C90 6.1.2.1)
abbrev pub enumerators_declared : List Enumerator → Pos → ScopeTy → Result ScopeTy Fault
enumerators_declared [] p s = Ok s
enumerators_declared (e ∷ es) p s = enumerator_declared s e.name e.value p >>= enumerators_declared es p

-- whether a function takes further arguments
abbrev pub is_variadic : Ty → Bool
is_variadic (function (fn t ps variadic cdecl)) = variadic
is_variadic _ = false

abbrev pub definition_of : FunctionTree → ScopeTy → Result ScopeTy Fault
definition_of f s = do
  b ← specified f.specifiers false s
  h ← headed b.0.1 f.declarator b.1
  x ← function_declared h.0 b.0.0 (name_place f.declarator) h.1
  u ← opened (is_variadic (type_in h.0.ty)) x.1
  v ← enumerators_declared h.0.enumerators (name_place f.declarator) u
  ps ← parameters_of h.0.formals f.declarations v
  same ← as_declared ps.1.unit ps.0 (name_place f.declarator) (slice_get ps.1.unit.funcs x.0)
  y ← body_in f.body (new_body (labels_of f.body) (gives_in (slice_get ps.1.unit.funcs x.0))) (without_spills ps.1)
  Ok (function_finished (closed (without_spills y.1)) x.0 ps.0 (with_unnamed y.1.spills y.0.0))
