-- The parameters of a function definition, by a prototype or in the old style (C90 6.7.1).
use Rattle.std.specs.Prelude.{ℕ, ◌+◌, ◌==◌, List, [], ◌∷◌, ◌++◌, map, set, slice_get, Bool, true, false, Option, Some, None, is_some, option_map, Result, Ok, Err, if◌then◌else◌}
use Rattle.c65_base.specs.declared.code.Code.TheVariants.{ParameterList, Redeclared, Initialiser}
use Rattle.c65_base.specs.declared.names.Name.{Name}
use Rattle.c65_base.specs.declared.refusal.Pos.{Pos}
use Rattle.c65_base.specs.Answers.{Fault, at, ◌>>=◌}
use Rattle.c65_ints.specs.declared.types.IntType.TheVariants.{Int}
use Rattle.c65_ctype.specs.Trees.{Ty, int, pointer, array, tag, function, QTy, qual, type_in, TypesTy}
use Rattle.c65_ctype.specs.Sizes.{size_at}
use Rattle.c65_ctype.specs.Views.{qty_of}
use Rattle.c65_csem.specs.Places.{plain}
use Rattle.c65_elab_convert.specs.Structures.{structure_size}
use Rattle.c65_elab_scope.specs.declared.meaning.Entity.{Entity}
use Rattle.c65_elab_scope.specs.declared.meaning.Entity.TheVariants as e
use Rattle.c65_elab_scope.specs.Scopes.{ScopeTy}
use Rattle.c65_elab_scope.specs.Declaring.{declared}
use Rattle.c65_tree.specs.declared.expr.Storage.{Storage}
use Rattle.c65_tree.specs.declared.expr.Storage.TheVariants as storages
use Rattle.c65_tree.specs.Trees.{SpecifiersTree, specifiers, DeclaratorTree, InitTree, InitDeclaratorTree, DeclTree}
use Rattle.c65_elab_declare.specs.Calling.{name_place}
use Rattle.c65_elab_declare.specs.Declarators.{FormalTy, FormalsTy, nothing, names, prototype}
use Rattle.c65_elab_declare.specs.Prototypes.{param_storage}
use Rattle.c65_elab.specs.Headings.{declarator_in}
use Rattle.c65_elab.specs.Typing.{specified}
use Rattle.c65_init_cells.specs.Items.{place_of}
use Rattle.c65_init.specs.declared.old_style.Old.{Old}
use Rattle.c65_init.specs.Declarations.{is_none_of}

-- a parameter of an old-style definition: its type once it is declared
pub record OldTy : Type 0 where
  pub name : Name
  pub ty : Option QTy
  pub is_register : Bool
  pub pos : Pos

abbrev pub old_of : Old → OldTy
old_of o = record { name = o.name; ty = option_map qty_of o.ty; is_register = o.is_register; pos = o.pos }

abbrev pub not_declared : Name × Pos → OldTy
not_declared m = record { name = m.0; ty = None; is_register = false; pos = m.1 }

-- ---- the declarations of an old-style definition

-- the type of a parameter: an array is a pointer to its elements, and a function a pointer to it
abbrev pub adjusted_ty : Ty → Bool → Bool → QTy
adjusted_ty (array q n) c v = plain (pointer q)
adjusted_ty (function f) c v = plain (pointer (plain (function f)))
adjusted_ty t c v = qual t c v

abbrev pub adjusted : QTy → QTy
adjusted (qual t c v) = adjusted_ty t c v

-- each parameter has a size, and a structure or union is small (C90 6.7.1)
abbrev pub may_be_parameter : TypesTy → Ty → Pos → Result (Unit {0}) Fault
may_be_parameter types (tag n) p = structure_size types p (tag n) >>= (λ size. Ok tt)
may_be_parameter types t p = size_at types p t >>= (λ size. Ok tt)

-- the first place of a name among parameters, where the first of these has a place
abbrev pub old_from : List OldTy → Name → ℕ → Option ℕ
old_from [] m n = None
old_from (o ∷ os) m n = if o.name.0 == m.0 then Some n else old_from os m (n + 1)

abbrev pub with_type : OldTy → QTy → Bool → OldTy
with_type o t register = record o { ty = Some t; is_register = register }

abbrev pub entered_old : List OldTy → ℕ → QTy → Bool → Pos → Option OldTy → Result (List OldTy) Fault
entered_old os n t register p None = Err (at ParameterList p)
entered_old os n t register p (Some o) = if is_some o.ty then Err (at Redeclared p) else Ok (set os n (with_type o t register))

abbrev pub entered_at : List OldTy → QTy → Bool → Pos → Option ℕ → Result (List OldTy) Fault
entered_at os t register p None = Err (at ParameterList p)
entered_at os t register p (Some n) = entered_old os n t register p (slice_get os n)

-- a parameter gets its type once, by its name
abbrev pub entered : List OldTy → Option Name → QTy → Bool → Pos → Result (List OldTy) Fault
entered os None t register p = Err (at ParameterList p)
entered os (Some m) t register p = entered_at os t register p (old_from os m 0)

abbrev pub old_declarator : Bool → QTy → DeclaratorTree → List OldTy → ScopeTy → Result (List OldTy × ScopeTy) Fault
old_declarator register base d os s = do
  x ← declarator_in base d s
  may ← may_be_parameter x.1.unit.types (type_in (adjusted x.0.1)) (name_place d)
  us ← entered os x.0.0 (adjusted x.0.1) register (name_place d)
  Ok (us, x.1)

abbrev pub no_init : Option InitTree → Result (Unit {0}) Fault
no_init None = Ok tt
no_init (Some i) = Err (at Initialiser (place_of i))

abbrev pub old_one : Bool → QTy → InitDeclaratorTree → List OldTy → ScopeTy → Result (List OldTy × ScopeTy) Fault
old_one register base d os s = do
  x ← old_declarator register base d.declarator os s
  none ← no_init d.init
  Ok x

abbrev pub old_declarators : Bool → QTy → List InitDeclaratorTree → List OldTy → ScopeTy → Result (List OldTy × ScopeTy) Fault
old_declarators register base [] os s = Ok (os, s)
old_declarators register base (d ∷ ds) os s = do
  x ← old_one register base d os s
  old_declarators register base ds x.0 x.1

-- no storage class but `register`, with declarators or without
abbrev pub old_declaration : DeclTree → List OldTy → ScopeTy → Result (List OldTy × ScopeTy) Fault
old_declaration d os s = do
  b ← specified d.specifiers (is_none_of d.declarators) s
  register ← param_storage b.0.0 d.specifiers
  old_declarators register b.0.1 d.declarators os b.1

abbrev pub old_declarations : List DeclTree → List OldTy → ScopeTy → Result (List OldTy × ScopeTy) Fault
old_declarations [] os s = Ok (os, s)
old_declarations (d ∷ ds) os s = do
  x ← old_declaration d os s
  old_declarations ds x.0 x.1

-- ---- parameters as objects of the function's block

abbrev pub storage_if : Bool → Option Storage
storage_if true = Some storages.Register
storage_if false = None

abbrev pub object_in : Pos → ScopeTy → Entity → Result (ℕ × ScopeTy) Fault
object_in p s (e.Object n) = Ok (n, s)
object_in p s _ = Err (at ParameterList p)

abbrev pub parameter_declared : Name → QTy → Bool → Pos → ScopeTy → Result (ℕ × ScopeTy) Fault
parameter_declared m t register p s = declared s m t (storage_if register) p >>= (λ x. object_in p x.1 x.0)

-- a parameter of a prototype needs a name
abbrev pub formal_named : FormalTy → Option Name → ScopeTy → Result (ℕ × ScopeTy) Fault
formal_named f None s = Err (at ParameterList f.pos)
formal_named f (Some m) s = parameter_declared m f.ty f.is_register f.pos s

-- objects, and behind them those of a prototype
abbrev pub formals_declared : List FormalTy → List ℕ → ScopeTy → Result (List ℕ × ScopeTy) Fault
formals_declared [] before s = Ok (before, s)
formals_declared (f ∷ fs) before s = do
  x ← formal_named f f.name s
  formals_declared fs (before ++ x.0 ∷ []) x.1

-- one that was not declared is an int
abbrev pub type_or_int : Option QTy → QTy
type_or_int None = plain (int Int)
type_or_int (Some t) = t

abbrev pub olds_declared : List OldTy → List ℕ → ScopeTy → Result (List ℕ × ScopeTy) Fault
olds_declared [] before s = Ok (before, s)
olds_declared (o ∷ os) before s = do
  x ← parameter_declared o.name (type_or_int o.ty) o.is_register o.pos s
  olds_declared os (before ++ x.0 ∷ []) x.1

abbrev pub from_names : List (Name × Pos) → List DeclTree → ScopeTy → Result (List ℕ × ScopeTy) Fault
from_names ms ds s = do
  x ← old_declarations ds (map not_declared ms) s
  olds_declared x.0 [] x.1

abbrev pub specifiers_place : SpecifiersTree → Pos
specifiers_place (specifiers p qs) = p

-- no declarations stand behind a prototype
abbrev pub no_declarations : List DeclTree → Result (Unit {0}) Fault
no_declarations [] = Ok tt
no_declarations (d ∷ ds) = Err (at ParameterList (specifiers_place d.specifiers))

abbrev pub parameters_of : FormalsTy → List DeclTree → ScopeTy → Result (List ℕ × ScopeTy) Fault
parameters_of nothing ds s = from_names [] ds s
parameters_of (names ms) ds s = from_names ms ds s
parameters_of (prototype fs variadic) ds s = do
  none ← no_declarations ds
  formals_declared fs [] s
