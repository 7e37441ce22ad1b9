-- Declarations of objects, functions and types, with their initialisers (C90 6.5, 6.7.2).
use Rattle.std.specs.Prelude.{ℕ, zero, suc, nat_lt, List, [], ◌∷◌, ◌++◌, map, Bool, true, false, ◌&&◌, Option, Some, None, is_some, slice_get, Result, Ok, Err, if◌then◌else◌}
use Rattle.c65_base.specs.declared.code.Code.TheVariants.{Initialiser, Redeclared, Specifiers}
use Rattle.c65_base.specs.declared.names.Name.{Name}
use Rattle.c65_base.specs.declared.refusal.Pos.{Pos}
use Rattle.c65_base.specs.Answers.{Fault, at, ◌>>=◌}
use Rattle.c65_tree.specs.declared.expr.Storage.{Storage}
use Rattle.c65_tree.specs.declared.expr.Storage.TheVariants as storages
use Rattle.c65_tree.specs.Trees.{InitTree, value, list, InitDeclaratorTree, DeclTree}
use Rattle.c65_ctype.specs.Trees.{Ty, int, pointer, array, tag, QTy, type_in, TypesTy}
use Rattle.c65_ctype.specs.Sizes.{size_at}
use Rattle.c65_csem.specs.declared.items.Cell.{Cell}
use Rattle.c65_csem.specs.declared.items.Class.{Class}
use Rattle.c65_csem.specs.declared.items.Class.TheVariants as classes
use Rattle.c65_csem.specs.Places.{is_automatic}
use Rattle.c65_csem.specs.Trees.{ObjectTy, Stmt, clear}
use Rattle.c65_csem.specs.Views.{stmt_of}
use Rattle.c65_elab_scope.specs.declared.meaning.Entity.{Entity}
use Rattle.c65_elab_scope.specs.declared.meaning.Entity.TheVariants as e
use Rattle.c65_elab_scope.specs.Scopes.{ScopeTy}
use Rattle.c65_elab_scope.specs.Parts.{with_objects, completed}
use Rattle.c65_elab_scope.specs.Declaring.{declared}
use Rattle.c65_elab_declare.specs.Calling.{name_place}
use Rattle.c65_elab.specs.Headings.{declarator_in}
use Rattle.c65_elab.specs.Typing.{specified}
use Rattle.c65_init_cells.specs.Cells.{grown}
use Rattle.c65_init_cells.specs.Items.{place_of}
use Rattle.c65_init_cells.specs.Sinks.{SinkTy, beginning}
use Rattle.c65_init.specs.declared.declare.TentativeObject.{TentativeObject}
use Rattle.c65_init.specs.declared.declare.Locals.{Locals}
use Rattle.c65_init.specs.Agreeing.{as_defined}
use Rattle.c65_init.specs.Initials.{initial_of}

-- the automatic objects of a block, and the statements that begin them; the tentative definitions of a unit
pub record LocalsTy : Type 0 where
  pub objects : List ℕ
  pub stmts : List Stmt
  pub tentative : List TentativeObject

abbrev pub locals_of : Locals → LocalsTy
locals_of k = record { objects = k.objects.items; stmts = map stmt_of k.stmts.items; tentative = k.tentative.items }

abbrev pub no_locals : LocalsTy
no_locals = record { objects = []; stmts = []; tentative = [] }

abbrev pub with_local : LocalsTy → ℕ → LocalsTy
with_local k n = record k { objects = k.objects ++ n ∷ [] }

-- ---- objects without an initialiser

abbrev pub class_in : Option ObjectTy → Class
class_in None = classes.Declared
class_in (Some o) = o.class

abbrev pub class_at : ScopeTy → ℕ → Class
class_at s n = class_in (slice_get s.unit.objects n)

abbrev pub size_in : TypesTy → Pos → Option ObjectTy → Result ℕ Fault
size_in types p None = Ok 0
size_in types p (Some o) = size_at types p (type_in o.ty)

-- the size that an object needs
abbrev pub size_needed : ScopeTy → ℕ → Pos → Result ℕ Fault
size_needed s n p = size_in s.unit.types p (slice_get s.unit.objects n)

abbrev pub is_static : Class → Bool
is_static classes.Static = true
is_static _ = false

-- the size of a tentative definition is asked for at the end of its unit (C90 6.7.2)
abbrev pub with_tentative : Class → LocalsTy → ℕ → Pos → LocalsTy
with_tentative classes.Tentative k n p = record k { tentative = k.tentative ++ record { object = n; pos = p } ∷ [] }
with_tentative _ k n p = k

abbrev pub sized_local : Class → ScopeTy → LocalsTy → ℕ → Pos → Result LocalsTy Fault
sized_local class s k n p = if is_automatic class then size_needed s n p >>= (λ size. Ok (with_local k n)) else (if is_static class && nat_lt 0 s.block then size_needed s n p >>= (λ size. Ok k) else Ok (with_tentative class k n p))

-- an object of a block has a size
abbrev pub uninitialised_of : ScopeTy → LocalsTy → ℕ → Pos → Result LocalsTy Fault
uninitialised_of s k n p = sized_local (class_at s n) s k n p

-- ---- objects with an initialiser

-- a declaration in a block that names an object of elsewhere
abbrev pub is_outer : Option Storage → ℕ → Bool
is_outer (Some storages.Extern) block = nat_lt 0 block
is_outer _ block = false

-- no object is initialised twice
abbrev pub to_begin : Pos → Option ObjectTy → Result (Class × QTy) Fault
to_begin p None = Err (at Redeclared p)
to_begin p (Some o) = if is_some o.init then Err (at Redeclared p) else Ok (o.class, o.ty)

abbrev pub no_values : ℕ → Class → SinkTy
no_values n class = record { object = n; is_automatic = is_automatic class; cells = []; stmts = [] }

-- an array whose number of elements is not known has those of its initialiser
abbrev pub counted_by : Ty → ScopeTy → ℕ → ℕ → ScopeTy
counted_by (array q None) s n count = completed s n count
counted_by _ s n count = s

-- one value begins the whole object
abbrev pub is_whole : Ty → InitTree → Bool
is_whole (int kind) i = true
is_whole (pointer q) i = true
is_whole (tag n) (value p x) = true
is_whole (tag n) (list p is) = false
is_whole _ i = false

-- all bytes become zero first
abbrev pub cleared : Bool → ℕ → List Stmt
cleared true n = []
cleared false n = clear n ∷ []

abbrev pub with_automatic : LocalsTy → ℕ → Bool → SinkTy → LocalsTy
with_automatic k n whole sink = record k { objects = k.objects ++ n ∷ []; stmts = (k.stmts ++ cleared whole n) ++ beginning sink }

-- the class of an object that is defined with an initialiser (C90 6.7.2)
abbrev pub defined_as : Class → Class
defined_as classes.Static = classes.Static
defined_as _ = classes.External

abbrev pub with_init : List ObjectTy → ℕ → Class → List Cell → List ObjectTy
with_init [] n class cells = []
with_init (o ∷ os) zero class cells = record o { class = defined_as class; init = Some cells } ∷ os
with_init (o ∷ os) (suc n) class cells = o ∷ with_init os n class cells

abbrev pub with_static : ScopeTy → ℕ → Class → List Cell → ScopeTy
with_static s n class cells = with_objects s (with_init s.unit.objects n class cells)

abbrev pub finished : LocalsTy → ScopeTy → ℕ → Class → Bool → ℕ → SinkTy → LocalsTy × ScopeTy
finished k s n class whole size sink = if is_automatic class then (with_automatic k n whole sink, s) else (k, with_static s n class (grown sink.cells size))

abbrev pub begun_of : LocalsTy → ℕ → InitTree → Pos → Class × QTy → ScopeTy → Result (LocalsTy × ScopeTy) Fault
begun_of k n i p o s = do
  x ← initial_of o.1 i (no_values n o.0, s)
  size ← size_needed (counted_by (type_in o.1) x.1.1 n x.0) n p
  Ok (finished k (counted_by (type_in o.1) x.1.1 n x.0) n o.0 (is_whole (type_in o.1) i) size x.1.0)

abbrev pub initialised_of : Option Storage → LocalsTy → ℕ → InitTree → Pos → ScopeTy → Result (LocalsTy × ScopeTy) Fault
initialised_of storage k n i p s = if is_outer storage s.block then Err (at Initialiser (place_of i)) else (to_begin p (slice_get s.unit.objects n) >>= (λ o. begun_of k n i p o s))

-- ---- declarators

abbrev pub entity_alone : LocalsTy → Pos → ScopeTy → Entity → Result LocalsTy Fault
entity_alone k p s (e.Object n) = uninitialised_of s k n p
entity_alone k p s (e.Func n) = as_defined s.unit p (slice_get s.unit.funcs n) >>= (λ same. Ok k)
entity_alone k p s e.Typedef = Ok k

-- objects alone have initialisers
abbrev pub entity_given : Option Storage → LocalsTy → InitTree → Pos → ScopeTy → Entity → Result (LocalsTy × ScopeTy) Fault
entity_given storage k i p s (e.Object n) = initialised_of storage k n i p s
entity_given storage k i p s _ = Err (at Initialiser (place_of i))

abbrev pub entity_begun : Option Storage → LocalsTy → Option InitTree → Pos → ScopeTy → Entity → Result (LocalsTy × ScopeTy) Fault
entity_begun storage k (Some i) p s entity = entity_given storage k i p s entity
entity_begun storage k None p s entity = entity_alone k p s entity >>= (λ u. Ok (u, s))

abbrev pub name_given : Option Name → Pos → Result Name Fault
name_given None p = Err (at Specifiers p)
name_given (Some m) p = Ok m

abbrev pub declarator_begun : Option Storage → QTy → InitDeclaratorTree → LocalsTy → ScopeTy → Result (LocalsTy × ScopeTy) Fault
declarator_begun storage base d k s = do
  x ← declarator_in base d.declarator s
  m ← name_given x.0.0 (name_place d.declarator)
  u ← declared x.1 m x.0.1 storage (name_place d.declarator)
  entity_begun storage k d.init (name_place d.declarator) u.1 u.0

abbrev pub declarators_begun : Option Storage → QTy → List InitDeclaratorTree → LocalsTy → ScopeTy → Result (LocalsTy × ScopeTy) Fault
declarators_begun storage base [] k s = Ok (k, s)
declarators_begun storage base (d ∷ ds) k s = do
  x ← declarator_begun storage base d k s
  declarators_begun storage base ds x.0 x.1

abbrev pub is_none_of : List InitDeclaratorTree → Bool
is_none_of [] = true
is_none_of (d ∷ ds) = false

-- C90 6.5
abbrev pub declaration_of : DeclTree → LocalsTy → ScopeTy → Result (LocalsTy × ScopeTy) Fault
declaration_of d k s = do
  b ← specified d.specifiers (is_none_of d.declarators) s
  declarators_begun b.0.0 b.0.1 d.declarators k b.1

abbrev pub declarations_of : List DeclTree → LocalsTy → ScopeTy → Result (LocalsTy × ScopeTy) Fault
declarations_of [] k s = Ok (k, s)
declarations_of (d ∷ ds) k s = do
  x ← declaration_of d k s
  declarations_of ds x.0 x.1
