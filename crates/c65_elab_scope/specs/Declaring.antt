-- What a declaration enters, and its first fault (C90 6.1.2.2, 6.1.2.6, 6.5, 6.7.2).
use Rattle.std.specs.Prelude.{ℕ, List, length, Bool, true, false, Option, Some, None, is_some, slice_get, Result, Ok, Err, ℤ, ◌==◌, if◌then◌else◌}
use Rattle.c65_base.specs.declared.code.Code.TheVariants.{Redeclared, IncompleteType, StorageClass, TagKind}
use Rattle.c65_base.specs.declared.names.Name.{Name}
use Rattle.c65_base.specs.declared.refusal.Pos.{Pos}
use Rattle.c65_base.specs.Answers.{Fault, at, ◌>>=◌}
use Rattle.c65_tree.specs.declared.expr.Storage.{Storage}
use Rattle.c65_tree.specs.declared.expr.Storage.TheVariants as storages
use Rattle.c65_ctype.specs.Trees.{Ty, void, array, function, QTy, qual, type_in, Fn, FieldTy, TypesTy}
use Rattle.c65_ctype.specs.Compatible.{are_compatible, same_bool}
use Rattle.c65_ctype.specs.Composite.{composite_of}
use Rattle.c65_ctype.specs.Sizes.{size_at}
use Rattle.c65_ctype.specs.Tables.{layout_at}
use Rattle.c65_ctype.specs.Tags.{kind_of, with_tag, finished}
use Rattle.c65_csem.specs.declared.items.Class.{Class}
use Rattle.c65_csem.specs.declared.items.Class.TheVariants as c
use Rattle.c65_csem.specs.Places.{plain}
use Rattle.c65_csem.specs.Trees.{ObjectTy, FuncTy}
use Rattle.c65_elab_scope.specs.declared.meaning.Bound.{Bound}
use Rattle.c65_elab_scope.specs.declared.meaning.Entity.{Entity}
use Rattle.c65_elab_scope.specs.declared.meaning.Entity.TheVariants as e
use Rattle.c65_elab_scope.specs.declared.meaning.Meaning.{Meaning}
use Rattle.c65_elab_scope.specs.declared.meaning.Meaning.TheVariants as m
use Rattle.c65_elab_scope.specs.declared.object.Manner.{Manner}
use Rattle.c65_elab_scope.specs.declared.object.Manner.TheVariants.{Own, Shared}
use Rattle.c65_elab_scope.specs.Tables.{same_meaning, found, found_in, bound}
use Rattle.c65_elab_scope.specs.Scopes.{ScopeTy, name_bound}
use Rattle.c65_elab_scope.specs.Parts.{object_added, func_added, typedef_added, object_redeclared, func_redeclared}

-- a test that has to hold of a declaration
abbrev pub unless : Bool → Pos → Result (Unit {0}) Fault
unless true p = Err (at Redeclared p)
unless false p = Ok tt

-- ---- linkage (C90 6.1.2.2)

-- the visible declaration, where it has linkage
abbrev pub visible : Option Bound → Option Bound → Option Meaning
visible (Some a) (Some b) = if same_meaning a.meaning b.meaning then Some b.meaning else None
visible _ _ = None

abbrev pub linked : ScopeTy → Name → Option Meaning
linked s n = visible (found s.names n) (found s.links n)

-- an earlier declaration in the same block is of the same object or function
abbrev pub clashes : Option Meaning → Option Bound → Bool
clashes None l = false
clashes (Some a) None = true
clashes (Some a) (Some b) = if same_meaning a b.meaning then false else true

abbrev pub has_clash : ScopeTy → Name → Bool
has_clash s n = clashes (found_in s.names n s.block) (found s.links n)

-- an object that is known in other units
abbrev pub is_shared : Class → Bool
is_shared c.Static = false
is_shared _ = true

abbrev pub object_shared : Option ObjectTy → Bool
object_shared None = true
object_shared (Some o) = is_shared o.class

abbrev pub func_shared : Option FuncTy → Bool
func_shared None = true
func_shared (Some f) = f.external

-- external linkage, unless an earlier declaration gave internal linkage
abbrev pub meaning_shared : ScopeTy → Option Meaning → Bool
meaning_shared s (Some (m.Object i)) = object_shared (slice_get s.unit.objects i)
meaning_shared s (Some (m.Func i)) = func_shared (slice_get s.unit.funcs i)
meaning_shared s _ = true

-- ---- functions

abbrev pub func_linkage : Option Storage → ℕ → Bool → Pos → Result Bool Fault
func_linkage None block shared p = Ok shared
func_linkage (Some storages.Extern) block shared p = Ok shared
func_linkage (Some storages.Static) block shared p = if block == 0 then Ok false else Err (at StorageClass p)
func_linkage (Some _) block shared p = Err (at StorageClass p)

abbrev pub fn_in : QTy → Option Fn
fn_in (qual (function f) c v) = Some f
fn_in _ = None

-- the composite type of two compatible types of functions
abbrev pub joined_fn : TypesTy → Fn → Fn → Option Fn
joined_fn types g f = if are_compatible types (plain (function g)) (plain (function f)) then fn_in (composite_of types (plain (function g)) (plain (function f))) else None

abbrev pub or_redeclared : {A : Type 0} → Pos → Option A → Result A Fault
or_redeclared p None = Err (at Redeclared p)
or_redeclared p (Some a) = Ok a

abbrev pub func_type_in : TypesTy → Fn → Bool → Pos → Option FuncTy → Result Fn Fault
func_type_in types f shared p None = Err (at Redeclared p)
func_type_in types f shared p (Some g) = if same_bool g.external shared then or_redeclared p (joined_fn types g.ty f) else Err (at Redeclared p)

-- a name that has linkage
abbrev pub link_bound : ScopeTy → Name → Meaning → ScopeTy
link_bound s n a = name_bound (record s { links = bound s.links n a 0 }) n a

abbrev pub func_again : ScopeTy → Name → Fn → Bool → Pos → Meaning → Result (Entity × ScopeTy) Fault
func_again s n f shared p (m.Func i) = do
  g ← func_type_in s.unit.types f shared p (slice_get s.unit.funcs i)
  Ok (e.Func i, name_bound (func_redeclared s i g) n (m.Func i))
func_again s n f shared p _ = Err (at Redeclared p)

abbrev pub func_linked : ScopeTy → Name → Fn → Bool → Pos → Option Bound → Result (Entity × ScopeTy) Fault
func_linked s n f shared p None = do
  x ← func_added s n f shared
  Ok (e.Func x.0, link_bound x.1 n (m.Func x.0))
func_linked s n f shared p (Some b) = func_again s n f shared p b.meaning

abbrev pub func_declared : ScopeTy → Name → Fn → Option Storage → Pos → Result (Entity × ScopeTy) Fault
func_declared s n f storage p = do
  shared ← func_linkage storage s.block (meaning_shared s (linked s n)) p
  own ← unless (has_clash s n) p
  func_linked s n f shared p (found s.links n)

-- ---- objects

-- the class of an object with linkage, and of one without (C90 6.5.1, 6.7.2)
abbrev pub manner_of : Option Storage → ℕ → Bool → Pos → Result Manner Fault
manner_of None block shared p = Ok (if block == 0 then Shared c.Tentative else Own c.Auto)
manner_of (Some storages.Extern) block shared p = Ok (Shared (if shared then c.Declared else c.Static))
manner_of (Some storages.Static) block shared p = Ok (if block == 0 then Shared c.Static else Own c.Static)
manner_of (Some storages.Auto) block shared p = if block == 0 then Err (at StorageClass p) else Ok (Own c.Auto)
manner_of (Some storages.Register) block shared p = if block == 0 then Err (at StorageClass p) else Ok (Own c.Register)
manner_of (Some storages.Typedef) block shared p = Err (at StorageClass p)

-- the size that an object has to have; an array may get its number of elements from its initialiser
abbrev pub needs_size : TypesTy → Pos → Ty → Result ℕ Fault
needs_size types p (array q None) = size_at types p (type_in q)
needs_size types p t = size_at types p t

abbrev pub own_declared : ScopeTy → Name → QTy → Class → Pos → Result (Entity × ScopeTy) Fault
own_declared s n t class p = do
  first ← unless (is_some (found_in s.names n s.block)) p
  size ← needs_size s.unit.types p (type_in t)
  x ← object_added s (Some n) t class
  Ok (e.Object x.0, name_bound x.1 n (m.Object x.0))

-- a definition stays one, and a tentative one stays so beside a declaration
abbrev pub merged : Class → Class → Class
merged c.Declared class = class
merged class _ = class

abbrev pub object_type_in : TypesTy → QTy → Class → Pos → Option ObjectTy → Result (QTy × Class) Fault
object_type_in types t class p None = Err (at Redeclared p)
object_type_in types t class p (Some o) = if same_bool (is_shared o.class) (is_shared class) then (if are_compatible types o.ty t then Ok (composite_of types o.ty t, merged o.class class) else Err (at Redeclared p)) else Err (at Redeclared p)

abbrev pub object_again : ScopeTy → Name → QTy → Class → Pos → Meaning → Result (Entity × ScopeTy) Fault
object_again s n t class p (m.Object i) = do
  x ← object_type_in s.unit.types t class p (slice_get s.unit.objects i)
  Ok (e.Object i, name_bound (object_redeclared s i x.0 x.1) n (m.Object i))
object_again s n t class p _ = Err (at Redeclared p)

abbrev pub object_linked : ScopeTy → Name → QTy → Class → Pos → Option Bound → Result (Entity × ScopeTy) Fault
object_linked s n t class p None = do
  x ← object_added s (Some n) t class
  Ok (e.Object x.0, link_bound x.1 n (m.Object x.0))
object_linked s n t class p (Some b) = object_again s n t class p b.meaning

-- a tentative definition of internal linkage has a size (C90 6.7.2)
abbrev pub needs_size_if : Bool → TypesTy → Pos → Ty → Result ℕ Fault
needs_size_if true types p t = Ok 0
needs_size_if false types p t = needs_size types p t

abbrev pub shared_declared : ScopeTy → Name → QTy → Class → Pos → Result (Entity × ScopeTy) Fault
shared_declared s n t class p = do
  own ← unless (has_clash s n) p
  size ← needs_size_if (is_shared class) s.unit.types p (type_in t)
  object_linked s n t class p (found s.links n)

abbrev pub by_manner : ScopeTy → Name → QTy → Pos → Manner → Result (Entity × ScopeTy) Fault
by_manner s n t p (Own class) = own_declared s n t class p
by_manner s n t p (Shared class) = shared_declared s n t class p

abbrev pub object_declared : ScopeTy → Name → QTy → Option Storage → Pos → Result (Entity × ScopeTy) Fault
object_declared s n t storage p = do
  manner ← manner_of storage s.block (meaning_shared s (linked s n)) p
  by_manner s n t p manner

-- ---- the other names

abbrev pub typedef_declared : ScopeTy → Name → QTy → Pos → Result (Entity × ScopeTy) Fault
typedef_declared s n t p = do
  first ← unless (is_some (found_in s.names n s.block)) p
  x ← typedef_added s t
  Ok (e.Typedef, name_bound x.1 n (m.Typedef x.0))

-- C90 6.5.2.2
abbrev pub enumerator_declared : ScopeTy → Name → ℤ → Pos → Result ScopeTy Fault
enumerator_declared s n z p = do
  first ← unless (is_some (found_in s.names n s.block)) p
  Ok (name_bound s n (m.Enumerator z))

-- nothing is of type void
abbrev pub entity_declared : ScopeTy → Name → QTy → Ty → Option Storage → Pos → Result (Entity × ScopeTy) Fault
entity_declared s n t (function f) storage p = func_declared s n f storage p
entity_declared s n t void storage p = Err (at IncompleteType p)
entity_declared s n t _ storage p = object_declared s n t storage p

abbrev pub is_typedef : Option Storage → Bool
is_typedef (Some storages.Typedef) = true
is_typedef _ = false

-- C90 6.5
abbrev pub declared : ScopeTy → Name → QTy → Option Storage → Pos → Result (Entity × ScopeTy) Fault
declared s n t storage p = if is_typedef storage then typedef_declared s n t p else entity_declared s n t (type_in t) storage p

-- ---- structures and unions

abbrev pub with_types : ScopeTy → TypesTy → ScopeTy
with_types s types = record s { unit = record { types = types; objects = s.unit.objects; literals = s.unit.literals; funcs = s.unit.funcs } }

abbrev pub tag_opened : ScopeTy → Bool → Result (ℕ × ScopeTy) Fault
tag_opened s is_union = Ok (length s.unit.types.tags, with_types s (with_tag s.unit.types is_union None))

-- a tag without a layout yet
abbrev pub is_open : Option Bool → Bool → Bool
is_open None finished = false
is_open (Some is_union) true = false
is_open (Some is_union) false = true

abbrev pub tag_finished : ScopeTy → ℕ → List FieldTy → Pos → Result ScopeTy Fault
tag_finished s tag fields p = if is_open (kind_of s.unit.types tag) (is_some (layout_at s.unit.types tag)) then finished s.unit.types tag fields >>= (λ types. Ok (with_types s types)) else Err (at TagKind p)
