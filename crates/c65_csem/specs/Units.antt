-- Well typed units and programs (C90 6.7): each tree is well typed, and each number names an item.
use Rattle.std.specs.Prelude.{◌≡◌, ℕ, ◌<◌, ◌≤◌, List, [], ◌∷◌, length, Bool, true, false, Option, Some, None, slice_get, IsTrue, IsSome, All}
use Rattle.c65_ctype.specs.Trees.{QTy, type_in, Fn, fn, Params, unknown, known, QTys, end, more, TypesTy}
use Rattle.c65_ctype.specs.Sizes.{size_of}
use Rattle.c65_csem.specs.declared.items.Class.{Class}
use Rattle.c65_csem.specs.declared.items.Class.TheVariants.{External, Tentative, Declared, Static, Auto}
use Rattle.c65_csem.specs.declared.items.Cell.{Cell}
use Rattle.c65_csem.specs.declared.items.Cell.TheVariants.{Byte, Piece}
use Rattle.c65_csem.specs.declared.items.Target.{Target}
use Rattle.c65_csem.specs.declared.items.Target.TheVariants as targets
use Rattle.c65_base.specs.declared.library.Library.{Library}
use Rattle.c65_csem.specs.Trees.{Stmt, ObjectTy, FuncTy, UnitTy}
use Rattle.c65_csem.specs.Places.{is_passed, is_sized_in, plain_of, are_alike}
use Rattle.c65_csem.specs.Typed.{IsResult, result_of}
use Rattle.c65_csem.specs.Statements.{Context, IsStmt, IsDistinct, labels_of, IsFramed}

-- what an initial pointer names is there
abbrev pub NamesTarget : UnitTy → Target → Type 0
NamesTarget u (targets.Object i) = i < length u.objects
NamesTarget u (targets.Literal i) = i < length u.literals
NamesTarget u (targets.Func i) = i < length u.funcs

-- a byte, or one of the two bytes of a pointer
abbrev pub IsCell : UnitTy → Cell → Type 0
IsCell u (Byte b) = Unit {0}
IsCell u (Piece target offset part) = NamesTarget u target × (part ≤ 1)

-- the first bytes of an object are as many as it has; an automatic one, one that is tentative, and one that is only
-- declared have none
abbrev pub IsInit : UnitTy → ObjectTy → Option (List Cell) → Type 0
IsInit u o None = Unit {0}
IsInit u o (Some cells) = (length cells ≡ size_of u.types (type_in o.ty)) × All (IsCell u) cells

abbrev pub may_have_init : Class → Bool
may_have_init External = true
may_have_init Static = true
may_have_init _ = false

abbrev pub HasRoomFor : Class → Option (List Cell) → Type 0
HasRoomFor class None = Unit {0}
HasRoomFor class (Some cells) = IsTrue (may_have_init class)

-- an object that is only declared may have no size yet
abbrev pub HasSize : UnitTy → QTy → Class → Type 0
HasSize u t Declared = Unit {0}
HasSize u t _ = IsTrue (is_sized_in u.types t)

-- An object without a name holds what a call gives, in the frame.
pub record IsObject (u : UnitTy) (o : ObjectTy) : Type 0 where
  pub size : HasSize u o.ty o.class
  pub init : IsInit u o o.init
  pub class : HasRoomFor o.class o.init
  pub unnamed : o.name ≡ None → o.class ≡ Auto

-- a parameter is a named object of the frame, of a scalar type or a structure or union of at most four bytes
pub record IsParam (u : UnitTy) (i : ℕ) : Type 0 where
  pub object : ObjectTy
  pub framed : IsFramed u i object
  pub passed : IsTrue (is_passed u.types (type_in object.ty))
  pub named : IsSome object.name

-- Each parameter has the type that the prototype gives it, down to pointers and tags, and its size: a later declaration
-- may have completed what they point to (C90 6.5.4.3, 6.1.2.6).
abbrev pub AreParams : UnitTy → QTys → List ℕ → Type 0
AreParams u end [] = Unit {0}
AreParams u end (i ∷ is) = ⊥
AreParams u (more q qs) [] = ⊥
AreParams u (more q qs) (i ∷ is) = (o : ObjectTy) × (slice_get u.objects i ≡ Some o) × IsTrue (are_alike o.ty q) × (size_of u.types (type_in o.ty) ≡ size_of u.types (type_in q)) × AreParams u qs is

abbrev pub MatchParams : UnitTy → Fn → List ℕ → Type 0
MatchParams u (fn q unknown variadic cdecl) is = Unit {0}
MatchParams u (fn q (known qs) variadic cdecl) is = AreParams u qs is

-- the bytes of all parameters
abbrev pub param_size : TypesTy → Option ObjectTy → ℕ
param_size types None = 0
param_size types (Some o) = size_of types (type_in o.ty)

abbrev pub context_of : FuncTy → Stmt → Context
context_of f body = record { labels = labels_of body; in_loop = false; in_switch = None; gives = plain_of (result_of f.ty) }

pub record IsBody (u : UnitTy) (f : FuncTy) (body : Stmt) : Type 0 where
  pub params : All (IsParam u) f.params
  pub prototype : MatchParams u f.ty f.params
  pub distinct_params : IsDistinct f.params
  pub gives : IsResult u (plain_of (result_of f.ty))
  pub labels : IsDistinct (labels_of body)
  pub typed : IsStmt u (context_of f body) body

abbrev pub HasBody : UnitTy → FuncTy → Option Stmt → Type 0
HasBody u f None = f.params ≡ []
HasBody u f (Some body) = IsBody u f body

pub record IsFunc (u : UnitTy) (f : FuncTy) : Type 0 where
  pub body : HasBody u f f.body

pub record IsUnit (u : UnitTy) : Type 0 where
  pub objects : All (IsObject u) u.objects
  pub funcs : All (IsFunc u) u.funcs

-- a function of a program has either a body or is one of the library
abbrev pub IsWhole : Option Stmt → Option Library → Type 0
IsWhole None None = ⊥
IsWhole None (Some l) = Unit {0}
IsWhole (Some body) None = Unit {0}
IsWhole (Some body) (Some l) = ⊥

abbrev pub is_defined : Class → Bool
is_defined Tentative = false
is_defined Declared = false
is_defined _ = true

abbrev pub IsDefined : ObjectTy → Type 0
IsDefined o = IsTrue (is_defined o.class)

abbrev pub IsLinked : FuncTy → Type 0
IsLinked f = IsWhole f.body f.library

-- no object is tentative or only declared, and the main function has a body
pub record IsProgram (u : UnitTy) (main : ℕ) : Type 0 where
  pub unit : IsUnit u
  pub objects : All IsDefined u.objects
  pub funcs : All IsLinked u.funcs
  pub start : FuncTy
  pub main_is : slice_get u.funcs main ≡ Some start
  pub has_body : IsSome start.body
