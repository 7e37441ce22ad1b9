-- What holds of a scope at every moment, and what a part of a unit leaves of it.
use Rattle.std.specs.Prelude.{◌≡◌, ℕ, List, [], ◌∷◌, Bool, Option, Some, None, IsTrue}
use Rattle.c65_ints.specs.declared.types.IntType.TheVariants.{Int}
use Rattle.c65_ints.specs.Ranges.{InRange}
use Rattle.c65_ctype.specs.Trees.{Ty, array, QTy, type_in, TypesTy}
use Rattle.c65_ctype.specs.Tables.{IsTable}
use Rattle.c65_csem.specs.declared.items.Class.{Class}
use Rattle.c65_csem.specs.declared.items.Class.TheVariants.{Tentative, Declared}
use Rattle.c65_csem.specs.Trees.{Typed, Stmt, ObjectTy, FuncTy}
use Rattle.c65_csem.specs.Places.{is_sized, is_sized_in}
use Rattle.c65_csem.specs.Typed.{IsTyped}
use Rattle.c65_elab_scope.specs.declared.meaning.Bound.{Bound}
use Rattle.c65_elab_scope.specs.declared.meaning.Meaning.{Meaning}
use Rattle.c65_elab_scope.specs.declared.meaning.Meaning.TheVariants as m
use Rattle.c65_elab_scope.specs.declared.table.Hidden.{Hidden}
use Rattle.c65_elab_scope.specs.Tables.{TableTy}
use Rattle.c65_elab_scope.specs.Scopes.{ScopeTy}
use Rattle.c65_elab_law.specs.Growth.{Grows}

-- the value of an enumeration constant is one of int (C90 6.5.2.2)
abbrev pub IsMeant : Meaning → Type 0
IsMeant (m.Enumerator z) = InRange Int z
IsMeant _ = Unit {0}

abbrev pub IsBound : Option Bound → Type 0
IsBound None = Unit {0}
IsBound (Some b) = IsMeant b.meaning

abbrev pub AreBound : List (Option Bound) → Type 0
AreBound [] = Unit {0}
AreBound (b ∷ bs) = IsBound b × AreBound bs

abbrev pub AreHidden : List Hidden → Type 0
AreHidden [] = Unit {0}
AreHidden (h ∷ hs) = IsBound h.hides × AreHidden hs

-- what names mean now, and what they mean again where a block ends
pub record AreNames (t : TableTy) : Type 0 where
  pub current : AreBound t.current
  pub hidden : AreHidden t.hidden

-- a type that has a size, or has one as soon as the number of its elements is known
abbrev pub has_elements : TypesTy → Ty → Bool
has_elements types (array q n) = is_sized_in types q
has_elements types t = is_sized types t

-- a type that is not complete may be that of an external object without an initialiser (C90 6.7.2)
abbrev pub HasPlace : TypesTy → QTy → Class → Type 0
HasPlace types t Tentative = Unit {0}
HasPlace types t Declared = Unit {0}
HasPlace types t _ = IsTrue (has_elements types (type_in t))

abbrev pub ArePlaced : TypesTy → List ObjectTy → Type 0
ArePlaced types [] = Unit {0}
ArePlaced types (o ∷ os) = HasPlace types o.ty o.class × ArePlaced types os

-- a function without a body has no objects for parameters
abbrev pub IsBare : Option Stmt → List ℕ → Type 0
IsBare None is = is ≡ []
IsBare (Some body) is = Unit {0}

abbrev pub AreBare : List FuncTy → Type 0
AreBare [] = Unit {0}
AreBare (f ∷ fs) = IsBare f.body f.params × AreBare fs

-- all tags are of one unit, the one that is gone through
pub record IsScope (s : ScopeTy) : Type 0 where
  pub types : IsTable s.unit.types
  pub one_unit : s.unit.types.units ≡ 1
  pub names : AreNames s.names
  pub objects : ArePlaced s.unit.types s.unit.objects
  pub funcs : AreBare s.unit.funcs

-- a scope behind another one
pub record Keeps (s u : ScopeTy) : Type 0 where
  pub scope : IsScope u
  pub grown : Grows s.unit u.unit

-- a typed tree and the scope behind it
pub record IsAnswer (s : ScopeTy) (x : Typed × ScopeTy) : Type 0 where
  pub typed : IsTyped x.1.unit x.0
  pub kept : Keeps s x.1
