-- What a program's items are asked for, that its text can be written (docs/TEXT.md).
use Rattle.std.specs.Prelude.{◌≡◌, ℕ, ◌^◌, ◌<◌, ◌≤◌, IsTrue, List, ◌∷◌, Some, slice_get, All}
use Rattle.c65_base.specs.declared.names.Name.{Name}
use Rattle.c65_ctype.specs.Trees.{type_in}
use Rattle.c65_csem.specs.declared.items.Cell.{Cell}
use Rattle.c65_csem.specs.declared.items.Cell.TheVariants.{Byte, Piece}
use Rattle.c65_csem.specs.declared.items.Parts.{Parts}
use Rattle.c65_csem.specs.declared.items.TObject.{TObject}
use Rattle.c65_csem.specs.declared.items.TFunc.{TFunc}
use Rattle.c65_csem.specs.Trees.{ObjectTy}
use Rattle.c65_csem.specs.Views.{unit_of}
use Rattle.c65_code.specs.Writable as writable
use Rattle.c65_genframe.specs.Sizes.{bytes_or}
use Rattle.c65_gendata.specs.Data.{is_placed}
use Rattle.c65_gendata.specs.Symbols.{known, external, is_external}

-- the spelling of a name
abbrev pub spelling_of : List (List ℕ) → Name → List ℕ
spelling_of names name = known (slice_get names name.0)

abbrev pub IsExternalObject : Parts → ℕ → TObject → Name → Type 0
IsExternalObject parts i o name = (slice_get parts.objects.items i ≡ Some o) × IsTrue (is_external o.class) × (o.name ≡ Some name)

abbrev pub IsExternalFunction : Parts → ℕ → TFunc → Type 0
IsExternalFunction parts i g = (slice_get parts.funcs.items i ≡ Some g) × IsTrue g.external

-- the names of external linkage are identifiers, and no two items have the same (C90 6.1.2, 6.1.2.2)
pub record HasNames (names : List (List ℕ)) (parts : Parts) : Type 0 where
  pub objects : (i : ℕ) (o : TObject) (name : Name) → IsExternalObject parts i o name → IsTrue (writable.is_external (external names name))
  pub functions : (i : ℕ) (g : TFunc) → IsExternalFunction parts i g → IsTrue (writable.is_external (external names g.name))
  pub own_object : (i j : ℕ) (a b : TObject) (m n : Name) → IsExternalObject parts i a m → IsExternalObject parts j b n → spelling_of names m ≡ spelling_of names n → i ≡ j
  pub own_function : (i j : ℕ) (a b : TFunc) → IsExternalFunction parts i a → IsExternalFunction parts j b → spelling_of names a.name ≡ spelling_of names b.name → i ≡ j
  pub apart : (i j : ℕ) (a : TObject) (m : Name) (b : TFunc) → IsExternalObject parts i a m → IsExternalFunction parts j b → spelling_of names m ≡ spelling_of names b.name → ⊥

abbrev pub IsByte : Cell → Type 0
IsByte (Byte b) = b < 2 ^ 8
IsByte (Piece target offset part) = Unit {0}

-- a first value does not begin inside a pointer
abbrev pub BeginsWhole : List Cell → Type 0
BeginsWhole (Piece target offset part ∷ cells) = part ≡ 0
BeginsWhole _ = Unit {0}

-- an object that has one place for the whole run has a byte, and its first bytes are bytes
pub record IsStored (parts : Parts) (o : ObjectTy) : Type 0 where
  pub size : IsTrue (is_placed o.class) → 1 ≤ bytes_or (unit_of parts).types (type_in o.ty) 65536
  pub bytes : (cells : List Cell) → o.init ≡ Some cells → All IsByte cells
  pub whole : (cells : List Cell) → o.init ≡ Some cells → BeginsWhole cells

abbrev pub AreBytes : List ℕ → Type 0
AreBytes bytes = All (λ b. b < 2 ^ 8) bytes

pub record HasData (parts : Parts) : Type 0 where
  pub objects : All (IsStored parts) (unit_of parts).objects
  pub literals : All AreBytes parts.literals.items
