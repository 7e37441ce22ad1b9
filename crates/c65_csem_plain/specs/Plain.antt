-- What every program made from source meets beside its types and scopes (C90 5.1.2.2.1, 6.1.2.2, 6.1.2.4, 6.5.7, 7.1.3).
use Rattle.std.specs.Prelude.{◌≡◌, ℕ, ◌+◌, ◌^◌, ◌<◌, ◌≤◌, ℤ, Bool, true, false, List, [], ◌∷◌, ◌++◌, length, Option, Some, None, slice_get, codes, IsTrue, All, ⊤}
use Rattle.c65_base.specs.declared.names.Name.{Name}
use Rattle.c65_base.specs.declared.library.Library.{Library}
use Rattle.c65_base.specs.Library.{library_name}
use Rattle.c65_ctype.specs.Trees.{Fn, fn, type_in}
use Rattle.c65_csem.specs.declared.items.Cell.{Cell}
use Rattle.c65_csem.specs.declared.items.Cell.TheVariants.{Byte, Piece}
use Rattle.c65_csem.specs.declared.items.Class.{Class}
use Rattle.c65_csem.specs.declared.items.Class.TheVariants.{External, Tentative, Declared}
use Rattle.c65_csem.specs.Library.{library_at}
use Rattle.c65_csem.specs.Statements.{IsDistinct, labels_of}
use Rattle.c65_csem.specs.Trees.{Stmt, ObjectTy, FuncTy, UnitTy}
use Rattle.c65_csem_plain.specs.Arms.{arms, most_arms}
use Rattle.c65_csem_plain.specs.Body.{HasBytes, IsPlainStmt, objects_of}

-- ---- bytes

abbrev pub AreBytes : List ℕ → Type 0
AreBytes bytes = All (λ b. b < 2 ^ 8) bytes

abbrev pub IsByte : Cell → Type 0
IsByte (Byte b) = b < 2 ^ 8
IsByte (Piece target offset part) = ⊤

-- the two pieces of a pointer stand side by side, the low one first
abbrev pub ArePaired : List Cell → Type 0
ArePaired [] = ⊤
ArePaired (Byte b ∷ cells) = ArePaired cells
ArePaired (Piece t o part ∷ Piece target offset second ∷ cells) = (part ≡ 0) × (second ≡ 1) × (target ≡ t) × (offset ≡ o) × ArePaired cells
ArePaired (Piece t o part ∷ _) = ⊥

abbrev pub BeginsPlain : Option (List Cell) → Type 0
BeginsPlain None = ⊤
BeginsPlain (Some cells) = All IsByte cells × ArePaired cells

-- ---- functions

module _ (u : UnitTy) where
  -- each object, also one without a name, is a parameter or that of one block, each label has a number of its type with room for one more, and no more than the most first arms stand one within the other
  pub record IsPlainBody (params : List ℕ) (body : Stmt) : Type 0 where
    pub objects : IsDistinct (params ++ objects_of body)
    pub labels : All (λ l. l + 1 < 2 ^ 32) (labels_of body)
    pub arms : arms body ≤ most_arms
    pub stmts : IsPlainStmt u (objects_of body) body

  abbrev pub HasPlainBody : List ℕ → Option Stmt → Type 0
  HasPlainBody params None = ⊤
  HasPlainBody params (Some body) = IsPlainBody params body

-- the objects that each call of a function begins: its parameters and those of its blocks
abbrev pub own_objects : List ℕ → Option Stmt → List ℕ
own_objects params None = []
own_objects params (Some body) = params ++ objects_of body

-- those of all functions, one behind another
abbrev pub all_own_objects : List FuncTy → List ℕ
all_own_objects [] = []
all_own_objects (f ∷ fs) = own_objects f.params f.body ++ all_own_objects fs

-- neither variadic nor declared cdecl
abbrev pub IsUsual : Fn → Type 0
IsUsual (fn q ps variadic cdecl) = (variadic ≡ false) × (cdecl ≡ false)

-- ---- names

abbrev pub is_external : Class → Bool
is_external External = true
is_external Tentative = true
is_external Declared = true
is_external _ = false

module _ (names : List (List ℕ)) where
  -- an item that is not the library's has no external name of the library
  abbrev pub IsOwnName : Bool → Name → Type 0
  IsOwnName external name = IsTrue external → library_at names name.0 ≡ None

  -- an object without a name has none of the library's
  abbrev pub HasOwnName : Bool → Option Name → Type 0
  HasOwnName external None = ⊤
  HasOwnName external (Some name) = IsOwnName external name

  -- a function of the library is external and has its name
  abbrev pub IsNamed : Option Library → Bool → Name → Type 0
  IsNamed None external name = IsOwnName external name
  IsNamed (Some l) external name = IsTrue external × (slice_get names name.0 ≡ Some (library_name l))

  pub record IsMain (f : FuncTy) : Type 0 where
    pub external : IsTrue f.external
    pub named : slice_get names f.name.0 ≡ Some (codes "main")
    pub usual : IsUsual f.ty

  abbrev pub Starts : Option FuncTy → Type 0
  Starts None = ⊥
  Starts (Some f) = IsMain f

  -- ---- programs

  module _ (u : UnitTy) where
    pub record IsPlainObject (o : ObjectTy) : Type 0 where
      pub bytes : HasBytes u.types (type_in o.ty)
      pub named : HasOwnName (is_external o.class) o.name
      pub begins : BeginsPlain o.init

    pub record IsPlainFunc (f : FuncTy) : Type 0 where
      pub named : IsNamed f.library f.external f.name
      pub body : HasPlainBody u f.params f.body

    pub record IsPlain (main : ℕ) : Type 0 where
      pub objects : All IsPlainObject u.objects
      pub literals : All AreBytes u.literals
      pub funcs : All IsPlainFunc u.funcs
      -- no object is that of two functions
      pub apart : IsDistinct (all_own_objects u.funcs)
      pub start : Starts (slice_get u.funcs main)
      pub few : length u.objects + length u.literals + length u.funcs ≤ 2 ^ 32
