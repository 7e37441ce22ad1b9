-- The functions of the library have their types, where plain char is signed in all of them or in none (C90 7.1.7).
use Rattle.std.specs.Prelude.{◌≡◌, Bool, Option, Some, None, All, ⊤}
use Rattle.c65_base.specs.declared.library.Library.{Library}
use Rattle.c65_ctype.specs.Trees.{Fn}
use Rattle.c65_csem.specs.Library.{library_type}
use Rattle.c65_csem.specs.Trees.{FuncTy, UnitTy}

abbrev pub IsTypedAs : Bool → Option Library → Fn → Type 0
IsTypedAs is_signed None f = ⊤
IsTypedAs is_signed (Some l) f = f ≡ library_type is_signed l

abbrev pub HasLibraryType : Bool → FuncTy → Type 0
HasLibraryType is_signed f = IsTypedAs is_signed f.library f.ty

abbrev pub HaveLibraryTypes : UnitTy → Type 0
HaveLibraryTypes u = (is_signed : Bool) × All (HasLibraryType is_signed) u.funcs
