-- Programs whose names are in scope, whose initial values are whole, and whose `main` and library have their types.
use Rattle.std.specs.Prelude.{ℕ, Bool, true, false, List, [], ◌∷◌, Option, Some, None, IsTrue, All, ⊤, slice_get}
use Rattle.c65_ints.specs.declared.types.IntType.TheVariants.{Int}
use Rattle.c65_ctype.specs.Trees.{Ty, int, pointer, type_in}
use Rattle.c65_csem.specs.Trees.{ObjectTy, FuncTy, UnitTy}
use Rattle.c65_csem.specs.Typed.{result_of}
use Rattle.c65_meaning.specs.Shapes.{object_in}
use Rattle.c65_csem_names.specs.Scopes.{HasScopedBody}
use Rattle.c65_csem_names.specs.Initial.{HasStaticPointers, BeginsWhole}
use Rattle.c65_csem_names.specs.Library.{HaveLibraryTypes}

abbrev pub is_int : Ty → Bool
is_int (int Int) = true
is_int _ = false

abbrev pub is_pointer : Ty → Bool
is_pointer (pointer q) = true
is_pointer _ = false

abbrev pub has_type : (Ty → Bool) → Option ObjectTy → Bool
has_type is None = false
has_type is (Some o) = is (type_in o.ty)

-- `main` takes nothing, or the number of the program's arguments and a pointer to them (C90 5.1.2.2.1)
abbrev pub TakesArguments : UnitTy → List ℕ → Type 0
TakesArguments u [] = ⊤
TakesArguments u (i ∷ j ∷ []) = IsTrue (has_type is_int (object_in u i)) × IsTrue (has_type is_pointer (object_in u j))
TakesArguments u _ = ⊥

-- and gives an int
abbrev pub Starts : UnitTy → Option FuncTy → Type 0
Starts u None = ⊥
Starts u (Some f) = TakesArguments u f.params × IsTrue (is_int (type_in (result_of f.ty)))

pub record IsScopedProgram (u : UnitTy) (main : ℕ) : Type 0 where
  pub bodies : All (HasScopedBody u) u.funcs
  pub pointers : HasStaticPointers u
  pub values : All BeginsWhole u.objects
  pub library : HaveLibraryTypes u
  pub start : Starts u (slice_get u.funcs main)
