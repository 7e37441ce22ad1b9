-- A function of the library that is called: what its arguments and its result are (C90 7.9.6.3, 7.9.7, 7.10.4, 7.11), and what a program
-- gives of it.
use Rattle.std.specs.Prelude.{◌≡◌, ℕ, zero, suc, not, Bool, true, false, IsTrue, Some, None, slice_get}
use Rattle.c65_base.specs.declared.library.Library.{Library}
use Rattle.c65_base.specs.declared.library.Library.TheVariants.{Exit, Memcpy, Memset, Strcpy, Strlen}
use Rattle.c65_ints.specs.declared.types.IntType.TheVariants.{Int, UInt}
use Rattle.c65_ctype.specs.Trees.{Ty, int, pointer, QTy}
use Rattle.c65_ctype.specs.Sizes.{size_of}
use Rattle.c65_csem.specs.Trees.{Nodes, none, some, UnitTy, FuncTy}
use Rattle.c65_csem.specs.Library.{library_params, takes_more}
use Rattle.c65_meaning.specs.Calls.{count_of, named_count}
use Rattle.c65_genframe.specs.Frames.{Framed}
use Rattle.c65_genexpr.specs.Types.{bare}
use Rattle.c65_genexpr.specs.Arguments.{is_fast, is_counted, passed_size}
use Rattle.c65_agree_state.specs.World.{World, unit_in}

-- how many arguments it names
abbrev pub named_by : Library → ℕ
named_by l = count_of (library_params true l)

-- Further arguments, each of which is passed in the bytes of its type.
abbrev pub AreFurther : UnitTy → Framed → Nodes → Type 0
AreFurther u f none = Unit {0}
AreFurther u f (some e es) = (passed_size f e ≡ size_of u.types (bare e)) × AreFurther u f es

-- so many arguments of two bytes each, and behind them further ones where the function takes some
abbrev pub AreNamed : UnitTy → Framed → Bool → ℕ → Nodes → Type 0
AreNamed u f true zero es = AreFurther u f es
AreNamed u f false zero none = Unit {0}
AreNamed u f false zero (some e es) = ⊥
AreNamed u f more (suc n) none = ⊥
AreNamed u f more (suc n) (some e es) = (passed_size f e ≡ 2) × AreNamed u f more n es

-- the type of what it gives; `exit` gives nothing
abbrev pub IsResultOf : Library → Ty → Type 0
IsResultOf Exit t = Unit {0}
IsResultOf Memcpy t = (q : QTy) × (t ≡ pointer q)
IsResultOf Memset t = (q : QTy) × (t ≡ pointer q)
IsResultOf Strcpy t = (q : QTy) × (t ≡ pointer q)
IsResultOf Strlen t = t ≡ int UInt
IsResultOf l t = t ≡ int Int

-- A call that passes what the function takes, by the type through which it calls, and has what the function gives.
pub record FitsLibrary (u : UnitTy) (f : Framed) (l : Library) (t callee : Ty) (es : Nodes) : Type 0 where
  pub fast : is_fast callee ≡ not (takes_more l)
  pub counted : is_counted callee ≡ takes_more l
  pub taken : AreNamed u f (takes_more l) (named_by l) es
  pub result : IsResultOf l t

-- the function i of the program is that of the library
pub record IsLibraryFunction (g : World) (i : ℕ) (l : Library) (function : FuncTy) : Type 0 where
  pub is_function : slice_get (unit_in g).funcs i ≡ Some function
  pub no_body : function.body ≡ None
  pub library : function.library ≡ Some l
  pub names : named_count function.ty ≡ named_by l
