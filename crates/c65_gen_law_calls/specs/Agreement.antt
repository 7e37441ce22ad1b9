-- When a call and the function that it calls agree (C90 6.3.2.2; docs/MACHINE.md, "Calls"). Where they do not, the call is undefined.
use Rattle.std.specs.Prelude.{◌≡◌, ℕ, ◌==◌, ◌&&◌, not, Bool, true, false, Option, None, Some, IsTrue, List, [], ◌∷◌, slice_get, if◌then◌else◌}
use Rattle.c65_ints.specs.declared.types.IntType.TheVariants.{Int, UInt}
use Rattle.c65_ctype.specs.Trees.{Ty, void, int, pointer, function, QTy, type_in, Fn, fn, known, QTys, end, more, TypesTy}
use Rattle.c65_ctype.specs.Sizes.{size_of}
use Rattle.c65_base.specs.declared.library.Library.{Library}
use Rattle.c65_base.specs.declared.library.Library.TheVariants as library
use Rattle.c65_csem.specs.Library.{takes_more}
use Rattle.c65_csem.specs.Trees.{Nodes, none, some, Stmt, UnitTy, FuncTy}
use Rattle.c65_csem.specs.Places.{plain, are_alike, alike}
use Rattle.c65_csem.specs.Units.{IsBody}
use Rattle.c65_genframe.specs.Frames.{is_variadic, takes_stack, has_prototype}
use Rattle.c65_genexpr.specs.Types.{bare}
use Rattle.c65_genexpr.specs.Arguments.{is_fast, is_counted}
use Rattle.c65_genexpr.specs.Calls.{named}
use Rattle.c65_gen_law_stack.specs.Parameters.{AreTaken}
use Rattle.c65_gen_law_calls.specs.Sites.{Site, IsSite, statement_sites}

-- a variadic function takes as many bytes as the call says
abbrev pub Takes : Bool → UnitTy → FuncTy → Nodes → Type 0
Takes true u g es = Unit {0}
Takes false u g es = AreTaken u (has_prototype g.ty) es g.params

-- a function that has a body: the call is of its convention, and passes what it takes
pub record Agrees (u : UnitTy) (s : Site) (g : FuncTy) : Type 0 where
  pub fast : is_fast (bare s.callee) ≡ not (takes_stack g.ty)
  pub counted : is_counted (bare s.callee) ≡ is_variadic g.ty
  pub taken : Takes (is_variadic g.ty) u g s.args

-- the parameters of the functions of the library (C90 7.9.6.3, 7.9.7, 7.10.4, 7.11), without further arguments
abbrev pub address : Ty
address = pointer (plain void)

abbrev pub library_types : Library → List Ty
library_types library.Putchar = int Int ∷ []
library_types library.Getchar = []
library_types library.Puts = address ∷ []
library_types library.Exit = int Int ∷ []
library_types library.Memcpy = address ∷ address ∷ int UInt ∷ []
library_types library.Memset = address ∷ int Int ∷ int UInt ∷ []
library_types library.Strcmp = address ∷ address ∷ []
library_types library.Strcpy = address ∷ address ∷ []
library_types library.Strlen = address ∷ []
library_types library.Printf = address ∷ []

-- arguments of these types, and where it is variadic others behind them
abbrev pub AreOf : Bool → Nodes → List Ty → Type 0
AreOf variadic none [] = Unit {0}
AreOf variadic none (t ∷ ts) = ⊥
AreOf true (some e es) [] = Unit {0}
AreOf false (some e es) [] = ⊥
AreOf variadic (some e es) (t ∷ ts) = IsTrue (alike t (bare e)) × AreOf variadic es ts

pub record LibraryAgrees (s : Site) (l : Library) : Type 0 where
  pub fast : is_fast (bare s.callee) ≡ not (takes_more l)
  pub counted : is_counted (bare s.callee) ≡ takes_more l
  pub taken : AreOf (takes_more l) s.args (library_types l)

-- the call agrees with a function of the unit, which is one of the library or has a body
abbrev pub AgreesWith : UnitTy → Site → FuncTy → Option Library → Option Stmt → Type 0
AgreesWith u s g (Some l) body = LibraryAgrees s l
AgreesWith u s g None (Some body) = Agrees u s g
AgreesWith u s g None None = Unit {0}

-- each call of a function by its name, in the body of any function
abbrev pub NamesAgree : UnitTy → Type 0
NamesAgree u = (i j k : ℕ) (g h : FuncTy) (body : Stmt) (s : Site)
    → slice_get u.funcs i ≡ Some g → g.body ≡ Some body → slice_get (statement_sites body) j ≡ Some s
    → named s.callee ≡ Some k → slice_get u.funcs k ≡ Some h → AgreesWith u s h h.library h.body

-- ---- prototypes

-- the same down to pointers and tags, and of the same size
abbrev pub is_like : TypesTy → QTy → QTy → Bool
is_like types p q = are_alike p q && size_of types (type_in p) == size_of types (type_in q)

abbrev pub alike_types : TypesTy → QTys → QTys → Bool
alike_types types end end = true
alike_types types end (more q qs) = false
alike_types types (more p ps) end = false
alike_types types (more p ps) (more q qs) = if is_like types p q then alike_types types ps qs else false

-- two types of functions with prototypes of the same parameters down to pointers and tags, neither variadic, and of the same convention
abbrev pub AreAlike : TypesTy → Fn → Fn → Type 0
AreAlike types (fn q (known ps) false c) (fn r (known qs) false d) = IsTrue (alike_types types ps qs) × (c ≡ d)
AreAlike types _ _ = ⊥

-- So a well typed call by such a type always agrees, whether it calls by name or through a pointer.
abbrev pub PrototypesAgree : Type 0
PrototypesAgree = (u : UnitTy) (g : FuncTy) (body : Stmt) (s : Site) (t : Fn)
    → IsBody u g body → IsSite u s → bare s.callee ≡ pointer (plain (function t)) → AreAlike u.types t g.ty → Agrees u s g
