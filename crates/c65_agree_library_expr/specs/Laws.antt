-- Calls in expressions of functions of the library (C90 6.3.2.2, 7.1.7).
use Rattle.std.specs.Prelude.{◌≡◌, ℕ, ◌<◌, ◌≤◌, true, IsTrue, Some, length}
use Rattle.c65_base.specs.declared.library.Library.{Library}
use Rattle.c65_ctype.specs.Trees.{QTy, type_in}
use Rattle.c65_csem.specs.Trees.{Typed, node, call, Nodes, FuncTy}
use Rattle.c65_meaning.specs.Shapes.{types_of}
use Rattle.c65_meaning.specs.Calls.{accepts}
use Rattle.c65_code.specs.Placement.{IsPlacement}
use Rattle.c65_genframe.specs.Symbols.{numbers_of, function_symbol}
use Rattle.c65_genexpr.specs.Types.{bare}
use Rattle.c65_genexpr.specs.Calls.{library_at}
use Rattle.c65_agree_state.specs.World.{World, unit_in, setting_in, Active}
use Rattle.c65_agree_state.specs.Exprs.{ExpressionDoes}
use Rattle.c65_agree_argument.specs.Arguments.{ArgumentsDo}
use Rattle.c65_agree_invoke.specs.Nodes.{sizes_of, by_name}
use Rattle.c65_agree_invoke.specs.Targets.{MayBeReached}
use Rattle.c65_agree_library_expr.specs.Callees.{FitsLibrary, IsLibraryFunction}

-- By its name: where the arguments do their work, and a call that the meaning accepts passes what the function takes.
abbrev pub NamedLibraryCallsAreExpressions : Type 0
NamedLibraryCallsAreExpressions = (g : World) (a : Active) (i : ℕ) (l : Library) (function : FuncTy) (t s r : QTy) (es : Nodes)
    → IsPlacement g.code g.place → library_at a.frame i ≡ Some l → IsLibraryFunction g i l function
    → (accepts (unit_in g) (type_in s) (types_of es) function ≡ true → FitsLibrary (unit_in g) a.frame l (type_in t) (type_in s) es)
    → sizes_of a.frame es ≤ 250 → ArgumentsDo g a es
    → ExpressionDoes g a (node t (call (by_name s r i) es))

-- Through a pointer it may be reached (c65_agree_invoke), where its routine stands under its symbol.
abbrev pub LibraryFunctionsMayBeReached : Type 0
LibraryFunctionsMayBeReached = (g : World) (a : Active) (n : ℕ) (t : QTy) (f : Typed) (es : Nodes) (i : ℕ) (l : Library) (function : FuncTy)
    → IsPlacement g.code g.place → IsLibraryFunction g i l function → FitsLibrary (unit_in g) a.frame l (type_in t) (bare f) es → sizes_of a.frame es ≤ 250
    → i < length g.parts.funcs.items → IsTrue ((setting_in g).is_function (function_symbol (numbers_of g.parts) i).0) → (setting_in g).library (function_symbol (numbers_of g.parts) i).0 ≡ Some l
    → MayBeReached g a n t f es i
