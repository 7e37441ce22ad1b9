-- Calls through pointers, and the functions that they may reach (C90 6.3.2.2).
use Rattle.std.specs.Prelude.{◌≡◌, ℕ, ◌≤◌, false, None}
use Rattle.c65_ctype.specs.Trees.{QTy, type_in}
use Rattle.c65_csem.specs.Trees.{Typed, node, call, Nodes, FuncTy}
use Rattle.c65_csem_need.specs.Needs.{need}
use Rattle.c65_meaning.specs.Store.{Pointer}
use Rattle.c65_meaning.specs.Shapes.{shape_of}
use Rattle.c65_meaning.specs.Items.{plan}
use Rattle.c65_code.specs.Placement.{IsPlacement}
use Rattle.c65_genexpr.specs.declared.wanted.Wanted.TheVariants as wanted
use Rattle.c65_genexpr.specs.Types.{bare}
use Rattle.c65_genexpr.specs.Arguments.{is_fast, is_counted}
use Rattle.c65_genexpr.specs.Calls.{named}
use Rattle.c65_genexpr.specs.Code.{expr_code}
use Rattle.c65_agree_state.specs.World.{World, unit_in, Active}
use Rattle.c65_agree_state.specs.Exprs.{Valued, yield_of, shape_in, ExpressionDoes}
use Rattle.c65_agree_enter.specs.Entries.{FixedAreLow}
use Rattle.c65_agree_argument.specs.Arguments.{ArgumentsDo}
use Rattle.c65_agree_invoke.specs.Nodes.{sizes_of, CallsAreOwned, DoesFor, MayBeCalled}
use Rattle.c65_agree_invoke.specs.Targets.{MayBeReached, AllMayBeReached}

-- Through a pointer, without arguments or with some, for so many steps: where the pointer and the arguments do their work, and each function
-- that fits the call may be reached.
abbrev pub ReachingCallsDo : Type 0
ReachingCallsDo = (g : World) (a : Active) (n size : ℕ) (t : QTy) (f : Typed) (es : Nodes) (pushed fresh : ℕ)
    → IsPlacement g.code g.place → named f ≡ None → yield_of (unit_in g) f ≡ Valued → shape_in g a f ≡ Pointer size → sizes_of a.frame es ≤ 250
    → ExpressionDoes g a f → ArgumentsDo g a es → AllMayBeReached g a n t f es
    → DoesFor g a n Valued (shape_of (unit_in g).types (type_in t)) (plan (unit_in g) (node t (call f es))) (need (node t (call f es))) pushed (expr_code a.frame pushed fresh wanted.Value (node t (call f es)))

-- so it is an expression, where they may be reached for as many steps as are spoken of
abbrev pub ReachingCallsAreExpressions : Type 0
ReachingCallsAreExpressions = (g : World) (a : Active) (size : ℕ) (t : QTy) (f : Typed) (es : Nodes)
    → IsPlacement g.code g.place → named f ≡ None → yield_of (unit_in g) f ≡ Valued → shape_in g a f ≡ Pointer size → sizes_of a.frame es ≤ 250
    → ExpressionDoes g a f → ArgumentsDo g a es → AllMayBeReached g a g.most t f es
    → ExpressionDoes g a (node t (call f es))

-- A function with lines of its own may be reached that may be called so.
abbrev pub LinedFunctionsMayBeReached : Type 0
LinedFunctionsMayBeReached = (g : World) (a : Active) (n : ℕ) (t : QTy) (f : Typed) (es : Nodes) (i : ℕ) (function : FuncTy)
    → IsPlacement g.code g.place → FixedAreLow g → CallsAreOwned g a → 1 ≤ a.spare → is_counted (bare f) ≡ false
    → MayBeCalled g a t (is_fast (bare f)) es n i function → MayBeReached g a n t f es i
