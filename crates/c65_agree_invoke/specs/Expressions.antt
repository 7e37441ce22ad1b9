-- Calls as expressions, where the bodies of called functions do their work for fewer steps than are spoken of.
use Rattle.std.specs.Prelude.{◌≡◌, ℕ, ◌≤◌, false, None}
use Rattle.c65_ctype.specs.Trees.{QTy, type_in}
use Rattle.c65_csem.specs.Trees.{Typed, node, call, Nodes, Stmt, FuncTy}
use Rattle.c65_meaning.specs.Store.{Pointer}
use Rattle.c65_meaning.specs.Shapes.{shape_of}
use Rattle.c65_code.specs.Moves.{common_of}
use Rattle.c65_code.specs.Placement.{IsPlacement}
use Rattle.c65_genframe.specs.Frames.{Framed}
use Rattle.c65_genframe.specs.Symbols.{numbers_of, function_symbol}
use Rattle.c65_genexpr.specs.Types.{outcome_of, bare}
use Rattle.c65_genexpr.specs.Arguments.{is_fast, is_counted}
use Rattle.c65_genexpr.specs.Calls.{named, library_at, result_code}
use Rattle.c65_agree_state.specs.World.{World, unit_in, setting_in, Active}
use Rattle.c65_agree_state.specs.Exprs.{Valued, yield_of, shape_in, ExpressionDoes}
use Rattle.c65_agree_enter.specs.Entries.{FixedAreLow}
use Rattle.c65_agree_argument.specs.Arguments.{ArgumentsDo}
use Rattle.c65_agree_invoke.specs.Nodes.{sizes_of, IsCallee, BodiesDo, ResultsCome, CallsAreOwned, by_name, gives_in, TargetsMayBeCalled}

-- by name
abbrev pub NamedCallsAreExpressions : Type 0
NamedCallsAreExpressions = (g : World) (a : Active) (i : ℕ) (h : Framed) (needs spare e : ℕ) (function : FuncTy) (body : Stmt) (t s r : QTy) (es : Nodes)
    → IsPlacement g.code g.place → FixedAreLow g → CallsAreOwned g a → 1 ≤ a.spare → a.frame.parts ≡ g.parts
    → library_at a.frame i ≡ None → is_counted (bare (by_name s r i)) ≡ false
    → IsCallee g a.frame i h needs spare e function body (is_fast (bare (by_name s r i))) es → ArgumentsDo g a es
    → BodiesDo g i h needs spare body (shape_of (unit_in g).types (type_in t)) g.most
    → ResultsCome g a (shape_of (unit_in g).types (type_in t)) (common_of (gives_in a.frame t) ((setting_in g).gives (function_symbol (numbers_of g.parts) i).0)) (result_code (outcome_of a.frame (type_in t)))
    → ExpressionDoes g a (node t (call (by_name s r i) es))

-- and through a pointer
abbrev pub PointerCallsAreExpressions : Type 0
PointerCallsAreExpressions = (g : World) (a : Active) (size : ℕ) (t : QTy) (f : Typed) (es : Nodes)
    → IsPlacement g.code g.place → FixedAreLow g → CallsAreOwned g a → 1 ≤ a.spare
    → named f ≡ None → is_counted (bare f) ≡ false → yield_of (unit_in g) f ≡ Valued → shape_in g a f ≡ Pointer size → sizes_of a.frame es ≤ 250
    → ExpressionDoes g a f → ArgumentsDo g a es → TargetsMayBeCalled g a t f es g.most
    → ExpressionDoes g a (node t (call f es))
