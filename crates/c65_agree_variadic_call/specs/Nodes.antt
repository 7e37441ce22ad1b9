-- A call in an expression of a function that takes further arguments (C90 6.3.2.2; docs/MACHINE.md, "Calls").
use Rattle.std.specs.Prelude.{◌≡◌, ℕ, ◌<◌, ◌≤◌, true, IsTrue, Some, None, length, slice_get}
use Rattle.c65_ctype.specs.Trees.{QTy, type_in}
use Rattle.c65_csem.specs.Trees.{Typed, node, call, Nodes, Stmt, FuncTy}
use Rattle.c65_csem_need.specs.Needs.{need}
use Rattle.c65_meaning.specs.Store.{Pointer}
use Rattle.c65_meaning.specs.Shapes.{shape_of, types_of}
use Rattle.c65_meaning.specs.Calls.{accepts}
use Rattle.c65_meaning.specs.Items.{plan}
use Rattle.c65_code.specs.Moves.{common_of}
use Rattle.c65_code.specs.Placement.{IsPlacement}
use Rattle.c65_genframe.specs.Frames.{Framed}
use Rattle.c65_genframe.specs.Symbols.{numbers_of, function_symbol}
use Rattle.c65_genexpr.specs.declared.wanted.Wanted.TheVariants as wanted
use Rattle.c65_genexpr.specs.Types.{outcome_of, bare}
use Rattle.c65_genexpr.specs.Arguments.{is_counted}
use Rattle.c65_genexpr.specs.Calls.{named, library_at, result_code}
use Rattle.c65_genexpr.specs.Code.{expr_code}
use Rattle.c65_agree_state.specs.World.{World, unit_in, setting_in, Active}
use Rattle.c65_agree_state.specs.Exprs.{Valued, yield_of, shape_in, ExpressionDoes}
use Rattle.c65_agree_enter.specs.Entries.{FixedAreLow}
use Rattle.c65_agree_argument.specs.Arguments.{ArgumentsDo}
use Rattle.c65_agree_invoke.specs.Nodes.{sizes_of, ResultsCome, CallsAreOwned, DoesFor, by_name, gives_in}
use Rattle.c65_agree_invoke.specs.Targets.{MayBeReached}
use Rattle.c65_agree_variadic_call.specs.Callees.{IsFurtherCallee, FurtherBodiesDo}

-- By its name it does its work for n steps, where its arguments do theirs and the body of the function does for fewer.
abbrev pub FurtherNamedCallsDo : Type 0
FurtherNamedCallsDo = (g : World) (a : Active) (i : ℕ) (h : Framed) (needs spare e n : ℕ) (function : FuncTy) (body : Stmt) (t s r : QTy) (es : Nodes) (pushed fresh : ℕ)
    → IsPlacement g.code g.place → FixedAreLow g → CallsAreOwned g a → 1 ≤ a.spare → a.frame.parts ≡ g.parts
    → library_at a.frame i ≡ None → is_counted (bare (by_name s r i)) ≡ true → sizes_of a.frame es ≤ 250
    → IsFurtherCallee g a.frame i h needs spare e function body es → ArgumentsDo g a es
    → FurtherBodiesDo g i h needs spare body (shape_of (unit_in g).types (type_in t)) n
    → ResultsCome g a (shape_of (unit_in g).types (type_in t)) (common_of (gives_in a.frame t) ((setting_in g).gives (function_symbol (numbers_of g.parts) i).0)) (result_code (outcome_of a.frame (type_in t)))
    → DoesFor g a n Valued (shape_of (unit_in g).types (type_in t)) (plan (unit_in g) (node t (call (by_name s r i) es))) (need (node t (call (by_name s r i) es))) pushed
    (expr_code a.frame pushed fresh wanted.Value (node t (call (by_name s r i) es)))

-- So it is an expression, where the bodies do theirs for fewer steps than are spoken of.
abbrev pub FurtherNamedCallsAreExpressions : Type 0
FurtherNamedCallsAreExpressions = (g : World) (a : Active) (i : ℕ) (h : Framed) (needs spare e : ℕ) (function : FuncTy) (body : Stmt) (t s r : QTy) (es : Nodes)
    → IsPlacement g.code g.place → FixedAreLow g → CallsAreOwned g a → 1 ≤ a.spare → a.frame.parts ≡ g.parts
    → library_at a.frame i ≡ None → is_counted (bare (by_name s r i)) ≡ true → sizes_of a.frame es ≤ 250
    → IsFurtherCallee g a.frame i h needs spare e function body es → ArgumentsDo g a es
    → FurtherBodiesDo g i h needs spare body (shape_of (unit_in g).types (type_in t)) g.most
    → ResultsCome g a (shape_of (unit_in g).types (type_in t)) (common_of (gives_in a.frame t) ((setting_in g).gives (function_symbol (numbers_of g.parts) i).0)) (result_code (outcome_of a.frame (type_in t)))
    → ExpressionDoes g a (node t (call (by_name s r i) es))

-- ---- through a pointer

-- a function to which the meaning may come so: it has all that such a call asks for
pub record MayBeCalledFurther (g : World) (a : Active) (t : QTy) (es : Nodes) (n i : ℕ) (function : FuncTy) : Type 0 where
  pub body : Stmt
  pub frame : Framed
  pub needs : ℕ
  pub spare : ℕ
  pub end : ℕ
  pub callee : IsFurtherCallee g a.frame i frame needs spare end function body es
  pub bodies : FurtherBodiesDo g i frame needs spare body (shape_of (unit_in g).types (type_in t)) n
  pub comes : ResultsCome g a (shape_of (unit_in g).types (type_in t)) (common_of (gives_in a.frame t) ((setting_in g).gives (function_symbol (numbers_of g.parts) i).0)) (result_code (outcome_of a.frame (type_in t)))
  pub few : i < length g.parts.funcs.items
  pub is_code : IsTrue ((setting_in g).is_function (function_symbol (numbers_of g.parts) i).0)

-- so has each function that fits the call
abbrev pub FurtherTargetsMayBeCalled : World → Active → QTy → Typed → Nodes → ℕ → Type 0
FurtherTargetsMayBeCalled g a t f es n = (i : ℕ) (function : FuncTy) → slice_get (unit_in g).funcs i ≡ Some function → accepts (unit_in g) (bare f) (types_of es) function ≡ true → MayBeCalledFurther g a t es n i function

-- A function that may be called so may be reached.
abbrev pub FurtherFunctionsMayBeReached : Type 0
FurtherFunctionsMayBeReached = (g : World) (a : Active) (n : ℕ) (t : QTy) (f : Typed) (es : Nodes) (i : ℕ) (function : FuncTy)
    → IsPlacement g.code g.place → FixedAreLow g → CallsAreOwned g a → 1 ≤ a.spare → is_counted (bare f) ≡ true → sizes_of a.frame es ≤ 250
    → MayBeCalledFurther g a t es n i function → MayBeReached g a n t f es i

-- Such a call does its work for n steps, where the pointer and the arguments do theirs and the body of each function that fits it does for
-- fewer.
abbrev pub FurtherPointerCallsDo : Type 0
FurtherPointerCallsDo = (g : World) (a : Active) (n size : ℕ) (t : QTy) (f : Typed) (es : Nodes) (pushed fresh : ℕ)
    → IsPlacement g.code g.place → FixedAreLow g → CallsAreOwned g a → 1 ≤ a.spare
    → named f ≡ None → is_counted (bare f) ≡ true → yield_of (unit_in g) f ≡ Valued → shape_in g a f ≡ Pointer size → sizes_of a.frame es ≤ 250
    → ExpressionDoes g a f → ArgumentsDo g a es → FurtherTargetsMayBeCalled g a t f es n
    → DoesFor g a n Valued (shape_of (unit_in g).types (type_in t)) (plan (unit_in g) (node t (call f es))) (need (node t (call f es))) pushed (expr_code a.frame pushed fresh wanted.Value (node t (call f es)))

-- So it is an expression.
abbrev pub FurtherPointerCallsAreExpressions : Type 0
FurtherPointerCallsAreExpressions = (g : World) (a : Active) (size : ℕ) (t : QTy) (f : Typed) (es : Nodes)
    → IsPlacement g.code g.place → FixedAreLow g → CallsAreOwned g a → 1 ≤ a.spare
    → named f ≡ None → is_counted (bare f) ≡ true → yield_of (unit_in g) f ≡ Valued → shape_in g a f ≡ Pointer size → sizes_of a.frame es ≤ 250
    → ExpressionDoes g a f → ArgumentsDo g a es → FurtherTargetsMayBeCalled g a t f es g.most
    → ExpressionDoes g a (node t (call f es))
