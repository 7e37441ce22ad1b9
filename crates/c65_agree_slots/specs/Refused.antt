-- Calls that have no meaning (C90 6.3.2.2).
use Rattle.std.specs.Prelude.{◌≡◌, ℕ, false, Some, slice_get}
use Rattle.c65_ctype.specs.Trees.{QTy, type_in}
use Rattle.c65_csem.specs.Trees.{node, call, Nodes, FuncTy}
use Rattle.c65_meaning.specs.Shapes.{types_of}
use Rattle.c65_meaning.specs.Calls.{accepts}
use Rattle.c65_code.specs.Placement.{IsPlacement}
use Rattle.c65_agree_state.specs.World.{World, unit_in, Active}
use Rattle.c65_agree_state.specs.Exprs.{ExpressionDoes}
use Rattle.c65_agree_argument.specs.Arguments.{ArgumentsDo}
use Rattle.c65_agree_invoke.specs.Nodes.{by_name}

-- A call by the name of a function which the meaning does not accept is undefined behind its arguments: where their lines do their work, its
-- own do, whatever they are.
abbrev pub RefusedCallsAreExpressions : Type 0
RefusedCallsAreExpressions = (g : World) (a : Active) (i : ℕ) (t s r : QTy) (es : Nodes) → IsPlacement g.code g.place → ArgumentsDo g a es
    → ((function : FuncTy) → slice_get (unit_in g).funcs i ≡ Some function → accepts (unit_in g) (type_in s) (types_of es) function ≡ false)
    → ExpressionDoes g a (node t (call (by_name s r i) es))
