-- The place behind the further arguments of the active call, which `va_start` gives (C90 7.8.1.1).
use Rattle.std.specs.Prelude.{◌≡◌, ℕ, ◌+◌, ◌≤◌, true, ◌∷◌}
use Rattle.c65_ctype.specs.Trees.{QTy, type_in}
use Rattle.c65_csem.specs.Trees.{node, rest}
use Rattle.c65_meaning.specs.Store.{Pointer}
use Rattle.c65_meaning.specs.Items.{Reach}
use Rattle.c65_meaning.specs.Shapes.{shape_of}
use Rattle.c65_code.specs.Placement.{IsPlacement, stack_end}
use Rattle.c65_genexpr.specs.Places.{rest_code}
use Rattle.c65_agree_state.specs.World.{World, unit_in, Active}
use Rattle.c65_agree_state.specs.Joins.{call_bytes}
use Rattle.c65_agree_state.specs.Exprs.{Valued, Does, ExpressionDoes, TestDoes}

-- the call is of a function that takes further arguments, and lies on the software stack with all that it has there
pub record HasFurther (a : Active) : Type 0 where
  pub further : a.frame.variadic ≡ true
  pub counts : 1 ≤ a.frame.soft
  pub high : a.base + call_bytes a ≤ stack_end

-- The lines that reckon the place from the byte at the base leave it in AX.
abbrev pub RestsDo : Type 0
RestsDo = (g : World) (a : Active) (size needs pushed : ℕ) → IsPlacement g.code g.place → HasFurther a → Does g a Valued (Pointer size) (λ k. Reach ∷ k) needs pushed (rest_code a.frame pushed)

-- So they do the work of the tree, and of a test of it.
abbrev pub RestsAreExpressions : Type 0
RestsAreExpressions = (g : World) (a : Active) (size : ℕ) (t : QTy) → IsPlacement g.code g.place → HasFurther a → shape_of (unit_in g).types (type_in t) ≡ Pointer size → ExpressionDoes g a (node t rest) × TestDoes g a (node t rest)
