-- A function that takes further arguments, and what a call in an expression asks of it (C90 6.3.2.2, 6.7.1; docs/MACHINE.md, "Calls").
use Rattle.std.specs.Prelude.{◌≡◌, ℕ, ◌+◌, ◌*◌, ◌<◌, ◌≤◌, true, List, [], ◌∷◌, Some, None, slice_get}
use Rattle.c65_ctype.specs.Sizes.{size_of}
use Rattle.c65_csem.specs.Trees.{Nodes, none, some, Stmt, UnitTy, FuncTy}
use Rattle.c65_meaning.specs.Store.{Shape, size_in}
use Rattle.c65_meaning.specs.Items.{Item}
use Rattle.c65_meaning.specs.Shapes.{bare_type, types_of}
use Rattle.c65_meaning.specs.After.{is_among}
use Rattle.c65_meaning.specs.Calls.{is_variadic}
use Rattle.c65_meaning.specs.Store.{Value}
use Rattle.c65_code.specs.Placement.{program_start, stack_end}
use Rattle.c65_code.specs.Steady.{HasLines}
use Rattle.c65_genframe.specs.Frames.{Framed, saved_bytes}
use Rattle.c65_genframe.specs.Symbols.{numbers_of, function_symbol}
use Rattle.c65_genexpr.specs.Arguments.{passed_size}
use Rattle.c65_agree_store.specs.Stands.{At}
use Rattle.c65_agree_state.specs.World.{World, unit_in, setting_in, Active}
use Rattle.c65_agree_state.specs.Joins.{spot_of, call_bytes}
use Rattle.c65_agree_enter.specs.Params.{shape_in, AreDistinct}
use Rattle.c65_agree_enter.specs.Entries.{HaveHomes}
use Rattle.c65_agree_call.specs.Calls.{cost_of, HasEnds, BodyDoes}
use Rattle.c65_agree_registers.specs.Checks.{asked_by}
use Rattle.c65_agree_registers.specs.Entries.{HasMoves}
use Rattle.c65_agree_argument.specs.Passed.{IsTakenAt}
use Rattle.c65_agree_variadic.specs.Frames.{IsFurtherFrame}

-- the bytes of the first arguments, one for each of these parameters
abbrev pub named_sizes : Framed → List ℕ → Nodes → ℕ
named_sizes f [] es = 0
named_sizes f (i ∷ is) none = 0
named_sizes f (i ∷ is) (some e es) = passed_size f e + named_sizes f is es

-- those behind them are passed by the bytes of their types
abbrev pub AreWhole : UnitTy → Framed → Nodes → Type 0
AreWhole u f none = Unit {0}
AreWhole u f (some e es) = (passed_size f e ≡ size_of u.types (bare_type e)) × AreWhole u f es

-- The frame h takes each parameter from where the argument comes that a function with the frame f passes, but for the further ones: one
-- below another, down to this offset.
abbrev pub AreTakenAt : UnitTy → Framed → Framed → ℕ → List ℕ → Nodes → Type 0
AreTakenAt u f h at [] es = AreWhole u f es
AreTakenAt u f h at (i ∷ is) none = ⊥
AreTakenAt u f h at (i ∷ is) (some e es) = IsTakenAt u h i (at + named_sizes f is es) × (size_in (shape_in u i) ≤ passed_size f e) × AreTakenAt u f h at is es

-- a call of the function i with this frame, with whatever further arguments
pub record IsCallingFurther (g : World) (i : ℕ) (h : Framed) (spare : ℕ) (a : Active) : Type 0 where
  pub func : a.func ≡ i
  pub symbol : a.symbol ≡ (function_symbol (numbers_of g.parts) i).0
  pub frame : a.frame ≡ h
  pub spare_bytes : a.spare ≡ spare

-- wherever such a call lies, the parameters have their homes in it, above the further arguments
pub record HasHomesAbove (g : World) (a : Active) (is : List ℕ) : Type 0 where
  pub homes : HaveHomes g a is
  pub above : (i at : ℕ) → is_among is i ≡ true → spot_of g a i ≡ At at → a.base + (a.frame.soft + (saved_bytes a.frame.bank + a.raised)) ≤ at

-- The function i has a body and lines of its own, and takes these arguments of a function with the frame f, some of them as further ones.
-- Its costs in the source are enough for what it takes of the software stack, and for what its entry asks where it checks the stacks.
pub record IsFurtherCallee (g : World) (f : Framed) (i : ℕ) (h : Framed) (needs spare e : ℕ) (function : FuncTy) (body : Stmt) (es : Nodes) : Type 0 where
  pub own : (setting_in g).library (function_symbol (numbers_of g.parts) i).0 ≡ None
  pub lines : HasLines ((setting_in g).lines (function_symbol (numbers_of g.parts) i).0)
  pub ends : (a : Active) → IsCallingFurther g i h spare a → HasEnds g a e
  pub is_function : slice_get (unit_in g).funcs i ≡ Some function
  pub has_body : function.body ≡ Some body
  pub further_too : is_variadic function.ty ≡ true
  pub framed : IsFurtherFrame h
  pub has_moves : HasMoves h
  pub distinct : AreDistinct function.params
  pub lies : (a : Active) → IsCallingFurther g i h spare a → program_start ≤ a.base → a.base + call_bytes a ≤ stack_end → HasHomesAbove g a function.params
  pub takes : AreTakenAt (unit_in g) f h (h.soft + saved_bytes h.bank) function.params es
  pub stacked : h.stacked ≡ named_sizes f function.params es
  pub small : h.soft ≤ 1025
  pub costs : h.soft + saved_bytes h.bank + 8 * needs + spare ≤ cost_of (unit_in g) (types_of es) body
  pub asks : asked_by h.check ≤ cost_of (unit_in g) (types_of es) body

-- its body does its work in each of its calls that are on the software stack with all that they have there, for less than n steps
abbrev pub FurtherBodiesDo : World → ℕ → Framed → ℕ → ℕ → Stmt → Shape → ℕ → Type 0
FurtherBodiesDo g i h needs spare body result n = (a : Active) (below : List Item) (vs : List Value) (j v : ℕ) → IsCallingFurther g i h spare a → a.base + call_bytes a ≤ stack_end → j < n → 2600 ≤ v → BodyDoes g a needs body result below vs j v
