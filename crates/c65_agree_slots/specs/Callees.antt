-- A function whose frame takes the arguments of a call may be called with them.
use Rattle.std.specs.Prelude.{◌≡◌, ℕ, ◌+◌, ◌*◌, ◌≤◌, not, Bool, false, Ok, Some, None, slice_get}
use Rattle.c65_csem.specs.Statements.{IsDistinct}
use Rattle.c65_csem.specs.Trees.{Nodes, Stmt, FuncTy}
use Rattle.c65_meaning.specs.Shapes.{types_of}
use Rattle.c65_meaning.specs.Calls.{is_variadic}
use Rattle.c65_code.specs.Placement.{program_start, stack_end}
use Rattle.c65_code.specs.Steady.{HasLines}
use Rattle.c65_genframe.specs.Frames.{Framed, takes_stack, has_prototype, frame_of, saved_bytes}
use Rattle.c65_genframe.specs.Symbols.{numbers_of, function_symbol}
use Rattle.c65_genexpr.specs.Arguments.{passed_of}
use Rattle.c65_agree_state.specs.World.{World, unit_in, setting_in, Active}
use Rattle.c65_agree_state.specs.Joins.{call_bytes}
use Rattle.c65_agree_registers.specs.Checks.{asked_by}
use Rattle.c65_agree_enter.specs.Entries.{HaveHomes}
use Rattle.c65_agree_call.specs.Calls.{cost_of, HasEnds}
use Rattle.c65_agree_argument.specs.Passed.{entering}
use Rattle.c65_agree_invoke.specs.Nodes.{IsCalling, IsCallee}
use Rattle.c65_agree_slots.specs.Slots.{AreOfSize}

-- what a program gives of the function i with the frame h: it has lines of its own and takes no further arguments, and its costs in the
-- source are enough for what it takes of the software stack, and for what its entry asks where it checks the stacks
pub record IsFunction (g : World) (f : Framed) (i : ℕ) (h : Framed) (needs spare e : ℕ) (function : FuncTy) (body : Stmt) (es : Nodes) : Type 0 where
  pub own : (setting_in g).library (function_symbol (numbers_of g.parts) i).0 ≡ None
  pub lines : HasLines ((setting_in g).lines (function_symbol (numbers_of g.parts) i).0)
  pub ends : (a : Active) → IsCalling g i h spare a → HasEnds g a e
  pub is_function : slice_get (unit_in g).funcs i ≡ Some function
  pub has_body : function.body ≡ Some body
  pub all_named : is_variadic function.ty ≡ false
  pub fixed : h.variadic ≡ false
  pub distinct : IsDistinct function.params
  pub framed : frame_of g.parts g.modes function ≡ Ok h
  pub homes : (a : Active) → IsCalling g i h spare a → program_start ≤ a.base → a.base + call_bytes a ≤ stack_end → HaveHomes g a function.params
  pub small : h.soft ≤ 1025
  pub short : h.stacked ≤ 1024
  pub costs : h.soft + (saved_bytes h.bank + entering h.last (passed_of f (not (takes_stack function.ty)) es).last) + 8 * needs + spare ≤ cost_of (unit_in g) (types_of es) body
  pub asks : asked_by h.check ≤ cost_of (unit_in g) (types_of es) body

-- With arguments of the sizes of its parameters, of which the last one is in registers where the function takes it there.
abbrev pub FunctionsMayBeCalled : Type 0
FunctionsMayBeCalled = (g : World) (f : Framed) (i : ℕ) (h : Framed) (needs spare e : ℕ) (function : FuncTy) (body : Stmt) (fast : Bool) (es : Nodes)
    → IsFunction g f i h needs spare e function body es → AreOfSize g.parts (has_prototype function.ty) f function.params es → fast ≡ not (takes_stack function.ty)
    → IsCallee g f i h needs spare e function body fast es
