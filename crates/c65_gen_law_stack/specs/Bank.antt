-- Which lines leave regbank alone (docs/MACHINE.md, "Zero page" and "Calls").
use Rattle.std.specs.Prelude.{◌≡◌, ℕ, ◌||◌, not, nat_lt, nat_le, Bool, true, false, IsTrue, Some, Ok}
use Rattle.std.specs.List.{list_all}
use Rattle.c65_csem.specs.declared.items.Parts.{Parts}
use Rattle.c65_csem.specs.Trees.{Stmt, FuncTy}
use Rattle.c65_mach.specs.declared.rows.Mode.{Mode}
use Rattle.c65_mach.specs.Step.{kind_of}
use Rattle.c65_code.specs.declared.parts.RegSet.{RegSet}
use Rattle.c65_code.specs.declared.line.Operand.{Operand}
use Rattle.c65_code.specs.declared.line.Callee.TheVariants as callees
use Rattle.c65_code.specs.declared.line.Line.{Line}
use Rattle.c65_code.specs.declared.line.Line.TheVariants.{Do, Call}
use Rattle.c65_code.specs.declared.routine.Routine.TheVariants.{RestRegs}
use Rattle.c65_code.specs.Access.{is_written}
use Rattle.c65_code.specs.LineState.{Place, State}
use Rattle.c65_code.specs.Placement.{Setting}
use Rattle.c65_code.specs.Rows.{bank_of}
use Rattle.c65_code.specs.Moves.{Moves}
use Rattle.c65_code.specs.Forms.{form_of}
use Rattle.c65_genframe.specs.declared.modes.Modes.{Modes}
use Rattle.c65_genframe.specs.Frames.{frame_of, Framed}
use Rattle.c65_genstmt.specs.Functions.{no_lines, with_function}
use Rattle.c65_gen_law_stack.specs.Going.{IsOwn}
use Rattle.c65_gen_law_stack.specs.ZeroPage.{lies_within}

-- a byte of the zero page that is none of regbank
abbrev pub is_outside : ℕ → Bool
is_outside i = nat_lt i 20 || nat_le 26 i

-- what an operation writes lies outside regbank
abbrev pub lies_outside : Mode → Operand → Bool
lies_outside = lies_within is_outside

-- a line that does not write regbank
abbrev pub leaves_bank : Line → Bool
leaves_bank (Do op mode operand) = not (is_written (kind_of op)) || lies_outside mode operand
leaves_bank (Call (callees.Routine RestRegs)) = false
leaves_bank _ = true

-- where a function takes nothing of regbank, and so does not save it, no line of it writes any of it
abbrev pub FunctionsLeaveRegbank : Type 0
FunctionsLeaveRegbank = (parts : Parts) (modes : Modes) (g : FuncTy) (body : Stmt) (f : Framed) (is_main : Bool) (out : RegSet)
    → frame_of parts modes g ≡ Ok f → f.bank ≡ 0 → IsTrue (list_all leaves_bank (with_function f is_main (Some body) (no_lines out)).lines)

-- and a move by such a line leaves regbank as it was
abbrev pub MovesLeaveRegbank : Type 0
MovesLeaveRegbank = (s : Setting) (line : Line) (p q : Place) (t u : State) → IsTrue (leaves_bank line) → IsOwn (form_of line) → Moves s line p t q u → bank_of u ≡ bank_of t
