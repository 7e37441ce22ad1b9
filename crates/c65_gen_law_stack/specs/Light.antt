-- Which lines leave ptr2, where a word may wait (docs/MACHINE.md, "Zero page" and "Routines").
use Rattle.std.specs.Prelude.{◌≡◌, ℕ, ◌||◌, not, nat_lt, nat_le, Bool, true, IsTrue}
use Rattle.std.specs.List.{list_all}
use Rattle.c65_csem.specs.Trees.{Typed}
use Rattle.c65_mach.specs.declared.rows.Mode.{Mode}
use Rattle.c65_mach.specs.Step.{kind_of}
use Rattle.c65_code.specs.declared.parts.Part.TheVariants.{Zp}
use Rattle.c65_code.specs.declared.line.Operand.{Operand}
use Rattle.c65_code.specs.declared.line.Line.{Line}
use Rattle.c65_code.specs.declared.line.Line.TheVariants.{Label, Do, Call}
use Rattle.c65_code.specs.Parts.{has_part}
use Rattle.c65_code.specs.Access.{is_written, callee_sets}
use Rattle.c65_code.specs.LineState.{Place, State, zero_word}
use Rattle.c65_code.specs.Placement.{Setting}
use Rattle.c65_code.specs.Moves.{Moves}
use Rattle.c65_code.specs.Forms.{form_of}
use Rattle.c65_genframe.specs.Frames.{Framed}
use Rattle.c65_genexpr.specs.declared.wanted.Wanted.TheVariants.{Value}
use Rattle.c65_genexpr.specs.Operating.{is_light}
use Rattle.c65_genexpr.specs.Code.{expr_code}
use Rattle.c65_gen_law_stack.specs.Going.{IsOwn}
use Rattle.c65_gen_law_stack.specs.ZeroPage.{lies_within}

-- a byte of the zero page that is none of ptr2
abbrev pub is_apart : ℕ → Bool
is_apart i = nat_lt i 10 || nat_le 12 i

-- what an operation writes lies outside ptr2
abbrev pub lies_beside : Mode → Operand → Bool
lies_beside = lies_within is_apart

-- a line that neither writes ptr2 nor calls what may change it
abbrev pub leaves_ptr2 : Line → Bool
leaves_ptr2 (Label l) = true
leaves_ptr2 (Do op mode operand) = not (is_written (kind_of op)) || lies_beside mode operand
leaves_ptr2 (Call callee) = not (has_part (callee_sets callee) (Zp 10) || has_part (callee_sets callee) (Zp 11))

-- the lines of a light expression leave the word that waits there
abbrev pub LightLinesLeavePtr2 : Type 0
LightLinesLeavePtr2 = (f : Framed) (pushed lo : ℕ) (e : Typed) → IsTrue (is_light f pushed e) → IsTrue (list_all leaves_ptr2 (expr_code f pushed lo Value e))

-- and a move by such a line leaves it
abbrev pub MovesLeavePtr2 : Type 0
MovesLeavePtr2 = (s : Setting) (line : Line) (p q : Place) (t u : State) → IsTrue (leaves_ptr2 line) → IsOwn (form_of line) → Moves s line p t q u → zero_word u 10 ≡ zero_word t 10
