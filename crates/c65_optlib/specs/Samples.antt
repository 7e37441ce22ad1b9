-- What the rules that open calls make of a call, and calls that they leave.
use Rattle.std.specs.Prelude.{ℕ, List, [], ◌∷◌, Option, Some}
use Rattle.c65_base.specs.declared.library.Library.{Library}
use Rattle.c65_mach.specs.declared.rows.Op.TheVariants as ops
use Rattle.c65_mach.specs.declared.rows.Mode.TheVariants.{Immediate}
use Rattle.c65_code.specs.declared.parts.RegSet.{RegSet}
use Rattle.c65_code.specs.declared.routine.Routine.{Routine}
use Rattle.c65_code.specs.declared.routine.Routine.TheVariants as routines
use Rattle.c65_code.specs.declared.line.Operand.TheVariants.{Byte, Low, High}
use Rattle.c65_code.specs.declared.line.Line.{Line}
use Rattle.c65_code.specs.declared.line.Line.TheVariants.{Do}
use Rattle.c65_code.specs.declared.line.Sym.{Sym}
use Rattle.c65_code.specs.Effects.{ax, eax}
use Rattle.c65_code.specs.Parts.{no_parts, all_parts}
use Rattle.c65_know.specs.Known.{annotated}
use Rattle.c65_pass.specs.Rewriting.{Rewriting}
use Rattle.c65_pass.specs.Rules.{match_at}
use Rattle.c65_pass.specs.StackRules.{call_of}

-- what is made of a call, where these parts are live after it
abbrev pub made : RegSet → Routine → Option Rewriting
made live r = match_at 39 [] (annotated (call_of r ∷ []) no_parts) (record { after = live ∷ [] }) 0

-- where A and X are live, where sreg is too, and where all parts are
abbrev pub made_given : Routine → Option Rewriting
made_given = made ax

abbrev pub made_long : Routine → Option Rewriting
made_long = made eax

abbrev pub made_live : Routine → Option Rewriting
made_live = made all_parts

abbrev pub replacing : List Line → Option Rewriting
replacing lines = Some (record { at = 0; count = 1; lines = lines })

-- the literals "abc", "" and "a\0b" under the symbols 3, 5 and 7
abbrev pub texts : List (Sym × List ℕ)
texts = (record { 0 = 3 }, 97 ∷ 98 ∷ 99 ∷ 0 ∷ []) ∷ (record { 0 = 5 }, 0 ∷ []) ∷ (record { 0 = 7 }, 97 ∷ 0 ∷ 98 ∷ 0 ∷ []) ∷ []

-- what is made of two loads and a call, where these parts are live after the call
abbrev pub made_known : RegSet → Line → Line → Library → Option Rewriting
made_known live one other f = match_at 40 texts (annotated (one ∷ other ∷ call_of (routines.Library f) ∷ []) no_parts) (record { after = no_parts ∷ no_parts ∷ live ∷ [] }) 0

-- a byte loaded in A or X, and the halves of the address so far behind a symbol
abbrev pub a_is : ℕ → Line
a_is v = Do ops.Lda Immediate (Byte v)

abbrev pub x_is : ℕ → Line
x_is v = Do ops.Ldx Immediate (Byte v)

abbrev pub a_at : ℕ → ℕ → Line
a_at s o = Do ops.Lda Immediate (Low (record { 0 = s }) o)

abbrev pub x_at : ℕ → ℕ → Line
x_at s o = Do ops.Ldx Immediate (High (record { 0 = s }) o)

abbrev pub replacing_three : List Line → Option Rewriting
replacing_three lines = Some (record { at = 0; count = 3; lines = lines })
