-- Lines in the words of the assembler, and the zero page (docs/MACHINE.md, "Zero page").
use Rattle.std.specs.Prelude.{ℕ, List, [], ◌∷◌, ◌++◌}
use Rattle.c65_mach.specs.declared.rows.Op.{Op}
use Rattle.c65_mach.specs.declared.rows.Mode.TheVariants.{Implied, Accumulator, Immediate, ZeroPage, IndirectY, Indirect, Relative}
use Rattle.c65_code.specs.declared.line.Operand.TheVariants.{Nothing, Byte, Zero, To}
use Rattle.c65_code.specs.declared.line.Callee.TheVariants as callees
use Rattle.c65_code.specs.declared.line.Line.{Line}
use Rattle.c65_code.specs.declared.line.Line.TheVariants.{Do, Call}
use Rattle.c65_code.specs.declared.routine.Routine.{Routine}
use Rattle.c65_code.specs.Segments.{Drafted}

abbrev pub sp : ℕ
sp = 0

abbrev pub sreg : ℕ
sreg = 2

abbrev pub regsave : ℕ
regsave = 4

abbrev pub ptr1 : ℕ
ptr1 = 8

abbrev pub ptr2 : ℕ
ptr2 = 10

abbrev pub ptr3 : ℕ
ptr3 = 12

abbrev pub ptr4 : ℕ
ptr4 = 14

abbrev pub tmp1 : ℕ
tmp1 = 16

abbrev pub tmp2 : ℕ
tmp2 = 17

abbrev pub tmp3 : ℕ
tmp3 = 18

abbrev pub tmp4 : ℕ
tmp4 = 19

abbrev pub regbank : ℕ
regbank = 20

abbrev pub implied : Op → Line
implied op = Do op Implied Nothing

abbrev pub on_a : Op → Line
on_a op = Do op Accumulator Nothing

-- #v
abbrev pub value : Op → ℕ → Line
value op v = Do op Immediate (Byte v)

abbrev pub zero_page : Op → ℕ → Line
zero_page op at = Do op ZeroPage (Zero at)

-- (at),Y
abbrev pub by_y : Op → ℕ → Line
by_y op at = Do op IndirectY (Zero at)

-- (at)
abbrev pub indirect : Op → ℕ → Line
indirect op at = Do op Indirect (Zero at)

abbrev pub branch : Op → ℕ → Line
branch op label = Do op Relative (To label)

abbrev pub call : Routine → Line
call r = Call (callees.Routine r)

-- the draft with lines behind its own
abbrev pub with_lines : Drafted → List Line → Drafted
with_lines draft lines = record draft { lines = draft.lines ++ lines }

-- pieces of lines one behind another
abbrev pub with_all : List Line → List (List Line) → List Line
with_all lines [] = lines
with_all lines (piece ∷ pieces) = with_all (lines ++ piece) pieces

abbrev pub with_pieces : Drafted → List (List Line) → Drafted
with_pieces draft pieces = record draft { lines = with_all draft.lines pieces }
