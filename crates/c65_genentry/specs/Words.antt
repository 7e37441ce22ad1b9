-- Lines in the words of the assembler, and the zero page (docs/MACHINE.md, "Zero page").
use Rattle.std.specs.Prelude.{ℕ, ◌+◌, List, ◌++◌}
use Rattle.c65_mach.specs.declared.rows.Op.{Op}
use Rattle.c65_mach.specs.declared.rows.Mode.TheVariants.{Implied, ZeroPage, IndirectY, Absolute, Relative, Immediate}
use Rattle.c65_code.specs.declared.line.Line.{Line}
use Rattle.c65_code.specs.declared.line.Line.TheVariants.{Do}
use Rattle.c65_code.specs.declared.line.Operand.TheVariants.{Nothing, Zero, To, Low, High}
use Rattle.c65_code.specs.declared.line.Sym.{Sym}
use Rattle.c65_code.specs.Segments.{Drafted}

abbrev pub sp : ℕ
sp = 0

abbrev pub sreg : ℕ
sreg = 2

abbrev pub ptr1 : ℕ
ptr1 = 8

abbrev pub ptr2 : ℕ
ptr2 = 10

abbrev pub tmp1 : ℕ
tmp1 = 16

abbrev pub tmp2 : ℕ
tmp2 = 17

abbrev pub tmp3 : ℕ
tmp3 = 18

abbrev pub tmp4 : ℕ
tmp4 = 19

abbrev pub regbank : ℕ
regbank = 20

abbrev pub implied : Op → Line
implied op = Do op Implied Nothing

abbrev pub zero_page : Op → ℕ → Line
zero_page op byte = Do op ZeroPage (Zero byte)

-- through a pointer in the zero page, by Y
abbrev pub by_y : Op → ℕ → Line
by_y op byte = Do op IndirectY (Zero byte)

abbrev pub branch : Op → ℕ → Line
branch op label = Do op Relative (To label)

abbrev pub jump : Op → ℕ → Line
jump op label = Do op Absolute (To label)

abbrev pub low_of : Op → Sym → ℕ → Line
low_of op sym at = Do op Immediate (Low sym at)

abbrev pub high_of : Op → Sym → ℕ → Line
high_of op sym at = Do op Immediate (High sym at)

-- lines behind those of a draft, which gave so many labels more
abbrev pub with_code : ℕ → List Line → Drafted → Drafted
with_code n lines draft = record draft { lines = draft.lines ++ lines; labels = draft.labels + n }
