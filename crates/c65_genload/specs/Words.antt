-- Lines in the words of the assembler, and the zero page (docs/MACHINE.md, "Zero page").
use Rattle.std.specs.Prelude.{ℕ}
use Rattle.c65_mach.specs.declared.rows.Op.{Op}
use Rattle.c65_mach.specs.declared.rows.Mode.TheVariants.{Implied, Accumulator, Immediate, ZeroPage, IndirectY, Absolute, Relative}
use Rattle.c65_code.specs.declared.line.Sym.{Sym}
use Rattle.c65_code.specs.declared.line.Operand.TheVariants.{Nothing, Zero, At, Low, High, To}
use Rattle.c65_code.specs.declared.line.Line.{Line}
use Rattle.c65_code.specs.declared.line.Line.TheVariants.{Do}

abbrev pub sp : ℕ
sp = 0

abbrev pub sreg : ℕ
sreg = 2

abbrev pub ptr1 : ℕ
ptr1 = 8

abbrev pub ptr3 : ℕ
ptr3 = 12

abbrev pub tmp1 : ℕ
tmp1 = 16

abbrev pub tmp2 : ℕ
tmp2 = 17

abbrev pub regbank : ℕ
regbank = 20

abbrev pub implied : Op → Line
implied op = Do op Implied Nothing

-- A by one bit
abbrev pub shift_a : Op → Line
shift_a op = Do op Accumulator Nothing

abbrev pub zero_page : Op → ℕ → Line
zero_page op at = Do op ZeroPage (Zero at)

-- (at),Y
abbrev pub by_y : Op → ℕ → Line
by_y op at = Do op IndirectY (Zero at)

abbrev pub absolute : Op → Sym → ℕ → Line
absolute op sym offset = Do op Absolute (At sym offset)

abbrev pub branch : Op → ℕ → Line
branch op label = Do op Relative (To label)

abbrev pub low_of : Op → Sym → ℕ → Line
low_of op sym offset = Do op Immediate (Low sym offset)

abbrev pub high_of : Op → Sym → ℕ → Line
high_of op sym offset = Do op Immediate (High sym offset)
