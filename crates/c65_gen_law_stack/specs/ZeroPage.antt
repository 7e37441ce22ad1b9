-- Which bytes of the zero page an operation may write.
use Rattle.std.specs.Prelude.{ℕ, Bool, true, false}
use Rattle.c65_mach.specs.declared.rows.Mode.{Mode}
use Rattle.c65_mach.specs.declared.rows.Mode.TheVariants.{ZeroPage, ZeroPageX, ZeroPageY}
use Rattle.c65_code.specs.declared.line.Operand.{Operand}
use Rattle.c65_code.specs.declared.line.Operand.TheVariants.{Zero}

abbrev pub is_one_of : (ℕ → Bool) → Operand → Bool
is_one_of free (Zero i) = free i
is_one_of _ _ = false

-- what an operation writes of the zero page is one of these bytes
abbrev pub lies_within : (ℕ → Bool) → Mode → Operand → Bool
lies_within free ZeroPage operand = is_one_of free operand
lies_within free ZeroPageX operand = false
lies_within free ZeroPageY operand = false
lies_within free _ operand = true
