-- The registers in which values are passed and come back (docs/MACHINE.md, "Calls").
use Rattle.std.specs.Prelude.{ℕ, zero, suc}
use Rattle.c65_code.specs.declared.parts.RegSet.{RegSet}
use Rattle.c65_code.specs.Parts.{no_parts}
use Rattle.c65_code.specs.Effects.{only_a, ax, eax}

-- A, A and X, or these with sreg, by the number of bytes
abbrev pub registers : ℕ → RegSet
registers zero = no_parts
registers (suc zero) = only_a
registers (suc (suc zero)) = ax
registers (suc (suc (suc n))) = eax
