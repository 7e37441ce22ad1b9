-- The row at pc is done and answers its cycles. Where the byte has no row, there is no answer, and nothing is done.
use Rattle.std.specs.Prelude.{◌≡◌, ℕ, Option, Some, None}
use Rattle.c65_base.specs.declared.options.Cpu.{Cpu}
use Rattle.c65_base.specs.declared.options.Cpu.TheVariants.{Nmos, Cmos}
use Rattle.c65_mach.specs.declared.rows.Row.{Row}
use Rattle.c65_mach.specs.State.{State}
use Rattle.c65_mach.specs.Step.{done, cycles_of}

abbrev pub Advances : Option Row → State → State → Option ℕ → Type 0
Advances None old new result = (new ≡ old) × (result ≡ None)
Advances (Some row) old new result = (new ≡ done row old) × (result ≡ Some (cycles_of row old))

-- a row that the 65C02 adds
abbrev pub added : Cpu → Row → Option Row
added Nmos row = None
added Cmos row = Some row
