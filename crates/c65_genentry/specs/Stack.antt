-- The software stack's pointer raised and lowered (docs/MACHINE.md, "Routines").
use Rattle.std.specs.Prelude.{ℕ, zero, suc, ◌/◌, ◌%◌, ◌==◌, if◌then◌else◌, List, [], ◌∷◌, ◌++◌, Option, None, Some}
use Rattle.c65_mach.specs.declared.rows.Op.TheVariants.{Ldy}
use Rattle.c65_code.specs.declared.line.Line.{Line}
use Rattle.c65_code.specs.declared.routine.Routine.TheVariants.{IncSp, DecSp, AddYSp, SubYSp}
use Rattle.c65_code.specs.declared.routine.Count.{Count}
use Rattle.c65_code.specs.declared.routine.Count.TheVariants.{One, Two}
use Rattle.c65_genwide.specs.Lines.{value, call}

-- for one byte and two there are routines that take no Y; the others, to 8, are longer than what they save
abbrev pub count_of : ℕ → Option Count
count_of (suc zero) = Some One
count_of (suc (suc zero)) = Some Two
count_of _ = None

abbrev pub raise_by : ℕ → Option Count → List Line
raise_by n (Some count) = call (IncSp count) ∷ []
raise_by n None = value Ldy n ∷ call AddYSp ∷ []

abbrev pub lower_by : ℕ → Option Count → List Line
lower_by n (Some count) = call (DecSp count) ∷ []
lower_by n None = value Ldy n ∷ call SubYSp ∷ []

-- at most 255 bytes
abbrev pub small_raise : ℕ → List Line
small_raise n = if n == 0 then [] else raise_by n (count_of n)

abbrev pub small_lower : ℕ → List Line
small_lower n = if n == 0 then [] else lower_by n (count_of n)

abbrev pub repeated : ℕ → List Line → List Line
repeated zero lines = []
repeated (suc n) lines = repeated n lines ++ lines

abbrev pub raise_code : ℕ → List Line
raise_code n = repeated (n / 255) (small_raise 255) ++ small_raise (n % 255)

abbrev pub lower_code : ℕ → List Line
lower_code n = repeated (n / 255) (small_lower 255) ++ small_lower (n % 255)
