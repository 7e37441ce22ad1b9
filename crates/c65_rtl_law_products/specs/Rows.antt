-- That the lines of the product of words do what its row says (C90 6.3.5).
use Rattle.std.specs.Prelude.{◌≡◌}
use Rattle.c65_code.specs.declared.routine.Routine.{Routine}
use Rattle.c65_code.specs.declared.routine.Routine.TheVariants as routines
use Rattle.c65_code.specs.declared.routine.TosOp.TheVariants as tos
use Rattle.c65_code.specs.declared.routine.Width.TheVariants.{Ax}
use Rattle.c65_code.specs.RawMachine.{RawSetting, MeetsRow}
use Rattle.c65_rtl.specs.Routines.{lines_of}

-- the routine's lines stand under its number
abbrev pub Holds : RawSetting → Routine → Type 0
Holds s r = s.lines (s.routine r) ≡ lines_of r

-- wherever those of `tosmulax` do, and those of `popax`, which it calls
abbrev pub WordsAreMultiplied : Type 0
WordsAreMultiplied = (s : RawSetting) → Holds s (routines.Tos tos.Mul Ax) → Holds s routines.PopAx → MeetsRow s (routines.Tos tos.Mul Ax)
