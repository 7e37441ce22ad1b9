-- That the lines of the quotients and remainders of words do what their rows say (C90 6.3.5).
use Rattle.std.specs.Prelude.{◌≡◌}
use Rattle.c65_code.specs.declared.routine.Routine.{Routine}
use Rattle.c65_code.specs.declared.routine.Routine.TheVariants as routines
use Rattle.c65_code.specs.declared.routine.TosOp.{TosOp}
use Rattle.c65_code.specs.declared.routine.TosOp.TheVariants as tos
use Rattle.c65_code.specs.declared.routine.Width.TheVariants.{Ax}
use Rattle.c65_code.specs.RawMachine.{RawSetting, MeetsRow}
use Rattle.c65_rtl.specs.Routines.{lines_of}

-- the routine's lines stand under its number
abbrev pub Holds : RawSetting → Routine → Type 0
Holds s r = s.lines (s.routine r) ≡ lines_of r

-- wherever those of the operator do, and those of `popax`, which it calls
abbrev pub IsMet : TosOp → Type 0
IsMet op = (s : RawSetting) → Holds s (routines.Tos op Ax) → Holds s routines.PopAx → MeetsRow s (routines.Tos op Ax)

-- a quotient's routine calls that of the remainder
abbrev pub IsMetBy : TosOp → TosOp → Type 0
IsMetBy op other = (s : RawSetting) → Holds s (routines.Tos op Ax) → Holds s (routines.Tos other Ax) → Holds s routines.PopAx → MeetsRow s (routines.Tos op Ax)

-- `tosudivax` and `tosumodax`
abbrev pub WordsAreDivided : Type 0
WordsAreDivided = IsMetBy tos.UDiv tos.UMod × IsMet tos.UMod

-- `tosdivax` and `tosmodax`
abbrev pub SignedWordsAreDivided : Type 0
SignedWordsAreDivided = IsMetBy tos.Div tos.Mod × IsMet tos.Mod
